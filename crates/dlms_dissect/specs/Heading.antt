-- The head of a frame (IEC 62056-46, 6.4.1).
use Rattle.std.specs.Prelude.{◌==◌, not, length}
use Rattle.dlms_frame.specs.Frame.{Parts, frame_len}
use Rattle.dlms_dissect.specs.declared.heading.Heading.{Heading}

-- all that a frame says but its information
abbrev pub heading_of : Parts → Heading
heading_of f = record {
  segmented = f.segmented;
  dest = f.dest;
  src = f.src;
  control = f.control;
  has_information = not (length f.info == 0);
  len = frame_len f;
}
