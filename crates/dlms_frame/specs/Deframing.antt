-- How a deframer is seen.
use Rattle.std.specs.Prelude.{ℕ, ◌+◌, ◌-◌, ◌≤◌, List, length, take, drop, Option, Some, None, option_map}
use Rattle.dlms_frame.specs.Frame.{Parts, IsFrame}
use Rattle.dlms_frame.specs.Stream.{Kept}
use Rattle.dlms_frame.specs.declared.deframer.Found.{Found}
use Rattle.dlms_frame.specs.declared.deframer.Deframer.TheInside.{Inside}

-- the frame at the end of these bytes: its information is followed by two bytes of check and a flag
abbrev pub parts_in : List ℕ → Found → Parts
parts_in bytes f = record {
  segmented = f.segmented;
  dest = f.dest;
  src = f.src;
  control = f.control;
  info = take f.count (drop (length bytes - 3 - f.count) bytes);
}

-- of a frame that has ended only its last flag is kept
abbrev pub left_of : List ℕ → Option Found → List ℕ
left_of bytes None = bytes
left_of bytes (Some f) = drop (length bytes - 1) bytes

abbrev pub kept_of : Inside → Kept
kept_of d = record {
  bytes = left_of d.window d.found;
  frame = option_map (parts_in d.window) d.found;
}

-- a frame is at the end of these bytes, or they are no more than a frame has
abbrev pub EndsIn : List ℕ → Option Found → Type 0
EndsIn bytes None = length bytes ≤ 2048
EndsIn bytes (Some f) = (length bytes ≤ 3072) × (f.count + 3 ≤ length bytes)
    × IsFrame (parts_in bytes f)

abbrev pub IsInOrder : Inside → Type 0
IsInOrder d = EndsIn d.window d.found
