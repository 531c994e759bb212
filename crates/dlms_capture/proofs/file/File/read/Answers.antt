use Rattle.std.proofs.Common.{◌+◌, ◌++◌, [], ◌∷◌, drop, refl, sym, ap, ◌∙◌, arith}
use Rattle.dlms_capture.specs.Captured.{captured_of}
use Rattle.dlms_capture.specs.PcapngFormat.{interface, packet, other}
use Rattle.dlms_capture.specs.Reading.{AwaitsMemory, passes, packet_in, reading_of}
use Rattle.dlms_capture.proofs.Leads.{on_err}
use Rattle.dlms_capture.proofs.Steps.{at, in_kept, of_content, shorter}
use Rattle.dlms_capture.proofs.file.File.read.Goals as goal

pub returns-in-Packet-clause-ok : goal.returns-in-Packet-clause-ok
returns-in-Packet-clause-ok g c =
    let file = c.args.self.now in
    let p = captured_of c.in-Packet.field-0 in (
      p,
      record { packet_is = sym (ap packet_in c.in-Packet.ensures); begins = omega arith; ends = in_kept file.kept.items file.done c.args.len c.requires.come.0 c.requires.come.1 },
      of_content file.form file.interfaces.items file.kept.items file.done c.args.len (packet p) (sym c.requires.front) c.in-Packet.ensures,
    )

pub returns-in_ok-push-in-Interface-clause-ok : goal.returns-in_ok-push-in-Interface-clause-ok
returns-in_ok-push-in-Interface-clause-ok g c =
    let file = c.args.self.now in (
      of_content file.form file.interfaces.items file.kept.items file.done c.args.len (interface c.in-Interface.interface) (sym c.requires.front) c.in-Interface.ensures
          ∙ ap (λ is. passes (at file.form is (drop (file.done + c.args.len) file.kept.items))) (sym c.in_ok-push-in-Interface.ensures.items),
      shorter file.kept.items file.done c.args.len c.requires.come.0 c.requires.come.1,
    )

pub returns-in-Other-clause-ok : goal.returns-in-Other-clause-ok
returns-in-Other-clause-ok g c =
    let file = c.args.self.now in (
      of_content file.form file.interfaces.items file.kept.items file.done c.args.len other (sym c.requires.front) c.in-Other.ensures,
      shorter file.kept.items file.done c.args.len c.requires.come.0 c.requires.come.1,
    )

pub returns-in_err-push-in-Interface-clause-refused : goal.returns-in_err-push-in-Interface-clause-refused
returns-in_err-push-in-Interface-clause-refused g c =
    let file = c.args.self.now in
    let i = c.in-Interface.interface in
    let refused : AwaitsMemory (reading_of file) = record {
      taken = i;
      after = at file.form (file.interfaces.items ++ i ∷ []) (drop (file.done + c.args.len) file.kept.items);
      step = of_content file.form file.interfaces.items file.kept.items file.done c.args.len (interface i) (sym c.requires.front) c.in-Interface.ensures;
      takes = refl;
    } in
    on_err _ refused
