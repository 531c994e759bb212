use Rattle.std.proofs.Common.{length, ap, ◌∙◌, arith}
use Rattle.dlms_capture.specs.Fronts.{front_at}
use Rattle.dlms_capture.specs.Reading.{reading_of}
use Rattle.dlms_capture.proofs.Steps.{by_front, of_header, of_section, shorter}
use Rattle.dlms_capture.proofs.file.File.step.Goals as goal

pub returns-in-Part-clause-ok : goal.returns-in-Part-clause-ok
returns-in-Part-clause-ok g c = by_front (reading_of c.args.self.now) _ (c.in-Part.ensures.front ∙ ap (front_at c.args.self.now.form) c.rest.ensures)

pub returns-in-Broken-clause-ok : goal.returns-in-Broken-clause-ok
returns-in-Broken-clause-ok g c = by_front (reading_of c.args.self.now) _ (c.in-Broken.ensures.front ∙ ap (front_at c.args.self.now.form) c.rest.ensures)

pub returns-in-Header-clause-ok : goal.returns-in-Header-clause-ok
returns-in-Header-clause-ok g c =
    let file = c.args.self.now in
    let come = c.in-Header.ensures.come in (
      of_header file.form file.interfaces.items file.kept.items file.done c.in-Header.head (c.in-Header.ensures.front ∙ ap (front_at file.form) c.rest.ensures),
      shorter file.kept.items file.done 24 (omega arith) (omega (arith, come.1, ap length c.rest.ensures)),
    )

pub returns-in-Section-clause-ok : goal.returns-in-Section-clause-ok
returns-in-Section-clause-ok g c =
    let file = c.args.self.now in
    let come = c.in-Section.ensures.come in
    let begun = c.begin_section in
    of_section file.form begun.new.self.form file.interfaces.items begun.new.self.interfaces.items file.kept.items begun.new.self.kept.items file.done begun.new.self.done
    c.in-Section.len c.in-Section.endian (c.in-Section.ensures.front ∙ ap (front_at file.form) c.rest.ensures) come.0 (omega (arith, come.1, ap length c.rest.ensures))
    begun.ensures.form begun.ensures.interfaces (ap (λ v. v.items) begun.ensures.kept) begun.ensures.done
