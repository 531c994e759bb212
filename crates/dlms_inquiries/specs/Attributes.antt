-- The requests for attributes by their names: none of them changes the meter.
use Rattle.std.specs.Prelude.{◌≡◌, ℕ, List, Option, Some, None, Result, Ok, Err}
use Rattle.std.specs.declared.alloc.AllocError.{AllocError}
use Rattle.dlms_association.specs.declared.answer.Answer.{Answer}
use Rattle.dlms_data.specs.declared.descriptor.Descriptor.{Descriptor}
use Rattle.dlms_inquiries.specs.declared.attributes.Attributes.{Attributes}
use Rattle.dlms_inquiries.specs.declared.script.Question.{Question}
use Rattle.dlms_inquiries.specs.declared.script.Question.TheVariants.{Get}

-- a request, if there is one, is a GET
abbrev pub OnlyReads : Result (Option Question) AllocError → Type 0
OnlyReads (Ok (Some asked)) = (attribute : Descriptor) × (asked ≡ Get attribute)
OnlyReads (Ok None) = Unit {0}
OnlyReads (Err fault) = Unit {0}

abbrev pub AttributesFollow : Attributes → Option Answer → List ℕ
    → Result (Option Question) AllocError → Attributes → Type 0
AttributesFollow old answer value result new = OnlyReads result
