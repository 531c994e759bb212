-- A list of requests as a script.
use Rattle.std.specs.Prelude.{◌≡◌, ℕ, List, [], ◌∷◌, ◌++◌, Option, Some, None, Result, Ok, Err, option_to_list}
use Rattle.std.specs.declared.alloc.AllocError.{AllocError}
use Rattle.dlms_association.specs.declared.answer.Answer.{Answer}
use Rattle.dlms_association.specs.declared.answer.Answer.TheVariants.{Value as ValueCame}
use Rattle.dlms_inquiries.specs.declared.questions.Questions.{Questions}
use Rattle.dlms_inquiries.specs.declared.questions.Reply.{Reply}
use Rattle.dlms_inquiries.specs.declared.script.Question.{Question}

-- an answer is kept after the replies before it, with the encoding of its value if it is one
abbrev pub Keeps : Option Answer → List ℕ → List Reply → List Reply → Type 0
Keeps None value old new = new ≡ old
Keeps (Some answer) value old new = (reply : Reply) × (new ≡ old ++ reply ∷ [])
    × (reply.answer ≡ answer) × (answer ≡ ValueCame → reply.value.items ≡ value)

-- the next request is the first one that was not made yet, and the answer to the last one is kept
abbrev pub QuestionsFollow : Questions → Option Answer → List ℕ
    → Result (Option Question) AllocError → Questions → Type 0
QuestionsFollow old answer value (Ok next) new =
    Keeps answer value old.replies.items new.replies.items
    × (old.left.items ≡ option_to_list next ++ new.left.items)
QuestionsFollow old answer value (Err fault) new = Unit {0}
