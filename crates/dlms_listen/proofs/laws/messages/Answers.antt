use Rattle.std.proofs.Common.{◌≡◌, ◌++◌, [], refl, sym, ap, subst, ◌∙◌, inl, arith}
use Rattle.dlms_wrapper.specs.Stream.{HasNoMessage}
use Rattle.dlms_listen.specs.Cutting.{octets_of}
use Rattle.dlms_listen.proofs.MessageLemmas.{message_calls, nothing_begins}
use Rattle.dlms_listen.proofs.laws.messages.Goals as goal

pub returns : goal.returns
returns c start last calls is_start fed =
    let none : [] ≡ start.messages.bytes = sym (ap (λ m. m.bytes) is_start.messages) in
    let run = message_calls calls start last [] 1024 is_start.carrier (ap (λ m. m.limit) is_start.messages)
    (λ bytes more after m refused fits e. c.other_headers_are_refused.ensures.for_good 1024 bytes more after m (omega arith) refused fits e)
    (inl (refl, subst (λ xs. HasNoMessage 1024 xs) none (nothing_begins 1024))) fed in (
      run.ms,
      run.rest,
      record {
        text = ap (λ xs. (xs ++ []) ++ octets_of calls) none ∙ run.text;
        each = run.each;
        partial = run.partial;
      },
      run.same,
    )
