use Rattle.std.proofs.Common.{◌≡◌, ◌∙◌, subst, ℕ, List, Ok, Err}
use Rattle.std.specs.Prelude.{MatchResult}
use Rattle.dlms_secured.specs.Made.{protects}
use Rattle.dlms_secured.specs.declared.messages.TheConstants.{MOST_CARRIED}
use Rattle.dlms_secured.proofs.made.send_answer.Goals as goal

pub returns-clause-result : goal.returns-clause-result
returns-clause-result c = subst
    (λ (apdu : List ℕ). MatchResult c.protect.result
    (λ message. (protects c.args.security.now c.args.form MOST_CARRIED apdu).result ≡ Ok message.items)
    (λ f. (protects c.args.security.now c.args.form MOST_CARRIED apdu).result ≡ Err f))
    (c.as_slice.ensures.value ∙ c.reply_to_hls-request.ensures) c.protect.ensures.result
