-- Words that ask for nothing.
use Rattle.std.proofs.Common.{◌≡◌, ◌≢◌, ◌⊎◌, inl, inr, [], ◌∷◌, ℕ, arith}
use Rattle.std.specs.Prelude.{Result, Ok, Err, IfOk, MatchResult}
use Rattle.clap.specs.Values.{kind_of}
use Rattle.clap.specs.Kinds.{HasKind, IsAmong, Kinds}
use Rattle.clap.specs.declared.error.Error.{Error}
use Rattle.clap.specs.declared.error.kind.ErrorKind.{ErrorKind}
use Rattle.clap.specs.declared.error.kind.ErrorKind.TheVariants.{OutOfMemory}
use Rattle.dlms_words.specs.Words.{AsksBoth, IsInvalid, IsUnclear, Met}

-- a kind that is among some, of which there are any then
some_kind : (kinds : Kinds) (k : ErrorKind) → IsAmong k kinds → kinds ≢ []
some_kind [] k among = absurd among
some_kind (x ∷ xs) k among = λ e. cc

-- an error that is no want of memory
pub is_usage : (kinds : Kinds) (met : Met) (e : Error) → (kind_of e ≡ OutOfMemory → ⊥) → HasKind kinds e ⊎ IsUnclear met e → (kinds ≢ []) ⊎ AsksBoth met ⊎ IsInvalid met
is_usage kinds met e found (inl (inl memory)) = absurd (found memory)
is_usage kinds met e found (inl (inr among)) = inl (some_kind kinds (kind_of e) among)
is_usage kinds met e found (inr (inl both)) = inr (inl both.0)
is_usage kinds met e found (inr (inr none)) = inr (inr none.0)

-- the status of a run that has ended is never the one of words that ask for nothing
pub not_usage : {A E F : Type 0} (result : Result ℕ E) (ended : Result A F) (Q : Type 0) → IfOk result (λ status. MatchResult ended (λ _. status ≡ 0) (λ _. status ≡ 1))
    → IfOk result (λ status. status ≡ 2 → Q)
not_usage (Ok status) (Ok done) Q h = λ is. absurd (omega (arith, h, is))
not_usage (Ok status) (Err fault) Q h = λ is. absurd (omega (arith, h, is))
not_usage (Err error) ended Q h = tt

-- what holds whatever the status is
pub at_any_status : {E : Type 0} (result : Result ℕ E) (wanted : ℕ) (Q : Type 0) → Q
    → IfOk result (λ status. status ≡ wanted → Q)
at_any_status (Ok status) wanted Q holds = λ is. holds
at_any_status (Err error) wanted Q holds = tt
