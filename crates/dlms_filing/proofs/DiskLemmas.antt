-- Calls of files, one after another.
use Rattle.std.proofs.Common.{ap, append_assoc, ◌∙◌, ℕ, List, [], ◌∷◌, ◌++◌, inl, inr}
use Rattle.std.specs.Prelude.{Option, Some, None, Ok, Err}
use Rattle.std.specs.declared.io.Error.{Error}
use Rattle.dlms_filing.specs.Disk.{FileCall, Called, Filled, Laid}
use Rattle.dlms_filing.specs.Disk.FileCall.{Creates, Removes, Syncs, Writes}

pub called_more : {C : Type 0} (a b c : Option (List C)) (xs ys : List C) → Called a b xs → Called b c ys → Called a c (xs ++ ys)
called_more None b c xs ys h k = tt
called_more (Some us) None c xs ys h k = absurd h
called_more (Some us) (Some bs) None xs ys h k = absurd k
called_more {C} (Some us) (Some bs) (Some cs) xs ys h k = k ∙ ap (λ (t : List C). t ++ ys) h ∙ append_assoc us xs ys

-- a file that was made is not filled, and taken away
pub not_laid : (a b c d : Option (List FileCall)) (path text beside : List ℕ) (e : Error) → Called a b (Creates path (Ok beside) ∷ []) → Filled {T = Unit {0}} b c beside text (Err e) → Called c d (Removes beside ∷ [])
    → Laid a d path text (Err e)
not_laid a b c d path text beside e creates (inl unwritten) removes =
    inr (inl (beside, called_more a b d (Creates path (Ok beside) ∷ []) (Writes beside text (Some e) ∷ Removes beside ∷ []) creates (called_more b c d (Writes beside text (Some e) ∷ []) (Removes beside ∷ []) unwritten removes)))
not_laid a b c d path text beside e creates (inr unsynced) removes =
    inr
    (inr (
      beside,
      called_more a b d (Creates path (Ok beside) ∷ []) (Writes beside text None ∷ Syncs beside (Some e) ∷ Removes beside ∷ []) creates
          (called_more b c d (Writes beside text None ∷ Syncs beside (Some e) ∷ []) (Removes beside ∷ []) unsynced removes),
    ))
