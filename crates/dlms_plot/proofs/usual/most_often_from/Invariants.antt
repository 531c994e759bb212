use Rattle.std.proofs.Common.{◌≡◌, ◌∷◌, get_or, take}
use Rattle.dlms_plot.proofs.UsualLemmas.{IsSoFar}
use Rattle.dlms_plot.proofs.usual.most_often_from.Given as goal

abbrev pub invariant-loop-number : goal.invariant-loop-number
invariant-loop-number l = IsSoFar (l.fn.first ∷ take l.number-index l.rest) l.last l.count l.best l.most × (l.last ≡ get_or (l.fn.first ∷ l.rest) l.number-index 0)
