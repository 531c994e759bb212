-- A meter gets one more second.
use Rattle.std.proofs.Common.{ℕ, ◌+◌, List, [], ◌∷◌, ◌++◌, refl, subst, arith, length-append}
use Rattle.std.specs.Prelude.{Result, Ok}
use Rattle.dlms_serving.specs.Ticks.{AreNext, IsNext}
use Rattle.dlms_serving.specs.Telling.{GoesOn, Told, Tells, TellsEach}
use Rattle.dlms_serving.specs.declared.ticks.Ticks.{Ticks}
use Rattle.dlms_serving.specs.declared.ticks.Second.{Second}
use Rattle.dlms_meter.specs.declared.meter.Meter.{Meter}
use Rattle.dlms_pages.specs.declared.device.Pages.{Ghosts}
use Rattle.dlms_store.specs.declared.fault.AddFault.{AddFault}

next_appends : (a b c : Ticks) (xs : List Second) (x : Second) → AreNext a xs b → IsNext b x c → AreNext a (xs ++ x ∷ []) c
next_appends a b c [] x h n = let P : Ticks → Type 0 = λ t. IsNext t x c in (c, subst P h n, refl)
next_appends a b c (y ∷ ys) x h n = (h.0, h.1, next_appends h.0 b c ys x h.2 n)

each_appends : {P A : Type 0} {ghosts : Ghosts P} (a b c : Meter P A ghosts) (said middle outcome : Result (Unit {0}) AddFault) (xs : List Second) (x : Second)
    → TellsEach a said xs middle b → GoesOn middle → Tells b x outcome c → TellsEach a said (xs ++ x ∷ []) outcome c
each_appends {P} {A} {ghosts} a b c said middle outcome [] x h goes t =
    let Q : Meter P A ghosts → Type 0 = λ m. Tells m x outcome c in
    (subst GoesOn h.1 goes, outcome, c, subst Q h.0 t, (refl, refl))
each_appends {P} {A} {ghosts} a b c said middle outcome (y ∷ ys) x h goes t = (h.0, h.1, h.2, h.3, each_appends h.2 b c h.1 middle outcome ys x h.4 goes t)

pub none_told : {P A : Type 0} {ghosts : Ghosts P} (ticks : Ticks) (m : Meter P A ghosts) → Told 0 ticks m (Ok tt) ticks m
none_told ticks m = record { seconds = []; counted = refl; next = refl; each = (refl, refl) }

pub one_told : {P A : Type 0} {ghosts : Ghosts P} (count : ℕ) (before after later : Ticks) (old new newer : Meter P A ghosts) (second : Second) (said outcome : Result (Unit {0}) AddFault)
    → Told count before old said after new → GoesOn said → IsNext after second later → Tells new second outcome newer → Told (count + 1) before old outcome later newer
one_told count before after later old new newer second said outcome told goes next tells = record {
  seconds = told.seconds ++ second ∷ [];
  counted = omega (arith, length-append told.seconds (second ∷ []), told.counted);
  next = next_appends before after later told.seconds second told.next next;
  each = each_appends old new newer (Ok tt) said outcome told.seconds second told.each goes tells;
}
