-- The calls of a meter are a run, of which each fault has its cause in its own call.
use Rattle.std.proofs.Common.{refl, sym, ap, subst, inl, inr, append-nil, ◌∙◌, ℕ, List, [], ◌∷◌}
use Rattle.std.specs.Prelude.{Option, map}
use Rattle.dlms_pages.specs.declared.device.Pages.{Ghosts}
use Rattle.dlms_store.specs.World.{StoreStep}
use Rattle.dlms_meter.specs.declared.meter.Meter.{Meter}
use Rattle.dlms_meter.specs.Run.{MeterWorld, MayChoose, Comes, Fed, HasNoFrame, Stands, after_turn, grown, listed, silent}
use Rattle.dlms_meter.specs.Steps.{AllMayChoose, Call, Calls, HasCauses, Run, step_of, Fed as FedCall, Idled, Told}
use Rattle.dlms_meter.proofs.RunLemmas.{none_ended}

-- a call of feed, with its frame if it ended one
pub fed : {P A : Type 0} {ghosts : Ghosts P} (old new : Meter P A ghosts) (steps : List StoreStep) (w : MeterWorld) (taken : List ℕ) (reply : Option (List ℕ)) (w' : MeterWorld)
    → Fed (MayChoose old.store new.store) w taken reply steps w' → Stands new w' → (comes : Comes w taken (listed reply) w') × AllMayChoose old.store new.store comes.turns
fed old new steps w taken reply w' (inl (free, none, no_steps, is)) stands = (record { turns = []; answers = (free, ap listed none, is) }, tt)
fed old new steps w taken reply w' (inr (turn, is_turn, may, promise, ends, told, took, is)) stands =
    let free : HasNoFrame (after_turn (grown w taken) turn).stretch turn.to =
    subst (λ (x : MeterWorld). HasNoFrame x.stretch x.place) is (none_ended new.deframer.bytes w'.stretch w'.place stands.line) in (
      record { turns = turn ∷ []; answers = (is_turn, [], ap listed told ∙ sym (append-nil (listed turn.reply)), (free, refl, is)) },
      (may, tt),
    )

pub caused : {P A : Type 0} {ghosts : Ghosts P} (calls : List Call) (old new : Meter P A ghosts) (w : MeterWorld) (is : Calls old calls new) → Stands old w
    → (w' : MeterWorld) × (run : Run w (map step_of calls) w') × HasCauses old calls new is w w' run × Stands new w'
caused [] old new w is stands = (w, refl, tt, subst (λ m. Stands m w) (sym is) stands)
caused (FedCall taken reply ∷ calls) old new w (mid, call, rest) stands =
    let here = call.0 w stands in
    let piece = fed old mid here.1 w taken reply here.0 here.2 here.3 in
    let after = caused calls mid new here.0 rest here.3 in
    (after.0, (here.0, piece.0, after.1), (piece.1, here.3, after.2), after.3)
caused (Idled ∷ calls) old new w (mid, call, rest) stands =
    let here = call.0 w stands in
    let after = caused calls mid new (silent w) rest here in
    (after.0, (silent w, refl, after.1), (here, after.2), after.3)
caused (Told event outcome ∷ calls) old new w (mid, call, rest) stands =
    let here = call.0 w stands in
    let after = caused calls mid new here.0 rest here.4 in
    (after.0, (here.0, (here.1, here.2), after.1), (here.3, here.4, after.2), after.3)
