-- A DISC that is fed after a silence is taken whole.
use Rattle.std.proofs.Common.{◌≡◌, ℕ, ◌<◌, ◌≤◌, List, [], ◌∷◌, ◌++◌, length, ap, ◌∙◌, inl, inr, arith, take}
use Rattle.std.proofs.lemmas.Bool.{cases_lt}
use Rattle.std.proofs.lemmas.List.{length-take-le, take_all}
use Rattle.dlms_frame.specs.Frame.{Parts, FrameSpelling, address_bytes, spelling, tail_len}
use Rattle.dlms_frame.specs.declared.client.Client.{Client}
use Rattle.dlms_frame.specs.declared.frame.Address.{Address}
use Rattle.dlms_frame.specs.declared.frame.Address.TheVariants.{One, Two, Four}
use Rattle.dlms_frame.proofs.StreamLemmas.{length-spelling}
use Rattle.dlms_meter.specs.Run.{EndsFrame, MeterWorld}
use Rattle.dlms_c.specs.HangingUp.{disc_of}

address_room : (a : Address) → 1 ≤ length (address_bytes a)
address_room (One part) = omega arith
address_room (Two high low) = omega arith
address_room (Four high low) = omega arith

tail_room : (info : List ℕ) → 2 ≤ tail_len info
tail_room [] = omega arith
tail_room (x ∷ xs) = omega arith

-- no frame has fewer than nine octets, and a DISC has as many
least_frame : (f : Parts) → 9 ≤ length (spelling f)
least_frame f = omega (arith, length-spelling f, address_room f.dest, address_room f.src, tail_room f.info)

disc_room : (who : Client) → length (spelling (disc_of who)) ≡ 9
disc_room who = length-spelling (disc_of who)

-- the octets that a call took were all of them: no frame ends in fewer
pub all_taken : (who : Client) (w : MeterWorld) (bytes : List ℕ) (count : ℕ) → FrameSpelling bytes (disc_of who) → w.stretch ≡ [] → count ≤ length bytes
    → (count < length bytes → EndsFrame w (take count bytes)) → take count bytes ≡ bytes
all_taken who w bytes count spelled none few ends =
    let size : length bytes ≡ 9 = ap length spelled.text ∙ disc_room who in
    elim (cases_lt count (length bytes)) [
      | inl less ↦
          let (i, j, frame, last, next) = ends less in
          let here : length (w.stretch ++ take count bytes) ≡ count = ap (λ s. length (s ++ take count bytes)) none ∙ length-take-le count bytes few in
          absurd (omega (arith, next.stands.ends, least_frame frame))
      | inr more ↦ take_all count bytes more
    ]
