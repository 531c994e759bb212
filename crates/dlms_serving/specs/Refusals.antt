-- What a reply of a meter says about an association that was asked for.
use Rattle.std.specs.Prelude.{◌≡◌, ◌==◌, ◌&&◌, ℕ, Bool, false, List, [], ◌∷◌, MatchOption, Option, None, nat_eq, option_and_then, option_map, unwrap_or, drop, slice_get, if◌then◌else◌}
use Rattle.std.specs.List.{starts_with}
use Rattle.dlms_frame.specs.Client.{client_of, has_secret}
use Rattle.dlms_frame.specs.Frame.{Parts}
use Rattle.dlms_frame.specs.Stream.{IsNext}
use Rattle.dlms_frame.specs.declared.frame.Address.{Address}
use Rattle.dlms_frame.specs.declared.frame.Address.TheVariants.{One, Two, Four}
use Rattle.dlms_serving.specs.declared.refusals.Outcome.{Outcome}
use Rattle.dlms_serving.specs.declared.refusals.Outcome.TheVariants.{Refused, Proved, Opened}

-- The result that an information field of a meter has for an association (IEC 62056-5-3, AARE), if it has one: after the LLC (IEC
-- 62056-46, 5.3.2) come the response's tag 61 and length, the context name of 11 octets, and the result, an integer of one octet.
-- The same holds for the first segment.
abbrev pub result_of : List ℕ → Option ℕ
result_of info =
    if starts_with nat_eq info (0xE6 ∷ 0xE7 ∷ 0x00 ∷ 0x61 ∷ []) && starts_with nat_eq (drop 16 info)
    (0xA2 ∷ 0x03 ∷ 0x02 ∷ 0x01 ∷ [])
    then slice_get info 20
    else None

-- the client of this address has to know a secret
abbrev pub is_guarded : Address → Bool
is_guarded (One sap) = unwrap_or (option_map has_secret (client_of sap)) false
is_guarded (Two upper lower) = false
is_guarded (Four upper lower) = false

-- the outcome that a result has for the client of this address: the association is open if it is 0, and refused otherwise
abbrev pub outcome_of : ℕ → Address → Outcome
outcome_of number address = if number == 0 then (if is_guarded address then Proved else Opened)
    else Refused

-- what a frame says of an association, if it says so
abbrev pub outcome_in : Parts → Option Outcome
outcome_in frame = option_map (λ (number : ℕ). outcome_of number frame.dest) (result_of frame.info)

-- the first frame of some bytes, if there is one
abbrev pub IsFirstFrame : List ℕ → Option Parts → Type 0
IsFirstFrame bytes found = MatchOption found ((from to : ℕ) (frame : Parts)
    → IsNext bytes 0 from to frame
    → ⊥) (λ frame. (from : ℕ) × (to : ℕ) × IsNext bytes 0 from to frame)

-- The first frame of the reply says this of an association, if it says so.
abbrev pub SaysFirst : List ℕ → Option Outcome → Type 0
SaysFirst reply outcome = (found : Option Parts) × IsFirstFrame reply found
    × (outcome ≡ option_and_then outcome_in found)
