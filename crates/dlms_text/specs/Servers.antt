-- Addresses of a meter as a text writes them: its upper address, or upper and lower with a slash between them (IEC 62056-46, 6.4.2).
use Rattle.std.specs.Prelude.{◌≡◌, ◌⊎◌, ◌<◌, ℕ, List, Bool, true, false}
use Rattle.dlms_frame.specs.declared.frame.Address.{Address}
use Rattle.dlms_frame.specs.declared.frame.Address.TheVariants.{One, Two, Four}
use Rattle.dlms_text.specs.Texts.{IsBelow, before, behind, has}

-- Four octets are asked for, or one of the parts needs two.
abbrev pub IsWide : Bool → ℕ → ℕ → Type 0
IsWide wide high low = (wide ≡ true) ⊎ (127 < high) ⊎ (127 < low)

abbrev pub IsParts : Bool → List ℕ → List ℕ → Address → Type 0
IsParts wide upper lower (One part) = ⊥
IsParts wide upper lower (Two high low) = (wide ≡ false) × IsBelow 128 upper high
    × IsBelow 128 lower low
IsParts wide upper lower (Four high low) = IsWide wide high low × IsBelow 16384 upper high
    × IsBelow 16384 lower low

-- an upper address alone has one octet
abbrev pub IsServer : Bool → List ℕ → Address → Type 0
IsServer wide text (One part) = (wide ≡ false) × (has 47 text ≡ false) × IsBelow 128 text part
IsServer wide text (Two high low) = (has 47 text ≡ true)
    × IsParts wide (before 47 text) (behind 47 text) (Two high low)
IsServer wide text (Four high low) = (has 47 text ≡ true)
    × IsParts wide (before 47 text) (behind 47 text) (Four high low)
