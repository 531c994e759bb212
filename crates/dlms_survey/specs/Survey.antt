-- The result of a recovery of an image, and what it would do, in the terms of dlms_store.
use Rattle.std.specs.Prelude.{◌≡◌, ◌+◌, ◌-◌, ◌^◌, List, Option, Some, None, Result, Ok, Err, MatchOption, MatchResult}
use Rattle.dlms_pages.specs.Device.{Image, page_at}
use Rattle.dlms_state.specs.declared.event.Event.{Event}
use Rattle.dlms_state.specs.StateValue.{StateValue}
use Rattle.dlms_store.specs.Active.{IsChosen, IsFound, IsStale}
use Rattle.dlms_store.specs.Cause.{IsCause}
use Rattle.dlms_store.specs.Layout.{gate_of, other_of}
use Rattle.dlms_store.specs.Page.{IsNot, IsOpen}
use Rattle.dlms_store.specs.declared.fault.OpenFault.{OpenFault}
use Rattle.dlms_store.specs.declared.fault.OpenFault.TheVariants.{Exhausted}
use Rattle.dlms_store.specs.declared.layout.Slot.{Slot}
use Rattle.dlms_store.specs.declared.layout.Slot.TheVariants.{First, Second}
use Rattle.dlms_store.specs.declared.open.Found.{Found}
use Rattle.dlms_store.specs.declared.page.Edition.{Edition}
use Rattle.dlms_survey.specs.declared.survey.Recovery.{Recovery}
use Rattle.dlms_survey.specs.declared.survey.Recovery.TheVariants as recovery
use Rattle.dlms_survey.specs.declared.survey.Survey.{Survey}

-- Nothing is written if no checkpoint is due. One that is due goes to the other slot, with the next generation; after the last
-- generation it is refused.
abbrev pub IsRecovery : {A : Type 0} → Found A → Recovery → Type 0
IsRecovery found recovery.Nothing = IsStale found → ⊥
IsRecovery found (recovery.Checkpoint slot generation) = IsStale found
    × (slot ≡ other_of found.slot) × (generation ≡ found.edition.generation + 1)
IsRecovery found (recovery.Refused fault) = IsStale found × (fault ≡ Exhausted)
    × (found.edition.generation ≡ 2 ^ 64 - 1)

-- the edition of the gate of a slot, if it is whole, open and of a known version
abbrev pub IsGateOf : Slot → Image → Option Edition → Type 0
IsGateOf slot image said = MatchOption said ((edition : Edition)
    → IsNot (IsOpen edition (page_at image (gate_of slot))))
    (λ edition. IsOpen edition (page_at image (gate_of slot)))

-- what a recovery finds in an image, or its cause for refusing
abbrev pub IsFoundIn : {A : Type 0} → Image → Result (Found A) OpenFault → Type 0
IsFoundIn image found = MatchResult found (λ found. (base : List Event)
    × (pages : List (List Event))
    × IsFound image base pages found) (λ fault. IsCause fault image)

-- the state that a recovery finds, if it finds any
abbrev pub state_in : {A : Type 0} → Result (Found A) OpenFault → Option StateValue
state_in (Ok found) = Some found.state
state_in (Err fault) = None

-- this part of an image: its gates, the slot that counts, and the result of a recovery, or its cause for refusing
pub record IsSurveyed {A : Type 0} (image : Image) (survey : Survey A) : Type 0 where
  pub first : IsGateOf First image survey.first
  pub second : IsGateOf Second image survey.second
  pub active : IsChosen survey.first survey.second survey.active
  pub found : IsFoundIn image survey.found
