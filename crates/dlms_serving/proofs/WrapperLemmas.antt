-- Messages of the wrapper.
use Rattle.std.proofs.Common.{refl, sym, ◌∙◌, ap, subst, ◌≡◌, ◌⊎◌, ◌==◌, ℕ, Bool, true, false, List, ◌∷◌, take, drop, Option, Some, None, if◌then◌else◌}
use Rattle.std.specs.Prelude.{option_map}
use Rattle.std.proofs.lemmas.List.{take-append-drop}
use Rattle.dlms_frame.specs.Client.{client_of}
use Rattle.dlms_frame.specs.declared.client.Client.{Client}
use Rattle.dlms_frame.specs.declared.frame.Address.TheVariants.{One}
use Rattle.dlms_meter.specs.Histories.{IsAnyCall, Requested}
use Rattle.dlms_meter.specs.declared.meter.Meter.{Meter}
use Rattle.dlms_pages.specs.declared.device.Pages.{Ghosts}
use Rattle.dlms_wrapper.specs.Message.{Parts, message_bytes}
use Rattle.dlms_wrapper.specs.Stream.{IsRefused, Kept}
use Rattle.dlms_serving.specs.Carrying.{Delivers, DeliversFrom, IsBad, ReadsInto, answer_to, sender_of}
use Rattle.dlms_serving.specs.Connection.{Counts, ReadsBad, behind_outcome}
use Rattle.dlms_serving.specs.Refusals.{outcome_of, result_of}
use Rattle.dlms_serving.specs.declared.carrier.Carrier.TheVariants.{Wrapper}
use Rattle.dlms_serving.specs.declared.refusals.Outcome.{Outcome}
use Rattle.dlms_serving.specs.declared.talking.TurnState.{TurnState}
use Rattle.dlms_serving.specs.declared.turns.Tries.{Tries}
use Rattle.dlms_serving.specs.declared.wrapped.TheConstants.{METER_PORT}

pub read_bad : (state : TurnState) (bytes : List ℕ) (count : ℕ) (reader : Kept) → ReadsInto state.reader (take count bytes) reader → IsBad reader ⊎ IsRefused state.reader.limit state.reader.bytes → ReadsBad Wrapper bytes state
read_bad state bytes count reader reads bad = record {
  taken = take count bytes;
  behind = drop count bytes;
  reader = reader;
  by_wrapper = refl;
  cut = sym (take-append-drop count bytes);
  reads = reads;
  bad = bad;
}

-- ---- a message that is delivered

from_sender : (p : Parts) (who : Client) (here : Bool) → (p.dest == METER_PORT) ≡ here → sender_of p ≡ Some who → client_of p.source ≡ Some who
from_sender p who true e is = sym (ap (λ (b : Bool). if b then client_of p.source else None) e) ∙ is
from_sender p who false e is = absurd (let none : None ≡ Some who = sym (ap (λ (b : Bool). if b then client_of p.source else None) e) ∙ is in cc none)

pub counted : (p a : Parts) (who : Client) (text slice apdu : List ℕ) (tries tries' : Tries) (outcome : Option Outcome) → sender_of p ≡ Some who → a ≡ p → text ≡ message_bytes (record { source = a.dest; dest = a.source; apdu = slice }) → apdu ≡ slice
    → ((sap : ℕ) → client_of sap ≡ Some who → outcome ≡ option_map (λ (number : ℕ). outcome_of number (One sap)) (result_of (0xE6 ∷ 0xE7 ∷ 0x00 ∷ apdu))) → tries' ≡ behind_outcome outcome tries → Counts Wrapper (Some text) tries tries'
counted p a who text slice apdu tries tries' outcome from same written alike says after =
    let m : Parts = record { source = a.dest; dest = a.source; apdu = slice } in
    let client : client_of a.source ≡ Some who = ap (λ (q : Parts). client_of q.source) same ∙ from_sender p who (p.dest == METER_PORT) refl from in
    (outcome, (m, written, says a.source client ∙ ap (λ (bytes : List ℕ). option_map (λ (number : ℕ). outcome_of number (One a.source)) (result_of (0xE6 ∷ 0xE7 ∷ 0x00 ∷ bytes))) alike), after)

pub delivered : {P A : Type 0} {ghosts : Ghosts P} (o : Option Parts) (p a : Parts) (who : Client) (old new : Meter P A ghosts) (text slice answer : List ℕ) → o ≡ Some p → sender_of p ≡ Some who → a ≡ p → IsAnyCall old (Requested who a.apdu answer) new
    → text ≡ message_bytes (record { source = a.dest; dest = a.source; apdu = slice }) → slice ≡ answer → Delivers o old (Some text) new
delivered o p a who old new text slice answer is from same call written alike =
    let told : text ≡ answer_to a answer = written ∙ ap (λ (bytes : List ℕ). answer_to a bytes) alike in
    subst (λ (x : Option Parts). Delivers x old (Some text) new) (sym is)
    (subst (λ (c : Option Client). DeliversFrom c p old (Some text) new) (sym from)
    (subst (λ (q : Parts). DeliversFrom (Some who) q old (Some text) new) same (answer, call, ap Some told)))
