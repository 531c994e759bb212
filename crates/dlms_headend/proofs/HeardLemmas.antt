-- Answers to a GET.
use Rattle.std.proofs.Common.{arith, refl, sym, ap, subst, inr, ◌∙◌, ◌≡◌, ◌≢◌, ◌+◌, ◌++◌, ℕ, List, [], ◌∷◌, drop, append-nil, Bool, true, Result, Ok, Err}
use Rattle.std.proofs.lemmas.Bool.Decides.{nat_tests}
use Rattle.std.specs.Prelude.{IsOkAnd}
use Rattle.dlms_apdu.specs.Forms.{ResponseForm, get_data, get_block}
use Rattle.dlms_apdu.specs.Reading.{HoldsData, response_at}
use Rattle.dlms_apdu.specs.declared.fault.Refusal.{Refusal}
use Rattle.dlms_data.specs.Memory.{NeedsMemory}
use Rattle.dlms_data.specs.Value.{Value}
use Rattle.dlms_blocks.specs.Joining.{Joining, is_next, with_block}
use Rattle.dlms_headend.specs.declared.get_answer.GetAnswer.{GetAnswer}
use Rattle.dlms_headend.specs.declared.get_answer.GetAnswer.TheVariants.{More, Rows}
use Rattle.dlms_headend.specs.declared.poll_fault.PollFault.{PollFault}
use Rattle.dlms_headend.specs.declared.poll_fault.PollFault.TheVariants.{Refused, Result as BadResult, Line, Protocol, Columns, Memory}
use Rattle.dlms_apdu.proofs.WholeLaws.{reads_responses}
use Rattle.dlms_apdu.specs.Spelling.{SpellsResponse}
use Rattle.dlms_data.proofs.WholeLaws.{reads_one_value}
use Rattle.dlms_data.specs.Spelling.{IsSpelling}
use Rattle.dlms_headend.specs.declared.row.Row.{Row}
use Rattle.dlms_headend.proofs.Values.{profile_some}
use Rattle.dlms_headend.specs.Rows.{IsProfile, IsEncoded, NoEncoding}
use Rattle.dlms_headend.specs.Heard.{HasTaken, LastHeard, HearsBy, FailsOrWants}

pub next_number : (old : Joining) (number : ℕ) → is_next old number ≡ true → number ≡ old.taken + 1
next_number old number h = grind (arith, nat_tests)

last_fault : (taken invoke number : ℕ) (joined raw : List ℕ) (fault : PollFault) → number ≡ taken + 1 → NoEncoding (joined ++ raw) fault → FailsOrWants taken joined (Ok (get_block invoke true number raw)) fault
last_fault taken invoke number joined raw Protocol e h = (refl, record { no_more = λ bytes k. let bad = k.0 in cc; no_rows = λ rows k. h rows k.2 })
last_fault taken invoke number joined raw Memory e h = (e, inr (refl, h))
last_fault taken invoke number joined raw (Refused diagnostic) e h = absurd h
last_fault taken invoke number joined raw (BadResult code) e h = absurd h
last_fault taken invoke number joined raw Line e h = absurd h
last_fault taken invoke number joined raw Columns e h = absurd h

last_heard-at : {A : Type 0} (taken invoke number : ℕ) (old new : Joining) (raw : List ℕ) (result : Result (GetAnswer A) PollFault) → number ≡ taken + 1 → LastHeard (old.joined ++ raw) result
    → HearsBy taken old (Ok (get_block invoke true number raw)) result new
last_heard-at taken invoke number old new raw (Ok (More next)) e h = absurd h
last_heard-at taken invoke number old new raw (Ok (Rows rows)) e h = (refl, e, h)
last_heard-at taken invoke number old new raw (Err fault) e h = last_fault taken invoke number old.joined raw fault e h

pub last_heard : {A : Type 0} (taken invoke number : ℕ) (old new : Joining) (last whole : Bool) (raw bytes : List ℕ) (result : Result (GetAnswer A) PollFault) → HasTaken old taken → whole ≡ true → whole ≡ last → is_next old number ≡ true
    → new ≡ with_block old last number raw → bytes ≡ new.joined → LastHeard bytes result → HearsBy taken old (Ok (get_block invoke last number raw)) result new
last_heard taken invoke number old new last whole raw bytes result h is_whole says_last is_next joined same heard =
    let is_last : true ≡ last = sym is_whole ∙ says_last in
    let all : bytes ≡ old.joined ++ raw = same ∙ ap (λ (j : Joining). j.joined) joined in
    let e : number ≡ taken + 1 = next_number old number is_next ∙ ap (λ (n : ℕ). n + 1) h.count in
    subst (λ (b : Bool). HearsBy taken old (Ok (get_block invoke b number raw)) result new) is_last (last_heard-at taken invoke number old new raw result e (rw all at heard))

-- ---- there was no memory for data

parted : (b : ℕ) (front rest bytes : List ℕ) → bytes ≡ front ++ rest → front ≡ b ∷ [] → bytes ≡ b ∷ rest
parted b front rest bytes e f = e ∙ ap (λ (xs : List ℕ). xs ++ rest) f

pub data_behind : (apdu : List ℕ) (invoke : ℕ) (v : Value) → response_at apdu ≡ Ok (get_data invoke v) → IsSpelling (drop 4 apdu) v
data_behind apdu invoke v read =
    let h = (reads_responses apdu (get_data invoke v)).0 read in
    by_parts apdu invoke v h
  where
    by_parts : (apdu : List ℕ) (invoke : ℕ) (v : Value) → SpellsResponse apdu (get_data invoke v) → IsSpelling (drop 4 apdu) v
    by_parts apdu invoke v (f1, r1, e1, b1, (f2, r2, e2, b2, (f3, r3, e3, b3, (f4, r4, e4, b4, spelled)))) =
        let all : apdu ≡ 0xC4 ∷ 1 ∷ invoke ∷ 0 ∷ r4 =
        parted 0xC4 f1 r1 apdu e1 b1 ∙ ap (λ (r : List ℕ). 0xC4 ∷ r) (parted 1 f2 r2 r1 e2 b2 ∙ ap (λ (r : List ℕ). 1 ∷ r) (parted invoke f3 r3 r2 e3 b3 ∙ ap (λ (r : List ℕ). invoke ∷ r) (parted 0 f4 r4 r3 e4 b4))) in
        subst (λ (bytes : List ℕ). IsSpelling bytes v) (sym (ap (λ (bytes : List ℕ). drop 4 bytes) all)) spelled

pub wants_data : (apdu : List ℕ) (invoke taken : ℕ) (joined : List ℕ) (v : Value) → response_at apdu ≡ Ok (get_data invoke v) → NeedsMemory v → taken ≡ 0 → ((rows : List Row) × IsEncoded (drop 4 apdu) rows)
    → FailsOrWants taken joined (Ok (get_data invoke v)) Memory
wants_data apdu invoke taken joined v read needs none (rows, (w, spelled, is)) =
    let bytes : List ℕ = drop 4 apdu in
    let same = reads_one_value bytes bytes [] bytes [] w v (sym (append-nil bytes)) (sym (append-nil bytes)) spelled (data_behind apdu invoke v read) in
    let there : IsProfile v rows = subst (λ (x : Value). IsProfile x rows) same.1 is in
    (none, (rows, there, profile_some v rows there needs))

pub no_data : (apdu : List ℕ) (invoke taken : ℕ) (joined : List ℕ) (v : Value) → response_at apdu ≡ Ok (get_data invoke v) → ((rows : List Row) → IsEncoded (drop 4 apdu) rows → ⊥)
    → FailsOrWants taken joined (Ok (get_data invoke v)) Protocol
no_data apdu invoke taken joined v read missing = (refl, record { no_more = λ bytes h. h; no_rows = λ rows h. missing rows (v, data_behind apdu invoke v read, h.1) })

pub no_data_behind : (invoke taken : ℕ) (joined : List ℕ) (v : Value) → taken ≢ 0 → FailsOrWants taken joined (Ok (get_data invoke v)) Protocol
no_data_behind invoke taken joined v some = (refl, record { no_more = λ bytes h. h; no_rows = λ rows h. some h.0 })

pub data_wanted : (read : Result ResponseForm Refusal) (taken : ℕ) (joined : List ℕ) (fault : PollFault) → IsOkAnd read HoldsData
    → ((invoke : ℕ) (v : Value) → read ≡ Ok (get_data invoke v) → NeedsMemory v → FailsOrWants taken joined (Ok (get_data invoke v)) fault) → FailsOrWants taken joined read fault
data_wanted (Ok (get_data invoke v)) taken joined fault h told = told invoke v refl h
data_wanted (Ok _) taken joined fault h told = absurd h
data_wanted (Err refusal) taken joined fault h told = absurd h
