-- The meaning of an answer that was returned.
use Rattle.std.proofs.Common.{◌≡◌, ◌∙◌, ◌+◌, ◌≤◌, refl, sym, ap, subst, arith, ℕ, List, [], ◌∷◌, ◌++◌, append_assoc, append-nil, Bool, true, false, Option, Some, None, Result, Ok, Err}
use Rattle.dlms_apdu.specs.Forms.{ResponseForm, get_result, get_block, get_block_result, set_result, set_last, action_result}
use Rattle.dlms_apdu.specs.Reading.{response_at}
use Rattle.dlms_apdu.specs.declared.fault.Refusal.{Refusal}
use Rattle.dlms_blocks.specs.Joining.{Joining, empty}
use Rattle.dlms_values.specs.Spelling.{IsSpelling}
use Rattle.dlms_association.specs.Association.{denial_of}
use Rattle.dlms_association.specs.Hearing.{Joins, GetHears, data_at, returned_at, ActionHears, HearsBy, Hears, set_heard, action_heard}
use Rattle.dlms_association.specs.Saying.{AreBlocks, GivesResult, IsMore, Says, in_one_piece, in_blocks, by_result, returned, denied}
use Rattle.dlms_association.specs.declared.answer.Answer.{Answer}
use Rattle.dlms_association.specs.declared.answer.Answer.TheVariants.{Value as ValueCame, Result as HasResult}
use Rattle.dlms_association.specs.declared.answer.Denial.{Denial}
use Rattle.dlms_association.specs.declared.hearing.Heard.TheVariants.{More, Told}
use Rattle.dlms_association.specs.declared.stage.Asked.{Asked}
use Rattle.dlms_association.specs.declared.stage.Asked.TheVariants.{Get, Set, Action}
use Rattle.dlms_association.proofs.Heads.{next_number}

-- ---- blocks

no_fewer : (before taken : ℕ) (apdus : List (List ℕ)) (joined : List ℕ) → AreBlocks before apdus taken joined → before ≤ taken
no_fewer before taken [] joined h = let e : taken ≡ before = h.0 in omega arith
no_fewer before taken (apdu ∷ apdus) joined h = let more : before + 1 ≤ taken = no_fewer (before + 1) taken apdus h.1 h.4 in omega arith

-- if none was taken, none came
none_came : (taken : ℕ) (apdus : List (List ℕ)) (joined : List ℕ) → AreBlocks 0 apdus taken joined → taken ≡ 0 → (apdus ≡ []) × (joined ≡ [])
none_came taken [] joined h none = (refl, h.1)
none_came taken (apdu ∷ apdus) joined h none = let more : 1 ≤ taken = no_fewer 1 taken apdus h.1 h.4 in absurd (omega arith)

one_more : (before taken : ℕ) (apdus : List (List ℕ)) (joined bytes apdu : List ℕ) → AreBlocks before apdus taken joined → IsMore taken apdu bytes → AreBlocks before (apdus ++ apdu ∷ []) (taken + 1) (joined ++ bytes)
one_more before taken [] joined bytes apdu h m =
    let count : before ≡ taken = sym h.0 in
    let next : IsMore before apdu bytes = rw count m in
    let joins : joined ++ bytes ≡ bytes ++ [] = rw (h.1) (sym (append-nil bytes)) in
    (bytes, [], next, joins, (ap (λ (n : ℕ). n + 1) h.0, refl))
one_more before taken (first ∷ apdus) joined bytes apdu h m =
    (h.0, h.1 ++ bytes, h.2, ap (λ (j : List ℕ). j ++ bytes) h.3 ∙ append_assoc h.0 h.1 bytes, one_more (before + 1) taken apdus h.1 bytes apdu h.4 m)

-- what was joined of a GET is what came; nothing was of a SET and an ACTION
abbrev pub AreOf : Asked → List (List ℕ) → Joining → Type 0
AreOf Get before joined = AreBlocks 0 before joined.taken joined.joined
AreOf Set before joined = joined ≡ empty
AreOf Action before joined = joined ≡ empty

-- ---- an answer was told

module _ (before : List (List ℕ)) (apdu : List ℕ) (old new : Joining) (answer : Answer) where
  in_one : (bytes : List ℕ) → AreBlocks 0 before old.taken old.joined → data_at apdu ≡ Some bytes → Joins old true 1 bytes ValueCame (Ok (Told answer)) new → Says Get before apdu answer new.joined
  in_one bytes come given h =
      let next : 1 ≡ old.taken + 1 = next_number old 1 h.2 in
      let none : (before ≡ []) × (old.joined ≡ []) = none_came old.taken before old.joined come (omega arith) in
      let joined : new.joined ≡ bytes = ap (λ (j : Joining). j.joined) h.3 ∙ ap (λ (front : List ℕ). front ++ bytes) none.1 in
      let spelled : IsSpelling bytes h.4.0 = subst (λ (front : List ℕ). IsSpelling (front ++ bytes) h.4.0) none.1 h.4.1 in
      in_one_piece h.4.0 refl none.0 (given ∙ ap (λ (x : List ℕ). Some x) (sym joined)) (rw joined spelled) h.0

  last_of : (invoke number : ℕ) (last : Bool) (raw : List ℕ) → AreBlocks 0 before old.taken old.joined → response_at apdu ≡ Ok (get_block invoke last number raw) → Joins old last number raw ValueCame (Ok (Told answer)) new → Says Get before apdu answer new.joined
  last_of invoke number last raw come read h =
      let next : number ≡ old.taken + 1 = next_number old number h.2 in
      let joined : new.joined ≡ old.joined ++ raw = ap (λ (j : Joining). j.joined) h.3 in
      let form : get_block invoke last number raw ≡ get_block invoke true (old.taken + 1) raw = rw (h.1, next) refl in
      in_blocks invoke old.taken old.joined raw h.4.0 refl come (read ∙ ap (λ (f : ResponseForm). Ok f) form) joined (rw joined h.4.1) h.0

  resulted : (asked : Asked) (code : ℕ) (read : Result ResponseForm Refusal) → response_at apdu ≡ read → GivesResult asked read code → answer ≡ HasResult code → Says asked before apdu answer new.joined
  resulted asked code read e gives told = by_result code (subst (λ (r : Result ResponseForm Refusal). GivesResult asked r code) (sym e) gives) told

  get_said : (read : Result ResponseForm Refusal) → AreBlocks 0 before old.taken old.joined → response_at apdu ≡ read → GetHears None old read (Ok (Told answer)) new → Says Get before apdu answer new.joined
  get_said (Ok (get_block invoke last number raw)) come e h = last_of invoke number last raw come e h
  get_said (Ok (get_result invoke code)) come e h = let told = h.0 in resulted Get code _ e refl (cc)
  get_said (Ok (get_block_result invoke number code)) come e h = let told = h.0 in resulted Get code _ e refl (cc)
  get_said (Ok _) come e h = let clash = h.0 in cc
  get_said (Err refusal) come e h = let clash = h.0 in cc

  get_said_by : (given : Option (List ℕ)) → AreBlocks 0 before old.taken old.joined → data_at apdu ≡ given → GetHears given old (response_at apdu) (Ok (Told answer)) new → Says Get before apdu answer new.joined
  get_said_by (Some bytes) come e h = in_one bytes come e h
  get_said_by None come e h = get_said (response_at apdu) come refl h

  set_said : (read : Result ResponseForm Refusal) → response_at apdu ≡ read → Ok (Told answer) ≡ set_heard read → Says Set before apdu answer new.joined
  set_said (Ok (set_result invoke code)) e h = resulted Set code _ e refl (cc)
  set_said (Ok (set_last invoke code number)) e h = resulted Set code _ e refl (cc)
  set_said (Ok _) e h = cc
  set_said (Err refusal) e h = cc

  action_said : (read : Result ResponseForm Refusal) → response_at apdu ≡ read → Ok (Told answer) ≡ action_heard read → Says Action before apdu answer new.joined
  action_said (Ok (action_result invoke code)) e h = resulted Action code _ e refl (cc)
  action_said (Ok _) e h = cc
  action_said (Err refusal) e h = cc

  with_value : (code : ℕ) (bytes : List ℕ) → old ≡ empty → returned_at apdu ≡ Some (code, bytes) → Joins old true 1 bytes (HasResult code) (Ok (Told answer)) new → Says Action before apdu answer new.joined
  with_value code bytes none e h =
      let joined : new.joined ≡ bytes = ap (λ (j : Joining). j.joined) h.3 ∙ ap (λ (j : Joining). j.joined ++ bytes) none in
      let spelled : IsSpelling bytes h.4.0 = subst (λ (j : Joining). IsSpelling (j.joined ++ bytes) h.4.0) none h.4.1 in
      returned code bytes h.4.0 refl e joined (rw joined spelled) h.0

  action_said_by : (given : Option (ℕ × List ℕ)) → old ≡ empty → returned_at apdu ≡ given → ActionHears given old (response_at apdu) (Ok (Told answer)) new → Says Action before apdu answer new.joined
  action_said_by (Some (code, bytes)) none e h = with_value code bytes none e h
  action_said_by None none e h = action_said (response_at apdu) refl h.0

  said_by : (denial : Option Denial) (asked : Asked) → AreOf asked before old → denial_of apdu ≡ denial → HearsBy denial asked old apdu (Ok (Told answer)) new → Says asked before apdu answer new.joined
  said_by (Some denial) asked come e h = let told = h.0 in denied denial e cc
  said_by None Get come e h = get_said_by (data_at apdu) come refl h
  said_by None Set come e h = set_said (response_at apdu) refl h.0
  said_by None Action come e h = action_said_by (returned_at apdu) come refl h

pub said : (before : List (List ℕ)) (apdu : List ℕ) (old new : Joining) (answer : Answer) (asked : Asked) → AreOf asked before old → Hears asked old apdu (Ok (Told answer)) new → Says asked before apdu answer new.joined
said before apdu old new answer asked come h = said_by before apdu old new answer (denial_of apdu) asked come refl h

-- ---- a block was joined, and others are to come

block_came : (before : List (List ℕ)) (apdu : List ℕ) (old new : Joining) (n number invoke : ℕ) (last : Bool) (raw : List ℕ) → response_at apdu ≡ Ok (get_block invoke last number raw) → AreBlocks 0 before old.taken old.joined
    → Joins old last number raw ValueCame (Ok (More n)) new → AreBlocks 0 (before ++ apdu ∷ []) new.taken new.joined
block_came before apdu old new n number invoke last raw read come h =
    let next : number ≡ old.taken + 1 = next_number old number h.2 in
    let form : get_block invoke last number raw ≡ get_block invoke false (old.taken + 1) raw = rw (h.1, next) refl in
    let more : IsMore old.taken apdu raw = (invoke, read ∙ ap (λ (f : ResponseForm). Ok f) form) in
    let count : new.taken ≡ old.taken + 1 = ap (λ (j : Joining). j.taken) h.3 ∙ next in
    let joined : new.joined ≡ old.joined ++ raw = ap (λ (j : Joining). j.joined) h.3 in
    rw (count, joined) (one_more 0 old.taken before old.joined raw apdu come more)

get_more : (read : Result ResponseForm Refusal) (before : List (List ℕ)) (apdu : List ℕ) (old new : Joining) (n : ℕ) → response_at apdu ≡ read → AreBlocks 0 before old.taken old.joined → GetHears None old read (Ok (More n)) new
    → AreBlocks 0 (before ++ apdu ∷ []) new.taken new.joined
get_more (Ok (get_block invoke last number raw)) before apdu old new n e come h = block_came before apdu old new n number invoke last raw e come h
get_more (Ok _) before apdu old new n e come h = let clash = h.0 in cc
get_more (Err refusal) before apdu old new n e come h = let clash = h.0 in cc

get_more_by : (given : Option (List ℕ)) (before : List (List ℕ)) (apdu : List ℕ) (old new : Joining) (n : ℕ) → AreBlocks 0 before old.taken old.joined → GetHears given old (response_at apdu) (Ok (More n)) new
    → AreBlocks 0 (before ++ apdu ∷ []) new.taken new.joined
get_more_by (Some bytes) before apdu old new n come h = let clash = h.1 in absurd (cc)
get_more_by None before apdu old new n come h = get_more (response_at apdu) before apdu old new n refl come h

given_more : (given : Option (ℕ × List ℕ)) (read : Result ResponseForm Refusal) (old new : Joining) (n : ℕ) → old ≡ empty → ActionHears given old read (Ok (More n)) new → new ≡ empty
given_more (Some (code, bytes)) read old new n none h = let clash = h.1 in absurd (cc)
given_more None read old new n none h = h.1 ∙ none

more_by : (denial : Option Denial) (asked : Asked) (before : List (List ℕ)) (apdu : List ℕ) (old new : Joining) (n : ℕ) → AreOf asked before old → HearsBy denial asked old apdu (Ok (More n)) new → AreOf asked (before ++ apdu ∷ []) new
more_by (Some denial) asked before apdu old new n come h = let clash = h.0 in absurd (cc)
more_by None Get before apdu old new n come h = get_more_by (data_at apdu) before apdu old new n come h
more_by None Set before apdu old new n come h = h.1 ∙ come
more_by None Action before apdu old new n come h = given_more (returned_at apdu) (response_at apdu) old new n come h

pub more_came : (asked : Asked) (before : List (List ℕ)) (apdu : List ℕ) (old new : Joining) (n : ℕ) → AreOf asked before old → Hears asked old apdu (Ok (More n)) new → AreOf asked (before ++ apdu ∷ []) new
more_came asked before apdu old new n come h = more_by (denial_of apdu) asked before apdu old new n come h
