-- A poll's requests for further blocks, and the blocks that answer them.
use Rattle.std.proofs.Common.{arith, ◌≡◌, ◌<◌, ◌≤◌, ◌+◌, ◌-◌, ◌*◌, ◌==◌, ℕ, zero, suc, Bool, true, false, Option, Some, None, Result, Ok, List, [], ◌∷◌, ◌++◌, map, length, length-append, drop, refl, sym, ◌∙◌, ap, subst, append_assoc}
use Rattle.std.specs.Prelude.{◌^◌}
use Rattle.std.proofs.lemmas.List.{append-nil}
use Rattle.std.proofs.lemmas.Bool.{leb-false}
use Rattle.std.proofs.lemmas.Bool.Decides.{nat_tests}
use Rattle.std.proofs.Math.Numerals.{add-one}
use Rattle.dlms_apdu.specs.Forms.{ResponseForm, get_next, get_data, get_block, get_block_result, exception}
use Rattle.dlms_apdu.specs.Reading.{response_at}
use Rattle.dlms_apdu.specs.Writing.{response_bytes}
use Rattle.dlms_apdu.specs.declared.fault.Refusal.{Refusal}
use Rattle.dlms_apdu.proofs.WholeLaws.{reads_written_requests, reads_written_responses}
use Rattle.dlms_blocks.specs.Block.{block_bytes, blocks_up_to, is_last}
use Rattle.dlms_blocks.specs.Going.{Going}
use Rattle.dlms_blocks.proofs.BlockLemmas.{whole_of}
use Rattle.dlms_headend.specs.Asking.{PlanValue, invoke, next_bytes}
use Rattle.dlms_headend.specs.Poll.{Asks, associates, names, gets, goes_on as goes_further, checks, releases, HasAccepted, AreNamed, HasBlocks, HasRows, HasNamed, AreBlocks, IsMoreBy, Spells, SpellsBy}
use Rattle.dlms_headend.specs.declared.plan.Columns.{Columns}
use Rattle.dlms_headend.specs.declared.plan.Columns.TheVariants.{Asked as AsksColumns}
use Rattle.dlms_headend.proofs.TalkLemmas.{blocks_append}
use Rattle.dlms_headend.proofs.Told.{has_blocks_told, rows_inside}
use Rattle.dlms_headend.specs.Rows.{IsEncoded}
use Rattle.dlms_headend.specs.declared.row.Row.{Row}
use Rattle.dlms_meter.specs.Transfers.{Exchange, Asked, InTurn}
use Rattle.dlms_meter.specs.Run.{Choice, Does, DeviceFails, Served}
use Rattle.dlms_service.specs.Serves.{Choice as Memory, FindsMemory, LacksMemoryToRead, LacksMemoryToAnswer, Requested, Permitted, Read, Within, permits}
use Rattle.dlms_service.specs.Session.{SessionValue, Outcome}
use Rattle.dlms_service.specs.Shown.{goes_on}
use Rattle.dlms_service.specs.declared.association.Association.{Association}
use Rattle.dlms_state.specs.declared.event.Event.{Event}
use Rattle.dlms_world.specs.World.{GivesData, GivesDataBy}
use Rattle.dlms_world.specs.Told.{Talks}
use Rattle.dlms_world.proofs.Gets.{no_data, no_data_in, failed_get, read_exception}

-- ---- what came before

pub has_count : (columns : Columns) (apdus : List (List ℕ)) (t u : ℕ) (i j : List ℕ) → HasBlocks columns apdus t i → HasBlocks columns apdus u j → t ≡ u
has_count columns apdus t u i j h k = (has_blocks_told columns apdus t u i j h k).0

-- rows came with an APDU that is no block with others to follow
pub not_both : (columns : Columns) (apdus : List (List ℕ)) (k : ℕ) (joined : List ℕ) (rows : List Row) → HasBlocks columns apdus k joined → HasRows columns apdus rows → ⊥
not_both columns apdus k joined rows h r = rows_inside columns apdus apdus [] k joined rows h r (sym (append-nil apdus))

pub not_named : (columns : Columns) (apdus : List (List ℕ)) (k : ℕ) (joined : List ℕ) (rows : List Row) → HasBlocks columns apdus k joined → HasNamed columns apdus rows → ⊥
not_named columns apdus k joined rows h r = rows_inside columns apdus r.before r.names k joined rows h r.polled r.are

-- if the plan asks for the columns, an answer with them came after the acceptance
pub not_accepted : (columns : Columns) (apdus : List (List ℕ)) (k : ℕ) (joined : List ℕ) → columns ≡ AsksColumns → HasBlocks columns apdus k joined → HasAccepted apdus → ⊥
not_accepted columns apdus k joined asked h a =
    let named : AreNamed AsksColumns h.names = subst (λ (c : Columns). AreNamed c h.names) asked h.named in
    omega (arith, ap length (sym h.are ∙ a.are), length-append h.names h.blocks, ap length named.1)

-- after this many blocks the next one is requested
pub asks_next : (plan : PlanValue) (apdus : List (List ℕ)) (k : ℕ) (joined apdu : List ℕ) → 0 < k → HasBlocks plan.columns apdus k joined → Asks plan apdus apdu → apdu ≡ next_bytes k
asks_next plan apdus k joined apdu some h (associates none is) = absurd (empty (sym none ∙ h.are))
  where
    empty : [] ≡ h.response ∷ (h.names ++ h.blocks) → ⊥
    empty e = cc
asks_next plan apdus k joined apdu some h (names asked a is) = absurd (not_accepted plan.columns apdus k joined asked h a)
asks_next plan apdus k joined apdu some h (gets other g is) = absurd (none_zero k some (has_count plan.columns apdus k 0 joined other h g))
  where
    none_zero : (k : ℕ) → 0 < k → k ≡ 0 → ⊥
    none_zero k some e = omega (arith, some, e)
asks_next plan apdus k joined apdu some h (goes_further n other more g is) = is ∙ ap next_bytes (has_count plan.columns apdus n k other joined g h)
asks_next plan apdus k joined apdu some h (checks rows asked r is) = absurd (not_both plan.columns apdus k joined rows h r)
asks_next plan apdus k joined apdu some h (releases rows r is) = absurd (not_named plan.columns apdus k joined rows h r)

-- ---- what is served

module _ (E : List Event) (s : SessionValue) (k : ℕ) (o : Outcome) (given : GivesData o.answer) (few : k < 2 ^ 32) where
  next_permit : (a : Association) (b : Bool) → Permitted E s a (get_next invoke k) b o → o ≡ goes_on s invoke k
  next_permit a true is = is
  next_permit a false is = absurd (no_data o s (exception 1 2) (read_exception 1 2) tt is given)

  next_choice : (choice : Memory) (a : Association) → Requested choice E s a (get_next invoke k) o → o ≡ goes_on s invoke k
  next_choice FindsMemory a is = next_permit a (permits a (get_next invoke k)) is
  next_choice LacksMemoryToRead a is = absurd (no_data o s (exception 1 3) (read_exception 1 3) tt is.1.1 given)
  next_choice LacksMemoryToAnswer a is = absurd (no_data o s (exception 1 3) (read_exception 1 3) tt is.1.1 given)

  next_within : (choice : Memory) (opened : Option Association) → Within choice E s (next_bytes k) opened o → o ≡ goes_on s invoke k
  next_within choice None is = absurd (no_data o s (exception 1 1) (read_exception 1 1) tt is given)
  next_within choice (Some a) is = next_choice choice a (subst (λ form. Read choice E s a form o) (reads_written_requests (get_next invoke k) tt few) is)

  pub next_tells : (choice : Choice) → Does choice E s (next_bytes k) o → o ≡ goes_on s invoke k
  next_tells (Served memory) serves = next_within memory s.opened serves
  next_tells (DeviceFails kept wanted) ((form, read, would, leads, success, is), wants) =
      absurd (no_data_in o.answer (get_block_result invoke k 1) (reads_written_responses (get_block_result invoke k 1) tt few) tt
      (failed_get kept s (get_next invoke k) form would.accepted (sym read ∙ reads_written_requests (get_next invoke k) tt few) o is) given)

-- a value that goes out in blocks, of which so many were given, and the last of them was the last one or not
abbrev pub given_blocks : List ℕ → ℕ → ℕ → Bool → Going
given_blocks encoding room k over = record { encoding = encoding; room = room; given = k; over = over }

abbrev pub block_answer : List ℕ → ℕ → ℕ → List ℕ
block_answer encoding room n = response_bytes (get_block invoke (is_last encoding room n) n (block_bytes encoding room n))

same_number : (n : ℕ) → (n == n) ≡ true
same_number n = grind (arith, nat_tests)

pub next_block : (s : SessionValue) (encoding : List ℕ) (room k : ℕ) → s.getting ≡ Some (given_blocks encoding room k false) →
    ((goes_on s invoke k).answer ≡ block_answer encoding room (k + 1)) × ((goes_on s invoke k).own.getting ≡ Some (given_blocks encoding room (k + 1) (is_last encoding room (k + 1))))
next_block s encoding room k is = (rw (is, same_number k) refl, rw (is, same_number k) refl)

-- ---- the blocks of one encoding

-- it is short enough, and its blocks hold something
pub record IsSent (encoding : List ℕ) (room : ℕ) : Type 0 where
  pub short : length encoding ≤ 65536
  pub some : 0 < room

raw_short : (encoding : List ℕ) (room n : ℕ) → length encoding ≤ 65536 → length (block_bytes encoding room n) < 2 ^ 32
raw_short encoding room n short = omega (arith, short, Rattle.std.proofs.lemmas.List.length-take room (drop ((n - 1) * room) encoding), Rattle.std.proofs.lemmas.List.length-drop ((n - 1) * room) encoding)

pub block_read : (encoding : List ℕ) (room n : ℕ) → length encoding ≤ 65536 → n < 2 ^ 32 →
    response_at (block_answer encoding room n) ≡ Ok (get_block invoke (is_last encoding room n) n (block_bytes encoding room n))
block_read encoding room n short few = reads_written_responses (get_block invoke (is_last encoding room n) n (block_bytes encoding room n)) (raw_short encoding room n short) few

times : (room : ℕ) → 0 < room → (n : ℕ) → n ≤ n * room
times room some zero = omega arith
times room some (suc n) = let more : n * room + room ≡ suc n * room = omega arith in omega (arith, more, times room some n, some)

-- a block that is not the last one has a small number
pub few_blocks : (encoding : List ℕ) (room n : ℕ) → IsSent encoding room → is_last encoding room n ≡ false → n < 65536
few_blocks encoding room n sent last = omega (arith, leb-false (length encoding) (n * room) last, sent.short, times room sent.some n)

pub one_more : (encoding : List ℕ) (room k : ℕ) → blocks_up_to encoding room k ++ block_bytes encoding room (k + 1) ≡ blocks_up_to encoding room (k + 1)
one_more encoding room k = ap (blocks_up_to encoding room) (sym (add-one k))

pub spells_data : (taken : ℕ) (joined : List ℕ) (read : Result ResponseForm Refusal) (rows : List Row) → SpellsBy taken joined read rows → GivesDataBy read
spells_data taken joined (Ok (get_data i v)) rows h = tt
spells_data taken joined (Ok (get_block i last number raw)) rows h = tt
spells_data taken joined _ rows h = absurd h

pub more_data : (taken : ℕ) (read : Result ResponseForm Refusal) (bytes : List ℕ) → IsMoreBy taken read bytes → GivesDataBy read
more_data taken (Ok (get_block i last number raw)) bytes h = tt
more_data taken _ bytes h = absurd h

module _ (plan : PlanValue) (encoding : List ℕ) (room : ℕ) (sent : IsSent encoding room) (n : ℕ) (answer : List ℕ) (tail : List (List ℕ)) (rows : List Row) (last : SessionValue) where
  -- after k blocks come these, and then the last one: their bytes, joined, are the encoding
  pub follow : (blocks : List (List ℕ)) (k : ℕ) (before : List (List ℕ)) (joined rest : List ℕ) (s : SessionValue) (served : List Exchange) → 0 < k → k < 65536 → HasBlocks plan.columns before k joined → joined ≡ blocks_up_to encoding room k →
      s.getting ≡ Some (given_blocks encoding room k false) → InTurn s (map Asked served) last → Talks plan before served (blocks ++ answer ∷ tail) → AreBlocks k blocks n rest → Spells n (joined ++ rest) answer rows → IsEncoded encoding rows
  follow [] k before joined rest s [] some few h is getting chain talk come spelled = absurd talk
  follow [] k before joined rest s (x ∷ served) some few h is getting chain talk come spelled =
      let given : GivesData x.outcome.answer = subst GivesData (sym talk.1) (spells_data n (joined ++ rest) (response_at answer) rows spelled) in
      let next : x.apdu ≡ next_bytes k = asks_next plan before k joined x.apdu some h talk.0 in
      let o : x.outcome ≡ goes_on s invoke k = next_tells x.before s k x.outcome given (omega (arith, few)) x.choice (subst (λ a. Does x.choice x.before s a x.outcome) next chain.0) in
      let said : answer ≡ block_answer encoding room (k + 1) = sym talk.1 ∙ ap (λ (y : Outcome). y.answer) o ∙ (next_block s encoding room k getting).0 in
      let read : response_at answer ≡ Ok (get_block invoke (is_last encoding room (k + 1)) (k + 1) (block_bytes encoding room (k + 1))) = ap response_at said ∙ block_read encoding room (k + 1) sent.short (omega (arith, few)) in
      let spells = subst (λ r. SpellsBy n (joined ++ rest) r rows) read spelled in
      let whole : (joined ++ rest) ++ block_bytes encoding room (k + 1) ≡ encoding =
      ap (λ l. (joined ++ l) ++ block_bytes encoding room (k + 1)) come.1 ∙ ap (λ l. l ++ block_bytes encoding room (k + 1)) (append-nil joined ∙ is) ∙ one_more encoding room k ∙ whole_of encoding room (k + 1) spells.0 in
      subst (λ bytes. IsEncoded bytes rows) whole spells.2
  follow (b ∷ blocks) k before joined rest s [] some few h is getting chain talk come spelled = absurd talk
  follow (b ∷ blocks) k before joined rest s (x ∷ served) some few h is getting chain talk come spelled =
      let given : GivesData x.outcome.answer = subst GivesData (sym talk.1) (more_data k (response_at b) come.0 come.2) in
      let next : x.apdu ≡ next_bytes k = asks_next plan before k joined x.apdu some h talk.0 in
      let o : x.outcome ≡ goes_on s invoke k = next_tells x.before s k x.outcome given (omega (arith, few)) x.choice (subst (λ a. Does x.choice x.before s a x.outcome) next chain.0) in
      let said : b ≡ block_answer encoding room (k + 1) = sym talk.1 ∙ ap (λ (y : Outcome). y.answer) o ∙ (next_block s encoding room k getting).0 in
      let read : response_at b ≡ Ok (get_block invoke (is_last encoding room (k + 1)) (k + 1) (block_bytes encoding room (k + 1))) = ap response_at said ∙ block_read encoding room (k + 1) sent.short (omega (arith, few)) in
      let more = subst (λ r. IsMoreBy k r come.0) read come.2 in
      let goes : x.outcome.own.getting ≡ Some (given_blocks encoding room (k + 1) false) =
      ap (λ (y : Outcome). y.own.getting) o ∙ (next_block s encoding room k getting).1 ∙ ap (λ l. Some (given_blocks encoding room (k + 1) l)) more.0 in
      let joins : joined ++ come.0 ≡ blocks_up_to encoding room (k + 1) = ap (λ l. l ++ come.0) is ∙ ap (λ l. blocks_up_to encoding room k ++ l) (sym more.2) ∙ one_more encoding room k in
      follow blocks (k + 1) (before ++ b ∷ []) (joined ++ come.0) come.1 x.outcome.own served (omega arith) (few_blocks encoding room (k + 1) sent more.0) (blocks_append plan.columns before k joined come.0 b h come.2) joins goes chain.1 talk.2 come.4
      (subst (λ j. Spells n j answer rows) (ap (λ l. joined ++ l) come.3 ∙ sym (append_assoc joined come.0 come.1)) spelled)
