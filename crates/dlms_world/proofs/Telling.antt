-- The answers to a whole poll tell the buffer's rows.
use Rattle.std.proofs.Common.{arith, ◌≡◌, ◌<◌, ◌≤◌, ◌+◌, ◌-◌, ℕ, suc, Bool, true, false, Option, Some, None, Result, Ok, List, [], ◌∷◌, ◌++◌, map, length, length-append, refl, sym, ◌∙◌, ap, subst, if◌then◌else◌, append_assoc, nat_le, ◌⊎◌, ⊎_elim, inl, inr}
use Rattle.std.specs.Prelude.{Contains}
use Rattle.std.proofs.lemmas.List.{append-nil}
use Rattle.std.proofs.lemmas.List.Elements.{Contains-append_right}
use Rattle.dlms_apdu.specs.Forms.{Selection, ResponseForm, get_data, get_block, get_result}
use Rattle.dlms_apdu.specs.declared.fault.Refusal.{Refusal}
use Rattle.dlms_apdu.specs.Reading.{response_at}
use Rattle.dlms_apdu.proofs.WholeLaws.{reads_written_responses}
use Rattle.dlms_blocks.specs.Block.{block_bytes, is_last}
use Rattle.dlms_blocks.proofs.BlockLemmas.{whole_of}
use Rattle.dlms_classes.specs.Access.{number_of}
use Rattle.dlms_classes.specs.declared.access.AccessResult.TheVariants.{OtherReason}
use Rattle.dlms_data.specs.Value.{Value}
use Rattle.dlms_data.specs.declared.descriptor.Descriptor.{Descriptor}
use Rattle.dlms_data.specs.Writing.{canonical}
use Rattle.dlms_data.proofs.WholeLaws.{reads_one_value}
use Rattle.dlms_data.proofs.Written.{is_spelled}
use Rattle.dlms_headend.specs.Asking.{PlanValue, IsBufferRequest, IsRange, buffer, capture_objects, columns_bytes, first_second, invoke, association_bytes, last_second}
use Rattle.dlms_headend.specs.Columns.{TellsBy, TellsColumns, columns}
use Rattle.dlms_headend.proofs.Told.{rows_before}
use Rattle.dlms_world.specs.Agree.{AreAmong}
use Rattle.dlms_world.specs.Named.{IsNamed, names_after, named_readings}
use Rattle.dlms_world.proofs.Named.{rows_named, names_told, served_at, behind_first}
use Rattle.dlms_headend.specs.declared.plan.Columns.{Columns}
use Rattle.dlms_headend.specs.declared.plan.Columns.TheVariants.{Trusted, Asked as AsksColumns}
use Rattle.dlms_headend.proofs.TalkLemmas.{blocks_append}
use Rattle.dlms_headend.specs.Poll.{Accepts, Asks, associates, names, gets, goes_on as goes_further, checks, releases, AreNamed, HasBlocks, HasRows, HasNamed, HasReleased, AreBlocks, IsMoreBy, Spells, SpellsBy}
use Rattle.dlms_headend.specs.Rows.{IsProfile, IsEncoded}
use Rattle.dlms_headend.specs.declared.row.Row.{Row}
use Rattle.dlms_meter.specs.Transfers.{Exchange, Asked, InTurn}
use Rattle.dlms_meter.specs.Run.{Does}
use Rattle.dlms_service.specs.Stake.{is_success}
use Rattle.dlms_service.specs.Session.{SessionValue, Outcome, HasSize, says, without_get, has, blocks_with_get, fresh}
use Rattle.dlms_service.specs.Shown.{in_blocks, sent}
use Rattle.dlms_service.specs.declared.association.Association.{Association}
use Rattle.dlms_state.specs.Events.{buffer_after, columns_after}
use Rattle.dlms_state.specs.declared.event.Event.{Event}
use Rattle.dlms_world.specs.World.{GivesData, GivesDataBy, rows_asked, rows_between}
use Rattle.dlms_classes.specs.Shown.{clock_place}
use Rattle.dlms_world.specs.Told.{Talks, IsTold, AnswersTell}
use Rattle.dlms_world.proofs.ValuesAsRows.{table_is_profile, range_has}
use Rattle.dlms_world.proofs.Gets.{Gave, range_part, gets_tell, table_shown, columns_tell, no_data, read_result}
use Rattle.dlms_world.proofs.Sized.{association_sized}
use Rattle.dlms_world.proofs.Following.{IsSent, follow, block_read, given_blocks, spells_data, more_data, not_both, not_named, not_accepted, has_count}

-- a value that shows the rows, and is what the poll read
told_value : (plan : PlanValue) (E : List Event) (s : SessionValue) (o : Outcome) (value : Value) (r : IsRange (first_second plan.after) (last_second plan.until) value) (g : Gave buffer (range_part value) E s o) (rows : List Row) → IsProfile g.v rows → rows ≡ rows_asked plan E
told_value plan E s o value r g rows is =
    table_is_profile (columns_after E) (rows_between (clock_place (columns_after E)) (first_second plan.after) (last_second plan.until) (buffer_after E)) g.v rows (range_has (clock_place (columns_after E)) (first_second plan.after) (last_second plan.until) E)
    (table_shown E s (first_second plan.after) (last_second plan.until) value o r g) is

told_encoding : (plan : PlanValue) (E : List Event) (s : SessionValue) (o : Outcome) (value : Value) (r : IsRange (first_second plan.after) (last_second plan.until) value) (g : Gave buffer (range_part value) E s o) (rows : List Row) → IsEncoded (canonical g.v) rows → rows ≡ rows_asked plan E
told_encoding plan E s o value r g rows is =
    let bytes : List ℕ = canonical g.v in
    let same = reads_one_value bytes bytes [] bytes [] is.0 g.v (sym (append-nil bytes)) (sym (append-nil bytes)) is.1 (is_spelled g.v g.sendable.fits) in
    told_value plan E s o value r g rows (subst (λ (w : Value). IsProfile w rows) same.1 is.2)

-- the three ways in which a value is sent
which : (o x y z : Outcome) (whole blocks : Bool) → o ≡ (if whole then x else if blocks then y else z) → (o ≡ x) ⊎ (((blocks ≡ true) × (o ≡ y)) ⊎ (o ≡ z))
which o x y z true blocks is = inl is
which o x y z false true is = inr (inl (refl, is))
which o x y z false false is = inr (inr is)

-- an answer of data is one of success
gave_success : (d : Descriptor) (part : Option Selection) (E : List Event) (s : SessionValue) (o : Outcome) → Gave d part E s o → GivesData o.answer → is_success o.answer ≡ true
gave_success d part E s o g given =
    let enc : List ℕ = canonical g.v in
    let refused : Outcome = says (without_get s) (get_result invoke (number_of OtherReason)) in
    ⊎_elim (λ is. ap (λ (x : Outcome). is_success x.answer) is)
    (λ rest. ⊎_elim (λ is. ap (λ (x : Outcome). is_success x.answer) is.1)
    (λ is. absurd (no_data o (without_get s) (get_result invoke (number_of OtherReason)) (read_result (number_of OtherReason)) tt is given)) rest)
    (which o (says (without_get s) (get_data invoke g.v)) (in_blocks (without_get s) g.a invoke enc) refused (nat_le (4 + length enc) g.a.size) (has g.a blocks_with_get) g.outcome)

-- the GET of the rows comes after these APDUs
module _ (plan : PlanValue) (opening : List (List ℕ)) (only : HasBlocks plan.columns opening 0 []) (answer : List ℕ) (tail : List (List ℕ)) (rows : List Row) where
  first_get : (apdu : List ℕ) → Asks plan opening apdu → IsBufferRequest plan.after plan.until apdu
  first_get apdu (associates none is) = absurd (empty (sym none ∙ only.are))
    where
      empty : [] ≡ only.response ∷ (only.names ++ only.blocks) → ⊥
      empty e = cc
  first_get apdu (names asked a is) = absurd (not_accepted plan.columns opening 0 [] asked only a)
  first_get apdu (gets joined g is) = is
  first_get apdu (goes_further n joined some g is) = absurd (no_count (has_count plan.columns opening 0 n [] joined only g) some)
    where
      no_count : 0 ≡ n → 0 < n → ⊥
      no_count e less = omega (arith, e, less)
  first_get apdu (checks more asked r is) = absurd (not_both plan.columns opening 0 [] more only r)
  first_get apdu (releases more r is) = absurd (not_named plan.columns opening 0 [] more only r)

  -- the GET, its answer, and the exchanges after it
  module _ (x : Exchange) (served : List Exchange) (s last : SessionValue) (size : HasSize s.opened) (serves : Does x.choice x.before s x.apdu x.outcome) (chain : InTurn x.outcome.own (map Asked served) last) (asks : Asks plan opening x.apdu) where
    request : IsBufferRequest plan.after plan.until x.apdu
    request = first_get x.apdu asks

    gave : GivesData x.outcome.answer → Gave buffer (range_part request.value) x.before s x.outcome
    gave given = gets_tell x.before s request.value (first_second plan.after) (last_second plan.until) request.wanted x.outcome given x.choice (subst (λ a. Does x.choice x.before s a x.outcome) request.is serves)

    got_success : GivesData x.outcome.answer → is_success x.outcome.answer ≡ true
    got_success given = gave_success buffer (range_part request.value) x.before s x.outcome (gave given) given

    at_once : (n : ℕ) (joined : List ℕ) → n ≡ 0 → joined ≡ [] → x.outcome.answer ≡ answer → Spells n joined answer rows → GivesData x.outcome.answer → rows ≡ rows_asked plan x.before
    at_once n joined count empty said spelled given =
        let g = gave given in
        let enc : List ℕ = canonical g.v in
        let room : ℕ = g.a.size - 12 in
        let whole : Outcome = says (without_get s) (get_data invoke g.v) in
        let blocks : Outcome = in_blocks (without_get s) g.a invoke enc in
        let refused : Outcome = says (without_get s) (get_result invoke (number_of OtherReason)) in
        ⊎_elim (λ is.
        let read : response_at answer ≡ Ok (get_data invoke g.v) = ap response_at (sym said ∙ ap (λ (y : Outcome). y.answer) is) ∙ reads_written_responses (get_data invoke g.v) g.sendable.fits tt in
        let spells = subst (λ r. SpellsBy n joined r rows) read spelled in
        told_value plan x.before s x.outcome request.value request.wanted g rows spells.1)
        (λ rest. ⊎_elim (λ is.
        let few : length enc ≤ 65536 = omega (arith, g.sendable.size) in
        let read : response_at answer ≡ Ok (get_block invoke (is_last enc room 1) 1 (block_bytes enc room 1)) = ap response_at (sym said ∙ ap (λ (y : Outcome). y.answer) is.1) ∙ block_read enc room 1 few (omega arith) in
        let spells = subst (λ r. SpellsBy n joined r rows) read spelled in
        let all : joined ++ block_bytes enc room 1 ≡ enc = ap (λ l. l ++ block_bytes enc room 1) empty ∙ whole_of enc room 1 spells.0 in
        told_encoding plan x.before s x.outcome request.value request.wanted g rows (subst (λ bytes. IsEncoded bytes rows) all spells.2))
        (λ is. absurd (no_data x.outcome (without_get s) (get_result invoke (number_of OtherReason)) (read_result (number_of OtherReason)) tt is given)) rest)
        (which x.outcome whole blocks refused (nat_le (4 + length enc) g.a.size) (has g.a blocks_with_get) g.outcome)

    in_parts : (b : List ℕ) (blocks : List (List ℕ)) (n : ℕ) (joined : List ℕ) → x.outcome.answer ≡ b → AreBlocks 0 (b ∷ blocks) n joined → Spells n joined answer rows → Talks plan (opening ++ b ∷ []) served (blocks ++ answer ∷ tail) → GivesData x.outcome.answer → rows ≡ rows_asked plan x.before
    in_parts b bs n joined said come spelled talk given =
        let g = gave given in
        let enc : List ℕ = canonical g.v in
        let room : ℕ = g.a.size - 12 in
        let whole : Outcome = says (without_get s) (get_data invoke g.v) in
        let blocks : Outcome = in_blocks (without_get s) g.a invoke enc in
        let refused : Outcome = says (without_get s) (get_result invoke (number_of OtherReason)) in
        ⊎_elim (λ is.
        let read : response_at b ≡ Ok (get_data invoke g.v) = ap response_at (sym said ∙ ap (λ (y : Outcome). y.answer) is) ∙ reads_written_responses (get_data invoke g.v) g.sendable.fits tt in
        absurd (subst (λ r. IsMoreBy 0 r come.0) read come.2))
        (λ rest. ⊎_elim (λ is.
        let few : length enc ≤ 65536 = omega (arith, g.sendable.size) in
        let read : response_at b ≡ Ok (get_block invoke (is_last enc room 1) 1 (block_bytes enc room 1)) = ap response_at (sym said ∙ ap (λ (y : Outcome). y.answer) is.1) ∙ block_read enc room 1 few (omega arith) in
        let more = subst (λ r. IsMoreBy 0 r come.0) read come.2 in
        let goes : x.outcome.own.getting ≡ Some (given_blocks enc room 1 false) = ap (λ (y : Outcome). y.own.getting) is.1 ∙ ap (λ l. Some (given_blocks enc room 1 l)) more.0 in
        let sized : HasSize (Some g.a) = subst HasSize g.opened size in
        let sent_so : IsSent enc room = record { short = few; some = omega (arith, sized.0) } in
        told_encoding plan x.before s x.outcome request.value request.wanted g rows
        (follow plan enc room sent_so n answer tail rows last bs 1 (opening ++ b ∷ []) come.0 come.1 x.outcome.own served (omega arith) (omega arith) (blocks_append plan.columns opening 0 [] come.0 b only come.2) (sym more.2) goes chain talk come.4
        (subst (λ j. Spells n j answer rows) come.3 spelled)))
        (λ is. absurd (no_data x.outcome (without_get s) (get_result invoke (number_of OtherReason)) (read_result (number_of OtherReason)) tt is given)) rest)
        (which x.outcome whole blocks refused (nat_le (4 + length enc) g.a.size) (has g.a blocks_with_get) g.outcome)

-- ---- what comes before the GET

first_is_in : (x : Exchange) (xs : List Exchange) → Contains (x ∷ xs) x
first_is_in x xs = (0, omega arith, refl)

-- rows came in two APDUs at least
pub short_rows : (columns : Columns) (apdus : List (List ℕ)) (rows : List Row) → HasRows columns apdus rows → length apdus ≤ 1 → ⊥
short_rows columns apdus rows r short =
    omega (arith, short, ap length r.are, length-append r.before (r.answer ∷ []), ap length r.blocks.are)

pub short_named : (columns : Columns) (apdus : List (List ℕ)) (rows : List Row) → HasNamed columns apdus rows → length apdus ≤ 1 → ⊥
short_named columns apdus rows r short =
    let more = length-append r.before r.names in
    let same = ap length r.are in
    short_rows columns r.before rows r.polled (omega (arith, short, more, same))

pub short_released : (columns : Columns) (apdus : List (List ℕ)) (rows : List Row) → HasReleased columns apdus rows → length apdus ≤ 1 → ⊥
short_released columns apdus rows r short = short_named columns r.before rows r.polled (omega (arith, short, ap length r.are, length-append r.before (r.answer ∷ [])))

-- the answers that a poll took, by what they answer, and those after them
pub named_parts : (asking : Columns) (apdus post : List (List ℕ)) (rows : List Row) (r : HasNamed asking apdus rows) → apdus ++ post ≡ r.polled.blocks.response ∷ (r.polled.blocks.names ++ (r.polled.blocks.blocks ++ r.polled.answer ∷ (r.names ++ post)))
named_parts asking apdus post rows r =
    let polled = r.polled in
    let hb = polled.blocks in
    ap (λ l. l ++ post) r.are ∙ append_assoc r.before r.names post
    ∙ ap (λ l. l ++ (r.names ++ post)) polled.are ∙ append_assoc polled.before (polled.answer ∷ []) (r.names ++ post)
    ∙ ap (λ l. l ++ polled.answer ∷ (r.names ++ post)) hb.are
    ∙ ap (λ l. hb.response ∷ l) (append_assoc hb.names hb.blocks (polled.answer ∷ (r.names ++ post)))

-- the first APDU that a poll asks
first_asked : (plan : PlanValue) (apdu : List ℕ) → Asks plan [] apdu → apdu ≡ association_bytes plan
first_asked plan apdu (associates none is) = is
first_asked plan apdu (names asked a is) = cc (a.are)
first_asked plan apdu (gets joined g is) = cc (g.are)
first_asked plan apdu (goes_further n joined some g is) = cc (g.are)
first_asked plan apdu (checks rows asked r is) = absurd (short_rows plan.columns [] rows r (omega arith))
first_asked plan apdu (releases rows r is) = absurd (short_named plan.columns [] rows r (omega arith))

-- the second one, if it asks for the columns
second_asked : (plan : PlanValue) (response apdu : List ℕ) → Accepts response → plan.columns ≡ AsksColumns → Asks plan (response ∷ []) apdu → apdu ≡ columns_bytes
second_asked plan response apdu accepts asked (associates none is) = cc
second_asked plan response apdu accepts asked (names same a is) = is
second_asked plan response apdu accepts asked (gets joined g is) = absurd (not_accepted plan.columns (response ∷ []) 0 joined asked g (record { response = response; are = refl; accepts = accepts }))
second_asked plan response apdu accepts asked (goes_further n joined some g is) = absurd (not_accepted plan.columns (response ∷ []) n joined asked g (record { response = response; are = refl; accepts = accepts }))
second_asked plan response apdu accepts asked (checks rows same r is) = absurd (short_rows plan.columns (response ∷ []) rows r (omega arith))
second_asked plan response apdu accepts asked (releases rows r is) = absurd (short_named plan.columns (response ∷ []) rows r (omega arith))

-- it leaves the association as it was
still_sized : (a : Association) (s : SessionValue) (v : Value) → HasSize s.opened → HasSize (sent (without_get s) a invoke v).own.opened
still_sized a s v size =
    elim (nat_le (4 + length (canonical v)) a.size) as (λ b. HasSize (if b then says (without_get s) (get_data invoke v) else if has a blocks_with_get then in_blocks (without_get s) a invoke (canonical v) else says (without_get s) (get_result invoke (number_of OtherReason))).own.opened) [
      | true ↦ size
      | false ↦ elim (has a blocks_with_get) as (λ b. HasSize (if b then in_blocks (without_get s) a invoke (canonical v) else says (without_get s) (get_result invoke (number_of OtherReason))).own.opened) [ true ↦ size | false ↦ size ]
    ]

pub tells_data : (read : Result ResponseForm Refusal) → TellsBy read → GivesDataBy read
tells_data (Ok (get_data i v)) h = tt
tells_data _ h = absurd h

-- after rows that were requested with the columns, the columns are requested again
last_asked : (plan : PlanValue) (apdus : List (List ℕ)) (rows : List Row) (apdu : List ℕ) → plan.columns ≡ AsksColumns → HasRows plan.columns apdus rows → Asks plan apdus apdu → apdu ≡ columns_bytes
last_asked plan apdus rows apdu asked h (associates none is) = absurd (short_rows plan.columns apdus rows h (subst (λ (l : List (List ℕ)). length l ≤ 1) (sym none) (omega arith)))
last_asked plan apdus rows apdu asked h (names same a is) = absurd (short_rows plan.columns apdus rows h (subst (λ (l : List (List ℕ)). length l ≤ 1) (sym a.are) (omega arith)))
last_asked plan apdus rows apdu asked h (gets joined g is) = absurd (not_both plan.columns apdus 0 joined rows g h)
last_asked plan apdus rows apdu asked h (goes_further n joined some g is) = absurd (not_both plan.columns apdus n joined rows g h)
last_asked plan apdus rows apdu asked h (checks more same r is) = is
last_asked plan apdus rows apdu asked h (releases more r is) =
    let one : AreNamed AsksColumns r.names = subst (λ (c : Columns). AreNamed c r.names) asked r.named in
    absurd (rows_before plan.columns apdus r.before [] one.0 rows more h r.polled (r.are ∙ ap (λ (l : List (List ℕ)). r.before ++ l) one.1))

-- an exchange that was answered with the columns
told_names : (s : SessionValue) (x : Exchange) (answer : List ℕ) → x.apdu ≡ columns_bytes → x.outcome.answer ≡ answer → TellsColumns answer → Does x.choice x.before s x.apdu x.outcome → names_after x.before ≡ columns
told_names s x answer asked said tells does =
    let told : TellsBy (response_at x.outcome.answer) = subst TellsColumns (sym said) tells in
    let given : GivesData x.outcome.answer = tells_data (response_at x.outcome.answer) told in
    names_told s x.before x.outcome (columns_tell x.before s x.outcome given x.choice (subst (λ a. Does x.choice x.before s a x.outcome) asked does)) told

module _ (plan : PlanValue) (answer : List ℕ) (tail : List (List ℕ)) (rows : List Row) (last : SessionValue) (n : ℕ) (joined : List ℕ) (spelled : Spells n joined answer rows) where
  -- these were served before it
  from_get : (opening : List (List ℕ)) (only : HasBlocks plan.columns opening 0 []) (firsts : List Exchange) (s : SessionValue) → HasSize s.opened → (blocks : List (List ℕ)) (served : List Exchange) → AreBlocks 0 blocks n joined → InTurn s (map Asked served) last
      → Talks plan opening served (blocks ++ answer ∷ tail)
      → ((x : Exchange) (rest : List Exchange) → served ≡ x ∷ rest → IsBufferRequest plan.after plan.until x.apdu → is_success x.outcome.answer ≡ true → rows ≡ rows_asked plan x.before → plan.columns ≡ AsksColumns → IsNamed plan (firsts ++ served) rows) → IsTold plan (firsts ++ served) rows
  from_get opening only firsts s size [] [] come chain talk by_name = absurd talk
  from_get opening only firsts s size [] (x ∷ served) come chain talk by_name =
      let given : GivesData x.outcome.answer = subst GivesData (sym talk.1) (spells_data n joined (response_at answer) rows spelled) in
      let asked : IsBufferRequest plan.after plan.until x.apdu = first_get plan opening only answer tail rows x.apdu talk.0 in
      let success : is_success x.outcome.answer ≡ true = got_success plan opening only answer tail rows x served s last size chain.0 chain.1 talk.0 given in
      let are : rows ≡ rows_asked plan x.before = at_once plan opening only answer tail rows x served s last size chain.0 chain.1 talk.0 n joined come.0 come.1 talk.1 spelled given in
      record {
        get = x;
        took = Contains-append_right firsts (x ∷ served) x (first_is_in x served);
        asked = asked;
        success = success;
        are = are;
        names = by_name x served refl asked success are;
      }
  from_get opening only firsts s size (b ∷ blocks) [] come chain talk by_name = absurd talk
  from_get opening only firsts s size (b ∷ blocks) (x ∷ served) come chain talk by_name =
      let given : GivesData x.outcome.answer = subst GivesData (sym talk.1) (more_data 0 (response_at b) come.0 come.2) in
      let asked : IsBufferRequest plan.after plan.until x.apdu = first_get plan opening only answer tail rows x.apdu talk.0 in
      let success : is_success x.outcome.answer ≡ true = got_success plan opening only answer tail rows x served s last size chain.0 chain.1 talk.0 given in
      let are : rows ≡ rows_asked plan x.before = in_parts plan opening only answer tail rows x served s last size chain.0 chain.1 talk.0 b blocks n joined talk.1 come spelled talk.2 given in
      record {
        get = x;
        took = Contains-append_right firsts (x ∷ served) x (first_is_in x served);
        asked = asked;
        success = success;
        are = are;
        names = by_name x served refl asked success are;
      }

  -- the association is there, and an answer with the columns comes, if the plan asks for them, and again after the rows
  from_names : (asking : Columns) → plan.columns ≡ asking → (response : List ℕ) → Accepts response → (named blocks again post : List (List ℕ)) → AreNamed asking named → AreNamed asking again → tail ≡ again ++ post
      → (first : Exchange) → HasSize first.outcome.own.opened → (served : List Exchange) → AreBlocks 0 blocks n joined → InTurn first.outcome.own (map Asked served) last → Talks plan (response ∷ []) served (named ++ (blocks ++ answer ∷ tail)) → IsTold plan (first ∷ served) rows
  from_names Trusted is response accepts named blocks again post none none_again behind_rows first size served come chain talk =
      let named_so : AreNamed plan.columns [] = subst (λ (c : Columns). AreNamed c []) (sym is) refl in
      let only : HasBlocks plan.columns (response ∷ []) 0 [] = record { response = response; names = []; blocks = []; are = refl; accepts = accepts; named = named_so; come = (refl, refl) } in
      from_get (response ∷ []) only (first ∷ []) first.outcome.own size blocks served come chain (subst (λ l. Talks plan (response ∷ []) served (l ++ (blocks ++ answer ∷ tail))) none talk)
      (λ x rest same request success are asked. let clash : Trusted ≡ AsksColumns = sym is ∙ asked in cc)
  from_names AsksColumns is response accepts named blocks again post one once_more behind_rows first size served come chain talk =
      behind served chain (subst (λ l. Talks plan (response ∷ []) served (l ++ (blocks ++ answer ∷ tail))) one.1 talk)
    where
      named_so : AreNamed plan.columns (one.0 ∷ [])
      named_so = subst (λ (c : Columns). AreNamed c (one.0 ∷ [])) (sym is) (one.0, refl, one.2)

      only : HasBlocks plan.columns (response ∷ one.0 ∷ []) 0 []
      only = record { response = response; names = one.0 ∷ []; blocks = []; are = refl; accepts = accepts; named = named_so; come = (refl, refl) }

      came : HasRows plan.columns (response ∷ one.0 ∷ (blocks ++ answer ∷ [])) rows
      came = record {
        before = response ∷ one.0 ∷ blocks;
        answer = answer;
        taken = n;
        joined = joined;
        are = refl;
        blocks = record { response = response; names = one.0 ∷ []; blocks = blocks; are = refl; accepts = accepts; named = named_so; come = come };
        spelled = spelled;
      }

      whole : blocks ++ answer ∷ tail ≡ (blocks ++ answer ∷ []) ++ once_more.0 ∷ post
      whole = ap (λ l. blocks ++ answer ∷ l) (behind_rows ∙ ap (λ l. l ++ post) once_more.1) ∙ sym (append_assoc blocks (answer ∷ []) (once_more.0 ∷ post))

      behind : (served : List Exchange) → InTurn first.outcome.own (map Asked served) last → Talks plan (response ∷ []) served (one.0 ∷ (blocks ++ answer ∷ tail)) → IsTold plan (first ∷ served) rows
      behind [] chain talk = absurd talk
      behind (y ∷ served) chain talk =
          let given : GivesData y.outcome.answer = subst GivesData (sym talk.1) (tells_data (response_at one.0) one.2) in
          let asked_first : y.apdu ≡ columns_bytes = second_asked plan response y.apdu accepts is talk.0 in
          let does : Does y.choice y.before first.outcome.own columns_bytes y.outcome = subst (λ a. Does y.choice y.before first.outcome.own a y.outcome) asked_first chain.0 in
          let gave = columns_tell y.before first.outcome.own y.outcome given y.choice does in
          let sized : HasSize y.outcome.own.opened = subst (λ (o : Outcome). HasSize o.own.opened) (sym gave.outcome) (still_sized gave.a first.outcome.own gave.v size) in
          let there = served_at plan (response ∷ one.0 ∷ []) (blocks ++ answer ∷ []) post once_more.0 served y.outcome.own last chain.1 (subst (Talks plan (response ∷ one.0 ∷ []) served) whole talk.2) in
          let asked_last : there.exchange.apdu ≡ columns_bytes = last_asked plan (response ∷ one.0 ∷ (blocks ++ answer ∷ [])) rows there.exchange.apdu is came there.asks in
          let many : length there.front ≡ suc (length blocks) = omega (arith, there.as_many, length-append blocks (answer ∷ [])) in
          from_get (response ∷ one.0 ∷ []) only (first ∷ y ∷ []) y.outcome.own sized blocks served come chain.1 talk.2
          (λ x rest same request success are asked.
          let place = behind_first x rest there.front there.back there.exchange (length blocks) (sym same ∙ there.are) many in
          record {
            association = first;
            first = y;
            get = x;
            between = place.0;
            last = there.exchange;
            more = there.back;
            are = ap (λ l. first ∷ y ∷ l) same ∙ ap (λ l. first ∷ y ∷ x ∷ l) place.1;
            asked_first = asked_first;
            asked = request;
            asked_last = asked_last;
            success_first = gave_success capture_objects None y.before first.outcome.own y.outcome gave given;
            success = success;
            names_first = told_names first.outcome.own y one.0 asked_first talk.1 one.2 chain.0;
            names_last = told_names there.session there.exchange once_more.0 asked_last there.answers once_more.2 there.does;
            named = λ e. subst (AreAmong (named_readings x.before)) (sym are) (rows_named plan x.before e);
          })

-- after the association, the answers to the rest of a poll, and others after them
pub told_after : (plan : PlanValue) (x : Exchange) (served : List Exchange) (last : SessionValue) (more apdus post : List (List ℕ)) (rows : List Row) → HasSize x.outcome.own.opened → InTurn x.outcome.own (map Asked served) last
    → Talks plan (x.outcome.answer ∷ []) served more → HasNamed plan.columns apdus rows → x.outcome.answer ∷ more ≡ apdus ++ post → IsTold plan (x ∷ served) rows
told_after plan x served last more apdus post rows sized chain talk named are =
    from_names plan polled.answer (named.names ++ post) rows last polled.taken polled.joined polled.spelled plan.columns refl hb.response hb.accepts hb.names hb.blocks named.names post hb.named named.named refl x sized served hb.come chain
    (subst (λ l. Talks plan (hb.response ∷ []) served l) tails (subst (λ a. Talks plan (a ∷ []) served more) heads talk))
  where
    polled : HasRows plan.columns named.before rows
    polled = named.polled

    hb : HasBlocks plan.columns polled.before polled.taken polled.joined
    hb = polled.blocks

    all : x.outcome.answer ∷ more ≡ hb.response ∷ (hb.names ++ (hb.blocks ++ polled.answer ∷ (named.names ++ post)))
    all = are ∙ named_parts plan.columns apdus post rows named

    heads : x.outcome.answer ≡ hb.response
    heads = cc all

    tails : more ≡ hb.names ++ (hb.blocks ++ polled.answer ∷ (named.names ++ post))
    tails = cc all

pub tells : AnswersTell
tells plan [] last [] rows chain talk released = absurd (short_released plan.columns [] rows released (omega arith))
tells plan [] last (a ∷ more) rows chain talk released = absurd talk
tells plan (x ∷ served) last [] rows chain talk released = absurd (short_released plan.columns [] rows released (omega arith))
tells plan (x ∷ served) last (a ∷ more) rows chain talk released =
    told_after plan x served last more released.before (released.answer ∷ []) rows
    (association_sized x.choice x.before _ (fresh plan.client) x.outcome (subst (λ b. Does x.choice x.before (fresh plan.client) b x.outcome) (first_asked plan x.apdu talk.0) chain.0)) chain.1
    (subst (λ l. Talks plan (l ∷ []) served more) (sym talk.1) talk.2) released.polled (ap (λ l. l ∷ more) talk.1 ∙ released.are)
