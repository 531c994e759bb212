-- One more APDU.
use Rattle.std.proofs.Common.{refl, sym, ap, subst, ◌∙◌, ◌≡◌, ◌+◌, ◌++◌, ℕ, List, [], ◌∷◌, Bool, true, false, Result, Ok, Err, append_assoc, append-nil, if◌then◌else◌}
use Rattle.dlms_acse.specs.Reading.{aare_at}
use Rattle.dlms_acse.specs.declared.fault.AcseFault.{AcseFault}
use Rattle.dlms_acse.specs.declared.outcome.Verdict.{Verdict}
use Rattle.dlms_acse.specs.declared.outcome.Verdict.TheVariants.{Accepted, Refused as Rejected}
use Rattle.dlms_apdu.specs.Reading.{response_at}
use Rattle.dlms_blocks.specs.Joining.{Joining, empty}
use Rattle.dlms_headend.specs.declared.row.Row.{Row}
use Rattle.dlms_headend.specs.declared.stage.Stage.{Stage}
use Rattle.dlms_headend.specs.declared.stage.Stage.TheVariants.{Associating, Naming, Getting, Checking, Releasing, Leaving}
use Rattle.dlms_headend.specs.declared.poll_fault.PollFault.{PollFault}
use Rattle.dlms_headend.specs.declared.poll_fault.PollFault.TheVariants.{Refused, Result as BadResult, Line, Protocol, Columns as OtherColumns, Memory}
use Rattle.dlms_headend.specs.Heard.{joined_on, HasTaken, FailsOrWants}
use Rattle.dlms_headend.specs.TalkValue.{TalkValue}
use Rattle.dlms_headend.specs.Talk.{behind_acceptance, behind_rows, FitsAt, FitsTalk, IsGetting, Ends}
use Rattle.dlms_headend.specs.Poll.{is_exception, DeniesBy, other_fault, is_release, Accepts, Denies, IsMore, Spells, AreBlocks, AreNamed, HasBlocks, HasRows, denied, unnamed, unanswered, unchecked, unreleased}
use Rattle.dlms_headend.specs.Columns.{MissesBy, TellsColumns, MissesColumns}
use Rattle.dlms_headend.specs.declared.plan.Columns.{Columns}
use Rattle.dlms_headend.specs.declared.plan.Columns.TheVariants.{Trusted, Asked}
use Rattle.dlms_apdu.specs.Forms.{ResponseForm, get_data, get_result, get_block_result, exception}
use Rattle.dlms_apdu.specs.declared.fault.Refusal.{Refusal}

-- one more block
AreBlocks-append : (before taken : ℕ) (apdus : List (List ℕ)) (joined bytes apdu : List ℕ) → AreBlocks before apdus taken joined → IsMore taken apdu bytes → AreBlocks before (apdus ++ apdu ∷ []) (taken + 1) (joined ++ bytes)
AreBlocks-append before taken [] joined bytes apdu h m =
    let count : before ≡ taken = sym h.0 in
    let next : IsMore before apdu bytes = rw count m in
    let joins : joined ++ bytes ≡ bytes ++ [] = rw (h.1) (sym (append-nil bytes)) in
    (bytes, [], next, joins, (ap (λ (n : ℕ). n + 1) h.0, refl))
AreBlocks-append before taken (first ∷ apdus) joined bytes apdu h m =
    (h.0, h.1 ++ bytes, h.2, ap (λ (j : List ℕ). j ++ bytes) h.3 ∙ append_assoc h.0 h.1 bytes, AreBlocks-append (before + 1) taken apdus h.1 bytes apdu h.4 m)

pub blocks_append : (columns : Columns) (apdus : List (List ℕ)) (taken : ℕ) (joined bytes apdu : List ℕ) → HasBlocks columns apdus taken joined → IsMore taken apdu bytes → HasBlocks columns (apdus ++ apdu ∷ []) (taken + 1) (joined ++ bytes)
blocks_append columns apdus taken joined bytes apdu h m = record {
  response = h.response;
  names = h.names;
  blocks = h.blocks ++ apdu ∷ [];
  are = ap (λ (l : List (List ℕ)). l ++ apdu ∷ []) h.are ∙ ap (λ (l : List (List ℕ)). h.response ∷ l) (append_assoc h.names h.blocks (apdu ∷ []));
  accepts = h.accepts;
  named = h.named;
  come = AreBlocks-append 0 taken h.blocks joined bytes apdu h.come m;
}

-- no block came yet
none_taken : (blocks : Joining) → blocks ≡ empty → HasTaken blocks 0
none_taken blocks fresh = record { count = ap (λ (j : Joining). j.taken) fresh; open_end = ap (λ (j : Joining). j.over) fresh }

-- the association is accepted
pub accepted : (columns : Columns) (apdus : List (List ℕ)) (apdu : List ℕ) (blocks : Joining) (rows : List Row) → FitsAt columns Associating blocks rows apdus → Accepts apdu
    → FitsAt columns (behind_acceptance columns) blocks rows (apdus ++ apdu ∷ [])
accepted Trusted apdus apdu blocks rows (none, fresh, no_rows) h = (
  record {
    response = apdu;
    names = [];
    blocks = [];
    are = ap (λ (l : List (List ℕ)). l ++ apdu ∷ []) none;
    accepts = h;
    named = refl;
    come = (refl, ap (λ (j : Joining). j.joined) fresh);
  },
  none_taken blocks fresh,
  no_rows,
)
accepted Asked apdus apdu blocks rows (none, fresh, no_rows) h = (refl, record { response = apdu; are = ap (λ (l : List (List ℕ)). l ++ apdu ∷ []) none; accepts = h }, fresh, no_rows)

-- one answer that tells the columns
is_named : (columns : Columns) (apdu : List ℕ) → columns ≡ Asked → TellsColumns apdu → AreNamed columns (apdu ∷ [])
is_named columns apdu asked tells = subst (λ (c : Columns). AreNamed c (apdu ∷ [])) (sym asked) (apdu, refl, tells)

pub names_taken : (columns : Columns) (apdus : List (List ℕ)) (apdu : List ℕ) (blocks : Joining) (rows : List Row) → FitsAt columns Naming blocks rows apdus → TellsColumns apdu → FitsAt columns (Getting 0) blocks rows (apdus ++ apdu ∷ [])
names_taken columns apdus apdu blocks rows (asked, before, fresh, no_rows) tells = (
  record {
    response = before.response;
    names = apdu ∷ [];
    blocks = [];
    are = ap (λ (l : List (List ℕ)). l ++ apdu ∷ []) before.are;
    accepts = before.accepts;
    named = is_named columns apdu asked tells;
    come = (refl, ap (λ (j : Joining). j.joined) fresh);
  },
  none_taken blocks fresh,
  no_rows,
)

-- a block
pub block_taken : (columns : Columns) (apdus : List (List ℕ)) (apdu bytes : List ℕ) (taken number : ℕ) (old new : Joining) (rows : List Row) → FitsAt columns (Getting taken) old rows apdus → number ≡ taken + 1 → IsMore taken apdu bytes
    → new ≡ joined_on old taken bytes → FitsAt columns (Getting number) new rows (apdus ++ apdu ∷ [])
block_taken columns apdus apdu bytes taken number old new rows h count more joined =
    let joins : new.joined ≡ old.joined ++ bytes = ap (λ (j : Joining). j.joined) joined in (
      rw (count, joins) (blocks_append columns apdus taken old.joined bytes apdu h.0 more),
      record { count = ap (λ (j : Joining). j.taken) joined ∙ sym count; open_end = ap (λ (j : Joining). j.over) joined },
      h.2,
    )

-- the rows
with_rows : (columns : Columns) (apdus : List (List ℕ)) (apdu : List ℕ) (taken : ℕ) (old : Joining) (old_rows rows : List Row) → FitsAt columns (Getting taken) old old_rows apdus → Spells taken old.joined apdu rows → HasRows columns (apdus ++ apdu ∷ []) rows
with_rows columns apdus apdu taken old old_rows rows h spelled = record { before = apdus; answer = apdu; taken = taken; joined = old.joined; are = refl; blocks = h.0; spelled = spelled }

pub rows_taken : (columns : Columns) (apdus : List (List ℕ)) (apdu : List ℕ) (taken : ℕ) (old new : Joining) (old_rows rows : List Row) → FitsAt columns (Getting taken) old old_rows apdus → Spells taken old.joined apdu rows
    → FitsAt columns (behind_rows columns) new rows (apdus ++ apdu ∷ [])
rows_taken Trusted apdus apdu taken old new old_rows rows h spelled =
    record { before = apdus ++ apdu ∷ []; names = []; are = sym (append-nil (apdus ++ apdu ∷ [])); polled = with_rows Trusted apdus apdu taken old old_rows rows h spelled; named = refl }
rows_taken Asked apdus apdu taken old new old_rows rows h spelled = (refl, with_rows Asked apdus apdu taken old old_rows rows h spelled)

-- no GET is due after them
pub none_getting : (columns : Columns) → IsGetting (behind_rows columns) → ⊥
none_getting Trusted h = h
none_getting Asked h = h

pub check_taken : (columns : Columns) (apdus : List (List ℕ)) (apdu : List ℕ) (blocks : Joining) (rows : List Row) → FitsAt columns Checking blocks rows apdus → TellsColumns apdu → FitsAt columns Releasing blocks rows (apdus ++ apdu ∷ [])
check_taken columns apdus apdu blocks rows h tells = record { before = apdus; names = apdu ∷ []; are = refl; polled = h.1; named = is_named columns apdu h.0 tells }

-- the release
pub release_taken : (columns : Columns) (apdus : List (List ℕ)) (apdu : List ℕ) (old new : Joining) (rows : List Row) → FitsAt columns Releasing old rows apdus → is_release apdu ≡ true → FitsAt columns Leaving new rows (apdus ++ apdu ∷ [])
release_taken columns apdus apdu old new rows h e = record { before = apdus; answer = apdu; are = refl; polled = h; released = e }

-- ---- faults

no_memory : (b : Bool) → Memory ≡ (if b then BadResult 250 else Protocol) → ⊥
no_memory true e = cc
no_memory false e = cc

denies_memory : (r : Result Verdict AcseFault) (apdu : List ℕ) → DeniesBy r apdu Memory → ⊥
denies_memory (Ok (Accepted conformance size)) apdu h = h
denies_memory (Ok (Rejected diagnostic error)) apdu h = cc
denies_memory (Err unread) apdu h = no_memory (is_exception apdu) h

pub ends_denied : (columns : Columns) (apdus : List (List ℕ)) (apdu : List ℕ) (fault : PollFault) → apdus ≡ [] → Denies apdu fault → Ends columns apdus apdu fault
ends_denied columns apdus apdu Memory none h = absurd (denies_memory (aare_at apdu) apdu h)
ends_denied columns apdus apdu (Refused diagnostic) none h = denied none h
ends_denied columns apdus apdu (BadResult code) none h = denied none h
ends_denied columns apdus apdu Line none h = denied none h
ends_denied columns apdus apdu Protocol none h = denied none h
ends_denied columns apdus apdu OtherColumns none h = denied none h

-- memory is not wanting for the columns
misses_memory : (r : Result ResponseForm Refusal) → MissesBy r Memory → ⊥
misses_memory (Ok (get_data invoke v)) h = let e = h.0 in cc
misses_memory (Ok (get_result invoke code)) h = cc
misses_memory (Ok (get_block_result invoke number code)) h = cc
misses_memory (Ok (exception state service)) h = cc
misses_memory _ h = cc

pub ends_unnamed : (columns : Columns) (apdus : List (List ℕ)) (apdu : List ℕ) (old : Joining) (rows : List Row) (fault : PollFault) → FitsAt columns Naming old rows apdus → MissesColumns apdu fault → Ends columns apdus apdu fault
ends_unnamed columns apdus apdu old rows Memory h k = absurd (misses_memory (response_at apdu) k)
ends_unnamed columns apdus apdu old rows (Refused diagnostic) h k = unnamed h.0 h.1 k
ends_unnamed columns apdus apdu old rows (BadResult code) h k = unnamed h.0 h.1 k
ends_unnamed columns apdus apdu old rows Line h k = unnamed h.0 h.1 k
ends_unnamed columns apdus apdu old rows Protocol h k = unnamed h.0 h.1 k
ends_unnamed columns apdus apdu old rows OtherColumns h k = unnamed h.0 h.1 k

pub ends_unchecked : (columns : Columns) (apdus : List (List ℕ)) (apdu : List ℕ) (old : Joining) (rows : List Row) (fault : PollFault) → FitsAt columns Checking old rows apdus → MissesColumns apdu fault → Ends columns apdus apdu fault
ends_unchecked columns apdus apdu old rows Memory h k = absurd (misses_memory (response_at apdu) k)
ends_unchecked columns apdus apdu old rows (Refused diagnostic) h k = unchecked rows h.0 h.1 k
ends_unchecked columns apdus apdu old rows (BadResult code) h k = unchecked rows h.0 h.1 k
ends_unchecked columns apdus apdu old rows Line h k = unchecked rows h.0 h.1 k
ends_unchecked columns apdus apdu old rows Protocol h k = unchecked rows h.0 h.1 k
ends_unchecked columns apdus apdu old rows OtherColumns h k = unchecked rows h.0 h.1 k

pub get_ends : (columns : Columns) (apdus : List (List ℕ)) (apdu : List ℕ) (taken : ℕ) (old : Joining) (rows : List Row) (fault : PollFault) → FitsAt columns (Getting taken) old rows apdus → FailsOrWants taken old.joined (response_at apdu) fault → Ends columns apdus apdu fault
get_ends columns apdus apdu taken old rows Memory h k = record { taken = taken; joined = old.joined; blocks = h.0; needs = k }
get_ends columns apdus apdu taken old rows (Refused diagnostic) h k = unanswered taken old.joined h.0 k
get_ends columns apdus apdu taken old rows (BadResult code) h k = unanswered taken old.joined h.0 k
get_ends columns apdus apdu taken old rows Line h k = unanswered taken old.joined h.0 k
get_ends columns apdus apdu taken old rows Protocol h k = unanswered taken old.joined h.0 k
get_ends columns apdus apdu taken old rows OtherColumns h k = unanswered taken old.joined h.0 k

pub ends_unreleased : (columns : Columns) (apdus : List (List ℕ)) (apdu : List ℕ) (old : Joining) (rows : List Row) (fault : PollFault) → FitsAt columns Releasing old rows apdus → is_release apdu ≡ false → fault ≡ other_fault apdu → Ends columns apdus apdu fault
ends_unreleased columns apdus apdu old rows Memory h e f = absurd (no_memory (is_exception apdu) f)
ends_unreleased columns apdus apdu old rows (Refused diagnostic) h e f = unreleased rows h e f
ends_unreleased columns apdus apdu old rows (BadResult code) h e f = unreleased rows h e f
ends_unreleased columns apdus apdu old rows Line h e f = unreleased rows h e f
ends_unreleased columns apdus apdu old rows Protocol h e f = unreleased rows h e f
ends_unreleased columns apdus apdu old rows OtherColumns h e f = unreleased rows h e f

-- a poll that waits for this, seen from inside
pub opened : (columns : Columns) (t u : TalkValue) (stage : Stage) (apdus : List (List ℕ)) → u ≡ t → FitsTalk columns t apdus → t.stage ≡ stage → FitsAt columns stage u.blocks u.rows apdus
opened columns t u stage apdus same h e = rw same (subst (λ (s : Stage). FitsAt columns s t.blocks t.rows apdus) e h)

pub releasing_opened : (columns : Columns) (t u : TalkValue) (apdus : List (List ℕ)) → u ≡ t → FitsTalk columns t apdus → u.stage ≡ Releasing → FitsAt columns Releasing u.blocks u.rows apdus
releasing_opened columns t u apdus same h e = subst (λ (s : Stage). FitsAt columns s u.blocks u.rows apdus) e (subst (λ (x : TalkValue). FitsTalk columns x apdus) (sym same) h)
