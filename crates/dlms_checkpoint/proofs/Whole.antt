-- The bytes of a checkpoint: the head, and the places of the ring page that is not filled.
use Rattle.std.proofs.Common.{◌≡◌, ℕ, List, [], ◌++◌, length, take, drop, refl, sym, ap, ◌∙◌, subst, arith}
use Rattle.std.proofs.lemmas.List.{take_at, drop_at, append-nil, take-append-drop}
use Rattle.dlms_profile.specs.Rows.{RowsValue, none_before}
use Rattle.dlms_state.specs.StateValue.{StateValue, HasEvents, IsWithinLimits, FitsTypes}
use Rattle.dlms_state.proofs.Limits.{IsWithinLimits-legal}
use Rattle.dlms_state.proofs.Types.{FitsTypes-legal}
use Rattle.dlms_checkpoint.specs.Checkpoint.{head_bytes, first_written, next_written, unfilled, unfilled_from, HoldsRows, AreBytes}
use Rattle.dlms_checkpoint.specs.Layouts.{IsCheckpointOf}
use Rattle.dlms_checkpoint.specs.declared.version.Version.TheVariants.{Columns}
use Rattle.dlms_checkpoint.specs.Reading.{parts_at}
use Rattle.dlms_checkpoint.proofs.Heads.{HeadIs, head_again, length-head}

-- the rows of a state are not in its head
pub head_alone : (s : StateValue) (rows : RowsValue) (first next : ℕ) → head_bytes (record s { rows = rows }) first next ≡ head_bytes s first next
unfolding head_bytes
head_alone s rows first next = refl

-- a head and places, by the place where they are cut
pub spelled : (s : StateValue) (bytes head places : List ℕ) → head ≡ take 324 bytes → places ≡ drop 324 bytes → head_bytes s (first_written s.rows) (next_written s.rows) ≡ head
    → HoldsRows s.columns s.rows (unfilled_from s.rows) (unfilled s.rows) places → AreBytes s bytes
spelled s bytes head places is_head is_places same holds = record {
  places = places;
  joined = sym (take-append-drop 324 bytes) ∙ ap (λ (l : List ℕ). l ++ drop 324 bytes) (sym is_head ∙ sym same) ∙ ap (λ (l : List ℕ). head_bytes s (first_written s.rows) (next_written s.rows) ++ l) (sym is_places);
  holds = holds;
}

pub record Known (s : StateValue) (head places : List ℕ) : Type 0 where
  pub head_is : HeadIs s head
  pub same : (n : ℕ) → head_bytes (parts_at head n) (first_written s.rows) (next_written s.rows) ≡ head
  pub long : length head ≡ 324
  pub holds : HoldsRows s.columns s.rows (unfilled_from s.rows) (unfilled s.rows) places

pub known : (s : StateValue) (bytes head places : List ℕ) → IsCheckpointOf Columns s bytes → head ≡ take 324 bytes → places ≡ drop 324 bytes → Known s head places
known s bytes head places is is_head is_places =
    let a = first_written s.rows in
    let b = next_written s.rows in
    let h = head_bytes s a b in
    let held = is.spelled.places in
    let long : length h ≡ 324 = length-head s a b is.legal.fits in
    let head_is : head ≡ h = is_head ∙ ap (take 324) is.spelled.joined ∙ take_at h held 324 long in
    let places_are : places ≡ held = is_places ∙ ap (drop 324) is.spelled.joined ∙ drop_at h held 324 long in
    let at_head : head ≡ h ++ [] = head_is ∙ sym (append-nil h) in
    let says : HeadIs s head = subst (HeadIs s) (sym at_head) (head_again s [] is.legal.within is.legal.fits is.legal.numbers) in
    record {
      head_is = says;
      same = λ n. ap (λ (p : StateValue). head_bytes p a b) (says.parts n) ∙ head_alone s (none_before n) a b ∙ sym head_is;
      long = ap length head_is ∙ long;
      holds = subst (HoldsRows s.columns s.rows (unfilled_from s.rows) (unfilled s.rows)) (sym places_are) is.spelled.holds;
    }

pub without_rows : (s : StateValue) (n : ℕ) → IsWithinLimits s → IsWithinLimits (record s { rows = none_before n })
without_rows s n within = record { not_before = within.not_before; not_after = within.not_after; period = within.period; secret = within.secret; reader_secret = within.reader_secret; columns = within.columns; rows = λ k d low. absurd (omega (arith, low)) }

pub left_by_events : (s : StateValue) → HasEvents s → IsWithinLimits s × FitsTypes s
left_by_events s had = (rw had.state.value (IsWithinLimits-legal had.events had.state.legal), rw had.state.value (FitsTypes-legal had.events had.state.legal))
