-- Which ring pages a checkpoint writes: those that the state after more events names and the one before them does not.
use Rattle.std.proofs.Common.{◌≡◌, ◌≢◌, ◌<◌, ◌≤◌, ◌+◌, ◌*◌, ◌/◌, ◌^◌, ◌-◌, ◌⊎◌, inl, inr, max, ⊎_elim, ℕ, List, [], ◌∷◌, ◌++◌, map, length, get_or, refl, sym, ◌∙◌, ap, subst, arith, length-append, append_assoc}
use Rattle.std.proofs.lemmas.List.{append-nil, get_or-append_right, length-map, map-append}
use Rattle.std.proofs.lemmas.Bool.{cases_lt}
use Rattle.std.proofs.Math.ListN.{get_or-append}
use Rattle.dlms_pages.specs.Device.{Image, page_at}
use Rattle.dlms_pages.specs.declared.device.PageRead.{PageRead}
use Rattle.dlms_profile.specs.declared.rows.Row.{Row}
use Rattle.dlms_profile.specs.Rows.{first_number, row_at}
use Rattle.dlms_state.specs.declared.event.Event.{Event}
use Rattle.dlms_state.specs.declared.event.Event.TheVariants.{Pulses, Moment, SetTime, Shift, AdjustMinute, SetPeriod, SetText, SetSecret, ResetRegister, ResetProfile, Capture, SetColumns}
use Rattle.dlms_state.specs.Events.{buffer_after, captures, columns_after, row_after}
use Rattle.dlms_state.proofs.Captures.{captures-le}
use Rattle.dlms_state.proofs.Limits.{by_more}
use Rattle.dlms_state.proofs.Steps.{columns_after-more, kept_after-more}
use Rattle.dlms_profile.specs.declared.rows.TheConstants.{CAPACITY}
use Rattle.dlms_checkpoint.specs.declared.version.Version.{Version}
use Rattle.dlms_checkpoint.specs.declared.version.Version.TheVariants.{Rings, Columns}
use Rattle.dlms_state.specs.StateValue.{StateValue, state_of}
use Rattle.dlms_state.proofs.Captures.{buffer_is_the_end, captures_go_on}
use Rattle.dlms_checkpoint.specs.Checkpoint.{AreBytes, HoldsRows, IsNamed, row_bytes, row_numbered}
use Rattle.dlms_checkpoint.specs.declared.writing.TheConstants.{RING_ROWS}
use Rattle.dlms_store.specs.declared.page.Edition.{Edition}
use Rattle.dlms_store.specs.declared.layout.Slot.{Slot}
use Rattle.dlms_store.specs.declared.layout.TheConstants.{MOST_CAPTURED}
use Rattle.dlms_store.specs.Layout.{gate_of, ring_place}
use Rattle.dlms_store.specs.Image.{AreRings, IsRingPage, IsWithinRing, Serves, Spells}
use Rattle.dlms_store.specs.Page.{present}
use Rattle.dlms_store.specs.Writing.{IsEachRingPage}
use Rattle.dlms_store.proofs.Ring.{follows, gone_more, never_lost}

-- the row of this number is the one that was captured at this place among all captures
row_captured : (E : List Event) (n : ℕ) → first_number (state_of E).rows ≤ n → row_numbered (state_of E).rows n ≡ get_or (map row_after (captures E)) n (row_at 0)
row_captured E n past =
    let end = buffer_is_the_end E in
    let long : length end.0 ≡ first_number (state_of E).rows = omega (arith, length-map (captures E) row_after, ap (λ (l : List Row). length l) end.1, length-append end.0 (buffer_after E)) in
    sym (ap (λ (l : List Row). get_or l n (row_at 0)) end.1 ∙ get_or-append_right end.0 (buffer_after E) (first_number (state_of E).rows) n (row_at 0) long past)

-- a row that is still kept after more events is the same
row_kept : (E F : List Event) (n : ℕ) → first_number (state_of E).rows ≤ n → first_number (state_of (E ++ F)).rows ≤ n → n < length (captures E) → row_numbered (state_of E).rows n ≡ row_numbered (state_of (E ++ F)).rows n
row_kept E F n here there less =
    let go = captures_go_on E F in
    let parted : map row_after (captures (E ++ F)) ≡ map row_after (captures E) ++ map row_after go.0 = ap (map row_after) go.1 ∙ map-append row_after (captures E) go.0 in
    let same : get_or (map row_after (captures (E ++ F))) n (row_at 0) ≡ get_or (map row_after (captures E)) n (row_at 0) =
    ap (λ (l : List Row). get_or l n (row_at 0)) parted ∙ get_or-append (map row_after (captures E)) (map row_after go.0) (row_at 0) n (omega (arith, less, length-map (captures E) row_after)) in
    row_captured E n here ∙ sym same ∙ sym (row_captured (E ++ F) n there)

-- ---- the columns of rows that are kept

one_more : (E : List Event) (e : Event) → (columns_after (E ++ e ∷ []) ≡ columns_after E) ⊎ (buffer_after (E ++ e ∷ []) ≡ [])
one_more E (Pulses c n) = inl (columns_after-more E (Pulses c n))
one_more E (Moment t) = inl (columns_after-more E (Moment t))
one_more E (SetTime t) = inl (columns_after-more E (SetTime t))
one_more E (Shift by) = inl (columns_after-more E (Shift by))
one_more E AdjustMinute = inl (columns_after-more E AdjustMinute)
one_more E (SetPeriod p) = inl (columns_after-more E (SetPeriod p))
one_more E (SetText b) = inl (columns_after-more E (SetText b))
one_more E (SetSecret of b) = inl (columns_after-more E (SetSecret of b))
one_more E (ResetRegister c) = inl (columns_after-more E (ResetRegister c))
one_more E ResetProfile = inl (columns_after-more E ResetProfile)
one_more E Capture = inl (columns_after-more E Capture)
one_more E (SetColumns ids) = inr (kept_after-more CAPACITY E (SetColumns ids))

-- Behind more events the columns are the same, or every row of before is gone.
abbrev KeepsColumns : List Event → List Event → Type 0
KeepsColumns E F = (columns_after (E ++ F) ≡ columns_after E) ⊎ (length (captures E) ≤ length (captures (E ++ F)) - length (buffer_after (E ++ F)))

keeps_one : (E F : List Event) (e : Event) → KeepsColumns E F → (columns_after ((E ++ F) ++ e ∷ []) ≡ columns_after E) ⊎ (length (captures E) ≤ length (captures ((E ++ F) ++ e ∷ [])) - length (buffer_after ((E ++ F) ++ e ∷ [])))
keeps_one E F e (inl same) = elim (one_more (E ++ F) e) [
  | inl still ↦ inl (still ∙ same)
  | inr none ↦
      let all : length (captures E) ≤ length (captures (E ++ F)) = captures-le E F in
      let more : length (captures (E ++ F)) ≤ length (captures ((E ++ F) ++ e ∷ [])) = captures-le (E ++ F) (e ∷ []) in
      let empty : length (buffer_after ((E ++ F) ++ e ∷ [])) ≡ 0 = ap (λ (l : List Row). length l) none in
      inr (omega (arith, all, more, empty))
]
keeps_one E F e (inr far) = let less = gone_more (E ++ F) e in inr (omega (arith, far, less))

keeps_none : (E : List Event) → KeepsColumns E []
keeps_none E = inl (ap (λ (l : List Event). columns_after l) (append-nil E))

pub keeps_columns : (E F : List Event) → KeepsColumns E F
keeps_columns E = by_more (KeepsColumns E) (keeps_none E) (λ F e before. rw (← append_assoc E F (e ∷ [])) (keeps_one E F e before))

-- The ring pages from this one on, up to that one, are those that the state after E and F names and the one after E does not.
pub record AreFresh (E F : List Event) (from to : ℕ) : Type 0 where
  pub from_is : from ≡ max (first_number (state_of (E ++ F)).rows) (length (captures E)) / RING_ROWS
  pub to_is : to ≡ length (captures (E ++ F)) / RING_ROWS
  pub within : IsWithinRing E F

-- this is also true if they are counted from a state and from the number of rows captured before
pub made_fresh : (E F : List Event) (s : StateValue) (n from to : ℕ) → s ≡ state_of (E ++ F) → n ≡ length (captures E) → from ≡ max (first_number s.rows) n / RING_ROWS → to ≡ s.rows.next / RING_ROWS → s.rows.next ≤ n + MOST_CAPTURED → s.rows.next ≤ 2 ^ 64
    → AreFresh E F from to
made_fresh E F s n from to is counted first behind few numbers =
    let next : s.rows.next ≡ length (captures (E ++ F)) = ap (λ (t : StateValue). t.rows.next) is in
    record {
      from_is = first ∙ ap (λ (t : StateValue). max (first_number t.rows) n / RING_ROWS) is ∙ ap (λ (m : ℕ). max (first_number (state_of (E ++ F)).rows) m / RING_ROWS) counted;
      to_is = behind ∙ ap (λ (m : ℕ). m / RING_ROWS) next;
      within = record { few = omega (arith, few, next, counted); numbers = omega (arith, numbers, next) };
    }

-- no ring page that the state of these events names is at the place of one of those
abbrev pub IsApart : List Event → (from to : ℕ) → Type 0
IsApart E from to = (k j : ℕ) → IsNamed (state_of E).rows k → from ≤ j → j < to → ring_place k ≢ ring_place j

module _ (E F : List Event) (from to : ℕ) (fresh : AreFresh E F from to) where
  pub fresh_apart : IsApart E from to
  fresh_apart k j named low high =
      never_lost E F k j fresh.within named (record {
        named = record { some = omega (arith, low, fresh.from_is); filled = omega (arith, high, fresh.to_is) };
        fresh = λ other. omega (arith, other.filled, low, fresh.from_is);
      })

  -- if a row of before is kept, the columns are the same
  same_columns : (k : ℕ) → RING_ROWS * (k + 1) ≤ length (captures E) → IsNamed (state_of (E ++ F)).rows k → (state_of (E ++ F)).columns ≡ (state_of E).columns
  same_columns k filled named = elim (keeps_columns E F) [ inl same ↦ same | inr far ↦ (let some : first_number (state_of (E ++ F)).rows < RING_ROWS * (k + 1) = named.some in absurd (omega (arith, far, filled, some))) ]

  serves_still : (version own : Version) (old new : List ℕ) → new ≡ old → Serves version old own → Serves Columns new own
  serves_still version Columns old new same serves = refl
  serves_still version Rings old new same serves = same ∙ serves

  -- a ring page that was named before still holds the rows that are kept
  page_kept : (version : Version) (k : ℕ) (page : PageRead) → RING_ROWS * (k + 1) ≤ length (captures E) → IsNamed (state_of (E ++ F)).rows k → IsRingPage version (state_of E) k page → IsRingPage Columns (state_of (E ++ F)) k page
  page_kept version k page filled named is =
      let gone = (follows E F fresh.within).gone in
      let same = same_columns k filled named in
      record {
        places = is.places;
        own = is.own;
        serves = serves_still version is.own (state_of E).columns (state_of (E ++ F)).columns same is.serves;
        is_page = is.is_page;
        holds = subst (λ (columns : List ℕ). HoldsRows columns (state_of (E ++ F)).rows (RING_ROWS * k) RING_ROWS is.places) (sym same)
            (record {
              long = is.holds.long;
              each = λ n past low high. (let before : first_number (state_of E).rows ≤ n = omega (arith, gone, past) in
                  is.holds.each n before low high ∙ ap row_bytes (row_kept E F n before past (omega (arith, high, filled))));
            });
      }

  -- the pages that the active slot names and those that were written encode the state after more events
  pub fresh_rings : (slot other : Slot) (g : Edition) (h : ℕ) (image : Image) (bytes : List ℕ) → AreRings slot g (state_of E) image → AreBytes (state_of (E ++ F)) bytes → Spells (gate_of other) (present h) bytes image
      → IsEachRingPage from to (λ k. IsRingPage Columns (state_of (E ++ F)) k (page_at image (ring_place k))) → AreRings other (present h) (state_of (E ++ F)) image
  fresh_rings slot other g h image bytes rings are spells written = record {
    bytes = bytes;
    are = are;
    bodies = spells;
    ring = λ k named. ⊎_elim
        (λ (old : k < from).
        let filled : RING_ROWS * (k + 1) ≤ length (captures E) = omega (arith, old, named.some, fresh.from_is) in
        page_kept g.version k (page_at image (ring_place k)) filled named (rings.ring k (record { some = omega (arith, named.some, (follows E F fresh.within).gone); filled = filled })))
        (λ (new : from ≤ k). written k new (omega (arith, named.filled, fresh.to_is)))
        (cases_lt k from);
  }
