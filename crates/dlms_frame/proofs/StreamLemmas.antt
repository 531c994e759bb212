-- Frames in a stretch.
use Rattle.std.proofs.Common.{◌≢◌, ◌≡◌, ℕ, ◌+◌, ◌-◌, ◌/◌, ◌%◌, ◌<◌, ◌≤◌, List, [], ◌∷◌, ◌++◌, length, take, drop, get_or, refl, sym, ap, subst, ◌∙◌, inl, inr, arith, append_assoc, length-append, Option, Some, None}
use Rattle.std.proofs.lemmas.Bool.{cases_eq}
use Rattle.std.proofs.lemmas.List.{take_at, drop_at, drop-drop, drop-append-le, length-drop, append-nil, nil_from_length, take-append-drop, length-take-le, get_or-drop, get_or_at}
use Rattle.dlms_frame.specs.Frame.{Parts, FrameSpelling, frame_len, segment_bit, body, spelling}
use Rattle.dlms_frame.specs.Stream.{FrameAt, IsNext, Fits, IsOver, IsLongest, Keeps, Takes}
use Rattle.dlms_frame.proofs.FrameLemmas.{length-body, body_parts}

pub length-spelling : (f : Parts) → length (spelling f) ≡ frame_len f + 2
length-spelling f = omega (arith, length-append (body f) (126 ∷ []), length-body f)

pub same_front : (a b x y : List ℕ) → length a ≡ length b → a ++ x ≡ b ++ y → (a ≡ b) × (x ≡ y)
same_front a b x y len e = (
  sym (take_at a x (length b) len) ∙ ap (λ t. take (length b) t) e ∙ take_at b y (length b) refl,
  sym (drop_at a x (length b) len) ∙ ap (λ t. drop (length b) t) e ∙ drop_at b y (length b) refl,
)

-- if a frame is there, there is space for it
pub frame_room : (s : List ℕ) (i j : ℕ) (f : Parts) → FrameAt s i j f → j < length s
frame_room s i j f at =
    let len : length s - i ≡ length (spelling f) + length at.after = sym (length-drop i s) ∙ ap length at.text ∙ length-append (spelling f) at.after in
    let some : length (spelling f) ≡ frame_len f + 2 = length-spelling f in
    let e : i + length (spelling f) ≡ j + 1 = at.ends in
    omega arith

-- a frame that ends in the front is in the front
pub frame_in_front : (s more : List ℕ) (i j : ℕ) (f : Parts) → FrameAt (s ++ more) i j f → j < length s → FrameAt s i j f
frame_in_front s more i j f at within =
    let e : i + length (spelling f) ≡ j + 1 = at.ends in
    let text : drop i s ++ more ≡ spelling f ++ at.after = sym (drop-append-le i s more (omega arith)) ∙ at.text in
    let split : drop i s ≡ take (length (spelling f)) (drop i s) ++ drop (length (spelling f)) (drop i s) = sym (take-append-drop (length (spelling f)) (drop i s)) in
    let len : length (take (length (spelling f)) (drop i s)) ≡ length (spelling f) = length-take-le (length (spelling f)) (drop i s) (omega (arith, length-drop i s)) in
    let both = same_front (take (length (spelling f)) (drop i s)) (spelling f) (drop (length (spelling f)) (drop i s) ++ more) at.after len
    (sym (append_assoc _ _ more) ∙ ap (λ t. t ++ more) (sym split) ∙ text) in
    record { fits = at.fits; after = drop (length (spelling f)) (drop i s); text = split ∙ ap (λ t. t ++ drop (length (spelling f)) (drop i s)) both.0; ends = at.ends }

-- a frame of the front is one of the whole
pub frame_in_whole : (s more : List ℕ) (i j : ℕ) (f : Parts) → FrameAt s i j f → FrameAt (s ++ more) i j f
frame_in_whole s more i j f at =
    let room : j < length s = frame_room s i j f at in
    let e : i + length (spelling f) ≡ j + 1 = at.ends in
    let some : length (spelling f) ≡ frame_len f + 2 = length-spelling f in
    record {
      fits = at.fits;
      after = at.after ++ more;
      text = drop-append-le i s more (omega arith) ∙ ap (λ t. t ++ more) at.text ∙ append_assoc (spelling f) at.after more;
      ends = at.ends;
    }

-- a frame that ends with the stretch is its end
frame_at_end : (s : List ℕ) (i j : ℕ) (f : Parts) → FrameAt s i j f → j + 1 ≡ length s → drop i s ≡ spelling f
frame_at_end s i j f at last =
    let len : length s - i ≡ length (spelling f) + length at.after = sym (length-drop i s) ∙ ap length at.text ∙ length-append (spelling f) at.after in
    let e : i + length (spelling f) ≡ j + 1 = at.ends in
    let none : at.after ≡ [] = nil_from_length at.after (omega arith) in
    at.text ∙ ap (λ t. spelling f ++ t) none ∙ append-nil (spelling f)

-- what is kept, after one more byte
kept_push : (kept s : List ℕ) (place byte : ℕ) (fits : Fits kept s place) → kept ++ byte ∷ [] ≡ drop fits.gone (s ++ byte ∷ [])
kept_push kept s place byte fits = ap (λ t. t ++ byte ∷ []) fits.bytes ∙ sym (drop-append-le fits.gone s (byte ∷ []) fits.within)

-- a frame that ends with the byte is a tail of the kept bytes
pub seen_in_kept : (kept s : List ℕ) (place byte i : ℕ) (f : Parts) (fits : Fits kept s place) → fits.gone ≤ i
    → FrameAt (s ++ byte ∷ []) i (length s) f → FrameSpelling (drop (i - fits.gone) (kept ++ byte ∷ [])) f
seen_in_kept kept s place byte i f fits le at =
    let e : fits.gone + (i - fits.gone) ≡ i = omega arith in
    record {
      fits = at.fits;
      text = ap (λ t. drop (i - fits.gone) t) (kept_push kept s place byte fits)
          ∙ drop-drop (i - fits.gone) fits.gone (s ++ byte ∷ [])
          ∙ ap (λ n. drop n (s ++ byte ∷ [])) e
          ∙ frame_at_end (s ++ byte ∷ []) i (length s) f at (sym (length-append s (byte ∷ [])));
    }

-- one byte more, with which no frame ends
pub Fits-push : (kept s : List ℕ) (place byte : ℕ) → ((k : ℕ) (f : Parts) → FrameSpelling (drop k (kept ++ byte ∷ [])) f → ⊥)
    → Fits kept s place → Fits (kept ++ byte ∷ []) (s ++ byte ∷ []) place
Fits-push kept s place byte none fits = record {
  gone = fits.gone;
  behind = fits.behind;
  within = omega (arith, length-append s (byte ∷ []), fits.within);
  bytes = kept_push kept s place byte fits;
  awaited = λ more i j f after at.
      let regrouped : FrameAt (s ++ (byte ∷ more)) i j f = subst (λ t. FrameAt t i j f) (append_assoc s (byte ∷ []) more) at in
      let old = fits.awaited (byte ∷ more) i j f after regrouped in
      let le : fits.gone ≤ i = old.0 in
      let not_yet : length s ≤ j = old.1 in (
        le,
        elim (cases_eq (length s) j) [
          | inl same ↦ absurd (none (i - fits.gone) f (seen_in_kept kept s place byte i f fits le
              (subst (λ n. FrameAt (s ++ byte ∷ []) i n f) (sym same)
              (frame_in_front (s ++ byte ∷ []) more i j f at (omega (arith, length-append s (byte ∷ [])))))))
          | inr other ↦ omega (arith, length-append s (byte ∷ []))
        ],
      );
}

-- less is kept
pub Fits-drop : (kept s : List ℕ) (place : ℕ) → IsOver kept → 0 < length kept → Fits kept s place → Fits (drop 1 kept) s place
Fits-drop kept s place over some fits =
    let len : length kept ≡ length s - fits.gone = ap length fits.bytes ∙ length-drop fits.gone s in
    let behind : place ≤ fits.gone = fits.behind in
    record {
      gone = fits.gone + 1;
      behind = omega arith;
      within = omega arith;
      bytes = ap (λ t. drop 1 t) fits.bytes ∙ drop-drop 1 fits.gone s;
      awaited = λ more i j f after at.
          let old = fits.awaited more i j f after at in
          let le : fits.gone ≤ i = old.0 in
          let not_yet : length s ≤ j = old.1 in (
            elim (cases_eq fits.gone i) [
              | inl same ↦
                  let text : kept ++ more ≡ spelling f ++ at.after =
                  ap (λ t. t ++ more) fits.bytes ∙ sym (drop-append-le fits.gone s more fits.within) ∙ ap (λ n. drop n (s ++ more)) same ∙ at.text in
                  let short : length (spelling f) ≤ length kept = over f more at.after at.fits text in
                  let ends : i + length (spelling f) ≡ j + 1 = at.ends in
                  absurd (omega arith)
              | inr other ↦ omega arith
            ],
            not_yet,
          );
    }

-- only the closing flag is kept
pub Fits-last : (kept s : List ℕ) (place byte : ℕ) → Fits kept s place → Fits (drop (length (kept ++ byte ∷ []) - 1) (kept ++ byte ∷ [])) (s ++ byte ∷ []) (length s)
Fits-last kept s place byte fits =
    let whole : length (s ++ byte ∷ []) ≡ length s + 1 = length-append s (byte ∷ []) in
    let len : length (kept ++ byte ∷ []) ≡ length (s ++ byte ∷ []) - fits.gone = ap length (kept_push kept s place byte fits) ∙ length-drop fits.gone (s ++ byte ∷ []) in
    let le : fits.gone ≤ length s = fits.within in
    let e : fits.gone + (length (kept ++ byte ∷ []) - 1) ≡ length s = omega arith in
    record {
      gone = length s;
      behind = omega arith;
      within = omega arith;
      bytes = ap (λ t. drop (length (kept ++ byte ∷ []) - 1) t) (kept_push kept s place byte fits)
          ∙ drop-drop (length (kept ++ byte ∷ []) - 1) fits.gone (s ++ byte ∷ []) ∙ ap (λ n. drop n (s ++ byte ∷ [])) e;
      awaited = λ more i j f after at.
          let ends : i + length (spelling f) ≡ j + 1 = at.ends in
          (after, omega (arith, length-spelling f));
    }

-- the frame that was found is the next
pub next_found : (kept s : List ℕ) (place byte k : ℕ) (f : Parts) (fits : Fits kept s place) → IsLongest (kept ++ byte ∷ []) k f
    → IsNext (s ++ byte ∷ []) place (fits.gone + k) (length s) f
next_found kept s place byte k f fits found =
    let whole : length (s ++ byte ∷ []) ≡ length s + 1 = length-append s (byte ∷ []) in
    let text : drop (fits.gone + k) (s ++ byte ∷ []) ≡ spelling f =
    sym (drop-drop k fits.gone (s ++ byte ∷ [])) ∙ ap (λ t. drop k t) (sym (kept_push kept s place byte fits)) ∙ found.spelled.text in
    let len : length (s ++ byte ∷ []) - (fits.gone + k) ≡ length (spelling f) = sym (length-drop (fits.gone + k) (s ++ byte ∷ [])) ∙ ap length text in
    let behind : place ≤ fits.gone = fits.behind in
    record {
      stands = record { fits = found.spelled.fits; after = []; text = text ∙ sym (append-nil (spelling f)); ends = omega (arith, length-spelling f) };
      behind = omega arith;
      earliest = λ i j g after at. (fits.awaited (byte ∷ []) i j g after at).1;
      longest = λ i g after at.
          let le : fits.gone ≤ i = (fits.awaited (byte ∷ []) i (length s) g after at).0 in
          let first : k ≤ i - fits.gone = found.first (i - fits.gone) g (seen_in_kept kept s place byte i g fits le at) in
          omega arith;
    }

-- what a byte leaves with which a frame ends
pub Takes-found : (old pushed seen new : List ℕ) (byte k : ℕ) (f : Parts) → seen ≡ pushed → pushed ≡ old ++ byte ∷ []
    → new ≡ drop (length pushed - 1) pushed → IsLongest seen k f → Takes old (byte ∷ []) (Some f) new
Takes-found old pushed seen new byte k f is_seen is_pushed is_new found s place fits =
    let whole : IsLongest (old ++ byte ∷ []) k f = subst (λ (t : List ℕ). IsLongest t k f) (is_seen ∙ is_pushed) found in
    let last : new ≡ drop (length (old ++ byte ∷ []) - 1) (old ++ byte ∷ []) = is_new ∙ ap (λ (t : List ℕ). drop (length t - 1) t) is_pushed in (
      fits.gone + k,
      length s,
      sym (length-append s (byte ∷ [])),
      next_found old s place byte k f fits whole,
      subst (λ (t : List ℕ). Fits t (s ++ byte ∷ []) (length s)) (sym last) (Fits-last old s place byte fits),
    )

-- what a byte leaves with which none ends
pub Takes-none : (old pushed seen new : List ℕ) (byte : ℕ) → seen ≡ pushed → pushed ≡ old ++ byte ∷ []
    → Keeps pushed new → ((k : ℕ) (f : Parts) → FrameSpelling (drop k seen) f → ⊥) → Takes old (byte ∷ []) None new
Takes-none old pushed seen new byte is_seen is_pushed keeps none s place fits =
    let whole : (k : ℕ) (f : Parts) → FrameSpelling (drop k (old ++ byte ∷ [])) f → ⊥ =
    λ k f h. none k f (subst (λ (t : List ℕ). FrameSpelling (drop k t) f) (sym (is_seen ∙ is_pushed)) h) in
    keeps (s ++ byte ∷ []) place (subst (λ (t : List ℕ). Fits t (s ++ byte ∷ []) place) (sym is_pushed) (Fits-push old s place byte whole fits))

-- what a byte leaves after others with which no frame ended
pub Takes-after : (old mid new front taken : List ℕ) (byte : ℕ) (found : Option Parts) → taken ≡ front ++ byte ∷ []
    → Takes old front None mid → Takes mid (byte ∷ []) found new → Takes old taken found new
Takes-after old mid new front taken byte None is first next = λ s place fits.
    subst (λ (t : List ℕ). Fits new t place) (append_assoc s front (byte ∷ []) ∙ ap (λ t. s ++ t) (sym is)) (next (s ++ front) place (first s place fits))
Takes-after old mid new front taken byte (Some f) is first next = λ s place fits.
    subst (λ (t : List ℕ). (i : ℕ) × (j : ℕ) × (j + 1 ≡ length t) × IsNext t place i j f × Fits new t j)
    (append_assoc s front (byte ∷ []) ∙ ap (λ t. s ++ t) (sym is)) (next (s ++ front) place (first s place fits))

-- ---- bytes that begin no frame

-- the first three bytes of a frame
pub spelling_front : (f : Parts) (after : List ℕ) → (rest : List ℕ) × (spelling f ++ after ≡ 126 ∷ (160 + segment_bit f.segmented + frame_len f / 256) ∷ frame_len f % 256 ∷ rest)
spelling_front f after =
    let parts = body_parts f in
    (_, ap (λ t. 126 ∷ (t ++ 126 ∷ [] ++ after)) parts.1)

-- more bytes than a frame can have
pub over_by_size : (bytes : List ℕ) → 2049 ≤ length bytes → IsOver bytes
over_by_size bytes long f more after fits text =
    let short : frame_len f ≤ 2047 = fits.len in
    let all : length (spelling f) ≡ frame_len f + 2 = length-spelling f in
    omega arith

pub Keeps-long : (old new : List ℕ) → new ≡ drop 1 old → 2049 ≤ length old → Keeps old new
Keeps-long old new is long s place fits =
    subst (λ (t : List ℕ). Fits t s place) (sym is) (Fits-drop old s place (over_by_size old long) (omega arith) fits)

-- a frame ends with a flag
pub last_is_flag : (bytes : List ℕ) (k : ℕ) (f : Parts) → FrameSpelling (drop k bytes) f → (0 < length bytes) × (get_or bytes (length bytes - 1) 0 ≡ 126)
last_is_flag bytes k f h =
    let len : length bytes - k ≡ length (body f) + 2 = sym (length-drop k bytes) ∙ ap length h.text ∙ omega (arith, length-append (body f) (126 ∷ [])) in
    let e : k + (length (126 ∷ body f)) ≡ length bytes - 1 = omega arith in
    let place : get_or (drop k bytes) (length (126 ∷ body f)) 0 ≡ get_or bytes (length bytes - 1) 0 =
    get_or-drop k bytes (length (126 ∷ body f)) 0 ∙ ap (λ n. get_or bytes n 0) e in
    (omega arith, sym place ∙ ap (λ t. get_or t (length (126 ∷ body f)) 0) h.text ∙ get_or_at (126 ∷ body f) 126 [] 0 (length (126 ∷ body f)) refl)

-- bytes that end with another byte are no frame
pub closed_by_flag : (kept pushed : List ℕ) (byte : ℕ) → byte ≢ 126 → pushed ≡ kept ++ byte ∷ [] → (k : ℕ) (f : Parts) → FrameSpelling (drop k pushed) f → ⊥
closed_by_flag kept pushed byte other is k f h =
    let flag = last_is_flag pushed k f h in
    let len : length pushed ≡ length kept + 1 = ap length is ∙ length-append kept (byte ∷ []) in
    let at : length pushed - 1 ≡ length kept = omega arith in
    let last : get_or pushed (length pushed - 1) 0 ≡ byte = ap (λ n. get_or pushed n 0) at ∙ ap (λ t. get_or t (length kept) 0) is ∙ get_or_at kept byte [] 0 (length kept) refl in
    other (sym last ∙ flag.1)
