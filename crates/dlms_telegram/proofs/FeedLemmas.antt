-- The octets that a call takes are those up to the first that completes something.
use Rattle.std.proofs.Common.{◌≡◌, ℕ, suc, List, [], ◌∷◌, length, take, refl, ap, sym, subst, ◌∙◌, add-one, Bool, true, false}
use Rattle.dlms_telegram.specs.Telegram.{Kept, Takes, after, count_fed, dropped, fed, is_found}

fed_step : (kept : Kept) (x : ℕ) (xs : List ℕ) (b : Bool) → is_found (after kept x).found ≡ b
    → fed (after kept x) (take (count_fed (after kept x) xs) xs) ≡ fed (after kept x) xs
    → fed kept (take (count_fed kept (x ∷ xs)) (x ∷ xs)) ≡ fed kept (x ∷ xs)
fed_step kept x xs true e more = rw e (rw e refl)
fed_step kept x xs false e more = rw (e, add-one) (rw e more)

pub fed_taken : (kept : Kept) (xs : List ℕ) → fed kept (take (count_fed kept xs) xs) ≡ fed kept xs
fed_taken kept [] = refl
fed_taken kept (x ∷ xs) = fed_step kept x xs (is_found (after kept x).found) refl (fed_taken (after kept x) xs)

count_step : (kept : Kept) (x : ℕ) (xs : List ℕ) (b : Bool) → is_found (after kept x).found ≡ b
    → count_fed (after kept x) (take (count_fed (after kept x) xs) xs) ≡ length (take (count_fed (after kept x) xs) xs)
    → count_fed kept (take (count_fed kept (x ∷ xs)) (x ∷ xs)) ≡ length (take (count_fed kept (x ∷ xs)) (x ∷ xs))
count_step kept x xs true e more = rw e (rw e refl)
count_step kept x xs false e more = rw (e, add-one) (rw (e, add-one) (ap suc more))

pub count_taken : (kept : Kept) (xs : List ℕ) → count_fed kept (take (count_fed kept xs) xs) ≡ length (take (count_fed kept xs) xs)
count_taken kept [] = refl
count_taken kept (x ∷ xs) = count_step kept x xs (is_found (after kept x).found) refl (count_taken (after kept x) xs)

pub takes_of : (old start new : Kept) (octets : List ℕ) (n : ℕ) → start ≡ dropped old → new ≡ fed start octets → n ≡ count_fed start octets
    → Takes old (take n octets) new
takes_of old start new octets n begun kept count =
    let is_kept : new ≡ fed (dropped old) octets = subst (λ s. new ≡ fed s octets) begun kept in
    let is_count : n ≡ count_fed (dropped old) octets = subst (λ s. n ≡ count_fed s octets) begun count in record {
      kept = is_kept ∙ sym (ap (λ m. fed (dropped old) (take m octets)) is_count ∙ fed_taken (dropped old) octets);
      count = ap (λ m. count_fed (dropped old) (take m octets)) is_count ∙ count_taken (dropped old) octets
          ∙ sym (ap (λ m. length (take m octets)) is_count);
    }
