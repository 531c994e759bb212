-- A length and its content are read here as dlms_data reads them, if the length has no more bytes than allowed.
use Rattle.std.proofs.Common.{◌≡◌, ℕ, ◌-◌, ◌≤◌, Bool, true, false, cond, ltb, ◌||◌, List, [], ◌∷◌, length, take, drop, Result, Ok, Err, refl, ap, ◌∙◌, arith}
use Rattle.std.proofs.lemmas.Bool.{ltb-false, le-ltb, ltb-true}
use Rattle.byteorder.specs.Endian.{big_number}
use Rattle.dlms_acse.specs.declared.fault.AcseFault.{AcseFault}
use Rattle.dlms_acse.specs.declared.fault.AcseFault.TheVariants.{Short, Length}
use Rattle.dlms_acse.specs.Reading.{◌>>=◌, is_longer, told, taken_at, length_at, number_at, octets_at}
use Rattle.dlms_axdr.specs.declared.fault.DataFault.{DataFault}
use Rattle.dlms_axdr.specs.declared.fault.DataFault.TheVariants as fault
use Rattle.dlms_axdr.specs.Reading as xdr

-- the same, with the faults of this crate
abbrev here : {Y : Type 0} → Result Y xdr.Fault → Result Y AcseFault
here (Ok y) = Ok y
here (Err xdr.short) = Err Short
here (Err xdr.no_type) = Err Length
here (Err xdr.no_length) = Err Length
here (Err xdr.too_deep) = Err Length

abbrev Parts : Type 0
Parts = List ℕ × List ℕ

cut_here : (b : Bool) (x : Parts) → cond {A = Result Parts AcseFault} b (Err Short) (Ok x) ≡ here (cond {A = Result Parts xdr.Fault} b (Err xdr.short) (Ok x))
cut_here true x = refl
cut_here false x = refl

same_taken : (n : ℕ) (bytes : List ℕ) → taken_at n bytes ≡ here (xdr.taken_at n bytes)
unfolding taken_at xdr.taken_at
same_taken n bytes = cut_here (ltb (length bytes) n) (take n bytes, drop n bytes)

abbrev numbered : ℕ → Parts → Result (ℕ × List ℕ) AcseFault
numbered n t = Ok (big_number n t.0, t.1)

abbrev numbered_there : ℕ → Parts → Result (ℕ × List ℕ) xdr.Fault
numbered_there n t = Ok (big_number n t.0, t.1)

number_here : (n : ℕ) (r : Result Parts xdr.Fault) → (here r >>= numbered n) ≡ here (xdr.◌>>=◌ r (numbered_there n))
number_here n (Ok t) = refl
number_here n (Err xdr.short) = refl
number_here n (Err xdr.no_type) = refl
number_here n (Err xdr.no_length) = refl
number_here n (Err xdr.too_deep) = refl

same_number : (n : ℕ) (bytes : List ℕ) → number_at n bytes ≡ here (xdr.number_at n bytes)
unfolding number_at xdr.number_at
same_number n bytes = rw (same_taken n bytes) (number_here n (xdr.taken_at n bytes))

then_taken : (r : Result (ℕ × List ℕ) xdr.Fault) → (here r >>= (λ n. taken_at n.0 n.1)) ≡ here (xdr.◌>>=◌ r (λ n. xdr.taken_at n.0 n.1))
then_taken (Ok n) = same_taken n.0 n.1
then_taken (Err xdr.short) = refl
then_taken (Err xdr.no_type) = refl
then_taken (Err xdr.no_length) = refl
then_taken (Err xdr.too_deep) = refl

same_length : (most : ℕ) (bytes : List ℕ) → most ≤ 4 → is_longer most bytes ≡ false → length_at most bytes ≡ here (xdr.length_at bytes)
unfolding length_at xdr.length_at
same_length most [] few short = refl
same_length most (b ∷ rest) few short =
    let four : ltb 132 b ≡ false = le-ltb _ _ (omega (arith, few, ltb-false _ _ short)) in
    rw (short, four) (by_tests (ltb b 128) (ltb b 129) (same_number (b - 128) rest))
  where
    by_tests : (low none : Bool) → number_at (b - 128) rest ≡ here (xdr.number_at (b - 128) rest)
        → cond low (Ok (b, rest)) (cond (none || false) (Err Length) (number_at (b - 128) rest)) ≡ here (cond low (Ok (b, rest)) (cond (none || false) (Err xdr.no_length) (xdr.number_at (b - 128) rest)))
    by_tests true none e = refl
    by_tests false true e = refl
    by_tests false false e = e

same_octets : (most : ℕ) (bytes : List ℕ) → most ≤ 4 → is_longer most bytes ≡ false → octets_at most bytes ≡ here (xdr.octets_at bytes)
unfolding octets_at xdr.octets_at
same_octets most bytes few short = rw (same_length most bytes few short) (then_taken (xdr.length_at bytes))

-- the fault for a fault of dlms_data's
told_here : {X Y : Type 0} (view : X → Y) (f : DataFault) (read : Result Y xdr.Fault) → xdr.IsFault f read → here read ≡ Err (told f)
told_here view fault.Short read e = rw e refl
told_here view fault.Tag read e = rw e refl
told_here view fault.Length read e = rw e refl
told_here view fault.Depth read e = rw e refl
told_here view fault.Memory read e = absurd e

pub ok_here : (most : ℕ) (bytes : List ℕ) (x : List ℕ × List ℕ) → most ≤ 4 → is_longer most bytes ≡ false → xdr.octets_at bytes ≡ Ok x → octets_at most bytes ≡ Ok x
ok_here most bytes x few short e = same_octets most bytes few short ∙ ap here e

pub err_here : (most : ℕ) (bytes : List ℕ) (f : DataFault) → most ≤ 4 → is_longer most bytes ≡ false → xdr.IsFault f (xdr.octets_at bytes) → octets_at most bytes ≡ Err (told f)
err_here most bytes f few short e = same_octets most bytes few short ∙ told_here (λ x. x) f (xdr.octets_at bytes) e

-- a length that is too long is invalid
pub longer_here : (most : ℕ) (bytes : List ℕ) → is_longer most bytes ≡ true → octets_at most bytes ≡ Err Length
unfolding octets_at length_at
longer_here most [] long = absurd cc
longer_here most (b ∷ rest) long =
    let high : ltb b 128 ≡ false = le-ltb _ _ (omega (arith, ltb-true _ _ long)) in
    rw (high, long) (by_test (ltb b 129))
  where
    by_test : (none : Bool) → (cond (none || true) (Err Length) (number_at (b - 128) rest) >>= (λ n. taken_at n.0 n.1)) ≡ Err Length
    by_test true = refl
    by_test false = refl
