-- How long the canonical spelling is.
use Rattle.std.proofs.Common.{◌≡◌, ℕ, ◌+◌, ◌<◌, ◌≤◌, List, Bool, ◌∷◌, ◌++◌, length, get_or, drop, ap, ◌∙◌, arith}
use Rattle.std.proofs.lemmas.List.{length-append, drop_more, drop_all}
use Rattle.dlms_data.specs.declared.data.Data.{Data}
use Rattle.dlms_data.specs.Value.{bit_string}
use Rattle.dlms_data.specs.View.{value_of, values_of}
use Rattle.dlms_data.specs.Bits.{bytes_for, packed}
use Rattle.dlms_data.specs.Writing.{canonical, all_canonical, short_length}
use Rattle.dlms_data.proofs.Bitwise.{length-packed}

pub length_counted : (tag n : ℕ) (body : List ℕ) → length (tag ∷ (short_length n ++ body)) ≡ length (short_length n) + 1 + length body
length_counted tag n body = omega (arith, length-append (short_length n) body)

pub length_bits : (bits : List Bool) → length (canonical (bit_string bits)) ≡ length (short_length (length bits)) + 1 + bytes_for (length bits)
length_bits bits =
    omega (arith, length-append (short_length (length bits)) (packed (bytes_for (length bits)) bits), length-packed (bytes_for (length bits)) bits)

-- one value, and those after it
pub size_at : {A : Type 0} (ds : List (Data A)) (i : ℕ) (d : Data A) → i < length ds
    → length (all_canonical (values_of (drop i ds))) ≡ length (canonical (value_of (get_or ds i d))) + length (all_canonical (values_of (drop (i + 1) ds)))
size_at {A = A} ds i d lt =
    ap (λ (w : List (Data A)). length (all_canonical (values_of w))) (drop_more ds i d lt) ∙ length-append (canonical (value_of (get_or ds i d))) (all_canonical (values_of (drop (i + 1) ds)))

pub size_none : {A : Type 0} (ds : List (Data A)) (i : ℕ) → length ds ≤ i → length (all_canonical (values_of (drop i ds))) ≡ 0
size_none {A = A} ds i le = ap (λ (w : List (Data A)). length (all_canonical (values_of w))) (drop_all i ds le)
