-- A block's answer fits an APDU.
use Rattle.std.proofs.Common.{◌≡◌, ◌≤◌, ℕ, Bool, true, false, ltb, List, ◌∷◌, length, arith, inl, inr}
use Rattle.std.proofs.lemmas.Bool.{cases_lt, lt-ltb, le-ltb}
use Rattle.std.proofs.lemmas.List.{length-append}
use Rattle.byteorder.specs.Endian.{big_bytes}
use Rattle.byteorder.specs.Numbers.{length-bytes_high_first}
use Rattle.dlms_data.specs.Writing.{short_length}
use Rattle.dlms_apdu.specs.Forms.{get_block}
use Rattle.dlms_apdu.specs.Writing.{raw_bytes, response_bytes}

length_short : (n : ℕ) → n ≤ 1012 → length (short_length n) ≤ 3
unfolding short_length
length_short n h =
    elim (cases_lt n 128) [
      | inl a ↦ let e : ltb n 128 ≡ true = lt-ltb n 128 a in rw e (omega arith)
      | inr a ↦ let not_a : ltb n 128 ≡ false = le-ltb n 128 a in
          elim (cases_lt n 256) [
            | inl b ↦ let e : ltb n 256 ≡ true = lt-ltb n 256 b in rw (not_a, e) (omega (arith, length-bytes_high_first 1 n))
            | inr b ↦ let not_b : ltb n 256 ≡ false = le-ltb n 256 b in
                let e : ltb n 65536 ≡ true = lt-ltb n 65536 (omega arith) in rw (not_a, not_b, e) (omega (arith, length-bytes_high_first 2 n))
          ]
    ]

pub block_fits : (invoke number : ℕ) (last : Bool) (raw : List ℕ) → length raw ≤ 1012 → length (response_bytes (get_block invoke last number raw)) ≤ 1024
block_fits invoke number last raw h =
    omega (arith, length_short (length raw) h, length-append (short_length (length raw)) raw, length-append (big_bytes 4 number) (0 ∷ raw_bytes raw), length-bytes_high_first 4 number)
