-- A record is read again, whatever follows it.
use Rattle.std.proofs.Common.{◌≡◌, ℕ, ℤ, pos, negsuc, ◌<◌, ◌≤◌, ◌^◌, ◌≤ℤ◌, true, false, ltb, leb, List, [], ◌∷◌, ◌++◌, length, Some, refl, sym, ap, ◌∙◌, arith}
use Rattle.std.proofs.lemmas.Bool.{le-ltb, le-leb}
use Rattle.std.proofs.lemmas.List.{take_at, drop_at, append-nil, length-append}
use Rattle.std.proofs.lemmas.Int.{ints, to_z-of_z}
use Rattle.std.specs.Int.{cast_unsigned, w16}
use Rattle.std.specs.Int.RustNames.{FitsSigned}
use Rattle.byteorder.specs.Endian.{big_number, big_bytes}
use Rattle.byteorder.specs.Numbers.{big_number-reads_back, length-bytes_high_first}
use Rattle.dlms_state.specs.declared.event.Event.{Event}
use Rattle.dlms_state.specs.declared.event.Event.TheVariants.{Pulses, Moment, SetTime, Shift, AdjustMinute, SetPeriod, SetText, SetSecret, ResetRegister, ResetProfile, Capture, SetColumns}
use Rattle.dlms_state.specs.declared.event.SecretOf.{SecretOf}
use Rattle.dlms_state.specs.declared.event.SecretOf.TheVariants.{Management, Reader}
use Rattle.dlms_state.specs.Types.{FitsType}
use Rattle.dlms_journal.specs.Record.{owner_number, record_of}
use Rattle.dlms_journal.specs.Reading.{taken_at, number_at, counted_at, pulses_at, secret_at, register_at, event_at}

taken_again : (n : ℕ) (text rest : List ℕ) → length text ≡ n → taken_at n (text ++ rest) ≡ Some (text, rest)
unfolding taken_at
taken_again n text rest len =
    let enough : ltb (length (text ++ rest)) n ≡ false = le-ltb _ _ (omega (arith, length-append text rest)) in
    rw (enough, take_at text rest n len, drop_at text rest n len) refl

number_back : (k n : ℕ) → n < 256 ^ k → big_number k (big_bytes k n) ≡ n
number_back k n fits = ap (big_number k) (sym (append-nil (big_bytes k n))) ∙ big_number-reads_back k n [] fits

number_again : (k n : ℕ) (rest : List ℕ) → n < 256 ^ k → number_at k (big_bytes k n ++ rest) ≡ Some (n, rest)
unfolding number_at
number_again k n rest fits =
    rw (taken_again k (big_bytes k n) rest (length-bytes_high_first k n), number_back k n fits) refl

counted_again : (most : ℕ) (text rest : List ℕ) → length text ≤ most → counted_at most (length text ∷ (text ++ rest)) ≡ Some (text, rest)
unfolding counted_at
counted_again most text rest few =
    let fits : leb (length text) most ≡ true = le-leb (length text) most few in
    rw fits (taken_again (length text) text rest refl)

-- ---- each kind

fits_16 : (z : ℤ) → (negsuc 32767 ≤ℤ z) × (z ≤ℤ pos 32767) → FitsSigned w16 z
fits_16 (pos n) h = record { sfits = omega (arith, ints, h.1) }
fits_16 (negsuc n) h = record { sfits = omega (arith, ints, h.0) }

below_16 : (z : ℤ) → FitsSigned w16 z → cast_unsigned w16 z < 256 ^ 2
below_16 (pos n) h = omega (arith, h.sfits)
below_16 (negsuc n) h = omega (arith, h.sfits)

pulses_again : (channel count : ℕ) (rest : List ℕ) → count < 2 ^ 32 → pulses_at (channel ∷ (big_bytes 4 count ++ rest)) ≡ Some (Pulses channel count, rest)
unfolding pulses_at
pulses_again channel count rest fits = rw (number_again 4 count rest fits) refl

secret_again : (whose : SecretOf) (secret rest : List ℕ) → length secret ≤ 16 → secret_at (owner_number whose ∷ length secret ∷ (secret ++ rest)) ≡ Some (SetSecret whose (record { items = secret }), rest)
unfolding secret_at
secret_again Management secret rest few = rw (counted_again 16 secret rest few) refl
secret_again Reader secret rest few = rw (counted_again 16 secret rest few) refl

register_again : (channel : ℕ) (rest : List ℕ) → register_at (channel ∷ rest) ≡ Some (ResetRegister channel, rest)
unfolding register_at
register_again channel rest = refl

pub read_again : (e : Event) (rest : List ℕ) → FitsType e → event_at (record_of e ++ rest) ≡ Some (e, rest)
unfolding event_at
read_again (Pulses channel count) rest h = pulses_again channel count rest h.1
read_again (Moment second) rest h = rw (number_again 4 second rest h) refl
read_again (SetTime second) rest h = rw (number_again 4 second rest h) refl
read_again (Shift by) rest h =
    let fits = fits_16 by h in
    rw (number_again 2 (cast_unsigned w16 by) rest (below_16 by fits), to_z-of_z w16 by fits) refl
read_again AdjustMinute rest h = refl
read_again (SetPeriod seconds) rest h = rw (number_again 4 seconds rest h) refl
read_again (SetText text) rest h = rw (counted_again 240 text.items rest h.count) refl
read_again (SetSecret whose secret) rest h = secret_again whose secret.items rest h.count
read_again (ResetRegister channel) rest h = register_again channel rest
read_again ResetProfile rest h = refl
read_again Capture rest h = refl
read_again (SetColumns ids) rest h = rw (counted_again 4 ids.items rest h.count) refl
