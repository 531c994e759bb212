-- How the requests are spelled, and how long they are.
use Rattle.std.proofs.Common.{arith, ◌≡◌, ◌≤◌, ◌∙◌, ℕ, List, [], ◌∷◌, ◌++◌, append_assoc, length, length-append, Option, unwrap_or, ap, subst, sym}
use Rattle.dlms_data.specs.Value.{Value, octet_string}
use Rattle.dlms_data.specs.Writing.{short_length, canonical}
use Rattle.dlms_data.specs.Building.{IsTime}
use Rattle.dlms_headend.specs.Asking.{IsBufferRequest, range, buffer_bytes, last_second}
use Rattle.dlms_headend.specs.declared.asking.TheConstants.{RANGE_HEAD, ALL_COLUMNS}

-- a date-time as an octet-string
time_spelled : (before octets : List ℕ) → length octets ≡ 12 → (before ++ (0x09 ∷ 0x0C ∷ [])) ++ octets ≡ before ++ canonical (octet_string octets)
unfolding short_length
time_spelled before octets size =
    append_assoc before (0x09 ∷ 0x0C ∷ []) octets ∙ ap (λ (n : ℕ). before ++ 0x09 ∷ (short_length n ++ octets)) (sym size)

pub time_appended : (before head middle slice octets after : List ℕ) → middle ≡ before ++ head → head ≡ 0x09 ∷ 0x0C ∷ [] → after ≡ middle ++ slice → slice ≡ octets → length octets ≡ 12 → after ≡ before ++ canonical (octet_string octets)
time_appended before head middle slice octets after first is second same size = let parts : after ≡ (before ++ (0x09 ∷ 0x0C ∷ [])) ++ octets = cc in parts ∙ time_spelled before octets size

-- the parts of a GET of a range
range_spelled : (first last : Value) → (((([] ++ RANGE_HEAD) ++ canonical first) ++ canonical last) ++ ALL_COLUMNS) ≡ buffer_bytes (range first last)
unfolding short_length
range_spelled first last = ap (λ (rest : List ℕ). RANGE_HEAD ++ rest) (append_assoc (canonical first) (canonical last) ALL_COLUMNS)

pub range_appended : (first last : Value) (none a b c d head tail : List ℕ) → none ≡ [] → a ≡ none ++ head → head ≡ RANGE_HEAD → b ≡ a ++ canonical first → c ≡ b ++ canonical last → d ≡ c ++ tail → tail ≡ ALL_COLUMNS → d ≡ buffer_bytes (range first last)
range_appended first last none a b c d head tail empty begun is_head from to ended is_tail =
    let parts : d ≡ ((([] ++ RANGE_HEAD) ++ canonical first) ++ canonical last) ++ ALL_COLUMNS = cc in
    parts ∙ range_spelled first last

octets_length : (octets : List ℕ) → length octets ≡ 12 → length (canonical (octet_string octets)) ≡ 14
unfolding short_length
octets_length octets e = rw e (omega (arith, e))

time_length : (second : ℕ) (v : Value) → IsTime second v → length (canonical v) ≡ 14
time_length second v h = rw h.value (octets_length h.octets h.names.size)

range_length : (first last : Value) → length (canonical first) ≡ 14 → length (canonical last) ≡ 14 → length (canonical (range first last)) ≤ 100
unfolding short_length
range_length first last h k = simp (length-append) (omega (arith, h, k))

buffer_length : (value : Value) → length (canonical value) ≤ 100 → length (buffer_bytes value) ≤ 1024
buffer_length value h = omega (arith, h)

pub request_is_short : (after until : Option ℕ) (apdu : List ℕ) → IsBufferRequest after until apdu → length apdu ≤ 1024
request_is_short after until apdu h =
    let wanted = h.wanted in
    let long : length (canonical (range wanted.first wanted.last)) ≤ 100 =
    range_length wanted.first wanted.last (time_length (unwrap_or after 0) wanted.first wanted.from_first) (time_length (last_second until) wanted.last wanted.to_last) in
    rw h.is (buffer_length h.value (subst (λ (v : Value). length (canonical v) ≤ 100) (sym wanted.is) long))
