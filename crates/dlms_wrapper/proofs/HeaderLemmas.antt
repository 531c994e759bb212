-- One header, one message.
use Rattle.std.proofs.Common.{◌≡◌, ℕ, ◌+◌, ◌-◌, ◌/◌, ◌%◌, ◌<◌, ◌≤◌, List, ◌∷◌, ◌++◌, length, take, drop, refl, sym, ap, subst, ◌∙◌, inl, inr, arith, length-append}
use Rattle.std.proofs.lemmas.List.{take_at, drop_at, length-take-le, take-append-drop}
use Rattle.std.proofs.lemmas.Bool.{cases_lt}
use Rattle.dlms_wrapper.specs.declared.header.Header.{Header}
use Rattle.dlms_wrapper.specs.declared.fault.HeaderFault.{HeaderFault}
use Rattle.dlms_wrapper.specs.declared.fault.HeaderFault.TheVariants.{Version, TooLong}
use Rattle.dlms_wrapper.specs.Message.{Begins, IsHeader, IsAccepted, IsMessage, Parts, RefusesHeader, header_bytes, header_of, message_bytes}
use Rattle.dlms_wrapper.specs.Stream.{HasNoMessage, IsRefused, IsRefusedFor, IsWhole, StopsAt}

-- two octets spell one number
number : (m n : ℕ) → m / 256 ≡ n / 256 → m % 256 ≡ n % 256 → m ≡ n
number m n high low = omega arith

head_is : {A : Type 0} (x y : A) (xs ys : List A) → x ∷ xs ≡ y ∷ ys → (x ≡ y) × (xs ≡ ys)
head_is x y xs ys e = (cc, cc)

abbrev pub header : ℕ → ℕ → ℕ → ℕ → Header
header a b c d = record { version = a; source = b; dest = c; len = d }

-- octets begin with one header at most
pub one_header : (h g : Header) (xs ys : List ℕ) → header_bytes h ++ xs ≡ header_bytes g ++ ys → (h ≡ g) × (xs ≡ ys)
one_header h g xs ys e =
    let a = head_is _ _ _ _ e in
    let b = head_is _ _ _ _ a.1 in
    let c = head_is _ _ _ _ b.1 in
    let d = head_is _ _ _ _ c.1 in
    let f = head_is _ _ _ _ d.1 in
    let i = head_is _ _ _ _ f.1 in
    let j = head_is _ _ _ _ i.1 in
    let k = head_is _ _ _ _ j.1 in
    let version : h.version ≡ g.version = number _ _ a.0 b.0 in
    let source : h.source ≡ g.source = number _ _ c.0 d.0 in
    let dest : h.dest ≡ g.dest = number _ _ f.0 i.0 in
    let len : h.len ≡ g.len = number _ _ j.0 k.0 in
    (ap (λ n. header n h.source h.dest h.len) version ∙ (ap (λ n. header g.version n h.dest h.len) source ∙ (ap (λ n. header g.version g.source n h.len) dest ∙ ap (λ n. header g.version g.source g.dest n) len)), k.1)

pub begins_one : (bytes : List ℕ) (h g : Header) → Begins bytes h → Begins bytes g → h ≡ g
begins_one bytes h g a b = (one_header h g (drop 8 bytes) (drop 8 bytes) (sym a.text ∙ b.text)).0

pub begins_of : (bytes xs : List ℕ) (h : Header) → IsHeader h → bytes ≡ header_bytes h ++ xs → Begins bytes h
begins_of bytes xs h fits e = record { fits = fits; text = e ∙ ap (λ t. header_bytes h ++ t) (sym (ap (λ t. drop 8 t) e)) }

-- a header at the front stays there when more octets follow
pub begins_more : (bytes more : List ℕ) (h : Header) → Begins bytes h → Begins (bytes ++ more) h
begins_more bytes more h a = begins_of (bytes ++ more) (drop 8 bytes ++ more) h a.fits (ap (λ t. t ++ more) a.text)

pub begins_long : (bytes : List ℕ) (h : Header) → Begins bytes h → length bytes ≡ 8 + length (drop 8 bytes)
begins_long bytes h a = ap length a.text ∙ grind arith

-- ---- messages

pub header_fits : (limit : ℕ) (m : Parts) → limit ≤ 1024 → IsMessage limit m → IsHeader (header_of m)
header_fits limit m small fits = record { version = omega arith; source = fits.source; dest = fits.dest; len = omega (arith, fits.short) }

pub header_accepted : (limit : ℕ) (m : Parts) → IsMessage limit m → IsAccepted limit (header_of m)
header_accepted limit m fits = record { version = refl; short = fits.short }

-- octets that begin with a message begin with its header
pub message_begins : (limit : ℕ) (m : Parts) (bytes after : List ℕ) → limit ≤ 1024 → IsMessage limit m → bytes ≡ message_bytes m ++ after → Begins bytes (header_of m)
message_begins limit m bytes after small fits e = begins_of bytes (m.apdu ++ after) (header_of m) (header_fits limit m small fits) e

abbrev parts : ℕ → ℕ → List ℕ → Parts
parts a b c = record { source = a; dest = b; apdu = c }

pub same_front : (a b x y : List ℕ) → length a ≡ length b → a ++ x ≡ b ++ y → (a ≡ b) × (x ≡ y)
same_front a b x y len e = (
  sym (take_at a x (length b) len) ∙ ap (λ t. take (length b) t) e ∙ take_at b y (length b) refl,
  sym (drop_at a x (length b) len) ∙ ap (λ t. drop (length b) t) e ∙ drop_at b y (length b) refl,
)

pub one_message : (m n : Parts) (after rest : List ℕ) → message_bytes m ++ after ≡ message_bytes n ++ rest → (m ≡ n) × (after ≡ rest)
one_message m n after rest e =
    let both = one_header (header_of m) (header_of n) (m.apdu ++ after) (n.apdu ++ rest) e in
    let len : length m.apdu ≡ length n.apdu = ap (λ (h : Header). h.len) both.0 in
    let ends = same_front m.apdu n.apdu after rest len both.1 in
    let source : m.source ≡ n.source = ap (λ (h : Header). h.source) both.0 in
    let dest : m.dest ≡ n.dest = ap (λ (h : Header). h.dest) both.0 in
    (ap (λ x. parts x m.dest m.apdu) source ∙ (ap (λ x. parts n.source x m.apdu) dest ∙ ap (λ x. parts n.source n.dest x) ends.0), ends.1)

pub length-message : (m : Parts) → length (message_bytes m) ≡ 8 + length m.apdu
length-message m = grind arith

-- ---- whether octets begin with a message

-- octets that are fewer than their accepted header announces begin with no message
pub none_when_short : (limit : ℕ) (bytes : List ℕ) → limit ≤ 1024 → ((h : Header) → Begins bytes h → IsAccepted limit h → length bytes < 8 + h.len) → HasNoMessage limit bytes
none_when_short limit bytes small short m after fits e =
    let less = short (header_of m) (message_begins limit m bytes after small fits e) (header_accepted limit m fits) in
    let len : length bytes ≡ length (message_bytes m) + length after = ap length e ∙ length-append (message_bytes m) after in
    absurd (omega (arith, less, len, length-message m))

pub none_when_refused : (limit : ℕ) (bytes more after : List ℕ) (m : Parts) → limit ≤ 1024 → IsRefused limit bytes → IsMessage limit m → bytes ++ more ≡ message_bytes m ++ after → ⊥
none_when_refused limit bytes more after m small refused fits e =
    let here = begins_more bytes more refused.header refused.begins in
    let there = message_begins limit m (bytes ++ more) after small fits e in
    let same : header_of m ≡ refused.header = begins_one (bytes ++ more) (header_of m) refused.header there here in
    refused.refused (subst (λ h. IsAccepted limit h) same (header_accepted limit m fits))

-- the octets are a message with this header
pub whole_is : (limit : ℕ) (bytes : List ℕ) (h : Header) → IsWhole limit bytes h → (bytes ≡ message_bytes (parts h.source h.dest (drop 8 bytes))) × IsMessage limit (parts h.source h.dest (drop 8 bytes))
whole_is limit bytes h whole =
    let begins = whole.begins in
    let accepted = whole.accepted in
    let rest : length (drop 8 bytes) ≡ h.len = omega (arith, begins_long bytes h begins, whole.len) in
    let same : h ≡ header_of (parts h.source h.dest (drop 8 bytes)) = ap (λ n. header n h.source h.dest h.len) accepted.version ∙ ap (λ n. header 1 h.source h.dest n) (sym rest) in
    (begins.text ∙ ap (λ g. header_bytes g ++ drop 8 bytes) same, record { source = begins.fits.source; dest = begins.fits.dest; short = omega (arith, rest, accepted.short) })

-- octets that begin with no message are fewer than their accepted header announces
pub no_message_short : (limit : ℕ) (bytes : List ℕ) (h : Header) → HasNoMessage limit bytes → Begins bytes h → IsAccepted limit h → length bytes < 8 + h.len
no_message_short limit bytes h none begins accepted = elim (cases_lt (length bytes) (8 + h.len)) [ inl lt ↦ lt | inr ge ↦ absurd (too_many ge) ]
  where
    too_many : 8 + h.len ≤ length bytes → ⊥
    too_many ge =
        let long = begins_long bytes h begins in
        let len : length (take h.len (drop 8 bytes)) ≡ h.len = length-take-le h.len (drop 8 bytes) (omega arith) in
        let m : Parts = parts h.source h.dest (take h.len (drop 8 bytes)) in
        let fits : IsMessage limit m = record { source = begins.fits.source; dest = begins.fits.dest; short = omega (arith, len, accepted.short) } in
        let same : h ≡ header_of m = ap (λ n. header n h.source h.dest h.len) accepted.version ∙ ap (λ n. header 1 h.source h.dest n) (sym len) in
        let rest : drop 8 bytes ≡ m.apdu ++ drop h.len (drop 8 bytes) = sym (take-append-drop h.len (drop 8 bytes)) in
        none m (drop h.len (drop 8 bytes)) fits (begins.text ∙ (ap (λ g. header_bytes g ++ drop 8 bytes) same ∙ ap (λ t. header_bytes (header_of m) ++ t) rest))

-- the rest of the message that the header announces is not more than it announces
pub stops_at : (limit : ℕ) (kept : List ℕ) (g : Header) → Begins kept g → length kept ≤ 8 + g.len → StopsAt limit kept (8 + g.len - length kept)
stops_at limit kept g begins within more h few there accepted =
    let same : h ≡ g = begins_one (kept ++ more) h g there (begins_more kept more g begins) in
    let len : h.len ≡ g.len = ap (λ (x : Header). x.len) same in
    omega (arith, length-append kept more)

-- ---- refusals

-- a header that is refused for a cause is not accepted
pub refused_is_not_accepted : (limit : ℕ) (h : Header) (why : HeaderFault) → RefusesHeader limit h why → IsAccepted limit h → ⊥
refused_is_not_accepted limit h (Version found) refused accepted = refused.1 accepted.version
refused_is_not_accepted limit h (TooLong len most) refused accepted = omega (arith, refused.3, accepted.short)

pub refused_for : (limit : ℕ) (bytes : List ℕ) (why : HeaderFault) → IsRefusedFor limit bytes why → IsRefused limit bytes
refused_for limit bytes why a = record { header = a.header; begins = a.begins; refused = refused_is_not_accepted limit a.header why a.refused }
