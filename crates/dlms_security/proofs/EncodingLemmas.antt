-- A message is read exactly if it is encoded as a ciphered form.
use Rattle.std.proofs.Common.{arith, refl, ap, ◌∙◌, sym, subst, ◌≡◌, ◌+◌, ◌*◌, ◌^◌, ◌<◌, ◌==◌, inl, inr, nat_lt, get_or, ℕ, zero, suc, Bool, true, false, List, [], ◌∷◌, ◌++◌, length, Option, Some, None, Ok, Err, append_assoc, if◌then◌else◌}
use Rattle.std.specs.Prelude.{option_and_then}
use Rattle.std.specs.Int.{w32, to_be_bytes, from_be_bytes}
use Rattle.std.proofs.lemmas.Nat.{be_bytes_4}
use Rattle.std.proofs.lemmas.Bool.Decides.{nat_tests}
use Rattle.dlms_security.specs.declared.form.Head.{Head}
use Rattle.dlms_security.specs.declared.fault.UnprotectFault.TheVariants.{NotProtected}
use Rattle.dlms_security.specs.Form.{is_form_tag, is_general, exactly, content, content_of, content_of_one, content_of_two, header, service, titled_parts, general, or_short, parts}
use Rattle.dlms_security.specs.Encoding.{IsLength, IsFront, IsEncoding, AreBytes, ReadExactly}
use Rattle.dlms_security.proofs.FormLemmas.{exactly_back, by_two, by_one, header_back, general_is, parts_service, parts_general}

-- ---- an encoding is read

content_any : (n : ℕ) (size inner : List ℕ) → n ≡ length inner → IsLength n size → content_of (size ++ inner) ≡ Some inner
content_any n size inner e (inl one) =
    let short : nat_lt n 0x80 ≡ true = (let below : n < 0x80 = one.0 in grind (arith, nat_tests)) in
    subst (λ (l : List ℕ). content_of (l ++ inner) ≡ Some inner) (sym one.1) (by_one n inner e short)
content_any n size inner e (inr (inl two)) = subst (λ (l : List ℕ). content_of (l ++ inner) ≡ Some inner) (sym two.1) (by_two n inner e)
content_any n size inner e (inr (inr three)) =
    subst (λ (l : List ℕ). content_of (l ++ inner) ≡ Some inner) (sym three.encoded) (exactly_back (three.high * 256 + three.low) inner (sym three.number ∙ e))

header_of : (tag : ℕ) (title : Option (List ℕ)) (head : Head) (body : List ℕ) → head.tag ≡ tag → head.title ≡ title → head.counter < 2 ^ 32
    → header tag title (content head.control head.counter body) ≡ Some (head, body)
header_of tag title head body t n fits =
    header_back tag title head.control head.counter body fits
    ∙ ap (λ (k : ℕ). Some (record { tag = k; title = title; control = head.control; counter = head.counter }, body)) (sym t)
    ∙ ap (λ (o : Option (List ℕ)). Some (record { tag = head.tag; title = o; control = head.control; counter = head.counter }, body)) (sym n)

form_is_other : (tag : ℕ) → is_form_tag tag ≡ true → is_general tag ≡ false
form_is_other tag form = grind (arith, nat_tests)

read_of : (message : List ℕ) (head : Head) (body : List ℕ) → IsEncoding message head body → parts message ≡ Ok (head, body)
read_of message head body s = ap parts s.whole ∙ by_title head.title refl s.in_front
  where
    by_title : (o : Option (List ℕ)) → head.title ≡ o → IsFront head.tag o s.front → parts (s.front ++ s.size ++ content head.control head.counter body) ≡ Ok (head, body)
    by_title None t (glo, front) =
        let rest = s.size ++ content head.control head.counter body in
        let found : service head.tag rest ≡ Some (head, body) =
        ap (option_and_then (header head.tag None)) (content_any (length (content head.control head.counter body)) s.size (content head.control head.counter body) refl s.sized)
        ∙ header_of head.tag None head body refl t s.counter in
        ap (λ (l : List ℕ). parts (l ++ s.size ++ content head.control head.counter body)) front
        ∙ parts_service head.tag rest (head, body) (form_is_other head.tag glo) glo found
    by_title (Some title) t (eight, tag, front) =
        let rest = s.size ++ content head.control head.counter body in
        let found : titled_parts head.tag title rest ≡ Some (head, body) =
        ap (option_and_then (header head.tag (Some title))) (content_any (length (content head.control head.counter body)) s.size (content head.control head.counter body) refl s.sized)
        ∙ header_of head.tag (Some title) head body refl t s.counter in
        ap (λ (l : List ℕ). parts (l ++ s.size ++ content head.control head.counter body)) front
        ∙ ap (λ (l : List ℕ). parts (head.tag ∷ 8 ∷ l)) (append_assoc title s.size (content head.control head.counter body))
        ∙ parts_general head.tag (8 ∷ (title ++ rest)) (head, body) tag (general_is head.tag title rest eight ∙ found)

-- ---- a message that is read is an encoding

exactly_is : (n : ℕ) (rest inner : List ℕ) → exactly n rest ≡ Some inner → (n ≡ length inner) × (rest ≡ inner)
exactly_is n rest inner e = by_test (n == length rest) refl
  where
    by_test : (b : Bool) → (n == length rest) ≡ b → (n ≡ length inner) × (rest ≡ inner)
    by_test true t =
        let some : Some rest ≡ Some inner = rw t at e in
        let same : rest ≡ inner = cc in
        let long : n ≡ length rest = grind (arith, nat_tests) in
        (long ∙ ap length same, same)
    by_test false t = absurd (let no : None ≡ Some inner = rw t at e in cc)

-- a content and its length
record Sized (rest inner : List ℕ) : Type 0 where
  size : List ℕ
  sized : IsLength (length inner) size
  whole : rest ≡ size ++ inner

one_is : (octets inner : List ℕ) → AreBytes octets → content_of_one octets ≡ Some inner → Sized (0x81 ∷ octets) inner
one_is [] inner bytes e = absurd cc
one_is (a ∷ rest) inner bytes e =
    let is = exactly_is a rest inner e in
    let long : a ≡ length inner = is.0 in
    let byte : a < 256 = bytes 0 in
    record {
      size = 0x81 ∷ length inner ∷ [];
      sized = inr (inl (omega arith, refl));
      whole = ap (λ (n : ℕ). 0x81 ∷ n ∷ rest) long ∙ ap (λ (l : List ℕ). 0x81 ∷ length inner ∷ l) is.1;
    }

two_is : (octets inner : List ℕ) → AreBytes octets → content_of_two octets ≡ Some inner → Sized (0x82 ∷ octets) inner
two_is [] inner bytes e = absurd cc
two_is (a ∷ []) inner bytes e = absurd cc
two_is (a ∷ b ∷ rest) inner bytes e =
    let is = exactly_is (a * 256 + b) rest inner e in
    record {
      size = 0x82 ∷ a ∷ b ∷ [];
      sized = inr (inr (record { high = a; low = b; high_byte = bytes 0; low_byte = bytes 1; number = sym is.0; encoded = refl }));
      whole = ap (λ (l : List ℕ). 0x82 ∷ a ∷ b ∷ l) is.1;
    }

content_is : (octets inner : List ℕ) → AreBytes octets → content_of octets ≡ Some inner → Sized octets inner
content_is [] inner bytes e = absurd cc
content_is (first ∷ rest) inner bytes e = by_first (nat_lt first 0x80) refl
  where
    tail : AreBytes rest
    tail i = bytes (suc i)

    by_third : (b : Bool) → (first == 0x82) ≡ b → (if b then content_of_two rest else None) ≡ Some inner → Sized (first ∷ rest) inner
    by_third true t h =
        let is : first ≡ 0x82 = grind (arith, nat_tests) in
        subst (λ (n : ℕ). Sized (n ∷ rest) inner) (sym is) (two_is rest inner tail h)
    by_third false t h = absurd cc

    by_second : (b : Bool) → (first == 0x81) ≡ b → (if b then content_of_one rest else if first == 0x82 then content_of_two rest else None) ≡ Some inner → Sized (first ∷ rest) inner
    by_second true t h =
        let is : first ≡ 0x81 = grind (arith, nat_tests) in
        subst (λ (n : ℕ). Sized (n ∷ rest) inner) (sym is) (one_is rest inner tail h)
    by_second false t h = by_third (first == 0x82) refl h

    by_first : (b : Bool) → nat_lt first 0x80 ≡ b → Sized (first ∷ rest) inner
    by_first true t =
        let h : exactly first rest ≡ Some inner = rw t at e in
        let is = exactly_is first rest inner h in
        let long : first ≡ length inner = is.0 in
        let below : first < 0x80 = grind (arith, nat_tests) in
        record {
          size = length inner ∷ [];
          sized = inl (omega arith, refl);
          whole = ap (λ (n : ℕ). n ∷ rest) long ∙ ap (λ (l : List ℕ). length inner ∷ l) is.1;
        }
    by_first false t =
        let h : (if first == 0x81 then content_of_one rest else if first == 0x82 then content_of_two rest else None) ≡ Some inner = rw t at e in
        by_second (first == 0x81) refl h

-- a header that is read
record Headed (tag : ℕ) (title : Option (List ℕ)) (inner : List ℕ) (head : Head) (body : List ℕ) : Type 0 where
  same_tag : head.tag ≡ tag
  same_title : head.title ≡ title
  fits : head.counter < 2 ^ 32
  whole : inner ≡ content head.control head.counter body

four_bytes : (a b c d : ℕ) → a < 256 → b < 256 → c < 256 → d < 256 → (i : ℕ) → get_or (a ∷ b ∷ c ∷ d ∷ []) i 0 < 256
four_bytes a b c d p q r s zero = p
four_bytes a b c d p q r s (suc zero) = q
four_bytes a b c d p q r s (suc (suc zero)) = r
four_bytes a b c d p q r s (suc (suc (suc zero))) = s
four_bytes a b c d p q r s (suc (suc (suc (suc i)))) = omega arith

header_is : (tag : ℕ) (title : Option (List ℕ)) (inner : List ℕ) (head : Head) (body : List ℕ) → AreBytes inner → header tag title inner ≡ Some (head, body) → Headed tag title inner head body
header_is tag title [] head body bytes e = absurd cc
header_is tag title (a ∷ []) head body bytes e = absurd cc
header_is tag title (a ∷ b ∷ []) head body bytes e = absurd cc
header_is tag title (a ∷ b ∷ c ∷ []) head body bytes e = absurd cc
header_is tag title (a ∷ b ∷ c ∷ d ∷ []) head body bytes e = absurd cc
header_is tag title (control ∷ a ∷ b ∷ c ∷ d ∷ rest) head body bytes e =
    let found : Head = record { tag = tag; title = title; control = control; counter = from_be_bytes w32 (a ∷ b ∷ c ∷ d ∷ []) } in
    let a_byte : a < 256 = bytes 1 in
    let b_byte : b < 256 = bytes 2 in
    let c_byte : c < 256 = bytes 3 in
    let d_byte : d < 256 = bytes 4 in
    let fits : from_be_bytes w32 (a ∷ b ∷ c ∷ d ∷ []) < 2 ^ 32 = omega arith in
    let both : Some (found, rest) ≡ Some (head, body) = e in
    let pair : (found, rest) ≡ (head, body) = cc in
    let same_head : found ≡ head = ap (λ (p : Head × List ℕ). p.0) pair in
    let same_body : rest ≡ body = ap (λ (p : Head × List ℕ). p.1) pair in
    let written : to_be_bytes w32 (from_be_bytes w32 (a ∷ b ∷ c ∷ d ∷ [])) ≡ a ∷ b ∷ c ∷ d ∷ [] =
    be_bytes_4 (a ∷ b ∷ c ∷ d ∷ []) (from_be_bytes w32 (a ∷ b ∷ c ∷ d ∷ [])) refl (four_bytes a b c d a_byte b_byte c_byte d_byte) refl in
    subst (λ (h : Head). Headed tag title (control ∷ a ∷ b ∷ c ∷ d ∷ rest) h body) same_head
    (subst (λ (l : List ℕ). Headed tag title (control ∷ a ∷ b ∷ c ∷ d ∷ rest) found l) same_body (record {
      same_tag = refl;
      same_title = refl;
      fits = fits;
      whole = ap (λ (l : List ℕ). control ∷ (l ++ rest)) (sym written);
    }))

bytes_after : (front rest : List ℕ) → AreBytes (front ++ rest) → AreBytes rest
bytes_after [] rest bytes = bytes
bytes_after (x ∷ front) rest bytes = bytes_after front rest (λ i. bytes (suc i))

-- a length, a header and a body
record Counted (tag : ℕ) (title : Option (List ℕ)) (rest : List ℕ) (head : Head) (body : List ℕ) : Type 0 where
  inner : List ℕ
  sized : Sized rest inner
  headed : Headed tag title inner head body

counted_is : (tag : ℕ) (title : Option (List ℕ)) (rest : List ℕ) (head : Head) (body : List ℕ) → AreBytes rest
    → option_and_then (header tag title) (content_of rest) ≡ Some (head, body) → Counted tag title rest head body
counted_is tag title rest head body bytes e = by_content (content_of rest) refl e
  where
    by_content : (o : Option (List ℕ)) → content_of rest ≡ o → option_and_then (header tag title) o ≡ Some (head, body) → Counted tag title rest head body
    by_content None c h = absurd cc
    by_content (Some inner) c h =
        let sized = content_is rest inner bytes c in
        record {
          inner = inner;
          sized = sized;
          headed = header_is tag title inner head body (bytes_after sized.size inner (subst (λ (l : List ℕ). AreBytes l) sized.whole bytes)) h;
        }

from_short : (o : Option (Head × List ℕ)) (p : Head × List ℕ) → or_short o ≡ Ok p → o ≡ Some p
from_short None p e = absurd cc
from_short (Some q) p e = (let same : q ≡ p = cc in ap (λ (x : Head × List ℕ). Some x) same)

-- a general ciphered form, after its tag
record Titled (tag : ℕ) (octets : List ℕ) (head : Head) (body : List ℕ) : Type 0 where
  title : List ℕ
  rest : List ℕ
  eight : length title ≡ 8
  whole : octets ≡ 8 ∷ (title ++ rest)
  counted : Counted tag (Some title) rest head body

general_found : (tag : ℕ) (octets : List ℕ) (head : Head) (body : List ℕ) → AreBytes octets → general tag octets ≡ Some (head, body) → Titled tag octets head body
general_found tag ([]) head body bytes e = absurd cc
general_found tag (n ∷ []) head body bytes e = absurd cc
general_found tag (n ∷ a ∷ []) head body bytes e = absurd cc
general_found tag (n ∷ a ∷ b ∷ []) head body bytes e = absurd cc
general_found tag (n ∷ a ∷ b ∷ c ∷ []) head body bytes e = absurd cc
general_found tag (n ∷ a ∷ b ∷ c ∷ d ∷ []) head body bytes e = absurd cc
general_found tag (n ∷ a ∷ b ∷ c ∷ d ∷ f ∷ []) head body bytes e = absurd cc
general_found tag (n ∷ a ∷ b ∷ c ∷ d ∷ f ∷ g ∷ []) head body bytes e = absurd cc
general_found tag (n ∷ a ∷ b ∷ c ∷ d ∷ f ∷ g ∷ h ∷ []) head body bytes e = absurd cc
general_found tag (n ∷ a ∷ b ∷ c ∷ d ∷ f ∷ g ∷ h ∷ i ∷ rest) head body bytes e = by_eight (n == 8) refl e
  where
    by_eight : (t : Bool) → (n == 8) ≡ t → (if t then titled_parts tag (a ∷ b ∷ c ∷ d ∷ f ∷ g ∷ h ∷ i ∷ []) rest else None) ≡ Some (head, body) → Titled tag (n ∷ a ∷ b ∷ c ∷ d ∷ f ∷ g ∷ h ∷ i ∷ rest) head body
    by_eight true t h2 =
        let is : n ≡ 8 = grind (arith, nat_tests) in
        record {
          title = a ∷ b ∷ c ∷ d ∷ f ∷ g ∷ h ∷ i ∷ [];
          rest = rest;
          eight = refl;
          whole = ap (λ (k : ℕ). k ∷ a ∷ b ∷ c ∷ d ∷ f ∷ g ∷ h ∷ i ∷ rest) is;
          counted = counted_is tag (Some (a ∷ b ∷ c ∷ d ∷ f ∷ g ∷ h ∷ i ∷ [])) rest head body (λ k. bytes (suc (suc (suc (suc (suc (suc (suc (suc (suc k)))))))))) h2;
        }
    by_eight false t h2 = absurd cc

-- the parts of a message, after its front
encoding_of : (message front rest inner : List ℕ) (tag : ℕ) (title : Option (List ℕ)) (head : Head) (body : List ℕ) → IsFront tag title front → message ≡ front ++ rest
    → Sized rest inner → Headed tag title inner head body → IsEncoding message head body
encoding_of message front rest inner tag title head body in_front whole sized headed =
    let same = headed.whole in
    record {
      front = front;
      size = sized.size;
      in_front = subst (λ (k : ℕ). IsFront k head.title front) (sym headed.same_tag) (subst (λ (o : Option (List ℕ)). IsFront tag o front) (sym headed.same_title) in_front);
      sized = subst (λ (l : List ℕ). IsLength (length l) sized.size) same sized.sized;
      counter = headed.fits;
      whole =
          whole ∙ ap (λ (l : List ℕ). front ++ l) (sized.whole ∙ ap (λ (l : List ℕ). sized.size ++ l) same)
          ∙ sym (append_assoc front sized.size (content head.control head.counter body));
    }

encoding_is : (message : List ℕ) (head : Head) (body : List ℕ) → AreBytes message → parts message ≡ Ok (head, body) → IsEncoding message head body
encoding_is [] head body bytes e = absurd cc
encoding_is (tag ∷ rest) head body bytes e = by_general (is_general tag) refl e
  where
    tail : AreBytes rest
    tail i = bytes (suc i)

    by_form : (b : Bool) → is_form_tag tag ≡ b → (if b then or_short (service tag rest) else Err NotProtected) ≡ Ok (head, body) → IsEncoding (tag ∷ rest) head body
    by_form true t h =
        let c = counted_is tag None rest head body tail (from_short (service tag rest) (head, body) h) in
        encoding_of (tag ∷ rest) (tag ∷ []) rest c.inner tag None head body (t, refl) refl c.sized c.headed
    by_form false t h = absurd cc

    by_general : (b : Bool) → is_general tag ≡ b → (if b then or_short (general tag rest) else if is_form_tag tag then or_short (service tag rest) else Err NotProtected) ≡ Ok (head, body) → IsEncoding (tag ∷ rest) head body
    by_general true t h =
        let g = general_found tag rest head body tail (from_short (general tag rest) (head, body) h) in
        let whole : tag ∷ rest ≡ (tag ∷ 8 ∷ g.title) ++ g.rest = ap (λ (l : List ℕ). tag ∷ l) g.whole in
        encoding_of (tag ∷ rest) (tag ∷ 8 ∷ g.title) g.rest g.counted.inner tag (Some g.title) head body (g.eight, t, refl) whole g.counted.sized g.counted.headed
    by_general false t h = by_form (is_form_tag tag) refl h

pub read_exactly : ReadExactly
read_exactly message head body bytes = (encoding_is message head body bytes, read_of message head body)
