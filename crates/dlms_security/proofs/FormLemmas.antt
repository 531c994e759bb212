-- A message that is written is read again.
use Rattle.std.proofs.Common.{arith, refl, ap, ◌∙◌, sym, subst, ◌≡◌, ◌+◌, ◌*◌, ◌/◌, ◌%◌, ◌^◌, ◌<◌, ◌==◌, nat_lt, ℕ, Bool, true, false, List, [], ◌∷◌, ◌++◌, length, Option, Some, None, Ok, Err, append_assoc, if◌then◌else◌}
use Rattle.std.proofs.lemmas.Nat.{from_be_bytes-to_be_bytes_4}
use Rattle.std.proofs.lemmas.Bool.Decides.{nat_tests}
use Rattle.dlms_security.specs.declared.form.Head.{Head}
use Rattle.dlms_security.specs.declared.kind.KeyKind.{KeyKind}
use Rattle.dlms_security.specs.declared.kind.KeyKind.TheVariants.{Global, Dedicated}
use Rattle.dlms_security.specs.Form.{form_tag, is_form_tag, general_tag, is_general, length_octets, exactly, content, content_of, header, service, titled_parts, general, or_short, message_of, parts}
use Rattle.dlms_security.specs.declared.fault.UnprotectFault.TheVariants.{NotProtected}

pub exactly_back : (n : ℕ) (xs : List ℕ) → n ≡ length xs → exactly n xs ≡ Some xs
exactly_back n xs e =
    let same : (n == length xs) ≡ true = grind (arith, nat_tests) in
    rw same refl

pub by_three : (n : ℕ) (inner : List ℕ) → n ≡ length inner → content_of (0x82 ∷ n / 256 ∷ n % 256 ∷ inner) ≡ Some inner
by_three n inner e = exactly_back (n / 256 * 256 + n % 256) inner (omega arith)

pub by_two : (n : ℕ) (inner : List ℕ) → n ≡ length inner → content_of (0x81 ∷ n ∷ inner) ≡ Some inner
by_two n inner e = exactly_back n inner e

pub by_one : (n : ℕ) (inner : List ℕ) → n ≡ length inner → nat_lt n 0x80 ≡ true → content_of (n ∷ inner) ≡ Some inner
by_one n inner e short = rw short (exactly_back n inner e)

pub content_back : (n : ℕ) (inner : List ℕ) → n ≡ length inner → content_of (length_octets n ++ inner) ≡ Some inner
content_back n inner e = by_first (nat_lt n 0x80) refl
  where
    by_second : (b : Bool) → nat_lt n 0x80 ≡ false → nat_lt n 0x100 ≡ b → content_of (length_octets n ++ inner) ≡ Some inner
    by_second true f t = rw (f, t) (by_two n inner e)
    by_second false f t = rw (f, t) (by_three n inner e)

    by_first : (b : Bool) → nat_lt n 0x80 ≡ b → content_of (length_octets n ++ inner) ≡ Some inner
    by_first true t = subst (λ (l : List ℕ). content_of (l ++ inner) ≡ Some inner) (sym (one t)) (by_one n inner e t)
      where
        one : nat_lt n 0x80 ≡ true → length_octets n ≡ n ∷ []
        one h = rw h refl
    by_first false f = by_second (nat_lt n 0x100) f refl

pub header_back : (tag : ℕ) (title : Option (List ℕ)) (control counter : ℕ) (body : List ℕ) → counter < 2 ^ 32
    → header tag title (content control counter body) ≡ Some (record { tag = tag; title = title; control = control; counter = counter }, body)
header_back tag title control counter body fits =
    let h : ℕ → Head = λ (k : ℕ). record { tag = tag; title = title; control = control; counter = k } in
    ap (λ (k : ℕ). Some (h k, body)) (from_be_bytes-to_be_bytes_4 counter fits)

pub service_is : (tag control counter : ℕ) (body : List ℕ) → counter < 2 ^ 32
    → service tag (length_octets (length (content control counter body)) ++ content control counter body) ≡ Some (record { tag = tag; title = None; control = control; counter = counter }, body)
service_is tag control counter body fits =
    let inner = content control counter body in
    rw (content_back (length inner) inner refl) (header_back tag None control counter body fits)

pub parts_service : (tag : ℕ) (rest : List ℕ) (found : Head × List ℕ) → is_general tag ≡ false → is_form_tag tag ≡ true → service tag rest ≡ Some found
    → parts (tag ∷ rest) ≡ Ok found
parts_service tag rest found other glo e =
    ap (λ (b : Bool). if b then or_short (general tag rest) else if is_form_tag tag then or_short (service tag rest) else Err NotProtected) other
    ∙ ap (λ (b : Bool). if b then or_short (service tag rest) else Err NotProtected) glo
    ∙ ap or_short e

pub service_back : (tag control counter : ℕ) (body : List ℕ) → counter < 2 ^ 32 → is_general tag ≡ false → is_form_tag tag ≡ true
    → parts (message_of (tag ∷ []) (content control counter body)) ≡ Ok (record { tag = tag; title = None; control = control; counter = counter }, body)
service_back tag control counter body fits other glo =
    let inner = content control counter body in
    parts_service tag (length_octets (length inner) ++ inner) (record { tag = tag; title = None; control = control; counter = counter }, body) other glo (service_is tag control counter body fits)

titled_back : (tag : ℕ) (title : List ℕ) (control counter : ℕ) (body : List ℕ) → counter < 2 ^ 32
    → titled_parts tag title (length_octets (length (content control counter body)) ++ content control counter body) ≡ Some (record { tag = tag; title = Some title; control = control; counter = counter }, body)
titled_back tag title control counter body fits =
    let inner = content control counter body in
    rw (content_back (length inner) inner refl) (header_back tag (Some title) control counter body fits)

pub general_is : (tag : ℕ) (own rest : List ℕ) → length own ≡ 8 → general tag (8 ∷ (own ++ rest)) ≡ titled_parts tag own rest
general_is tag (a ∷ b ∷ c ∷ d ∷ e ∷ f ∷ g ∷ h ∷ []) rest eight = refl
general_is tag own rest eight = absurd (omega arith)

pub parts_general : (tag : ℕ) (rest : List ℕ) (found : Head × List ℕ) → is_general tag ≡ true → general tag rest ≡ Some found → parts (tag ∷ rest) ≡ Ok found
parts_general tag rest found is e =
    ap (λ (b : Bool). if b then or_short (general tag rest) else if is_form_tag tag then or_short (service tag rest) else Err NotProtected) is ∙ ap or_short e

pub general_back : (tag : ℕ) (own : List ℕ) (control counter : ℕ) (body : List ℕ) → is_general tag ≡ true → length own ≡ 8 → counter < 2 ^ 32
    → parts (message_of (tag ∷ 8 ∷ own) (content control counter body)) ≡ Ok (record { tag = tag; title = Some own; control = control; counter = counter }, body)
general_back tag own control counter body is eight fits =
    let inner = content control counter body in
    let front = length_octets (length inner) in
    ap (λ (l : List ℕ). parts (tag ∷ 8 ∷ l)) (append_assoc own front inner)
    ∙ parts_general tag (8 ∷ (own ++ (front ++ inner))) (record { tag = tag; title = Some own; control = control; counter = counter }, body) is
    (general_is tag own (front ++ inner) eight ∙ titled_back tag own control counter body fits)

pub tag_is_general : (kind : KeyKind) → is_general (general_tag kind) ≡ true
tag_is_general Global = refl
tag_is_general Dedicated = refl

-- the tag of a service's ciphered form is read as one, and is not a general one
pub form_found : (kind : KeyKind) (tag form : ℕ) → form_tag kind tag ≡ Some form
    → (is_general form ≡ false) × (is_form_tag form ≡ true) × ((form == general_tag kind) ≡ false)
form_found Global tag form e = (grind (arith, nat_tests), grind (arith, nat_tests), grind (arith, nat_tests))
form_found Dedicated tag form e = (grind (arith, nat_tests), grind (arith, nat_tests), grind (arith, nat_tests))
