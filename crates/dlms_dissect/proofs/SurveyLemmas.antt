-- The objects that consecutive fields name.
use Rattle.std.proofs.Common.{◌≡◌, ◌⊎◌, inl, inr, ℕ, ◌≤◌, ◌==◌, nat_le, if◌then◌else◌, Bool, true, false, List, [], ◌∷◌, ◌++◌, length, Option, Some, None, refl, sym, subst, arith}
use Rattle.dlms_dissect.specs.Secrets.{secrecy_at}
use Rattle.dlms_dissect.specs.Survey.{IsSurvey, Names, chief, name_in, named_by, noted, noted_all, nothing, rank, rank_of, secrecy_of_named, with_name}
use Rattle.dlms_dissect.specs.Walk.{IsRead, Spells, SpellsNothing, Told, is_field, is_list, next_of}
use Rattle.dlms_dissect.proofs.WalkLemmas.{left-spells, read-more}
use Rattle.dlms_dissect.specs.declared.fields.Field.TheVariants as field
use Rattle.dlms_dissect.specs.declared.named.Named.{Named}
use Rattle.dlms_dissect.specs.declared.secrecy.Secrecy.{Secrecy}
use Rattle.dlms_dissect.specs.declared.secrecy.Secrecy.TheVariants.{Open, Unknown, Secret}
use Rattle.dlms_dissect.specs.declared.survey.Survey.{Survey}
use Rattle.dlms_dissect.specs.declared.walk.Step.{Step}

-- so much is read, and this is said of it
abbrev pub IsSurveyed : List Step → List ℕ → Survey → List Step → List ℕ → Type 0
IsSurveyed steps octets s behind rest = (ts : List Told) × (IsRead steps octets ts behind rest × (s ≡ noted_all nothing ts))

noted-more : (s : Survey) (ts : List Told) (t : Told) → noted_all s (ts ++ (t ∷ [])) ≡ noted (noted_all s ts) t
noted-more s [] t = refl
noted-more s (u ∷ us) t = noted-more (noted s u) us t

pub surveyed-start : (steps : List Step) (octets : List ℕ) (s : Survey) → s ≡ nothing → IsSurveyed steps octets s steps octets
surveyed-start steps octets s is = ([], ((refl, refl), is))

pub surveyed-more : (steps : List Step) (octets : List ℕ) (s after : Survey) (behind next : List Step) (rest left : List ℕ) (t : Told)
    → IsSurveyed steps octets s behind rest → next_of behind rest ≡ Some (t, next, left) → after ≡ noted s t → IsSurveyed steps octets after next left
surveyed-more steps octets s after behind next rest left t surveyed is says =
    let e : noted_all nothing (surveyed.0 ++ (t ∷ [])) ≡ noted (noted_all nothing surveyed.0) t = noted-more nothing surveyed.0 t in
    let f : s ≡ noted_all nothing surveyed.0 = surveyed.1.1 in
    (surveyed.0 ++ (t ∷ []), (read-more steps octets surveyed.0 behind next rest left t surveyed.1.0 is, cc))

pub surveyed-none : (steps : List Step) (octets : List ℕ) (s : Survey) (behind : List Step) (rest : List ℕ)
    → IsSurveyed steps octets s behind rest → SpellsNothing behind rest → SpellsNothing steps octets
surveyed-none steps octets s behind rest surveyed none ts whole =
    let found = left-spells steps octets surveyed.0 ts behind rest surveyed.1.0 whole in none found.0 found.1

pub surveyed-end : (steps : List Step) (octets : List ℕ) (s : Survey) (behind : List Step) (rest : List ℕ)
    → IsSurveyed steps octets s behind rest → behind ≡ [] → rest ≡ [] → IsSurvey steps octets s
surveyed-end steps octets s behind rest surveyed done empty =
    let P : List Step → Type 0 = λ b. IsRead steps octets surveyed.0 b rest in
    let Q : List ℕ → Type 0 = λ r. IsRead steps octets surveyed.0 [] r in
    (surveyed.0, (subst Q empty (subst P done surveyed.1.0), surveyed.1.1))

-- octets are left after the last step
pub left-nothing : (behind : List Step) (rest : List ℕ) → behind ≡ [] → (rest ≡ [] → ⊥) → SpellsNothing behind rest
left-nothing behind rest done some [] whole = some whole.1
left-nothing behind rest done some (t ∷ ts) whole =
    let P : List Step → Type 0 = λ s. next_of s rest ≡ Some (t, whole.0, whole.1) in
    let e : None ≡ Some (t, whole.0, whole.1) = subst P done whole.2.0 in
    cc

pub not-empty : (rest : List ℕ) (empty : Bool) → empty ≡ (length rest == 0) → empty ≡ false → rest ≡ [] → ⊥
not-empty [] empty is h e = cc
not-empty (x ∷ xs) empty is h e = cc

-- ---- of what is named, the chief keeps most secret

le-two : (x : Secrecy) → nat_le (rank_of x) 2 ≡ true
le-two Open = refl
le-two Unknown = refl
le-two Secret = refl

if-true : (b : Bool) (x y : Option Named) → b ≡ true → (if b then x else y) ≡ x
if-true true x y e = refl
if-true false x y e = cc

chief-keeps : (one other : Named) → secrecy_at one ≡ Secret → chief (Some one) other ≡ Some one
chief-keeps one other e =
    let P : Secrecy → Type 0 = λ s. nat_le (rank_of (secrecy_at other)) (rank_of s) ≡ true in
    if-true (nat_le (rank other) (rank one)) (Some one) (Some other) (subst P (sym e) (le-two (secrecy_at other)))

-- a secret is the chief
abbrev pub IsChief : Option Named → Type 0
IsChief o = (n : Named) × ((o ≡ Some n) × (secrecy_at n ≡ Secret))

chief-either : (b : Bool) (one other : Named) → (b ≡ true → secrecy_at one ≡ Secret) → secrecy_at other ≡ Secret → IsChief (if b then Some one else Some other)
chief-either true one other h e = (one, (refl, h refl))
chief-either false one other h e = (other, (refl, e))

ranked : (x : Secrecy) → nat_le 2 (rank_of x) ≡ true → x ≡ Secret
ranked Open e = grind arith
ranked Unknown e = grind arith
ranked Secret e = refl

chief-takes : (o : Option Named) (other : Named) → secrecy_at other ≡ Secret → IsChief (chief o other)
chief-takes None other e = (other, (refl, e))
chief-takes (Some one) other e =
    let P : Secrecy → Type 0 = λ s. nat_le (rank_of s) (rank one) ≡ true in
    chief-either (nat_le (rank other) (rank one)) one other (λ le. ranked (secrecy_at one) (subst P e le)) e

chief-stays : (o : Option Named) (other : Named) → IsChief o → IsChief (chief o other)
chief-stays o other is =
    let P : Option Named → Type 0 = λ x. IsChief (chief x other) in
    let e : o ≡ Some is.0 = is.1.0 in
    subst P (sym e) (is.0, (chief-keeps is.0 other is.1.1, is.1.1))

with-name_stays : (s : Survey) (o : Option Named) → IsChief s.chief → IsChief (with_name s o).chief
with-name_stays s None is = is
with-name_stays s (Some n) is = chief-stays s.chief n is

with-name_takes : (s : Survey) (o : Option Named) (n : Named) → o ≡ Some n → secrecy_at n ≡ Secret → IsChief (with_name s o).chief
with-name_takes s o n is e =
    let P : Option Named → Type 0 = λ x. IsChief (with_name s x).chief in
    subst P (sym is) (chief-takes s.chief n e)

noted-stays : (s : Survey) (t : Told) → IsChief s.chief → IsChief (noted s t).chief
noted-stays s (is_list field count) is = is
noted-stays s (is_field field.Invoke octets) is = is
noted-stays s (is_field field.LongInvoke octets) is = with-name_stays s (name_in field.LongInvoke octets) is
noted-stays s (is_field field.Number octets) is = with-name_stays s (name_in field.Number octets) is
noted-stays s (is_field field.ShortNumber octets) is = with-name_stays s (name_in field.ShortNumber octets) is
noted-stays s (is_field field.Control octets) is = with-name_stays s (name_in field.Control octets) is
noted-stays s (is_field field.Attribute octets) is = with-name_stays s (name_in field.Attribute octets) is
noted-stays s (is_field field.Method octets) is = with-name_stays s (name_in field.Method octets) is
noted-stays s (is_field field.Notified octets) is = with-name_stays s (name_in field.Notified octets) is
noted-stays s (is_field field.Value octets) is = with-name_stays s (name_in field.Value octets) is
noted-stays s (is_field field.Parameter octets) is = with-name_stays s (name_in field.Parameter octets) is
noted-stays s (is_field field.GetResult octets) is = with-name_stays s (name_in field.GetResult octets) is
noted-stays s (is_field field.Return octets) is = with-name_stays s (name_in field.Return octets) is
noted-stays s (is_field field.AccessResult octets) is = with-name_stays s (name_in field.AccessResult octets) is
noted-stays s (is_field field.Exception octets) is = with-name_stays s (name_in field.Exception octets) is
noted-stays s (is_field field.ServiceError octets) is = with-name_stays s (name_in field.ServiceError octets) is
noted-stays s (is_field field.Block octets) is = with-name_stays s (name_in field.Block octets) is
noted-stays s (is_field field.BlockResult octets) is = with-name_stays s (name_in field.BlockResult octets) is
noted-stays s (is_field field.Time octets) is = with-name_stays s (name_in field.Time octets) is
noted-stays s (is_field field.OptionalTime octets) is = with-name_stays s (name_in field.OptionalTime octets) is
noted-stays s (is_field field.Title octets) is = with-name_stays s (name_in field.Title octets) is
noted-stays s (is_field field.Octets octets) is = with-name_stays s (name_in field.Octets octets) is
noted-stays s (is_field field.Ciphered octets) is = with-name_stays s (name_in field.Ciphered octets) is
noted-stays s (is_field field.Key octets) is = with-name_stays s (name_in field.Key octets) is
noted-stays s (is_field field.Access octets) is = with-name_stays s (name_in field.Access octets) is
noted-stays s (is_field field.NoAccess octets) is = with-name_stays s (name_in field.NoAccess octets) is
noted-stays s (is_field field.AccessDone octets) is = with-name_stays s (name_in field.AccessDone octets) is
noted-stays s (is_field field.ShortName octets) is = with-name_stays s (name_in field.ShortName octets) is
noted-stays s (is_field field.ShortData octets) is = with-name_stays s (name_in field.ShortData octets) is
noted-stays s (is_field field.ShortResult octets) is = with-name_stays s (name_in field.ShortResult octets) is

noted-takes : (s : Survey) (t : Told) (n : Named) → named_by t ≡ Some n → secrecy_at n ≡ Secret → IsChief (noted s t).chief
noted-takes s (is_list field count) n is e = cc
noted-takes s (is_field field.Invoke octets) n is e = cc
noted-takes s (is_field field.LongInvoke octets) n is e = with-name_takes s (name_in field.LongInvoke octets) n is e
noted-takes s (is_field field.Number octets) n is e = with-name_takes s (name_in field.Number octets) n is e
noted-takes s (is_field field.ShortNumber octets) n is e = with-name_takes s (name_in field.ShortNumber octets) n is e
noted-takes s (is_field field.Control octets) n is e = with-name_takes s (name_in field.Control octets) n is e
noted-takes s (is_field field.Attribute octets) n is e = with-name_takes s (name_in field.Attribute octets) n is e
noted-takes s (is_field field.Method octets) n is e = with-name_takes s (name_in field.Method octets) n is e
noted-takes s (is_field field.Notified octets) n is e = with-name_takes s (name_in field.Notified octets) n is e
noted-takes s (is_field field.Value octets) n is e = with-name_takes s (name_in field.Value octets) n is e
noted-takes s (is_field field.Parameter octets) n is e = with-name_takes s (name_in field.Parameter octets) n is e
noted-takes s (is_field field.GetResult octets) n is e = with-name_takes s (name_in field.GetResult octets) n is e
noted-takes s (is_field field.Return octets) n is e = with-name_takes s (name_in field.Return octets) n is e
noted-takes s (is_field field.AccessResult octets) n is e = with-name_takes s (name_in field.AccessResult octets) n is e
noted-takes s (is_field field.Exception octets) n is e = with-name_takes s (name_in field.Exception octets) n is e
noted-takes s (is_field field.ServiceError octets) n is e = with-name_takes s (name_in field.ServiceError octets) n is e
noted-takes s (is_field field.Block octets) n is e = with-name_takes s (name_in field.Block octets) n is e
noted-takes s (is_field field.BlockResult octets) n is e = with-name_takes s (name_in field.BlockResult octets) n is e
noted-takes s (is_field field.Time octets) n is e = with-name_takes s (name_in field.Time octets) n is e
noted-takes s (is_field field.OptionalTime octets) n is e = with-name_takes s (name_in field.OptionalTime octets) n is e
noted-takes s (is_field field.Title octets) n is e = with-name_takes s (name_in field.Title octets) n is e
noted-takes s (is_field field.Octets octets) n is e = with-name_takes s (name_in field.Octets octets) n is e
noted-takes s (is_field field.Ciphered octets) n is e = with-name_takes s (name_in field.Ciphered octets) n is e
noted-takes s (is_field field.Key octets) n is e = with-name_takes s (name_in field.Key octets) n is e
noted-takes s (is_field field.Access octets) n is e = with-name_takes s (name_in field.Access octets) n is e
noted-takes s (is_field field.NoAccess octets) n is e = with-name_takes s (name_in field.NoAccess octets) n is e
noted-takes s (is_field field.AccessDone octets) n is e = with-name_takes s (name_in field.AccessDone octets) n is e
noted-takes s (is_field field.ShortName octets) n is e = with-name_takes s (name_in field.ShortName octets) n is e
noted-takes s (is_field field.ShortData octets) n is e = with-name_takes s (name_in field.ShortData octets) n is e
noted-takes s (is_field field.ShortResult octets) n is e = with-name_takes s (name_in field.ShortResult octets) n is e

stays-all : (s : Survey) (ts : List Told) → IsChief s.chief → IsChief (noted_all s ts).chief
stays-all s [] is = is
stays-all s (t ∷ ts) is = stays-all (noted s t) ts (noted-stays s t is)

pub secret-chief : (s : Survey) (ts : List Told) (n : Named) → Names ts n → secrecy_at n ≡ Secret → IsChief (noted_all s ts).chief
secret-chief s [] n names e = absurd names
secret-chief s (t ∷ ts) n (inl is) e = stays-all (noted s t) ts (noted-takes s t n is e)
secret-chief s (t ∷ ts) n (inr names) e = secret-chief (noted s t) ts n names e

pub secret-told : (s : Survey) (ts : List Told) (n : Named) → Names ts n → secrecy_at n ≡ Secret → secrecy_of_named (noted_all s ts).chief ≡ Secret
secret-told s ts n names e =
    let is = secret-chief s ts n names e in
    let P : Option Named → Type 0 = λ o. secrecy_of_named o ≡ Secret in
    subst P (sym is.1.0) is.1.1
