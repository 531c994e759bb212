-- Texts in encodings, and texts that are shown one after another.
use Rattle.std.proofs.Common.{◌≡◌, ◌∙◌, ◌↔◌, ◌<◌, ◌+◌, ap, sym, refl, subst, ℕ, List, [], ◌∷◌, ◌++◌, length, take, drop, get_or, Option, Some, None, Bool, true, false, Result, Ok, Err, inl, append_assoc}
use Rattle.std.specs.Prelude.{IfSome, IsTrue}
use Rattle.std.proofs.lemmas.Bool.{false≢true}
use Rattle.std.proofs.lemmas.List.{append-nil, take_more, take-append-drop}
use Rattle.dlms_apdu.specs.Forms.{get_normal}
use Rattle.dlms_call.specs.Asking.{Requests}
use Rattle.dlms_call.specs.Talking.{TalkValue}
use Rattle.dlms_call.specs.declared.fault.CallFault.{CallFault}
use Rattle.dlms_client.specs.Plan.{PlanValue}
use Rattle.dlms_association.specs.declared.answer.Answer.{Answer}
use Rattle.dlms_association.specs.declared.requests.TheConstants.{INVOKE}
use Rattle.dlms_association.specs.declared.stage.Asked.TheVariants.{Get}
use Rattle.dlms_axdr.specs.Reading.{Fault}
use Rattle.dlms_data.specs.Value.{Value, null}
use Rattle.dlms_data.specs.Spelling.{IsSpelling}
use Rattle.dlms_data.specs.declared.descriptor.Descriptor.{Descriptor}
use Rattle.dlms_ends.specs.Moments.{Moment}
use Rattle.dlms_identity.specs.Text.{IsText, text_of}
use Rattle.dlms_identity.specs.Showing.{ShowAll, Shows, ShowsAllBut, ShowsUpTo, Talks, Tells}
use Rattle.dlms_identity.specs.Showing.ShowAll.{ShowsOneMore}
use Rattle.dlms_identity.specs.declared.showing.Expected.{Expected}

-- ---- what is read of an encoding

some_or : {X : Type 0} (text : Option (List ℕ)) → X → IfSome text (λ _. X)
some_or None x = tt
some_or (Some text) x = x

abbrev read_as : Value → ℕ → Result (Value × ℕ) Fault
read_as v n = Ok (v, n)

abbrev value_in : Result (Value × ℕ) Fault → Value
value_in (Ok x) = x.0
value_in (Err e) = null

pub read_text : (octets : List ℕ) (w : Value) (n : ℕ) (text : Option (List ℕ)) → ((v : Value) × IsSpelling octets v)
    → ((v : Value) (front rest : List ℕ) → IsSpelling front v → octets ≡ front ++ rest → read_as v (length front) ≡ read_as w n) → text ≡ text_of w → IsText octets text
read_text octets w n text spelled only is = (
  λ v spells. let e : v ≡ w = ap value_in (only v octets [] spells (sym (append-nil octets))) in ap text_of e ∙ sym is,
  some_or text spelled,
)

-- ---- a request of the same object

pub requests_as : (most : ℕ) (may : Type 0) (d e : Descriptor) (old new : Option (List Moment)) (t : TalkValue) (result : Result Answer CallFault) (t' : TalkValue) → d ≡ e
    → Requests most may Get (get_normal INVOKE d None) old new t result t' → Requests most may Get (get_normal INVOKE e None) old new t result t'
requests_as most may d e old new t result t' is requests = subst (λ (x : Descriptor). Requests most may Get (get_normal INVOKE x None) old new t result t') is requests

-- ---- what is told of a talk

pub tells_so : (old new : Option (List Moment)) (plan : PlanValue) (name : List ℕ) (result : Result (Option (List ℕ)) CallFault) → Talks old new plan name result → Tells old new plan name result
tells_so old new plan name (Ok text) talks = talks
tells_so old new plan name (Err why) talks = inl talks

pub shows_so : (old new : Option (List Moment)) (plan : PlanValue) (expected : Expected) (told : Option (List ℕ)) (is : Bool) → (IsTrue is ↔ (told ≡ Some expected.text.now)) → Tells old new plan expected.name (Ok told)
    → Shows old new plan expected (Ok is)
shows_so old new plan expected told true same tells = subst (λ (text : Option (List ℕ)). Tells old new plan expected.name (Ok text)) (same.0 refl) tells
shows_so old new plan expected told false same tells = (told, λ e. false≢true (same.1 e), tells)

-- ---- one after another

plan_as : (old new : Option (List Moment)) (plan given : PlanValue) (one : Expected) (result given_result : Result Bool CallFault) → given ≡ plan → given_result ≡ result → Shows old new given one given_result → Shows old new plan one result
plan_as old new plan given one result given_result same is shows =
    subst (λ (p : PlanValue). Shows old new p one result) same (subst (λ (r : Result Bool CallFault). Shows old new given one r) is shows)

pub one_more : (old mid new : Option (List Moment)) (plan given : PlanValue) (xs : List Expected) (i : ℕ) (d : Expected) (result : Result Bool CallFault) → i < length xs → ShowAll old plan (take i xs) mid → given ≡ plan
    → result ≡ Ok true → Shows mid new given (get_or xs i d) result → ShowAll old plan (take (i + 1) xs) new
one_more old mid new plan given xs i d result lt all same is shows =
    subst (λ (front : List Expected). ShowAll old plan front new) (sym (take_more xs i d lt))
    (ShowsOneMore (take i xs) (get_or xs i d) mid new all (plan_as mid new plan given (get_or xs i d) (Ok true) result same is shows))

cut_at : (xs : List Expected) (i : ℕ) (d : Expected) → i < length xs → xs ≡ take i xs ++ get_or xs i d ∷ drop (i + 1) xs
cut_at xs i d lt =
    sym (take-append-drop (i + 1) xs) ∙ ap (λ (front : List Expected). front ++ drop (i + 1) xs) (take_more xs i d lt) ∙ append_assoc (take i xs) (get_or xs i d ∷ []) (drop (i + 1) xs)

pub up_to : (old mid new : Option (List Moment)) (plan given : PlanValue) (xs : List Expected) (i : ℕ) (d : Expected) (result given_result : Result Bool CallFault) → i < length xs → ShowAll old plan (take i xs) mid → given ≡ plan
    → given_result ≡ result → Shows mid new given (get_or xs i d) given_result → ShowsUpTo old new plan xs result
up_to old mid new plan given xs i d result given_result lt all same is shows = record {
  front = take i xs;
  one = get_or xs i d;
  rest = drop (i + 1) xs;
  mid = mid;
  all = cut_at xs i d lt;
  before = all;
  shows = plan_as mid new plan given (get_or xs i d) result given_result same is shows;
}

pub other_at : (old mid new : Option (List Moment)) (plan given : PlanValue) (xs : List Expected) (i : ℕ) (d : Expected) (given_result : Result Bool CallFault) → i < length xs → ShowAll old plan (take i xs) mid → given ≡ plan
    → given_result ≡ Ok false → Shows mid new given (get_or xs i d) given_result → ShowsAllBut old new plan xs (Ok (Some (get_or xs i d)))
other_at old mid new plan given xs i d given_result lt all same is shows = (
  record {
    front = take i xs;
    one = get_or xs i d;
    rest = drop (i + 1) xs;
    mid = mid;
    all = cut_at xs i d lt;
    before = all;
    shows = plan_as mid new plan given (get_or xs i d) (Ok false) given_result same is shows;
  },
  refl,
)
