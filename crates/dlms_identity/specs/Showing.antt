-- The texts that a meter's objects show, each read in an association of its own.
use Rattle.std.specs.Prelude.{◌≡◌, ◌≢◌, ◌⊎◌, ℕ, Bool, true, false, List, [], ◌∷◌, ◌++◌, Option, Some, None, Result, Ok, Err}
use Rattle.dlms_apdu.specs.Forms.{get_normal}
use Rattle.dlms_client.specs.Plan.{PlanValue}
use Rattle.dlms_association.specs.declared.answer.Answer.{Answer}
use Rattle.dlms_association.specs.declared.answer.Answer.TheVariants as answer
use Rattle.dlms_association.specs.declared.requests.TheConstants.{INVOKE}
use Rattle.dlms_association.specs.declared.stage.Asked.TheVariants.{Get}
use Rattle.dlms_data.specs.declared.descriptor.Descriptor.{Descriptor}
use Rattle.dlms_ends.specs.Moments.{Moment}
use Rattle.dlms_call.specs.Asking.{EndsTalk, FailsToOpen, IsFree, Opens, Requests}
use Rattle.dlms_call.specs.Talking.{TalkValue}
use Rattle.dlms_call.specs.declared.fault.CallFault.{CallFault}
use Rattle.dlms_call.specs.declared.fault.CallFault.TheVariants.{Memory}
use Rattle.dlms_identity.specs.Text.{IsText}
use Rattle.dlms_identity.specs.declared.showing.Expected.{Expected}
use Rattle.dlms_identity.specs.declared.showing.TheConstants.{MOST}

-- attribute 2 of the object of class Data with this name (IEC 62056-6-2, Data, class 1)
abbrev pub value_at : List ℕ → Descriptor
value_at name = record { class = 1; name = name; id = 2 }

-- A meter's answer as text: the text of the value, unless memory runs out; and nothing if no value came.
abbrev pub Says : Answer → List ℕ → Result (Option (List ℕ)) CallFault → Type 0
Says answer.Value octets (Ok text) = IsText octets text
Says answer.Value octets (Err fault) = fault ≡ Memory
Says _ octets result = result ≡ Ok None

-- Over an open association the object's value was asked for, and this was answered; or that failed.
pub data IsRead (old new : Option (List Moment)) (name : List ℕ) (t : TalkValue)
    (result : Result (Option (List ℕ)) CallFault) (t' : TalkValue) : Type 0 where
  IsAnswered : (given : Answer)
      → Requests MOST (IsFree t) Get (get_normal INVOKE (value_at name) None) old new t
      (Ok given) t'
      → Says given t'.client.association.blocks.joined result → IsRead old new name t result t'
  IsNot : (why : CallFault)
      → Requests MOST (IsFree t) Get (get_normal INVOKE (value_at name) None) old new t (Err why) t'
      → result ≡ Err why → IsRead old new name t result t'

-- An association was opened by this plan, the value was asked for, and then the link's end, whatever came of that.
pub record Talks (old new : Option (List Moment)) (plan : PlanValue) (name : List ℕ)
    (result : Result (Option (List ℕ)) CallFault) : Type 0 where
  pub opened : Option (List Moment)
  pub told : Option (List Moment)
  pub first : TalkValue
  pub mid : TalkValue
  pub last : TalkValue
  pub ended : Result (Unit {0}) CallFault
  pub opens : Opens old opened plan None (Ok tt) first
  pub reads : IsRead opened told name first result mid
  pub ends : EndsTalk (IsFree mid) told new mid ended last

-- so it was; or no association was opened
abbrev pub Tells : Option (List Moment) → Option (List Moment) → PlanValue → List ℕ
    → Result (Option (List ℕ)) CallFault → Type 0
Tells old new plan name (Ok text) = Talks old new plan name (Ok text)
Tells old new plan name (Err why) = Talks old new plan name (Err why)
    ⊎ FailsToOpen old new plan None why

-- The object shows its text; or it shows another text or none; or it could not be asked.
abbrev pub Shows : Option (List Moment) → Option (List Moment) → PlanValue → Expected
    → Result Bool CallFault → Type 0
Shows old new plan expected (Ok true) =
    Tells old new plan expected.name (Ok (Some expected.text.now))
Shows old new plan expected (Ok false) = (text : Option (List ℕ)) × (text ≢ Some expected.text.now)
    × Tells old new plan expected.name (Ok text)
Shows old new plan expected (Err why) = Tells old new plan expected.name (Err why)

-- each of these objects shows its text, one after another
pub data ShowAll (old : Option (List Moment)) (plan : PlanValue) : List Expected
    → Option (List Moment) → Type 0 where
  ShowsNone : ShowAll old plan [] old
  ShowsOneMore : (front : List Expected) (one : Expected) (mid new : Option (List Moment))
      → ShowAll old plan front mid → Shows mid new plan one (Ok true)
      → ShowAll old plan (front ++ one ∷ []) new

-- those before this one do, and of this one it is so
pub record ShowsUpTo (old new : Option (List Moment)) (plan : PlanValue) (expected : List Expected)
    (result : Result Bool CallFault) : Type 0 where
  pub front : List Expected
  pub one : Expected
  pub rest : List Expected
  pub mid : Option (List Moment)
  pub all : expected ≡ front ++ one ∷ rest
  pub before : ShowAll old plan front mid
  pub shows : Shows mid new plan one result

-- All show their text; or this one is the first that does not; or one could not be asked.
abbrev pub ShowsAllBut : Option (List Moment) → Option (List Moment) → PlanValue → List Expected
    → Result (Option Expected) CallFault → Type 0
ShowsAllBut old new plan expected (Ok None) = ShowAll old plan expected new
ShowsAllBut old new plan expected (Ok (Some one)) =
    (but : ShowsUpTo old new plan expected (Ok false)) × (but.one ≡ one)
ShowsAllBut old new plan expected (Err why) = ShowsUpTo old new plan expected (Err why)
