-- The refusals that come before any value is looked at, in their order, and the numbers of all (IEC 62056-5-3,
-- Data-Access-Result and Action-Result; which result answers which case is the meter's own).
use Rattle.std.specs.Prelude.{◌≡◌, ℕ, ◌-◌, ◌==◌, if◌then◌else◌, List, Option, None, ok_or, slice_get, find, Result, Ok, Err, MatchResult}
use Rattle.std.specs.Str.{bytes_eq}
use Rattle.dlms_data.specs.declared.descriptor.Descriptor.{Descriptor}
use Rattle.dlms_frame.specs.declared.client.Client.{Client}
use Rattle.dlms_classes.specs.declared.access.AccessResult.{AccessResult}
use Rattle.dlms_classes.specs.declared.access.AccessResult.TheVariants.{TemporaryFailure, ReadWriteDenied, ObjectUndefined, ObjectClassInconsistent, TypeUnmatched, ScopeOfAccessViolated, OtherReason}
use Rattle.dlms_classes.specs.declared.table.Attribute.{Attribute}
use Rattle.dlms_classes.specs.declared.table.Call.{Call}
use Rattle.dlms_classes.specs.Table.{Entry, objects, rights_of, may_read, may_write, may_call}

abbrev pub number_of : AccessResult → ℕ
number_of TemporaryFailure = 2
number_of ReadWriteDenied = 3
number_of ObjectUndefined = 4
number_of ObjectClassInconsistent = 9
number_of TypeUnmatched = 12
number_of ScopeOfAccessViolated = 13
number_of OtherReason = 250

-- one step, and the next if it is not refused
infixl 10 ◌>>=◌
abbrev pub ◌>>=◌ : {X Y : Type 0} → Result X AccessResult → (X → Result Y AccessResult)
    → Result Y AccessResult
(Ok x) >>= f = f x
(Err r) >>= f = Err r

-- the call answers this: the value by what contracts see of it, or the refusal
abbrev pub IsToldAs : {X Y : Type 0} → (X → Y) → Result X AccessResult → Result Y AccessResult
    → Type 0
IsToldAs seen result told = MatchResult result (λ x. told ≡ Ok (seen x)) (λ r. told ≡ Err r)

-- the object of this name
unfoldable pub object_named : List ℕ → Option Entry
object_named name = find (λ o. bytes_eq o.name name) objects

-- the one of this number, counted from 1
abbrev pub numbered : {X : Type 0} → ℕ → List X → Option X
numbered id xs = if id == 0 then None else slice_get xs (id - 1)

-- refused if no object has the name, and then if the object has another class
abbrev pub object_of : Descriptor → Result Entry AccessResult
object_of d = ok_or (object_named d.name) ObjectUndefined >>= λ o. (if o.class == d.class then Ok o
    else Err ObjectClassInconsistent)

-- then if its class has no such attribute
abbrev pub attribute_of : Descriptor → Result Attribute AccessResult
attribute_of d = object_of d >>= λ o. ok_or (numbered d.id o.attributes) ObjectUndefined

-- or no such method
abbrev pub method_of : Descriptor → Result Call AccessResult
method_of d = object_of d >>= λ o. ok_or (numbered d.id o.methods) ObjectUndefined

-- then if the client has no right to it
abbrev pub readable : Client → Descriptor → Result Attribute AccessResult
readable client d = attribute_of d >>= λ a. (if may_read (rights_of client a) then Ok a
    else Err ReadWriteDenied)

abbrev pub writable : Client → Descriptor → Result Attribute AccessResult
writable client d = attribute_of d >>= λ a. (if may_write (rights_of client a) then Ok a
    else Err ReadWriteDenied)

abbrev pub callable : Client → Descriptor → Result Call AccessResult
callable client d = method_of d >>= λ method. (if may_call client method then Ok method
    else Err ReadWriteDenied)
