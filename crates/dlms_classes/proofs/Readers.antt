-- The reader's rights, by management's rights.
use Rattle.std.proofs.Common.{◌≡◌, ◌∙◌, refl, sym, ap, Bool, true, false, if◌then◌else◌, List, ℕ, Result, Ok, Err, Some}
use Rattle.dlms_data.specs.Value.{Value, octet_string}
use Rattle.dlms_frame.specs.declared.client.Client.TheVariants.{Management, Reader}
use Rattle.dlms_state.specs.declared.event.SecretOf.TheVariants as owner
use Rattle.dlms_classes.specs.Access.{◌>>=◌}
use Rattle.dlms_classes.specs.Plan.{Setting, secret_to, secret_setting}
use Rattle.dlms_classes.specs.Table.{rights_of, reading, but_own_secret, may_read, may_write, may_call}
use Rattle.dlms_classes.specs.declared.access.AccessResult.{AccessResult}
use Rattle.dlms_classes.specs.declared.access.AccessResult.TheVariants.{ReadWriteDenied}
use Rattle.dlms_classes.specs.declared.table.Attribute.{Attribute}
use Rattle.dlms_classes.specs.declared.table.Call.{Call}
use Rattle.dlms_classes.specs.declared.table.Content.{Content}
use Rattle.dlms_classes.specs.declared.table.Content.TheVariants.{Secret}
use Rattle.dlms_classes.specs.declared.table.Rights.{Rights}
use Rattle.dlms_classes.specs.declared.table.Rights.TheVariants.{Nothing, Read, Write, ReadWrite}

reading_reads : (rights : Rights) → may_read (reading rights) ≡ may_read rights
reading_reads Nothing = refl
reading_reads Read = refl
reading_reads Write = refl
reading_reads ReadWrite = refl

reading_writes_nothing : (rights : Rights) → may_write (reading rights) ≡ false
reading_writes_nothing Nothing = refl
reading_writes_nothing Read = refl
reading_writes_nothing Write = refl
reading_writes_nothing ReadWrite = refl

reads_the_same : (content : Content) (rights : Rights) → may_read (but_own_secret content rights) ≡ may_read rights
reads_the_same Secret rights = refl
reads_the_same _ rights = reading_reads rights

writes_a_secret : (content : Content) (rights : Rights) → may_write (but_own_secret content rights) ≡ true → content ≡ Secret
writes_a_secret Secret rights h = refl
writes_a_secret _ rights h = absurd (let never = reading_writes_nothing rights in cc)

pub reads_as_management : (found : Result Attribute AccessResult)
    → (found >>= λ a. (if may_read (rights_of Reader a) then Ok a else Err ReadWriteDenied)) ≡ (found >>= λ a. (if may_read (rights_of Management a) then Ok a else Err ReadWriteDenied))
reads_as_management (Ok a) =
    ap (λ (b : Bool). let answer : Result Attribute AccessResult = if b then Ok a else Err ReadWriteDenied in answer) (reads_the_same a.content a.management)
reads_as_management (Err r) = refl

let_through : {X : Type 0} (b : Bool) (x y : X) (r : AccessResult) → (if b then Ok x else Err r) ≡ Ok y → (b ≡ true) × (x ≡ y)
let_through true x y r h = (refl, cc)
let_through false x y r h = absurd cc

pub writes_its_secret : (found : Result Attribute AccessResult) (a : Attribute) → (found >>= λ a. (if may_write (rights_of Reader a) then Ok a else Err ReadWriteDenied)) ≡ Ok a → a.content ≡ Secret
writes_its_secret (Err r) a h = absurd cc
writes_its_secret (Ok x) a h =
    let passed = let_through (may_write (rights_of Reader x)) x a ReadWriteDenied h in
    ap (λ (y : Attribute). y.content) (sym passed.1) ∙ writes_a_secret x.content x.management passed.0

pub sets_its_own : (v : Value) (setting : Setting) → secret_setting v (Some owner.Reader) ≡ Ok setting → (bytes : List ℕ) × (setting ≡ secret_to owner.Reader bytes)
sets_its_own (octet_string bytes) setting h = (bytes, cc)
sets_its_own _ setting h = absurd cc

pub calls_nothing : (found : Result Call AccessResult) (method : Call) → ¬ ((found >>= λ m. (if may_call Reader m then Ok m else Err ReadWriteDenied)) ≡ Ok method)
calls_nothing (Ok m) method h = cc
calls_nothing (Err r) method h = cc
