-- The elements of an association's object list (IEC 62056-6-2, Blue Book 4.4.4, object_list): a class, a version, a logical name, and
-- the access rights of its attributes and methods.
use Rattle.std.specs.Prelude.{◌≡◌, ◌<◌, ℕ, List, [], ◌∷◌, ◌++◌, All, length, pos, true, false}
use Rattle.dlms_data.specs.Value.{Value, Values, array, boolean, enumerated, integer, structure, long_unsigned, unsigned, octet_string, none, cons}

abbrev pub AreRights : Value → Values → Values → Type 0
AreRights v attributes methods = v ≡ structure (cons (array attributes) (cons (array methods) none))

pub record IsEntry (v : Value) (of_class version : ℕ) (name : List ℕ) (attributes methods : Values)
    : Type 0 where
  pub rights : Value
  pub six : length name ≡ 6
  pub value : v ≡ structure (cons (long_unsigned of_class)
      (cons (unsigned version) (cons (octet_string name) (cons rights none))))
  pub are_rights : AreRights rights attributes methods

-- an access mode (attribute_access_mode, method_access_mode): an enum, or a boolean, whose mode is 0 or 1
abbrev pub IsMode : Value → ℕ → Type 0
IsMode (enumerated n) mode = mode ≡ n
IsMode (boolean true) mode = mode ≡ 1
IsMode (boolean false) mode = mode ≡ 0
IsMode v mode = ⊥

-- the right to an attribute or a method: its number, which is above 0, the access mode, and perhaps more
pub record IsRight (v : Value) (number mode : ℕ) : Type 0 where
  pub access : Value
  pub more : Values
  pub numbered : 0 < number
  pub value : v ≡ structure (cons (integer (pos number)) (cons access more))
  pub is_mode : IsMode access mode

-- an entry of this name and class
abbrev pub IsNamed : Value → List ℕ → ℕ → Type 0
IsNamed v name of_class = (version : ℕ) × (attributes : Values) × (methods : Values)
    × IsEntry v of_class version name attributes methods

abbrev pub HasName : List ℕ → Value → Type 0
HasName name v = (of_class : ℕ) × IsNamed v name of_class

-- the first entry of this name among values has this class
pub record IsFirstNamed (values : List Value) (name : List ℕ) (of_class : ℕ) : Type 0 where
  pub before : List Value
  pub entry : Value
  pub after : List Value
  pub parted : values ≡ before ++ entry ∷ after
  pub none_before : All (λ v. HasName name v → ⊥) before
  pub named : IsNamed entry name of_class
