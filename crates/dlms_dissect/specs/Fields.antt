-- The fields of the APDUs (IEC 62056-5-3, the ASN.1 of the services, in A-XDR), by the number of their own octets, and the number
-- of values after these in them.
use Rattle.std.specs.Prelude.{ℕ, ◌+◌, ◌==◌, ◌||◌, nat_lt, if◌then◌else◌, List, [], ◌∷◌, drop, Option, Some, None, option_and_then}
use Rattle.dlms_dissect.specs.declared.fields.Field.{Field}
use Rattle.dlms_dissect.specs.declared.fields.Field.TheVariants as field
use Rattle.dlms_dissect.specs.declared.nodes.Front.{Front}
use Rattle.dlms_dissect.specs.Nodes.{length_at, node_at, text_behind}

abbrev pub spans : ℕ → ℕ → Option Front
spans own values = Some (record { own = own; values = values })

-- fields that always have the same number of octets
abbrev pub fixed_len : Field → ℕ
fixed_len field.Invoke = 1
fixed_len field.Control = 1
fixed_len field.AccessResult = 1
fixed_len field.ShortNumber = 2
fixed_len field.AccessDone = 2
fixed_len field.ServiceError = 3
fixed_len field.LongInvoke = 4
fixed_len field.Number = 4
fixed_len field.Method = 9
fixed_len field.Notified = 9
fixed_len _ = 0

-- the option is followed by a selector
abbrev pub selected : List ℕ → Option Front
selected (selector ∷ rest) = spans 11 1
selected [] = None

-- class-id, instance-id and attribute-id, and the option of an access-selection: 00, or 01 with its selector and a value
abbrev pub attribute_at : List ℕ → Option Front
attribute_at (a ∷ b ∷ c ∷ d ∷ e ∷ f ∷ g ∷ h ∷ i ∷ option ∷ rest) =
    if option == 0 then spans 10 0
    else if option == 1 then selected rest
    else None
attribute_at _ = None

-- an option: 00, or 01 and a value
abbrev pub choice_at : List ℕ → Option Front
choice_at (option ∷ rest) = if option == 0 then spans 1 0 else if option == 1 then spans 1 1
    else None
choice_at _ = None

-- Get-Data-Result: 00 and a value, or 01 and a Data-Access-Result
abbrev pub result_at : List ℕ → Option Front
result_at (choice ∷ rest) = if choice == 0 then spans 1 1 else if choice == 1 then spans 2 0
    else None
result_at _ = None

-- Action-Response-With-Optional-Data: an Action-Result, and the option of a Get-Data-Result
abbrev pub returned_at : List ℕ → Option Front
returned_at (choice ∷ rest) = if choice == 0 then spans 3 1 else if choice == 1 then spans 4 0
    else None
returned_at _ = None

abbrev pub return_at : List ℕ → Option Front
return_at (result ∷ option ∷ rest) = if option == 0 then spans 2 0 else if option == 1
    then returned_at rest else None
return_at _ = None

-- state-error and service-error; if that is 6, invocation-counter-error, a counter of four octets follows
abbrev pub exception_at : List ℕ → Option Front
exception_at (state ∷ service ∷ rest) = if service == 6 then spans 6 0 else spans 2 0
exception_at _ = spans 2 0

-- last-block and block-number, and 00 with the octets of the block, or 01 and a Data-Access-Result
abbrev pub block_result_at : List ℕ → Option Front
block_result_at (last ∷ a ∷ b ∷ c ∷ d ∷ choice ∷ rest) =
    if choice == 0 then text_behind 6 (last ∷ a ∷ b ∷ c ∷ d ∷ choice ∷ rest)
    else if choice == 1 then spans 7 0
    else None
block_result_at _ = None

-- an option: 00, or 01 and a text
abbrev pub optional_text : List ℕ → Option Front
optional_text (option ∷ rest) = if option == 0 then spans 1 0 else if option == 1
    then text_behind 1 (option ∷ rest) else None
optional_text _ = None

-- Key-Info: 00, or 01 with 00 and an identified key, 01 with its kind and a wrapped key, 02 with parameters and a ciphered key
abbrev pub agreed_at : List ℕ → Option Front
agreed_at bytes = option_and_then
    (λ p. option_and_then (λ c. spans (p.own + c.own) 0) (text_behind 0 (drop p.own bytes)))
    (text_behind 2 bytes)

abbrev pub key_kind_at : List ℕ → List ℕ → Option Front
key_kind_at bytes (kind ∷ rest) =
    if kind == 0 then spans 3 0
    else if kind == 1 then text_behind 3 bytes
    else if kind == 2 then agreed_at bytes
    else None
key_kind_at bytes _ = None

abbrev pub key_at : List ℕ → Option Front
key_at (option ∷ rest) = if option == 0 then spans 1 0 else if option == 1
    then key_kind_at (option ∷ rest) rest else None
key_at _ = None

abbrev pub none_at : List ℕ → Option Front
none_at (option ∷ rest) = if option == 0 then spans 1 0 else None
none_at _ = None

-- a text that begins with a security header, which has five octets (IEC 62056-5-3, 9.2.7.2.4.1)
abbrev pub ciphered_at : List ℕ → Option Front
ciphered_at bytes = option_and_then (λ l. if nat_lt l.number 5 then None
    else text_behind 0 bytes) (length_at bytes)

-- Access-Request-Specification: 01 get, 02 set, 03 action; 04 and 05 get and set with a selection
abbrev pub access_at : List ℕ → Option Front
access_at (choice ∷ rest) =
    if (choice == 1) || ((choice == 2) || (choice == 3)) then spans 10 0
    else if (choice == 4) || (choice == 5) then spans 11 1
    else None
access_at _ = None

-- Variable-Access-Specification: 02 a name, 04 a name with a selector and a value, 05 the number of a block
abbrev pub short_name_at : List ℕ → Option Front
short_name_at (choice ∷ rest) = if (choice == 2) || (choice == 5) then spans 3 0 else if choice == 4
    then spans 4 1 else None
short_name_at _ = None

-- ReadResponse: 00 a value, 01 a Data-Access-Result, 02 a block with its number, 03 the number of a block
abbrev pub short_data_at : List ℕ → Option Front
short_data_at (choice ∷ rest) =
    if choice == 0 then spans 1 1
    else if choice == 1 then spans 2 0
    else if choice == 2 then text_behind 4 (choice ∷ rest)
    else if choice == 3 then spans 3 0
    else None
short_data_at _ = None

-- WriteResponse: 00 success, 01 a Data-Access-Result, 02 the number of a block
abbrev pub short_result_at : List ℕ → Option Front
short_result_at (choice ∷ rest) =
    if choice == 0 then spans 1 0
    else if choice == 1 then spans 2 0
    else if choice == 2 then spans 3 0
    else None
short_result_at _ = None

-- the field at the front; it is not checked whether there are that many octets
abbrev pub front_at : Field → List ℕ → Option Front
front_at field.Value bytes = node_at bytes
front_at field.Attribute bytes = attribute_at bytes
front_at field.Parameter bytes = choice_at bytes
front_at field.GetResult bytes = result_at bytes
front_at field.Return bytes = return_at bytes
front_at field.Exception bytes = exception_at bytes
front_at field.Block bytes = text_behind 5 bytes
front_at field.BlockResult bytes = block_result_at bytes
front_at field.Time bytes = text_behind 0 bytes
front_at field.Title bytes = text_behind 0 bytes
front_at field.Octets bytes = text_behind 0 bytes
front_at field.Ciphered bytes = ciphered_at bytes
front_at field.OptionalTime bytes = optional_text bytes
front_at field.Key bytes = key_at bytes
front_at field.Access bytes = access_at bytes
front_at field.NoAccess bytes = none_at bytes
front_at field.ShortName bytes = short_name_at bytes
front_at field.ShortData bytes = short_data_at bytes
front_at field.ShortResult bytes = short_result_at bytes
front_at other bytes = spans (fixed_len other) 0
