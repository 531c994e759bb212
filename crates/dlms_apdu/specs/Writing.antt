-- The canonical spelling of each form: the shortest lengths, values in their canonical spelling, true as 01.
use Rattle.std.specs.Prelude.{ℕ, ◌≡◌, ◌<◌, ◌^◌, Bool, true, List, [], ◌∷◌, ◌++◌, length, Option, Some, None}
use Rattle.byteorder.specs.Endian.{big_bytes}
use Rattle.dlms_data.specs.declared.descriptor.Descriptor.{Descriptor}
use Rattle.dlms_data.specs.Value.{Value}
use Rattle.dlms_data.specs.Bits.{digit}
use Rattle.dlms_data.specs.Writing.{short_length, canonical, Fits}
use Rattle.dlms_apdu.specs.Forms.{Selection, RequestForm, ResponseForm, get_normal, get_next, set_normal, set_first, set_block, action_normal, action_first, action_block, get_data, get_result, get_block, get_block_result, set_result, set_block_taken, set_last, action_result, action_block_taken, exception}

abbrev pub descriptor_bytes : Descriptor → List ℕ
descriptor_bytes d = big_bytes 2 d.class ++ (d.name ++ d.id ∷ [])

abbrev pub selector_bytes : Option Selection → List ℕ
selector_bytes None = 0 ∷ []
selector_bytes (Some s) = 1 ∷ s.number ∷ canonical s.value

abbrev pub parameter_bytes : Option Value → List ℕ
parameter_bytes None = 0 ∷ []
parameter_bytes (Some v) = 1 ∷ canonical v

abbrev pub raw_bytes : List ℕ → List ℕ
raw_bytes raw = short_length (length raw) ++ raw

abbrev pub block_bytes : Bool → ℕ → List ℕ → List ℕ
block_bytes last n raw = digit last ∷ (big_bytes 4 n ++ raw_bytes raw)

abbrev pub request_bytes : RequestForm → List ℕ
request_bytes (get_normal invoke d s) = 0xC0 ∷ 1 ∷ invoke ∷ (descriptor_bytes d ++ selector_bytes s)
request_bytes (get_next invoke n) = 0xC0 ∷ 2 ∷ invoke ∷ big_bytes 4 n
request_bytes (set_normal invoke d s v) = 0xC1 ∷ 1 ∷ invoke
    ∷ (descriptor_bytes d ++ (selector_bytes s ++ canonical v))
request_bytes (set_first invoke d s last n raw) = 0xC1 ∷ 2 ∷ invoke
    ∷ (descriptor_bytes d ++ (selector_bytes s ++ block_bytes last n raw))
request_bytes (set_block invoke last n raw) = 0xC1 ∷ 3 ∷ invoke ∷ block_bytes last n raw
request_bytes (action_normal invoke d p) = 0xC3 ∷ 1 ∷ invoke
    ∷ (descriptor_bytes d ++ parameter_bytes p)
request_bytes (action_first invoke d last n raw) = 0xC3 ∷ 4 ∷ invoke
    ∷ (descriptor_bytes d ++ block_bytes last n raw)
request_bytes (action_block invoke last n raw) = 0xC3 ∷ 6 ∷ invoke ∷ block_bytes last n raw

abbrev pub response_bytes : ResponseForm → List ℕ
response_bytes (get_data invoke v) = 0xC4 ∷ 1 ∷ invoke ∷ 0 ∷ canonical v
response_bytes (get_result invoke r) = 0xC4 ∷ 1 ∷ invoke ∷ 1 ∷ r ∷ []
response_bytes (get_block invoke last n raw) = 0xC4 ∷ 2 ∷ invoke ∷ digit last
    ∷ (big_bytes 4 n ++ 0 ∷ raw_bytes raw)
response_bytes (get_block_result invoke n r) = 0xC4 ∷ 2 ∷ invoke ∷ 1 ∷ (big_bytes 4 n ++ 1 ∷ r ∷ [])
response_bytes (set_result invoke r) = 0xC5 ∷ 1 ∷ invoke ∷ r ∷ []
response_bytes (set_block_taken invoke n) = 0xC5 ∷ 2 ∷ invoke ∷ big_bytes 4 n
response_bytes (set_last invoke r n) = 0xC5 ∷ 3 ∷ invoke ∷ r ∷ big_bytes 4 n
response_bytes (action_result invoke r) = 0xC7 ∷ 1 ∷ invoke ∷ r ∷ 0 ∷ []
response_bytes (action_block_taken invoke n) = 0xC7 ∷ 4 ∷ invoke ∷ big_bytes 4 n
response_bytes (exception state service) = 0xD8 ∷ state ∷ service ∷ []

-- ---- what can be written: the values have a spelling, and so has the length of raw bytes

abbrev pub SelectorFits : Option Selection → Type 0
SelectorFits None = Unit {0}
SelectorFits (Some s) = Fits s.value

abbrev pub ParameterFits : Option Value → Type 0
ParameterFits None = Unit {0}
ParameterFits (Some v) = Fits v

abbrev pub RawFits : List ℕ → Type 0
RawFits raw = length raw < 2 ^ 32

abbrev pub RequestFits : RequestForm → Type 0
RequestFits (get_normal invoke d s) = SelectorFits s
RequestFits (get_next invoke n) = Unit {0}
RequestFits (set_normal invoke d s v) = SelectorFits s × Fits v
RequestFits (set_first invoke d s last n raw) = SelectorFits s × RawFits raw
RequestFits (set_block invoke last n raw) = RawFits raw
RequestFits (action_normal invoke d p) = ParameterFits p
RequestFits (action_first invoke d last n raw) = RawFits raw
RequestFits (action_block invoke last n raw) = RawFits raw

abbrev pub ResponseFits : ResponseForm → Type 0
ResponseFits (get_data invoke v) = Fits v
ResponseFits (get_block invoke last n raw) = RawFits raw
ResponseFits _ = Unit {0}

-- a response that holds neither a value nor raw bytes
abbrev pub IsShort : ResponseForm → Type 0
IsShort (get_data invoke v) = ⊥
IsShort (get_block invoke last n raw) = ⊥
IsShort _ = Unit {0}

-- ---- what the types of a request and a response say of them: each number has the bytes that are written for it

abbrev pub DescriptorInRange : Descriptor → Type 0
DescriptorInRange d = (d.class < 2 ^ 16) × (length d.name ≡ 6)

abbrev pub RequestInRange : RequestForm → Type 0
RequestInRange (get_normal invoke d s) = DescriptorInRange d
RequestInRange (get_next invoke n) = n < 2 ^ 32
RequestInRange (set_normal invoke d s v) = DescriptorInRange d
RequestInRange (set_first invoke d s last n raw) = DescriptorInRange d × (n < 2 ^ 32)
RequestInRange (set_block invoke last n raw) = n < 2 ^ 32
RequestInRange (action_normal invoke d p) = DescriptorInRange d
RequestInRange (action_first invoke d last n raw) = DescriptorInRange d × (n < 2 ^ 32)
RequestInRange (action_block invoke last n raw) = n < 2 ^ 32

abbrev pub ResponseInRange : ResponseForm → Type 0
ResponseInRange (get_block invoke last n raw) = n < 2 ^ 32
ResponseInRange (get_block_result invoke n r) = n < 2 ^ 32
ResponseInRange (set_block_taken invoke n) = n < 2 ^ 32
ResponseInRange (set_last invoke r n) = n < 2 ^ 32
ResponseInRange (action_block_taken invoke n) = n < 2 ^ 32
ResponseInRange _ = Unit {0}
