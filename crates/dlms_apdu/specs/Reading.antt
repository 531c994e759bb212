-- Reading from left to right, with the first refusal that is met.
use Rattle.std.specs.Prelude.{◌≡◌, ◌⊎◌, ℕ, Bool, false, List, [], ◌∷◌, length, take, drop, Result, Ok, Err, Option, Some, None, nat_lt, ◌==◌, if◌then◌else◌, IsOkAnd}
use Rattle.byteorder.specs.Endian.{big_number}
use Rattle.dlms_data.specs.declared.descriptor.Descriptor.{Descriptor}
use Rattle.dlms_data.specs.Value.{Value}
use Rattle.dlms_data.specs.Memory.{NeedsMemory}
use Rattle.dlms_axdr.specs.Reading.{Fault, short, octets_at}
use Rattle.dlms_data.specs.Reading.{data_at}
use Rattle.dlms_apdu.specs.declared.fault.ApduFault.{ApduFault}
use Rattle.dlms_apdu.specs.declared.fault.ApduFault.TheVariants as fault
use Rattle.dlms_apdu.specs.declared.fault.Refusal.{Refusal}
use Rattle.dlms_apdu.specs.declared.fault.Refusal.TheVariants.{Short, Choice, Trailing, Data}
use Rattle.dlms_apdu.specs.Forms.{Selection, BlockForm, RequestForm, ResponseForm, get_normal, get_next, set_normal, set_first, set_block, action_normal, action_first, action_block, get_data, get_result, get_block, get_block_result, set_result, set_block_taken, set_last, action_result, action_block_taken, exception}

-- the rest of the reading, if a step did not fail
unfoldable pub and_then : {A B : Type 0} → Result A Refusal → (A → Result B Refusal)
    → Result B Refusal
and_then (Ok x) f = f x
and_then (Err e) f = Err e

infixl 10 ◌>>=◌
abbrev pub ◌>>=◌ : {A B : Type 0} → Result A Refusal → (A → Result B Refusal) → Result B Refusal
r >>= f = and_then r f

-- what a function that takes no memory returned, seen by view, is what reading gives
abbrev pub Tells : {X Y : Type 0} → (X → Y) → Result X Refusal → Result Y Refusal → Type 0
Tells view (Ok x) read = read ≡ Ok (view x)
Tells view (Err e) read = read ≡ Err e

-- the bytes after the part that was read, or the refusal
abbrev pub Passes : {X Y : Type 0} → (X → List ℕ) → Result X Refusal → Result (Y × List ℕ) Refusal
    → Type 0
Passes {X} {Y} view (Ok x) read = (y : Y) × (read ≡ Ok (y, view x))
Passes view (Err e) read = read ≡ Err e

-- what reading gives; memory is wanting only for what needs some
abbrev pub Makes : {X Y : Type 0} → (X → Y) → (Y → Type 0) → Result X ApduFault
    → Result (Y × List ℕ) Refusal → Type 0
Makes view needs (Ok x) read = (rest : List ℕ) × (read ≡ Ok (view x, rest))
Makes view needs (Err e) read = (e ≡ fault.Memory) × IsOkAnd read (λ x. needs x.0)

-- The fault that a function answered is that of reading. Memory was wanting only for what could be read, and
-- needs some.
abbrev pub Wants : {Y : Type 0} → (Y → Type 0) → ApduFault → Result Y Refusal → Type 0
Wants needs fault.Short read = read ≡ Err Short
Wants needs fault.Choice read = read ≡ Err Choice
Wants needs fault.Trailing read = read ≡ Err Trailing
Wants needs fault.Data read = read ≡ Err Data
Wants needs fault.Memory read = IsOkAnd read needs

-- what a function returned, seen by view, is what reading gives
abbrev pub Answers : {X Y : Type 0} → (X → Y) → (Y → Type 0) → Result X ApduFault → Result Y Refusal
    → Type 0
Answers view needs (Ok x) read = read ≡ Ok (view x)
Answers view needs (Err e) read = Wants needs e read

-- ---- the parts, and the bytes behind them

abbrev pub byte_at : List ℕ → Result (ℕ × List ℕ) Refusal
byte_at [] = Err Short
byte_at (b ∷ rest) = Ok (b, rest)

unfoldable pub taken_at : ℕ → List ℕ → Result (List ℕ × List ℕ) Refusal
taken_at n bytes = if nat_lt (length bytes) n then Err Short else Ok (take n bytes, drop n bytes)

unfoldable pub number_at : ℕ → List ℕ → Result (ℕ × List ℕ) Refusal
number_at k bytes = do
  t ← taken_at k bytes
  Ok (big_number k t.0, t.1)

unfoldable pub flag_at : List ℕ → Result (Bool × List ℕ) Refusal
flag_at bytes = do
  b ← byte_at bytes
  Ok (nat_lt 0 b.0, b.1)

unfoldable pub descriptor_at : List ℕ → Result (Descriptor × List ℕ) Refusal
descriptor_at bytes = do
  class ← number_at 2 bytes
  name ← taken_at 6 class.1
  id ← byte_at name.1
  Ok (record { class = class.0; name = name.0; id = id.0 }, id.1)

-- an invalid value is one refusal, also if the bytes end within it
abbrev pub value_from : {Y : Type 0} → Result Y Fault → Result Y Refusal
value_from (Ok x) = Ok x
value_from (Err e) = Err Data

abbrev pub value_at : List ℕ → Result (Value × List ℕ) Refusal
value_at bytes = value_from (data_at 8 bytes)

-- no length begins so, or the bytes end
abbrev pub length_refusal : Fault → Refusal
length_refusal short = Short
length_refusal _ = Choice

abbrev pub raw_from : {Y : Type 0} → Result Y Fault → Result Y Refusal
raw_from (Ok x) = Ok x
raw_from (Err e) = Err (length_refusal e)

abbrev pub raw_at : List ℕ → Result (List ℕ × List ℕ) Refusal
raw_at bytes = raw_from (octets_at bytes)

-- nothing follows the last part
abbrev pub end_at : List ℕ → Result (Unit {0}) Refusal
end_at [] = Ok tt
end_at (b ∷ rest) = Err Trailing

abbrev pub ended : {Y : Type 0} → Y → List ℕ → Result Y Refusal
ended y rest = end_at rest >>= λ e. Ok y

-- the first byte selects one of these, each with the reading of what follows
abbrev pub chosen : {Y : Type 0} → List (ℕ × (List ℕ → Result Y Refusal)) → ℕ → List ℕ
    → Result Y Refusal
chosen [] b rest = Err Choice
chosen (row ∷ rows) b rest = if b == row.0 then row.1 rest else chosen rows b rest

abbrev pub choice_at : {Y : Type 0} → List (ℕ × (List ℕ → Result Y Refusal)) → List ℕ
    → Result Y Refusal
choice_at rows [] = Err Short
choice_at rows (b ∷ rest) = chosen rows b rest

unfoldable pub some_selector_at : List ℕ → Result (Option Selection × List ℕ) Refusal
some_selector_at bytes = do
  n ← byte_at bytes
  v ← value_at n.1
  Ok (Some (record { number = n.0; value = v.0 }), v.1)

unfoldable pub some_parameter_at : List ℕ → Result (Option Value × List ℕ) Refusal
some_parameter_at bytes = do
  v ← value_at bytes
  Ok (Some v.0, v.1)

abbrev pub no_option_at : {Y : Type 0} → List ℕ → Result (Option Y × List ℕ) Refusal
no_option_at bytes = Ok (None, bytes)

unfoldable pub selector_at : List ℕ → Result (Option Selection × List ℕ) Refusal
selector_at bytes = choice_at ((0, no_option_at) ∷ (1, some_selector_at) ∷ []) bytes

unfoldable pub parameter_at : List ℕ → Result (Option Value × List ℕ) Refusal
parameter_at bytes = choice_at ((0, no_option_at) ∷ (1, some_parameter_at) ∷ []) bytes

unfoldable pub block_at : List ℕ → Result (BlockForm × List ℕ) Refusal
block_at bytes = do
  last ← flag_at bytes
  n ← number_at 4 last.1
  raw ← raw_at n.1
  Ok (record { last = last.0; number = n.0; raw = raw.0 }, raw.1)

-- ---- the requests

unfoldable pub get_normal_at : List ℕ → Result RequestForm Refusal
get_normal_at bytes = do
  invoke ← byte_at bytes
  d ← descriptor_at invoke.1
  s ← selector_at d.1
  ended (get_normal invoke.0 d.0 s.0) s.1

unfoldable pub get_next_at : List ℕ → Result RequestForm Refusal
get_next_at bytes = do
  invoke ← byte_at bytes
  n ← number_at 4 invoke.1
  ended (get_next invoke.0 n.0) n.1

unfoldable pub set_normal_at : List ℕ → Result RequestForm Refusal
set_normal_at bytes = do
  invoke ← byte_at bytes
  d ← descriptor_at invoke.1
  s ← selector_at d.1
  v ← value_at s.1
  ended (set_normal invoke.0 d.0 s.0 v.0) v.1

unfoldable pub set_first_at : List ℕ → Result RequestForm Refusal
set_first_at bytes = do
  invoke ← byte_at bytes
  d ← descriptor_at invoke.1
  s ← selector_at d.1
  b ← block_at s.1
  ended (set_first invoke.0 d.0 s.0 b.0.last b.0.number b.0.raw) b.1

unfoldable pub set_block_at : List ℕ → Result RequestForm Refusal
set_block_at bytes = do
  invoke ← byte_at bytes
  b ← block_at invoke.1
  ended (set_block invoke.0 b.0.last b.0.number b.0.raw) b.1

unfoldable pub action_normal_at : List ℕ → Result RequestForm Refusal
action_normal_at bytes = do
  invoke ← byte_at bytes
  d ← descriptor_at invoke.1
  p ← parameter_at d.1
  ended (action_normal invoke.0 d.0 p.0) p.1

unfoldable pub action_first_at : List ℕ → Result RequestForm Refusal
action_first_at bytes = do
  invoke ← byte_at bytes
  d ← descriptor_at invoke.1
  b ← block_at d.1
  ended (action_first invoke.0 d.0 b.0.last b.0.number b.0.raw) b.1

unfoldable pub action_block_at : List ℕ → Result RequestForm Refusal
action_block_at bytes = do
  invoke ← byte_at bytes
  b ← block_at invoke.1
  ended (action_block invoke.0 b.0.last b.0.number b.0.raw) b.1

unfoldable pub get_at : List ℕ → Result RequestForm Refusal
get_at bytes = choice_at ((1, get_normal_at) ∷ (2, get_next_at) ∷ []) bytes

unfoldable pub set_at : List ℕ → Result RequestForm Refusal
set_at bytes = choice_at ((1, set_normal_at) ∷ (2, set_first_at) ∷ (3, set_block_at) ∷ []) bytes

unfoldable pub action_at : List ℕ → Result RequestForm Refusal
action_at bytes = choice_at ((1, action_normal_at) ∷ (4, action_first_at) ∷ (6, action_block_at)
    ∷ []) bytes

unfoldable pub request_at : List ℕ → Result RequestForm Refusal
request_at bytes = choice_at ((0xC0, get_at) ∷ (0xC1, set_at) ∷ (0xC3, action_at) ∷ []) bytes

-- ---- what needs memory: a value that needs some, in a selector, in a parameter, in a request

abbrev pub SelectorNeeds : Option Selection → Type 0
SelectorNeeds None = ⊥
SelectorNeeds (Some s) = NeedsMemory s.value

abbrev pub ParameterNeeds : Option Value → Type 0
ParameterNeeds None = ⊥
ParameterNeeds (Some v) = NeedsMemory v

abbrev pub HoldsValue : RequestForm → Type 0
HoldsValue (get_normal invoke d s) = SelectorNeeds s
HoldsValue (get_next invoke n) = ⊥
HoldsValue (set_normal invoke d s v) = SelectorNeeds s ⊎ NeedsMemory v
HoldsValue (set_first invoke d s last n raw) = SelectorNeeds s
HoldsValue (set_block invoke last n raw) = ⊥
HoldsValue (action_normal invoke d p) = ParameterNeeds p
HoldsValue (action_first invoke d last n raw) = ⊥
HoldsValue (action_block invoke last n raw) = ⊥

-- ---- the responses

unfoldable pub get_data_at : ℕ → List ℕ → Result ResponseForm Refusal
get_data_at invoke bytes = do
  v ← value_at bytes
  ended (get_data invoke v.0) v.1

unfoldable pub get_result_at : ℕ → List ℕ → Result ResponseForm Refusal
get_result_at invoke bytes = do
  r ← byte_at bytes
  ended (get_result invoke r.0) r.1

unfoldable pub get_answer_at : List ℕ → Result ResponseForm Refusal
get_answer_at bytes = do
  invoke ← byte_at bytes
  choice_at ((0, get_data_at invoke.0) ∷ (1, get_result_at invoke.0) ∷ []) invoke.1

unfoldable pub get_raw_at : ℕ → Bool → ℕ → List ℕ → Result ResponseForm Refusal
get_raw_at invoke last n bytes = do
  raw ← raw_at bytes
  ended (get_block invoke last n raw.0) raw.1

unfoldable pub get_block_result_at : ℕ → ℕ → List ℕ → Result ResponseForm Refusal
get_block_result_at invoke n bytes = do
  r ← byte_at bytes
  ended (get_block_result invoke n r.0) r.1

-- a result is only in the place of the last block
unfoldable pub get_block_answer_at : List ℕ → Result ResponseForm Refusal
get_block_answer_at bytes = do
  invoke ← byte_at bytes
  last ← flag_at invoke.1
  n ← number_at 4 last.1
  choice_at ((0, get_raw_at invoke.0 last.0 n.0) ∷ (if last.0
      then (1, get_block_result_at invoke.0 n.0) ∷ [] else [])) n.1

unfoldable pub set_result_at : List ℕ → Result ResponseForm Refusal
set_result_at bytes = do
  invoke ← byte_at bytes
  r ← byte_at invoke.1
  ended (set_result invoke.0 r.0) r.1

unfoldable pub set_block_taken_at : List ℕ → Result ResponseForm Refusal
set_block_taken_at bytes = do
  invoke ← byte_at bytes
  n ← number_at 4 invoke.1
  ended (set_block_taken invoke.0 n.0) n.1

unfoldable pub set_last_at : List ℕ → Result ResponseForm Refusal
set_last_at bytes = do
  invoke ← byte_at bytes
  r ← byte_at invoke.1
  n ← number_at 4 r.1
  ended (set_last invoke.0 r.0 n.0) n.1

-- nothing is returned beside the result
unfoldable pub action_result_at : List ℕ → Result ResponseForm Refusal
action_result_at bytes = do
  invoke ← byte_at bytes
  r ← byte_at invoke.1
  choice_at ((0, ended (action_result invoke.0 r.0)) ∷ []) r.1

unfoldable pub action_block_taken_at : List ℕ → Result ResponseForm Refusal
action_block_taken_at bytes = do
  invoke ← byte_at bytes
  n ← number_at 4 invoke.1
  ended (action_block_taken invoke.0 n.0) n.1

unfoldable pub exception_at : List ℕ → Result ResponseForm Refusal
exception_at bytes = do
  state ← byte_at bytes
  service ← byte_at state.1
  ended (exception state.0 service.0) service.1

unfoldable pub get_response_at : List ℕ → Result ResponseForm Refusal
get_response_at bytes = choice_at ((1, get_answer_at) ∷ (2, get_block_answer_at) ∷ []) bytes

unfoldable pub set_response_at : List ℕ → Result ResponseForm Refusal
set_response_at bytes = choice_at
    ((1, set_result_at) ∷ (2, set_block_taken_at) ∷ (3, set_last_at) ∷ []) bytes

unfoldable pub action_response_at : List ℕ → Result ResponseForm Refusal
action_response_at bytes = choice_at ((1, action_result_at) ∷ (4, action_block_taken_at) ∷ []) bytes

unfoldable pub response_at : List ℕ → Result ResponseForm Refusal
response_at bytes = choice_at
    ((0xC4, get_response_at) ∷ (0xC5, set_response_at) ∷ (0xC7, action_response_at)
    ∷ (0xD8, exception_at) ∷ []) bytes

-- and of a response
abbrev pub HoldsData : ResponseForm → Type 0
HoldsData (get_data invoke v) = NeedsMemory v
HoldsData _ = ⊥
