-- The spellings of each form: which bytes represent it (IEC 62056-5-3, the encoding of the xDLMS APDUs in A-XDR: a byte for the
-- service, one for its form, the invoke-id-and-priority byte, and the form's parts).
use Rattle.std.specs.Prelude.{◌≡◌, ℕ, Bool, true, nat_lt, List, [], ◌∷◌, ◌++◌, length, Option, Some, None}
use Rattle.byteorder.specs.Endian.{big_number}
use Rattle.dlms_data.specs.declared.descriptor.Descriptor.{Descriptor}
use Rattle.dlms_data.specs.Value.{Value}
use Rattle.dlms_data.specs.Spelling.{Counted, IsSpelling}
use Rattle.dlms_apdu.specs.Forms.{Selection, RequestForm, ResponseForm, get_normal, get_next, set_normal, set_first, set_block, action_normal, action_first, action_block, get_data, get_result, get_block, get_block_result, set_result, set_block_taken, set_last, action_result, action_block_taken, exception}

-- one part after the other
infixr 20 ◌▷◌
abbrev pub ◌▷◌ : (List ℕ → Type 0) → (List ℕ → Type 0) → List ℕ → Type 0
(P ▷ Q) bytes = (front rest : List ℕ) × (bytes ≡ front ++ rest) × P front × Q rest

abbrev pub IsByte : ℕ → List ℕ → Type 0
IsByte b bytes = bytes ≡ b ∷ []

-- a number in k bytes
abbrev pub IsNumber : ℕ → ℕ → List ℕ → Type 0
IsNumber k n bytes = (length bytes ≡ k) × (n ≡ big_number k bytes)

-- k bytes, which are these
abbrev pub AreBytes : ℕ → List ℕ → List ℕ → Type 0
AreBytes k b bytes = (length bytes ≡ k) × (bytes ≡ b)

-- a boolean: any byte above 0 is true
abbrev pub IsFlag : Bool → List ℕ → Type 0
IsFlag flag bytes = (b : ℕ) × (bytes ≡ b ∷ []) × (flag ≡ nat_lt 0 b)

-- the class, the logical name, and the number of the attribute or method
abbrev pub IsDescriptor : Descriptor → List ℕ → Type 0
IsDescriptor d = IsNumber 2 d.class ▷ AreBytes 6 d.name ▷ IsByte d.id

abbrev pub IsValue : Value → List ℕ → Type 0
IsValue v bytes = IsSpelling bytes v

-- an option is left out, or there is one
abbrev pub IsSelector : Option Selection → List ℕ → Type 0
IsSelector None = IsByte 0
IsSelector (Some s) = IsByte 1 ▷ IsByte s.number ▷ IsValue s.value

abbrev pub IsParameter : Option Value → List ℕ → Type 0
IsParameter None = IsByte 0
IsParameter (Some v) = IsByte 1 ▷ IsValue v

-- a block's bytes after their length, which has the spellings of a length in A-XDR
abbrev pub IsRaw : List ℕ → List ℕ → Type 0
IsRaw raw bytes = Counted bytes (length raw) (λ body. body ≡ raw)

abbrev pub SpellsRequest : List ℕ → RequestForm → Type 0
SpellsRequest bytes (get_normal invoke d s) =
    (IsByte 0xC0 ▷ IsByte 1 ▷ IsByte invoke ▷ IsDescriptor d ▷ IsSelector s) bytes
SpellsRequest bytes (get_next invoke n) =
    (IsByte 0xC0 ▷ IsByte 2 ▷ IsByte invoke ▷ IsNumber 4 n) bytes
SpellsRequest bytes (set_normal invoke d s v) =
    (IsByte 0xC1 ▷ IsByte 1 ▷ IsByte invoke ▷ IsDescriptor d ▷ IsSelector s ▷ IsValue v) bytes
SpellsRequest bytes (set_first invoke d s last n raw) =
    (IsByte 0xC1 ▷ IsByte 2 ▷ IsByte invoke ▷ IsDescriptor d ▷ IsSelector s ▷ IsFlag last ▷ IsNumber 4 n ▷ IsRaw raw) bytes
SpellsRequest bytes (set_block invoke last n raw) =
    (IsByte 0xC1 ▷ IsByte 3 ▷ IsByte invoke ▷ IsFlag last ▷ IsNumber 4 n ▷ IsRaw raw) bytes
SpellsRequest bytes (action_normal invoke d p) =
    (IsByte 0xC3 ▷ IsByte 1 ▷ IsByte invoke ▷ IsDescriptor d ▷ IsParameter p) bytes
SpellsRequest bytes (action_first invoke d last n raw) =
    (IsByte 0xC3 ▷ IsByte 4 ▷ IsByte invoke ▷ IsDescriptor d ▷ IsFlag last ▷ IsNumber 4 n ▷ IsRaw raw) bytes
SpellsRequest bytes (action_block invoke last n raw) =
    (IsByte 0xC3 ▷ IsByte 6 ▷ IsByte invoke ▷ IsFlag last ▷ IsNumber 4 n ▷ IsRaw raw) bytes

abbrev pub SpellsResponse : List ℕ → ResponseForm → Type 0
SpellsResponse bytes (get_data invoke v) =
    (IsByte 0xC4 ▷ IsByte 1 ▷ IsByte invoke ▷ IsByte 0 ▷ IsValue v) bytes
SpellsResponse bytes (get_result invoke r) =
    (IsByte 0xC4 ▷ IsByte 1 ▷ IsByte invoke ▷ IsByte 1 ▷ IsByte r) bytes
SpellsResponse bytes (get_block invoke last n raw) =
    (IsByte 0xC4 ▷ IsByte 2 ▷ IsByte invoke ▷ IsFlag last ▷ IsNumber 4 n ▷ IsByte 0 ▷ IsRaw raw) bytes
SpellsResponse bytes (get_block_result invoke n r) =
    (IsByte 0xC4 ▷ IsByte 2 ▷ IsByte invoke ▷ IsFlag true ▷ IsNumber 4 n ▷ IsByte 1 ▷ IsByte r) bytes
SpellsResponse bytes (set_result invoke r) =
    (IsByte 0xC5 ▷ IsByte 1 ▷ IsByte invoke ▷ IsByte r) bytes
SpellsResponse bytes (set_block_taken invoke n) =
    (IsByte 0xC5 ▷ IsByte 2 ▷ IsByte invoke ▷ IsNumber 4 n) bytes
SpellsResponse bytes (set_last invoke r n) =
    (IsByte 0xC5 ▷ IsByte 3 ▷ IsByte invoke ▷ IsByte r ▷ IsNumber 4 n) bytes
SpellsResponse bytes (action_result invoke r) =
    (IsByte 0xC7 ▷ IsByte 1 ▷ IsByte invoke ▷ IsByte r ▷ IsByte 0) bytes
SpellsResponse bytes (action_block_taken invoke n) =
    (IsByte 0xC7 ▷ IsByte 4 ▷ IsByte invoke ▷ IsNumber 4 n) bytes
SpellsResponse bytes (exception state service) = (IsByte 0xD8 ▷ IsByte state ▷ IsByte service) bytes
