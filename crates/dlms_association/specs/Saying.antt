-- The meaning of the APDUs taken since a request as an answer to it (IEC 62056-5-3), the last of them this one.
use Rattle.std.specs.Prelude.{◌≡◌, ℕ, ◌+◌, true, false, List, [], ◌∷◌, ◌++◌, Some, Result, Ok}
use Rattle.dlms_apdu.specs.Forms.{ResponseForm, get_result, get_block, get_block_result, set_result, set_last, action_result}
use Rattle.dlms_apdu.specs.Reading.{response_at}
use Rattle.dlms_apdu.specs.declared.fault.Refusal.{Refusal}
use Rattle.dlms_values.specs.Spelling.{IsSpelling}
use Rattle.dlms_values.specs.Value.{Value}
use Rattle.dlms_association.specs.Association.{denial_of}
use Rattle.dlms_association.specs.Hearing.{data_at, returned_at}
use Rattle.dlms_association.specs.declared.answer.Answer.{Answer}
use Rattle.dlms_association.specs.declared.answer.Answer.TheVariants.{Value as ValueCame, Result as HasResult, Denied}
use Rattle.dlms_association.specs.declared.answer.Denial.{Denial}
use Rattle.dlms_association.specs.declared.stage.Asked.{Asked}
use Rattle.dlms_association.specs.declared.stage.Asked.TheVariants.{Get, Set, Action}

-- after this many blocks: the next one, which is not the last, with these bytes
abbrev pub IsMore : ℕ → List ℕ → List ℕ → Type 0
IsMore taken apdu bytes =
    (invoke : ℕ) × (response_at apdu ≡ Ok (get_block invoke false (taken + 1) bytes))

-- the blocks after number `before`, up to number `taken`, none of them the last; their bytes are joined
abbrev pub AreBlocks : ℕ → List (List ℕ) → ℕ → List ℕ → Type 0
AreBlocks before [] taken joined = (taken ≡ before) × (joined ≡ [])
AreBlocks before (apdu ∷ apdus) taken joined = (bytes : List ℕ) × (rest : List ℕ)
    × IsMore before apdu bytes × (joined ≡ bytes ++ rest) × AreBlocks (before + 1) apdus taken rest

-- a response has this result: of a GET in place of its value or of a block of it, of a SET in one piece or in blocks, of an ACTION
abbrev pub GivesResult : Asked → Result ResponseForm Refusal → ℕ → Type 0
GivesResult Get (Ok (get_result invoke r)) code = r ≡ code
GivesResult Get (Ok (get_block_result invoke number r)) code = r ≡ code
GivesResult Set (Ok (set_result invoke r)) code = r ≡ code
GivesResult Set (Ok (set_last invoke r number)) code = r ≡ code
GivesResult Action (Ok (action_result invoke r)) code = r ≡ code
GivesResult asked read code = ⊥

-- A GET has a value in one piece, if no block came before; or the last block, and the encoding of its value is that of the blocks,
-- joined in order. The value may be of any type of Data. Each request may have a result, an ACTION a value with it; and each may be
-- denied.
pub data Says (asked : Asked) (before : List (List ℕ)) (apdu : List ℕ) (answer : Answer)
    (value : List ℕ) : Type 0 where
  in_one_piece : (v : Value) → asked ≡ Get → before ≡ [] → data_at apdu ≡ Some value
      → IsSpelling value v → answer ≡ ValueCame → Says asked before apdu answer value
  in_blocks : (invoke taken : ℕ) (joined raw : List ℕ) (v : Value) → asked ≡ Get
      → AreBlocks 0 before taken joined
      → response_at apdu ≡ Ok (get_block invoke true (taken + 1) raw) → value ≡ joined ++ raw
      → IsSpelling value v
      → answer ≡ ValueCame → Says asked before apdu answer value
  by_result : (code : ℕ) → GivesResult asked (response_at apdu) code → answer ≡ HasResult code
      → Says asked before apdu answer value
  returned : (code : ℕ) (bytes : List ℕ) (v : Value) → asked ≡ Action
      → returned_at apdu ≡ Some (code, bytes) → value ≡ bytes → IsSpelling value v
      → answer ≡ HasResult code → Says asked before apdu answer value
  denied : (denial : Denial) → denial_of apdu ≡ Some denial → answer ≡ Denied denial
      → Says asked before apdu answer value
