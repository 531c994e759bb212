-- The content of requests and responses, without their place in memory: a form for each xDLMS APDU that is served (IEC 62056-5-3,
-- Get-Request to Exception-Response), with its named parts in order.
use Rattle.std.specs.Prelude.{ℕ, Bool, List, Option}
use Rattle.dlms_data.specs.declared.descriptor.Descriptor.{Descriptor}
use Rattle.dlms_data.specs.Value.{Value}

-- which part of an attribute is wanted
pub record Selection : Type 0 where
  pub number : ℕ
  pub value : Value

pub data RequestForm : Type 0 where
  get_normal : ℕ → Descriptor → Option Selection → RequestForm
  get_next : ℕ → ℕ → RequestForm
  set_normal : ℕ → Descriptor → Option Selection → Value → RequestForm
  set_first : ℕ → Descriptor → Option Selection → Bool → ℕ → List ℕ → RequestForm
  set_block : ℕ → Bool → ℕ → List ℕ → RequestForm
  action_normal : ℕ → Descriptor → Option Value → RequestForm
  action_first : ℕ → Descriptor → Bool → ℕ → List ℕ → RequestForm
  action_block : ℕ → Bool → ℕ → List ℕ → RequestForm

pub data ResponseForm : Type 0 where
  get_data : ℕ → Value → ResponseForm
  get_result : ℕ → ℕ → ResponseForm
  get_block : ℕ → Bool → ℕ → List ℕ → ResponseForm
  get_block_result : ℕ → ℕ → ℕ → ResponseForm
  set_result : ℕ → ℕ → ResponseForm
  set_block_taken : ℕ → ℕ → ResponseForm
  set_last : ℕ → ℕ → ℕ → ResponseForm
  action_result : ℕ → ℕ → ResponseForm
  action_block_taken : ℕ → ℕ → ResponseForm
  exception : ℕ → ℕ → ResponseForm

-- a block: whether it is the last one, its number, and its bytes
pub record BlockForm : Type 0 where
  pub last : Bool
  pub number : ℕ
  pub raw : List ℕ
