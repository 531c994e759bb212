-- The layouts of bodies on the medium, each with the number in the heads of their pages. Version 1 has rows of the clock and the
-- three registers, and has neither columns nor the reader's secret; version 2 is the present one.
use Rattle.std.specs.Prelude.{ℕ, ◌-◌, ◌==◌, List, ◌++◌, take, drop, Option, Some, None, if◌then◌else◌}
use Rattle.dlms_state.specs.Columns.{first_columns}
use Rattle.dlms_state.specs.Events.{first_secret}
use Rattle.dlms_state.specs.declared.event.SecretOf.TheVariants.{Reader}
use Rattle.dlms_state.specs.StateValue.{StateValue}
use Rattle.dlms_checkpoint.specs.Checkpoint.{field, AreBytes, IsLegalState}
use Rattle.dlms_checkpoint.specs.declared.fields.TheConstants.{HEAD_BYTES, SETTINGS_BYTES, SETTINGS_PLACE}
use Rattle.dlms_checkpoint.specs.declared.version.Version.{Version}
use Rattle.dlms_checkpoint.specs.declared.version.Version.TheVariants.{Rings, Columns}

abbrev pub number_of : Version → ℕ
number_of Rings = 1
number_of Columns = 2

abbrev pub version_named : ℕ → Option Version
version_named n =
    if n == 1 then Some Rings
    else if n == 2 then Some Columns
    else None

-- what version 1 does not say and means: the columns and the reader's secret of a new meter
unfoldable pub first_settings : List ℕ
first_settings = field 4 first_columns ++ field 16 (first_secret Reader)

-- The same bytes in the present layout. What is said of bytes below is said of bytes in the present layout.
abbrev pub as_present : Version → List ℕ → List ℕ
as_present Rings bytes = take SETTINGS_PLACE bytes ++ (first_settings ++ drop SETTINGS_PLACE bytes)
as_present Columns bytes = bytes

-- how many bytes fewer a version has than the present one
abbrev pub missing : Version → ℕ
missing Rings = SETTINGS_BYTES
missing Columns = 0

-- the number of bytes before the rows
abbrev pub head_length : Version → ℕ
head_length version = HEAD_BYTES - missing version

-- ---- the bytes of a state in a version

-- these bytes of a version say this state
abbrev pub AreBytesOf : Version → StateValue → List ℕ → Type 0
AreBytesOf version s bytes = AreBytes s (as_present version bytes)

-- these are the bytes of this state, which is one that a legal list of events may leave
pub record IsCheckpointOf (version : Version) (s : StateValue) (bytes : List ℕ) : Type 0 where
  pub spelled : AreBytesOf version s bytes
  pub legal : IsLegalState s
