-- The requests of a poll, in order: the association (IEC 62056-5-3, the establishment of an application association), the columns
-- of the load profile, if the plan asks for them, its buffer with selective access by range (Blue Book 4.3.6, range_descriptor),
-- further blocks, the columns again, and the release.
use Rattle.std.specs.Prelude.{◌≡◌, ◌≤◌, ℕ, List, [], ◌∷◌, Option, Some, None, IfSome, unwrap_or}
use Rattle.dlms_frame.specs.declared.client.Client.{Client}
use Rattle.dlms_data.specs.Building.{IsTime}
use Rattle.dlms_data.specs.Value.{Value, array, structure, none, cons}
use Rattle.dlms_data.specs.declared.descriptor.Descriptor.{Descriptor}
use Rattle.dlms_acse.specs.Writing.{aarq_bytes}
use Rattle.dlms_apdu.specs.Forms.{get_normal, get_next}
use Rattle.dlms_apdu.specs.Writing.{request_bytes}
use Rattle.dlms_headend.specs.Columns.{clock_column}
use Rattle.dlms_headend.specs.declared.plan.Columns.{Columns}
use Rattle.dlms_data.specs.declared.date_time.TheConstants.{LAST_SECOND}

-- what is polled, as a contract sees it
pub record PlanValue : Type 0 where
  pub client : Client
  pub secret : List ℕ
  pub after : Option ℕ
  pub until : Option ℕ
  pub columns : Columns

-- the invoke-id-and-priority byte
abbrev pub invoke : ℕ
invoke = 0xC1

-- the association request: the services 00 7E 1F are proposed, and APDUs of 1,200 bytes
abbrev pub association_bytes : PlanValue → List ℕ
association_bytes plan = aarq_bytes plan.client plan.secret 0x007E1F 1200

-- the load profile 1.0.99.1.0.255 of class 7, and its buffer
abbrev pub buffer : Descriptor
buffer = record { class = 7; name = 1 ∷ 0 ∷ 99 ∷ 1 ∷ 0 ∷ 255 ∷ []; id = 2 }

-- its columns: the capture objects, attribute 3
abbrev pub capture_objects : Descriptor
capture_objects = record buffer { id = 3 }

abbrev pub columns_bytes : List ℕ
columns_bytes = request_bytes (get_normal invoke capture_objects None)

-- the rows from one date-time to another, with all columns
abbrev pub range : Value → Value → Value
range first last = structure (cons clock_column (cons first (cons last (cons (array none) none))))

-- the rows from one second to another, both included
pub record IsRange (first_second last_second : ℕ) (value : Value) : Type 0 where
  pub first : Value
  pub last : Value
  pub is : value ≡ range first last
  pub from_first : IsTime first_second first
  pub to_last : IsTime last_second last

abbrev pub first_second : Option ℕ → ℕ
first_second after = unwrap_or after 0

abbrev pub last_second : Option ℕ → ℕ
last_second until = unwrap_or until LAST_SECOND

-- both are seconds of the clock
abbrev pub AreSeconds : (after until : Option ℕ) → Type 0
AreSeconds after until =
    IfSome after (λ second. second ≤ LAST_SECOND) × IfSome until (λ second. second ≤ LAST_SECOND)

abbrev pub buffer_bytes : Value → List ℕ
buffer_bytes value = request_bytes (get_normal invoke buffer (Some (record {
  number = 1;
  value = value;
})))

-- a GET of the buffer with selector 1, from `after` (0 if there is none) to `until` (the clock's last second if there is none)
pub record IsBufferRequest (after until : Option ℕ) (apdu : List ℕ) : Type 0 where
  pub value : Value
  pub is : apdu ≡ buffer_bytes value
  pub wanted : IsRange (first_second after) (last_second until) value

-- a GET of the block after the one with this number
abbrev pub next_bytes : ℕ → List ℕ
next_bytes number = request_bytes (get_next invoke number)
