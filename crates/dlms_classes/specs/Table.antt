-- The objects of the meter, in the order of the object list, with what each attribute holds and who may read and write it,
-- and what each method does. Classes and their versions, attributes and methods are those of IEC 62056-6-2 (Blue Book:
-- Data 4.3.1, Register 4.3.2, Profile generic 4.3.6, Association LN 4.4.4, Clock 4.5.1); the logical names are those of
-- IEC 62056-6-1. Which objects there are, and the rights, are the meter's own.
use Rattle.std.specs.Prelude.{ℕ, ◌==◌, ◌&&◌, if◌then◌else◌, List, [], ◌∷◌, get_or, Option, Bool, true, false}
use Rattle.std.specs.List.{position_from}
use Rattle.std.specs.Str.{bytes_eq}
use Rattle.dlms_frame.specs.declared.client.Client.{Client}
use Rattle.dlms_frame.specs.declared.client.Client.TheVariants.{Public, Management, Reader}
use Rattle.dlms_classes.specs.declared.table.Content.{Content}
use Rattle.dlms_classes.specs.declared.table.Content.TheVariants.{LogicalName, DeviceName, SerialNumber, Text, Register, ScalerUnit, Time, TimeZone, ClockStatus, DaylightTime, DaylightDeviation, DaylightEnabled, ClockBase, ObjectList, AssociatedPartners, Withheld, Secret, AssociationStatus, Buffer, CaptureObjects, CapturePeriod, SortMethod, SortObject, EntriesInUse, ProfileEntries}
use Rattle.dlms_classes.specs.declared.table.Rights.{Rights}
use Rattle.dlms_classes.specs.declared.table.Rights.TheVariants.{Nothing, Read, Write, ReadWrite}
use Rattle.dlms_classes.specs.declared.table.Call.{Call}
use Rattle.dlms_classes.specs.declared.table.Call.TheVariants as call
use Rattle.dlms_classes.specs.declared.table.Attribute.{Attribute}
use Rattle.dlms_classes.specs.declared.table.Object.{Object}

-- a row of the table; attributes and methods are numbered from 1
pub record Entry : Type 0 where
  pub class : ℕ
  pub version : ℕ
  pub name : List ℕ
  pub attributes : List Attribute
  pub methods : List Call

-- an attribute with the rights of the public client and of management
abbrev pub holds : Content → Rights → Rights → Attribute
holds content public management = record {
  content = content;
  public = public;
  management = management;
}

-- every client may read it
abbrev pub shows : Content → Attribute
shows content = holds content Read Read

-- every client may read it, and management may set it
abbrev pub sets : Content → Attribute
sets content = holds content Read ReadWrite

abbrev pub entry : ℕ → ℕ → List ℕ → List Attribute → List Call → Entry
entry class version name attributes methods = record {
  class = class;
  version = version;
  name = name;
  attributes = attributes;
  methods = methods;
}

-- Data: logical_name, value
abbrev pub data_entry : List ℕ → Attribute → Entry
data_entry name value = entry 1 0 name (shows LogicalName ∷ value ∷ []) []

-- Register: logical_name, value, scaler_unit; reset
abbrev pub register_entry : List ℕ → (channel unit : ℕ) → Entry
register_entry name channel unit =
    entry 3 0 name (shows LogicalName ∷ shows (Register channel) ∷ shows (ScalerUnit unit) ∷ [])
    (call.ResetRegister channel ∷ [])

-- Association LN: logical_name, object_list, associated_partners_id, application_context_name, xDLMS_context_info,
-- authentication_mechanism_name, secret, association_status; its four methods are nobody's
abbrev pub association_entry : List ℕ → Entry
association_entry name =
    entry 15 0 name
    (shows LogicalName ∷ shows ObjectList ∷ shows AssociatedPartners
    ∷ holds Withheld Nothing Nothing ∷ holds Withheld Nothing Nothing
    ∷ holds Withheld Nothing Nothing ∷ holds Secret Nothing Write ∷ shows AssociationStatus ∷ [])
    (call.Withheld ∷ call.Withheld ∷ call.Withheld ∷ call.Withheld ∷ [])

-- Clock: logical_name, time, time_zone, status, daylight_savings_begin, daylight_savings_end, daylight_savings_deviation,
-- daylight_savings_enabled, clock_base; of its six methods adjust_to_minute (3) and shift_time (6)
abbrev pub clock_entry : List ℕ → Entry
clock_entry name =
    entry 8 0 name
    (shows LogicalName ∷ sets Time ∷ shows TimeZone ∷ shows ClockStatus ∷ shows DaylightTime
    ∷ shows DaylightTime ∷ shows DaylightDeviation
    ∷ shows DaylightEnabled ∷ shows ClockBase ∷ [])
    (call.Withheld ∷ call.Withheld ∷ call.AdjustToMinute ∷ call.Withheld ∷ call.Withheld
    ∷ call.ShiftTime ∷ [])

-- Profile generic: logical_name, buffer, capture_objects, capture_period, sort_method, sort_object, entries_in_use,
-- profile_entries; reset, capture
abbrev pub profile_entry : List ℕ → Entry
profile_entry name =
    entry 7 1 name
    (shows LogicalName ∷ holds Buffer Nothing Read ∷ sets CaptureObjects ∷ sets CapturePeriod
    ∷ shows SortMethod ∷ shows SortObject
    ∷ shows EntriesInUse ∷ shows ProfileEntries ∷ [])
    (call.ResetProfile ∷ call.Capture ∷ [])

-- units of the standard's list
abbrev pub watt_hours : ℕ
watt_hours = 30

abbrev pub var_hours : ℕ
var_hours = 32

abbrev pub clock : Entry
clock = clock_entry (0 ∷ 0 ∷ 1 ∷ 0 ∷ 0 ∷ 255 ∷ [])

abbrev pub energy_imported : Entry
energy_imported = register_entry (1 ∷ 0 ∷ 1 ∷ 8 ∷ 0 ∷ 255 ∷ []) 0 watt_hours

abbrev pub energy_exported : Entry
energy_exported = register_entry (1 ∷ 0 ∷ 2 ∷ 8 ∷ 0 ∷ 255 ∷ []) 1 watt_hours

abbrev pub reactive_energy : Entry
reactive_energy = register_entry (1 ∷ 0 ∷ 3 ∷ 8 ∷ 0 ∷ 255 ∷ []) 2 var_hours

-- the objects, in the order of the object list
abbrev pub objects : List Entry
objects =
    data_entry (0 ∷ 0 ∷ 42 ∷ 0 ∷ 0 ∷ 255 ∷ []) (shows DeviceName)
    ∷ association_entry (0 ∷ 0 ∷ 40 ∷ 0 ∷ 0 ∷ 255 ∷ [])
    ∷ clock
    ∷ data_entry (0 ∷ 0 ∷ 96 ∷ 1 ∷ 0 ∷ 255 ∷ []) (shows SerialNumber)
    ∷ data_entry (0 ∷ 0 ∷ 96 ∷ 1 ∷ 1 ∷ 255 ∷ []) (sets Text)
    ∷ energy_imported
    ∷ energy_exported
    ∷ reactive_energy
    ∷ profile_entry (1 ∷ 0 ∷ 99 ∷ 1 ∷ 0 ∷ 255 ∷ [])
    ∷ []

-- the objects of which an attribute can be a column of the load profile; the id of the column is the object's place here
abbrev pub captured : List Entry
captured = clock ∷ energy_imported ∷ energy_exported ∷ reactive_energy ∷ []

-- the object that gives the column of an id
abbrev pub object_of_column : ℕ → Entry
object_of_column id = get_or captured id clock

-- the id of the column that the object of this class and name gives
abbrev pub id_of : (class : ℕ) (name : List ℕ) → Option ℕ
id_of class name = position_from (λ o. (o.class == class) && bytes_eq o.name name) 0 captured

-- the attribute of each of them that is captured: the time of the clock, the value of a register
abbrev pub captured_attribute : ℕ
captured_attribute = 2

-- a row of the program's table as a row of this one
abbrev pub entry_of : Object → Entry
entry_of o = entry o.class o.version o.name o.attributes.now o.methods.now

abbrev pub may_read : Rights → Bool
may_read Read = true
may_read ReadWrite = true
may_read _ = false

abbrev pub may_write : Rights → Bool
may_write Write = true
may_write ReadWrite = true
may_write _ = false

-- of some rights those to read
abbrev pub reading : Rights → Rights
reading rights = if may_read rights then Read else Nothing

-- Of management's rights those of a client that changes nothing but its own secret: all of those over a secret, which is the
-- client's own, and of the others those to read.
abbrev pub but_own_secret : Content → Rights → Rights
but_own_secret Secret rights = rights
but_own_secret _ rights = reading rights

-- what a client may do with an attribute: a row for each client
abbrev pub rights_of : Client → Attribute → Rights
rights_of Public a = a.public
rights_of Management a = a.management
rights_of Reader a = but_own_secret a.content a.management

-- management may call each method that is not withheld, and the others none: a row for each client
abbrev pub may_call : Client → Call → Bool
may_call Public method = false
may_call Management call.Withheld = false
may_call Management _ = true
may_call Reader method = false
