-- Why octets are not readable, and at which octet, counted from 1, that stands.
use Rattle.std.specs.Prelude.{◌≡◌, ℕ, zero, suc, ◌+◌, ◌-◌, ◌≤◌, ◌==◌, min, Bool, true, false, List, length, take, drop, codes, Option, Some, None, Result, Ok, Err}
use Rattle.dlms_acse.specs.declared.fault.AcseFault.{AcseFault}
use Rattle.dlms_acse.specs.declared.fault.AcseFault.TheVariants as acse
use Rattle.dlms_apdu.specs.Fault.{fault_of, number_of as apdu_number}
use Rattle.dlms_apdu.specs.Reading.{request_at, response_at}
use Rattle.dlms_apdu.specs.declared.fault.ApduFault.{ApduFault}
use Rattle.dlms_apdu.specs.declared.fault.ApduFault.TheVariants as apdu
use Rattle.dlms_apdu.specs.declared.fault.Refusal.{Refusal}
use Rattle.dlms_axdr.specs.Fault.{number_of}
use Rattle.dlms_axdr.specs.Reading.{Fault as DataRefusal, behind, short, no_type, no_length, too_deep}
use Rattle.dlms_data.specs.Reading.{data_at}
use Rattle.dlms_axdr.specs.declared.fault.DataFault.{DataFault}
use Rattle.dlms_axdr.specs.declared.fault.DataFault.TheVariants.{Short, Tag, Length, Depth, Memory}
use Rattle.dlms_dissect.specs.declared.parties.Side.{Side}
use Rattle.dlms_dissect.specs.declared.parties.Side.TheVariants.{Client, Meter}
use Rattle.dlms_dissect.specs.declared.places.Fault.{Fault}

-- octets are counted up to 2^64 - 1
abbrev pub counted : ℕ → ℕ
counted n = min n 18446744073709551615

-- The prefix of this many octets shows what is wrong, and the one with an octet fewer does not.
pub record IsShown (Shows : List ℕ → Type 0) (octets : List ℕ) (n : ℕ) : Type 0 where
  pub within : n ≤ length octets
  pub shown : Shows (take n octets)
  pub not_before : Shows (take (n - 1) octets) → ⊥

-- ---- values

-- why the reader of values refuses octets, if it does
abbrev pub data_fault : DataRefusal → DataFault
data_fault short = Short
data_fault no_type = Tag
data_fault no_length = Length
data_fault too_deep = Depth

abbrev pub refused_by : {Y : Type 0} → Result Y DataRefusal → Option DataFault
refused_by (Ok y) = None
refused_by (Err e) = Some (data_fault e)

abbrev pub refused_value : List ℕ → Option DataFault
refused_value octets = refused_by (data_at 8 octets)

abbrev pub is_refused : DataFault → Option DataFault → Bool
is_refused fault None = false
is_refused fault (Some told) = number_of told == number_of fault

abbrev pub ShowsValue : DataFault → List ℕ → Type 0
ShowsValue fault octets = is_refused fault (refused_value octets) ≡ true

abbrev pub data_words : DataFault → List ℕ
data_words Short = codes "the value is cut short"
data_words Tag = codes "no type has this tag"
data_words Length = codes "no length begins so"
data_words Depth = codes "more than eight levels"
data_words Memory = codes "out of memory"

-- The message for octets that should be one value and are not, after this many octets: if there is a value at their front, that
-- others follow it; if they are cut short, that they end; and otherwise what is wrong at the last octet of the prefix that shows
-- it.
abbrev pub IsValueFault : Option DataFault → List ℕ → ℕ → Fault → Type 0
IsValueFault None octets before fault =
    (fault.words.now ≡ codes "bytes follow the value")
    × ((n : ℕ) × ((n ≤ length octets) × (behind (data_at 8 octets) ≡ Ok (drop n octets))
    × (fault.octet ≡ counted (before + n + 1))))
IsValueFault (Some Short) octets before fault = (fault.words.now ≡ data_words Short)
    × (fault.octet ≡ counted (before + length octets + 1))
IsValueFault (Some e) octets before fault =
    (fault.words.now ≡ data_words e)
    × ((n : ℕ) × (IsShown (ShowsValue e) octets n × (fault.octet ≡ counted (before + n))))

-- this many values are at the front, one after another, and these octets follow them
abbrev pub IsBehind : ℕ → List ℕ → List ℕ → Type 0
IsBehind zero octets rest = rest ≡ octets
IsBehind (suc n) octets rest = (next : List ℕ)
    × ((behind (data_at 8 octets) ≡ Ok next) × IsBehind n next rest)

-- The same for values, one after another: the message is that of the first invalid one.
abbrev pub IsValuesFault : List ℕ → ℕ → Fault → Type 0
IsValuesFault octets before fault =
    (values n : ℕ) × (e : DataFault)
    × (IsBehind values octets (drop n octets) × (refused_value (drop n octets) ≡ Some e)
    × IsValueFault (Some e) (drop n octets) (counted (before + n)) fault)

-- ---- APDUs

-- why the reader of one end's APDUs refuses octets, if it does
abbrev pub fault_in : {Y : Type 0} → Result Y Refusal → Option ApduFault
fault_in (Ok y) = None
fault_in (Err e) = Some (fault_of e)

abbrev pub refused : Side → List ℕ → Option ApduFault
refused Client octets = fault_in (request_at octets)
refused Meter octets = fault_in (response_at octets)

-- by the reader's fault: out of memory is no reason
abbrev pub reason_of : ApduFault → Option ApduFault
reason_of apdu.Memory = None
reason_of fault = Some fault

abbrev pub reason_in : {T : Type 0} → Result T ApduFault → Option ApduFault
reason_in (Ok t) = None
reason_in (Err e) = reason_of e

-- A prefix shows a fault if it is refused with it. It also shows that octets follow the APDU if it is the APDU.
abbrev pub is_shown : ApduFault → Option ApduFault → Bool
is_shown fault None = apdu_number fault == apdu_number apdu.Trailing
is_shown fault (Some told) = apdu_number told == apdu_number fault

abbrev pub Shows : Side → ApduFault → List ℕ → Type 0
Shows side fault octets = is_shown fault (refused side octets) ≡ true

abbrev pub acse_words : AcseFault → List ℕ
acse_words acse.Short = codes "the bytes end too soon, or a field is missing"
acse_words acse.Tag = codes "another APDU"
acse_words acse.Length = codes "no length begins so, or bytes follow the end"
acse_words acse.Repeated = codes "a tag occurs twice"

-- the message for an association's APDU that is invalid
abbrev pub IsAcseFault : {Y : Type 0} → Result Y AcseFault → Fault → Type 0
IsAcseFault (Ok y) fault = ⊥
IsAcseFault (Err e) fault = fault.words.now ≡ acse_words e

-- The message for octets that are refused with a fault, and its position: where they end; at the last octet of the prefix that
-- shows it, or after it. For an invalid value the message states what is wrong there.
abbrev pub IsApduFault : Side → ApduFault → List ℕ → Fault → Type 0
IsApduFault side apdu.Short octets fault = (fault.words.now ≡ codes "the bytes end within the APDU")
    × (fault.octet ≡ counted (length octets + 1))
IsApduFault side apdu.Choice octets fault = (fault.words.now ≡ codes "no form has this byte here")
    × IsShown (Shows side apdu.Choice) octets fault.octet
IsApduFault side apdu.Trailing octets fault =
    (fault.words.now ≡ codes "bytes follow the APDU")
    × ((n : ℕ) × (IsShown (Shows side apdu.Trailing) octets n
    × (fault.octet ≡ counted (n + 1))))
IsApduFault side apdu.Data octets fault = (n : ℕ)
    × (IsShown (Shows side apdu.Data) octets n × IsValuesFault (drop n octets) n fault)
IsApduFault side apdu.Memory octets fault = (fault.words.now ≡ codes "out of memory")
    × (fault.octet ≡ 0)

-- The reader of one end's APDUs refuses the octets, and this is said of it.
abbrev pub IsRefusal : Side → List ℕ → Fault → Type 0
IsRefusal side octets fault = (e : ApduFault)
    × ((refused side octets ≡ Some e) × IsApduFault side e octets fault)
