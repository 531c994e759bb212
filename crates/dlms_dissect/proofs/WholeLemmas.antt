-- Octets that the reader of values refuses, or of which it leaves some, spell no value.
use Rattle.std.proofs.Common.{◌≡◌, ℕ, List, [], ◌++◌, length, Result, Ok, Err, refl, sym, ap}
use Rattle.std.proofs.lemmas.List.{append-nil}
use Rattle.dlms_data.specs.Memory.{NeedsFirst}
use Rattle.dlms_axdr.specs.Reading.{Fault, Wants}
use Rattle.dlms_data.specs.Spelling.{IsSpelling}
use Rattle.dlms_data.specs.Value.{Value}
use Rattle.dlms_axdr.specs.declared.fault.DataFault.{DataFault}
use Rattle.dlms_axdr.specs.declared.fault.DataFault.TheVariants.{Short, Tag, Length, Depth, Memory}
use Rattle.dlms_dissect.specs.declared.places.Fault.{Fault as Place}
use Rattle.dlms_dissect.specs.declared.secrecy.Secrecy.{Secrecy}
use Rattle.dlms_dissect.specs.declared.secrecy.Secrecy.TheVariants.{Secret, Unknown, Open}
use Rattle.dlms_dissect.specs.declared.whole.Whole.TheVariants.{Unreadable}
use Rattle.dlms_dissect.specs.Whole.{IsNoValue, IsToldOfWhole}
use Rattle.dlms_dissect.specs.Places.{IsValueFault, refused_value}

pub refused : (e : DataFault) (octets : List ℕ) → (e ≡ Memory → ⊥)
    → ((v : Value) (text rest : List ℕ) → IsSpelling text v → octets ≡ text ++ rest → Wants {Y = Value × ℕ} NeedsFirst e (Ok (v, length text))) → IsNoValue octets
refused Short octets other only = λ v s. let h = only v octets [] s (sym (append-nil octets)) in cc
refused Tag octets other only = λ v s. let h = only v octets [] s (sym (append-nil octets)) in cc
refused Length octets other only = λ v s. let h = only v octets [] s (sym (append-nil octets)) in cc
refused Depth octets other only = λ v s. let h = only v octets [] s (sym (append-nil octets)) in cc
refused Memory octets other only = λ v s. other refl

-- how many octets were read
abbrev len_in : Result (Value × ℕ) Fault → ℕ
len_in (Ok x) = x.1
len_in (Err e) = 0

abbrev pub Reads : Value × ℕ → Result (Value × ℕ) Fault
Reads x = Ok x

pub left : (value : Value) (len : ℕ) (octets : List ℕ) → (len ≡ length octets → ⊥)
    → ((v : Value) (text rest : List ℕ) → IsSpelling text v → octets ≡ text ++ rest → Reads (v, length text) ≡ Reads (value, len)) → IsNoValue octets
left value len octets other only = λ v s. other (sym (ap len_in (only v octets [] s (sym (append-nil octets)))))

pub told-unknown : (A : Type 0) (secrecy : Secrecy) (octets : List ℕ) (fault : Place) → secrecy ≡ Unknown → IsNoValue octets × IsValueFault (refused_value octets) octets 0 fault → IsToldOfWhole {A = A} secrecy octets (Unreadable fault)
told-unknown A Secret octets fault is none = cc
told-unknown A Unknown octets fault is none = none
told-unknown A Open octets fault is none = none

pub told-open : (A : Type 0) (secrecy : Secrecy) (octets : List ℕ) (fault : Place) → secrecy ≡ Open → IsNoValue octets × IsValueFault (refused_value octets) octets 0 fault → IsToldOfWhole {A = A} secrecy octets (Unreadable fault)
told-open A Secret octets fault is none = cc
told-open A Unknown octets fault is none = none
told-open A Open octets fault is none = none
