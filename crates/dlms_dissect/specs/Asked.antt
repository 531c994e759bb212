-- Which APDUs a further APDU continues (IEC 62056-5-3: the invoke-id-and-priority of a request is in each APDU that belongs to it).
use Rattle.std.specs.Prelude.{ℕ, ◌==◌, if◌then◌else◌, Bool, true, false, Option, Some, None}
use Rattle.dlms_dissect.specs.declared.named.Asked.{Asked}

abbrev pub of_invoke : Option Asked → ℕ → Option Asked
of_invoke None invoke = None
of_invoke (Some a) invoke = if a.invoke == invoke then Some a else None

-- a method's parameter by an ACTION, a value to set by a SET
abbrev pub of_kind : Option Asked → Bool → Option Asked
of_kind None method = None
of_kind (Some a) true = if a.named.method then Some a else None
of_kind (Some a) false = if a.named.method then None else Some a

abbrev pub of_service : Option Asked → ℕ → Bool → Option Asked
of_service asked invoke method = of_kind (of_invoke asked invoke) method
