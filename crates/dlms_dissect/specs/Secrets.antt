-- Which values may be secrets (IEC 62056-6-2, the class Association LN), and how much of them is reported.
use Rattle.std.specs.Prelude.{ℕ, ◌==◌, ◌&&◌, ◌||◌, not, if◌then◌else◌, Bool, true, false, List, [], ◌∷◌, Option, Some, None}
use Rattle.dlms_data.specs.declared.descriptor.Descriptor.{Descriptor}
use Rattle.dlms_dissect.specs.declared.named.Named.{Named}
use Rattle.dlms_dissect.specs.declared.named.Asked.{Asked}
use Rattle.dlms_dissect.specs.declared.secrecy.Secrecy.{Secrecy}
use Rattle.dlms_dissect.specs.declared.secrecy.Secrecy.TheVariants.{Open, Unknown, Secret}

-- 0.b.40.0.e.255, the names of associations (IEC 62056-6-1)
abbrev pub is_association : List ℕ → Bool
is_association (a ∷ b ∷ c ∷ d ∷ e ∷ f ∷ []) = ((a == 0) && (c == 40)) && ((d == 0) && (f == 255))
is_association _ = false

-- class 15, or such a name
abbrev pub is_of_association : Descriptor → Bool
is_of_association d = (d.class == 15) || is_association d.name

-- attribute 7, or as a method method 2, and method 1, whose parameter and answer are reckoned from it
abbrev pub is_secret : Descriptor → Bool → Bool
is_secret d method = is_of_association d && (if method then (d.id == 1) || (d.id == 2)
    else d.id == 7)

-- attribute 0 means all attributes
abbrev pub holds_secret : Descriptor → Bool → Bool
holds_secret d method = is_of_association d && (not method && (d.id == 0))

-- what is known of a value that is named so
abbrev pub secrecy_at : Named → Secrecy
secrecy_at n = if is_secret n.descriptor n.method then Secret
    else (if holds_secret n.descriptor n.method then Unknown else Open)

-- The rule. The object of an answer, or of a value in blocks, is known if its request is known. Of an unknown value, and of one
-- that contains a secret among others, each string is reported by its length alone; of a secret nothing is reported.
abbrev pub secrecy_of : Option Asked → Secrecy
secrecy_of None = Unknown
secrecy_of (Some a) = secrecy_at a.named

-- if strings are wanted as they are, an unknown one is shown as it is
abbrev pub told_as : Bool → Secrecy → Secrecy
told_as true Unknown = Open
told_as _ s = s
