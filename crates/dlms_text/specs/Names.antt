-- Names of attributes and methods: a logical name (OBIS code, IEC 62056-6-1) of six value groups with points between them, and
-- after a slash the number of an attribute or of a method.
use Rattle.std.specs.Prelude.{◌≡◌, ◌<◌, ℕ, List, [], ◌∷◌, Option, Some, None, true, false}
use Rattle.dlms_text.specs.Texts.{IsBelow, before, behind, has}
use Rattle.dlms_text.specs.declared.name.Name.{Name}

-- value groups with points between them
abbrev pub AreGroups : List ℕ → List ℕ → Type 0
AreGroups text [] = ⊥
AreGroups text (n ∷ []) = IsBelow 256 text n
AreGroups text (n ∷ m ∷ ns) = (has 46 text ≡ true) × IsBelow 256 (before 46 text) n
    × AreGroups (behind 46 text) (m ∷ ns)

abbrev pub IsNamed : List ℕ → List ℕ → Option ℕ → Type 0
IsNamed text code None = (has 47 text ≡ false) × AreGroups text code
IsNamed text code (Some n) = (has 47 text ≡ true) × AreGroups (before 47 text) code
    × IsBelow 256 (behind 47 text) n × (0 < n)

abbrev pub IsName : List ℕ → Name → Type 0
IsName text name = IsNamed text name.code name.number
