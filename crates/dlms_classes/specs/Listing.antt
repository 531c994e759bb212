-- The object list (object_list of class Association LN, Blue Book 4.4.4): for each object its class, version and name, and
-- what this client may do with it. All of it is read from the table of objects.
use Rattle.std.specs.Prelude.{ℕ, Bool, true, false, if◌then◌else◌, List, [], ◌∷◌, pos}
use Rattle.std.specs.List.{enumerate_from}
use Rattle.dlms_data.specs.Value.{Value, Values, null, array, structure, boolean, octet_string, integer, unsigned, long_unsigned, enumerated, none, cons}
use Rattle.dlms_frame.specs.declared.client.Client.{Client}
use Rattle.dlms_classes.specs.declared.table.Attribute.{Attribute}
use Rattle.dlms_classes.specs.declared.table.Call.{Call}
use Rattle.dlms_classes.specs.declared.table.Content.{Content}
use Rattle.dlms_classes.specs.declared.table.Content.TheVariants.{Buffer}
use Rattle.dlms_classes.specs.declared.table.Rights.{Rights}
use Rattle.dlms_classes.specs.declared.table.Rights.TheVariants.{Nothing, Read, Write, ReadWrite}
use Rattle.dlms_classes.specs.Table.{Entry, objects, rights_of, may_call}

-- the values that a function makes of the elements
abbrev pub map_values : {X : Type 0} → (X → Value) → List X → Values
map_values f [] = none
map_values f (x ∷ xs) = cons (f x) (map_values f xs)

-- access_mode: no_access, read_only, write_only, read_and_write
abbrev pub mode_of : Rights → ℕ
mode_of Nothing = 0
mode_of Read = 1
mode_of Write = 2
mode_of ReadWrite = 3

-- the one attribute that a selector may restrict
abbrev pub is_selective : Content → Bool
is_selective Buffer = true
is_selective _ = false

-- by range (1) and by entry (2)
abbrev pub selectors : Values
selectors = cons (integer (pos 1)) (cons (integer (pos 2)) none)

-- attribute_id, access_mode, access_selectors
abbrev pub listed_attribute : Client → ℕ × Attribute → Value
listed_attribute client a =
    structure (cons (integer (pos a.0))
    (cons (enumerated (mode_of (rights_of client a.1))) (cons (if is_selective a.1.content
    then array selectors else null) none)))

-- method_id, access_mode
abbrev pub listed_method : Client → ℕ × Call → Value
listed_method client m = structure
    (cons (integer (pos m.0)) (cons (boolean (may_call client m.1)) none))

-- attribute_access and method_access
abbrev pub listed_rights : Client → Entry → Value
listed_rights client o =
    structure (cons (array (map_values (listed_attribute client) (enumerate_from 1 o.attributes)))
    (cons (array (map_values (listed_method client) (enumerate_from 1 o.methods))) none))

-- class_id, version, logical_name, access_rights
abbrev pub listed : Client → Entry → Value
listed client o = structure (cons (long_unsigned o.class)
    (cons (unsigned o.version) (cons (octet_string o.name)
    (cons (listed_rights client o) none))))

unfoldable pub object_list : Client → Value
object_list client = array (map_values (listed client) objects)
