-- How a value is written: a word, a colon, and the value.
use Rattle.std.specs.Prelude.{ℕ, List, codes}
use Rattle.dlms_text.specs.declared.kind.Kind.{Kind}
use Rattle.dlms_text.specs.declared.kind.Kind.TheVariants.{Unsigned, LongUnsigned, DoubleLongUnsigned, Long64Unsigned, Integer, Long, DoubleLong, Long64, Enum, Bool, Text, Visible, Utf8, Hex, Raw}

abbrev pub word_of : Kind → List ℕ
word_of Unsigned = codes "u8"
word_of LongUnsigned = codes "u16"
word_of DoubleLongUnsigned = codes "u32"
word_of Long64Unsigned = codes "u64"
word_of Integer = codes "i8"
word_of Long = codes "i16"
word_of DoubleLong = codes "i32"
word_of Long64 = codes "i64"
word_of Enum = codes "enum"
word_of Bool = codes "bool"
word_of Text = codes "text"
word_of Visible = codes "visible"
word_of Utf8 = codes "utf8"
word_of Hex = codes "hex"
word_of Raw = codes "raw"
