-- The text of readings, and what a merge appends to it.
use Rattle.std.proofs.Common.{refl, sym, ap, ◌∙◌, ◌≡◌, ℕ, List, [], ◌∷◌, ◌++◌, length, append_assoc, drop, slice_index, Option, subst, inl, inr}
use Rattle.std.specs.Prelude.{Result, Ok, Err, Some, None}
use Rattle.std.specs.Fmt.{decimal}
use Rattle.std.proofs.Math.Seq.{drop-append_seam}
use Rattle.std.proofs.lemmas.List.{append_cancel_left}
use Rattle.std.specs.declared.io.Error.{Error}
use Rattle.dlms_headend.specs.declared.row.Row.{Row}
use Rattle.dlms_headend.specs.Lines.{field, line, lines, text_of, IsFile}
use Rattle.dlms_headend.specs.Merged.{added, merged}
use Rattle.dlms_headend.specs.Rows.{AreReadings}
use Rattle.dlms_filing.specs.Filing.{PlaceCall, FilesRows, Gives, PutIsPrinted}
use Rattle.dlms_filing.specs.Filing.PlaceCall.{Drops, Lays, Puts}
use Rattle.dlms_filing.specs.Printing.{Printed}
use Rattle.dlms_filing.specs.declared.filing.FilingFault.{FilingFault}
use Rattle.dlms_filing.specs.declared.filing.FilingFault.TheVariants.{Memory, Output, Place}

field-followed : (number separator : ℕ) (rest more : List ℕ) → field number separator rest ++ more ≡ field number separator (rest ++ more)
field-followed number separator rest more = append_assoc (decimal number) (separator ∷ rest) more

line-followed : (row : Row) (rest more : List ℕ) → line row rest ++ more ≡ line row (rest ++ more)
line-followed row rest more =
    let first = slice_index row.registers 0 in
    let second = slice_index row.registers 1 in
    let third = slice_index row.registers 2 in
    field-followed row.clock 0x2C (field first 0x2C (field second 0x2C (field third 0x0A rest))) more
    ∙ ap (field row.clock 0x2C) (field-followed first 0x2C (field second 0x2C (field third 0x0A rest)) more
    ∙ ap (field first 0x2C) (field-followed second 0x2C (field third 0x0A rest) more
    ∙ ap (field second 0x2C) (field-followed third 0x0A rest more)))

lines-followed : (rows : List Row) (rest more : List ℕ) → lines rows rest ++ more ≡ lines rows (rest ++ more)
lines-followed [] rest more = refl
lines-followed (row ∷ rows) rest more = line-followed row (lines rows rest) more ∙ ap (line row) (lines-followed rows rest more)

lines-append : (rows more : List Row) (rest : List ℕ) → lines (rows ++ more) rest ≡ lines rows (lines more rest)
lines-append [] more rest = refl
lines-append (row ∷ rows) more rest = ap (line row) (lines-append rows more rest)

-- the text of readings that grew is that of the old ones, and then that of the new
pub text_of-append : (before new : List Row) → text_of (before ++ new) ≡ text_of before ++ text_of new
text_of-append before new = lines-append before new [] ∙ sym (lines-followed before [] (text_of new))

-- the part of the new text after as many bytes as the old one had
pub news_in : (before rows : List Row) (first text : List ℕ) → text ≡ first ++ text_of (added before rows) → drop (length first) text ≡ text_of (added before rows)
news_in before rows first text whole = ap (drop (length first)) whole ∙ drop-append_seam first (text_of (added before rows))

-- a file to which the lines of the added rows were appended
pub grown : (before rows after : List Row) (first text : List ℕ) → IsFile first before → after ≡ merged before rows → text ≡ first ++ text_of (added before rows) → AreReadings after → IsFile text after
grown before rows after first text old same whole readings = record {
  spelled = whole ∙ ap (λ (t : List ℕ). t ++ text_of (added before rows)) old.spelled ∙ sym (text_of-append before (added before rows)) ∙ ap text_of (sym same);
  readings = readings;
}

pub files : {T : Type 0} (old new : Option (List PlaceCall)) (printed printed' : Printed) (before rows after : List Row) (text news : List ℕ) (result : Result T FilingFault)
    → after ≡ merged before rows → IsFile text after → news ≡ text_of (added before rows) → Gives old new printed printed' text news result → FilesRows old new printed printed' before rows result after
files {T} old new printed printed' before rows after text news (Ok done) same is lines gives = (same, text, is, subst (λ n. Gives {T = T} old new printed printed' text n (Ok done)) lines gives)
files {T} old new printed printed' before rows after text news (Err Memory) same is lines gives = absurd gives
files {T} old new printed printed' before rows after text news (Err Output) same is lines gives =
    (same, text, is, subst (λ n. Gives {T = T} old new printed printed' text n (Err Output)) lines gives)
files {T} old new printed printed' before rows after text news (Err (Place e)) same is lines gives =
    (same, text, is, subst (λ n. Gives {T = T} old new printed printed' text n (Err (Place e))) lines gives)

-- ---- what was put was printed

-- the second of these calls was to put a text in its place
abbrev PutsSecond : List PlaceCall → Type 0
PutsSecond (first ∷ Puts failed ∷ rest) = Unit {0}
PutsSecond _ = ⊥

-- after the same calls others came, of which the second was such a one
puts_second : (old new calls : List PlaceCall) (text : List ℕ) (failed : Option Error) → new ≡ old ++ calls → new ≡ old ++ Lays text None ∷ Puts failed ∷ [] → PutsSecond calls
puts_second old new calls text failed were puts =
    subst PutsSecond (append_cancel_left old (Lays text None ∷ Puts failed ∷ []) calls (sym puts ∙ were)) tt

pub put_is_printed : PutIsPrinted
put_is_printed old new printed printed' before rows after (Ok done) text failed (same, found, is, (asks, prints)) puts = prints
put_is_printed old new printed printed' before rows after (Err Memory) text failed (asks, nothing, why) puts = absurd (puts_second old new [] text failed asks puts)
put_is_printed old new printed printed' before rows after (Err Output) text failed (same, found, is, (asks, part)) puts = absurd (puts_second old new (Lays found None ∷ Drops ∷ []) text failed asks puts)
put_is_printed old new printed printed' before rows after (Err (Place e)) text failed (same, found, is, inl (asks, nothing)) puts = absurd (puts_second old new (Lays found (Some e) ∷ []) text failed asks puts)
put_is_printed old new printed printed' before rows after (Err (Place e)) text failed (same, found, is, inr (asks, prints)) puts = prints
