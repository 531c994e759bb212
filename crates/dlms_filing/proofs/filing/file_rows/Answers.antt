use Rattle.std.proofs.Common.{rules, string_bytes, ◌≡◌, ◌∙◌, ◌++◌, drop, length}
use Rattle.dlms_headend.specs.Lines.{IsFile, text_of}
use Rattle.dlms_headend.specs.Merged.{added, merged}
use Rattle.dlms_filing.proofs.FilingLemmas.{files, grown, news_in}
use Rattle.dlms_filing.proofs.filing.file_rows.Goals as goal

pub returns : goal.returns
returns g c =
    let first = string_bytes c.in_ok-text.text in
    let text = string_bytes c.add_rows.new.text in
    let before = c.args.readings.now in
    let rows = c.args.rows.now in
    let same : c.add_rows.new.readings ≡ merged before rows = search rules in
    let old : IsFile first before = search rules in
    let whole : text ≡ first ++ text_of (added before rows) = search rules in
    let is : IsFile text c.add_rows.new.readings = grown before rows c.add_rows.new.readings first text old same whole (search rules) in
    let count : c.bytes_behind-news.result.now ≡ drop (length first) text = search rules in
    let news : c.bytes_behind-news.result.now ≡ text_of (added before rows) = count ∙ news_in before rows first text whole in
    files (g.F.Filing.asked c.args.place.now) (g.F.Filing.asked c.give.new.place) (g.O.Output.printed c.args.output.now) (g.O.Output.printed c.give.new.output) before rows c.add_rows.new.readings text c.bytes_behind-news.result.now c.give.result same is news (search rules)
