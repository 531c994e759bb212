use Rattle.std.proofs.Common.{◌≡◌, ◌<◌, ◌-◌, ℕ, List, [], ap, arith, length, rules, subst, sym}
use Rattle.std.specs.Prelude.{min, slice_range}
use Rattle.std.proofs.lemmas.List.{length-drop, length-take}
use Rattle.dlms_profile.specs.declared.rows.Row.{Row}
use Rattle.dlms_profile.proofs.rows.Rows.by_entry.Goals as goal

-- a range that begins before its end, and before that of the list, holds something
some : (rows : List Row) (first last : ℕ) → first < min last (length rows) → slice_range rows first last ≡ [] → ⊥
some rows first last lt none =
    let is : length (slice_range rows first last) ≡ 0 = ap length none in
    grind (arith, length-take, length-drop)

pub returns-clause-memory : goal.returns-clause-memory
returns-clause-memory g c = λ _ none.
    some c.args.self.now.items (c.args.first - 1) c.end_of-end.result (search rules) (subst (λ (end : ℕ). slice_range c.args.self.now.items (c.args.first - 1) end ≡ []) (sym c.end_of-end.ensures) none)
