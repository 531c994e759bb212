use Rattle.std.proofs.Common.{rules, ◌≡◌, refl, inl, inr, Option, Some, None, Bool, true, false, IsTrue, is_some, codes, not, subst}
use Rattle.clap.specs.Words.{Text, first_of, subcommand_rows_of}
use Rattle.dlms_words.specs.Words.{IsSaid}
use Rattle.dlms_words.proofs.WordLemmas.{met_named, none_if_not_some, not_both, untrue}
use Rattle.dlms_words.proofs.conflicts.collects_nothing.Goals as goal

gone : {A : Type 0} (b : Bool) (o : Option A) → b ≡ true → b ≡ is_some o → o ≡ None → ⊥
gone b None is same none = let both : true ≡ false = subst (λ (x : Bool). x ≡ false) is same in cc both
gone b (Some x) is same none = cc none

pub returns-then-not-gets : goal.returns-then-not-gets
returns-then-not-gets c =
    let named = met_named (codes "collect") (subcommand_rows_of c.args.matches.now) (search rules) in
    let polls = c.is_named-polls.ensures named.0 named.1 in
    let gets = c.is_named-gets.ensures named.0 named.1 in
    let said = subst (λ (said : Option Text). IsSaid said c.is_given-compares.result) (c.value_for.ensures named.0 named.1) c.is_given-compares.ensures in (
      λ nothing. (
        named.0,
        named.1,
        none_if_not_some (first_of (codes "readings") named.0) (subst (λ (b : Bool). IsTrue (not b)) polls (search rules)),
        none_if_not_some (first_of (codes "get") named.0) (subst (λ (b : Bool). IsTrue (not b)) gets (search rules)),
        λ given. not_both c.is_given-compares.result nothing (said.1 given),
      ),
      λ none. untrue c.is_given-compares.result (λ is. none.4 ((subst (λ (said : Option Text). IsSaid said c.is_given-compares.result) (c.value_for.ensures none.0 none.1) c.is_given-compares.ensures).0 is)),
    )

pub returns-else-not-gets : goal.returns-else-not-gets
returns-else-not-gets c = (
  λ nothing. cc,
  λ none. elim c.if-not-gets.either [
    | inl gets ↦ absurd (gone c.is_named-gets.result (first_of (codes "get") none.0) gets.1 (c.is_named-gets.ensures none.0 none.1) none.3)
    | inr polls ↦ absurd (gone c.is_named-polls.result (first_of (codes "readings") none.0) polls (c.is_named-polls.ensures none.0 none.1) none.2)
  ],
)
