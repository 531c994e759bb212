-- The job of the command line.
use Rattle.std.proofs.Common.{◌≡◌, ◌∙◌, ◌&&◌, ℕ, refl, sym, ap, subst, inl, inr, Bool, true, false, not, List, [], ◌∷◌, Option, Some, None, codes, Bor, IsTrue}
use Rattle.std.specs.Prelude.{◌⊎◌, cond, find, is_some, option_map}
use Rattle.std.specs.List.{list_any}
use Rattle.clap.specs.Words.{App, HasMatchesOf, Row, Shape, Text, built, fault_of, subcommand_of, subcommand_rows_of}
use Rattle.clap.specs.declared.parser.matches.ArgMatches.{ArgMatches}
use Rattle.clap.specs.Simple.{argument_words, entered, label_of, names_of, rows_at}
use Rattle.clap.specs.Facts.{explicit_source}
use Rattle.clap.specs.Faults.{check_fault, defaults_fault, entered_fault, level_fault, settle_fault, walk_fault}
use Rattle.clap.specs.Takes.{is_given}
use Rattle.clap.specs.Walk.{Held, Names, answers_to, finished, nothing_held, settled, walk, walk_from}
use Rattle.clap.specs.Kinds.{Kinds, check_kinds, or_else}
use Rattle.std.specs.Prelude.{slice_get, map}
use Rattle.std.proofs.lemmas.Option.{slice_get-map}
use Rattle.dlms_words.specs.Words.{IsNoneOf, meter_commands, nth_of, others, requests}
use Rattle.dlms_words.specs.Grammar.{dlms}

-- ---- where no fault is met, a command is

last_none : (a b : Kinds) → or_else a b ≡ [] → b ≡ []
last_none [] b h = h
last_none (k ∷ ks) b h = cc

wanted : (has help wants other : Bool) → wants ≡ true → check_kinds (not has && help) (not has && wants) other ≡ [] → has ≡ true
wanted true help wants other is h = refl
wanted false help false other is h = cc
wanted false true true other is h = cc
wanted false false true other is h = cc

level_wants : (s : Shape) (names : Names) (h : Held) (words : List Text) (has : Bool) (below : Kinds) → s.subcommand_required ≡ true → level_fault s names h words has below ≡ [] → has ≡ true
level_wants s names h words has below needs e =
    let end : Held = (walk s.rules names h words).held in
    let checks : Kinds = check_fault s (finished s.rules end) has in
    let defaults : Kinds = defaults_fault (settled s.rules end).rows s.rules in
    let none : checks ≡ [] = last_none defaults checks (last_none (settle_fault s.rules s.args_override_self end) (or_else defaults checks)
    (last_none below (or_else (settle_fault s.rules s.args_override_self end) (or_else defaults checks)) (last_none (walk_fault s names (walk_from h) words) (or_else below (or_else (settle_fault s.rules s.args_override_self end) (or_else defaults checks))) e))) in
    wanted has (s.arg_required_else_help && not (list_any (λ r. explicit_source r.source) (finished s.rules end))) s.subcommand_required
    (not (s.subcommand_negates_reqs && has) && list_any (λ a. a.required && not (is_given a.id (finished s.rules end))) s.rules) needs none

-- one of these commands is met, with its rows
abbrev pub IsOneOf : List Shape → Option (Text × List Row) → Type 0
IsOneOf [] met = ⊥
IsOneOf (s ∷ shapes) met = ((rows : List Row) × (met ≡ Some (s.name, rows))) ⊎ IsOneOf shapes met

one_tested : (b : Bool) (test : Shape → Bool) (s : Shape) (shapes : List Shape) (words : List Text)
    → (is_some (option_map (λ s. rows_at s words) (find test shapes)) ≡ true → IsOneOf shapes (option_map (λ s. rows_at s words) (find test shapes)))
    → is_some (option_map (λ s. rows_at s words) (cond b (Some s) (find test shapes))) ≡ true
    → IsOneOf (s ∷ shapes) (option_map (λ s. rows_at s words) (cond b (Some s) (find test shapes)))
one_tested true test s shapes words rest h = inl ((rows_at s words).1, refl)
one_tested false test s shapes words rest h = inr (rest h)

one_found : (test : Shape → Bool) (shapes : List Shape) (words : List Text) → is_some (option_map (λ s. rows_at s words) (find test shapes)) ≡ true
    → IsOneOf shapes (option_map (λ s. rows_at s words) (find test shapes))
one_found test [] words h = absurd (cc h)
one_found test (s ∷ shapes) words h = one_tested (test s) test s shapes words (one_found test shapes words) h

one_entered : (a : App) (stop : Option (Text × List Text)) → is_some (entered a stop) ≡ true → IsOneOf a.subs (entered a stop)
one_entered a None h = absurd (cc h)
one_entered a (Some p) h = one_found (λ s. answers_to p.0 (label_of s)) a.subs p.1 h

abbrev made : App
made = built dlms

-- if there was no fault, one of the program's commands was found
pub command_met : (words : List Text) → fault_of dlms words ≡ [] → IsOneOf made.subs (subcommand_of dlms words)
command_met words h =
    let args : List Text = argument_words made words in
    let stop : Option (Text × List Text) = (walk made.top.rules (names_of made) nothing_held args).stopped in
    one_entered made stop (level_wants made.top (names_of made) nothing_held args (is_some (entered made stop)) (entered_fault made stop) refl h)

-- ---- what was met for a command

pub same_some : {A : Type 0} {a b : A} → Some a ≡ Some b → a ≡ b
same_some e = cc

-- what was met has another name
abbrev pub IsNot : Text → Option (Text × List Row) → Type 0
IsNot name met = option_map (λ p. p.0) met ≡ Some name → ⊥

-- there is none if there is not some
pub none_if_not_some : {A : Type 0} (o : Option A) → IsTrue (not (is_some o)) → o ≡ None
none_if_not_some None h = refl
none_if_not_some (Some x) h = cc

-- a condition is not true together with its opposite, and its opposite is true if it is not
pub not_both : (b : Bool) → IsTrue (not b) → IsTrue b → ⊥
not_both true isnt is = cc isnt
not_both false isnt is = cc is

pub untrue : (b : Bool) → (IsTrue b → ⊥) → IsTrue (not b)
untrue true never = absurd (never refl)
untrue false never = refl

-- what was met under a name has rows
pub met_named : (name : Text) (met : Option (Text × List Row)) → option_map (λ p. p.0) met ≡ Some name → (rows : List Row) × (met ≡ Some (name, rows))
met_named name None e = absurd (cc e)
met_named name (Some (other, rows)) e = (rows, ap (λ (n : Text). Some (n, rows)) (same_some e))

other_name : (name : Text) (met found : Option (Text × List Row)) → met ≡ found → IsNot name met → ((rows : List Row) × (found ≡ Some (name, rows))) → ⊥
other_name name met found is not_it has = not_it (ap (option_map (λ p. p.0)) (is ∙ has.1))

-- the command line of a job with another name than the others
pub polls_else : (words : List Text) (met : Option (Text × List Row)) → fault_of dlms words ≡ [] → met ≡ subcommand_of dlms words
    → IsNoneOf meter_commands met → IsNoneOf requests met → IsNoneOf others met
    → (rows : List Row) × (subcommand_of dlms words ≡ Some (codes "poll", rows))
polls_else words met none is meters asks looks =
    let found = subcommand_of dlms words in
    elim (command_met words none) [
      | inl has ↦ absurd (other_name _ met found is meters.0 has)
      | inr rest ↦ elim rest [
        | inl has ↦ absurd (other_name _ met found is meters.1.0 has)
        | inr rest ↦ elim rest [
          | inl has ↦ absurd (other_name _ met found is meters.1.1.0 has)
          | inr rest ↦ elim rest [
            | inl has ↦ absurd (other_name _ met found is meters.1.1.1.0 has)
            | inr rest ↦ elim rest [
              | inl has ↦ absurd (other_name _ met found is meters.1.1.1.1.0 has)
              | inr rest ↦ elim rest [
                | inl has ↦ has
                | inr rest ↦ elim rest [
                  | inl has ↦ absurd (other_name _ met found is meters.1.1.1.1.1.0 has)
                  | inr rest ↦ elim rest [
                    | inl has ↦ absurd (other_name _ met found is asks.0 has)
                    | inr rest ↦ elim rest [
                      | inl has ↦ absurd (other_name _ met found is asks.1.0 has)
                      | inr rest ↦ elim rest [
                        | inl has ↦ absurd (other_name _ met found is asks.1.1.0 has)
                        | inr rest ↦ elim rest [
                          | inl has ↦ absurd (other_name _ met found is asks.1.1.1.0 has)
                          | inr rest ↦ elim rest [
                            | inl has ↦ absurd (other_name _ met found is asks.1.1.1.1.0 has)
                            | inr rest ↦ elim rest [
                              | inl has ↦ absurd (other_name _ met found is asks.1.1.1.1.1.0 has)
                              | inr rest ↦ elim rest [
                                | inl has ↦ absurd (other_name _ met found is looks.0 has)
                                | inr rest ↦ elim rest [
                                  | inl has ↦ absurd (other_name _ met found is looks.1.0 has)
                                  | inr rest ↦ elim rest [
                                    | inl has ↦ absurd (other_name _ met found is looks.1.1.0 has)
                                    | inr rest ↦ elim rest [
                                      | inl has ↦ absurd (other_name _ met found is looks.1.1.1.0 has)
                                      | inr rest ↦ elim rest [
                                        | inl has ↦ absurd (other_name _ met found is looks.1.1.1.1.0 has)
                                        | inr rest ↦ elim rest [
                                          | inl has ↦ absurd (other_name _ met found is looks.1.1.1.1.1.0 has)
                                          | inr rest ↦ elim rest [
                                            | inl has ↦ absurd (other_name _ met found is looks.1.1.1.1.1.1.0 has)
                                            | inr no_more ↦ absurd no_more
                                          ]
                                        ]
                                      ]
                                    ]
                                  ]
                                ]
                              ]
                            ]
                          ]
                        ]
                      ]
                    ]
                  ]
                ]
              ]
            ]
          ]
        ]
      ]
    ]

-- ---- parts of the command line

-- what was found for a command that is this program's
pub matched : (a : App) (words : List Text) (m : ArgMatches) → a ≡ dlms → HasMatchesOf a words m → subcommand_rows_of m ≡ subcommand_of dlms words
matched a words m is has =
    let found : HasMatchesOf dlms words m = subst (λ (b : App). HasMatchesOf b words m) is has in
    (found refl).1

-- there is a match if there is a view of it
pub is_some_map : {A B : Type 0} (f : A → B) (o : Option A) → is_some (option_map f o) ≡ is_some o
is_some_map f None = refl
is_some_map f (Some x) = refl

-- ---- the texts of an option that was given several times

pub nth_none : (place : ℕ) (texts : Option (List Text)) → None ≡ texts → None ≡ nth_of place texts
nth_none place texts e = ap (nth_of place) e

pub nth_some : (place : ℕ) (found : List (Bor Text)) (texts : Option (List Text)) → Some (map (λ v. v.now) found) ≡ texts
    → option_map (λ v. v.now) (slice_get found place) ≡ nth_of place texts
nth_some place found texts e = sym (slice_get-map (λ v. v.now) found place) ∙ ap (nth_of place) e
