-- The expected texts, one after another, each over its own connection.
use Rattle.std.proofs.Common.{◌≡◌, ◌∙◌, ◌<◌, ◌+◌, ap, sym, refl, subst, ℕ, Bool, true, false, List, [], ◌∷◌, ◌++◌, length, take, drop, get_or, Option, Ok, Err, append_assoc}
use Rattle.std.proofs.lemmas.List.{take_more, take-append-drop}
use Rattle.dlms_ends.specs.Moments.{Moment}
use Rattle.dlms_identity.specs.declared.showing.Expected.{Expected}
use Rattle.dlms_lines.specs.Watching.{Sight}
use Rattle.dlms_lines.specs.declared.fault.FieldFault.{FieldFault}
use Rattle.dlms_polling.specs.Calling.{Aim, Knows, KnowsEach, KnowsFront, KnowsNoMore, Renews}
use Rattle.dlms_polling.specs.Calling.KnowsEach.{OneText}
use Rattle.dlms_polling.specs.Calling.KnowsNoMore.{NotInTime, NotRenewed, NotShown}

-- the texts before this one are shown
front_at : (aim : Aim) (old mid : Option (List Moment)) (v w : Option (List Sight)) (i : ℕ) (d : Expected) → i < length aim.expected → KnowsEach aim old v (take i aim.expected) mid w → KnowsFront aim old mid v w (get_or aim.expected i d)
front_at aim old mid v w i d lt each = record {
  front = take i aim.expected;
  rest = drop (i + 1) aim.expected;
  all = sym (take-append-drop (i + 1) aim.expected) ∙ ap (λ (front : List Expected). front ++ drop (i + 1) aim.expected) (take_more aim.expected i d lt) ∙ append_assoc (take i aim.expected) (get_or aim.expected i d ∷ []) (drop (i + 1) aim.expected);
  each = each;
}

-- so is this one, which was asked for by a slice of one
shown : (aim : Aim) (old new : Option (List Moment)) (one : Expected) (texts : List Expected) (u : Unit {0}) → texts ≡ one ∷ [] → Knows aim texts old new (Ok u) → Knows {T = Unit {0}} aim (one ∷ []) old new (Ok tt)
shown aim old new one texts u is knows = subst (λ (these : List Expected). Knows {T = Unit {0}} aim these old new (Ok tt)) is knows

pub one_more : (aim : Aim) (old mid known new : Option (List Moment)) (v w x : Option (List Sight)) (i : ℕ) (d : Expected) (texts : List Expected) (u : Unit {0}) (found : Bool) → i < length aim.expected → KnowsEach aim old v (take i aim.expected) mid w
    → texts ≡ get_or aim.expected i d ∷ [] → Knows aim texts mid known (Ok u) → Renews aim.address known new w x (Ok found) → found ≡ true → KnowsEach aim old v (take (i + 1) aim.expected) new x
one_more aim old mid known new v w x i d texts u found lt each one knows renews is =
    subst (λ (front : List Expected). KnowsEach aim old v front new x) (sym (take_more aim.expected i d lt))
    (OneText (take i aim.expected) (get_or aim.expected i d) mid known new w x each (shown aim mid known (get_or aim.expected i d) texts u one knows) (subst (λ (b : Bool). Renews aim.address known new w x (Ok b)) is renews))

pub not_shown : (aim : Aim) (old mid new : Option (List Moment)) (v w : Option (List Sight)) (i : ℕ) (d : Expected) (texts : List Expected) (fault : FieldFault) → i < length aim.expected → KnowsEach aim old v (take i aim.expected) mid w
    → texts ≡ get_or aim.expected i d ∷ [] → Knows {T = Unit {0}} aim texts mid new (Err fault) → KnowsNoMore aim old new v w (Err fault)
not_shown aim old mid new v w i d texts fault lt each one knows =
    NotShown (get_or aim.expected i d) mid (front_at aim old mid v w i d lt each) fault (subst (λ (these : List Expected). Knows {T = Unit {0}} aim these mid new (Err fault)) one knows) refl

pub not_in_time : (aim : Aim) (old mid known new : Option (List Moment)) (v w x : Option (List Sight)) (i : ℕ) (d : Expected) (texts : List Expected) (u : Unit {0}) (found : Bool) → i < length aim.expected → KnowsEach aim old v (take i aim.expected) mid w
    → texts ≡ get_or aim.expected i d ∷ [] → Knows aim texts mid known (Ok u) → Renews aim.address known new w x (Ok found) → found ≡ false → KnowsNoMore aim old new v x (Ok false)
not_in_time aim old mid known new v w x i d texts u found lt each one knows renews is =
    NotInTime (get_or aim.expected i d) mid known w (front_at aim old mid v w i d lt each) (shown aim mid known (get_or aim.expected i d) texts u one knows) (subst (λ (b : Bool). Renews aim.address known new w x (Ok b)) is renews) refl

pub not_renewed : (aim : Aim) (old mid known new : Option (List Moment)) (v w x : Option (List Sight)) (i : ℕ) (d : Expected) (texts : List Expected) (u : Unit {0}) (fault : FieldFault) → i < length aim.expected → KnowsEach aim old v (take i aim.expected) mid w
    → texts ≡ get_or aim.expected i d ∷ [] → Knows aim texts mid known (Ok u) → Renews aim.address known new w x (Err fault) → KnowsNoMore aim old new v x (Err fault)
not_renewed aim old mid known new v w x i d texts u fault lt each one knows renews =
    NotRenewed (get_or aim.expected i d) mid known w (front_at aim old mid v w i d lt each) (shown aim mid known (get_or aim.expected i d) texts u one knows) fault renews refl
