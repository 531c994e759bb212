-- The layers of the global and the dedicated key: their calls are runs of them, and they know one title of the meter.
use Rattle.std.proofs.Common.{◌≡◌, ◌∙◌, refl, sym, subst, append-nil, ℕ, Bool, true, false, cond, List, [], ◌++◌, Option, Some, None}
use Rattle.std.proofs.Common.{Result}
use Rattle.std.specs.Prelude.{All}
use Rattle.std.specs.Str.{bytes_eq}
use Rattle.std.proofs.lemmas.List.Elements.{All-nil, All-cons}
use Rattle.dlms_security.specs.Run.{Event as SecurityCall, Learns}
use Rattle.dlms_security.specs.Security.{SecurityState, after_learn}
use Rattle.dlms_secured.specs.Made.{Made, Both, under, through, taught, taught_by}
use Rattle.dlms_secured.specs.Run.{IsNoStop, IsLayer, IsTitled}
use Rattle.dlms_secured.specs.declared.fault.SecuredFault.{SecuredFault}
use Rattle.dlms_secured.proofs.MadeLemmas.{Led, led_none, Sound, steps_append}

pub idle_layer : (d : Option SecurityState) → IsLayer d [] d
idle_layer None = refl
idle_layer (Some d) = refl

pub layer_then : (xs ys : List SecurityCall) (a b c : Option SecurityState) → IsLayer a xs b → IsLayer b ys c → IsLayer a (xs ++ ys) c
layer_then xs ys None None None h k = subst (λ (l : List SecurityCall). l ++ ys ≡ []) (sym h) k
layer_then xs ys None None (Some c) h k = absurd k
layer_then xs ys None (Some b) c h k = absurd h
layer_then xs ys (Some a) None c h k = absurd h
layer_then xs ys (Some a) (Some b) None h k = absurd k
layer_then xs ys (Some a) (Some b) (Some c) h k = steps_append xs ys a b c h k

pub same_titled : (d : Option SecurityState) (peer other : Option (List ℕ)) → other ≡ peer → IsTitled d peer → IsTitled d other
same_titled None peer other e h = tt
same_titled (Some d) peer other e h = λ title is. e ∙ h title is

-- what both layers make: their calls are runs of them, and teach no title
pub record Layered {A : Type 0} (s : SecurityState) (d : Option SecurityState) (m : Both A) : Type 0 where
  pub steps : Led s m.calls m.security
  pub layer : IsLayer d m.session m.dedicated
  pub still : All IsNoStop m.session
  pub peer : m.security.peer ≡ s.peer
  pub titled : (known : Option (List ℕ)) → IsTitled d known → IsTitled m.dedicated known

pub under_layered : {A : Type 0} (s : SecurityState) (d : Option SecurityState) (m : Made A) → Sound s m → m.security.peer ≡ s.peer → Layered s d (under d m)
under_layered s d m sound peer =
    record { steps = sound; layer = idle_layer d; still = All-nil IsNoStop; peer = peer; titled = λ known h. h }

pub through_layered : {A : Type 0} (s : SecurityState) (d : Option SecurityState) (make : SecurityState → Made A) → ((t : SecurityState) → Sound t (make t))
    → ((t : SecurityState) → (make t).security.peer ≡ t.peer) → Layered s d (through s d make)
through_layered s None make sound peer = under_layered s None (make s) (sound s) (peer s)
through_layered s (Some d) make sound peer = record {
  steps = led_none s;
  layer = (sound d).steps;
  still = (sound d).unstopped;
  peer = refl;
  titled = λ known h title e. h title (sym (peer d) ∙ e);
}

-- one of the layers made it
pub through_one : {A : Type 0} (s : SecurityState) (d : Option SecurityState) (make : SecurityState → Made A) (r : Result A SecuredFault)
    (P : List SecurityCall → Type 0) → ((t : SecurityState) → (make t).result ≡ r → P (make t).calls) → (through s d make).result ≡ r
    → P ((through s d make).calls ++ (through s d make).session)
through_one s None make r P f e = subst P (sym (append-nil (make s).calls)) (f s e)
through_one s (Some d) make r P f e = f d e

pub through_test : {A : Type 0} (s : SecurityState) (d : Option SecurityState) (make : SecurityState → Made A) (r : Result A SecuredFault) (P : Type 0)
    → ((t : SecurityState) → (make t).result ≡ r → P) → (through s d make).result ≡ r → P
through_test s None make r P f e = f s e
through_test s (Some d) make r P f e = f d e

-- ---- the layer of the dedicated key learns the title

pub taught_layer : (title : List ℕ) (d : Option SecurityState) → IsLayer d (taught_by title d) (taught title d)
taught_layer title None = refl
taught_layer title (Some d) = (after_learn d d.peer title, refl, refl)

pub taught_still : (title : List ℕ) (d : Option SecurityState) → All IsNoStop (taught_by title d)
taught_still title None = All-nil IsNoStop
taught_still title (Some d) = All-cons IsNoStop (Learns title) [] tt (All-nil IsNoStop)

learn_titled : (title : List ℕ) (d : SecurityState) (known : Option (List ℕ)) (peer : Option (List ℕ)) → d.peer ≡ known
    → ((other : List ℕ) → d.peer ≡ Some other → peer ≡ Some other) → peer ≡ Some title → (other : List ℕ)
    → (after_learn d known title).peer ≡ Some other → peer ≡ Some other
learn_titled title d (Some is) peer e h new other same = h other same
learn_titled title d None peer e h new other same = by_test (bytes_eq title d.own) same
  where
    by_test : (b : Bool) → (cond b d (record d { peer = Some title })).peer ≡ Some other → peer ≡ Some other
    by_test true same = h other same
    by_test false same = new ∙ same

pub taught_titled : (title : List ℕ) (d : Option SecurityState) (peer : Option (List ℕ)) → IsTitled d peer → peer ≡ Some title
    → IsTitled (taught title d) peer
taught_titled title None peer h new = tt
taught_titled title (Some d) peer h new = learn_titled title d d.peer peer refl h new
