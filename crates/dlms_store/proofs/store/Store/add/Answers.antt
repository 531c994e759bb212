use Rattle.std.proofs.Common.{◌≡◌, ◌++◌, [], subst, sym}
use Rattle.dlms_store.specs.World.StoreWorld.{Runs}
use Rattle.dlms_store.specs.World.StoreStep.{Adds, AddsBehind, Settles}
use Rattle.dlms_store.specs.Fitting.{StoreFits, Moves}
use Rattle.dlms_store.proofs.Adding.{behind}
use Rattle.dlms_store.proofs.Keeping.{running, refuses}
use Rattle.dlms_store.proofs.store.Store.add.Goals as goal

pub returns-in-Err-clause-run : goal.returns-in-Err-clause-run
returns-in-Err-clause-run g c before fits = refuses before c.args.self.now (λ h. g.met.P.Pages.rules c.args.self.now.device h) fits

pub returns-then-not-has_number_for-clause-run : goal.returns-then-not-has_number_for-clause-run
returns-then-not-has_number_for-clause-run g c before fits = refuses before c.args.self.now (λ h. g.met.P.Pages.rules c.args.self.now.device h) fits

pub returns-clause-run : goal.returns-clause-run
returns-clause-run g c before fits =
    let store = c.args.self.now in
    let mid = c.make_room.new.self in
    let e = c.args.event in (
      λ room.
          let same : mid ≡ store = (c.make_room.ensures.kept room).1 in
          subst (λ x. Moves (Adds e) before x c.push.new.self) same
          (c.push.ensures.run before c.in_ok-make_room.ensures.runs (subst (λ x. StoreFits x before) (sym same) fits)),
      λ none. running (AddsBehind e) before store _ c.if-self.false fits (λ s p is has.
          let first : Moves Settles (Runs s p) store mid = c.in_ok-make_room.ensures.run none (Runs s p) (is, has) in
          let now = subst (StoreFits mid) first.next first.fits in
          behind s p e store mid _ first (c.push.ensures.run (Runs (s ++ p) []) now.0.runs now)),
    )
