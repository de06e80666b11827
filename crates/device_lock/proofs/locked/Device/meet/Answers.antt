use Rattle.std.proofs.Common.{subst, sym}
use Rattle.seat_lock.specs.Passes.{AreAllOf, LockName}
use Rattle.trail_model.specs.Lawful.{party_of_event}
use Rattle.device_lock.specs.declared.kept.Fixed.{Fixed}
use Rattle.device_lock.proofs.Entering.{same-lock}
use Rattle.device_lock.proofs.Gathered.{all-met}
use Rattle.device_lock.proofs.locked.Device.meet.Goals as goal

pub meet-requires : goal.meet-requires
meet-requires g c =
    let same = same-lock c.args.self.now c.self.inside.first.value c.self.inside.lock c.deref.result.now c.self.invariant c.self.view_is c.deref.ensures in
    subst (λ (l : LockName Fixed). AreAllOf party_of_event l c.args.passes.now) (sym same) c.requires.all

pub returns-clause-all : goal.returns-clause-all
returns-clause-all g c =
    let same = same-lock c.args.self.now c.self.inside.first.value c.self.inside.lock c.deref.result.now c.self.invariant c.self.view_is c.deref.ensures in
    all-met c.args.self.now _ c.args.passes.now c.meet.new.passes same c.requires c.meet.ensures.all c.meet.ensures.trail
