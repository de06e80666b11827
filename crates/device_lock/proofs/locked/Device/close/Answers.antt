use Rattle.std.proofs.Common.{subst, sym}
use Rattle.seat_lock.specs.Passes.{AreAllOf, LockName, made_by, seen_by}
use Rattle.seat_lock.specs.Trails.{FitsTrail}
use Rattle.trail_model.specs.Lawful.{party_of_event}
use Rattle.device_core.specs.Recorded.{Recorded}
use Rattle.device_lock.specs.declared.kept.Fixed.{Fixed}
use Rattle.device_lock.proofs.Entering.{same-lock}
use Rattle.device_lock.proofs.locked.Device.close.Goals as goal

pub close-requires : goal.close-requires
close-requires c =
    let same = same-lock c.args.self c.self.inside.first.value c.self.inside.lock c.into_inner.result c.self.invariant c.self.view_is c.into_inner.ensures in
    subst (λ (l : LockName Fixed). AreAllOf party_of_event l c.args.passes) (sym same) c.requires.all

pub returns-clause-fits : goal.returns-clause-fits
returns-clause-fits c = λ n p home. subst (λ (r : Recorded). FitsTrail party_of_event n (seen_by p) (made_by p) r.trail) (sym c.into_core.ensures) (c.close.ensures.fits n p home)
