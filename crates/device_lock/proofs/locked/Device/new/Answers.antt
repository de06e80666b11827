use Rattle.std.proofs.Common.{◌≡◌, ◌∙◌, None, arith, refl, subst, sym}
use Rattle.seat_lock.specs.Passes.{AreAllOf, LockName}
use Rattle.trail_model.specs.Accounts.{account_of}
use Rattle.trail_model.specs.Lawful.{IsLawful, Trail, party_of_event}
use Rattle.device_lock.specs.Names.{DeviceName, device_named}
use Rattle.device_lock.specs.declared.kept.Fixed.{Fixed}
use Rattle.device_lock.proofs.Entering.{new-lock}
use Rattle.device_lock.proofs.Gathered.{all-of}
use Rattle.device_lock.proofs.locked.Device.new.Goals as goal

pub returns-clause-all : goal.returns-clause-all
returns-clause-all c =
    let d : DeviceName = device_named c.of-first.result.value c.new-lock.result in
    let made = c.in_ok-lock.ensures in
    let same = new-lock c.of-first.result.value c.new-lock.result c.in_ok-lock.lock c.new.result c.new-lock.ensures made.lock.0 (c.new.ensures ∙ sym c.of-first.ensures) in
    all-of d c.in_ok-lock.passes (subst (λ (l : LockName Fixed). AreAllOf party_of_event l c.in_ok-lock.passes) same made.all)
    (λ n low high. let all = made.all.seats in let seats = made.lock.1 in let few = c.requires.workers.1 in (low, omega arith))
    (λ n p home. subst (λ (seen : Trail). IsLawful d.config d.commands seen) (sym (made.new n p home).0) tt)

pub returns-clause-idle : goal.returns-clause-idle
returns-clause-idle c = λ n p home. subst (λ (mine : Trail). (account_of mine).claim ≡ None) (sym (c.in_ok-lock.ensures.new n p home).1) refl
