use Rattle.std.proofs.Common.{◌≡◌, ◌∙◌, ℕ, ◌<◌, ◌≤◌, List, [], ◌∷◌, refl, sym, ap, subst}
use Rattle.std.specs.Arc.{arc_value}
use Rattle.std.specs.List.{Contains}
use Rattle.cp_base.specs.declared.commands.Command.{Command}
use Rattle.cp_base.specs.declared.limits.TheConstants.{MAX_HOSTS}
use Rattle.history_model.specs.Plain.{PlainItem, Sends}
use Rattle.seat_lock.specs.Passes.{party_of}
use Rattle.device_lock.specs.Passes.{IsIdle}
use Rattle.workers.specs.Further.{IsFurther, cids_by}
use Rattle.workers.proofs.Furthering.{further-same}
use Rattle.workers.proofs.Doing.{back-again, placed-one, refused-now, then-one}
use Rattle.workers.proofs.hosts.send.Goals as goal

pub loop-init : goal.loop-init
loop-init g c = record { further = further-same 0 c.args.device.now c.args.pass c.requires.pass c.requires.idle; same = refl }

pub submit-requires-clause-pass : goal.submit-requires-clause-pass
submit-requires-clause-pass g c = c.loop.invariant.further.back.of_device

pub submit-requires-clause-host : goal.submit-requires-clause-host
submit-requires-clause-host g c = subst (λ (n : ℕ). n ≤ MAX_HOSTS) (sym c.loop.invariant.further.back.party) c.requires.host

pub returns-in-Placed : goal.returns-in-Placed
returns-in-Placed g c =
    let d = c.args.device.now in
    let placed : IsFurther 0 d c.loop.pass c.in-Placed.pass (Sends c.args.cid (arc_value c.loop.command) ∷ []) =
    placed-one d c.loop.pass c.in-Placed.pass c.args.cid c.in-Placed.place (arc_value c.loop.command) c.loop.invariant.further.idle c.in-Placed.ensures in
    subst (λ (cmd : Command). IsFurther 0 d c.args.pass c.in-Placed.pass (Sends c.args.cid cmd ∷ [])) c.loop.invariant.same
    (then-one d c.args.pass c.loop.pass c.in-Placed.pass (Sends c.args.cid (arc_value c.loop.command) ∷ []) c.loop.invariant.further placed)

pub loop-preserved : goal.loop-preserved
loop-preserved g c = record {
  further = back-again c.args.device.now c.args.pass c.loop.pass c.in-Refused.back c.loop.invariant.further c.in-Refused.ensures.0.turn;
  same = c.in-Refused.ensures.1 ∙ c.loop.invariant.same;
}

pub unreachable-requires : goal.unreachable-requires
unreachable-requires g c =
    c.in_default.not-Spent
    (refused-now c.args.device.now c.args.pass c.loop.pass c.in-Refused.back c.args.cid c.in-Refused.cause c.loop.invariant.further c.in-Refused.ensures.0 c.requires.room c.requires.free)
