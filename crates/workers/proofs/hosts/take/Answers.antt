use Rattle.std.proofs.Common.{◌≡◌, ℕ, ◌≤◌, [], ◌∷◌, refl, sym, subst}
use Rattle.cp_base.specs.declared.limits.TheConstants.{MAX_HOSTS}
use Rattle.history_model.specs.Plain.{Takes}
use Rattle.workers.proofs.Furthering.{further-same}
use Rattle.workers.proofs.Doing.{back-again, goes-on, none-now, replied-one, then-one}
use Rattle.workers.proofs.hosts.take.Goals as goal

pub loop-init : goal.loop-init
loop-init g c = record { further = further-same 0 c.args.device.now c.args.pass c.requires.pass c.requires.idle }

pub take-requires-clause-pass : goal.take-requires-clause-pass
take-requires-clause-pass g c = c.loop.invariant.further.back.of_device

pub take-requires-clause-host : goal.take-requires-clause-host
take-requires-clause-host g c = subst (λ (n : ℕ). n ≤ MAX_HOSTS) (sym c.loop.invariant.further.back.party) c.requires.host

pub returns-in-Reply : goal.returns-in-Reply
returns-in-Reply g c =
    let d = c.args.device.now in
    then-one d c.args.pass c.loop.pass c.in-Reply.pass (Takes c.args.cid ∷ []) c.loop.invariant.further
    (replied-one d c.loop.pass c.in-Reply.pass c.args.cid _ c.loop.invariant.further.idle c.in-Reply.ensures)

pub wait-pass-requires-clause-pass : goal.wait-pass-requires-clause-pass
wait-pass-requires-clause-pass g c κs within = c.in-Refused.ensures.turn.back.of_device

pub wait-pass-requires-clause-idle : goal.wait-pass-requires-clause-idle
wait-pass-requires-clause-idle g c κs within = c.in-Refused.ensures.turn.idle c.loop.invariant.further.idle

pub loop-preserved : goal.loop-preserved
loop-preserved g c =
    let d = c.args.device.now in
    let back = c.in-Refused.ensures.turn in
    record {
      further = goes-on d c.args.pass c.in-Refused.back c.wait-pass.result
          (back-again d c.args.pass c.loop.pass c.in-Refused.back c.loop.invariant.further back)
          c.wait-pass.ensures;
    }

pub unreachable-requires : goal.unreachable-requires
unreachable-requires g c =
    c.in_default.not-NotYet
    (none-now c.args.device.now c.args.pass c.loop.pass c.in-Refused.back c.args.cid c.in-Refused.cause c.loop.invariant.further c.in-Refused.ensures c.requires.outstanding)
