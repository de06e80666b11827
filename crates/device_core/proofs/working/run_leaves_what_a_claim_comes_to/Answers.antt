-- The local effect on the claim's pieces is that on the work's.
use Rattle.std.proofs.Common.{◌≡◌, ◌∙◌, ap}
use Rattle.trail_model.specs.Footprints.{execution_of}
use Rattle.trail_model.specs.LocalEffects.{LocalEffect, local_effect}
use Rattle.trail_model.specs.World.{effect_of_claim}
use Rattle.job_run.specs.Works.{pieces_after, region_bytes}
use Rattle.device_core.proofs.working.run_leaves_what_a_claim_comes_to.Goals as goal

pub returns : goal.returns
returns v c claim work done own runs =
    let left = runs own.state own.work in
    let same : local_effect c (execution_of own.state work.command.value) (region_bytes work.pieces.items) work.command.value ≡ effect_of_claim c claim =
    λ i. local_effect c (own.execution i) (own.pieces i) (own.command i) in
    record {
      answer = left.answer ∙ ap (λ (e : LocalEffect). e.answer) same;
      pieces = left.pieces ∙ (λ i. pieces_after (same i) (own.pieces i));
    }
