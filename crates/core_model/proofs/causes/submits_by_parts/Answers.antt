use Rattle.trail_model.specs.Lawful.{world_of}
use Rattle.core_model.proofs.Allowing.{submit-allowed, submit-cause}
use Rattle.core_model.proofs.causes.submits_by_parts.Goals as goal

pub returns : goal.returns
returns c = record {
  cause = λ c commands p trail by cid stand. submit-cause c commands p (world_of c trail) by cid stand.ties;
  allowed = submit-allowed;
}
