use Rattle.trail_model.specs.Lawful.{world_of}
use Rattle.core_model.proofs.Allowing.{take-allowed, take-answer}
use Rattle.core_model.proofs.causes.takes_by_parts.Goals as goal

pub returns : goal.returns
returns c = record {
  answer = λ c commands p trail by cid stand. take-answer c p (world_of c trail) by cid stand.ties;
  allowed = take-allowed;
}
