use Rattle.std.proofs.Common.{sym, ◌∙◌}
use Rattle.std.proofs.lemmas.Bool.{true≢false}
use Rattle.trail_model.specs.Footprints.{execution_of, writes_of}
use Rattle.trail_model.proofs.Carrying.{byte-stays, effect-local, tables-stay}
use Rattle.trail_model.proofs.Regions.{has_byte-some, in-runs}
use Rattle.cp_base.specs.Runs.{runs_of}
use Rattle.trail_model.proofs.effects.effects_are_local.Goals as goal

pub returns : goal.returns
returns c = record {
  local = effect-local;
  frame = λ c s cmd fits e moves t k out. byte-stays c s cmd fits e moves t k
      (λ there. true≢false (sym (has_byte-some (runs_of (writes_of c (execution_of s cmd).ranges cmd)) t k (in-runs (writes_of c (execution_of s cmd).ranges cmd) t k there)) ∙ out));
  tables = tables-stay;
}
