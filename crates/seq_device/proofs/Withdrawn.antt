-- What the sequential device answers where there is memory does not tell a withdrawn command.
use Rattle.std.proofs.Common.{◌≡◌, ◌∙◌, Bool, subst, sym, ap}
use Rattle.std.specs.Prelude.{◌≢◌}
use Rattle.std.proofs.lemmas.Bool.{true≢false}
use Rattle.cp_base.specs.Answer.{Answer}
use Rattle.cp_base.specs.Configuration.{Configuration}
use Rattle.cp_base.specs.declared.commands.Command.{Command}
use Rattle.cp_base.specs.declared.replies.Status.{Status}
use Rattle.cp_base.specs.declared.replies.Status.TheVariants as status
use Rattle.device_model.proofs.Told.{is_settled, outcome_tells}
use Rattle.device_model.specs.Execution.{Outcome}
use Rattle.device_model.specs.State.{State}
use Rattle.device_model.specs.Step.{outcome_of}
use Rattle.seq_device.specs.Standing.{IsDone, Standing}

pub outcome_other : (c : Configuration) (s : State) (cmd : Command) → (outcome_of c s cmd).answer.status ≢ status.Aborted
outcome_other c s cmd is = true≢false (sym (outcome_tells c s cmd) ∙ ap is_settled is)

-- the same of what is carried out or refused
pub done_other : (old : Standing) (cmd : Command) (answer : Answer) (new : Standing) → IsDone old cmd answer new → answer.status ≢ status.Aborted
done_other old cmd answer new done = subst (λ (outcome : Outcome). outcome.answer.status ≢ status.Aborted) done.0 (outcome_other old.config old.state cmd)
