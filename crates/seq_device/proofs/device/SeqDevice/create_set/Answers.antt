-- A new set is told with its number, and a refused one with its status.
use Rattle.std.proofs.Common.{refl, subst, ap, ◌∙◌}
use Rattle.cp_base.specs.Answer.{answer_of}
use Rattle.cp_base.specs.declared.commands.Command.TheVariants as command
use Rattle.cp_base.specs.declared.replies.Status.TheVariants as status
use Rattle.device_model.specs.Execution.{tells}
use Rattle.device_model.specs.State.{State}
use Rattle.seq_device.specs.Standing.{Standing, IsDone}
use Rattle.seq_device.proofs.NewSets.{set_made, set_refused}
use Rattle.seq_device.proofs.device.SeqDevice.create_set.Goals.{in-Ok, in-Err}
use Rattle.seq_device.proofs.device.SeqDevice.create_set.Goals as goal

pub returns-clause-done : goal.returns-clause-done
returns-clause-done c =
    let config = c.self.inside.config in
    let state : State = record { contents = c.self.inside.flat; slots = c.self.inside.slots; sets = c.self.inside.sets } in
    let new : Standing = record { config = config; state = record state { sets = c.create.new.self } } in
    let ranges = c.args.ranges.now in
    let answer = answer_of c.match-create.result in
    subst (λ (d : Standing). IsDone d (command.SetCreate ranges) answer new) c.self.view_is (
      elim c.match-create.branch [
        | in-Ok w ↦
            let told = ap answer_of w.result-is ∙ w.told.ensures ∙ ap (λ n. tells status.Ok n) w.from.ensures in
            set_made config state ranges w.in-Ok.number answer c.create.new.self w.in-Ok.ensures.checked w.in-Ok.ensures.number told w.in-Ok.ensures.added
        | in-Err w ↦
            let told = ap answer_of w.result-is ∙ w.only.ensures in
            set_refused config state ranges w.in-Err.status answer c.create.new.self w.in-Err.ensures.checked told w.in-Err.ensures.unchanged
      ],
      refl,
    )
