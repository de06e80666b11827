use Rattle.std.proofs.Common.{◌≡◌, ℕ, ◌%◌, ◌/◌, ◌<◌, List, OnOk, length, mod-lt, subst, sym}
use Rattle.history_model.specs.Plain.{PlainPart}
use Rattle.step_driver.specs.Turns.{IsDoneBy, listed}
use Rattle.step_driver.proofs.turns.step.Goals as goal

pub perform-requires-clause-number : goal.perform-requires-clause-number
perform-requires-clause-number c =
    let d = c.args.running.now in
    let parts = c.args.parts.now.items in
    let number : c.choose-number.result.0 ≡ c.args.choices.now % length (listed c.args.workers d parts) =
    subst (λ (ps : List PlainPart). c.choose-number.result.0 ≡ c.args.choices.now % length (listed c.args.workers d ps)) c.deref.ensures.value c.choose-number.ensures.chosen in
    subst (λ (n : ℕ). n < length (listed c.args.workers d parts)) (sym number) (mod-lt c.args.choices.now c.requires.some)

pub returns-clause-done : goal.returns-clause-done
returns-clause-done c =
    let d = c.args.running.now in
    let parts = c.args.parts.now.items in
    let number : c.choose-number.result.0 ≡ c.args.choices.now % length (listed c.args.workers d parts) =
    subst (λ (ps : List PlainPart). c.choose-number.result.0 ≡ c.args.choices.now % length (listed c.args.workers d ps)) c.deref.ensures.value c.choose-number.ensures.chosen in
    subst (λ (n : ℕ). OnOk c.perform.result (IsDoneBy n c.args.workers d c.perform.new.running parts c.perform.new.parts.items)) number c.perform.ensures.done
