use Rattle.std.proofs.Common.{◌≡◌, ◌≤◌, inl, inr, length, sym, subst}
use Rattle.std.specs.Prelude.{◌⊎◌}
use Rattle.nvmecp.specs.Ends.{EndsOn}
use Rattle.nvmecp.specs.Words.{HasWorkers, task_of}
use Rattle.nvmecp.specs.declared.ending.Ending.TheVariants as ending
use Rattle.nvmecp.specs.declared.words.Asked.{Asked}
use Rattle.nvmecp.proofs.Endings.{no_denial}
use Rattle.nvmecp.proofs.words.Asked.answer.Goals as goal

pub returns-in-Step-clause-ends : goal.returns-in-Step-clause-ends
returns-in-Step-clause-ends g c =
    let input = c.args.input.now.items in
    subst (λ (a : Asked). EndsOn ((task_of a).Answers input) ((task_of a).Refuses input) ((task_of a).Denies input) g.K.Sink.held g.K.Sink.faults c.args.sink.now c.answer.new.sink c.answer.result)
    (sym c.in-Step.is) c.answer.ensures.ends

pub returns-in-Step-clause-accepted : goal.returns-in-Step-clause-accepted
returns-in-Step-clause-accepted g c =
    subst (λ (a : Asked). (task_of a).Accepts c.args.input.now.items → (c.answer.result ≡ ending.Refused) ⊎ (c.answer.result ≡ ending.Denied) → ⊥) (sym c.in-Step.is)
    (λ accepted other. elim other [
      | inl refused ↦ c.answer.ensures.accepted accepted refused
      | inr denied ↦ no_denial _ _ g.K.Sink.held g.K.Sink.faults c.args.sink.now c.answer.new.sink c.answer.result c.answer.ensures.ends denied
    ])

pub returns-in-Step-clause-rejected : goal.returns-in-Step-clause-rejected
returns-in-Step-clause-rejected g c =
    subst (λ (a : Asked). (task_of a).Rejects c.args.input.now.items → (c.answer.result ≡ ending.Done) ⊎ (c.answer.result ≡ ending.Denied) → ⊥) (sym c.in-Step.is)
    (λ rejected other. elim other [
      | inl done ↦ c.answer.ensures.rejected rejected done
      | inr denied ↦ no_denial _ _ g.K.Sink.held g.K.Sink.faults c.args.sink.now c.answer.new.sink c.answer.result c.answer.ensures.ends denied
    ])

pub returns-in-Asm-clause-ends : goal.returns-in-Asm-clause-ends
returns-in-Asm-clause-ends g c =
    let input = c.args.input.now.items in
    subst (λ (a : Asked). EndsOn ((task_of a).Answers input) ((task_of a).Refuses input) ((task_of a).Denies input) g.K.Sink.held g.K.Sink.faults c.args.sink.now c.answer-in-Asm.new.sink c.answer-in-Asm.result)
    (sym c.in-Asm.is) c.answer-in-Asm.ensures.ends

pub returns-in-Dis-clause-ends : goal.returns-in-Dis-clause-ends
returns-in-Dis-clause-ends g c =
    let input = c.args.input.now.items in
    subst (λ (a : Asked). EndsOn ((task_of a).Answers input) ((task_of a).Refuses input) ((task_of a).Denies input) g.K.Sink.held g.K.Sink.faults c.args.sink.now c.answer-in-Dis.new.sink c.answer-in-Dis.result)
    (sym c.in-Dis.is) c.answer-in-Dis.ensures.ends

pub returns-in-Check-clause-ends : goal.returns-in-Check-clause-ends
returns-in-Check-clause-ends g c =
    let input = c.args.input.now.items in
    subst (λ (a : Asked). EndsOn ((task_of a).Answers input) ((task_of a).Refuses input) ((task_of a).Denies input) g.K.Sink.held g.K.Sink.faults c.args.sink.now c.answer-in-Check.new.sink c.answer-in-Check.result)
    (sym c.in-Check.is) c.answer-in-Check.ensures.ends

pub returns-in-Upgrade-clause-ends : goal.returns-in-Upgrade-clause-ends
returns-in-Upgrade-clause-ends g c =
    let input = c.args.input.now.items in
    subst (λ (a : Asked). EndsOn ((task_of a).Answers input) ((task_of a).Refuses input) ((task_of a).Denies input) g.K.Sink.held g.K.Sink.faults c.args.sink.now c.answer-in-Upgrade.new.sink c.answer-in-Upgrade.result)
    (sym c.in-Upgrade.is) c.answer-in-Upgrade.ensures.ends

pub returns-in-Upgrade-clause-accepted : goal.returns-in-Upgrade-clause-accepted
returns-in-Upgrade-clause-accepted g c =
    subst (λ (a : Asked). (task_of a).Accepts c.args.input.now.items → (c.answer-in-Upgrade.result ≡ ending.Refused) ⊎ (c.answer-in-Upgrade.result ≡ ending.Denied) → ⊥) (sym c.in-Upgrade.is)
    (λ accepted other. elim other [
      | inl refused ↦ c.answer-in-Upgrade.ensures.accepted accepted refused
      | inr denied ↦ no_denial _ _ g.K.Sink.held g.K.Sink.faults c.args.sink.now c.answer-in-Upgrade.new.sink c.answer-in-Upgrade.result c.answer-in-Upgrade.ensures.ends denied
    ])

pub returns-in-Upgrade-clause-rejected : goal.returns-in-Upgrade-clause-rejected
returns-in-Upgrade-clause-rejected g c =
    subst (λ (a : Asked). (task_of a).Rejects c.args.input.now.items → (c.answer-in-Upgrade.result ≡ ending.Done) ⊎ (c.answer-in-Upgrade.result ≡ ending.Denied) → ⊥) (sym c.in-Upgrade.is)
    (λ rejected other. elim other [
      | inl done ↦ c.answer-in-Upgrade.ensures.rejected rejected done
      | inr denied ↦ no_denial _ _ g.K.Sink.held g.K.Sink.faults c.args.sink.now c.answer-in-Upgrade.new.sink c.answer-in-Upgrade.result c.answer-in-Upgrade.ensures.ends denied
    ])

pub answer-requires-clause-workers : goal.answer-requires-clause-workers
answer-requires-clause-workers g c = subst HasWorkers c.in-Step.is c.requires.workers

pub answer-requires-clause-within : goal.answer-requires-clause-within
answer-requires-clause-within g c = subst (λ (a : Asked). length c.args.input.now.items ≤ (task_of a).limit) c.in-Step.is c.requires.within

pub returns-in-Dis-clause-accepted : goal.returns-in-Dis-clause-accepted
returns-in-Dis-clause-accepted g c =
    subst (λ (a : Asked). (task_of a).Accepts c.args.input.now.items → (c.answer-in-Dis.result ≡ ending.Refused) ⊎ (c.answer-in-Dis.result ≡ ending.Denied) → ⊥) (sym c.in-Dis.is)
    (λ accepted other. elim other [
      | inl refused ↦ c.answer-in-Dis.ensures.accepted accepted refused
      | inr denied ↦ no_denial _ _ g.K.Sink.held g.K.Sink.faults c.args.sink.now c.answer-in-Dis.new.sink c.answer-in-Dis.result c.answer-in-Dis.ensures.ends denied
    ])

pub returns-in-Check-clause-accepted : goal.returns-in-Check-clause-accepted
returns-in-Check-clause-accepted g c =
    subst (λ (a : Asked). (task_of a).Accepts c.args.input.now.items → (c.answer-in-Check.result ≡ ending.Refused) ⊎ (c.answer-in-Check.result ≡ ending.Denied) → ⊥) (sym c.in-Check.is)
    c.answer-in-Check.ensures.accepted

pub returns-in-Check-clause-rejected : goal.returns-in-Check-clause-rejected
returns-in-Check-clause-rejected g c =
    subst (λ (a : Asked). (task_of a).Rejects c.args.input.now.items → (c.answer-in-Check.result ≡ ending.Done) ⊎ (c.answer-in-Check.result ≡ ending.Denied) → ⊥) (sym c.in-Check.is)
    c.answer-in-Check.ensures.rejected

pub returns-in-Check-clause-belied : goal.returns-in-Check-clause-belied
returns-in-Check-clause-belied g c =
    subst (λ (a : Asked). (task_of a).Belies c.args.input.now.items → (c.answer-in-Check.result ≡ ending.Done) ⊎ (c.answer-in-Check.result ≡ ending.Refused) → ⊥) (sym c.in-Check.is)
    c.answer-in-Check.ensures.belied
