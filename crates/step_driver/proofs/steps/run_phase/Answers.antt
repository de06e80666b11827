use Rattle.std.proofs.Common.{◌≡◌, ◌∙◌, ◌∷◌, ◌%◌, length, Bool, true, false, List, ap, sym}
use Rattle.history_model.specs.Plain.{PlainPart}
use Rattle.device_core.specs.Recorded.{Recorded}
use Rattle.schedule_model.specs.Schedule.{all_done}
use Rattle.step_driver.specs.Turns.{listed}
use Rattle.step_driver.proofs.Following.{follows-rest, follows-turn, may-act, may-go-on, one-more, turns-end}
use Rattle.step_driver.proofs.steps.run_phase.Goals as goal

pub step-requires-clause-may : goal.step-requires-clause-may
step-requires-clause-may c =
    let at = c.requires.follows in
    let unfinished : all_done c.turns.parts.items ≡ false = sym (ap all_done c.deref.ensures.value) ∙ (sym c.all_done.ensures ∙ c.turns-test.true) in
    may-act at.0 c.args.workers at.1 c.turns.running c.turns.parts.items at.2 c.turns.choices (c.turns.invariant.follows at.0 at.1 at.2 at.3) unfinished

pub step-requires-clause-some : goal.step-requires-clause-some
step-requires-clause-some c =
    let at = c.requires.follows in
    let unfinished : all_done c.turns.parts.items ≡ false = sym (ap all_done c.deref.ensures.value) ∙ (sym c.all_done.ensures ∙ c.turns-test.true) in
    may-go-on at.0 c.args.workers at.1 c.turns.running c.turns.parts.items at.2 c.turns.choices (c.turns.invariant.follows at.0 at.1 at.2 at.3) c.requires.some unfinished

pub returns-in_err-step-clause-config : goal.returns-in_err-step-clause-config
returns-in_err-step-clause-config c = ap (λ (d : Recorded). d.config) c.in_err-step.ensures.unchanged ∙ c.turns.invariant.config

pub returns-clause-followed : goal.returns-clause-followed
returns-clause-followed c = λ plan first later follows.
    let done : all_done c.turns.parts.items ≡ true = sym (ap all_done c.deref.ensures.value) ∙ (sym c.all_done.ensures ∙ c.turns-test.false) in
    follows-rest plan c.args.workers first c.turns.running c.rest.new.self c.turns.parts.items later c.turns.choices (c.turns.invariant.follows plan first later follows) done c.rest.ensures

pub turns-smaller : goal.turns-smaller
turns-smaller c =
    let at = c.requires.follows in
    let old = c.turns.running in
    let new = c.step.new.running in
    let before = c.turns.parts.items in
    let after = c.step.new.parts.items in
    let unfinished : all_done before ≡ false = sym (ap all_done c.deref.ensures.value) ∙ (sym c.all_done.ensures ∙ c.turns-test.true) in
    let follows = follows-turn at.0 c.args.workers at.1 old new before after at.2 c.turns.choices c.step.new.choices (c.turns.invariant.follows at.0 at.1 at.2 at.3) unfinished
    c.in_ok-step.ensures.done c.step.ensures.rest in
    turns-end at.0 c.args.workers at.1 (c.turns.choices % length (listed c.args.workers old before)) old new before after (after ∷ at.2) c.step.new.choices follows c.in_ok-step.ensures.done

pub turns-preserved : goal.turns-preserved
turns-preserved c =
    let old = c.turns.running in
    let new = c.step.new.running in
    let before = c.turns.parts.items in
    let after = c.step.new.parts.items in
    let unfinished : all_done before ≡ false = sym (ap all_done c.deref.ensures.value) ∙ (sym c.all_done.ensures ∙ c.turns-test.true) in
    record {
      follows = λ plan first later follows.
          follows-turn plan c.args.workers first old new before after later c.turns.choices c.step.new.choices (c.turns.invariant.follows plan first later follows) unfinished
          c.in_ok-step.ensures.done c.step.ensures.rest;
      config = (one-more c.args.workers (c.turns.choices % length (listed c.args.workers old before)) old new before after c.in_ok-step.ensures.done).config ∙ c.turns.invariant.config;
    }
