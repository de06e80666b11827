-- The set and the program of an execution that passes its checks are there, and what is made of them fits it.
use Rattle.std.proofs.Common.{rules, ◌≡◌, ◌∙◌, List, None, IsSome, true, IfOk, option_copied, ap, sym, subst}
use Rattle.cp_base.specs.Configuration.{Configuration}
use Rattle.cp_base.specs.Sets.{RangeSet}
use Rattle.cp_base.specs.declared.commands.Command.{Command}
use Rattle.cp_base.specs.declared.commands.Command.TheVariants as command
use Rattle.device_model.specs.Checks.{refusal_of}
use Rattle.device_model.specs.State.{State}
use Rattle.trail_model.specs.Footprints.{execution_of, is_execution}
use Rattle.core_model.specs.Parts.{tables_of}
use Rattle.device_core.specs.Preparing.{FitsSetup, set_in}
use Rattle.device_core.specs.declared.preparing.Setup.{Setup}
use Rattle.device_core.proofs.Carrying.{if-ok}
use Rattle.device_core.proofs.Natures.{IsExecutionOf, executes}
use Rattle.device_core.proofs.Prepared.{runnable, set-there, setup-fits}
use Rattle.device_core.proofs.preparing.setup_of.Goals as goal

-- a command that passes its checks, as the one that it is
passes-as : (c : Configuration) (s : State) (cmd x : Command) → cmd ≡ x → refusal_of c s cmd ≡ None → refusal_of c s x ≡ None
passes-as c s cmd x is passes = sym (ap (λ (y : Command). refusal_of c s y) is) ∙ passes

pub execution_setup-requires-clause-runnable : goal.execution_setup-requires-clause-runnable
execution_setup-requires-clause-runnable c =
    let e : IsExecutionOf c.in-Executes.slot c.in-Executes.set c.args.command.now =
    executes c.args.command.now c.in-Executes.slot c.in-Executes.set (sym c.nature.ensures ∙ c.in-Executes.is) in
    let s : State = tables_of c.args.slots.now c.requires.1 in
    (c.requires.1, runnable c.requires.0 s c.in-Executes.slot c.in-Executes.set e.0 e.1 e.2 (passes-as c.requires.0 s c.args.command.now _ e.3 c.requires.2))

pub execution_setup-requires-clause-set : goal.execution_setup-requires-clause-set
execution_setup-requires-clause-set c =
    let e : IsExecutionOf c.in-Executes.slot c.in-Executes.set c.args.command.now =
    executes c.args.command.now c.in-Executes.slot c.in-Executes.set (sym c.nature.ensures ∙ c.in-Executes.is) in
    let s : State = tables_of c.args.slots.now c.requires.1 in
    let there : IsSome (option_copied c.args.set) =
    subst (λ o. IsSome o) (sym (c.requires.3 ∙ ap (λ (cmd : Command). set_in c.requires.1 cmd) e.3))
    (set-there c.requires.0 s c.in-Executes.slot c.in-Executes.set e.0 e.1 e.2 (passes-as c.requires.0 s c.args.command.now _ e.3 c.requires.2)) in
    search (rules, there)

pub returns-in-Executes-clause-fits : goal.returns-in-Executes-clause-fits
returns-in-Executes-clause-fits c =
    let e : IsExecutionOf c.in-Executes.slot c.in-Executes.set c.args.command.now =
    executes c.args.command.now c.in-Executes.slot c.in-Executes.set (sym c.nature.ensures ∙ c.in-Executes.is) in
    let sets : List RangeSet = c.requires.1 in
    let s : State = tables_of c.args.slots.now sets in
    let there : IsSome (option_copied c.args.set) =
    subst (λ o. IsSome o) (sym (c.requires.3 ∙ ap (λ (cmd : Command). set_in sets cmd) e.3))
    (set-there c.requires.0 s c.in-Executes.slot c.in-Executes.set e.0 e.1 e.2 (passes-as c.requires.0 s c.args.command.now _ e.3 c.requires.2)) in
    subst
    (λ (cmd : Command). IfOk c.execution_setup.result (λ (setup : Setup). is_execution cmd ≡ true → (sets : List RangeSet)
    → option_copied c.args.set ≡ set_in sets cmd → FitsSetup (execution_of (tables_of c.args.slots.now sets) cmd) c.args.pieces setup))
    (sym e.3)
    (if-ok _ _ c.execution_setup.result (λ setup fits is. fits)
    (setup-fits c.execution_setup.result c.args.slots.now c.in-Executes.slot c.in-Executes.set e.0 e.1 e.2 c.args.pieces
    (option_copied c.args.set) c.execution_setup.ensures.windows c.execution_setup.ensures.set c.execution_setup.ensures.code c.execution_setup.ensures.stack there))
