use Rattle.std.proofs.Common.{◌++◌, ◌∷◌, [], ◌∙◌, ap, arith}
use Rattle.script_line.specs.declared.version.Version.TheVariants as version
use Rattle.script_cmds.specs.declared.item.Phase.{Phase}
use Rattle.script_cmds.specs.declared.script.Script.{Script}
use Rattle.history_model.specs.Plan.{lines_of_parts}
use Rattle.script_plan.proofs.Counting.{one-phase-fits}
use Rattle.script_plan.proofs.tests.script.Goals as goal

pub returns : goal.returns
returns c =
    let phase : Phase = record { hosts = c.new-hosts.result } in
    let script : Script = record { form = record { version = version.One; queues = 1 }; config = c.args.config; phases = c.new-phases-2.result; shows = c.new-shows.result } in
    one-phase-fits script phase
    (c.new-phases-2.ensures ∙ c.in_ok-push.ensures.items ∙ ap (λ phases. phases ++ phase ∷ []) c.new-phases.ensures.items)
    (c.new-shows.ensures ∙ c.new.ensures.items)
    (omega (arith, ap lines_of_parts c.new-hosts.ensures))
    (omega (arith, c.configuration_lines-lines.ensures.value script.form, c.configuration_lines-lines.ensures.few))
