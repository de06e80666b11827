use Rattle.std.proofs.Common.{◌∙◌, ℕ, ap, leb, sym}
use Rattle.std.specs.List.{list_all}
use Rattle.std.specs.Prelude.{Some}
use Rattle.std.proofs.lemmas.List.Folds.{list_all-map}
use Rattle.script_line.specs.declared.field.FieldValue.{FieldValue}
use Rattle.script_line.specs.Field.{Value}
use Rattle.script_line.specs.Values.{queue_in, value_view}
use Rattle.script_cmds.proofs.progress.Progress.has_queues.Goals as goal

pub returns : goal.returns
returns c =
    c.are_within.ensures
    ∙ ap (λ (n : ℕ). list_all (λ (value : FieldValue). leb (queue_in (Some (value_view value))) n) c.args.values.now) c.from-queues.ensures
    ∙ sym (list_all-map (λ (value : Value). leb (queue_in (Some value)) c.args.self.now.form.queues) value_view c.args.values.now)
