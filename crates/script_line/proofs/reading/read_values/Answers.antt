use Rattle.std.proofs.Common.{◌∙◌, [], List, map, option_map, subst, ap}
use Rattle.std.specs.Prelude.{Result}
use Rattle.std.proofs.lemmas.List.{append-nil}
use Rattle.cp_text.specs.Parts.{parts_in}
use Rattle.script_line.specs.declared.fault.TextCause.{TextCause}
use Rattle.script_line.specs.Field.{Value}
use Rattle.script_line.specs.Reading.{read_fields}
use Rattle.script_line.specs.Values.{ReadsAs, value_view}
use Rattle.script_line.specs.private.Outcomes.{field_view, fields_behind, outcome_with, reading_outcome}
use Rattle.script_line.proofs.reading.read_values.Goals as goal

pub returns : goal.returns
returns c =
    let fields = map field_view c.fields_behind.result.now in
    let behind = append-nil fields ∙ c.fields_behind.ensures in
    let rest = c.in_ok-reading.ensures.rest in
    let read = c.in_ok-take_all.ensures [] in
    let all = read ∙ ap (outcome_with c.in_ok-reading.reading) behind ∙ ap (λ r. reading_outcome c.in_ok-reading.reading (read_fields (fields_behind c.args.line.kind) (parts_in 32 (option_map (λ text. text.now) r)))) rest
    ∙ c.in_ok-reading.ensures.read (read_fields (fields_behind c.args.line.kind) (parts_in 32 (option_map (λ text. text.now) c.args.line.rest))) in
    subst (λ (r : Result (List Value) TextCause). ReadsAs (λ values. map value_view values.items) c.finish.result r) all c.finish.ensures
