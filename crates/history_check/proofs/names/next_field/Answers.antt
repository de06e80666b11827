use Rattle.std.proofs.Common.{rules, ◌≡◌, ◌++◌, ◌∷◌}
use Rattle.history_check.proofs.Fields.{field-cut}
use Rattle.history_check.proofs.names.next_field.Goals as goal

pub returns-in-Some : goal.returns-in-Some
returns-in-Some c field rest plain is =
    let whole : c.args.text.now ≡ c.split_part.result.0.now ++ 32 ∷ c.in-Some.rest.now = search rules in
    field-cut c.args.text.now c.split_part.result.0.now c.in-Some.rest.now field rest c.split_part.ensures.first plain whole is
