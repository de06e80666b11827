use Rattle.std.proofs.Common.{◌≡◌, ℕ, List, [], ◌++◌, Option, Bor, map, option_map, ap, sym, ◌∙◌}
use Rattle.script_line.specs.declared.version.Version.{Version}
use Rattle.script_line.specs.Field.{Field}
use Rattle.script_line.specs.Line.{identifier_field}
use Rattle.script_line.specs.Reading.{both, read_field}
use Rattle.script_line.specs.Values.{value_view}
use Rattle.script_line.specs.private.Outcomes.{field_view, read_identifier, version_of}
use Rattle.script_line.proofs.Heads.{nothing_before}
use Rattle.script_line.proofs.reading.read_identifier.Goals as goal

pub returns-in_ok-read-in-Some-clause-read : goal.returns-in_ok-read-in-Some-clause-read
returns-in_ok-read-in-Some-clause-read c = λ more.
    let text : List ℕ = c.in-Some.identifier.now in
    let v : Version = version_of c.args.line.kind in
    let field : field_view c.identifier_field.result ≡ identifier_field v [] = c.identifier_field.ensures ∙ ap (λ (x : Version). identifier_field x []) c.version.ensures in
    c.in_ok-read-in-Some.ensures.read more
    ∙ nothing_before c.new-reading.result.fault (map value_view c.new-reading.result.values.items) _ c.new-reading.ensures.fault (ap (map value_view) c.new-reading.ensures.values)
    ∙ ap (λ (f : Field). both (λ xs ys. xs ++ ys) (read_field f text) more) field
    ∙ ap (λ (o : Option (Bor (List ℕ))). both (λ xs ys. xs ++ ys) (read_identifier v (option_map (λ (t : Bor (List ℕ)). t.now) o)) more) (sym c.in-Some.is)
