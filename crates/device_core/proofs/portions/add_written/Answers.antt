use Rattle.std.proofs.Common.{rules, ◌≡◌, ◌∙◌, ℕ, List, length, position, unwrap_or, ap}
use Rattle.std.specs.List.{insert}
use Rattle.device_core.specs.Portions.{comes_before, written_portion}
use Rattle.device_core.specs.declared.portions.Portion.{Portion}
use Rattle.device_core.proofs.Carrying.{with-inserted}
use Rattle.device_core.proofs.portions.add_written.Goals as goal

pub returns : goal.returns
returns c =
    let xs : List Portion = c.args.portions.now.items in
    let x : Portion = written_portion c.args.range.now in
    let place : c.unwrap_or-place.result ≡ unwrap_or (position (λ (y : Portion). comes_before x.range y.range) xs) (length xs) = search rules in
    let inserted : c.insert.new.self.items ≡ insert xs c.unwrap_or-place.result x = search rules in
    inserted ∙ ap (λ (n : ℕ). insert xs n x) place ∙ with-inserted x xs
