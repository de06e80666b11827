use Rattle.std.proofs.Common.{rules, ◌≡◌, ◌∷◌, List, ℕ, sym, ◌∙◌, ap}
use Rattle.std.specs.Prelude.{decimal}
use Rattle.cp_text.specs.Number.{spelled_number}
use Rattle.cp_text.proofs.NumberTexts.{spelled_number-decimal}
use Rattle.history_check.proofs.names.number_behind.Goals as goal

pub returns-in-Some : goal.returns-in-Some
returns-in-Some c n small is =
    let cut : c.args.field.now ≡ c.in-Some.first.now ∷ c.in-Some.digits.now = search rules in
    let both : c.in-Some.first.now ∷ c.in-Some.digits.now ≡ c.args.letter ∷ decimal n = sym cut ∙ is in
    let digits : c.in-Some.digits.now ≡ decimal n = cc in
    c.number.ensures ∙ (ap spelled_number digits ∙ spelled_number-decimal n small)
