use Rattle.std.proofs.Common.{rules, ◌≡◌, ◌++◌, ◌∷◌, [], true, false, sym, ◌∙◌}
use Rattle.std.proofs.lemmas.List.{same_from_push}
use Rattle.std.proofs.lemmas.Bool.{both_ways}
use Rattle.history_check.proofs.Accepting.{stands-same}
use Rattle.history_check.proofs.checker.is_text.Goals as goal

pub returns-then-last-eq10-clause-no : goal.returns-then-last-eq10-clause-no
returns-then-last-eq10-clause-no c off is =
    let cut : c.args.buffer.now.items ≡ c.in-Some.text.now ++ c.in-Some.last.now ∷ [] = search rules in
    let same : c.in-Some.text.now ≡ c.args.line.now = (same_from_push c.in-Some.text.now c.args.line.now c.in-Some.last.now 10 (sym cut ∙ is)).0 in
    let equal : c.eq.result ≡ true = search rules in
    both_ways c.eq.result off equal
