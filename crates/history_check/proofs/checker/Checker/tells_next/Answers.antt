use Rattle.std.proofs.Common.{ℕ, Option, sym, subst}
use Rattle.std.specs.Prelude.{IfOk, IsFalse}
use Rattle.history_check.specs.Standing.{IsNextRefused}
use Rattle.history_check.proofs.checker.Checker.tells_next.Goals as goal

pub returns-in-Some-clause-no : goal.returns-in-Some-clause-no
returns-in-Some-clause-no c =
    subst (λ (o : Option ℕ). IfOk c.tells_aborted.result (λ told. IsFalse told → IsNextRefused o c.args.self.now c.args.place c.args.k c.args.line.now)) (sym c.in-Some.is) c.tells_aborted.ensures.no
