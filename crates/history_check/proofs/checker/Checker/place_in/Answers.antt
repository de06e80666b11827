use Rattle.std.proofs.Common.{◌≡◌, ℕ, List, Option, Some, None, refl, subst}
use Rattle.std.specs.Prelude.{IfSome}
use Rattle.history_model.specs.Sent.{Sent}
use Rattle.history_check.specs.Standing.{IsPlaceOf}
use Rattle.history_check.specs.Table.{IsAt, sends_in}
use Rattle.history_check.proofs.Places.{some-is}
use Rattle.history_check.proofs.Ready.{place-within}
use Rattle.history_check.proofs.checker.Checker.place_in.Goals as goal

place-of : (sends : List Sent) (h n : ℕ) (o : Option ℕ) → IfSome o (IsAt sends h n) → (o ≡ None → (place : ℕ) → IsAt sends h n place → ⊥) → IsPlaceOf sends h n o
place-of sends h n (Some place) found none = found
place-of sends h n None found none = none refl

none-is : {A : Type 0} (a : A) → None ≡ Some a → ⊥
none-is a e = cc

pub returns-in_err-host-clause-named : goal.returns-in_err-host-clause-named
returns-in_err-host-clause-named c host ordinal n = absurd (none-is (host, ordinal) (c.in_err-host.ensures host ordinal n))

pub returns-clause-some : goal.returns-clause-some
returns-clause-some c = place-within (sends_in c.args.self.now.awaiting.table) c.in_ok-host.host c.in_ok-host.ordinal c.find.result c.find.ensures.found

pub returns-clause-named : goal.returns-clause-named
returns-clause-named c host ordinal n =
    let same = some-is {A = ℕ × ℕ} (c.in_ok-host.host, c.in_ok-host.ordinal) (host, ordinal) (c.in_ok-host.ensures host ordinal n) in
    subst (λ (k : ℕ × ℕ). IsPlaceOf (sends_in c.args.self.now.awaiting.table) k.0 k.1 c.find.result) same
    (place-of (sends_in c.args.self.now.awaiting.table) c.in_ok-host.host c.in_ok-host.ordinal c.find.result c.find.ensures.found c.find.ensures.none)
