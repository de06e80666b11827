use Rattle.std.proofs.Common.{◌≡◌, ℕ, ◌==◌, ◌<◌, ◌≤◌, nat_lt, true, false, cond, length, Some, None, sym, ap, ◌∙◌, arith, rules}
use Rattle.std.specs.List.{common_prefix_len}
use Rattle.std.proofs.lemmas.Bool.Decides.{nat_tests}
use Rattle.std.proofs.lemmas.List.Sums.{common_prefix_len-le}
use Rattle.builtin_programs.proofs.Lanes.{common-equal, difference-common, equal-common}
use Rattle.builtin_programs.proofs.differences.first_difference.Goals as goal

pub returns-then-same-a-clause-place : goal.returns-then-same-a-clause-place
returns-then-same-a-clause-place c =
    let same : c.same_from_start-same.result ≡ common_prefix_len (λ x y. x == y) c.args.a.now c.args.b.now = search rules in
    let less : c.same_from_start-same.result < length c.args.a.now = search rules in
    let test : nat_lt c.same_from_start-same.result (length c.args.a.now) ≡ true = grind (arith, nat_tests) in
    sym (difference-common c.args.a.now c.args.b.now c.requires
    ∙ ap (λ (n : ℕ). cond (nat_lt n (length c.args.a.now)) (Some n) None) (sym same)
    ∙ ap (λ b. cond b (Some c.same_from_start-same.result) None) test)

pub returns-then-same-a-clause-equal : goal.returns-then-same-a-clause-equal
returns-then-same-a-clause-equal c =
    let same : c.same_from_start-same.result ≡ common_prefix_len (λ x y. x == y) c.args.a.now c.args.b.now = search rules in
    let less : c.same_from_start-same.result < length c.args.a.now = search rules in
    (λ none. cc, λ e. absurd (omega (arith, same, less, common-equal c.args.a.now c.args.b.now e)))

pub returns-else-same-a-clause-place : goal.returns-else-same-a-clause-place
returns-else-same-a-clause-place c =
    let same : c.same_from_start-same.result ≡ common_prefix_len (λ x y. x == y) c.args.a.now c.args.b.now = search rules in
    let not_less : length c.args.a.now ≤ c.same_from_start-same.result = search rules in
    let test : nat_lt c.same_from_start-same.result (length c.args.a.now) ≡ false = grind (arith, nat_tests) in
    sym (difference-common c.args.a.now c.args.b.now c.requires
    ∙ ap (λ (n : ℕ). cond (nat_lt n (length c.args.a.now)) (Some n) None) (sym same)
    ∙ ap (λ b. cond b (Some c.same_from_start-same.result) None) test)

pub returns-else-same-a-clause-equal : goal.returns-else-same-a-clause-equal
returns-else-same-a-clause-equal c =
    let same : c.same_from_start-same.result ≡ common_prefix_len (λ x y. x == y) c.args.a.now c.args.b.now = search rules in
    let not_less : length c.args.a.now ≤ c.same_from_start-same.result = search rules in
    let most = (common_prefix_len-le (λ x y. x == y) c.args.a.now c.args.b.now).0 in
    (λ none. equal-common c.args.a.now c.args.b.now c.requires (omega (arith, same, not_less, most)), λ e. λ _. None)
