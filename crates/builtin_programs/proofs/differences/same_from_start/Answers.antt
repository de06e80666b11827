use Rattle.std.proofs.Common.{◌≡◌, ℕ, List, ◌∙◌, ◌+◌, ◌≤◌, ◌<◌, ◌==◌, length, drop, arith, rules}
use lib.Lanes.{chunk}
use Rattle.std.specs.List.{common_prefix_len}
use Rattle.std.proofs.lemmas.List.{length-drop}
use Rattle.std.proofs.lemmas.Simd.{length-chunk}
use Rattle.std.proofs.lemmas.List.Sums.{common_prefix_len-le}
use Rattle.builtin_programs.proofs.Lanes.{common-chunk, common-chunk-within, slice-rest}
use Rattle.builtin_programs.proofs.differences.same_from_start.Goals as goal

pub returns-then-same-lt-LANES : goal.returns-then-same-lt-LANES
returns-then-same-lt-LANES c =
    let same : c.same_in_lanes-same.result ≡ common_prefix_len (λ x y. x == y) (chunk c.loop-at.at 64 c.args.a.now) (chunk c.loop-at.at 64 c.args.b.now) = search rules in
    let inside : c.loop-at.at + 64 ≤ length c.args.a.now = search rules in
    let less : c.same_in_lanes-same.result < 64 = search rules in
    let rest = common-chunk-within c.args.a.now c.args.b.now c.loop-at.at 64 c.requires inside (omega (arith, same, less)) in
    omega (arith, same, rest, c.loop-at.invariant.same)

pub loop-at-preserved : goal.loop-at-preserved
loop-at-preserved c =
    let same : c.same_in_lanes-same.result ≡ common_prefix_len (λ x y. x == y) (chunk c.loop-at.at 64 c.args.a.now) (chunk c.loop-at.at 64 c.args.b.now) = search rules in
    let inside : c.loop-at.at + 64 ≤ length c.args.a.now = search rules in
    let not_less : 64 ≤ c.same_in_lanes-same.result = search rules in
    let most = (common_prefix_len-le (λ x y. x == y) (chunk c.loop-at.at 64 c.args.a.now) (chunk c.loop-at.at 64 c.args.b.now)).0 in
    let len = length-chunk c.loop-at.at 64 c.args.a.now inside in
    let rest = common-chunk c.args.a.now c.args.b.now c.loop-at.at 64 c.requires inside (omega (arith, same, not_less, most, len)) in
    record { inside = inside; same = omega (arith, rest, c.loop-at.invariant.same) }

pub overflow_add-result-2 : goal.overflow_add-result-2
overflow_add-result-2 c =
    let a : List ℕ = c.args.a.now in
    let b : List ℕ = c.args.b.now in
    let same : c.same_plainly.result ≡ common_prefix_len (λ x y. x == y) (drop c.loop-at.at a) (drop c.loop-at.at b) =
    c.same_plainly.ensures ∙ (λ i. common_prefix_len (λ x y. x == y) (slice-rest a c.loop-at.at i) (slice-rest b c.loop-at.at i)) in
    let most = (common_prefix_len-le (λ x y. x == y) (drop c.loop-at.at a) (drop c.loop-at.at b)).0 in
    let within : c.loop-at.at + c.same_plainly.result ≤ length a = omega (arith, same, most, length-drop c.loop-at.at a, c.loop-at.invariant.inside) in
    search rules
