use Rattle.std.proofs.Common.{ℕ, ◌+◌, ◌%◌, ◌^◌, List, take, sym, ap, ◌∙◌, arith}
use Rattle.std.proofs.Math.Nat.{mod-add-mod}
use Rattle.device_core.specs.Gives.{Ended, ended_as_shown, world_in}
use Rattle.trail_model.specs.World.{Completion}
use Rattle.nvmecp.specs.Summed.{results_of}
use Rattle.nvmecp.proofs.SummedUp.{ok_of, one_at_most, one_more}
use Rattle.nvmecp.proofs.summing.summary_of.Goals as goal

pub loop-k-preserved : goal.loop-k-preserved
loop-k-preserved c =
    let history : List Completion = (world_in c.args.core.now).history in
    let k : ℕ = c.loop-k.k in
    let e : Ended = ended_as_shown c.in-Some.entry in
    let before = c.loop-k.invariant in
    let good = one_more ok_of history k e c.in-Some.ensures in
    let all = one_more (λ answer. answer.result) history k e c.in-Some.ensures in
    record {
      ok = omega (arith, before.ok, c.count_ok-ok.ensures, good);
      few = omega (arith, before.few, c.count_ok-ok.ensures, one_at_most e.answer);
      sum = ap (λ (n : ℕ). (n + e.answer.result) % 2 ^ 64) before.sum
          ∙ mod-add-mod (results_of (take k history)) (2 ^ 64) e.answer.result ∙ ap (λ (n : ℕ). n % 2 ^ 64) (sym all);
    }
