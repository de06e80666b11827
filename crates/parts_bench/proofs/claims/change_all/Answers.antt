use Rattle.std.proofs.Common.{◌≡◌, ◌∙◌, ℕ, ◌+◌, false, length, ap, arith}
use Rattle.cp_base.specs.declared.spans.Footprint.{Footprint}
use Rattle.range_claims.specs.Kept.{KeptClaims, is_kept}
use Rattle.range_claims.specs.Steps.{ranges_touched}
use Rattle.parts_bench.proofs.Changed.{changed, rounds_more}
use Rattle.parts_bench.proofs.claims.change_all.Goals as goal

pub loop-preserved : goal.loop-preserved
loop-preserved c =
    let none : is_kept c.loop.claims.kept 32 ≡ false = ap (λ (k : KeptClaims). is_kept k.kept 32) c.loop.invariant.claims ∙ c.requires.new_key in
    let back = changed c.loop.claims c.add.new.self c.remove-footprint.new.self 32 c.loop.footprint c.remove-footprint.result none c.add.ensures c.remove-footprint.ensures.footprint c.remove-footprint.ensures.kept in
    let same : c.remove-footprint.result ≡ c.args.last = back.1 ∙ c.loop.invariant.footprint in
    let writes : c.count.result ≡ length c.args.last.writes = c.count.ensures.value ∙ ap (λ (f : Footprint). length f.writes) same in
    let reads : c.count-in-loop.result ≡ length c.args.last.reads = c.count-in-loop.ensures.value ∙ ap (λ (f : Footprint). length f.reads) same in
    let each : c.count.result + c.count-in-loop.result ≡ ranges_touched c.args.last = omega (arith, writes, reads) in
    record {
      claims = back.0 ∙ c.loop.invariant.claims;
      footprint = same;
      ranges = ap (λ (n : ℕ). c.loop.ranges + n) each ∙ rounds_more c.loop.counter (ranges_touched c.args.last) c.loop.ranges c.loop.invariant.ranges;
      few = omega (arith, c.count.ensures.few, c.count-in-loop.ensures.few, c.loop.invariant.few);
    }
