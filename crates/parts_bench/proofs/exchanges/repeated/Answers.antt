use Rattle.std.proofs.Common.{◌≡◌, ◌∙◌, ℕ, ◌+◌, ap, arith}
use Rattle.cp_base.specs.Region.{Region}
use Rattle.cp_base.specs.declared.limits.TheConstants.{MAX_NAMESPACE}
use Rattle.parts_bench.specs.Parts.{range_len}
use Rattle.parts_bench.proofs.Changed.{rounds_more}
use Rattle.parts_bench.proofs.Home.{short, still_home}
use Rattle.parts_bench.proofs.exchanges.repeated.Goals as goal

pub loop-round-preserved : goal.loop-round-preserved
loop-round-preserved c =
    let each : c.in_ok-moved.field-0 ≡ range_len c.args.places = c.in_ok-moved.ensures.len ∙ ap (λ (r : Region). r.len) c.range.ensures in
    record {
      home = still_home c.loop-round.extents c.exchange.new.extents MAX_NAMESPACE c.in_ok-moved.ensures.same c.loop-round.invariant.home;
      moved = ap (λ (n : ℕ). c.loop-round.moved + n) each ∙ rounds_more c.loop-round.round (range_len c.args.places) c.loop-round.moved c.loop-round.invariant.moved;
      few = omega (arith, each, short c.args.places, c.loop-round.invariant.few);
    }
