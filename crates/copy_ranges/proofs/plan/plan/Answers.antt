use Rattle.std.proofs.Common.{sym, ap, arith}
use Rattle.cp_base.specs.Region.{Region}
use Rattle.copy_ranges.proofs.SourceBytes.{total_positive}
use Rattle.copy_ranges.proofs.plan.plan.Goals as goal

pub inside-requires : goal.inside-requires
inside-requires c =
    let long = total_positive c.args.config.now c.args.sources.now (sym c.if-any_without_bytes.ensures) c.requires.some in
    let same = ap (λ (region : Region). region.len) c.new-destination.ensures in
    omega (arith, c.total_len-total.ensures.value)
