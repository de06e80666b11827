use Rattle.std.proofs.Common.{◌≡◌, ◌∙◌, length, ap, arith}
use Rattle.range_claims.specs.Kept.{KeptClaims}
use Rattle.parts_bench.proofs.Changed.{length-claims_of}
use Rattle.parts_bench.proofs.claims.kept.Goals as goal

pub add-requires : goal.add-requires
add-requires c =
    let n : length c.loop-key.claims.kept ≡ c.loop-key.key = ap (λ (k : KeptClaims). length k.kept) c.loop-key.invariant ∙ length-claims_of c.args.reads c.args.writes c.loop-key.key in
    let m : c.loop-key.claims.most ≡ 32 = ap (λ (k : KeptClaims). k.most) c.loop-key.invariant in
    omega (arith, n, m, c.loop-key-test.true, c.requires.count)
