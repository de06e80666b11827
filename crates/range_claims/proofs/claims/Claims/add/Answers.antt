-- The ranges of one claim more are counted.
use Rattle.std.proofs.Common.{◌≡◌, ℕ, ◌+◌, ◌*◌, ◌^◌, ◌<◌, ◌≤◌, List, [], ◌∷◌, ◌++◌, length, sym, ap, subst, ◌∙◌, arith}
use Rattle.std.specs.Vec.{vec_capacity}
use Rattle.cp_base.specs.Region.{Region}
use Rattle.range_claims.specs.Counts.{HaveRoom, IsCountOf, regions_at}
use Rattle.range_claims.specs.Kept.{AreCountedBy, ClaimsAreFit, IsFit, KeptClaims, all_reads, all_writes}
use Rattle.range_claims.specs.Segments.{Counted}
use Rattle.range_claims.specs.declared.claims.Claim.{Claim}
use Rattle.range_claims.proofs.Keeping.{fit_more, length_more, reads_few, reads_more, writes_few, writes_more}
use Rattle.range_claims.proofs.claims.Claims.add.Goals as goal

-- there is room for the ranges of one more
have_room : (most n : ℕ) (regions : List Region) (counted : Counted) → IsCountOf regions counted.segments → length regions ≤ 20 * n → n < most → most < 2 ^ 32 → 80 * most < counted.room → HaveRoom regions counted
have_room most n regions counted count few below bounded room = record { count = count; room = omega (arith, few, below, room); small = omega (arith, few, below, bounded) }

pub add_runs-requires : goal.add_runs-requires
add_runs-requires c =
    let items = c.self.inside.kept.items in
    let counted = c.self.invariant.1 in
    let below : length items < c.self.inside.most = omega (arith, c.requires, ap (λ (k : KeptClaims). length k.kept) c.self.view_is, ap (λ (k : KeptClaims). k.most) c.self.view_is) in
    (all_writes items, have_room c.self.inside.most (length items) (all_writes items) c.self.inside.writes counted.written (writes_few items counted.fit) below counted.bounded counted.writes_room)

pub add_runs-requires-2 : goal.add_runs-requires-2
add_runs-requires-2 c =
    let items = c.self.inside.kept.items in
    let counted = c.self.invariant.1 in
    let below : length items < c.self.inside.most = omega (arith, c.requires, ap (λ (k : KeptClaims). length k.kept) c.self.view_is, ap (λ (k : KeptClaims). k.most) c.self.view_is) in
    (all_reads items, have_room c.self.inside.most (length items) (all_reads items) c.self.inside.reads counted.read (reads_few items counted.fit) below counted.bounded counted.reads_room)

pub invariant_of-self : goal.invariant_of-self
invariant_of-self c =
    let items = c.self.inside.kept.items in
    let counted = c.self.invariant.1 in
    let below : length items < c.self.inside.most = omega (arith, c.requires, ap (λ (k : KeptClaims). length k.kept) c.self.view_is, ap (λ (k : KeptClaims). k.most) c.self.view_is) in
    let claim : Claim = record { key = c.args.key; footprint = c.args.footprint } in (
      omega (arith, c.self.invariant.0, c.put_behind.ensures.capacity),
      subst (λ (claims : List Claim). AreCountedBy c.self.inside.most claims c.add_runs.new.segments c.add_runs-2.new.segments) (sym c.put_behind.ensures.items) (record {
        within = omega (arith, length_more items claim, below);
        bounded = counted.bounded;
        fit = fit_more items claim counted.fit (record { placed = c.add_runs.ensures.placed; few = c.add_runs.ensures.few }) (record { placed = c.add_runs-2.ensures.placed; few = c.add_runs-2.ensures.few });
        written = record { counts = λ x. omega (arith, c.add_runs.ensures.counts x, counted.written.counts x, writes_more items claim x); fewest = c.add_runs.ensures.fewest };
        read = record { counts = λ x. omega (arith, c.add_runs-2.ensures.counts x, counted.read.counts x, reads_more items claim x); fewest = c.add_runs-2.ensures.fewest };
        writes_room = omega (arith, counted.writes_room, c.add_runs.ensures.room);
        reads_room = omega (arith, counted.reads_room, c.add_runs-2.ensures.room);
      }),
    )
