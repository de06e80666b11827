-- The ranges of the claim that is taken out are counted no more.
use Rattle.std.proofs.Common.{◌≡◌, ℕ, ◌+◌, ◌*◌, ◌<◌, ◌≤◌, List, ◌++◌, length, sym, ap, subst, ◌∙◌, arith}
use Rattle.std.specs.Vec.{vec_capacity}
use Rattle.cp_base.specs.Region.{Region}
use Rattle.range_claims.specs.Counts.{CountWith, IsCountOf, regions_at}
use Rattle.range_claims.specs.Kept.{AreCountedBy, all_reads, without_key, all_writes}
use Rattle.range_claims.specs.Segments.{Counted}
use Rattle.range_claims.specs.declared.claims.Claim.{Claim}
use Rattle.range_claims.proofs.Keeping.{TakenOut, reads_few, taken_out, writes_few}
use Rattle.range_claims.proofs.Totals.{regions_append}
use Rattle.range_claims.proofs.claims.Claims.remove.Goals as goal

-- the ranges of one claim and those of the others
count_with : (some others all : List Region) (counted : Counted) (most n : ℕ) → IsCountOf all counted.segments → ((x : ℕ) → regions_at all x ≡ regions_at some x + regions_at others x)
    → length some ≤ 20 → length others ≤ 20 * n → n + 1 ≤ most → 80 * most < counted.room → CountWith some others counted
count_with some others all counted most n count parts few more within room = record {
  count = record { counts = λ x. omega (arith, count.counts x, parts x, regions_append some others x); fewest = count.fewest };
  room = omega (arith, few, more, within, room);
}

pub remove_runs-requires : goal.remove_runs-requires
remove_runs-requires c =
    let items = c.self.inside.kept.items in
    let counted = c.self.invariant.1 in
    let left = without_key c.args.key items in
    let f = c.take_out-footprint.result in
    let out = taken_out c.args.key items f c.take_out-footprint.ensures.footprint counted.fit in (
      all_writes left,
      count_with f.writes (all_writes left) (all_writes items) c.self.inside.writes c.self.inside.most (length left) counted.written out.written
          out.writes.few (writes_few left out.fit) (omega (arith, out.count, counted.within)) counted.writes_room,
    )

pub remove_runs-requires-2 : goal.remove_runs-requires-2
remove_runs-requires-2 c =
    let items = c.self.inside.kept.items in
    let counted = c.self.invariant.1 in
    let left = without_key c.args.key items in
    let f = c.take_out-footprint.result in
    let out = taken_out c.args.key items f c.take_out-footprint.ensures.footprint counted.fit in (
      all_reads left,
      count_with f.reads (all_reads left) (all_reads items) c.self.inside.reads c.self.inside.most (length left) counted.read out.read
          out.reads.few (reads_few left out.fit) (omega (arith, out.count, counted.within)) counted.reads_room,
    )

pub invariant_of-self : goal.invariant_of-self
invariant_of-self c =
    let items = c.self.inside.kept.items in
    let counted = c.self.invariant.1 in
    let left = without_key c.args.key items in
    let f = c.take_out-footprint.result in
    let out = taken_out c.args.key items f c.take_out-footprint.ensures.footprint counted.fit in (
      omega (arith, c.self.invariant.0, c.take_out-footprint.ensures.capacity),
      subst (λ (claims : List Claim). AreCountedBy c.self.inside.most claims c.remove_runs.new.segments c.remove_runs-2.new.segments) (sym c.take_out-footprint.ensures.kept) (record {
        within = omega (arith, out.count, counted.within);
        bounded = counted.bounded;
        fit = out.fit;
        written = record { counts = λ x. omega (arith, c.remove_runs.ensures.counts x, counted.written.counts x, out.written x); fewest = c.remove_runs.ensures.fewest };
        read = record { counts = λ x. omega (arith, c.remove_runs-2.ensures.counts x, counted.read.counts x, out.read x); fewest = c.remove_runs-2.ensures.fewest };
        writes_room = omega (arith, counted.writes_room, c.remove_runs.ensures.room);
        reads_room = omega (arith, counted.reads_room, c.remove_runs-2.ensures.room);
      }),
    )
