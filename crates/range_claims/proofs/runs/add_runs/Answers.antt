-- Each run is counted once more.
use Rattle.std.proofs.Common.{◌≡◌, ℕ, suc, ◌+◌, ◌*◌, ◌^◌, ◌<◌, ◌≤◌, ◌++◌, List, length, take, get_or, sym, ap, subst, ◌∙◌, arith}
use Rattle.cp_base.specs.Region.{Region}
use Rattle.range_claims.specs.Counts.{ArePlaced, HaveRoom, IsCountOf, count_at, counted_once, held_at, regions_at}
use Rattle.range_claims.specs.Segments.{AreMaximal, Counted}
use Rattle.range_claims.specs.declared.segments.Segment.{Segment}
use Rattle.range_claims.proofs.Totals.{append_length, few_segments, placed_more, regions_append, regions_few, regions_more, take_few}
use Rattle.range_claims.proofs.runs.add_runs.Goals as goal

-- those that were counted, and some of the runs
counted_so_far : (regions runs : List Region) (i : ℕ) (old now : List Segment) → IsCountOf regions old → ((x : ℕ) → count_at now x ≡ count_at old x + regions_at (take i runs) x)
    → (x : ℕ) → count_at now x ≡ regions_at (regions ++ take i runs) x
counted_so_far regions runs i old now count more x = omega (arith, count.counts x, more x, regions_append regions (take i runs) x)

pub add-requires-clause-room : goal.add-requires-clause-room
add-requires-clause-room c =
    let regions = c.requires.0 in
    let room = c.requires.1.room in
    let few = few_segments c.loop-i.segments.segments (regions ++ take c.loop-i.i c.args.runs.now) c.loop-i.invariant.fewest
    (counted_so_far regions c.args.runs.now c.loop-i.i c.args.segments.now.segments c.loop-i.segments.segments c.requires.1.count c.loop-i.invariant.counts) in
    omega (arith, room, few, append_length regions (take c.loop-i.i c.args.runs.now), take_few c.loop-i.i c.args.runs.now, c.loop-i-test.true, c.count-count.ensures.few, c.loop-i.invariant.room)

pub add-requires-clause-small : goal.add-requires-clause-small
add-requires-clause-small c = λ x.
    let regions = c.requires.0 in
    let small = c.requires.1.small in
    let counts = counted_so_far regions c.args.runs.now c.loop-i.i c.args.segments.now.segments c.loop-i.segments.segments c.requires.1.count c.loop-i.invariant.counts x in
    omega (arith, small, counts, regions_few (regions ++ take c.loop-i.i c.args.runs.now) x, append_length regions (take c.loop-i.i c.args.runs.now), take_few c.loop-i.i c.args.runs.now, c.loop-i-test.true, c.count-count.ensures.few)

pub loop-i-preserved : goal.loop-i-preserved
loop-i-preserved c =
    let run = c.index-as_slice-i.result in
    let is : run ≡ get_or c.args.runs.now c.loop-i.i run = c.index-as_slice-i.is ∙ ap (λ (runs : List Region). get_or runs c.loop-i.i run) c.as_slice.ensures in
    let below : c.loop-i.i < length c.args.runs.now = omega (arith, c.loop-i-test.true, c.count-count.ensures.value) in
    let one : c.loop-i.i + 1 ≡ suc c.loop-i.i = omega arith in
    record {
      counts = λ x. omega (arith, c.add.ensures.counts x, c.loop-i.invariant.counts x, ap (λ (n : ℕ). regions_at (take n c.args.runs.now) x) one, regions_more c.loop-i.i c.args.runs.now run x below is);
      fewest = c.add.ensures.fewest;
      room = c.add.ensures.room ∙ c.loop-i.invariant.room;
      placed = subst (λ (n : ℕ). ArePlaced (take n c.args.runs.now)) (sym one) (placed_more c.loop-i.i c.args.runs.now run below is c.add.ensures.placed c.loop-i.invariant.placed);
    }
