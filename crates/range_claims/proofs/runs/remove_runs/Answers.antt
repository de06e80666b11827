-- Each run is counted once less.
use Rattle.std.proofs.Common.{◌≡◌, ℕ, suc, ◌+◌, ◌*◌, ◌<◌, ◌≤◌, ◌++◌, List, length, take, drop, get_or, sym, ap, subst, ◌∙◌, arith}
use Rattle.cp_base.specs.Region.{Region}
use Rattle.range_claims.specs.Counts.{CountWith, IsCountOf, count_at, counted_once, held_at, regions_at}
use Rattle.range_claims.specs.Segments.{AreMaximal, Counted}
use Rattle.range_claims.specs.declared.segments.Segment.{Segment}
use Rattle.range_claims.proofs.Basics.{held_inside}
use Rattle.range_claims.proofs.Totals.{append_length, drop_few, few_segments, regions_append, regions_left, regions_more, regions_whole}
use Rattle.range_claims.proofs.runs.remove_runs.Goals as goal

-- those that are left, and the others
counted_still : (runs others : List Region) (i : ℕ) (old now : List Segment) → IsCountOf (runs ++ others) old → ((x : ℕ) → count_at now x + regions_at (take i runs) x ≡ count_at old x)
    → (x : ℕ) → count_at now x ≡ regions_at (drop i runs ++ others) x
counted_still runs others i old now count less x =
    omega (arith, count.counts x, less x, regions_append runs others x, regions_append (drop i runs) others x, regions_whole i runs x)

pub remove-requires-clause-room : goal.remove-requires-clause-room
remove-requires-clause-room c =
    let others = c.requires.0 in
    let room = c.requires.1.room in
    let few = few_segments c.loop-i.segments.segments (drop c.loop-i.i c.args.runs.now ++ others) c.loop-i.invariant.fewest
    (counted_still c.args.runs.now others c.loop-i.i c.args.segments.now.segments c.loop-i.segments.segments c.requires.1.count c.loop-i.invariant.counts) in
    omega (arith, room, few, append_length (drop c.loop-i.i c.args.runs.now) others, drop_few c.loop-i.i c.args.runs.now, c.loop-i.invariant.room)

pub remove-requires-clause-counted : goal.remove-requires-clause-counted
remove-requires-clause-counted c = λ x from to.
    let others = c.requires.0 in
    let run = c.index-as_slice-i.result in
    let is : run ≡ get_or c.args.runs.now c.loop-i.i run = c.index-as_slice-i.is ∙ ap (λ (runs : List Region). get_or runs c.loop-i.i run) c.as_slice.ensures in
    let below : c.loop-i.i < length c.args.runs.now = omega (arith, c.loop-i-test.true, c.count-count.ensures.value) in
    let counts = counted_still c.args.runs.now others c.loop-i.i c.args.segments.now.segments c.loop-i.segments.segments c.requires.1.count c.loop-i.invariant.counts x in
    omega (arith, counts, regions_append (drop c.loop-i.i c.args.runs.now) others x, regions_left c.loop-i.i c.args.runs.now run x below is, held_inside (counted_once run) x from to)

pub loop-i-preserved : goal.loop-i-preserved
loop-i-preserved c =
    let run = c.index-as_slice-i.result in
    let is : run ≡ get_or c.args.runs.now c.loop-i.i run = c.index-as_slice-i.is ∙ ap (λ (runs : List Region). get_or runs c.loop-i.i run) c.as_slice.ensures in
    let below : c.loop-i.i < length c.args.runs.now = omega (arith, c.loop-i-test.true, c.count-count.ensures.value) in
    let one : c.loop-i.i + 1 ≡ suc c.loop-i.i = omega arith in
    record {
      counts = λ x. omega (arith, c.remove.ensures.counts x, c.loop-i.invariant.counts x, ap (λ (n : ℕ). regions_at (take n c.args.runs.now) x) one, regions_more c.loop-i.i c.args.runs.now run x below is);
      fewest = c.remove.ensures.fewest;
      room = c.remove.ensures.room ∙ c.loop-i.invariant.room;
    }
