-- Cut at both ends, lowered between them, and joined at both ends.
use Rattle.std.proofs.Common.{◌≡◌, ℕ, ◌+◌, ◌*◌, ◌<◌, ◌≤◌, List, length, sym, ap, subst, ◌∙◌, arith}
use Rattle.range_claims.specs.Changes.{cut_at, joined_at, lowered, taken_away}
use Rattle.range_claims.specs.Counts.{AreCounted, count_at, counted_once, held_at}
use Rattle.range_claims.specs.Places.{end_of, start_of}
use Rattle.range_claims.specs.Segments.{AreMaximal, Ascend, Counted, IsCut}
use Rattle.range_claims.specs.declared.segments.Segment.{Segment}
use Rattle.range_claims.proofs.Changed.{both_cut, cut_both, same_held, taken_count, taken_maximal}
use Rattle.range_claims.proofs.Cuts.{cut_ascend, cut_length}
use Rattle.range_claims.proofs.Joins.{join_ascend}
use Rattle.range_claims.proofs.Lowers.{lower_ascend}
use Rattle.range_claims.proofs.segments.Segments.remove.Goals as goal

pub cut-requires-2-clause-ascend : goal.cut-requires-2-clause-ascend
cut-requires-2-clause-ascend c = subst (Ascend 0) (sym c.cut.ensures.cut) (cut_ascend 0 c.start-from.result c.self.inside.list.items c.self.invariant.ascend)

pub cut-requires-2-clause-room : goal.cut-requires-2-clause-room
cut-requires-2-clause-room c =
    omega (
      arith,
      c.requires.room,
      ap (λ (v : Counted). length v.segments) c.self.view_is,
      ap (λ (v : Counted). v.room) c.self.view_is,
      ap length c.cut.ensures.cut,
      cut_length c.start-from.result c.self.inside.list.items,
      c.cut.ensures.capacity,
    )

pub lower-requires-clause-ascend : goal.lower-requires-clause-ascend
lower-requires-clause-ascend c =
    let made = c.cut-2.ensures.cut ∙ ap (cut_at c.end-to.result) c.cut.ensures.cut in
    subst (Ascend 0) (sym made) (cut_both c.start-from.result c.end-to.result c.self.inside.list.items c.self.invariant.ascend).ascend

pub lower-requires-clause-begin : goal.lower-requires-clause-begin
lower-requires-clause-begin c =
    let made = c.cut-2.ensures.cut ∙ ap (cut_at c.end-to.result) c.cut.ensures.cut in
    subst (IsCut c.start-from.result) (sym made) (cut_both c.start-from.result c.end-to.result c.self.inside.list.items c.self.invariant.ascend).begin

pub join-requires : goal.join-requires
join-requires c =
    let made = c.cut-2.ensures.cut ∙ ap (cut_at c.end-to.result) c.cut.ensures.cut in
    let less = c.lower.ensures.lowered ∙ ap (lowered c.start-from.result c.end-to.result) made in
    subst (Ascend 0) (sym less)
    (lower_ascend 0 c.start-from.result c.end-to.result (both_cut c.start-from.result c.end-to.result c.self.inside.list.items)
    (cut_both c.start-from.result c.end-to.result c.self.inside.list.items c.self.invariant.ascend).ascend)

pub join-requires-2 : goal.join-requires-2
join-requires-2 c =
    let made = c.cut-2.ensures.cut ∙ ap (cut_at c.end-to.result) c.cut.ensures.cut in
    let less = c.lower.ensures.lowered ∙ ap (lowered c.start-from.result c.end-to.result) made in
    let joined = c.join.ensures.joined ∙ ap (joined_at c.start-from.result) less in
    subst (Ascend 0) (sym joined)
    (join_ascend 0 c.start-from.result (lowered c.start-from.result c.end-to.result (both_cut c.start-from.result c.end-to.result c.self.inside.list.items))
    (lower_ascend 0 c.start-from.result c.end-to.result (both_cut c.start-from.result c.end-to.result c.self.inside.list.items)
    (cut_both c.start-from.result c.end-to.result c.self.inside.list.items c.self.invariant.ascend).ascend))

pub invariant_of-self : goal.invariant_of-self
invariant_of-self c =
    let made = c.cut-2.ensures.cut ∙ ap (cut_at c.end-to.result) c.cut.ensures.cut in
    let less = c.lower.ensures.lowered ∙ ap (lowered c.start-from.result c.end-to.result) made in
    let joined = c.join.ensures.joined ∙ ap (joined_at c.start-from.result) less in
    let all = c.join-2.ensures.joined ∙ ap (joined_at c.end-to.result) joined in
    subst AreMaximal (sym all) (taken_maximal c.start-from.result c.end-to.result c.self.inside.list.items c.self.invariant)

pub returns-clause-counts : goal.returns-clause-counts
returns-clause-counts c = λ x.
    let made = c.cut-2.ensures.cut ∙ ap (cut_at c.end-to.result) c.cut.ensures.cut in
    let less = c.lower.ensures.lowered ∙ ap (lowered c.start-from.result c.end-to.result) made in
    let joined = c.join.ensures.joined ∙ ap (joined_at c.start-from.result) less in
    let all = c.join-2.ensures.joined ∙ ap (joined_at c.end-to.result) joined in
    let counted : AreCounted c.start-from.result c.end-to.result c.self.inside.list.items = λ y g l.
    omega (arith, ap (λ (v : Counted). count_at v.segments y) c.self.view_is, c.requires.counted y (omega (arith, c.start-from.ensures.value)) (omega (arith, c.end-to.ensures.value))) in
    let counts = taken_count c.args.range.now.space c.start-from.result c.end-to.result c.self.inside.list.items x (omega (arith, c.start-from.ensures.value, c.end-to.ensures.behind)) counted c.self.invariant.ascend in
    let held = same_held c.args.range.now.space c.args.range.now.space c.start-from.result c.end-to.result (start_of c.args.range.now) (end_of c.args.range.now) x c.start-from.ensures.value c.end-to.ensures.value in
    ap (λ (some : List Segment). count_at some x + held_at (counted_once c.args.range.now) x) all
    ∙ ap (λ (n : ℕ). count_at (taken_away c.start-from.result c.end-to.result c.self.inside.list.items) x + n) (sym held) ∙ counts
    ∙ ap (λ (v : Counted). count_at v.segments x) c.self.view_is

pub returns-clause-fewest : goal.returns-clause-fewest
returns-clause-fewest c =
    let made = c.cut-2.ensures.cut ∙ ap (cut_at c.end-to.result) c.cut.ensures.cut in
    let less = c.lower.ensures.lowered ∙ ap (lowered c.start-from.result c.end-to.result) made in
    let joined = c.join.ensures.joined ∙ ap (joined_at c.start-from.result) less in
    let all = c.join-2.ensures.joined ∙ ap (joined_at c.end-to.result) joined in
    subst AreMaximal (sym all) (taken_maximal c.start-from.result c.end-to.result c.self.inside.list.items c.self.invariant)
