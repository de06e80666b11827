-- Cut at both ends, raised between them, and joined at both ends.
use Rattle.std.proofs.Common.{◌≡◌, ℕ, ◌+◌, ◌*◌, ◌^◌, ◌<◌, ◌≤◌, List, length, sym, ap, subst, ◌∙◌, arith}
use Rattle.cp_base.specs.declared.region.SpaceId.{SpaceId}
use Rattle.range_claims.specs.Changes.{added, cut_at, joined_at, raised}
use Rattle.range_claims.specs.Counts.{count_at, counted_once, held_at}
use Rattle.range_claims.specs.Places.{base_of, end_of, start_of}
use Rattle.range_claims.specs.Segments.{AreMaximal, AreSmall, Ascend, Counted, IsCut}
use Rattle.range_claims.specs.declared.segments.Segment.{Segment}
use Rattle.range_claims.proofs.Changed.{added_ascend, added_count, added_maximal, both_cut, cut_both, same_held, small_counts}
use Rattle.range_claims.proofs.Cuts.{cut_ascend, cut_length}
use Rattle.range_claims.proofs.Joins.{join_ascend}
use Rattle.range_claims.proofs.segments.Segments.add.Goals as goal

pub cut-requires-2-clause-ascend : goal.cut-requires-2-clause-ascend
cut-requires-2-clause-ascend c = subst (Ascend 0) (sym c.cut.ensures.cut) (cut_ascend 0 c.start-from.result c.self.inside.list.items c.self.invariant.ascend)

pub cut-requires-2-clause-room : goal.cut-requires-2-clause-room
cut-requires-2-clause-room c =
    omega (
      arith,
      c.requires.room,
      ap (λ (v : Counted). length v.segments) c.self.view_is,
      ap (λ (v : Counted). v.room) c.self.view_is,
      ap length c.cut.ensures.cut,
      cut_length c.start-from.result c.self.inside.list.items,
      c.cut.ensures.capacity,
    )

pub raise-requires-clause-ascend : goal.raise-requires-clause-ascend
raise-requires-clause-ascend c =
    let made = c.cut-2.ensures.cut ∙ ap (cut_at c.end-to.result) c.cut.ensures.cut in
    subst (Ascend 0) (sym made) (cut_both c.start-from.result c.end-to.result c.self.inside.list.items c.self.invariant.ascend).ascend

pub raise-requires-clause-begin : goal.raise-requires-clause-begin
raise-requires-clause-begin c =
    let made = c.cut-2.ensures.cut ∙ ap (cut_at c.end-to.result) c.cut.ensures.cut in
    subst (IsCut c.start-from.result) (sym made) (cut_both c.start-from.result c.end-to.result c.self.inside.list.items c.self.invariant.ascend).begin

pub raise-requires-clause-end : goal.raise-requires-clause-end
raise-requires-clause-end c =
    let made = c.cut-2.ensures.cut ∙ ap (cut_at c.end-to.result) c.cut.ensures.cut in
    subst (IsCut c.end-to.result) (sym made) (cut_both c.start-from.result c.end-to.result c.self.inside.list.items c.self.invariant.ascend).end

pub raise-requires-clause-small : goal.raise-requires-clause-small
raise-requires-clause-small c =
    let made = c.cut-2.ensures.cut ∙ ap (cut_at c.end-to.result) c.cut.ensures.cut in
    let both = cut_both c.start-from.result c.end-to.result c.self.inside.list.items c.self.invariant.ascend in
    subst AreSmall (sym made) (small_counts 0 (both_cut c.start-from.result c.end-to.result c.self.inside.list.items) both.ascend
    (λ x. omega (arith, both.counts x, c.requires.small x, ap (λ (v : Counted). count_at v.segments x) c.self.view_is)))

pub raise-requires-clause-room : goal.raise-requires-clause-room
raise-requires-clause-room c =
    let made = c.cut-2.ensures.cut ∙ ap (cut_at c.end-to.result) c.cut.ensures.cut in
    let both = cut_both c.start-from.result c.end-to.result c.self.inside.list.items c.self.invariant.ascend in
    omega (
      arith,
      c.requires.room,
      ap (λ (v : Counted). length v.segments) c.self.view_is,
      ap (λ (v : Counted). v.room) c.self.view_is,
      ap length made,
      both.length,
      c.cut.ensures.capacity,
      c.cut-2.ensures.capacity,
    )

pub join-requires : goal.join-requires
join-requires c =
    let made = c.cut-2.ensures.cut ∙ ap (cut_at c.end-to.result) c.cut.ensures.cut in
    let more = c.raise.ensures.raised ∙ ap (raised c.space.result c.start-from.result c.end-to.result) made in
    subst (Ascend 0) (sym more)
    (added_ascend c.space.result c.start-from.result c.end-to.result c.self.inside.list.items (omega (arith, c.start-from.ensures.value, c.end-to.ensures.behind))
    (omega (arith, ap base_of c.space.ensures, c.start-from.ensures.value)) (omega (arith, ap base_of c.space.ensures, c.end-to.ensures.last)) c.self.invariant.ascend)

pub join-requires-2 : goal.join-requires-2
join-requires-2 c =
    let made = c.cut-2.ensures.cut ∙ ap (cut_at c.end-to.result) c.cut.ensures.cut in
    let more = c.raise.ensures.raised ∙ ap (raised c.space.result c.start-from.result c.end-to.result) made in
    let joined = c.join.ensures.joined ∙ ap (joined_at c.start-from.result) more in
    subst (Ascend 0) (sym joined)
    (join_ascend 0 c.start-from.result (raised c.space.result c.start-from.result c.end-to.result (both_cut c.start-from.result c.end-to.result c.self.inside.list.items))
    (added_ascend c.space.result c.start-from.result c.end-to.result c.self.inside.list.items (omega (arith, c.start-from.ensures.value, c.end-to.ensures.behind))
    (omega (arith, ap base_of c.space.ensures, c.start-from.ensures.value)) (omega (arith, ap base_of c.space.ensures, c.end-to.ensures.last)) c.self.invariant.ascend))

pub invariant_of-self : goal.invariant_of-self
invariant_of-self c =
    let made = c.cut-2.ensures.cut ∙ ap (cut_at c.end-to.result) c.cut.ensures.cut in
    let more = c.raise.ensures.raised ∙ ap (raised c.space.result c.start-from.result c.end-to.result) made in
    let joined = c.join.ensures.joined ∙ ap (joined_at c.start-from.result) more in
    let all = c.join-2.ensures.joined ∙ ap (joined_at c.end-to.result) joined in
    subst AreMaximal (sym all)
    (added_maximal c.space.result c.start-from.result c.end-to.result c.self.inside.list.items (omega (arith, c.start-from.ensures.value, c.end-to.ensures.behind))
    (omega (arith, ap base_of c.space.ensures, c.start-from.ensures.value)) (omega (arith, ap base_of c.space.ensures, c.end-to.ensures.last)) c.self.invariant)

pub returns-clause-counts : goal.returns-clause-counts
returns-clause-counts c = λ x.
    let made = c.cut-2.ensures.cut ∙ ap (cut_at c.end-to.result) c.cut.ensures.cut in
    let more = c.raise.ensures.raised ∙ ap (raised c.space.result c.start-from.result c.end-to.result) made in
    let joined = c.join.ensures.joined ∙ ap (joined_at c.start-from.result) more in
    let all = c.join-2.ensures.joined ∙ ap (joined_at c.end-to.result) joined in
    let counts = added_count c.space.result c.start-from.result c.end-to.result c.self.inside.list.items x (omega (arith, c.start-from.ensures.value, c.end-to.ensures.behind))
    (omega (arith, ap base_of c.space.ensures, c.start-from.ensures.value)) (omega (arith, ap base_of c.space.ensures, c.end-to.ensures.last)) c.self.invariant.ascend in
    let held = same_held c.space.result c.args.range.now.space c.start-from.result c.end-to.result (start_of c.args.range.now) (end_of c.args.range.now) x c.start-from.ensures.value c.end-to.ensures.value in
    ap (λ (some : List Segment). count_at some x) all ∙ counts
    ∙ ap (λ (n : ℕ). count_at c.self.inside.list.items x + n) held
    ∙ ap (λ (v : Counted). count_at v.segments x + held_at (counted_once c.args.range.now) x) c.self.view_is

pub returns-clause-fewest : goal.returns-clause-fewest
returns-clause-fewest c =
    let made = c.cut-2.ensures.cut ∙ ap (cut_at c.end-to.result) c.cut.ensures.cut in
    let more = c.raise.ensures.raised ∙ ap (raised c.space.result c.start-from.result c.end-to.result) made in
    let joined = c.join.ensures.joined ∙ ap (joined_at c.start-from.result) more in
    let all = c.join-2.ensures.joined ∙ ap (joined_at c.end-to.result) joined in
    subst AreMaximal (sym all)
    (added_maximal c.space.result c.start-from.result c.end-to.result c.self.inside.list.items (omega (arith, c.start-from.ensures.value, c.end-to.ensures.behind))
    (omega (arith, ap base_of c.space.ensures, c.start-from.ensures.value)) (omega (arith, ap base_of c.space.ensures, c.end-to.ensures.last)) c.self.invariant)
