-- What ends before the range stays.
use Rattle.std.proofs.Common.{◌≡◌, ℕ, ◌+◌, ◌*◌, ◌<◌, ◌≤◌, List, length, drop, sym, ap, subst, ◌∙◌, arith, refl}
use Rattle.range_claims.specs.Changes.{ended, raised, raised_from}
use Rattle.range_claims.specs.Segments.{AreSmall, Ascend, IsCut}
use Rattle.range_claims.specs.declared.segments.Segment.{Segment}
use Rattle.range_claims.proofs.Walks.{ascend_ended, cut_drop, raised_begin, small_drop}
use Rattle.range_claims.proofs.segments.raise.Goals as goal

pub loop-i-init : goal.loop-i-init
loop-i-init c =
    let first = c.first_behind-i.ensures.value ∙ ap (ended c.args.from) c.as_slice.ensures.value in
    let items = c.args.list.now.items in
    record {
      within = subst (λ (xs : List Segment). c.first_behind-i.result ≤ length xs) c.as_slice.ensures.value c.first_behind-i.ensures.bounded;
      order = omega (arith, c.requires.order);
      ascend = subst (λ (i : ℕ). Ascend c.args.from (drop i items)) (sym first) (ascend_ended 0 c.args.from items c.requires.ascend c.requires.begin);
      small = small_drop c.first_behind-i.result items c.requires.small;
      cut = cut_drop c.args.to c.first_behind-i.result items c.requires.end;
      room = omega (arith, c.requires.room);
      done = ap (λ (i : ℕ). raised_from c.args.space c.args.from c.args.to i items) first ∙ raised_begin c.args.space c.args.from c.args.to items;
      capacity = refl;
    }
