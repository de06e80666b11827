-- A segment at a place in the list is read.
use Rattle.std.proofs.Common.{◌≡◌, ℕ, ◌<◌, ◌≤◌, Option, option_map, slice_get, length, refl, sym, subst, ap, ◌∙◌, arith}
use Rattle.std.proofs.lemmas.Option.{slice_get_past, slice_get_read}
use Rattle.range_claims.specs.Segments.{Counted, IsFrom}
use Rattle.range_claims.specs.Steps.{segment_region}
use Rattle.range_claims.proofs.Probes.{from_at}
use Rattle.range_claims.proofs.segments.Segments.probe.Goals as goal

pub bytes_of-requires : goal.bytes_of-requires
bytes_of-requires g c =
    subst (IsFrom 0) (sym c.index.ensures) (from_at 0 c.args.i c.self.inside.list.items c.index.result.now c.self.invariant.ascend (omega (arith, c.if-i-len.true, c.len.ensures)))

pub returns-then-i-len-clause-value : goal.returns-then-i-len-clause-value
returns-then-i-len-clause-value g c =
    let read = slice_get_read c.self.inside.list.items (length c.self.inside.list.items) c.args.i c.index.result.now refl (omega (arith, c.if-i-len.true, c.len.ensures)) c.index.ensures in
    c.bytes_of.ensures ∙ sym (ap (option_map segment_region) read)
    ∙ ap (λ (v : Counted). option_map segment_region (slice_get v.segments c.args.i)) c.self.view_is

pub returns-clause-value : goal.returns-clause-value
returns-clause-value g c =
    let none = slice_get_past c.self.inside.list.items c.args.i (omega (arith, c.if-i-len.false, c.len.ensures)) in
    sym (ap (option_map segment_region) none) ∙ ap (λ (v : Counted). option_map segment_region (slice_get v.segments c.args.i)) c.self.view_is
