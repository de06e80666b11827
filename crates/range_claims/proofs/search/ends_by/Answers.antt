-- There is such a segment, and its bytes end where it ends.
use Rattle.std.proofs.Common.{ℕ, nat_le, ap, ◌∙◌}
use Rattle.range_claims.proofs.Probes.{read_end, read_none}
use Rattle.range_claims.proofs.search.ends_by.Goals as goal

pub returns-in-Some-clause-value : goal.returns-in-Some-clause-value
returns-in-Some-clause-value g c = λ d.
    ap (λ (n : ℕ). nat_le n c.args.place)
    (c.end.ensures.value ∙ read_end c.args.segments.now.segments c.args.i d c.in-Some.bytes c.requires.fewest.ascend c.in-Some.ensures.value c.requires.within)

pub returns-in-None-clause-value : goal.returns-in-None-clause-value
returns-in-None-clause-value g c = λ d. absurd (read_none c.args.segments.now.segments c.args.i d c.in-None.ensures.value c.requires.within)
