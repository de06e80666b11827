-- Where there is such a segment, its bytes begin where it begins.
use Rattle.std.proofs.Common.{ℕ, nat_lt, ap, ◌∙◌}
use Rattle.range_claims.proofs.Probes.{read_inside, read_none, read_start}
use Rattle.range_claims.proofs.search.begins_before.Goals as goal

pub returns-in-Some-clause-value : goal.returns-in-Some-clause-value
returns-in-Some-clause-value g c = λ d below.
    ap (λ (n : ℕ). nat_lt n c.args.place)
    (c.start.ensures.value ∙ read_start c.args.segments.now.segments c.args.i d c.in-Some.bytes c.requires.ascend c.in-Some.ensures.value below)

pub returns-in-Some-clause-none : goal.returns-in-Some-clause-none
returns-in-Some-clause-none g c = λ past. absurd (read_inside c.args.segments.now.segments c.args.i c.in-Some.bytes c.in-Some.ensures.value past)

pub returns-in-None-clause-value : goal.returns-in-None-clause-value
returns-in-None-clause-value g c = λ d below. absurd (read_none c.args.segments.now.segments c.args.i d c.in-None.ensures.value below)
