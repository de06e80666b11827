-- How much is done in so many rounds of a workload. This project's own.
use Rattle.std.specs.Prelude.{ℕ, ◌*◌}
use Rattle.range_claims.specs.Steps.{ranges_touched}
use Rattle.parts_bench.specs.Parts.{footprint_at, free_in, range_len}
use Rattle.parts_bench.specs.declared.workload.Workload.{Workload}
use Rattle.parts_bench.specs.declared.workload.Workload.TheVariants.{Pieces, AskOne, AskSixteen, ChangeOne, ChangeSixteen, Exchange, Kernel, Plain}

-- the pieces that are loaded, the commands that may begin, the ranges of the claims that came and went, the bytes that
-- were moved, and the runs of a program that gave what a plain loop gives
abbrev pub tally : Workload → ℕ → ℕ
tally Pieces rounds = rounds
tally AskOne rounds = rounds * free_in 32 1
tally AskSixteen rounds = rounds * free_in 32 16
tally ChangeOne rounds = rounds * ranges_touched (footprint_at 1984 0 1)
tally ChangeSixteen rounds = rounds * ranges_touched (footprint_at 1984 16 16)
tally (Exchange places) rounds = rounds * range_len places
tally (Kernel program) rounds = rounds
tally (Plain program) rounds = rounds
