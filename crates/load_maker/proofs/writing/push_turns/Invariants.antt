use Rattle.std.proofs.Common.{◌≡◌}
use Rattle.load_maker.specs.Load.{host_turns, seed_state}
use Rattle.load_maker.specs.Made.{PrintsLines}
use Rattle.load_maker.proofs.writing.push_turns.Given as goal

abbrev pub invariant-loop-number : goal.invariant-loop-number
invariant-loop-number l =
    (l.words ≡ seed_state l.seed l.number) × PrintsLines (host_turns l.seed l.host l.number) l.initial.out.items l.out.items
