use Rattle.std.proofs.Common.{◌≡◌, [], length}
use Rattle.range_sets.specs.Places.{sets_from}
use Rattle.range_sets.proofs.sets.Sets.new.Given as goal

abbrev pub invariant-loop : goal.invariant-loop
invariant-loop l = (sets_from 1 l.places.items ≡ []) × (length l.places.items ≡ l.counter)
