use Rattle.std.proofs.Common.{◌≡◌, ◌++◌, drop, length, map}
use Rattle.std.specs.String.{string_bytes}
use Rattle.std.specs.Vec.Iter.{into_iter_items}
use Rattle.nvmecp.proofs.words_behind_the_name.Given as goal

-- the words so far and those that are still to come
abbrev pub invariant-loop-word : goal.invariant-loop-word
invariant-loop-word l = map string_bytes (l.words.items ++ into_iter_items l.args) ≡ drop 1 (map string_bytes (into_iter_items l.fn.args))

abbrev pub decreases-loop-word : goal.decreases-loop-word
decreases-loop-word l = length (into_iter_items l.args)
