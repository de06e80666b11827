use Rattle.std.proofs.Common.{◌≡◌, map, option_map}
use Rattle.cp_text.specs.Parts.{parts_between, parts_in}
use Rattle.script_line.specs.Reading.{read_each, read_range}
use Rattle.script_line.specs.Values.{range_view}
use Rattle.script_line.specs.private.Outcomes.{followed}
use Rattle.script_line.proofs.Triples.{left}
use Rattle.script_line.proofs.lists.read_ranges.Given as goal

abbrev pub invariant-loop-rest : goal.invariant-loop-rest
invariant-loop-rest l = followed l.fault (map range_view l.ranges.items) (read_each read_range (parts_in 44 (option_map (λ text. text.now) l.rest))) ≡ read_each read_range (parts_between 44 l.text)

abbrev pub decreases-loop-rest : goal.decreases-loop-rest
decreases-loop-rest l = left (option_map (λ text. text.now) l.rest)
