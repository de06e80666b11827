use Rattle.std.proofs.Common.{eqb}
use Rattle.std.proofs.lemmas.List.Splits.{length-slice_split}
use Rattle.cp_text.proofs.Joined.{joined_again, part_first, parts_again}
use Rattle.cp_text.proofs.laws.part_laws.Goals as goal

pub returns-clause-joined_again : goal.returns-clause-joined_again
returns-clause-joined_again c = joined_again

pub returns-clause-number : goal.returns-clause-number
returns-clause-number c mark text = length-slice_split (λ byte. eqb byte mark) text

pub returns-clause-parts_again : goal.returns-clause-parts_again
returns-clause-parts_again c = parts_again

pub returns-clause-first_again : goal.returns-clause-first_again
returns-clause-first_again c = part_first
