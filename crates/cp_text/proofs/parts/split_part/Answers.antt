use Rattle.std.proofs.Common.{add-one}
use Rattle.std.proofs.lemmas.List.{take_rest}
use Rattle.cp_text.proofs.Cuts.{cut_none, cut_some, lacks_none, lacks_some, whole_some}
use Rattle.cp_text.proofs.parts.split_part.Goals as goal

pub returns-in-None-clause-parts : goal.returns-in-None-clause-parts
returns-in-None-clause-parts c = cut_none c.args.mark c.args.text.now c.in-None.ensures

pub returns-in-None-clause-first : goal.returns-in-None-clause-first
returns-in-None-clause-first c = lacks_none c.args.mark c.args.text.now c.in-None.ensures

pub returns-in-Some-clause-parts : goal.returns-in-Some-clause-parts
returns-in-Some-clause-parts c = rw (take_rest, add-one) (cut_some c.args.mark c.args.text.now c.in-Some.end c.in-Some.ensures)

pub returns-in-Some-clause-whole : goal.returns-in-Some-clause-whole
returns-in-Some-clause-whole c = rw (take_rest, add-one) (whole_some c.args.mark c.args.text.now c.in-Some.end c.in-Some.ensures)

pub returns-in-Some-clause-first : goal.returns-in-Some-clause-first
returns-in-Some-clause-first c = lacks_some c.args.mark c.args.text.now c.in-Some.end c.in-Some.ensures
