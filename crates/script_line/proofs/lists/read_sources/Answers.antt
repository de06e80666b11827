use Rattle.std.proofs.Common.{◌∙◌, option_map}
use Rattle.cp_text.specs.Parts.{parts_in}
use Rattle.script_line.proofs.lists.read_sources.Goals as goal

pub loop-rest-preserved : goal.loop-rest-preserved
loop-rest-preserved c =
    let before = rw (c.in-Some.is, c.split_part.ensures.parts) at c.loop-rest.invariant in
    c.in_ok-fault.ensures (parts_in 44 (option_map (λ text. text.now) c.split_part.result.1)) ∙ before
