-- Each turn adds an extent to the run.
use Rattle.std.proofs.Common.{◌≡◌, ◌+◌, Some, length, sym, ap, ◌∙◌, subst, arith}
use Rattle.extents.specs.Tiles.{HasExtent, IsRun}
use Rattle.extents.specs.declared.tiles.Extent.TheVariants.{Home}
use Rattle.extents.proofs.Running.{reaches, run_more}
use Rattle.extents.proofs.tiles.run_end.Goals as goal

pub overflow_add-end : goal.overflow_add-end
overflow_add-end c =
    let here : HasExtent c.args.tiles.now.entries c.loop-end.end (Home c.in-Some-Home.bytes) = sym c.in-Some-Home.ensures.value ∙ ap Some c.in-Some-Home.field-0-is in
    let far = reaches c.args.tiles.now.entries c.loop-end.end c.in-Some-Home.bytes c.requires.tiles here in
    omega (arith, far.1, c.requires.bounded, c.len-in-loop-end.ensures)

pub loop-end-smaller : goal.loop-end-smaller
loop-end-smaller c =
    let here : HasExtent c.args.tiles.now.entries c.loop-end.end (Home c.in-Some-Home.bytes) = sym c.in-Some-Home.ensures.value ∙ ap Some c.in-Some-Home.field-0-is in
    let far = reaches c.args.tiles.now.entries c.loop-end.end c.in-Some-Home.bytes c.requires.tiles here in
    omega (arith, far.0, far.1, c.len-in-loop-end.ensures)

pub loop-end-preserved : goal.loop-end-preserved
loop-end-preserved c =
    let here : HasExtent c.args.tiles.now.entries c.loop-end.end (Home c.in-Some-Home.bytes) = sym c.in-Some-Home.ensures.value ∙ ap Some c.in-Some-Home.field-0-is in
    let more = run_more c.args.tiles.now.entries c.args.at c.loop-end.end c.in-Some-Home.bytes c.requires.tiles c.loop-end.invariant here in
    let n : c.loop-end.end + length c.in-Some-Home.bytes.items ≡ c.loop-end.end + c.len-in-loop-end.result = omega (arith, c.len-in-loop-end.ensures) in
    subst (IsRun c.args.tiles.now.entries c.args.at) n more
