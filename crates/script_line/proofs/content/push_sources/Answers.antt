use Rattle.std.proofs.Common.{◌++◌, ◌+◌, ap, drop, List, ℕ, map}
use Rattle.script_line.specs.Field.{source_text}
use Rattle.script_line.specs.Sized.{IsSizedSource}
use Rattle.script_line.proofs.Printed.{joined_is, listed_more, sized_more}
use Rattle.script_line.proofs.Walk.{drop-at}
use Rattle.script_line.proofs.content.push_sources.Goals as goal

pub loop-source-init : goal.loop-source-init
loop-source-init c = record { text = ap (λ (t : List ℕ). c.args.out.now.items ++ t) (joined_is 44 (map source_text c.args.sources.now)); sized = λ h. h }

pub loop-source-preserved : goal.loop-source-preserved
loop-source-preserved c =
    let i = c.loop-source.source-index in
    let xs = drop i c.args.sources.now in
    let rest = drop (i + 1) c.args.sources.now in
    record {
      text = listed_more source_text 44 c.loop-source.out.items _ c.push_piece.new.out.items c.push_source.new.out.items c.loop-source.before.now xs rest _ (drop-at c.args.sources.now i _ c.loop-source-test.true) c.in_ok-push_piece.ensures.items c.in_ok-push_source.ensures.text c.loop-source.invariant.text;
      sized = λ h. c.loop-source.invariant.sized (sized_more IsSizedSource xs rest _ (drop-at c.args.sources.now i _ c.loop-source-test.true) c.in_ok-push_source.ensures.sized h);
    }
