use Rattle.std.proofs.Common.{refl}
use Rattle.load_maker.proofs.Printed.{prints_none}
use Rattle.load_maker.proofs.Turns.{next_turn}
use Rattle.load_maker.proofs.writing.push_turns.Goals as goal

pub loop-number-init : goal.loop-number-init
loop-number-init c = (c.seed_from_u64-words.ensures.same, prints_none c.args.out.now.items)

pub loop-number-preserved : goal.loop-number-preserved
loop-number-preserved c =
    next_turn c.args.seed c.args.host c.loop-number.number c.next_word-word.result c.loop-number.words c.next_word-word.new.self c.args.out.now.items
    c.loop-number.out.items c.push_own.new.out.items c.loop-number.invariant.0 c.next_word-word.ensures c.loop-number.invariant.1
    c.in_ok-push_own.ensures
