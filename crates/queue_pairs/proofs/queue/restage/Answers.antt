-- The stage is given at the index of the identifier.
use Rattle.std.proofs.Common.{◌≡◌, ℕ, List, Option, Some, get_or, set, sym, refl, ap, ◌∙◌, subst, eqb}
use Rattle.std.specs.List.{position}
use Rattle.queue_pairs.specs.Outstanding.{CidsDiffer, with_stage}
use Rattle.queue_pairs.specs.declared.command.Outstanding.{Outstanding}
use Rattle.queue_pairs.specs.declared.command.Stage.{Stage}
use Rattle.queue_pairs.proofs.Commands.{at_position, differ_staged, position_in, some_index, staged_by_place, with_stage_at}
use Rattle.queue_pairs.proofs.queue.restage.Goals as goal

-- what is written at the index that was found
written : (os qs : List Outstanding) (cid i : ℕ) (found : Option ℕ) (d : Outstanding) (s : Stage) → qs ≡ os → found ≡ position (λ command. eqb command.cid cid) qs
    → found ≡ Some i → d ≡ get_or os i d → CidsDiffer os → set os i (record d { stage = s }) ≡ with_stage os cid s
written os qs cid i found d s e f g h differ =
    ap (λ (o : Outstanding). set os i (record o { stage = s })) h
    ∙ with_stage_at os cid i d s differ (at_position os cid i d (position_in os qs cid found (Some i) e f g))

pub unwrap-index-requires : goal.unwrap-index-requires
unwrap-index-requires c =
    some_index c.args.commands.now.items c.args.cid c.index_of.result
    (position_in c.args.commands.now.items c.deref.result.now c.args.cid c.index_of.result c.index_of.result c.deref.ensures.value c.index_of.ensures refl) c.requires.outstanding

pub returns-clause-staged : goal.returns-clause-staged
returns-clause-staged c =
    written c.args.commands.now.items c.deref.result.now c.args.cid _ _ c.index_mut.result.now c.args.stage c.deref.ensures.value c.index_of.ensures c.unwrap-index.ensures c.index_mut.ensures.value c.requires.differ

pub returns-clause-differ : goal.returns-clause-differ
returns-clause-differ c =
    let staged = written c.args.commands.now.items c.deref.result.now c.args.cid _ _ c.index_mut.result.now c.args.stage c.deref.ensures.value c.index_of.ensures c.unwrap-index.ensures c.index_mut.ensures.value c.requires.differ in
    subst CidsDiffer (sym staged) (differ_staged c.args.commands.now.items c.args.cid c.args.stage c.requires.differ)

pub returns-clause-by_place : goal.returns-clause-by_place
returns-clause-by_place c command found apart =
    written c.args.commands.now.items c.deref.result.now c.args.cid _ _ c.index_mut.result.now c.args.stage c.deref.ensures.value c.index_of.ensures c.unwrap-index.ensures c.index_mut.ensures.value c.requires.differ
    ∙ staged_by_place c.args.commands.now.items c.args.cid c.args.stage command c.requires.differ apart found
