-- The command is let go of at the index of its identifier.
use Rattle.std.proofs.Common.{◌≡◌, ℕ, List, Option, Result, Some, None, Ok, Err, get_or, sym, refl, ap, ◌∙◌, subst, eqb}
use Rattle.std.specs.List.{position}
use Rattle.queue_pairs.specs.Outstanding.{CidsDiffer, taken, taken_at, under}
use Rattle.queue_pairs.specs.declared.causes.TakeCause.{TakeCause}
use Rattle.queue_pairs.specs.declared.causes.TakeCause.TheVariants.{NotYet}
use Rattle.queue_pairs.specs.declared.command.Outstanding.{Outstanding}
use Rattle.queue_pairs.specs.declared.command.Stage.{Stage}
use Rattle.queue_pairs.specs.declared.command.Stage.TheVariants.{Queued, Picked, Posted}
use Rattle.queue_pairs.proofs.Commands.{IsAt, at_position, differ_without, free_without_position, none_under, position_in, under_at, without_at, without_by_place}
use Rattle.queue_pairs.proofs.queue.take_from.Goals as goal

-- what is found at the index that was found
at_index : (os qs : List Outstanding) (cid i : ℕ) (found : Option ℕ) (d : Outstanding) → qs ≡ os → found ≡ position (λ command. eqb command.cid cid) qs
    → found ≡ Some i → IsAt os cid i d
at_index os qs cid i found d e f g = at_position os cid i d (position_in os qs cid found (Some i) e f g)

-- the answer to that command
answered : (os : List Outstanding) (cid i : ℕ) (d : Outstanding) (result : Result ℕ TakeCause) → IsAt os cid i d → d ≡ get_or os i d → taken_at d.stage ≡ result → result ≡ taken (under os cid)
answered os cid i d result at h e =
    sym e ∙ ap (λ (o : Outstanding). taken_at o.stage) h ∙ ap taken (sym (under_at os cid i d at))

pub returns-in_default-clause-answer : goal.returns-in_default-clause-answer
returns-in_default-clause-answer c =
    let none = position_in c.args.commands.now.items c.deref.result.now c.args.cid _ None c.deref.ensures.value c.index_of.ensures c.in_default.is in
    ap taken (sym (none_under c.args.commands.now.items c.args.cid (free_without_position c.args.commands.now.items c.args.cid none)))

pub returns-clause-taken : goal.returns-clause-taken
returns-clause-taken c =
    let at = at_index c.args.commands.now.items c.deref.result.now c.args.cid c.in-Some.index _ c.index.result.now c.deref.ensures.value c.index_of.ensures c.in-Some.is in
    c.remove.ensures.items ∙ without_at c.args.commands.now.items c.args.cid c.in-Some.index c.index.result.now c.requires at

pub returns-clause-answer : goal.returns-clause-answer
returns-clause-answer c =
    let at = at_index c.args.commands.now.items c.deref.result.now c.args.cid c.in-Some.index _ c.index.result.now c.deref.ensures.value c.index_of.ensures c.in-Some.is in
    answered c.args.commands.now.items c.args.cid c.in-Some.index c.index.result.now (Ok c.in-Ok.place) at c.index.ensures (sym c.taken_at.ensures ∙ c.in-Ok.is)

pub returns-clause-differ : goal.returns-clause-differ
returns-clause-differ c =
    let at = at_index c.args.commands.now.items c.deref.result.now c.args.cid c.in-Some.index _ c.index.result.now c.deref.ensures.value c.index_of.ensures c.in-Some.is in
    let left = c.remove.ensures.items ∙ without_at c.args.commands.now.items c.args.cid c.in-Some.index c.index.result.now c.requires at in
    subst CidsDiffer (sym left) (differ_without c.args.commands.now.items c.args.cid c.requires)

pub returns-clause-by_place : goal.returns-clause-by_place
returns-clause-by_place c command found apart =
    let at = at_index c.args.commands.now.items c.deref.result.now c.args.cid c.in-Some.index _ c.index.result.now c.deref.ensures.value c.index_of.ensures c.in-Some.is in
    c.remove.ensures.items ∙ without_at c.args.commands.now.items c.args.cid c.in-Some.index c.index.result.now c.requires at
    ∙ without_by_place c.args.commands.now.items c.args.cid command c.requires apart found

-- a command without an answer has none yet
refused : (stage : Stage) (cause : TakeCause) → taken_at stage ≡ Err cause → taken_at stage ≡ Err NotYet
refused Queued cause e = refl
refused Picked cause e = refl
refused (Posted place) cause e = absurd (cc)

pub returns-in_default-taken_at-clause-answer : goal.returns-in_default-taken_at-clause-answer
returns-in_default-taken_at-clause-answer c =
    let at = at_index c.args.commands.now.items c.deref.result.now c.args.cid c.in-Some.index _ c.index.result.now c.deref.ensures.value c.index_of.ensures c.in-Some.is in
    answered c.args.commands.now.items c.args.cid c.in-Some.index c.index.result.now (Err NotYet) at c.index.ensures
    (refused c.index.result.now.stage c.in_default-taken_at.field-0 (sym c.taken_at.ensures ∙ c.in_default-taken_at.is))
