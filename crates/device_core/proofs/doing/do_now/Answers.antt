-- A command is done at once.
use Rattle.std.proofs.Common.{◌≡◌, ◌∙◌, ℕ, true, IsSomeAnd, List, Option, Some, ap, length, option_map, refl, rules, subst, sym}
use Rattle.cp_base.specs.Answer.{Answer, answer_of}
use Rattle.trail_model.specs.declared.events.Event.TheVariants as event
use Rattle.core_model.specs.Asked.{Asked, asked_at}
use Rattle.core_model.specs.declared.places.WaitingSubmit.{WaitingSubmit}
use Rattle.core_model.specs.Picking.{may_pick_asked, withdrawn_waiting}
use Rattle.device_core.specs.Keep.{parts_of}
use Rattle.device_core.specs.Reading.{as_asked}
use Rattle.device_core.specs.Recorded.{trail_of}
use Rattle.device_core.specs.declared.asked.Wanted.{Wanted}
use Rattle.device_core.proofs.Done.{did-stand, first-post, other-tables-room, second-post}
use Rattle.device_core.proofs.Stands.{few-events}
use Rattle.device_core.proofs.doing.do_now.Goals as goal

pub overflow_cast-posted : goal.overflow_cast-posted
overflow_cast-posted c =
    let few = few-events c.args.config.now c.args.commands c.args.trail.now c.requires.held.0 c.args.keep.now c.requires.held.1 in
    search (rules, few)

pub post-requires-clause-host : goal.post-requires-clause-host
post-requires-clause-host c =
    let read = sym c.asked_in.ensures ∙ ap (λ (o : Option Wanted). option_map as_asked o) c.unwrap-asked.ensures in
    (first-post c.args.config.now c.args.commands c.args.trail.now c.requires.held.0 c.requires.waits.0 c.args.x (as_asked c.unwrap-asked.result) c.args.keep.now
    c.requires.held.1 c.requires.waits.1 read).host

pub post-requires-clause-waits : goal.post-requires-clause-waits
post-requires-clause-waits c =
    let read = sym c.asked_in.ensures ∙ ap (λ (o : Option Wanted). option_map as_asked o) c.unwrap-asked.ensures in
    (first-post c.args.config.now c.args.commands c.args.trail.now c.requires.held.0 c.requires.waits.0 c.args.x (as_asked c.unwrap-asked.result) c.args.keep.now
    c.requires.held.1 c.requires.waits.1 read).waits

pub post-requires-clause-room : goal.post-requires-clause-room
post-requires-clause-room c =
    let read = sym c.asked_in.ensures ∙ ap (λ (o : Option Wanted). option_map as_asked o) c.unwrap-asked.ensures in
    (first-post c.args.config.now c.args.commands c.args.trail.now c.requires.held.0 c.requires.waits.0 c.args.x (as_asked c.unwrap-asked.result) c.args.keep.now
    c.requires.held.1 c.requires.waits.1 read).room

pub post_withdrawn-requires : goal.post_withdrawn-requires
post_withdrawn-requires c =
    let names = c.withdrawn-aborts.ensures ∙ ap (λ (waiting : List WaitingSubmit). withdrawn_waiting waiting c.args.x.names) c.deref.ensures.value in
    let events = c.args.trail.now in
    let asked = as_asked c.unwrap-asked.result in
    let read = sym c.asked_in.ensures ∙ ap (λ (o : Option Wanted). option_map as_asked o) c.unwrap-asked.ensures in
    let can = first-post c.args.config.now c.args.commands events c.requires.held.0 c.requires.waits.0 c.args.x asked c.args.keep.now c.requires.held.1 c.requires.waits.1 read in
    second-post c.args.config.now c.args.commands events c.requires.held.0 c.requires.waits.0 (length events) c.args.x asked c.args.keep.now c.post.new.self
    c.tell-reply.new.slots c.tell-reply.new.sets c.withdrawn-aborts.result c.requires.held.1 c.requires.waits.1 names
    (c.post.ensures.moves (length events) can.apart)
    (c.post.ensures.room c.args.config.now.depth c.args.commands
    (other-tables-room c.args.config.now.depth c.args.commands c.args.keep.now c.tell-reply.new.slots c.tell-reply.new.sets c.requires.held.1.room))

pub returns-clause-stands : goal.returns-clause-stands
returns-clause-stands c =
    let names = c.withdrawn-aborts.ensures ∙ ap (λ (waiting : List WaitingSubmit). withdrawn_waiting waiting c.args.x.names) c.deref.ensures.value in
    let events = c.args.trail.now in
    let asked : Asked = as_asked c.unwrap-asked.result in
    let read : asked_at (trail_of events) c.args.x.sent ≡ Some asked = sym c.asked_in.ensures ∙ ap (λ (o : Option Wanted). option_map as_asked o) c.unwrap-asked.ensures in
    let can = first-post c.args.config.now c.args.commands events c.requires.held.0 c.requires.waits.0 c.args.x asked c.args.keep.now c.requires.held.1 c.requires.waits.1 read in
    did-stand c.args.config.now c.args.commands events c.requires.held.0 c.args.by c.requires.waits.0 (length events) c.args.x asked
    c.args.keep.now c.post.new.self c.post_withdrawn.new.keep c.tell-reply.new.slots c.tell-reply.new.sets c.withdrawn-aborts.result (answer_of c.tell-reply.result)
    c.requires.held.1 c.requires.party c.requires.idle c.requires.waits.1 read
    (subst (λ (o : Option Asked). may_pick_asked c.args.config.now (parts_of (length events) c.args.keep.now) o ≡ true) read c.requires.may)
    refl names c.tell-reply.ensures (c.post.ensures.moves (length events) can.apart) c.post_withdrawn.ensures.moves

pub returns-clause-does : goal.returns-clause-does
returns-clause-does c =
    let names = c.withdrawn-aborts.ensures ∙ ap (λ (waiting : List WaitingSubmit). withdrawn_waiting waiting c.args.x.names) c.deref.ensures.value in
    let asked : Asked = as_asked c.unwrap-asked.result in
    let answer : Answer = answer_of c.tell-reply.result in
    let by = c.args.by in
    let sent = c.args.x.sent in
    let aborts = c.withdrawn-aborts.result in
    let withdraws = withdrawn_waiting c.args.keep.now.waiting.items c.args.x.names in
    let read : asked_at (trail_of c.args.trail.now) sent ≡ Some asked = sym c.asked_in.ensures ∙ ap (λ (o : Option Wanted). option_map as_asked o) c.unwrap-asked.ensures in
    subst (λ (o : Option Asked). IsSomeAnd o (λ (a : Asked). (told : Answer) × (event.Do by asked.host asked.ordinal sent answer aborts ≡ event.Do by a.host a.ordinal sent told withdraws))) (sym read)
    (answer, ap (λ (w : Option ℕ). event.Do by asked.host asked.ordinal sent answer w) names)

pub returns-clause-room : goal.returns-clause-room
returns-clause-room c depth commands room =
    c.post_withdrawn.ensures.room depth commands (c.post.ensures.room depth commands
    (other-tables-room depth commands c.args.keep.now c.tell-reply.new.slots c.tell-reply.new.sets room))
