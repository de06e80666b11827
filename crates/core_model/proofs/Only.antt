-- That a trail is lawful is a proposition: it holds in one way.
use Rattle.std.proofs.Common.{ℕ, Bool, true, false, [], ◌∷◌, Option}
use Rattle.std.proofs.Props.{props}
use Rattle.cp_base.specs.Answer.{Answer}
use Rattle.cp_base.specs.Configuration.{Configuration}
use Rattle.cp_base.specs.declared.commands.Command.{Command}
use Rattle.cp_base.specs.declared.replies.Status.{Status}
use Rattle.trail_model.specs.Lawful.{IsAllowedIn, IsLawful, IsLawfulFrom, MayAnswer, Trail}
use Rattle.trail_model.specs.World.{World, first_world, world_after}
use Rattle.trail_model.specs.declared.events.Event.{Event}
use Rattle.trail_model.specs.declared.events.Event.TheVariants as event

status-set : IsSet Status
status-set = hlevel props

answer-set : IsSet Answer
answer-set = hlevel (props, status-set)

answer-only : (b : Bool) (c : Configuration) (w : World) (cmd : Command) (aborts : Option ℕ) (answer : Answer) → IsProp (MayAnswer b c w cmd aborts answer)
answer-only true c w cmd aborts answer = hlevel (props, answer-set)
answer-only false c w cmd aborts answer = hlevel (props, answer-set)

allowed-only : (c : Configuration) (commands : ℕ) (w : World) (e : Event) → IsProp (IsAllowedIn c commands w e)
allowed-only c commands w (event.Submit by cid ordinal cmd) = hlevel props
allowed-only c commands w (event.Claim by host ordinal sent) = hlevel props
allowed-only c commands w (event.Finish by claim answer) = hlevel (props, answer-set)
allowed-only c commands w (event.Do by host ordinal sent answer aborts) = hlevel (props, answer-only)
allowed-only c commands w (event.Take by cid posted) = hlevel props
allowed-only c commands w (event.Rest by) = hlevel props

lawful-from-only : (c : Configuration) (commands : ℕ) (w : World) (trail : Trail) → IsProp (IsLawfulFrom c commands w trail)
lawful-from-only c commands w [] = hlevel props
lawful-from-only c commands w (e ∷ trail) =
    let one = allowed-only c commands w e in
    let more = lawful-from-only c commands (world_after c w e) trail in
    hlevel (props, one, more)

pub lawful-only : (c : Configuration) (commands : ℕ) (trail : Trail) → IsProp (IsLawful c commands trail)
lawful-only c commands trail = lawful-from-only c commands (first_world c) trail
