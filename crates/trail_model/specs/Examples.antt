-- Small trails, for worked examples. This project's own.
use Rattle.std.specs.Prelude.{ℕ, List, [], ◌∷◌, ◌++◌, Option, None, map}
use Rattle.cp_base.specs.Answer.{Answer, only_status}
use Rattle.cp_base.specs.declared.commands.Command.{Command}
use Rattle.cp_base.specs.declared.commands.Command.TheVariants as command
use Rattle.cp_base.specs.declared.region.SpaceId.TheVariants as space
use Rattle.cp_base.specs.declared.replies.Status.{Status}
use Rattle.cp_base.specs.declared.replies.Status.TheVariants as status
use Rattle.device_model.specs.Examples.{range, small}
use Rattle.device_model.specs.Execution.{tells}
use Rattle.trail_model.specs.Lawful.{Trail, history_of, world_of}
use Rattle.trail_model.specs.World.{Completion, Submission, home, pickable_among}
use Rattle.trail_model.specs.declared.events.Event.TheVariants as event

-- the places of the submits that may be picked after a trail, in order of submission
abbrev pub pickable_after : Trail → List ℕ
pickable_after trail = map (λ (s : Submission). s.request.place) (pickable_among small (world_of small trail))

-- the byte at an offset of memory namespace 1 after a trail, where it is at home
abbrev pub home_after : Trail → ℕ → Option ℕ
home_after trail offset = home small (world_of small trail) (space.Mem 1) offset

-- what the completions of a trail tell, in order: the place of the submit, and the status and the number
abbrev pub told_after : Trail → List (ℕ × Status × ℕ)
told_after trail =
    map (λ (done : Completion). (done.request.place, done.answer.status, done.answer.result)) (history_of small trail)

-- the completion of the command of a submit
abbrev pub ends_so : ℕ → Status → ℕ → ℕ × Status × ℕ
ends_so place status result = (place, status, result)

-- host 1 fills four bytes that host 2 wants to read, and a worker has claimed the fill
abbrev pub fills : ℕ → ℕ → Command
fills at len = command.MemFill 1 at len 1

abbrev pub reads : ℕ → ℕ → Command
reads at len = command.MemRead 1 at len

abbrev pub two_that_meet : Trail
two_that_meet = event.Submit 1 1 1 (fills 0 4) ∷ event.Submit 2 1 1 (reads 2 4) ∷ event.Claim 17 1 1 0 ∷ []

abbrev pub answered_ok : Answer
answered_ok = only_status status.Ok

-- the fill is over
abbrev pub first_is_over : Trail
first_is_over = two_that_meet ++ event.Finish 17 2 answered_ok ∷ []

-- two hosts read bytes that they share, and both are claimed; a third wants to fill one of them
abbrev pub two_readers : Trail
two_readers =
    event.Submit 1 1 1 (reads 0 4) ∷ event.Submit 2 1 1 (reads 0 4) ∷ event.Submit 3 1 1 (fills 0 1)
    ∷ event.Claim 17 1 1 0 ∷ event.Claim 18 2 1 1 ∷ []

-- a set of eight bytes, and a program of the device that is executed on it by a worker; host 2 wants to delete the set
abbrev pub held_set_trail : Trail
held_set_trail =
    event.Submit 1 1 1 (command.SetCreate (range 0 8 ∷ [])) ∷ event.Do 17 1 1 0 (tells status.Ok 1) None
    ∷ event.Submit 1 2 2 (command.Execute 65 1 0 0 8) ∷ event.Submit 2 1 1 (command.SetDelete 1) ∷ event.Claim 17 1 2 2
    ∷ []

-- a host fills four bytes, and then wants to withdraw the fill
abbrev pub fill_and_abort : Trail
fill_and_abort = event.Submit 1 1 1 (fills 0 4) ∷ event.Submit 1 2 2 (command.Abort 1) ∷ []
