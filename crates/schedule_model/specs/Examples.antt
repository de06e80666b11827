-- Small plans and their scheduled trails, for worked examples. This project's own.
use Rattle.std.specs.Prelude.{ℕ, List, [], ◌∷◌, Some, None}
use Rattle.cp_base.specs.declared.commands.Command.TheVariants as command
use Rattle.cp_base.specs.declared.replies.Status.TheVariants as status
use Rattle.device_model.specs.Execution.{tells}
use Rattle.history_model.specs.Plain.{PlainItem, PlainPart, Sends, Takes}
use Rattle.trail_model.specs.Examples.{answered_ok, fills}
use Rattle.trail_model.specs.Lawful.{Trail}
use Rattle.trail_model.specs.declared.events.Event.TheVariants as event
use Rattle.schedule_model.specs.Deeds.{Phases}

abbrev pub acting : ℕ → List PlainItem → PlainPart
acting host items = record { host = host; items = items }

abbrev pub phase_of : List PlainPart → Phases
phase_of parts = parts ∷ []

-- a host fills four bytes and wants to withdraw the fill
abbrev pub fill_then_abort : Phases
fill_then_abort = phase_of (acting 1 (Sends 1 (fills 0 4) ∷ Sends 2 (command.Abort 1) ∷ Takes 1 ∷ Takes 2 ∷ []) ∷ [])

-- the fill is answered_ok first, and its reply is taken before the Abort is answered_ok
abbrev pub too_late : Trail
too_late =
    event.Submit 1 1 1 (fills 0 4) ∷ event.Submit 1 2 2 (command.Abort 1) ∷ event.Claim 17 1 1 0 ∷ event.Finish 17 2 answered_ok
    ∷ event.Take 1 1 3 ∷ event.Do 17 1 2 1 (tells status.Ok 1) None ∷ event.Take 1 2 5 ∷ event.Rest 1 ∷ []

-- the Abort is answered_ok first
abbrev pub in_time : Trail
in_time =
    event.Submit 1 1 1 (fills 0 4) ∷ event.Submit 1 2 2 (command.Abort 1) ∷ event.Do 17 1 2 1 answered_ok (Some 0)
    ∷ event.Take 1 1 2 ∷ event.Take 1 2 2 ∷ event.Rest 1 ∷ []

-- two hosts that do nothing in two phases
abbrev pub idle_phases : Phases
idle_phases = (acting 1 [] ∷ acting 2 [] ∷ []) ∷ (acting 2 [] ∷ []) ∷ []

abbrev pub one_rest : Trail
one_rest = event.Rest 1 ∷ []

-- two hosts fill bytes that they share, each in a phase of its own
abbrev pub one_after_another : Phases
one_after_another =
    (acting 1 (Sends 1 (fills 0 4) ∷ Takes 1 ∷ []) ∷ []) ∷ (acting 2 (Sends 1 (fills 2 4) ∷ Takes 1 ∷ []) ∷ []) ∷ []

abbrev pub in_turn : Trail
in_turn =
    event.Submit 1 1 1 (fills 0 4) ∷ event.Claim 17 1 1 0 ∷ event.Finish 17 1 answered_ok ∷ event.Take 1 1 2 ∷ event.Rest 1
    ∷ event.Submit 2 1 1 (fills 2 4) ∷ event.Claim 17 2 1 5 ∷ event.Finish 17 6 answered_ok ∷ event.Take 2 1 7
    ∷ event.Rest 1 ∷ []
