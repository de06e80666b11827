-- Histories that the sequential device tells. This project's own.
use Rattle.std.specs.Prelude.{◌≡◌, List, [], ◌∷◌}
use Rattle.cp_base.specs.Configuration.{Configuration}
use Rattle.device_model.specs.State.{State}
use Rattle.device_model.specs.Step.{DeviceStep}
use Rattle.trail_model.specs.World.{Completion}

-- from one state each completion is one step of the sequential device to a next state, up to the last
abbrev pub LeadsTo : Configuration → State → List Completion → State → Type 0
LeadsTo c s [] last = s ≡ last
LeadsTo c s (done ∷ history) last =
    (next : State) × DeviceStep c s done.request.command done.answer next × LeadsTo c next history last
