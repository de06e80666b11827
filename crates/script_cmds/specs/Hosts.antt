-- The hosts of a script. This project's own.
use Rattle.std.specs.Prelude.{ℕ, ◌<◌, ◌≤◌, All, List, [], ◌∷◌, map}
use Rattle.cp_base.specs.declared.limits.TheConstants.{MAX_HOSTS}
use Rattle.script_cmds.specs.declared.item.HostPart.{HostPart}
use Rattle.script_cmds.specs.declared.item.Phase.{Phase}

-- the hosts that act in a phase, in order
abbrev pub hosts_of : List HostPart → List ℕ
hosts_of parts = map (λ (part : HostPart). part.host) parts

-- the first number is above this one, and each other above the one in front of it
abbrev pub AscendFrom : ℕ → List ℕ → Type 0
AscendFrom before [] = Unit {0}
AscendFrom before (number ∷ numbers) = (before < number) × AscendFrom number numbers

-- the hosts of a phase ascend, from 1 on at the least and up to 16 at the most
abbrev pub HasHosts : Phase → Type 0
HasHosts phase = AscendFrom 0 (hosts_of phase.hosts) × All (λ host. host ≤ MAX_HOSTS) (hosts_of phase.hosts)

-- the same of each phase
abbrev pub HaveHosts : List Phase → Type 0
HaveHosts phases = All HasHosts phases
