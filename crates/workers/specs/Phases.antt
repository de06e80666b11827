-- The passes of a device while a phase is run. This project's own.
use Rattle.std.specs.Prelude.{◌≡◌, ◌≢◌, ℕ, ◌≤◌, ◌==◌, if◌then◌else◌, IsSome, List, [], Contains, Option, None, Some}
use Rattle.std.specs.List.{AllByRecursion}
use Rattle.cp_base.specs.declared.limits.TheConstants.{MAX_HOSTS}
use Rattle.history_model.specs.Plain.{PlainPart}
use Rattle.history_model.specs.Rules.{KeepsQueue}
use Rattle.script_cmds.specs.declared.item.HostPart.{HostPart}
use Rattle.seat_lock.specs.Passes.{at_home, made_by, party_of, seats_in}
use Rattle.trail_model.specs.Each.{EachTwo}
use Rattle.schedule_model.specs.Deeds.{IsHost, Phases, items_by, items_in, items_in_phase}
use Rattle.device_lock.specs.Names.{DeviceName}
use Rattle.device_lock.specs.Passes.{DevicePass, DevicePasses, IsIdle, IsOfDevice}
use Rattle.workers.specs.Further.{IsFurther, outstanding_by}

-- by their passes, which are at home, none of these hosts has an outstanding command
abbrev pub HaveNoneOutstanding : List ℕ → DevicePasses → Type 0
HaveNoneOutstanding hosts ps =
    (n : ℕ) (p : DevicePass) → Contains hosts n → at_home ps n ≡ Some p → outstanding_by p ≡ []

-- by their passes, the hosts have done these phases, and nothing else
abbrev pub HaveDoneSoFar : Phases → DevicePasses → Type 0
HaveDoneSoFar phases ps =
    (n : ℕ) (p : DevicePass) → IsHost n → at_home ps n ≡ Some p → items_by n (made_by p) ≡ items_in n phases

-- how many rests a party may add, where so many are added in all: only party 1 rests
abbrev pub rests_of : ℕ → ℕ → ℕ
rests_of most n = if n == 1 then most else 0

-- ---- what only private contracts speak of

-- a host's part may be run: its pass is at home, none of its commands is outstanding, and the items keep the rules of
-- its queue
pub record MayRun (d : DeviceName) (ps : DevicePasses) (part : HostPart) : Type 0 where
  pub host : IsHost part.host
  pub pass : DevicePass
  pub home : at_home ps part.host ≡ Some pass
  pub none : outstanding_by pass ≡ []
  pub queue : KeepsQueue d.config.depth [] part.items

-- a host may do this part with this pass, which is its own
pub record IsHostReady (d : DeviceName) (part : HostPart) (p : DevicePass) : Type 0 where
  pub of_device : IsOfDevice d p
  pub idle : IsIdle p
  pub party : party_of p ≡ part.host
  pub few : part.host ≤ MAX_HOSTS
  pub none : outstanding_by p ≡ []
  pub queue : KeepsQueue d.config.depth [] part.items

-- Parts of different hosts may be run. The passes of the parties up to this one are at home, and all that are at home
-- are idle passes of the device.
pub record AreReady (d : DeviceName) (last : ℕ) (parts : List HostPart) (ps : DevicePasses) : Type 0 where
  pub homes : (n : ℕ) → 1 ≤ n → n ≤ last → IsSome (at_home ps n)
  pub idle : (n : ℕ) (p : DevicePass) → at_home ps n ≡ Some p → IsOfDevice d p × IsIdle p
  pub may_run : AllByRecursion (MayRun d ps) parts
  pub differ : EachTwo (λ (a b : HostPart). a.host ≢ b.host) parts

-- the pass of a party is at home, and comes from an earlier one by these parts' items of the party
pub record IsHomeFurther (most : ℕ) (d : DeviceName) (parts : List PlainPart) (ps : DevicePasses) (n : ℕ) (p : DevicePass) : Type 0 where
  pub pass : DevicePass
  pub home : at_home ps n ≡ Some pass
  pub further : IsFurther (rests_of most n) d p pass (items_in_phase n parts)

-- what was at home is at home, and each host has done its items of these parts meanwhile; what was lent is lent
pub record AreFurther (most : ℕ) (d : DeviceName) (parts : List PlainPart) (ps qs : DevicePasses) : Type 0 where
  pub seats : seats_in qs ≡ seats_in ps
  pub home : (n : ℕ) (p : DevicePass) → at_home ps n ≡ Some p → IsHomeFurther most d parts qs n p
  pub lent : (n : ℕ) → at_home ps n ≡ None → at_home qs n ≡ None
