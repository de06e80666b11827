-- What holds of every plan: the rules of queues, kept to the end of each part, and which hosts act. This
-- project's own, after two rules of NVMe (Base Specification, submission queues): two outstanding commands of
-- one queue have two identifiers, and a queue has a depth.
use Rattle.std.specs.Prelude.{◌≡◌, ℕ, ◌<◌, ◌≤◌, ◌==◌, not, List, [], ◌∷◌, ◌++◌, length, filter, All, Contains}
use Rattle.cp_base.specs.declared.limits.TheConstants.{MAX_HOSTS}
use Rattle.script_cmds.specs.Hosts.{AscendFrom, hosts_of}
use Rattle.script_cmds.specs.declared.item.Item.{Item}
use Rattle.script_cmds.specs.declared.item.Item.TheVariants as item
use Rattle.script_cmds.specs.declared.item.HostPart.{HostPart}
use Rattle.script_cmds.specs.declared.item.Phase.{Phase}
use Rattle.script_cmds.specs.Queues.{queue_of_cid}
use Rattle.history_model.specs.Plan.{in_queue}

-- the identifiers of the outstanding commands after one of them is taken
abbrev pub without : ℕ → List ℕ → List ℕ
without cid outstanding = filter (λ other. not (other == cid)) outstanding

-- A host's items keep the rules of each of its queues, where commands of these identifiers are outstanding: each
-- send finds room in its queue and an identifier that no outstanding command has, each take names an outstanding
-- command, and at the end nothing is outstanding.
abbrev pub KeepsEachQueue : ℕ → List ℕ → List Item → Type 0
KeepsEachQueue depth outstanding [] = outstanding ≡ []
KeepsEachQueue depth outstanding (item.Send cid command ∷ items) =
    (in_queue (queue_of_cid cid) outstanding < depth) × (Contains outstanding cid → ⊥)
    × KeepsEachQueue depth (outstanding ++ cid ∷ []) items
KeepsEachQueue depth outstanding (item.Take cid ∷ items) =
    Contains outstanding cid × KeepsEachQueue depth (without cid outstanding) items

-- a phase has a host, and each host's part keeps the rules of each of its queues
pub record KeepEachQueue (depth : ℕ) (phase : Phase) : Type 0 where
  pub acted : 0 < length phase.hosts
  pub queues : All (λ (part : HostPart). KeepsEachQueue depth [] part.items) phase.hosts

-- The same of the device, which holds what a host has in all its queues as one queue: each send finds room among
-- all that is outstanding.
abbrev pub KeepsQueue : ℕ → List ℕ → List Item → Type 0
KeepsQueue depth outstanding [] = outstanding ≡ []
KeepsQueue depth outstanding (item.Send cid command ∷ items) =
    (length outstanding < depth) × (Contains outstanding cid → ⊥) × KeepsQueue depth (outstanding ++ cid ∷ []) items
KeepsQueue depth outstanding (item.Take cid ∷ items) =
    Contains outstanding cid × KeepsQueue depth (without cid outstanding) items

-- a phase has a host, and each host's part keeps the rules of its queue
pub record KeepsQueues (depth : ℕ) (phase : Phase) : Type 0 where
  pub acted : 0 < length phase.hosts
  pub queues : All (λ (part : HostPart). KeepsQueue depth [] part.items) phase.hosts

-- the same, and the hosts of the phase ascend and are 1 to 16
pub record KeepsRules (depth : ℕ) (phase : Phase) : Type 0 where
  pub queues : KeepsQueues depth phase
  pub ascend : AscendFrom 0 (hosts_of phase.hosts)
  pub numbers : All (λ host. host ≤ MAX_HOSTS) (hosts_of phase.hosts)
