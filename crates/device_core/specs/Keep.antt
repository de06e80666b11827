-- How the core keeps the parts of its device. This project's own.
use Rattle.std.specs.Prelude.{◌≡◌, ℕ, ◌+◌, ◌*◌, ◌<◌, ◌≤◌, ◌==◌, if◌then◌else◌, List, [], Option, None, Some, length, map, unwrap_or, vec_capacity, vec_len}
use Rattle.std.specs.List.{AllByRecursion}
use Rattle.cp_base.specs.Configuration.{Configuration, numbered}
use Rattle.cp_base.specs.declared.limits.TheConstants.{MAX_COMMANDS, MAX_HOSTS}
use Rattle.queue_pairs.specs.Outstanding.{CidsDiffer, QueuePair, under}
use Rattle.queue_pairs.specs.Places.{PlacesDiffer}
use Rattle.queue_pairs.specs.declared.command.Stage.TheVariants.{Queued}
use Rattle.core_model.specs.Asked.{Asked}
use Rattle.queue_pairs.specs.declared.command.Outstanding.{Outstanding as Waiting}
use Rattle.range_claims.specs.declared.claims.Claim.{Claim}
use Rattle.extents.specs.Homes.{is_hole, known_at}
use Rattle.core_model.specs.Parts.{KeptFootprint, Parts}
use Rattle.core_model.specs.Ties.{StandFor}
use Rattle.device_core.specs.Recorded.{trail_of}
use Rattle.device_core.specs.declared.events.Event.{Event as KeptEvent}
use Rattle.device_core.specs.declared.keep.Keep.{Keep}

-- the outstanding commands of a queue, none where there is no queue
abbrev pub commands_in : Option QueuePair → List Waiting
commands_in None = []
commands_in (Some queue) = queue.commands

-- the outstanding commands of a host by these queues, of which the first is that of host 1
abbrev pub queue_of : List QueuePair → ℕ → List Waiting
queue_of queues host = commands_in (numbered queues host)

-- the ordinal of a host's next command by these ordinals, of which the first is that of host 1
abbrev pub next_of : List ℕ → ℕ → ℕ
next_of ordinals host = unwrap_or (numbered ordinals host) 1

-- a kept claim, as the parts of a device have it
abbrev pub as_kept_footprint : Claim → KeptFootprint
as_kept_footprint claim = record { key = claim.key; footprint = claim.footprint }

-- what is kept, as the parts of a device after so many events
abbrev pub parts_of : ℕ → Keep → Parts
parts_of count k = record {
  count = count;
  submitted = k.submitted;
  at_rest = k.at_rest;
  waiting = k.waiting.items;
  queues = λ host. queue_of k.queues.items host;
  ordinals = λ host. next_of k.ordinals.items host;
  kept = map as_kept_footprint k.kept.kept;
  claims = k.claims.items;
  store = λ space offset. known_at k.store space offset;
  out = λ region. is_hole k.store region;
  slots = k.slots;
  sets = k.sets;
  entries = k.entries.items;
}

-- the queue of these commands
abbrev pub pair_of : ℕ → List Waiting → QueuePair
pair_of depth commands = record { depth = depth; commands = commands }

-- a queue has this depth, and the identifiers of its commands differ
pub record IsQueue (depth : ℕ) (queue : QueuePair) : Type 0 where
  pub same_depth : queue.depth ≡ depth
  pub cids : CidsDiffer queue.commands

-- only the queue of one host has other commands: these
abbrev pub OnlyQueue : List QueuePair → List QueuePair → ℕ → List Waiting → Type 0
OnlyQueue old new one changed = (host : ℕ) → queue_of new host ≡ (if host == one then changed else queue_of old host)

-- each host has a queue of this depth
pub record AreQueues (depth : ℕ) (queues : List QueuePair) : Type 0 where
  pub hosts : length queues ≡ MAX_HOSTS
  pub each : AllByRecursion (IsQueue depth) queues

-- there is room for so many commands, and each host has a queue of this depth and an ordinal
pub record HasRoom (depth commands : ℕ) (k : Keep) : Type 0 where
  pub waiting : commands ≤ vec_capacity k.waiting
  pub entries : commands ≤ vec_capacity k.entries
  pub kept : k.kept.most ≡ 2 * MAX_HOSTS
  pub claims : 2 * MAX_HOSTS ≤ vec_capacity k.claims
  pub queues : AreQueues depth k.queues.items
  pub ordinals : length k.ordinals.items ≡ MAX_HOSTS

-- what has room goes on to have it
abbrev pub KeepsRoom : Keep → Keep → Type 0
KeepsRoom old new = (depth commands : ℕ) → HasRoom depth commands old → HasRoom depth commands new

-- The reply to what a submit asks for can be posted: its command waits in its host's queue, and there is room for an entry.
pub record CanPost (k : Keep) (asked : Asked) (sent : ℕ) : Type 0 where
  pub host : (1 ≤ asked.host) × (asked.host ≤ length k.queues.items)
  pub waits : under (queue_of k.queues.items asked.host) asked.cid
      ≡ Some (let x : Waiting = record { cid = asked.cid; sent = sent; stage = Queued } in x)
  pub apart : PlacesDiffer (queue_of k.queues.items asked.host)
  pub room : vec_len k.entries < vec_capacity k.entries

-- What is kept stands for the trail of these events, in a list with room for so many: the parts do, at most the most commands
-- may be submitted, and there is room for all of them.
pub record Holds (c : Configuration) (commands : ℕ) (events : List KeptEvent) (spots : ℕ) (k : Keep) : Type 0 where
  pub few : commands ≤ MAX_COMMANDS
  pub stands : StandFor c commands (parts_of (length events) k) (trail_of events)
  pub room : HasRoom c.depth commands k
  pub places : 5 * commands + 1 ≤ spots
