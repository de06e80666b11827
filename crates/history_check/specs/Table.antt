-- What a table says of the commands of a plan. This project's own.
use Rattle.std.specs.Prelude.{◌≡◌, ℕ, ◌≤◌, ◌==◌, List, [], ◌∷◌, ◌++◌, Option, Some, None, All, IsSome, count_by, drop, length, map, slice_get, take, unwrap_or}
use Rattle.std.specs.BTreeMap.{BTreeMap, get}
use Rattle.std.specs.Ordering.{nat_cmp, ordering_then}
use Rattle.std.specs.declared.cmp.Ordering.{Ordering}
use Rattle.script_cmds.specs.declared.item.Item.{Item}
use Rattle.script_cmds.specs.declared.item.Item.TheVariants as item
use Rattle.history_model.specs.Sent.{Sent, Waiting, next_ordinal, sends_of_items}
use Rattle.history_check.specs.declared.table.Awaited.{Awaited}
use Rattle.history_check.specs.declared.table.Outstanding.{Outstanding}
use Rattle.history_check.specs.declared.table.Sender.{Sender}
use Rattle.history_check.specs.declared.table.Table.{Table}

-- an outstanding command, as the definition of a plan's commands has it
abbrev pub waiting : Outstanding → Waiting
waiting sent = record { cid = sent.cid; ordinal = sent.ordinal }

abbrev pub waiting_of : List Outstanding → List Waiting
waiting_of outstanding = map waiting outstanding

-- a command of the table, with what its host takes before it
abbrev pub sent_in : List ℕ → Awaited → Sent
sent_in takes a =
    record { host = a.host; ordinal = a.ordinal; cid = a.cid; phase = a.phase; command = a.command.value; taken = drop a.begin (take a.end takes); named = a.named }

-- the commands of the table
abbrev pub sends_in : Table → List Sent
sends_in table = map (sent_in table.takes.items) table.commands.items

-- how many of these commands a host sends
abbrev pub sends_by : ℕ → List Sent → ℕ
sends_by host sends = count_by (λ (s : Sent). s.host == host) sends

-- the order of pairs of numbers
abbrev pub pair_cmp : ℕ × ℕ → ℕ × ℕ → Ordering
pair_cmp x y = ordering_then (nat_cmp x.0 y.0) (nat_cmp x.1 y.1)

-- the command at a place is that of a host's ordinal
pub record IsAt (sends : List Sent) (h n place : ℕ) : Type 0 where
  pub s : Sent
  pub at : slice_get sends place ≡ Some s
  pub host : s.host ≡ h
  pub ordinal : s.ordinal ≡ n

-- the places of commands by their hosts and ordinals
pub record HasPlaces (sends : List Sent) (places : BTreeMap (ℕ × ℕ) ℕ) : Type 0 where
  pub right : (host ordinal place : ℕ) → get pair_cmp places (host, ordinal) ≡ Some place
      → IsAt sends host ordinal place
  pub each : (place : ℕ) (s : Sent) → slice_get sends place ≡ Some s → IsSome (get pair_cmp places (s.host, s.ordinal))

-- how many commands each host sends
abbrev pub HasCounts : List Sent → BTreeMap ℕ ℕ → Type 0
HasCounts sends counts = (host : ℕ) → unwrap_or (get nat_cmp counts host) 0 ≡ sends_by host sends

-- what holds of a table: the takes of each command are there, and it finds each command
pub record IsTable (table : Table) : Type 0 where
  pub ends : All (λ (a : Awaited). a.end ≤ length table.takes.items) table.commands.items
  pub places : HasPlaces (sends_in table) table.places
  pub counts : HasCounts (sends_in table) table.counts

-- the commands of the table, and those that a host sends behind them by these items
abbrev pub going_on : Table → Sender → List Item → List Sent
going_on table sender items =
    sends_in table
    ++ sends_of_items sender.host sender.phase (next_ordinal sender.host (sends_in table))
    (waiting_of sender.outstanding.items) (drop sender.begin table.takes.items) items

-- how many commands an item sends
abbrev pub is_sent : Item → ℕ
is_sent (item.Send cid command) = 1
is_sent (item.Take cid) = 0

-- a host has gone one item on
pub record HasGoneOn (table : Table) (sender : Sender) (it : Item) (table' : Table) (sender' : Sender) : Type 0 where
  pub host : sender'.host ≡ sender.host
  pub phase : sender'.phase ≡ sender.phase
  pub begin : sender'.begin ≡ sender.begin
  pub begun : sender.begin ≤ length table'.takes.items
  pub sends : (rest : List Item) → going_on table' sender' rest ≡ going_on table sender (it ∷ rest)
