-- Which commands of a plan are over, and which is ready for the next entry. This project's own.
use Rattle.std.specs.Prelude.{◌≡◌, ℕ, ◌<◌, ◌≤◌, List, Bool, true, false, Option, Some, All, AllPairs, length, slice_get}
use Rattle.std.specs.BTreeMap.{get}
use Rattle.history_model.specs.Sent.{Sent}
use Rattle.history_check.specs.Table.{IsTable, pair_cmp, sends_in}
use Rattle.history_check.specs.declared.awaiting.Awaiting.{Awaiting}
use Rattle.history_check.specs.declared.table.Table.{Table}

-- a host's command of this ordinal is over, where there is one
abbrev pub IsTakeOver : List Sent → List Bool → ℕ → ℕ → Type 0
IsTakeOver sends over host ordinal =
    (place : ℕ) (s : Sent) → slice_get sends place ≡ Some s → s.host ≡ host → s.ordinal ≡ ordinal
    → slice_get over place ≡ Some true

-- the commands of earlier phases than that of a command are over
abbrev pub AreEarlierOver : List Sent → List Bool → ℕ → Type 0
AreEarlierOver sends over place =
    (before : ℕ) (first s : Sent) → slice_get sends before ≡ Some first → slice_get sends place ≡ Some s
    → first.phase < s.phase → slice_get over before ≡ Some true

-- what the host of a command takes before it is over
abbrev pub AreTakenOver : List Sent → List Bool → ℕ → Type 0
AreTakenOver sends over place =
    (s : Sent) → slice_get sends place ≡ Some s → All (λ ordinal. IsTakeOver sends over s.host ordinal) s.taken

-- a command is not over, and all that has to be over before it is sent is
pub record IsReady (sends : List Sent) (over : List Bool) (place : ℕ) : Type 0 where
  pub left : slice_get over place ≡ Some false
  pub earlier : AreEarlierOver sends over place
  pub taken : AreTakenOver sends over place

-- what a host takes from one place of the table's list to another is over
abbrev pub AreOverBetween : Table → List Bool → ℕ → ℕ → ℕ → Type 0
AreOverBetween table over host from to =
    (at ordinal : ℕ) → from ≤ at → at < to → slice_get table.takes.items at ≡ Some ordinal
    → IsTakeOver (sends_in table) over host ordinal

-- one command stands before another in the text: its phase is not a later one, and its name another
pub record IsBefore (a b : Sent) : Type 0 where
  pub phases : a.phase ≤ b.phase
  pub names : a.host ≡ b.host → a.ordinal ≡ b.ordinal → ⊥

-- what holds of the commands that are awaited: they stand in the order of the text, and what is known to be over is
pub record IsKept (awaiting : Awaiting) : Type 0 where
  pub table : IsTable awaiting.table
  pub order : AllPairs IsBefore (sends_in awaiting.table)
  pub count : length awaiting.over.items ≡ length (sends_in awaiting.table)
  pub bound : awaiting.front ≤ length awaiting.over.items
  pub front : (place : ℕ) → place < awaiting.front → slice_get awaiting.over.items place ≡ Some true
  pub reached : (host begin end : ℕ) → get pair_cmp awaiting.reached (host, begin) ≡ Some end
      → (begin ≤ end) × AreOverBetween awaiting.table awaiting.over.items host begin end
