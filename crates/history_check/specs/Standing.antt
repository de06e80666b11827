-- What the checker stands for between two lines of entries, and what it says of a line. This project's own.
use Rattle.std.specs.Prelude.{◌≡◌, ℕ, ◌+◌, ◌==◌, ◌&&◌, Bool, true, false, ◌⊎◌, IsSomeAnd, IsTrue, List, [], ◌∷◌, ◌++◌, Option, Some, None, length, map, slice_get}
use Rattle.std.specs.List.{list_any}
use Rattle.cp_base.specs.Answer.{Answer, only_status}
use Rattle.cp_base.specs.Configuration.{Configuration}
use Rattle.cp_base.specs.declared.replies.Status.TheVariants as status
use Rattle.device_model.specs.Memory.{takes_memory}
use Rattle.seq_device.specs.Standing.{IsDone, Standing}
use Rattle.script_cmds.specs.declared.item.Phase.{Phase}
use Rattle.history_model.specs.Entry.{Entry}
use Rattle.history_model.specs.Legal.{HasWithdrawn, last_state}
use Rattle.history_model.specs.Sent.{Names, Sent, sends_of}
use Rattle.history_model.specs.Text.{entries_text, entry_text}
use Rattle.history_check.specs.Beginning.{IsBeginning, MayComeNext, sents_of}
use Rattle.history_check.specs.Readiness.{IsKept}
use Rattle.history_check.specs.Table.{IsAt, sends_in}
use Rattle.history_check.specs.declared.awaiting.Awaiting.{Awaiting}
use Rattle.history_check.specs.declared.checker.Checker.{Checker}

-- whether a command is one of these, by its name
abbrev pub is_named_among : List Sent → Sent → Bool
is_named_among done s = list_any (λ (d : Sent). (s.host == d.host) && (s.ordinal == d.ordinal)) done

-- the last entry is that of an Abort that has withdrawn the command at a place
pub record AwaitsAborted (sends : List Sent) (entries : List Entry) (place : ℕ) : Type 0 where
  pub before : List Entry
  pub last : Entry
  pub is : entries ≡ before ++ last ∷ []
  pub withdrew : HasWithdrawn last
  pub other : Sent
  pub at : slice_get sends place ≡ Some other
  pub names : Names last.sent other

-- the last entry is that of an Abort that has withdrawn the command at the place, or where there is no place it is none
abbrev pub Awaits : List Sent → List Entry → Option ℕ → Type 0
Awaits sends entries (Some place) = AwaitsAborted sends entries place
Awaits sends entries None = (before : List Entry) (last : Entry) → entries ≡ before ++ last ∷ [] → HasWithdrawn last → ⊥

-- what the checker knows of the entries so far
pub record Stands (c : Configuration) (plan : List Phase) (entries : List Entry) (checker : Checker) : Type 0 where
  pub begins : IsBeginning c plan entries
  pub device : checker.device ≡ record { config = c; state = last_state c entries }
  pub kept : IsKept checker.awaiting
  pub sends : sends_in checker.awaiting.table ≡ sends_of plan
  pub over : checker.awaiting.over.items ≡ map (is_named_among (sents_of entries)) (sends_of plan)
  pub awaits : Awaits (sends_of plan) entries checker.withdrawn

-- line k is that of an entry of the command at a place with this answer
abbrev pub IsTellingOf : Checker → ℕ → ℕ → Answer → List ℕ → Type 0
IsTellingOf checker place k answer line =
    (s : Sent) → slice_get (sends_in checker.awaiting.table) place ≡ Some s → entry_text k (record { sent = s; answer = answer }) ≡ line ++ 10 ∷ []

-- the command at a place takes memory, and the line tells that it found none
pub record TellsNoMemory (checker : Checker) (place k : ℕ) (line : List ℕ) : Type 0 where
  pub takes : (s : Sent) → slice_get (sends_in checker.awaiting.table) place ≡ Some s
      → IsTrue (takes_memory checker.device.config checker.device.state s.command)
  pub told : IsTellingOf checker place k (only_status status.NoMemory) line

-- a command at one place names that at another, which is not over
pub record NamesLeft (awaiting : Awaiting) (place named : ℕ) : Type 0 where
  pub s : Sent
  pub at : slice_get (sends_in awaiting.table) place ≡ Some s
  pub other : Sent
  pub there : slice_get (sends_in awaiting.table) named ≡ Some other
  pub names : Names s other
  pub left : slice_get awaiting.over.items named ≡ Some false

-- the command at a place names one that is not over, and the line tells that it has withdrawn it
pub record TellsWithdrawal (checker : Checker) (place named k : ℕ) (line : List ℕ) : Type 0 where
  pub names : NamesLeft checker.awaiting place named
  pub told : IsTellingOf checker place k (only_status status.Ok) line

-- the line tells what the device answers to the command at a place, and how it stands then
pub record TellsAnswer (checker : Checker) (place k : ℕ) (line : List ℕ) (after : Standing) : Type 0 where
  pub s : Sent
  pub at : slice_get (sends_in checker.awaiting.table) place ≡ Some s
  pub answer : Answer
  pub done : IsDone checker.device s.command answer after
  pub told : entry_text k (record { sent = s; answer = answer }) ≡ line ++ 10 ∷ []

-- where none is withdrawn: the line tells that there is no memory, a withdrawal, or the device's answer
abbrev pub IsReplyTold : Checker → ℕ → ℕ → List ℕ → Checker → Type 0
IsReplyTold old place k line new =
    (TellsNoMemory old place k line × (new.device ≡ old.device) × (new.withdrawn ≡ old.withdrawn))
    ⊎ (IsSomeAnd new.withdrawn (λ named. TellsWithdrawal old place named k line) × (new.device ≡ old.device))
    ⊎ (TellsAnswer old place k line new.device × (new.withdrawn ≡ old.withdrawn))

-- the line tells none of these
pub record IsReplyRefused (checker : Checker) (place k : ℕ) (line : List ℕ) : Type 0 where
  pub memory : TellsNoMemory checker place k line → ⊥
  pub withdrawal : (named : ℕ) → TellsWithdrawal checker place named k line → ⊥
  pub answer : (after : Standing) → TellsAnswer checker place k line after → ⊥

-- the line tells that the command at a place, which was withdrawn, is aborted
pub record IsAbortedTold (old : Checker) (withdrawn place k : ℕ) (line : List ℕ) (new : Checker) : Type 0 where
  pub here : place ≡ withdrawn
  pub told : IsTellingOf old place k (only_status status.Aborted) line
  pub device : new.device ≡ old.device
  pub none : new.withdrawn ≡ None

-- the line tells of the command at a place what its entry can be, where one is withdrawn or none
abbrev pub IsNextTold : Option ℕ → Checker → ℕ → ℕ → List ℕ → Checker → Type 0
IsNextTold (Some withdrawn) old place k line new = IsAbortedTold old withdrawn place k line new
IsNextTold None old place k line new = IsReplyTold old place k line new

-- the line tells nothing that its entry can be
abbrev pub IsNextRefused : Option ℕ → Checker → ℕ → ℕ → List ℕ → Type 0
IsNextRefused (Some withdrawn) old place k line =
    place ≡ withdrawn → IsTellingOf old place k (only_status status.Aborted) line → ⊥
IsNextRefused None old place k line = IsReplyRefused old place k line

-- an entry that may come next has this line, and the checker has gone on
pub record IsAccepted (c : Configuration) (plan : List Phase) (entries : List Entry) (line : List ℕ) (checker : Checker) : Type 0 where
  pub next : Entry
  pub may : MayComeNext c plan entries next
  pub text : entry_text (length entries + 1) next ≡ line ++ 10 ∷ []
  pub stands : Stands c plan (entries ++ next ∷ []) checker

-- the line is that of no entry that may come next
abbrev pub FitsNoEntry : Configuration → List Phase → List Entry → List ℕ → Type 0
FitsNoEntry c plan entries line =
    (next : Entry) → MayComeNext c plan entries next → entry_text (length entries + 1) next ≡ line ++ 10 ∷ [] → ⊥

-- what the checker says of a line
abbrev pub Judges : Configuration → List Phase → List Entry → List ℕ → Checker → Bool → Type 0
Judges c plan entries line checker true = IsAccepted c plan entries line checker
Judges c plan entries line checker false = FitsNoEntry c plan entries line

-- the place of a host's command of this ordinal, where there is one
abbrev pub IsPlaceOf : List Sent → ℕ → ℕ → Option ℕ → Type 0
IsPlaceOf sends host ordinal (Some place) = IsAt sends host ordinal place
IsPlaceOf sends host ordinal None = (place : ℕ) → IsAt sends host ordinal place → ⊥
