-- The word `check`: a history is held against its script. This project's own.
use Rattle.std.specs.Prelude.{◌≡◌, ℕ, ◌+◌, ◌-◌, ◌<◌, ◌⊎◌, List, [], ◌∷◌, ◌++◌, None, Ok, codes, decimal, drop, slice_index, take}
use Rattle.cp_base.specs.Configuration.{Configuration}
use Rattle.script_cmds.specs.declared.item.Phase.{Phase}
use Rattle.script_cmds.specs.declared.item.Show.{Show}
use Rattle.script_cmds.specs.declared.script.Script.{Script}
use Rattle.script_cmds.specs.Fault.{first_fault}
use Rattle.history_model.specs.Plan.{plan_of}
use Rattle.history_check.specs.FirstBad.{IsFirstBad, IsLegalText}
use Rattle.nvmecp.specs.Step.{HasNoPlan, HasPlan, IsTextOf, TellsScript}
use Rattle.nvmecp.specs.Task.{Task}

-- the most bytes of a script and a history together
abbrev pub max_trace : ℕ
max_trace = 268435456

-- what is told of a legal history
abbrev pub legal_line : List ℕ
legal_line = codes "legal" ++ 10 ∷ []

-- what is told of a history that is not legal: its first bad line, counted from 1
abbrev pub bad_line : ℕ → List ℕ
bad_line line = codes "history line " ++ decimal line ++ codes ": NotLegal" ++ 10 ∷ []

-- what is told of an input without a history
abbrev pub no_history_line : List ℕ
no_history_line = codes "no history" ++ 10 ∷ []

-- ---- the first empty line

-- an empty line stands at a place of a text: a newline, at the text's begin or directly behind another one
abbrev pub IsEmptyLine : List ℕ → ℕ → Type 0
IsEmptyLine text place = (slice_index text place ≡ 10) × ((place ≡ 0) ⊎ (slice_index text (place - 1) ≡ 10))

-- no line of a text is empty
abbrev pub HasNoEmptyLine : List ℕ → Type 0
HasNoEmptyLine text = (place : ℕ) → IsEmptyLine text place → ⊥

-- the first empty line of a text stands at a place
pub record IsFirstEmptyLine (text : List ℕ) (place : ℕ) : Type 0 where
  pub empty : IsEmptyLine text place
  pub first : (earlier : ℕ) → earlier < place → IsEmptyLine text earlier → ⊥

-- The first empty line of an input parts it: a script stands before it, a history behind it.
pub record IsParted (input script history : List ℕ) : Type 0 where
  pub place : ℕ
  pub empty : IsFirstEmptyLine input place
  pub before : script ≡ take place input
  pub behind : history ≡ drop (place + 1) input

-- something holds of the script and the history of an input
pub record OfParts (Holds : List ℕ → List ℕ → Type 0) (input : List ℕ) : Type 0 where
  pub script : List ℕ
  pub history : List ℕ
  pub parted : IsParted input script history
  pub holds : Holds script history

-- ---- the history

-- A text is that of a script which has a plan.
pub record IsPlannedText (text : List ℕ) : Type 0 where
  pub faultless : first_fault text ≡ None
  pub script : Script
  pub read : IsTextOf script text
  pub plan : List Phase
  pub planned : plan_of script ≡ Ok plan

-- A history is that of a device which carries out the plan of a script one command after the other, and the line tells it.
pub record TellsLegal (line : List ℕ) (text history : List ℕ) : Type 0 where
  pub of : IsPlannedText text
  pub legal : IsLegalText of.script.config of.plan of.script.shows history
  pub told : line ≡ legal_line

-- A history is that of no such device, and the line tells its first bad line.
pub record TellsBad (line : List ℕ) (text history : List ℕ) : Type 0 where
  pub of : IsPlannedText text
  pub number : ℕ
  pub bad : IsFirstBad of.script.config of.plan of.script.shows history number
  pub told : line ≡ bad_line number

-- What is told of an input that has no history, or whose script is refused.
pub data TellsNone (input line : List ℕ) : Type 0 where
  NoHistory : HasNoEmptyLine input → line ≡ no_history_line → TellsNone input line
  NoScript : OfParts (λ text history. TellsScript text line) input → TellsNone input line

-- A text is that of a script with a plan, for which a history is legal: for every script of that text, and its plan.
pub record IsLegalFor (text history : List ℕ) : Type 0 where
  pub has_plan : HasPlan text
  pub legal : (script : Script) (plan : List Phase) → IsTextOf script text → plan_of script ≡ Ok plan
      → IsLegalText script.config plan script.shows history

-- A text is that of a script with a plan, for which a history is not legal.
pub record IsIllegalFor (text history : List ℕ) : Type 0 where
  pub has_plan : HasPlan text
  pub illegal : (script : Script) (plan : List Phase) → IsTextOf script text → plan_of script ≡ Ok plan
      → IsLegalText script.config plan script.shows history → ⊥

-- an input has no history, or its script no plan
abbrev pub HasNoHistory : List ℕ → Type 0
HasNoHistory input = HasNoEmptyLine input ⊎ OfParts (λ text history. HasNoPlan text) input

-- what `check` does with its input
abbrev pub check_task : Task
check_task = record {
  limit = max_trace;
  Accepts = OfParts IsLegalFor;
  Rejects = HasNoHistory;
  Belies = OfParts IsIllegalFor;
  Answers = λ input line. OfParts (TellsLegal line) input;
  Refuses = TellsNone;
  Denies = λ input line. OfParts (TellsBad line) input;
}

-- what holding a history against a plan tells: that it is legal, or its first bad line
pub record JudgesLegal (c : Configuration) (plan : List Phase) (shows : List Show) (history line : List ℕ) : Type 0 where
  pub legal : IsLegalText c plan shows history
  pub told : line ≡ legal_line

pub record JudgesBad (c : Configuration) (plan : List Phase) (shows : List Show) (history line : List ℕ) : Type 0 where
  pub number : ℕ
  pub bad : IsFirstBad c plan shows history number
  pub told : line ≡ bad_line number
