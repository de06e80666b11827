-- What is told of an input that is refused. This project's own.
use Rattle.std.specs.Prelude.{ℕ, List, [], ◌∷◌, ◌++◌, codes, decimal}
use Rattle.script_cmds.specs.declared.fault.ScriptFault.{ScriptFault}
use Rattle.script_line.specs.declared.fault.TextCause.{TextCause}
use Rattle.script_line.specs.declared.fault.TextCause.TheVariants as cause
use Rattle.history_model.specs.Plan.{Breach, PlanFault, QueueFull, CidBusy, NotOutstanding, NoHosts}

-- the line that tells that too many bytes came
abbrev pub too_long_line : List ℕ
too_long_line = codes "too long" ++ 10 ∷ []

-- the line that tells a line of the input, counted from 1, and what is wrong with it
abbrev pub refusal_line : ℕ → List ℕ → List ℕ
refusal_line line name = codes "line " ++ decimal line ++ codes ": " ++ name ++ 10 ∷ []

-- the line that tells a place of code that has no instruction
abbrev pub place_line : ℕ → List ℕ
place_line place = codes "place " ++ decimal place ++ codes ": BadInsn" ++ 10 ∷ []

-- the name of what is wrong with a line by itself, its place and its limits
abbrev pub cause_text : TextCause → List ℕ
cause_text cause.Word = codes "Word"
cause_text cause.Field = codes "Field"
cause_text cause.Number = codes "Number"
cause_text cause.Hex = codes "Hex"
cause_text cause.Order = codes "Order"
cause_text cause.Limit = codes "Limit"

-- the name of a rule of queues that a line breaks
abbrev pub breach_text : Breach → List ℕ
breach_text QueueFull = codes "QueueFull"
breach_text CidBusy = codes "CidBusy"
breach_text NotOutstanding = codes "NotOutstanding"
breach_text NoHosts = codes "NoHosts"

-- the line that tells the first faulty line of a text
abbrev pub fault_line : ScriptFault → List ℕ
fault_line fault = refusal_line fault.line (cause_text fault.cause)

-- the line that tells the first line of a script that breaks a rule of queues
abbrev pub breach_line : PlanFault → List ℕ
breach_line fault = refusal_line fault.line (breach_text fault.breach)
