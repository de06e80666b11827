-- The commands of a nature.
use Rattle.std.proofs.Common.{◌≡◌, ℕ, unwrap_or, ap}
use Rattle.cp_base.specs.Commands.{nature_of, withdrawn_by}
use Rattle.cp_base.specs.declared.commands.Command.{Command}
use Rattle.cp_base.specs.declared.commands.Command.TheVariants as command
use Rattle.cp_base.specs.declared.commands.Nature.{Nature}
use Rattle.cp_base.specs.declared.commands.Nature.TheVariants as nature
use Rattle.trail_model.specs.Footprints.{set_held_by, slot_held_by}

-- what withdraws the command of an identifier is the Abort of that identifier
pub withdraws : (cmd : Command) (cid : ℕ) → nature_of cmd ≡ nature.Withdraws cid → cmd ≡ command.Abort cid
withdraws (command.Abort number) cid e = ap (λ (n : Nature). command.Abort (unwrap_or (withdrawn_by n) 0)) e
withdraws cmd cid e = absurd (cc)

-- an execution of a slot's program on a set
abbrev pub IsExecutionOf : ℕ → ℕ → Command → Type 0
IsExecutionOf slot set cmd = (p1 : ℕ) × (p2 : ℕ) × (budget : ℕ) × (cmd ≡ command.Execute slot set p1 p2 budget)

pub executes : (cmd : Command) (slot set : ℕ) → nature_of cmd ≡ nature.Executes slot set → IsExecutionOf slot set cmd
executes (command.Execute program ranges p1 p2 budget) slot set e =
    (p1, p2, budget, ap (λ (n : Nature). command.Execute (unwrap_or (slot_held_by n) 0) (unwrap_or (set_held_by n) 0) p1 p2 budget) e)
executes cmd slot set e = absurd (cc)
