-- Why a command on a slot is refused. This project's own.
use Rattle.std.specs.Prelude.{◌≡◌, List, [], Option, Some, None}
use Rattle.cp_base.specs.Answer.{Answer, only_status}
use Rattle.cp_base.specs.Checks.{Check, first_failing}
use Rattle.cp_base.specs.declared.replies.Refusal.{Refusal}
use Rattle.cp_base.specs.declared.replies.Status.TheVariants as status
use Rattle.device_model.specs.Checks.{activate_checks, program_refusal}
use Rattle.device_model.specs.State.{Slot}

-- what a host is told of a refusal
abbrev pub told_by_refusal : Refusal → Answer
told_by_refusal refusal = record { status = refusal.status; result = refusal.result; bytes = [] }

-- a refusal is that of the first check that fails
abbrev pub IsOfChecks : List Check → Refusal → Type 0
IsOfChecks checks refusal = (first_failing checks ≡ Some refusal.status) × (refusal.result ≡ 0)

-- a refusal for want of memory, which comes only where no check fails
abbrev pub IsWantOfMemory : List Check → Refusal → Type 0
IsWantOfMemory checks refusal = (first_failing checks ≡ None) × (told_by_refusal refusal ≡ only_status status.NoMemory)

-- a refusal of a program that is to be active, which comes only where no other check fails
abbrev pub IsOfProgram : Option Slot → Refusal → Type 0
IsOfProgram slot refusal =
    (first_failing (activate_checks slot) ≡ None) × (program_refusal slot ≡ Some (told_by_refusal refusal))
