-- A command that some state lets through passes the checks of its own bytes, and the other way round.
use Rattle.std.proofs.Common.{◌≡◌, IsTrue, Bool, true, Option, None, Some, Ok, Err, Result, MatchResult, is_ok, option_map, refl, sym}
use Rattle.std.proofs.lemmas.Bool.{true≢false}
use Rattle.std.specs.Option.{option_or}
use Rattle.std.specs.Result.{IsOk}
use Rattle.cp_base.specs.Answer.{Answer, only_status}
use Rattle.cp_base.specs.Checks.{first_failing}
use Rattle.cp_base.specs.Configuration.{Configuration}
use Rattle.cp_base.specs.declared.commands.Command.{Command}
use Rattle.cp_base.specs.declared.commands.Command.TheVariants as command
use Rattle.cp_base.specs.declared.replies.Status.{Status}
use Rattle.device_model.specs.Checks.{checks_of, refusal_of, refusal_of_program}
use Rattle.device_model.specs.Memory.{moves_bytes}
use Rattle.device_model.specs.State.{State}

first_none : (found : Option Status) (other : Option Answer) → option_or (option_map only_status found) other ≡ None → found ≡ None
first_none None other h = refl
first_none (Some status) other h = cc

pub checks_pass : (c : Configuration) (s : State) (cmd : Command) → refusal_of c s cmd ≡ None → first_failing (checks_of c s cmd) ≡ None
checks_pass c s cmd h = first_none (first_failing (checks_of c s cmd)) (refusal_of_program s cmd) h

-- a result that tells what the checks find is good where none fails
pub good_where_none : {A : Type 0} (found : Option Status) (r : Result A Status) → MatchResult r (λ (x : A). found ≡ None) (λ status. found ≡ Some status)
    → found ≡ None → IsOk r
good_where_none found (Ok x) h e = refl
good_where_none found (Err status) h e = absurd (cc)

none_both : (found : Option Status) (other : Option Answer) → found ≡ None → other ≡ None → option_or (option_map only_status found) other ≡ None
none_both None other g h = h
none_both (Some status) other g h = cc

-- and where it is good none fails
none_where_good : {A : Type 0} (found : Option Status) (r : Result A Status) (b : Bool) → b ≡ is_ok r → IsTrue b
    → MatchResult r (λ (x : A). found ≡ None) (λ status. found ≡ Some status) → found ≡ None
none_where_good found (Ok x) b e ok h = h
none_where_good found (Err status) b e ok h = absurd (cc)

-- no program is checked for a command that moves bytes
no_program : (s : State) (cmd : Command) → moves_bytes cmd ≡ true → refusal_of_program s cmd ≡ None
no_program s (command.Activate slot) e = absurd (true≢false (sym e))
no_program s cmd e = refl

-- a command that moves bytes, and whose checks pass, is let through
pub passed : {A : Type 0} (c : Configuration) (s : State) (cmd : Command) (r : Result A Status) (b : Bool) → moves_bytes cmd ≡ true → b ≡ is_ok r → IsTrue b
    → MatchResult r (λ (x : A). first_failing (checks_of c s cmd) ≡ None) (λ status. first_failing (checks_of c s cmd) ≡ Some status)
    → (s : State) × (refusal_of c s cmd ≡ None)
passed c s cmd r b moves e ok h =
    (s, none_both (first_failing (checks_of c s cmd)) (refusal_of_program s cmd) (none_where_good (first_failing (checks_of c s cmd)) r b e ok h) (no_program s cmd moves))
