-- What a command's checks, its execution and its changes need of a state, where it moves no bytes or is refused: the tables.
use Rattle.std.proofs.Common.{◌≡◌, Bool, true, false, not, ◌||◌, Option, Some, None, is_some, refl, sym, subst, if◌then◌else◌}
use Rattle.std.proofs.lemmas.Bool.{true≢false}
use Rattle.cp_base.specs.Answer.{Answer}
use Rattle.cp_base.specs.Configuration.{Configuration}
use Rattle.cp_base.specs.declared.commands.Command.{Command}
use Rattle.cp_base.specs.declared.commands.Command.TheVariants as command
use Rattle.device_model.specs.Checks.{refusal_of}
use Rattle.device_model.specs.Effect.{effect_of}
use Rattle.device_model.specs.Memory.{moves_bytes, takes_memory}
use Rattle.device_model.specs.State.{State}
use Rattle.device_model.specs.Step.{outcome_of, refused_or_done}
use Rattle.trail_model.specs.Footprints.{execution_of}
use Rattle.trail_model.specs.World.{is_no_memory, state_after}
use Rattle.trail_model.proofs.Tables.{still-bytes}
use Rattle.core_model.specs.Parts.{tables_of}

pub same-refusal : (c : Configuration) (s : State) (cmd : Command) → refusal_of c s cmd ≡ refusal_of c (tables_of s.slots s.sets) cmd
same-refusal c s (command.Abort cid) = refl
same-refusal c s cmd = refl

pub same-execution : (s : State) (cmd : Command) → execution_of s cmd ≡ execution_of (tables_of s.slots s.sets) cmd
same-execution s (command.Abort cid) = refl
same-execution s cmd = refl

pub same-memory : (c : Configuration) (s : State) (cmd : Command) → takes_memory c s cmd ≡ takes_memory c (tables_of s.slots s.sets) cmd
same-memory c s (command.Abort cid) = refl
same-memory c s cmd = refl

-- two states have the same tables
pub record SameTables (a b : State) : Type 0 where
  pub slots : a.slots ≡ b.slots
  pub sets : a.sets ≡ b.sets

quiet-effect : (c : Configuration) (s : State) (cmd : Command) → moves_bytes cmd ≡ false
    → SameTables (effect_of c s cmd).next (effect_of c (tables_of s.slots s.sets) cmd).next × ((effect_of c s cmd).answer ≡ (effect_of c (tables_of s.slots s.sets) cmd).answer)
quiet-effect c s (command.NvmRead ns lba count) e = absurd (true≢false e)
quiet-effect c s (command.NvmWrite ns lba bytes) e = absurd (true≢false e)
quiet-effect c s (command.NvmZeroes ns lba count) e = absurd (true≢false e)
quiet-effect c s (command.NvmCopy ns lba from) e = absurd (true≢false e)
quiet-effect c s (command.MemRead ns at len) e = absurd (true≢false e)
quiet-effect c s (command.MemWrite ns at bytes) e = absurd (true≢false e)
quiet-effect c s (command.MemFill ns at len value) e = absurd (true≢false e)
quiet-effect c s (command.MemCopy ns at from) e = absurd (true≢false e)
quiet-effect c s (command.Execute slot set p1 p2 budget) e = absurd (true≢false e)
quiet-effect c s cmd e = (record { slots = refl; sets = refl }, refl)

-- what a command that is done at once leaves and answers, by its refusal in the state and in the tables alone
pub record DoneSame (c : Configuration) (s : State) (cmd : Command) (refusal with_tables : Option Answer) : Type 0 where
  pub contents : (refused_or_done s refusal (effect_of c s cmd)).next.contents ≡ s.contents
  pub tables : SameTables (refused_or_done s refusal (effect_of c s cmd)).next
      (refused_or_done (tables_of s.slots s.sets) with_tables (effect_of c (tables_of s.slots s.sets) cmd)).next
  pub answer : (refused_or_done s refusal (effect_of c s cmd)).answer
      ≡ (refused_or_done (tables_of s.slots s.sets) with_tables (effect_of c (tables_of s.slots s.sets) cmd)).answer

pub done-same : (c : Configuration) (s : State) (cmd : Command) → (not (moves_bytes cmd) || is_some (refusal_of c s cmd)) ≡ true
    → DoneSame c s cmd (refusal_of c s cmd) (refusal_of c (tables_of s.slots s.sets) cmd)
done-same c s cmd at_once =
    subst (λ (o : Option Answer). DoneSame c s cmd (refusal_of c s cmd) o) (same-refusal c s cmd) (by_refusal (refusal_of c s cmd) at_once)
  where
    still : (b : Bool) → (not b || false) ≡ true → b ≡ false
    still true e = absurd (true≢false (sym e))
    still false e = refl

    by_refusal : (o : Option Answer) → (not (moves_bytes cmd) || is_some o) ≡ true → DoneSame c s cmd o o
    by_refusal (Some answer) once = record { contents = refl; tables = record { slots = refl; sets = refl }; answer = refl }
    by_refusal None once =
        let quiet : moves_bytes cmd ≡ false = still (moves_bytes cmd) once in
        let h = quiet-effect c s cmd quiet in
        record { contents = still-bytes c s cmd quiet; tables = h.0; answer = h.1 }

-- the same of a command that is done at once and told this, which may be that there is no memory
pub record AfterSame (c : Configuration) (s : State) (cmd : Command) (answer : Answer) : Type 0 where
  pub contents : (state_after c s cmd answer).contents ≡ s.contents
  pub tables : SameTables (state_after c s cmd answer) (state_after c (tables_of s.slots s.sets) cmd answer)

pub after-same : (c : Configuration) (s : State) (cmd : Command) (answer : Answer)
    → (is_no_memory answer.status ≡ false → (not (moves_bytes cmd) || is_some (refusal_of c s cmd)) ≡ true) → AfterSame c s cmd answer
after-same c s cmd answer at_once =
    let h = by_memory (is_no_memory answer.status) at_once in
    record { contents = h.0; tables = h.1 }
  where
    by_memory : (b : Bool) → (b ≡ false → (not (moves_bytes cmd) || is_some (refusal_of c s cmd)) ≡ true)
        → ((if b then s else (outcome_of c s cmd).next).contents ≡ s.contents)
        × SameTables (if b then s else (outcome_of c s cmd).next) (if b then tables_of s.slots s.sets else (outcome_of c (tables_of s.slots s.sets) cmd).next)
    by_memory true once = (refl, record { slots = refl; sets = refl })
    by_memory false once = let h = done-same c s cmd (once refl) in (h.contents, h.tables)
