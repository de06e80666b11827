-- Steps of the definition, by what the code has found.
use Rattle.std.proofs.Common.{◌≡◌, ℕ, zero, suc, ◌<◌, ◌-◌, ℤ, pos, negsuc, List, Option, Some, None, refl, sym, ap, ◌∙◌, arith}
use Rattle.std.specs.Prelude.{option_map}
use Rattle.std.specs.Option.{option_map_or}
use Rattle.bpf_isa.specs.declared.end.End.{End}
use Rattle.bpf_isa.specs.declared.end.End.TheVariants.{BadJump, BudgetSpent}
use Rattle.bpf_isa.specs.declared.insn.Insn.{Insn}
use Rattle.bpf_model.specs.Machine.{Machine}
use Rattle.bpf_model.specs.Memory.{Memory}
use Rattle.bpf_model.specs.Outcome.{outcome_from, outcome_after}
use Rattle.bpf_model.specs.Step.{Program, Effect, Goes, Step, Continues, Stops, effect, settled, start_at, step}
use Rattle.bpf_decode.specs.Slots.{insn_at}
use Rattle.bpf_exec.specs.Setting.{decoded_program}

-- a step by the effect of its instruction
module _ (program : Program) (m : Machine) (i : Insn) (here : program m.counter ≡ Some i) where
  pub stepped : (e : Effect) → effect i m ≡ e → step program m ≡ settled program m e
  stepped e did =
      ap (λ (o : Option Insn). option_map_or (λ j. settled program m (effect j m)) o (Stops (BadJump m.counter) m.memory)) here
      ∙ ap (λ (x : Effect). settled program m x) did

-- an effect goes on at a place where an instruction starts
pub settled_goes : (program : Program) (m m' : Machine) (target : ℤ) (n : ℕ) (next : Insn) → target ≡ pos n → program n ≡ Some next
    → settled program m (Goes m' target) ≡ Continues (record m' { counter = n })
settled_goes program m m' target n next there found =
    ap (λ (z : ℤ). settled program m (Goes m' z)) there
    ∙ ap (λ (o : Option Insn). option_map_or (λ place. Continues (record m' { counter = place })) (option_map (λ j. n) o) (Stops (BadJump m.counter) m'.memory)) found

-- and ends where none does
pub settled_misses : (program : Program) (m m' : Machine) (target : ℤ) (place : ℕ) → start_at program target ≡ None → m.counter ≡ place
    → settled program m (Goes m' target) ≡ Stops (BadJump place) m'.memory
settled_misses program m m' target place none at =
    ap (λ (o : Option ℕ). option_map_or (λ place. Continues (record m' { counter = place })) o (Stops (BadJump m.counter) m'.memory)) none
    ∙ ap (λ (n : ℕ). Stops (BadJump n) m'.memory) at

-- no instruction starts at a target that has no slot
pub no_start : (slots : List (Option Insn)) (target : ℤ) → insn_at slots target ≡ None → start_at (decoded_program slots) target ≡ None
no_start slots (pos n) none = ap (λ (o : Option Insn). option_map (λ j. n) o) none
no_start slots (negsuc n) none = refl

-- a target that has a slot is a place
pub place_of_target : (slots : List (Option Insn)) (target : ℤ) (i : Insn) → insn_at slots target ≡ Some i → (n : ℕ) × (target ≡ pos n)
place_of_target slots (pos n) i found = (n, refl)
place_of_target slots (negsuc n) i found = cc

-- a run by its first step
module _ (program : Program) (m : Machine) where
  pub run_goes : (n : ℕ) (m' : Machine) → 0 < n → step program m ≡ Continues m' → outcome_from program n m ≡ outcome_from program (n - 1) m'
  run_goes zero m' some did = absurd (omega arith)
  run_goes (suc n) m' some did =
      let e : suc n - 1 ≡ n = omega arith in
      ap (λ (s : Step). outcome_after (λ x. outcome_from program n x) s) did ∙ ap (λ (k : ℕ). outcome_from program k m') (sym e)

  pub run_stops : (n : ℕ) (ending : End) (memory : Memory) → 0 < n → step program m ≡ Stops ending memory
      → outcome_from program n m ≡ record { ending = ending; memory = memory }
  run_stops zero ending memory some did = absurd (omega arith)
  run_stops (suc n) ending memory some did = ap (λ (s : Step). outcome_after (λ x. outcome_from program n x) s) did

  pub run_spent : (n : ℕ) → n ≡ 0 → outcome_from program n m ≡ record { ending = BudgetSpent; memory = m.memory }
  run_spent n none = ap (λ (k : ℕ). outcome_from program k m) none
