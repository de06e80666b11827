-- Open claims find their slots and sets as they were: after what other claims bring home, and after commands that change
-- tables and may be picked.
use Rattle.std.proofs.Common.{◌≡◌, ℕ, zero, suc, ◌<◌, ◌==◌, Bool, true, false, not, ◌||◌, List, [], ◌∷◌, ◌++◌, length, map, filter, Option, Some, None, option_map, is_none, is_some, unwrap_or, slice_get, slice_set, refl, sym, ap, ap₂, subst, ◌∙◌, arith, nat_lt, if◌then◌else◌}
use Rattle.std.specs.List.{AllByRecursion}
use Rattle.std.specs.Option.{option_or}
use Rattle.std.specs.Prelude.{nat_le}
use Rattle.std.proofs.lemmas.Bool.{true≢false}
use Rattle.std.proofs.lemmas.Bool.Decides.{nat_tests}
use Rattle.cp_base.specs.Answer.{Answer, only_status}
use Rattle.cp_base.specs.Checks.{Check, first_failing, refuse, set_checks}
use Rattle.cp_base.specs.Configuration.{Configuration}
use Rattle.cp_base.specs.Contents.{Contents, bytes_of}
use Rattle.cp_base.specs.Sets.{next_number, ranges_under, with_set, without_set}
use Rattle.cp_base.specs.Sharing.{range_region}
use Rattle.cp_base.specs.declared.commands.Command.{Command}
use Rattle.cp_base.specs.declared.commands.Command.TheVariants as command
use Rattle.cp_base.specs.declared.limits.TheConstants.{MAX_SETS}
use Rattle.cp_base.specs.declared.lists.MemRange.{MemRange}
use Rattle.cp_base.specs.declared.replies.Status.TheVariants as status
use Rattle.device_model.specs.Builtin.{Builtin, builtin_at}
use Rattle.device_model.specs.Checks.{activate_checks, deactivate_checks, is_active, load_checks, refusal_of, runnable_checks, unload_checks}
use Rattle.device_model.specs.Effect.{effect_of}
use Rattle.device_model.specs.Execution.{executable_in, loaded_or}
use Rattle.device_model.specs.Memory.{moves_bytes}
use Rattle.device_model.specs.State.{Slot, State, slot_at, with_slot}
use Rattle.trail_model.specs.Claims.{FindsItself, HoldsTables}
use Rattle.trail_model.specs.Fits.{SetFits, StateFits}
use Rattle.trail_model.specs.Footprints.{Execution, carried_regions, execution_of, held_set, held_slot}
use Rattle.trail_model.specs.Pieces.{pieces_of}
use Rattle.trail_model.specs.World.{OpenClaim, changes_held, is_number}
use Rattle.trail_model.proofs.NewSets.{each-filter, new-set-stays, next-fresh, others-stay}
use Rattle.trail_model.proofs.Passing.{Passes, all-pass, passes, set-there}
use Rattle.trail_model.proofs.Submits.{each-append, same-eqb}

-- ---- what a command needs of the tables

-- two states have the same of the slot and the set of an execution
abbrev pub KeepsFor : State → State → Command → Type 0
KeepsFor old new (command.Execute slot set p1 p2 budget) =
    (builtin_at slot ≡ None → slot_at new slot ≡ slot_at old slot) × (ranges_under new.sets set ≡ ranges_under old.sets set)
KeepsFor old new cmd = Unit {0}

runnable-kept : (old new : State) (slot : ℕ) → (builtin_at slot ≡ None → slot_at new slot ≡ slot_at old slot) → runnable_checks new slot ≡ runnable_checks old slot
runnable-kept old new slot same = by_kind (builtin_at slot) same
  where
    by_kind : (o : Option Builtin) → (o ≡ None → slot_at new slot ≡ slot_at old slot)
        → (if is_none o then deactivate_checks (slot_at new slot) else []) ≡ (if is_none o then deactivate_checks (slot_at old slot) else [])
    by_kind None same = ap deactivate_checks (same refl)
    by_kind (Some program) same = refl

executable-kept : (old new : State) (slot : ℕ) → (builtin_at slot ≡ None → slot_at new slot ≡ slot_at old slot) → executable_in new slot ≡ executable_in old slot
executable-kept old new slot same = by_kind (builtin_at slot) same
  where
    by_kind : (o : Option Builtin) → (o ≡ None → slot_at new slot ≡ slot_at old slot) → loaded_or (slot_at new slot) o ≡ loaded_or (slot_at old slot) o
    by_kind None same = ap (λ (slot : Option Slot). loaded_or slot None) (same refl)
    by_kind (Some program) same = refl

-- the checks of an execution, by what they need of the tables
abbrev execution_refusal : Configuration → ℕ → List Check → Option (List MemRange) → Option Answer
execution_refusal c budget runnable ranges =
    option_or (option_map only_status (first_failing (runnable ++ refuse (is_none ranges) status.NoSuchSet
    ∷ refuse ((budget == 0) || nat_lt c.budget budget) status.BudgetRange ∷ []))) None

pub refusal-kept : (c : Configuration) (old new : State) (cmd : Command) → moves_bytes cmd ≡ true → KeepsFor old new cmd → refusal_of c new cmd ≡ refusal_of c old cmd
refusal-kept c old new (command.NvmRead ns lba count) moves keeps = refl
refusal-kept c old new (command.NvmWrite ns lba bytes) moves keeps = refl
refusal-kept c old new (command.NvmZeroes ns lba count) moves keeps = refl
refusal-kept c old new (command.NvmCopy ns lba from) moves keeps = refl
refusal-kept c old new (command.MemRead ns at len) moves keeps = refl
refusal-kept c old new (command.MemWrite ns at bytes) moves keeps = refl
refusal-kept c old new (command.MemFill ns at len value) moves keeps = refl
refusal-kept c old new (command.MemCopy ns at from) moves keeps = refl
refusal-kept c old new (command.SetCreate ranges) moves keeps = absurd (true≢false (sym moves))
refusal-kept c old new (command.SetDelete set) moves keeps = absurd (true≢false (sym moves))
refusal-kept c old new (command.Load slot size at bytes) moves keeps = absurd (true≢false (sym moves))
refusal-kept c old new (command.Unload slot) moves keeps = absurd (true≢false (sym moves))
refusal-kept c old new (command.Activate slot) moves keeps = absurd (true≢false (sym moves))
refusal-kept c old new (command.Deactivate slot) moves keeps = absurd (true≢false (sym moves))
refusal-kept c old new (command.Execute slot set p1 p2 budget) moves keeps =
    ap₂ (execution_refusal c budget) (runnable-kept old new slot keeps.0) keeps.1
refusal-kept c old new (command.Abort cid) moves keeps = absurd (true≢false (sym moves))

execution-kept : (old new : State) (cmd : Command) → KeepsFor old new cmd → execution_of new cmd ≡ execution_of old cmd
execution-kept old new (command.Execute slot set p1 p2 budget) keeps =
    let runs : executable_in new slot ≡ executable_in old slot = executable-kept old new slot keeps.0 in
    let ranges : ranges_under new.sets set ≡ ranges_under old.sets set = keeps.1 in
    λ i. record { runs = runs i; ranges = unwrap_or (ranges i) [] }
execution-kept old new cmd keeps = refl

-- a claim finds itself in a state with the same tables for it and the same bytes in its pieces
pub finds-kept : (c : Configuration) (old new : State) (claim : OpenClaim) → FindsItself c old claim → KeepsFor old new claim.request.command
    → pieces_of new.contents (carried_regions c claim.execution.ranges claim.request.command) ≡ pieces_of old.contents (carried_regions c claim.execution.ranges claim.request.command)
    → FindsItself c new claim
finds-kept c old new claim finds keeps same =
    let cmd : Command = claim.request.command in
    let x : execution_of new cmd ≡ claim.execution = execution-kept old new cmd keeps ∙ finds.execution in
    record {
      passes = refusal-kept c old new cmd finds.moves keeps ∙ finds.passes;
      moves = finds.moves;
      execution = x;
      pieces = ap (λ (y : Execution). pieces_of new.contents (carried_regions c y.ranges cmd)) x
          ∙ (same ∙ (ap (λ (y : Execution). pieces_of old.contents (carried_regions c y.ranges cmd)) (sym finds.execution) ∙ finds.pieces));
    }

-- other bytes keep all tables
pub bytes-keep : (s : State) (contents : Contents) (cmd : Command) → KeepsFor s (record s { contents = contents }) cmd
bytes-keep s contents (command.Execute slot set p1 p2 budget) = ((λ e. refl), refl)
bytes-keep s contents cmd = tt

-- ---- an open execution has an active slot and a set

front-passes : (checks more : List Check) → Passes (checks ++ more) → Passes checks
front-passes [] more e = refl
front-passes (check ∷ checks) more e = by_test check.fails e (front-passes checks more)
  where
    by_test : (b : Bool) → (if b then Some check.status else first_failing (checks ++ more)) ≡ None → (Passes (checks ++ more) → Passes checks)
        → (if b then Some check.status else first_failing checks) ≡ None
    by_test true e later = e
    by_test false e later = later e

not-false : (b : Bool) → not b ≡ false → b ≡ true
not-false true e = refl
not-false false e = absurd (true≢false e)

active-passes : (slot : Option Slot) → Passes (deactivate_checks slot) → is_active slot ≡ true
active-passes slot e = not-false (is_active slot) (all-pass (deactivate_checks slot) e).1.1.0

pub slot-active : (c : Configuration) (s : State) (slot set p1 p2 budget : ℕ) → refusal_of c s (command.Execute slot set p1 p2 budget) ≡ None → builtin_at slot ≡ None
    → is_active (slot_at s slot) ≡ true
slot-active c s slot set p1 p2 budget e none = active-passes (slot_at s slot)
    (subst (λ (o : Option Builtin). Passes (if is_none o then deactivate_checks (slot_at s slot) else [])) none
    (front-passes (runnable_checks s slot) (refuse (is_none (ranges_under s.sets set)) status.NoSuchSet ∷ refuse ((budget == 0) || nat_lt c.budget budget) status.BudgetRange ∷ [])
    (passes c s (command.Execute slot set p1 p2 budget) e)))

found-some : {A : Type 0} (o : Option A) → is_none o ≡ false → (x : A) × (o ≡ Some x)
found-some None e = absurd (true≢false e)
found-some (Some x) e = (x, refl)

pub set-found : (c : Configuration) (s : State) (slot set p1 p2 budget : ℕ) → refusal_of c s (command.Execute slot set p1 p2 budget) ≡ None
    → (ranges : List MemRange) × (ranges_under s.sets set ≡ Some ranges)
set-found c s slot set p1 p2 budget e =
    found-some (ranges_under s.sets set) (set-there c s slot set budget (passes c s (command.Execute slot set p1 p2 budget) e))

-- an open execution holds its slot and its set
pub holds-tables : (c : Configuration) (s : State) (slot set p1 p2 budget : ℕ) (x : Execution) → refusal_of c s (command.Execute slot set p1 p2 budget) ≡ None
    → execution_of s (command.Execute slot set p1 p2 budget) ≡ x → HoldsTables s slot set x
holds-tables c s slot set p1 p2 budget x e same =
    let found = set-found c s slot set p1 p2 budget e in
    record {
      active = by_kind (builtin_at slot) (slot-active c s slot set p1 p2 budget e);
      code = ap (λ (y : Execution). y.runs) same;
      ranges = found.1 ∙ ap (λ (rs : List MemRange). Some rs)
          (sym (ap (λ (o : Option (List MemRange)). unwrap_or o []) found.1) ∙ ap (λ (y : Execution). y.ranges) same);
    }
  where
    by_kind : (o : Option Builtin) → (o ≡ None → is_active (slot_at s slot) ≡ true) → (is_some o || is_active (slot_at s slot)) ≡ true
    by_kind None active = active refl
    by_kind (Some program) active = refl

-- ---- commands that change tables

slot-other : {A : Type 0} (xs : List A) (i j : ℕ) (x : A) → (j ≡ i → ⊥) → slice_get (slice_set xs i x) j ≡ slice_get xs j
slot-other [] i j x other = refl
slot-other (y ∷ xs) zero zero x other = absurd (other refl)
slot-other (y ∷ xs) zero (suc j) x other = refl
slot-other (y ∷ xs) (suc i) zero x other = refl
slot-other (y ∷ xs) (suc i) (suc j) x other = slot-other xs i j x (λ e. other (ap suc e))

-- another slot under a number that is not active keeps what an open execution needs
slot-keeps : (c : Configuration) (s : State) (changed : ℕ) (slot : Slot) (cmd : Command) → refusal_of c s cmd ≡ None
    → is_active (slot_at s changed) ≡ false → KeepsFor s (with_slot s changed slot) cmd
slot-keeps c s changed slot (command.Execute k set p1 p2 budget) e idle = (
  (λ none. slot-other s.slots changed k slot
      (λ same. true≢false (sym (slot-active c s k set p1 p2 budget e none) ∙ (ap (λ (n : ℕ). is_active (slot_at s n)) same ∙ idle)))),
  refl,
)
slot-keeps c s changed slot cmd e idle = tt

-- and so does another slot under a number that is not held
free-slot-keeps : (s : State) (changed : ℕ) (slot : Slot) (cmd : Command) → is_number changed (held_slot cmd) ≡ false → KeepsFor s (with_slot s changed slot) cmd
free-slot-keeps s changed slot (command.Execute k set p1 p2 budget) free =
    ((λ none. slot-other s.slots changed k slot (λ same. true≢false (sym (same-eqb k changed same) ∙ free))), refl)
free-slot-keeps s changed slot cmd free = tt

free-set-keeps : (s : State) (gone : ℕ) (cmd : Command) → is_number gone (held_set cmd) ≡ false → KeepsFor s (record s { sets = without_set s.sets gone }) cmd
free-set-keeps s gone (command.Execute k set p1 p2 budget) free =
    ((λ none. refl), others-stay s.sets gone set (λ same. true≢false (sym (same-eqb set gone same) ∙ free)))
free-set-keeps s gone cmd free = tt

new-set-keeps : (c : Configuration) (s : State) (ranges : List MemRange) (cmd : Command) → length s.sets < MAX_SETS → refusal_of c s cmd ≡ None
    → KeepsFor s (record s { sets = with_set s.sets (record { number = next_number s.sets; ranges = ranges }) }) cmd
new-set-keeps c s ranges (command.Execute k set p1 p2 budget) fewer e =
    let found = set-found c s k set p1 p2 budget e in
    ((λ none. refl), new-set-stays s.sets ranges set found.0 fewer found.1)
new-set-keeps c s ranges cmd fewer e = tt

fewer-sets : (c : Configuration) (s : State) (ranges : List MemRange) → refusal_of c s (command.SetCreate ranges) ≡ None → length s.sets < MAX_SETS
fewer-sets c s ranges e =
    let p = all-pass (set_checks c (length s.sets) (map range_region ranges)) (passes c s (command.SetCreate ranges) e) in
    let test : nat_le MAX_SETS (length s.sets) ≡ false = p.1.1.1.1.0 in
    below MAX_SETS (length s.sets) test
  where
    below : (most n : ℕ) → nat_le most n ≡ false → n < most
    below most n test = grind (arith, nat_tests)

-- a command that changes tables, passes its checks and changes nothing that is held keeps what open claims need
pub change-keeps : (c : Configuration) (s : State) (cmd : Command) (claim : OpenClaim) → moves_bytes cmd ≡ false → refusal_of c s cmd ≡ None
    → changes_held (claim ∷ []) cmd ≡ false → FindsItself c s claim → KeepsFor s (effect_of c s cmd).next claim.request.command
change-keeps c s (command.NvmRead ns lba count) claim still e free finds = absurd (true≢false still)
change-keeps c s (command.NvmWrite ns lba bytes) claim still e free finds = absurd (true≢false still)
change-keeps c s (command.NvmZeroes ns lba count) claim still e free finds = absurd (true≢false still)
change-keeps c s (command.NvmCopy ns lba from) claim still e free finds = absurd (true≢false still)
change-keeps c s (command.MemRead ns at len) claim still e free finds = absurd (true≢false still)
change-keeps c s (command.MemWrite ns at bytes) claim still e free finds = absurd (true≢false still)
change-keeps c s (command.MemFill ns at len value) claim still e free finds = absurd (true≢false still)
change-keeps c s (command.MemCopy ns at from) claim still e free finds = absurd (true≢false still)
change-keeps c s (command.SetCreate ranges) claim still e free finds = new-set-keeps c s ranges claim.request.command (fewer-sets c s ranges e) finds.passes
change-keeps c s (command.SetDelete set) claim still e free finds = free-set-keeps s set claim.request.command (first-false (is_number set (held_set claim.request.command)) free)
  where
    first-false : (b : Bool) → (b || false) ≡ false → b ≡ false
    first-false true h = h
    first-false false h = refl
change-keeps c s (command.Load slot size at bytes) claim still e free finds =
    slot-keeps c s slot _ claim.request.command finds.passes (all-pass (load_checks (slot_at s slot) size at (length bytes.items)) (passes c s (command.Load slot size at bytes) e)).1.0
change-keeps c s (command.Unload slot) claim still e free finds =
    slot-keeps c s slot _ claim.request.command finds.passes (all-pass (unload_checks (slot_at s slot)) (passes c s (command.Unload slot) e)).1.1.0
change-keeps c s (command.Activate slot) claim still e free finds =
    slot-keeps c s slot _ claim.request.command finds.passes (all-pass (activate_checks (slot_at s slot)) (passes c s (command.Activate slot) e)).1.1.0
change-keeps c s (command.Deactivate slot) claim still e free finds = free-slot-keeps s slot _ claim.request.command (first-false (is_number slot (held_slot claim.request.command)) free)
  where
    first-false : (b : Bool) → (b || false) ≡ false → b ≡ false
    first-false true h = h
    first-false false h = refl
change-keeps c s (command.Execute slot set p1 p2 budget) claim still e free finds = absurd (true≢false still)
change-keeps c s (command.Abort cid) claim still e free finds = same-keeps s claim.request.command
  where
    same-keeps : (s : State) (cmd : Command) → KeepsFor s s cmd
    same-keeps s (command.Execute slot set p1 p2 budget) = ((λ none. refl), refl)
    same-keeps s cmd = tt

-- ---- the state still fits

new-set-fits : (c : Configuration) (s : State) (ranges : List MemRange) → refusal_of c s (command.SetCreate ranges) ≡ None
    → SetFits c (record { number = next_number s.sets; ranges = ranges })
new-set-fits c s ranges e =
    let p = all-pass (set_checks c (length s.sets) (map range_region ranges)) (passes c s (command.SetCreate ranges) e) in
    record { number = (next-fresh s.sets (fewer-sets c s ranges e)).positive; inside = p.1.1.0; some = p.1.0; apart = p.1.1.1.0 }

-- a command that moves no bytes leaves the bytes
pub still-bytes : (c : Configuration) (s : State) (cmd : Command) → moves_bytes cmd ≡ false → (effect_of c s cmd).next.contents ≡ s.contents
still-bytes c s (command.NvmRead ns lba count) still = absurd (true≢false still)
still-bytes c s (command.NvmWrite ns lba bytes) still = absurd (true≢false still)
still-bytes c s (command.NvmZeroes ns lba count) still = absurd (true≢false still)
still-bytes c s (command.NvmCopy ns lba from) still = absurd (true≢false still)
still-bytes c s (command.MemRead ns at len) still = absurd (true≢false still)
still-bytes c s (command.MemWrite ns at bytes) still = absurd (true≢false still)
still-bytes c s (command.MemFill ns at len value) still = absurd (true≢false still)
still-bytes c s (command.MemCopy ns at from) still = absurd (true≢false still)
still-bytes c s (command.SetCreate ranges) still = refl
still-bytes c s (command.SetDelete set) still = refl
still-bytes c s (command.Load slot size at bytes) still = refl
still-bytes c s (command.Unload slot) still = refl
still-bytes c s (command.Activate slot) still = refl
still-bytes c s (command.Deactivate slot) still = refl
still-bytes c s (command.Execute slot set p1 p2 budget) still = absurd (true≢false still)
still-bytes c s (command.Abort cid) still = refl

sets-fit : (c : Configuration) (s : State) (cmd : Command) → moves_bytes cmd ≡ false → refusal_of c s cmd ≡ None → AllByRecursion (SetFits c) s.sets
    → AllByRecursion (SetFits c) (effect_of c s cmd).next.sets
sets-fit c s (command.SetCreate ranges) still e all =
    each-append (SetFits c) (filter _ s.sets) (record { number = next_number s.sets; ranges = ranges } ∷ filter _ s.sets)
    (each-filter (SetFits c) _ s.sets all) (new-set-fits c s ranges e, each-filter (SetFits c) _ s.sets all)
sets-fit c s (command.SetDelete set) still e all = each-filter (SetFits c) _ s.sets all
sets-fit c s (command.NvmRead ns lba count) still e all = absurd (true≢false still)
sets-fit c s (command.NvmWrite ns lba bytes) still e all = absurd (true≢false still)
sets-fit c s (command.NvmZeroes ns lba count) still e all = absurd (true≢false still)
sets-fit c s (command.NvmCopy ns lba from) still e all = absurd (true≢false still)
sets-fit c s (command.MemRead ns at len) still e all = absurd (true≢false still)
sets-fit c s (command.MemWrite ns at bytes) still e all = absurd (true≢false still)
sets-fit c s (command.MemFill ns at len value) still e all = absurd (true≢false still)
sets-fit c s (command.MemCopy ns at from) still e all = absurd (true≢false still)
sets-fit c s (command.Load slot size at bytes) still e all = all
sets-fit c s (command.Unload slot) still e all = all
sets-fit c s (command.Activate slot) still e all = all
sets-fit c s (command.Deactivate slot) still e all = all
sets-fit c s (command.Execute slot set p1 p2 budget) still e all = absurd (true≢false still)
sets-fit c s (command.Abort cid) still e all = all

pub change-fits : (c : Configuration) (s : State) (cmd : Command) → moves_bytes cmd ≡ false → refusal_of c s cmd ≡ None → StateFits c s → StateFits c (effect_of c s cmd).next
change-fits c s cmd still e fits = record {
  sizes = λ sp. ap (λ (contents : Contents). length (bytes_of contents sp)) (still-bytes c s cmd still) ∙ fits.sizes sp;
  sets = sets-fit c s cmd still e fits.sets;
}
