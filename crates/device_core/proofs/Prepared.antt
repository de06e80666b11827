-- What is prepared for a claim.
use Rattle.std.proofs.Common.{◌≡◌, ℕ, ◌*◌, ◌≤◌, ◌==◌, nat_lt, get_or, Bool, true, false, ◌||◌, cond, if◌then◌else◌, List, [], ◌∷◌, ◌++◌, find, length, map, Option, Some, None, Result, Ok, Err, IfOk, IsSome, is_none, option_map, replicate, unwrap_or, vec_capacity, refl, sym, ap, subst, ◌∙◌, arith}
use Rattle.std.specs.List.{AllByRecursion, list_any}
use Rattle.std.proofs.lemmas.Bool.{true≢false}
use Rattle.cp_base.specs.Commands.{nature_of}
use Rattle.cp_base.specs.declared.commands.Nature.{Nature}
use Rattle.cp_base.specs.declared.commands.Nature.TheVariants as nature
use Rattle.std.specs.Option.{option_or}
use Rattle.cp_base.specs.Answer.{Answer, only_status}
use Rattle.cp_base.specs.Checks.{Check, any_without_bytes, first_failing, refuse}
use Rattle.cp_base.specs.Configuration.{Configuration}
use Rattle.cp_base.specs.Region.{Region}
use Rattle.cp_base.specs.Sets.{RangeSet, ranges_under}
use Rattle.cp_base.specs.Sharing.{any_overlap, is_outside, range_region}
use Rattle.cp_base.specs.declared.commands.Command.{Command}
use Rattle.cp_base.specs.declared.commands.Command.TheVariants as command
use Rattle.cp_base.specs.declared.lists.MemRange.{MemRange}
use Rattle.cp_base.specs.declared.region.SpaceId.TheVariants as space
use Rattle.cp_base.specs.declared.replies.Status.{Status}
use Rattle.cp_base.specs.declared.replies.Status.TheVariants as status
use Rattle.device_model.specs.Checks.{execute_checks, refusal_of, runnable_checks}
use Rattle.bpf_isa.specs.declared.end.End.{End}
use Rattle.bpf_isa.specs.declared.end.End.TheVariants as end
use Rattle.device_model.specs.Execution.{executable_in, told_of}
use Rattle.device_model.specs.State.{Slot, State}
use Rattle.trail_model.specs.Fits.{SetFits}
use Rattle.device_model.specs.Memory.{moves_bytes}
use Rattle.trail_model.specs.Footprints.{Execution, execution_of, footprint_of, is_execution}
use Rattle.trail_model.specs.LocalEffects.{local_effect, written}
use Rattle.trail_model.specs.Pieces.{AllBytes, carried}
use Rattle.trail_model.proofs.Bytes.{length-gathered}
use Rattle.core_model.specs.Parts.{tables_of}
use Rattle.extents.specs.Homes.{Homes}
use Rattle.job_run.specs.Works.{FitsExecution, IsWork, RunsDecoded, region_bytes}
use Rattle.job_run.specs.declared.work.Work.{Work}
use Rattle.device_core.proofs.Claimed.{cut-ranges, cut-regions, cut-whole}
use Rattle.device_core.specs.Portions.{AreCutAt}
use Rattle.device_core.specs.Preparing.{FitsSetup, carried_in, set_in}
use Rattle.bpf_model.specs.Address.{stack_len}
use Rattle.device_core.specs.declared.preparing.Setup.{Setup}

-- ---- the ranges of a set

-- ranges have bytes, lie inside their namespaces and share no byte
pub record RangesFit (c : Configuration) (ranges : List MemRange) : Type 0 where
  pub some : any_without_bytes (map range_region ranges) ≡ false
  pub inside : list_any (is_outside c) (map range_region ranges) ≡ false
  pub apart : any_overlap (map range_region ranges) ≡ false

found-fit : (c : Configuration) (sets : List RangeSet) (n : ℕ) → AllByRecursion (SetFits c) sets → RangesFit c (unwrap_or (ranges_under sets n) [])
found-fit c [] n all = record { some = refl; inside = refl; apart = refl }
found-fit c (x ∷ sets) n all = by_test (x.number == n) (found-fit c sets n all.1)
  where
    by_test : (b : Bool) → RangesFit c (unwrap_or (ranges_under sets n) [])
        → RangesFit c (unwrap_or (option_map (λ (y : RangeSet). y.ranges) (cond b (Some x) (find (λ (y : RangeSet). y.number == n) sets))) [])
    by_test true rest = record { some = all.0.some; inside = all.0.inside; apart = all.0.apart }
    by_test false rest = rest

-- what an execution runs on
pub ranges-fit : (c : Configuration) (sets : List RangeSet) (cmd : Command) → AllByRecursion (SetFits c) sets → RangesFit c (unwrap_or (set_in sets cmd) [])
ranges-fit c sets (command.Execute slot set p1 p2 budget) all = found-fit c sets set all
ranges-fit c sets cmd all = record { some = refl; inside = refl; apart = refl }

pub ranges-run : (slots : List Slot) (sets : List RangeSet) (cmd : Command) → unwrap_or (set_in sets cmd) [] ≡ (execution_of (tables_of slots sets) cmd).ranges
ranges-run slots sets (command.Execute slot set p1 p2 budget) = refl
ranges-run slots sets cmd = refl

-- ---- the reply

told-none : (budget : ℕ) (e : End) → (told_of budget e).bytes ≡ []
told-none budget (end.Exit value) = refl
told-none budget (end.BadAccess place) = refl
told-none budget (end.BadJump place) = refl
told-none budget (end.CallDepth place) = refl
told-none budget end.BudgetSpent = refl

-- the answer to a command that reads has no more bytes than the first range that is read
pub reply-first : (c : Configuration) (ranges : List MemRange) (x : Execution) (all : AllBytes) (cmd : Command) (reads : List Region) (r : Region) → nature_of cmd ≡ nature.Reads
    → reads ≡ (footprint_of c ranges cmd).reads → get_or reads 0 r ≡ r → length (written c x all cmd).answer.bytes ≤ r.len
reply-first c ranges x all (command.NvmRead ns lba count) reads r is same first =
    let len = ap (λ (y : Region). y.len) (sym first ∙ ap (λ (rs : List Region). get_or rs 0 r) same) in
    omega (arith, len, length-gathered all (space.Nvm ns) (lba * c.block) (count * c.block))
reply-first c ranges x all (command.MemRead ns at len) reads r is same first =
    let one = ap (λ (y : Region). y.len) (sym first ∙ ap (λ (rs : List Region). get_or rs 0 r) same) in
    omega (arith, one, length-gathered all (space.Mem ns) at len)
reply-first c ranges x all cmd reads r is same first = absurd (cc)

-- and such a range is there
pub one-read : (c : Configuration) (ranges : List MemRange) (cmd : Command) → nature_of cmd ≡ nature.Reads → length (footprint_of c ranges cmd).reads ≡ 1
one-read c ranges (command.NvmRead ns lba count) is = refl
one-read c ranges (command.MemRead ns at len) is = refl
one-read c ranges cmd is = absurd (cc)

-- whether a command of this nature is answered with bytes
abbrev pub is_reading : Nature → Bool
is_reading nature.Reads = true
is_reading nature.Writes = false
is_reading nature.Copies = false
is_reading (nature.Executes slot set) = false
is_reading nature.Builds = false
is_reading nature.Arranges = false
is_reading (nature.Deletes set) = false
is_reading (nature.Stops slot) = false
is_reading (nature.Withdraws cid) = false

-- any other answer has none
pub no-reply : (c : Configuration) (x : Execution) (all : AllBytes) (cmd : Command) → is_reading (nature_of cmd) ≡ false → length (written c x all cmd).answer.bytes ≤ 0
no-reply c x all (command.NvmRead ns lba count) other = absurd (true≢false other)
no-reply c x all (command.MemRead ns at len) other = absurd (true≢false other)
no-reply c x all (command.Execute slot set p1 p2 budget) other =
    subst (λ (bytes : List ℕ). length bytes ≤ 0) (sym (told-none budget _)) (omega arith)
no-reply c x all cmd other = omega arith

-- ---- the program

none-first : (o : Option Status) (p : Option Answer) → option_or (option_map only_status o) p ≡ None → o ≡ None
none-first None p e = refl
none-first (Some s) p e = cc

none-left : (xs ys : List Check) → first_failing (xs ++ ys) ≡ None → first_failing xs ≡ None
none-left [] ys e = refl
none-left (x ∷ xs) ys e = by_test x.fails e (λ h. none-left xs ys h)
  where
    by_test : (b : Bool) → (if b then Some x.status else first_failing (xs ++ ys)) ≡ None → (first_failing (xs ++ ys) ≡ None → first_failing xs ≡ None)
        → (if b then Some x.status else first_failing xs) ≡ None
    by_test true e later = cc
    by_test false e later = later e

-- the program of an execution that passes its checks can be run
pub runnable : (c : Configuration) (s : State) (slot set p1 p2 budget : ℕ) → refusal_of c s (command.Execute slot set p1 p2 budget) ≡ None
    → first_failing (runnable_checks s slot) ≡ None
runnable c s slot set p1 p2 budget passes = none-left (runnable_checks s slot) _ (none-first (first_failing (execute_checks c s slot set budget)) None passes)

none-right : (xs ys : List Check) → first_failing (xs ++ ys) ≡ None → first_failing ys ≡ None
none-right [] ys e = e
none-right (x ∷ xs) ys e = by_test x.fails e (λ h. none-right xs ys h)
  where
    by_test : (b : Bool) → (if b then Some x.status else first_failing (xs ++ ys)) ≡ None → (first_failing (xs ++ ys) ≡ None → first_failing ys ≡ None)
        → first_failing ys ≡ None
    by_test true e later = cc
    by_test false e later = later e

-- and its set is there
pub set-there : (c : Configuration) (s : State) (slot set p1 p2 budget : ℕ) → refusal_of c s (command.Execute slot set p1 p2 budget) ≡ None
    → IsSome (ranges_under s.sets set)
set-there c s slot set p1 p2 budget passes =
    by_found (ranges_under s.sets set) (none-right (runnable_checks s slot) _ (none-first (first_failing (execute_checks c s slot set budget)) None passes))
  where
    by_found : (o : Option (List MemRange))
        → first_failing (refuse (is_none o) status.NoSuchSet ∷ refuse ((budget == 0) || nat_lt c.budget budget) status.BudgetRange ∷ []) ≡ None → IsSome o
    by_found None e = cc
    by_found (Some ranges) e = refl

-- ---- the work

-- what an execution has beside its pieces makes the work fit
pub fits-work : (c : Configuration) (slots : List Slot) (sets : List RangeSet) (cmd : Command) (setup : Setup) (w : Work) → AllByRecursion (SetFits c) sets
    → FitsSetup (execution_of (tables_of slots sets) cmd) (length w.pieces.items) setup
    → w ≡ record w { windows = setup.windows; set = setup.set; code = setup.code; stack = setup.stack }
    → FitsExecution (execution_of (tables_of slots sets) cmd) w
fits-work c slots sets cmd setup w fit fits same =
    subst (λ (v : Work). FitsExecution (execution_of (tables_of slots sets) cmd) v) (sym same) (record {
      set = fits.set;
      code = fits.code;
      apart = subst (λ (rs : List MemRange). any_overlap (map range_region rs) ≡ false) (ranges-run slots sets cmd) (ranges-fit c sets cmd fit).apart;
      stack = fits.stack;
      windows = fits.windows;
    })

-- it is the work of its command
pub made : (c : Configuration) (s : State) (h : Homes) (cmd : Command) (w : Work) → w.command.value ≡ cmd → c.block ≡ w.block
    → moves_bytes cmd ≡ true → refusal_of c s cmd ≡ None → AreCutAt h (carried_in c s cmd) w.pieces.items → w.windows.items ≡ [] → w.reply.items ≡ []
    → ((x : Execution) (all : AllBytes) → length (written c x all cmd).answer.bytes ≤ w.reply.spare)
    → (is_execution cmd ≡ true → FitsExecution (execution_of s cmd) w) → IsWork c s w
made c s h cmd w e block moves passes cut no_windows no_reply reply fits = record {
  block = block;
  passes = ap (λ (m : Command). refusal_of c s m) e ∙ passes;
  moves = ap moves_bytes e ∙ moves;
  regions = cut-regions h (carried_in c s cmd) w.pieces.items cut ∙ sym (ap (λ (m : Command). carried_in c s m) e);
  whole = cut-whole h (carried_in c s cmd) w.pieces.items cut;
  ranges = cut-ranges h (carried_in c s cmd) w.pieces.items cut;
  no_windows = no_windows;
  no_reply = no_reply;
  reply = subst (λ (m : Command). length (local_effect c (execution_of s m) (region_bytes w.pieces.items) m).answer.bytes ≤ w.reply.spare) (sym e)
      (reply (execution_of s cmd) (carried (region_bytes w.pieces.items)));
  execution = λ is. subst (λ (m : Command). FitsExecution (execution_of s m) w) (sym e) (fits (sym (ap is_execution e) ∙ is));
}

-- what an execution has fits it
pub setup-fits : {E : Type 0} (r : Result Setup E) (slots : List Slot) (slot number p1 p2 budget pieces : ℕ) (set : Option (List MemRange))
    → IfOk r (λ (setup : Setup). pieces ≤ vec_capacity setup.windows) → IfOk r (λ (setup : Setup). setup.set ≡ set)
    → IfOk r (λ (setup : Setup). (sets : List RangeSet) → RunsDecoded (executable_in (tables_of slots sets) slot) (option_map (λ decoded. decoded.value) setup.code))
    → IfOk r (λ (setup : Setup). setup.stack.items ≡ replicate stack_len 0) → IsSome set
    → IfOk r (λ (setup : Setup). (sets : List RangeSet) → set ≡ ranges_under sets number
    → FitsSetup (execution_of (tables_of slots sets) (command.Execute slot number p1 p2 budget)) pieces setup)
setup-fits (Err e) slots slot number p1 p2 budget pieces set windows same code stack there = tt
setup-fits (Ok setup) slots slot number p1 p2 budget pieces set windows same code stack there = λ sets here. record {
  set = same ∙ by_found set (ranges_under sets number) there here;
  code = code sets;
  stack = stack;
  windows = windows;
}
  where
    by_found : (a b : Option (List MemRange)) → IsSome a → a ≡ b → a ≡ Some (unwrap_or b [])
    by_found None b there e = cc
    by_found (Some ranges) b there e = ap (λ (o : Option (List MemRange)). Some (unwrap_or o [])) e
