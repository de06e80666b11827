-- A command that passes its checks in a state that fits reads and writes inside its namespaces.
use Rattle.std.proofs.Common.{◌≡◌, ℕ, ◌+◌, ◌*◌, ◌≤◌, ◌==◌, Bool, true, false, ◌||◌, cond, eqb, List, [], ◌∷◌, ◌++◌, length, map, find, Option, Some, None, option_map, unwrap_or, is_none, refl, sym, ap, subst, ◌∙◌, arith, if◌then◌else◌, nat_lt, mul-le-mul_right, zero-mul}
use Rattle.std.specs.List.{AllByRecursion, list_any}
use Rattle.std.specs.Option.{option_or}
use Rattle.std.proofs.lemmas.Bool.{true≢false}
use Rattle.std.proofs.lemmas.Bool.Decides.{nat_tests}
use Rattle.cp_base.specs.Answer.{Answer, only_status}
use Rattle.cp_base.specs.Checks.{Check, block_checks, blocks_of, byte_checks, copy_checks, destination_of, first_failing, refuse, write_checks}
use Rattle.cp_base.specs.Configuration.{Configuration, numbered, present, size_of}
use Rattle.cp_base.specs.Contents.{Contents, bytes_of}
use Rattle.cp_base.specs.Region.{Region}
use Rattle.cp_base.specs.Sets.{RangeSet, ranges_under}
use Rattle.cp_base.specs.Sharing.{is_outside, range_region, source_region}
use Rattle.cp_base.specs.declared.commands.Command.{Command}
use Rattle.cp_base.specs.declared.commands.Command.TheVariants as command
use Rattle.cp_base.specs.declared.limits.TheConstants.{MAX_SPAN, MAX_TRANSFER}
use Rattle.cp_base.specs.declared.lists.MemRange.{MemRange}
use Rattle.cp_base.specs.declared.region.SpaceId.{SpaceId}
use Rattle.cp_base.specs.declared.region.SpaceId.TheVariants as space
use Rattle.cp_base.specs.declared.replies.Status.{Status}
use Rattle.cp_base.specs.declared.replies.Status.TheVariants as status
use Rattle.bpf_model.specs.Memory.{allows_writing}
use Rattle.device_model.specs.Checks.{checks_of, execute_checks, refusal_of, refusal_of_program, runnable_checks}
use Rattle.device_model.specs.State.{State}
use Rattle.trail_model.specs.Fits.{SetFits, StateFits}
use Rattle.trail_model.specs.Footprints.{execution_of, reads_of, writable_ranges, writes_of}
use Rattle.trail_model.proofs.Bytes.{AreInContents}

-- ---- checks that pass

abbrev pub Passes : List Check → Type 0
Passes checks = first_failing checks ≡ None

none-some : (A : Type 0) (x : A) (b : Option A) → option_or (Some x) b ≡ None → ⊥
none-some A x b e = cc

pub first-passes : (failing : Option Status) (b : Option Answer) → option_or (option_map only_status failing) b ≡ None → failing ≡ None
first-passes None b e = refl
first-passes (Some st) b e = absurd (none-some Answer (only_status st) b e)

pub passes : (c : Configuration) (s : State) (cmd : Command) → refusal_of c s cmd ≡ None → Passes (checks_of c s cmd)
passes c s cmd e = first-passes (first_failing (checks_of c s cmd)) (refusal_of_program s cmd) e

pub check-passes : (test : Bool) (st : Status) (more : List Check) → Passes (refuse test st ∷ more) → (test ≡ false) × Passes more
check-passes true st more e = cc
check-passes false st more e = (refl, e)

-- no check of a list that passes fails
pub all-pass : (checks : List Check) → Passes checks → AllByRecursion (λ (check : Check). check.fails ≡ false) checks
all-pass [] e = tt
all-pass (check ∷ checks) e =
    let p = check-passes check.fails check.status checks e in
    (p.0, all-pass checks p.1)

pub behind-passes : (checks more : List Check) → Passes (checks ++ more) → Passes more
behind-passes [] more e = e
behind-passes (check ∷ checks) more e = behind-passes checks more (step check.fails e)
  where
    step : (b : Bool) → (if b then Some check.status else first_failing (checks ++ more)) ≡ None → Passes (checks ++ more)
    step true e = cc
    step false e = e

-- ---- inside

inside-region : (c : Configuration) (s : State) (r : Region) → StateFits c s → is_outside c r ≡ false → r.start + r.len ≤ length (bytes_of s.contents r.space)
inside-region c s r fits e = let size = fits.sizes r.space in grind (arith, nat_tests)

either_false : (a b : Bool) → (a || b) ≡ false → (a ≡ false) × (b ≡ false)
either_false true b h = absurd (true≢false h)
either_false false b h = (refl, h)

pub inside-regions : (c : Configuration) (s : State) (rs : List Region) → StateFits c s → list_any (is_outside c) rs ≡ false → AreInContents s.contents rs
inside-regions c s [] fits e = tt
inside-regions c s (r ∷ rs) fits e =
    let p = either_false (is_outside c r) (list_any (is_outside c) rs) e in
    (inside-region c s r fits p.0, inside-regions c s rs fits p.1)

-- how many bytes an NVM namespace has
nvm-size : (c : Configuration) (ns : ℕ) → unwrap_or (size_of c (space.Nvm ns)) 0 ≡ blocks_of c ns * c.block
nvm-size c ns = by_found (numbered c.nvm ns)
  where
    by_zero : (n : ℕ) (b : Bool) → (n == 0) ≡ b → unwrap_or (if b then None else Some (n * c.block)) 0 ≡ n * c.block
    by_zero n true e = let z : n ≡ 0 = grind (arith, nat_tests) in sym (ap (λ (m : ℕ). m * c.block) z ∙ zero-mul c.block)
    by_zero n false e = refl

    by_found : (found : Option ℕ) → unwrap_or (present c.block found) 0 ≡ unwrap_or found 0 * c.block
    by_found None = sym (zero-mul c.block)
    by_found (Some n) = by_zero n (n == 0) refl

-- what the checks of blocks, of a write, of bytes and of a copy leave
blocks-inside : (c : Configuration) (s : State) (ns lba count most : ℕ) → StateFits c s → Passes (block_checks c ns lba count most)
    → lba * c.block + count * c.block ≤ length (bytes_of s.contents (space.Nvm ns))
blocks-inside c s ns lba count most fits e =
    let p = all-pass (block_checks c ns lba count most) e in
    let test : nat_lt (blocks_of c ns) (lba + count) ≡ false = p.1.1.1.0 in
    let less : lba + count ≤ blocks_of c ns = grind (arith, nat_tests) in
    let scaled : (lba + count) * c.block ≤ blocks_of c ns * c.block = mul-le-mul_right c.block less in
    let size = fits.sizes (space.Nvm ns) in
    let bytes = nvm-size c ns in
    omega arith

write-inside : (c : Configuration) (s : State) (ns lba len most : ℕ) → StateFits c s → Passes (write_checks c ns lba len most)
    → lba * c.block + len ≤ length (bytes_of s.contents (space.Nvm ns))
write-inside c s ns lba len most fits e =
    let p = all-pass (write_checks c ns lba len most) e in
    let test : nat_lt (blocks_of c ns * c.block) (lba * c.block + len) ≡ false = p.1.1.1.0 in
    let less : lba * c.block + len ≤ blocks_of c ns * c.block = grind (arith, nat_tests) in
    let size = fits.sizes (space.Nvm ns) in
    let bytes = nvm-size c ns in
    omega arith

bytes-inside : (c : Configuration) (s : State) (ns at len most : ℕ) → StateFits c s → Passes (byte_checks (size_of c (space.Mem ns)) at len most)
    → at + len ≤ length (bytes_of s.contents (space.Mem ns))
bytes-inside c s ns at len most fits e =
    let p = all-pass (byte_checks (size_of c (space.Mem ns)) at len most) e in
    let test : nat_lt (unwrap_or (size_of c (space.Mem ns)) 0) (at + len) ≡ false = p.1.1.1.0 in
    let size = fits.sizes (space.Mem ns) in
    grind (arith, nat_tests)

record CopyInside (contents : Contents) (destination : Region) (sources : List Region) : Type 0 where
  reads : AreInContents contents sources
  writes : destination.start + destination.len ≤ length (bytes_of contents destination.space)

copy-inside : (c : Configuration) (s : State) (sp : SpaceId) (start unit : ℕ) (sources : List Region) → StateFits c s → Passes (copy_checks c sp start unit sources)
    → CopyInside s.contents (destination_of sp start sources) sources
copy-inside c s sp start unit sources fits e =
    let destination : Region = destination_of sp start sources in
    let p = all-pass (copy_checks c sp start unit sources) e in
    let q = either_false (list_any (is_outside c) sources) (is_outside c destination) p.1.1.1.0 in
    record { reads = inside-regions c s sources fits q.0; writes = inside-region c s destination fits q.1 }

-- ---- the sets of executions

found-fits : (c : Configuration) (sets : List RangeSet) (n : ℕ) (ranges : List MemRange) → AllByRecursion (SetFits c) sets → ranges_under sets n ≡ Some ranges
    → (set : RangeSet) × SetFits c set × (set.ranges ≡ ranges)
found-fits c [] n ranges all e = cc
found-fits c (set ∷ sets) n ranges all e = by_test (eqb set.number n) e (found-fits c sets n ranges all.1)
  where
    by_test : (b : Bool) → option_map (λ (x : RangeSet). x.ranges) (cond b (Some set) (find (λ (x : RangeSet). eqb x.number n) sets)) ≡ Some ranges
        → (ranges_under sets n ≡ Some ranges → (x : RangeSet) × SetFits c x × (x.ranges ≡ ranges)) → (x : RangeSet) × SetFits c x × (x.ranges ≡ ranges)
    by_test true e later = (set, all.0, (let same : set.ranges ≡ ranges = cc in same))
    by_test false e later = later e

pub set-fits : (c : Configuration) (s : State) (n : ℕ) (ranges : List MemRange) → StateFits c s → ranges_under s.sets n ≡ Some ranges
    → AreInContents s.contents (map range_region ranges)
set-fits c s n ranges fits e =
    let found = found-fits c s.sets n ranges fits.sets e in
    subst (λ (rs : List MemRange). AreInContents s.contents (map range_region rs)) found.2
    (inside-regions c s (map range_region found.0.ranges) fits found.1.inside)

pub set-there : (c : Configuration) (s : State) (slot set budget : ℕ) → Passes (execute_checks c s slot set budget) → is_none (ranges_under s.sets set) ≡ false
set-there c s slot set budget e =
    let behind = behind-passes (runnable_checks s slot)
    (refuse (is_none (ranges_under s.sets set)) status.NoSuchSet ∷ refuse ((budget == 0) || nat_lt c.budget budget) status.BudgetRange ∷ []) e in
    (all-pass (refuse (is_none (ranges_under s.sets set)) status.NoSuchSet ∷ refuse ((budget == 0) || nat_lt c.budget budget) status.BudgetRange ∷ []) behind).0

ranges-inside : (c : Configuration) (s : State) (set : ℕ) → StateFits c s → AreInContents s.contents (map range_region (unwrap_or (ranges_under s.sets set) []))
ranges-inside c s set fits = by_found (ranges_under s.sets set) refl
  where
    by_found : (found : Option (List MemRange)) → ranges_under s.sets set ≡ found → AreInContents s.contents (map range_region (unwrap_or found []))
    by_found None e = tt
    by_found (Some ranges) e = set-fits c s set ranges fits e

pub writable-inside : (contents : Contents) (ranges : List MemRange) → AreInContents contents (map range_region ranges) → AreInContents contents (map range_region (writable_ranges ranges))
writable-inside contents [] inside = tt
writable-inside contents (r ∷ ranges) inside = by_test (allows_writing r.access) (writable-inside contents ranges inside.1)
  where
    by_test : (b : Bool) → AreInContents contents (map range_region (writable_ranges ranges))
        → AreInContents contents (map range_region (cond b (r ∷ writable_ranges ranges) (writable_ranges ranges)))
    by_test true later = (inside.0, later)
    by_test false later = later

-- ---- every command

pub record LiesInside (c : Configuration) (s : State) (cmd : Command) : Type 0 where
  pub reads : AreInContents s.contents (reads_of c (execution_of s cmd).ranges cmd)
  pub writes : AreInContents s.contents (writes_of c (execution_of s cmd).ranges cmd)

pub lies-inside : (c : Configuration) (s : State) (cmd : Command) → StateFits c s → refusal_of c s cmd ≡ None → LiesInside c s cmd
lies-inside c s (command.NvmRead ns lba count) fits e = record { reads = (blocks-inside c s ns lba count MAX_TRANSFER fits (passes c s (command.NvmRead ns lba count) e), tt); writes = tt }
lies-inside c s (command.NvmWrite ns lba bytes) fits e =
    record { reads = tt; writes = (write-inside c s ns lba (length bytes.items) MAX_TRANSFER fits (passes c s (command.NvmWrite ns lba bytes) e), tt) }
lies-inside c s (command.NvmZeroes ns lba count) fits e = record { reads = tt; writes = (blocks-inside c s ns lba count MAX_SPAN fits (passes c s (command.NvmZeroes ns lba count) e), tt) }
lies-inside c s (command.NvmCopy ns lba from) fits e =
    let h = copy-inside c s (space.Nvm ns) (lba * c.block) c.block (map (source_region c) from) fits (passes c s (command.NvmCopy ns lba from) e) in
    record { reads = h.reads; writes = (h.writes, tt) }
lies-inside c s (command.MemRead ns at len) fits e = record { reads = (bytes-inside c s ns at len MAX_TRANSFER fits (passes c s (command.MemRead ns at len) e), tt); writes = tt }
lies-inside c s (command.MemWrite ns at bytes) fits e =
    record { reads = tt; writes = (bytes-inside c s ns at (length bytes.items) MAX_TRANSFER fits (passes c s (command.MemWrite ns at bytes) e), tt) }
lies-inside c s (command.MemFill ns at len value) fits e = record { reads = tt; writes = (bytes-inside c s ns at len MAX_SPAN fits (passes c s (command.MemFill ns at len value) e), tt) }
lies-inside c s (command.MemCopy ns at from) fits e =
    let h = copy-inside c s (space.Mem ns) at 1 (map (source_region c) from) fits (passes c s (command.MemCopy ns at from) e) in
    record { reads = h.reads; writes = (h.writes, tt) }
lies-inside c s (command.SetCreate ranges) fits e = record { reads = tt; writes = tt }
lies-inside c s (command.SetDelete set) fits e = record { reads = tt; writes = tt }
lies-inside c s (command.Load slot size at bytes) fits e = record { reads = tt; writes = tt }
lies-inside c s (command.Unload slot) fits e = record { reads = tt; writes = tt }
lies-inside c s (command.Activate slot) fits e = record { reads = tt; writes = tt }
lies-inside c s (command.Deactivate slot) fits e = record { reads = tt; writes = tt }
lies-inside c s (command.Execute slot set p1 p2 budget) fits e =
    let inside = ranges-inside c s set fits in
    record { reads = inside; writes = writable-inside s.contents (unwrap_or (ranges_under s.sets set) []) inside }
lies-inside c s (command.Abort cid) fits e = record { reads = tt; writes = tt }
