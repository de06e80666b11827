-- What a command carries: the regions of its pieces, and that its local effect on them is its effect.
use Rattle.std.proofs.Common.{◌≡◌, ℕ, ◌+◌, ◌*◌, ◌≤◌, Bool, true, false, ◌&&◌, ◌||◌, List, [], ◌∷◌, length, length-append, map, replicate, nat_lt, None, refl, sym, ap, subst, ◌∙◌, inl, inr, arith, if◌then◌else◌}
use Rattle.std.proofs.lemmas.Bool.{true≢false}
use Rattle.std.proofs.lemmas.List.{length-replicate}
use Rattle.std.proofs.lemmas.List.Sums.{sum_by-cons}
use Rattle.cp_base.specs.Checks.{total_len}
use Rattle.cp_base.specs.Configuration.{Configuration}
use Rattle.cp_base.specs.Contents.{Contents, bytes_of}
use Rattle.cp_base.specs.Region.{Region}
use Rattle.cp_base.specs.Runs.{hull, is_apart_before, runs_of, space_before, with_run}
use Rattle.cp_base.specs.Sharing.{range_region, same_space, source_region}
use Rattle.cp_base.specs.declared.commands.Command.{Command}
use Rattle.cp_base.specs.declared.commands.Command.TheVariants as command
use Rattle.cp_base.specs.declared.lists.MemRange.{MemRange}
use Rattle.cp_base.specs.declared.region.SpaceId.{SpaceId}
use Rattle.cp_base.specs.declared.region.SpaceId.TheVariants as space
use Rattle.device_model.specs.Checks.{refusal_of}
use Rattle.device_model.specs.State.{State}
use Rattle.device_model.specs.Effect.{effect_of}
use Rattle.device_model.specs.Execution.{Outcome, outcome_on}
use Rattle.device_model.specs.Memory.{moves_bytes}
use Rattle.trail_model.specs.Fits.{StateFits}
use Rattle.trail_model.specs.Footprints.{Execution, carried_regions, cut_for, execution_of, footprint_of, in_one_order, is_execution, reads_of, with_region, writable_ranges, writes_of}
use Rattle.trail_model.specs.LocalEffects.{LocalEffect, put_back, local_effect, memory_among, written}
use Rattle.trail_model.specs.Pieces.{AllBytes, all_bytes, carried, gathered, gathered_joined}
use Rattle.trail_model.proofs.Bytes.{AreInContents, length-gathered}
use Rattle.trail_model.proofs.Written.{effect-written, written-same}
use Rattle.trail_model.proofs.Executions.{writable-some}
use Rattle.trail_model.proofs.Passing.{lies-inside}
use Rattle.trail_model.proofs.Putting.{AreWhole, carried-cut, put_pieces-outside, ranges_with-regions, ranges_with-whole, regions_of}
use Rattle.trail_model.proofs.Regions.{IsInSome, Touch, Touches, in-ordered, in-runs, ordered-in, touching}

-- ---- inside

hull-inside : (contents : Contents) (a b : Region) → Touch a b → a.start + a.len ≤ length (bytes_of contents a.space) → b.start + b.len ≤ length (bytes_of contents b.space)
    → (hull a b).start + (hull a b).len ≤ length (bytes_of contents a.space)
hull-inside contents a b touch fits fits' =
    let e : length (bytes_of contents a.space) ≡ length (bytes_of contents b.space) = ap (λ (s : SpaceId). length (bytes_of contents s)) touch.same in
    omega arith

run-inside : (contents : Contents) (r : Region) (runs : List Region) → r.start + r.len ≤ length (bytes_of contents r.space) → AreInContents contents runs
    → AreInContents contents (with_run r runs)
run-inside contents r [] fits inside = (fits, tt)
run-inside contents r (run ∷ runs) fits inside =
    by_test (λ q f. run-inside contents q runs f inside.1) (is_apart_before r run) (is_apart_before run r) refl refl
  where
    by_test : ((q : Region) → q.start + q.len ≤ length (bytes_of contents q.space) → AreInContents contents (with_run q runs)) → (b b' : Bool)
        → is_apart_before r run ≡ b → is_apart_before run r ≡ b'
        → AreInContents contents (if b then r ∷ run ∷ runs else if b' then run ∷ with_run r runs else with_run (hull r run) runs)
    by_test later true b' e e' = (fits, inside)
    by_test later false true e e' = (inside.0, later r fits)
    by_test later false false e e' = later (hull r run) (hull-inside contents r run (touching r run e e') fits inside.0)

pub runs-inside : (contents : Contents) (rs : List Region) → AreInContents contents rs → AreInContents contents (runs_of rs)
runs-inside contents [] inside = tt
runs-inside contents (r ∷ rs) inside = run-inside contents r (runs_of rs) inside.0 (runs-inside contents rs inside.1)

region-inside : (contents : Contents) (r : Region) (rs : List Region) → r.start + r.len ≤ length (bytes_of contents r.space) → AreInContents contents rs
    → AreInContents contents (with_region r rs)
region-inside contents r [] fits inside = (fits, tt)
region-inside contents r (other ∷ others) fits inside =
    by_test (region-inside contents r others fits inside.1) (space_before r.space other.space || (same_space r.space other.space && nat_lt r.start other.start))
  where
    by_test : AreInContents contents (with_region r others) → (b : Bool) → AreInContents contents (if b then r ∷ other ∷ others else other ∷ with_region r others)
    by_test later true = (fits, inside)
    by_test later false = (inside.0, later)

ordered-inside : (contents : Contents) (xs ys : List Region) → AreInContents contents xs → AreInContents contents ys → AreInContents contents (in_one_order xs ys)
ordered-inside contents [] ys inside inside' = inside'
ordered-inside contents (x ∷ xs) ys inside inside' = region-inside contents x (in_one_order xs ys) inside.0 (ordered-inside contents xs ys inside.1 inside')

-- an execution reads its ranges
execution-reads : (c : Configuration) (ranges : List MemRange) (cmd : Command) → is_execution cmd ≡ true → reads_of c ranges cmd ≡ map range_region ranges
execution-reads c ranges (command.Execute slot set p1 p2 budget) e = refl
execution-reads c ranges cmd e = absurd (true≢false (sym e))

execution-writes : (c : Configuration) (ranges : List MemRange) (cmd : Command) → is_execution cmd ≡ true → writes_of c ranges cmd ≡ map range_region (writable_ranges ranges)
execution-writes c ranges (command.Execute slot set p1 p2 budget) e = refl
execution-writes c ranges cmd e = absurd (true≢false (sym e))

-- ---- the regions that a command carries

pub carried-inside : (c : Configuration) (contents : Contents) (ranges : List MemRange) (cmd : Command) → AreInContents contents (reads_of c ranges cmd)
    → AreInContents contents (writes_of c ranges cmd) → AreInContents contents (carried_regions c ranges cmd)
carried-inside c contents ranges cmd reads writes = by_kind (is_execution cmd) refl
  where
    by_kind : (b : Bool) → is_execution cmd ≡ b
        → AreInContents contents (if b then map range_region ranges else in_one_order (runs_of (writes_of c ranges cmd)) (runs_of (reads_of c ranges cmd)))
    by_kind true e = subst (λ (rs : List Region). AreInContents contents rs) (execution-reads c ranges cmd e) reads
    by_kind false e = ordered-inside contents (runs_of (writes_of c ranges cmd)) (runs_of (reads_of c ranges cmd))
        (runs-inside contents (writes_of c ranges cmd) writes) (runs-inside contents (reads_of c ranges cmd) reads)

-- the bytes that a command carries are those that it touches
pub carried-touched : (c : Configuration) (ranges : List MemRange) (cmd : Command) (s : SpaceId) (k : ℕ)
    → IsInSome (carried_regions c ranges cmd) s k → Touches (footprint_of c ranges cmd) s k
carried-touched c ranges cmd s k there = by_kind (is_execution cmd) refl there
  where
    by_kind : (b : Bool) → is_execution cmd ≡ b
        → IsInSome (if b then map range_region ranges else in_one_order (runs_of (writes_of c ranges cmd)) (runs_of (reads_of c ranges cmd))) s k
        → Touches (footprint_of c ranges cmd) s k
    by_kind true e h = inr (in-runs (reads_of c ranges cmd) s k (subst (λ (rs : List Region). IsInSome rs s k) (sym (execution-reads c ranges cmd e)) h))
    by_kind false e h = ordered-in (runs_of (writes_of c ranges cmd)) (runs_of (reads_of c ranges cmd)) s k h

-- what a command reads it carries
pub reads-carried : (c : Configuration) (ranges : List MemRange) (cmd : Command) (s : SpaceId) (k : ℕ)
    → IsInSome (reads_of c ranges cmd) s k → IsInSome (carried_regions c ranges cmd) s k
reads-carried c ranges cmd s k there = by_kind (is_execution cmd) refl
  where
    by_kind : (b : Bool) → is_execution cmd ≡ b
        → IsInSome (if b then map range_region ranges else in_one_order (runs_of (writes_of c ranges cmd)) (runs_of (reads_of c ranges cmd))) s k
    by_kind true e = subst (λ (rs : List Region). IsInSome rs s k) (execution-reads c ranges cmd e) there
    by_kind false e = in-ordered (runs_of (writes_of c ranges cmd)) (runs_of (reads_of c ranges cmd)) s k (inr (in-runs (reads_of c ranges cmd) s k there))

-- what a command may write it carries
pub writes-carried : (c : Configuration) (ranges : List MemRange) (cmd : Command) (s : SpaceId) (k : ℕ)
    → IsInSome (writes_of c ranges cmd) s k → IsInSome (carried_regions c ranges cmd) s k
writes-carried c ranges cmd s k there = by_kind (is_execution cmd) refl
  where
    by_kind : (b : Bool) → is_execution cmd ≡ b
        → IsInSome (if b then map range_region ranges else in_one_order (runs_of (writes_of c ranges cmd)) (runs_of (reads_of c ranges cmd))) s k
    by_kind true e = writable-some ranges s k (subst (λ (rs : List Region). IsInSome rs s k) (execution-writes c ranges cmd e) there)
    by_kind false e = in-ordered (runs_of (writes_of c ranges cmd)) (runs_of (reads_of c ranges cmd)) s k (inl (in-runs (writes_of c ranges cmd) s k there))

-- ---- what is written lies where the command may write

length-joined : (all : AllBytes) (rs : List Region) → length (gathered_joined all rs) ≡ total_len rs
length-joined all [] = refl
length-joined all (r ∷ rs) =
    let a = length-append (gathered all r.space r.start r.len) (gathered_joined all rs) in
    let b = length-gathered all r.space r.start r.len in
    let d = length-joined all rs in
    let t : total_len (r ∷ rs) ≡ r.len + total_len rs = total-cons r rs in
    omega arith
  where
    total-cons : (r : Region) (rs : List Region) → total_len (r ∷ rs) ≡ r.len + total_len rs
    total-cons r rs = sum_by-cons (λ (region : Region). region.len) r rs

one-region : (s : SpaceId) (start m n : ℕ) → m ≡ n → (let a : Region = record { space = s; start = start; len = m } in a ∷ []) ≡ (let b : Region = record { space = s; start = start; len = n } in b ∷ [])
one-region s start m n e = λ i. record { space = s; start = start; len = e i } ∷ []

pub written-regions : (c : Configuration) (x : Execution) (all : AllBytes) (cmd : Command) → regions_of (written c x all cmd).pieces ≡ writes_of c x.ranges cmd
written-regions c x all (command.NvmRead ns lba count) = refl
written-regions c x all (command.NvmWrite ns lba bytes) = refl
written-regions c x all (command.NvmZeroes ns lba count) =
    one-region (space.Nvm ns) (lba * c.block) (length (replicate (count * c.block) 0)) (count * c.block) (length-replicate (count * c.block) 0)
written-regions c x all (command.NvmCopy ns lba from) =
    one-region (space.Nvm ns) (lba * c.block) (length (gathered_joined all (map (source_region c) from))) (total_len (map (source_region c) from)) (length-joined all (map (source_region c) from))
written-regions c x all (command.MemRead ns at len) = refl
written-regions c x all (command.MemWrite ns at bytes) = refl
written-regions c x all (command.MemFill ns at len value) = one-region (space.Mem ns) at (length (replicate len value)) len (length-replicate len value)
written-regions c x all (command.MemCopy ns at from) =
    one-region (space.Mem ns) at (length (gathered_joined all (map (source_region c) from))) (total_len (map (source_region c) from)) (length-joined all (map (source_region c) from))
written-regions c x all (command.SetCreate ranges) = refl
written-regions c x all (command.SetDelete set) = refl
written-regions c x all (command.Load slot size at bytes) = refl
written-regions c x all (command.Unload slot) = refl
written-regions c x all (command.Activate slot) = refl
written-regions c x all (command.Deactivate slot) = refl
written-regions c x all (command.Execute slot set p1 p2 budget) =
    ranges_with-regions (outcome_on x.runs x.ranges (memory_among all) p1 p2 budget).memory (writable_ranges x.ranges)
written-regions c x all (command.Abort cid) = refl

pub written-whole : (c : Configuration) (x : Execution) (all : AllBytes) (cmd : Command) → AreWhole (written c x all cmd).pieces
written-whole c x all (command.NvmRead ns lba count) = tt
written-whole c x all (command.NvmWrite ns lba bytes) = (refl, tt)
written-whole c x all (command.NvmZeroes ns lba count) = (refl, tt)
written-whole c x all (command.NvmCopy ns lba from) = (refl, tt)
written-whole c x all (command.MemRead ns at len) = tt
written-whole c x all (command.MemWrite ns at bytes) = (refl, tt)
written-whole c x all (command.MemFill ns at len value) = (refl, tt)
written-whole c x all (command.MemCopy ns at from) = (refl, tt)
written-whole c x all (command.SetCreate ranges) = tt
written-whole c x all (command.SetDelete set) = tt
written-whole c x all (command.Load slot size at bytes) = tt
written-whole c x all (command.Unload slot) = tt
written-whole c x all (command.Activate slot) = tt
written-whole c x all (command.Deactivate slot) = tt
written-whole c x all (command.Execute slot set p1 p2 budget) =
    ranges_with-whole (outcome_on x.runs x.ranges (memory_among all) p1 p2 budget).memory (writable_ranges x.ranges)
written-whole c x all (command.Abort cid) = tt

-- ---- the local effect

-- on the pieces that a command carries out of a state its local effect is what it writes there
pub local-written : (c : Configuration) (s : State) (cmd : Command) → StateFits c s → refusal_of c s cmd ≡ None
    → local_effect c (execution_of s cmd) (cut_for c s cmd) cmd ≡ written c (execution_of s cmd) (all_bytes s.contents) cmd
local-written c s cmd fits e =
    let inside = lies-inside c s cmd fits e in
    let ranges : List MemRange = (execution_of s cmd).ranges in
    written-same c (execution_of s cmd) (carried (cut_for c s cmd)) (all_bytes s.contents) cmd
    (λ t k there. carried-cut s.contents (carried_regions c ranges cmd) (carried-inside c s.contents ranges cmd inside.reads inside.writes) t k
    (reads-carried c ranges cmd t k there))

-- so the effect is the local effect, put back
pub effect-local : (c : Configuration) (s : State) (cmd : Command) → StateFits c s → refusal_of c s cmd ≡ None → moves_bytes cmd ≡ true
    → effect_of c s cmd ≡ put_back s (local_effect c (execution_of s cmd) (cut_for c s cmd) cmd)
effect-local c s cmd fits e moves =
    effect-written c s cmd fits e moves ∙ ap (λ (effect : LocalEffect). put_back s effect) (sym (local-written c s cmd fits e))

-- a byte that a command may not write stays
pub byte-stays : (c : Configuration) (s : State) (cmd : Command) → StateFits c s → refusal_of c s cmd ≡ None → moves_bytes cmd ≡ true → (t : SpaceId) (k : ℕ)
    → (IsInSome (writes_of c (execution_of s cmd).ranges cmd) t k → ⊥) → all_bytes (effect_of c s cmd).next.contents t k ≡ all_bytes s.contents t k
byte-stays c s cmd fits e moves t k out =
    let x : Execution = execution_of s cmd in
    let effect : LocalEffect = written c x (all_bytes s.contents) cmd in
    let inside = lies-inside c s cmd fits e in
    let regions : regions_of effect.pieces ≡ writes_of c x.ranges cmd = written-regions c x (all_bytes s.contents) cmd in
    ap (λ (o : Outcome). all_bytes o.next.contents t k) (effect-written c s cmd fits e moves)
    ∙ put_pieces-outside s.contents effect.pieces (written-whole c x (all_bytes s.contents) cmd)
    (subst (λ (rs : List Region). AreInContents s.contents rs) (sym regions) inside.writes) t k
    (λ there. out (subst (λ (rs : List Region). IsInSome rs t k) regions there))

pub tables-stay : (c : Configuration) (s : State) (cmd : Command) → StateFits c s → refusal_of c s cmd ≡ None → moves_bytes cmd ≡ true
    → ((effect_of c s cmd).next.slots ≡ s.slots) × ((effect_of c s cmd).next.sets ≡ s.sets)
tables-stay c s cmd fits e moves =
    let same = effect-written c s cmd fits e moves in
    (ap (λ (o : Outcome). o.next.slots) same, ap (λ (o : Outcome). o.next.sets) same)
