-- An effect is what is written, and depends on what the command touches alone.
use Rattle.std.proofs.Common.{◌≡◌, ℕ, ◌+◌, ◌*◌, true, List, [], ◌∷◌, map, None, unwrap_or, refl, sym, ap, inl, inr, arith}
use Rattle.std.proofs.lemmas.Bool.{true≢false}
use Rattle.cp_base.specs.Configuration.{Configuration}
use Rattle.cp_base.specs.Contents.{bytes_in}
use Rattle.cp_base.specs.Region.{Region}
use Rattle.cp_base.specs.Sets.{ranges_under}
use Rattle.cp_base.specs.Sharing.{range_region, source_region}
use Rattle.cp_base.specs.declared.commands.Command.{Command}
use Rattle.cp_base.specs.declared.commands.Command.TheVariants as command
use Rattle.cp_base.specs.declared.lists.MemRange.{MemRange}
use Rattle.cp_base.specs.declared.region.SpaceId.{SpaceId}
use Rattle.cp_base.specs.declared.region.SpaceId.TheVariants as space
use Rattle.bpf_model.specs.Memory.{Memory, bytes_from}
use Rattle.bpf_model.proofs.Writing.{bytes_from-same}
use Rattle.bpf_model.specs.Outcome.{RunOutcome}
use Rattle.device_model.specs.Checks.{refusal_of}
use Rattle.device_model.specs.Effect.{effect_of}
use Rattle.device_model.specs.Execution.{executable_in, memory_of, outcome_on, told_of, with_memory}
use Rattle.device_model.specs.Memory.{moves_bytes}
use Rattle.device_model.specs.State.{State}
use Rattle.trail_model.specs.Fits.{StateFits}
use Rattle.trail_model.specs.Footprints.{Execution, execution_of, reads_of, writable_ranges}
use Rattle.trail_model.specs.LocalEffects.{put_back, gave, laid, memory_among, ranges_with, written}
use Rattle.trail_model.specs.Pieces.{AllBytes, all_bytes, gathered, put_pieces}
use Rattle.trail_model.proofs.Bytes.{AreInContents, bytes_in-gathered, gathered-same, gathered_joined-same, joined-gathered}
use Rattle.trail_model.proofs.Executions.{AgreeOn, run-confined, run-local, writable-some}
use Rattle.trail_model.proofs.Passing.{lies-inside, writable-inside}
use Rattle.trail_model.proofs.Putting.{memory-put}
use Rattle.trail_model.proofs.Regions.{IsInSome}

-- what an execution writes is what it leaves in the state
execution-written : (c : Configuration) (s : State) (slot set p1 p2 budget : ℕ) → AreInContents s.contents (map range_region (unwrap_or (ranges_under s.sets set) []))
    → effect_of c s (command.Execute slot set p1 p2 budget)
    ≡ put_back s (written c (execution_of s (command.Execute slot set p1 p2 budget)) (all_bytes s.contents) (command.Execute slot set p1 p2 budget))
execution-written c s slot set p1 p2 budget inside =
    let ranges : List MemRange = unwrap_or (ranges_under s.sets set) [] in
    let run : RunOutcome = outcome_on (executable_in s slot) ranges (memory_of s.contents) p1 p2 budget in
    let same : with_memory s.contents run.memory ≡ put_pieces s.contents (ranges_with run.memory (writable_ranges ranges)) =
    memory-put s.contents run.memory (writable_ranges ranges) (writable-inside s.contents ranges inside)
    (λ n k out. run-confined (executable_in s slot) ranges (memory_of s.contents) p1 p2 budget n k out) in
    λ i. record { answer = told_of budget run.ending; next = record s { contents = same i } }

-- the effect of a command that moves bytes and passes its checks is what is written
pub effect-written : (c : Configuration) (s : State) (cmd : Command) → StateFits c s → refusal_of c s cmd ≡ None → moves_bytes cmd ≡ true
    → effect_of c s cmd ≡ put_back s (written c (execution_of s cmd) (all_bytes s.contents) cmd)
effect-written c s (command.NvmRead ns lba count) fits e moves =
    let inside = (lies-inside c s (command.NvmRead ns lba count) fits e).reads in
    let r : Region = record { space = space.Nvm ns; start = lba * c.block; len = count * c.block } in
    let same : bytes_in s.contents r ≡ gathered (all_bytes s.contents) (space.Nvm ns) (lba * c.block) (count * c.block) = bytes_in-gathered s.contents r inside.0 in
    ap (λ (bytes : List ℕ). put_back s (gave bytes)) same
effect-written c s (command.NvmWrite ns lba bytes) fits e moves = refl
effect-written c s (command.NvmZeroes ns lba count) fits e moves = refl
effect-written c s (command.NvmCopy ns lba from) fits e moves =
    let inside = (lies-inside c s (command.NvmCopy ns lba from) fits e).reads in
    ap (λ (bytes : List ℕ). put_back s (laid (space.Nvm ns) (lba * c.block) bytes)) (joined-gathered s.contents (map (source_region c) from) inside)
effect-written c s (command.MemRead ns at len) fits e moves =
    let inside = (lies-inside c s (command.MemRead ns at len) fits e).reads in
    let r : Region = record { space = space.Mem ns; start = at; len = len } in
    let same : bytes_in s.contents r ≡ gathered (all_bytes s.contents) (space.Mem ns) at len = bytes_in-gathered s.contents r inside.0 in
    ap (λ (bytes : List ℕ). put_back s (gave bytes)) same
effect-written c s (command.MemWrite ns at bytes) fits e moves = refl
effect-written c s (command.MemFill ns at len value) fits e moves = refl
effect-written c s (command.MemCopy ns at from) fits e moves =
    let inside = (lies-inside c s (command.MemCopy ns at from) fits e).reads in
    ap (λ (bytes : List ℕ). put_back s (laid (space.Mem ns) at bytes)) (joined-gathered s.contents (map (source_region c) from) inside)
effect-written c s (command.SetCreate ranges) fits e moves = absurd (true≢false (sym moves))
effect-written c s (command.SetDelete set) fits e moves = absurd (true≢false (sym moves))
effect-written c s (command.Load slot size at bytes) fits e moves = absurd (true≢false (sym moves))
effect-written c s (command.Unload slot) fits e moves = absurd (true≢false (sym moves))
effect-written c s (command.Activate slot) fits e moves = absurd (true≢false (sym moves))
effect-written c s (command.Deactivate slot) fits e moves = absurd (true≢false (sym moves))
effect-written c s (command.Execute slot set p1 p2 budget) fits e moves =
    execution-written c s slot set p1 p2 budget (lies-inside c s (command.Execute slot set p1 p2 budget) fits e).reads
effect-written c s (command.Abort cid) fits e moves = absurd (true≢false (sym moves))

-- ---- what is written depends on the bytes that are read alone

-- two sources of bytes have the same ones in regions
abbrev pub SameIn : List Region → AllBytes → AllBytes → Type 0
SameIn rs a b = (s : SpaceId) (k : ℕ) → IsInSome rs s k → a s k ≡ b s k

gave-same : (a b : AllBytes) (s : SpaceId) (start len : ℕ) → SameIn (record { space = s; start = start; len = len } ∷ []) a b
    → gave (gathered a s start len) ≡ gave (gathered b s start len)
gave-same a b s start len same = ap gave (gathered-same a b s start len (λ k low high. same s k (inl (refl, low, high))))

ranges_with-same : (a b : Memory) (ranges : List MemRange) → AgreeOn ranges a b → ranges_with a ranges ≡ ranges_with b ranges
ranges_with-same a b [] same = refl
ranges_with-same a b (r ∷ ranges) same =
    let here : bytes_from a r.ns r.at r.len ≡ bytes_from b r.ns r.at r.len =
    bytes_from-same a b r.ns r.at r.ns r.at r.len (λ k less. same r.ns (r.at + k) (inl (refl, omega arith, omega arith))) in
    let rest : ranges_with a ranges ≡ ranges_with b ranges = ranges_with-same a b ranges (λ n k there. same n k (inr there)) in
    λ i. record { region = range_region r; bytes = here i } ∷ rest i

pub written-same : (c : Configuration) (x : Execution) (a b : AllBytes) (cmd : Command) → SameIn (reads_of c x.ranges cmd) a b → written c x a cmd ≡ written c x b cmd
written-same c x a b (command.NvmRead ns lba count) same = gave-same a b (space.Nvm ns) (lba * c.block) (count * c.block) same
written-same c x a b (command.NvmWrite ns lba bytes) same = refl
written-same c x a b (command.NvmZeroes ns lba count) same = refl
written-same c x a b (command.NvmCopy ns lba from) same =
    ap (λ (bytes : List ℕ). laid (space.Nvm ns) (lba * c.block) bytes) (gathered_joined-same a b (map (source_region c) from) same)
written-same c x a b (command.MemRead ns at len) same = gave-same a b (space.Mem ns) at len same
written-same c x a b (command.MemWrite ns at bytes) same = refl
written-same c x a b (command.MemFill ns at len value) same = refl
written-same c x a b (command.MemCopy ns at from) same =
    ap (λ (bytes : List ℕ). laid (space.Mem ns) at bytes) (gathered_joined-same a b (map (source_region c) from) same)
written-same c x a b (command.SetCreate ranges) same = refl
written-same c x a b (command.SetDelete set) same = refl
written-same c x a b (command.Load slot size at bytes) same = refl
written-same c x a b (command.Unload slot) same = refl
written-same c x a b (command.Activate slot) same = refl
written-same c x a b (command.Deactivate slot) same = refl
written-same c x a b (command.Execute slot set p1 p2 budget) same =
    let run = run-local x.runs x.ranges (memory_among a) (memory_among b) p1 p2 budget (λ n k there. same (space.Mem n) k there) in
    let pieces : ranges_with (outcome_on x.runs x.ranges (memory_among a) p1 p2 budget).memory (writable_ranges x.ranges)
    ≡ ranges_with (outcome_on x.runs x.ranges (memory_among b) p1 p2 budget).memory (writable_ranges x.ranges) =
    ranges_with-same (outcome_on x.runs x.ranges (memory_among a) p1 p2 budget).memory (outcome_on x.runs x.ranges (memory_among b) p1 p2 budget).memory
    (writable_ranges x.ranges) (λ n k there. run.memory n k (writable-some x.ranges (space.Mem n) k there)) in
    λ i. record { answer = told_of budget (run.ending i); pieces = pieces i }
written-same c x a b (command.Abort cid) same = refl
