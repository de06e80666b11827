-- What work of each kind finds, and what it leaves.
use Rattle.std.proofs.Common.{◌≡◌, ℕ, ◌+◌, ◌-◌, ◌*◌, ◌%◌, ◌<◌, ◌≤◌, ◌==◌, Bool, false, not, ◌||◌, nat_lt, if◌then◌else◌, List, [], ◌∷◌, length, map, replicate, drop, take, Option, Some, None, is_none, option_map, refl, sym, ap, subst, ◌∙◌, inl, arith, take_all, length-append, pos}
use Rattle.std.specs.Prelude.{vec_capacity}
use Rattle.std.specs.List.{AllByRecursion}
use Rattle.std.proofs.lemmas.Bool.{true≢false}
use Rattle.std.proofs.lemmas.Bool.Decides.{nat_tests}
use Rattle.std.proofs.lemmas.List.{length-replicate}
use Rattle.cp_base.specs.Answer.{Answer, only_status}
use Rattle.cp_base.specs.Buffer.{Buffer}
use Rattle.cp_base.specs.Checks.{any_without_bytes, copy_checks, destination_of, refuse, total_len}
use Rattle.cp_base.specs.Configuration.{Configuration, bare}
use Rattle.cp_base.specs.Region.{Region}
use Rattle.cp_base.specs.Runs.{runs_of}
use Rattle.cp_base.specs.Sets.{ranges_under}
use Rattle.cp_base.specs.Sharing.{AreDisjoint, meets_any, source_region}
use Rattle.cp_base.specs.declared.commands.Command.{Command}
use Rattle.cp_base.specs.declared.commands.Command.TheVariants as command
use Rattle.cp_base.specs.declared.lists.CopySource.{CopySource}
use Rattle.cp_base.specs.declared.lists.CopySource.TheVariants as source
use Rattle.cp_base.specs.declared.lists.MemRange.{MemRange}
use Rattle.cp_base.specs.declared.limits.TheConstants.{MAX_NAMESPACE}
use Rattle.cp_base.specs.declared.region.SpaceId.{SpaceId}
use Rattle.cp_base.specs.declared.region.SpaceId.TheVariants as space
use Rattle.cp_base.specs.declared.replies.Piece.{Piece}
use Rattle.cp_base.specs.declared.replies.Status.TheVariants as status
use Rattle.cp_base.proofs.Sharing.{both_false}
use Rattle.device_model.specs.Checks.{checks_of, execute_checks, runnable_checks}
use Rattle.device_model.specs.Builtin.{Builtin, builtin_at}
use Rattle.device_model.specs.Execution.{Executable, Loaded, OfDevice, executable_in, loaded_or, outcome_on, told_of}
use Rattle.device_model.specs.Memory.{moves_bytes}
use Rattle.device_model.specs.State.{State, slot_at}
use Rattle.bpf_isa.specs.declared.insn.Insn.{Insn}
use Rattle.bpf_model.specs.Outcome.{RunOutcome}
use Rattle.bpf_model.specs.Walk.{instruction_at}
use Rattle.bpf_decode.specs.Slots.{insn_at}
use Rattle.trail_model.specs.Footprints.{Execution, carried_regions, execution_of, is_execution, with_region}
use Rattle.trail_model.specs.LocalEffects.{LocalEffect, gave, laid, local_effect, ranges_with}
use Rattle.trail_model.specs.Pieces.{AllBytes, RegionBytes, carried, gathered, gathered_joined}
use Rattle.trail_model.proofs.Bytes.{length-gathered}
use Rattle.trail_model.proofs.Passing.{Passes, all-pass, behind-passes, check-passes, passes}
use Rattle.job_run.specs.Held.{IsAlone, IsBeside, IsHeld, IsRange, IsSource}
use Rattle.job_run.specs.Works.{AreOfRanges, FitsExecution, IsWork, IsWorkDone, RunsDecoded, byte_counts, memory_in, new_piece, piece_holding, piece_regions, pieces_after, pieces_with, region_bytes}
use Rattle.job_run.specs.declared.work.Work.{Work}
use Rattle.job_run.specs.declared.work.Worked.{Worked}
use Rattle.job_run.specs.private.Kinds.{IsCopyable, IsExecutable, IsOfSlot, IsReadable, IsWritable, Leaves, source_regions}
use Rattle.job_run.proofs.Executing.{run-put}
use Rattle.job_run.proofs.Items.{total-cons}
use Rattle.job_run.proofs.Covered.{IsCovered, LieApart, alone-region, covered-held, covered-short, holds-from, nowhere-runs, region-apart, region-covered, region-each, regions_of_pieces, runs-apart, runs-cover, runs-unmet, sources-unmet}
use Rattle.job_run.proofs.Holding.{held-here, same_region-itself}

abbrev effect_in : Configuration → State → Work → LocalEffect
effect_in c s w = local_effect c (execution_of s w.command.value) (region_bytes w.pieces.items) w.command.value

-- ---- one piece

pub record HasOnePiece (w : Work) (r : Region) : Type 0 where
  pub piece : RegionBytes
  pub only : region_bytes w.pieces.items ≡ piece ∷ []
  pub region : piece.region ≡ r
  pub whole : length piece.bytes ≡ r.len
  pub count : length w.pieces.items ≡ 1

one-of : (ps : List Piece) (r : Region) → piece_regions ps ≡ r ∷ [] → AllByRecursion (λ (p : RegionBytes). length p.bytes ≡ p.region.len) (region_bytes ps)
    → (p : RegionBytes) × (region_bytes ps ≡ p ∷ []) × (p.region ≡ r) × (length p.bytes ≡ r.len) × (length ps ≡ 1)
one-of [] r e whole = cc
one-of (p ∷ []) r e whole =
    let same : p.range ≡ r = cc in
    (record { region = p.range; bytes = p.bytes.items }, refl, same, whole.0 ∙ ap (λ (x : Region). x.len) same, refl)
one-of (p ∷ q ∷ ps) r e whole = cc

pub one-piece : (c : Configuration) (s : State) (w : Work) (r : Region) → IsWork c s w → carried_regions c (execution_of s w.command.value).ranges w.command.value ≡ r ∷ [] → HasOnePiece w r
one-piece c s w r work e =
    let one = one-of w.pieces.items r (work.regions ∙ e) work.whole in
    record { piece = one.0; only = one.1; region = one.2; whole = one.3; count = one.4 }

-- what one piece carries is its bytes
carried-one : (p : RegionBytes) → length p.bytes ≡ p.region.len → gathered (carried (p ∷ [])) p.region.space p.region.start p.region.len ≡ p.bytes
carried-one p whole =
    let h = holds-from p.region p.region refl (omega arith) (omega arith) in
    let none : p.region.start - p.region.start ≡ 0 = omega arith in
    held-here p [] p.region.space p.region.start p.region.len (inl (h, whole)) h
    ∙ (ap (λ (n : ℕ). take p.region.len (drop n p.bytes)) none ∙ take_all p.region.len p.bytes (omega (arith, whole)))

-- what work leaves is done, where it is the local effect's answer and pieces
done_by : (c : Configuration) (s : State) (w : Work) (d : Worked) (answer : Answer) (pieces : List RegionBytes) → (effect_in c s w).answer ≡ answer
    → pieces_after (effect_in c s w) (region_bytes w.pieces.items) ≡ pieces → Leaves d answer pieces → IsWorkDone c s w d
done_by c s w d answer pieces a p left = record { answer = left.answer ∙ sym a; pieces = left.pieces ∙ sym p }

-- what work leaves, said otherwise
pub leaves-so : (d : Worked) (a b : Answer) (ps qs : List RegionBytes) → Leaves d a ps → a ≡ b → ps ≡ qs → Leaves d b qs
leaves-so d a b ps qs left answer pieces = record { answer = left.answer ∙ answer; pieces = left.pieces ∙ pieces }

-- one piece is one with its bytes
pub single : (ps : List Piece) → length ps ≡ 1 → (p : RegionBytes) × (region_bytes ps ≡ p ∷ [])
single [] one = absurd (omega arith)
single (p ∷ []) one = (record { region = p.range; bytes = p.bytes.items }, refl)
single (p ∷ q ∷ ps) one = absurd (omega arith)

-- ---- a read

no_piece : (ps : List RegionBytes) → map (λ (p : RegionBytes). new_piece [] p) ps ≡ ps
no_piece [] = refl
no_piece (p ∷ ps) = ap (λ (qs : List RegionBytes). p ∷ qs) (no_piece ps)

pub read-pieces : (effect : LocalEffect) (bytes : List ℕ) (ps : List RegionBytes) → effect ≡ gave bytes → pieces_after effect ps ≡ ps
read-pieces effect bytes ps e = ap (λ (x : LocalEffect). pieces_after x ps) e ∙ no_piece ps

-- an answer of bytes that were read
abbrev pub answer_with : List ℕ → Answer
answer_with bytes = record { status = status.Ok; result = 0; bytes = bytes }

pub record ReadFinds (c : Configuration) (s : State) (w : Work) : Type 0 where
  pub finds : IsReadable w.pieces.items w.reply
  pub done : (d : Worked) → ((p : RegionBytes) → region_bytes w.pieces.items ≡ p ∷ [] → Leaves d (answer_with p.bytes) (region_bytes w.pieces.items)) → IsWorkDone c s w d

module _ (c : Configuration) (s : State) (w : Work) (r : Region) (work : IsWork c s w) (one : HasOnePiece w r)
    (effect : effect_in c s w ≡ gave (gathered (carried (region_bytes w.pieces.items)) r.space r.start r.len)) where
  gathered-read : gathered (carried (region_bytes w.pieces.items)) r.space r.start r.len ≡ one.piece.bytes
  gathered-read =
      (λ i. gathered (carried (one.only i)) (sym one.region i).space (sym one.region i).start (sym one.region i).len)
      ∙ carried-one one.piece (one.whole ∙ ap (λ (x : Region). x.len) (sym one.region))

  read-room : length one.piece.bytes ≤ w.reply.spare
  read-room =
      let same = ap (λ (e : LocalEffect). length e.answer.bytes) effect in
      let bytes = ap (λ (xs : List ℕ). length xs) gathered-read in
      omega (arith, same, bytes, work.reply)

  read-answer : (effect_in c s w).answer ≡ answer_with one.piece.bytes
  read-answer = ap (λ (e : LocalEffect). e.answer) effect ∙ ap answer_with gathered-read

  read-only : (p : RegionBytes) → region_bytes w.pieces.items ≡ p ∷ [] → one.piece ≡ p
  read-only p e = first one.piece p (sym one.only ∙ e)
    where
      first : (a b : RegionBytes) → ◌≡◌ {A = List RegionBytes} (a ∷ []) (b ∷ []) → a ≡ b
      first a b same = cc

  read-done : ReadFinds c s w
  read-done = record {
    finds = record {
      one = one.count;
      empty = work.no_reply;
      room = λ p e. subst (λ (q : RegionBytes). length q.bytes ≤ w.reply.spare) (read-only p e) read-room;
    };
    done = λ d left. done_by c s w d (answer_with one.piece.bytes) (region_bytes w.pieces.items) read-answer
        (read-pieces (effect_in c s w) (gathered (carried (region_bytes w.pieces.items)) r.space r.start r.len) (region_bytes w.pieces.items) effect) (left one.piece one.only);
  }

read-finds : (c : Configuration) (s : State) (w : Work) (r : Region) → IsWork c s w
    → carried_regions c (execution_of s w.command.value).ranges w.command.value ≡ r ∷ []
    → effect_in c s w ≡ gave (gathered (carried (region_bytes w.pieces.items)) r.space r.start r.len) → ReadFinds c s w
read-finds c s w r work carries effect = read-done c s w r work (one-piece c s w r work carries) effect

-- ---- a write

write-count : (w : Work) (r : Region) (n : ℕ) → HasOnePiece w r → r.len ≡ n → byte_counts (region_bytes w.pieces.items) ≡ n ∷ []
write-count w r n one e =
    ap (λ (ps : List RegionBytes). byte_counts ps) one.only ∙ ap (λ (k : ℕ). k ∷ []) (one.whole ∙ e)

write-pieces : (effect : LocalEffect) (w : Work) (r : Region) (bytes : List ℕ) → HasOnePiece w r → r.len ≡ length bytes → effect ≡ laid r.space r.start bytes
    → pieces_after effect (region_bytes w.pieces.items) ≡ map (piece_holding bytes) (region_bytes w.pieces.items)
write-pieces effect w r bytes one len e =
    ap (λ (x : LocalEffect). pieces_after x (region_bytes w.pieces.items)) e
    ∙ (ap (λ (ps : List RegionBytes). pieces_after (laid r.space r.start bytes) ps) one.only
    ∙ (here ∙ sym (ap (λ (ps : List RegionBytes). map (piece_holding bytes) ps) one.only)))
  where
    written : RegionBytes
    written = record { region = record { space = r.space; start = r.start; len = length bytes }; bytes = bytes }

    same : record { space = r.space; start = r.start; len = length bytes } ≡ one.piece.region
    same = (λ i. record { space = r.space; start = r.start; len = sym len i }) ∙ sym one.region

    here : pieces_after (laid r.space r.start bytes) (one.piece ∷ []) ≡ piece_holding bytes one.piece ∷ []
    here =
        ap (λ (b : Bool). (if b then record { region = record { space = r.space; start = r.start; len = length bytes }; bytes = bytes } else one.piece) ∷ [])
        (same_region-itself (record { space = r.space; start = r.start; len = length bytes }) one.piece.region same)
        ∙ (λ i. record { region = same i; bytes = bytes } ∷ [])

-- what it finds where it writes these bytes, of which there are so many
pub record WriteFinds (c : Configuration) (s : State) (w : Work) (bytes : List ℕ) (len : ℕ) : Type 0 where
  pub finds : IsWritable w.pieces.items w.reply len
  pub done : (d : Worked) → Leaves d (only_status status.Ok) (map (piece_holding bytes) (region_bytes w.pieces.items)) → IsWorkDone c s w d

write-finds : (c : Configuration) (s : State) (w : Work) (r : Region) (bytes : List ℕ) (len : ℕ) → IsWork c s w
    → carried_regions c (execution_of s w.command.value).ranges w.command.value ≡ r ∷ [] → r.len ≡ len → len ≡ length bytes
    → effect_in c s w ≡ laid r.space r.start bytes → WriteFinds c s w bytes len
write-finds c s w r bytes len work carries here size effect =
    let one = one-piece c s w r work carries in
    record {
      finds = record { one = one.count; counts = write-count w r len one here; empty = work.no_reply };
      done = λ d left. done_by c s w d (only_status status.Ok) (map (piece_holding bytes) (region_bytes w.pieces.items)) (ap (λ (x : LocalEffect). x.answer) effect)
          (write-pieces (effect_in c s w) w r bytes one (here ∙ size) effect) left;
    }

-- ---- a copy

-- a region of a source needs only the length of a block
pub sources-bare : (c : Configuration) (block : ℕ) (from : List CopySource) → c.block ≡ block → map (source_region c) from ≡ map (source_region (bare block 1 1)) from
sources-bare c block [] e = refl
sources-bare c block (x ∷ from) e =
    let here = bare-one x in
    let rest = sources-bare c block from e in
    λ i. here i ∷ rest i
  where
    bare-one : (y : CopySource) → source_region c y ≡ source_region (bare block 1 1) y
    bare-one (source.Nvm ns lba count) = ap (λ (n : ℕ). source_region (bare n 1 1) (source.Nvm ns lba count)) e
    bare-one (source.Mem ns at len) = refl

length-joined : (all : AllBytes) (rs : List Region) → length (gathered_joined all rs) ≡ total_len rs
length-joined all [] = refl
length-joined all (r ∷ rs) =
    length-append (gathered all r.space r.start r.len) (gathered_joined all rs)
    ∙ ((λ i. length-gathered all r.space r.start r.len i + length-joined all rs i) ∙ sym (total-cons r rs))

each-held : (ps : List Piece) (b : Configuration) (rs : List Region) (from : List CopySource) → AllByRecursion (λ x. IsCovered rs x) (map (source_region b) from)
    → ((x : Region) → IsCovered rs x → IsHeld (region_bytes ps) x × (x.start + x.len ≤ MAX_NAMESPACE))
    → AllByRecursion (λ source. IsSource (region_bytes ps) (source_region b source)) from
each-held ps b rs [] covered held = tt
each-held ps b rs (x ∷ from) covered held = (held (source_region b x) covered.0, each-held ps b rs from covered.1 held)

each-beside : (d : Region) (b : Configuration) (from : List CopySource) → AllByRecursion (λ x. AreDisjoint d x) (map (source_region b) from)
    → any_without_bytes (map (source_region b) from) ≡ false → AllByRecursion (λ source. IsBeside d (source_region b source)) from
each-beside d b [] apart some = tt
each-beside d b (x ∷ from) apart some =
    let p = both_false ((source_region b x).len == 0) (any_without_bytes (map (source_region b) from)) some in
    let test = p.0 in
    let positive : 0 < (source_region b x).len = grind (arith, nat_tests) in
    ((apart.0, positive), each-beside d b from apart.1 p.1)

regions-listed : (ps : List Piece) → regions_of_pieces (region_bytes ps) ≡ piece_regions ps
regions-listed [] = refl
regions-listed (p ∷ ps) = ap (λ (rs : List Region). p.range ∷ rs) (regions-listed ps)

-- what the checks of a copy leave
pub record CopyPasses (sources : List Region) (d : Region) : Type 0 where
  pub some : any_without_bytes sources ≡ false
  pub unmet : meets_any sources d ≡ false

pub copy-passes : (c : Configuration) (space : SpaceId) (start unit : ℕ) (sources : List Region) → Passes (copy_checks c space start unit sources)
    → CopyPasses sources (destination_of space start sources)
copy-passes c space start unit sources e =
    let p = all-pass (copy_checks c space start unit sources) e in
    let q = both_false (any_without_bytes sources) (not (total_len sources % unit == 0)) p.1.0 in
    record { some = q.0; unmet = p.1.1.1.1.0 }

-- what a copy leaves
pub copy-pieces : (effect : LocalEffect) (ps : List RegionBytes) (d : Region) (all : AllBytes) (srcs : List Region) → d.len ≡ total_len srcs
    → effect ≡ laid d.space d.start (gathered_joined all srcs) → pieces_after effect ps ≡ pieces_with (record { region = d; bytes = gathered_joined all srcs }) ps
copy-pieces effect ps d all srcs len e =
    ap (λ (x : LocalEffect). pieces_after x ps) e
    ∙ ap (λ (n : ℕ). pieces_with (record { region = record { space = d.space; start = d.start; len = n }; bytes = gathered_joined all srcs }) ps)
    (length-joined all srcs ∙ sym len)

-- what it finds where it copies these sources to a place
pub record CopyFinds (c : Configuration) (s : State) (w : Work) (space : SpaceId) (start : ℕ) (from : List CopySource) : Type 0 where
  pub finds : IsCopyable w.pieces.items w.reply w.block space start from
  pub short : start ≤ MAX_NAMESPACE
  pub done : (d : Worked) → Leaves d (only_status status.Ok) (pieces_with (record {
    region = destination_of space start (source_regions w.block from);
    bytes = gathered_joined (carried (region_bytes w.pieces.items)) (source_regions w.block from);
  }) (region_bytes w.pieces.items)) → IsWorkDone c s w d

copy-finds : (c : Configuration) (s : State) (w : Work) (to : SpaceId) (start : ℕ) (from : List CopySource) → IsWork c s w
    → carried_regions c (execution_of s w.command.value).ranges w.command.value
    ≡ with_region (destination_of to start (source_regions w.block from)) (runs_of (source_regions w.block from))
    → CopyPasses (source_regions w.block from) (destination_of to start (source_regions w.block from))
    → effect_in c s w ≡ laid to start (gathered_joined (carried (region_bytes w.pieces.items)) (source_regions w.block from))
    → CopyFinds c s w to start from
copy-finds c s w to start from work e checks effect =
    let b : Configuration = bare w.block 1 1 in
    let srcs : List Region = source_regions w.block from in
    let d : Region = destination_of to start srcs in
    let regions : piece_regions w.pieces.items ≡ with_region d (runs_of srcs) = work.regions ∙ e in
    let ranges : AllByRecursion IsRange (with_region d (runs_of srcs)) = subst (λ (rs : List Region). AllByRecursion IsRange rs) regions work.ranges in
    let each = region-each IsRange d (runs_of srcs) ranges in
    let none = runs-unmet d srcs checks.unmet in
    let apart = region-apart d (runs_of srcs) (runs-apart srcs) none in
    let listed : regions_of_pieces (region_bytes w.pieces.items) ≡ with_region d (runs_of srcs) = regions-listed w.pieces.items ∙ regions in
    let last = each.0.1 in
    record {
      finds = record {
        alone = subst (λ (rs : List Region). IsAlone d rs) (sym regions) (alone-region d (runs_of srcs) (nowhere-runs d (runs_of srcs) each.0.0 each.1 none));
        whole = work.whole;
        held = each-held w.pieces.items b (runs_of srcs) from (runs-cover srcs)
            (λ x covered. (
              covered-held (region_bytes w.pieces.items) x
                  (subst (λ (rs : List Region). IsCovered rs x) (sym listed) (region-covered d (runs_of srcs) x covered))
                  (subst (λ (rs : List Region). LieApart rs) (sym listed) apart) work.whole,
              covered-short (runs_of srcs) x each.1 covered,
            ));
        beside = each-beside d b from (sources-unmet d srcs checks.unmet) checks.some;
        empty = work.no_reply;
      };
      short = omega (arith, last);
      done = λ made left. done_by c s w made (only_status status.Ok)
          (pieces_with (record { region = d; bytes = gathered_joined (carried (region_bytes w.pieces.items)) srcs }) (region_bytes w.pieces.items))
          (ap (λ (x : LocalEffect). x.answer) effect)
          (copy-pieces (effect_in c s w) (region_bytes w.pieces.items) d (carried (region_bytes w.pieces.items)) srcs refl effect) left;
    }

-- ---- an execution

pub budget-positive : (c : Configuration) (s : State) (slot set budget : ℕ) → Passes (execute_checks c s slot set budget) → 1 ≤ budget
budget-positive c s slot set budget e =
    let behind = behind-passes (runnable_checks s slot)
    (refuse (is_none (ranges_under s.sets set)) status.NoSuchSet ∷ refuse ((budget == 0) || nat_lt c.budget budget) status.BudgetRange ∷ []) e in
    let one = check-passes (is_none (ranges_under s.sets set)) status.NoSuchSet (refuse ((budget == 0) || nat_lt c.budget budget) status.BudgetRange ∷ []) behind in
    let two = check-passes ((budget == 0) || nat_lt c.budget budget) status.BudgetRange [] one.1 in
    let parts = both_false (budget == 0) (nat_lt c.budget budget) two.0 in
    let test = parts.0 in
    grind (arith, nat_tests)

-- a program of the device is that of its slot
of-slot : (s : State) (slot : ℕ) → IsOfSlot (executable_in s slot) slot
of-slot s slot = by_found (builtin_at slot) refl
  where
    by_found : (found : Option Builtin) → builtin_at slot ≡ found → IsOfSlot (loaded_or (slot_at s slot) found) slot
    by_found None e = tt
    by_found (Some program) e = e

-- what it finds where it executes the program of a slot on the ranges of a set
pub record RunFinds (c : Configuration) (s : State) (w : Work) (slot p1 p2 budget : ℕ) : Type 0 where
  pub ranges : List MemRange
  pub set : w.set ≡ Some ranges
  pub empty : w.reply.items ≡ []
  pub finds : IsExecutable (executable_in s slot) ranges w.pieces.items w.windows.items (vec_capacity w.windows) (option_map (λ decoded. decoded.value) w.code) w.stack slot budget
  pub done : (d : Worked) → Leaves d (told_of budget (outcome_on (executable_in s slot) ranges (memory_in w.pieces.items) p1 p2 budget).ending)
      (ranges_with (outcome_on (executable_in s slot) ranges (memory_in w.pieces.items) p1 p2 budget).memory ranges) → IsWorkDone c s w d

-- ---- what runs

-- decoded code is that of a loaded program
pub record HasCode (runs : Executable) (slots : List (Option Insn)) : Type 0 where
  pub bytes : List ℕ
  pub is : runs ≡ Loaded bytes
  pub same : (place : ℕ) → insn_at slots (pos place) ≡ instruction_at bytes place

pub loaded-code : (runs : Executable) (code : Option (List (Option Insn))) (slots : List (Option Insn)) → RunsDecoded runs code → code ≡ Some slots → HasCode runs slots
loaded-code (Loaded bytes) None slots h e = absurd h
loaded-code (Loaded bytes) (Some other) slots h e =
    let here : other ≡ slots = cc in
    record {
      bytes = bytes;
      is = refl;
      same = subst (λ (xs : List (Option Insn)). (place : ℕ) → insn_at xs (pos place) ≡ instruction_at bytes place) here h;
    }
loaded-code (OfDevice program) None slots h e = cc
loaded-code (OfDevice program) (Some other) slots h e = absurd h

-- where there is none, what runs is the device's own program of the slot
pub record HasOwn (runs : Executable) (slot : ℕ) : Type 0 where
  pub program : Builtin
  pub is : runs ≡ OfDevice program
  pub at : builtin_at slot ≡ Some program

pub own-code : (runs : Executable) (code : Option (List (Option Insn))) (slot : ℕ) → RunsDecoded runs code → code ≡ None → IsOfSlot runs slot → HasOwn runs slot
own-code (Loaded bytes) None slot h e at = absurd h
own-code (Loaded bytes) (Some other) slot h e at = cc
own-code (OfDevice program) None slot h e at = record { program = program; is = refl; at = at }
own-code (OfDevice program) (Some other) slot h e at = absurd h

-- ---- each command

module _ (c : Configuration) (s : State) (w : Work) (work : IsWork c s w) where
  abbrev regions_for : Command → List Region
  regions_for cmd = carried_regions c (execution_of s cmd).ranges cmd

  abbrev effect_for : Command → LocalEffect
  effect_for cmd = local_effect c (execution_of s cmd) (region_bytes w.pieces.items) cmd

  pub read-nvm : (ns lba count : ℕ) → w.command.value ≡ command.NvmRead ns lba count → ReadFinds c s w
  read-nvm ns lba count e = read-finds c s w (record { space = space.Nvm ns; start = lba * c.block; len = count * c.block }) work (ap regions_for e) (ap effect_for e)

  pub read-mem : (ns at len : ℕ) → w.command.value ≡ command.MemRead ns at len → ReadFinds c s w
  read-mem ns at len e = read-finds c s w (record { space = space.Mem ns; start = at; len = len }) work (ap regions_for e) (ap effect_for e)

  pub write-nvm : (ns lba : ℕ) (bytes : Buffer) → w.command.value ≡ command.NvmWrite ns lba bytes → WriteFinds c s w bytes.items (length bytes.items)
  write-nvm ns lba bytes e =
      write-finds c s w (record { space = space.Nvm ns; start = lba * c.block; len = length bytes.items }) bytes.items (length bytes.items) work
      (ap regions_for e) refl refl (ap effect_for e)

  pub write-mem : (ns at : ℕ) (bytes : Buffer) → w.command.value ≡ command.MemWrite ns at bytes → WriteFinds c s w bytes.items (length bytes.items)
  write-mem ns at bytes e =
      write-finds c s w (record { space = space.Mem ns; start = at; len = length bytes.items }) bytes.items (length bytes.items) work
      (ap regions_for e) refl refl (ap effect_for e)

  pub zero-nvm : (ns lba count : ℕ) → w.command.value ≡ command.NvmZeroes ns lba count → WriteFinds c s w (replicate (count * c.block) 0) (count * c.block)
  zero-nvm ns lba count e =
      write-finds c s w (record { space = space.Nvm ns; start = lba * c.block; len = count * c.block }) (replicate (count * c.block) 0) (count * c.block) work
      (ap regions_for e) refl (sym (length-replicate (count * c.block) 0)) (ap effect_for e)

  pub fill-mem : (ns at len value : ℕ) → w.command.value ≡ command.MemFill ns at len value → WriteFinds c s w (replicate len value) len
  fill-mem ns at len value e =
      write-finds c s w (record { space = space.Mem ns; start = at; len = len }) (replicate len value) len work
      (ap regions_for e) refl (sym (length-replicate len value)) (ap effect_for e)

  pub copy-nvm : (ns lba : ℕ) (from : List CopySource) → w.command.value ≡ command.NvmCopy ns lba from → CopyFinds c s w (space.Nvm ns) (lba * w.block) from
  copy-nvm ns lba from e =
      let same = sources-bare c w.block from work.block in
      let passed : Passes (copy_checks c (space.Nvm ns) (lba * c.block) c.block (map (source_region c) from)) =
      subst (λ (cmd : Command). Passes (checks_of c s cmd)) e (passes c s w.command.value work.passes) in
      let checks = copy-passes c (space.Nvm ns) (lba * c.block) c.block (map (source_region c) from) passed in
      copy-finds c s w (space.Nvm ns) (lba * w.block) from work
      (ap regions_for e ∙ (λ i. with_region (destination_of (space.Nvm ns) (lba * work.block i) (same i)) (runs_of (same i))))
      (record {
        some = subst (λ (rs : List Region). any_without_bytes rs ≡ false) same checks.some;
        unmet = (λ i. meets_any (sym same i) (destination_of (space.Nvm ns) (lba * sym work.block i) (sym same i))) ∙ checks.unmet;
      })
      (ap effect_for e ∙ (λ i. laid (space.Nvm ns) (lba * work.block i) (gathered_joined (carried (region_bytes w.pieces.items)) (same i))))

  pub copy-mem : (ns at : ℕ) (from : List CopySource) → w.command.value ≡ command.MemCopy ns at from → CopyFinds c s w (space.Mem ns) at from
  copy-mem ns at from e =
      let same = sources-bare c w.block from work.block in
      let passed : Passes (copy_checks c (space.Mem ns) at 1 (map (source_region c) from)) =
      subst (λ (cmd : Command). Passes (checks_of c s cmd)) e (passes c s w.command.value work.passes) in
      let checks = copy-passes c (space.Mem ns) at 1 (map (source_region c) from) passed in
      copy-finds c s w (space.Mem ns) at from work
      (ap regions_for e ∙ (λ i. with_region (destination_of (space.Mem ns) at (same i)) (runs_of (same i))))
      (record {
        some = subst (λ (rs : List Region). any_without_bytes rs ≡ false) same checks.some;
        unmet = (λ i. meets_any (sym same i) (destination_of (space.Mem ns) at (sym same i))) ∙ checks.unmet;
      })
      (ap effect_for e ∙ (λ i. laid (space.Mem ns) at (gathered_joined (carried (region_bytes w.pieces.items)) (same i))))

  pub run-set : (slot set p1 p2 budget : ℕ) → w.command.value ≡ command.Execute slot set p1 p2 budget → RunFinds c s w slot p1 p2 budget
  run-set slot set p1 p2 budget e =
      let x : Execution = execution_of s (command.Execute slot set p1 p2 budget) in
      let fits : FitsExecution x w = subst (λ (cmd : Command). FitsExecution (execution_of s cmd) w) e (work.execution (ap is_execution e)) in
      let of : AreOfRanges w.pieces.items x.ranges = record { regions = work.regions ∙ ap regions_for e; each = work.ranges; whole = work.whole; apart = fits.apart } in
      let passed : Passes (execute_checks c s slot set budget) = subst (λ (cmd : Command). Passes (checks_of c s cmd)) e (passes c s w.command.value work.passes) in
      let effect = ap effect_for e in
      let ran : RunOutcome = outcome_on (executable_in s slot) x.ranges (memory_in w.pieces.items) p1 p2 budget in
      record {
        ranges = x.ranges;
        set = fits.set;
        empty = work.no_reply;
        finds = record {
          of_ranges = of;
          no_window = work.no_windows;
          has_room = fits.windows;
          decoded = fits.code;
          of_slot = of-slot s slot;
          zeros = fits.stack;
          some_budget = budget-positive c s slot set budget passed;
        };
        done = λ d left. done_by c s w d (told_of budget ran.ending) (ranges_with ran.memory x.ranges) (ap (λ (y : LocalEffect). y.answer) effect)
            (ap (λ (y : LocalEffect). pieces_after y (region_bytes w.pieces.items)) effect ∙ run-put (executable_in s slot) w.pieces.items x.ranges p1 p2 budget of) left;
      }

  -- no other command is work
  pub no_work : (cmd : Command) → w.command.value ≡ cmd → moves_bytes cmd ≡ false → ⊥
  no_work cmd e none = true≢false (sym work.moves ∙ (ap moves_bytes e ∙ none))
