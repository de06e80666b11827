use Rattle.std.proofs.Common.{◌≡◌, ℕ, ◌*◌, ◌≤◌, List, length, map, option_map, Option, Some, refl, sym, ap, subst, ◌∙◌, rules, vec_capacity}
use Rattle.cp_base.specs.Answer.{only_status}
use Rattle.cp_base.specs.Buffer.{Buffer}
use Rattle.cp_base.specs.Checks.{destination_of}
use Rattle.cp_base.specs.declared.lists.CopySource.{CopySource}
use Rattle.cp_base.specs.declared.lists.MemRange.{MemRange}
use Rattle.cp_base.specs.declared.region.SpaceId.{SpaceId}
use Rattle.cp_base.specs.declared.region.SpaceId.TheVariants as space
use Rattle.cp_base.specs.declared.replies.Piece.{Piece}
use Rattle.cp_base.specs.declared.replies.Status.TheVariants as status
use Rattle.device_model.specs.Execution.{executable_in, outcome_on, told_of}
use Rattle.trail_model.specs.LocalEffects.{ranges_with}
use Rattle.trail_model.specs.Pieces.{carried, gathered_joined}
use Rattle.job_run.specs.Works.{memory_in, piece_holding, pieces_with, region_bytes}
use Rattle.job_run.specs.declared.work.Worked.{Worked}
use Rattle.job_run.specs.private.Kinds.{IsCopyable, IsExecutable, IsWritable, Leaves, source_regions}
use Rattle.job_run.proofs.Working.{copy-mem, copy-nvm, fill-mem, read-mem, read-nvm, run-set, write-mem, write-nvm, zero-nvm}
use Rattle.job_run.proofs.work.Work.run.Goals as goal

-- the same copy, with its place and its sources said otherwise
copyable : (ps : List Piece) (reply : Buffer) (block : ℕ) (to : SpaceId) (m n : ℕ) (xs ys : List CopySource) → m ≡ n → xs ≡ ys → IsCopyable ps reply block to n ys → IsCopyable ps reply block to m xs
copyable ps reply block to m n xs ys e f h = subst (λ (k : ℕ). IsCopyable ps reply block to k xs) (sym e) (subst (λ (zs : List CopySource). IsCopyable ps reply block to n zs) (sym f) h)

abbrev Copied : Worked → List Piece → ℕ → SpaceId → ℕ → List CopySource → Type 0
Copied done ps block to start from =
    Leaves done (only_status status.Ok) (pieces_with (record {
      region = destination_of to start (source_regions block from);
      bytes = gathered_joined (carried (region_bytes ps)) (source_regions block from);
    }) (region_bytes ps))

copy-left : (done : Worked) (ps : List Piece) (block : ℕ) (to : SpaceId) (m n : ℕ) (xs ys : List CopySource) → m ≡ n → xs ≡ ys → Copied done ps block to m xs → Copied done ps block to n ys
copy-left done ps block to m n xs ys e f h = subst (λ (k : ℕ). Copied done ps block to k ys) e (subst (λ (zs : List CopySource). Copied done ps block to m zs) f h)

-- the same ranges of an execution, said otherwise
set-ranges : (a b : List MemRange) → ◌≡◌ {A = Option (List MemRange)} (Some a) (Some b) → a ≡ b
set-ranges a b e = cc

pub read-requires : goal.read-requires
read-requires c = (read-nvm c.requires.0 c.requires.1 c.args.self c.requires.2 _ _ _ (sym c.deref.ensures ∙ c.in-NvmRead.is)).finds

pub returns-in-NvmRead : goal.returns-in-NvmRead
returns-in-NvmRead c conf state work = (read-nvm conf state c.args.self work _ _ _ (sym c.deref.ensures ∙ c.in-NvmRead.is)).done c.read.result c.read.ensures

pub written-requires : goal.written-requires
written-requires c =
    let shown : c.as_slice.result.now ≡ c.in-NvmWrite.bytes.items = search rules in
    subst (λ (bytes : List ℕ). IsWritable c.args.self.pieces.items c.args.self.reply (length bytes)) (sym shown)
    (write-nvm c.requires.0 c.requires.1 c.args.self c.requires.2 _ _ _ (sym c.deref.ensures ∙ c.in-NvmWrite.is)).finds

pub returns-in-NvmWrite : goal.returns-in-NvmWrite
returns-in-NvmWrite c conf state work =
    let shown : c.as_slice.result.now ≡ c.in-NvmWrite.bytes.items = search rules in
    (write-nvm conf state c.args.self work _ _ _ (sym c.deref.ensures ∙ c.in-NvmWrite.is)).done c.written.result
    (subst (λ (bytes : List ℕ). Leaves c.written.result (only_status status.Ok) (map (piece_holding bytes) (region_bytes c.args.self.pieces.items))) shown c.written.ensures)

pub filled-requires : goal.filled-requires
filled-requires c = (_, (zero-nvm c.requires.0 c.requires.1 c.args.self c.requires.2 _ _ _ (sym c.deref.ensures ∙ c.in-NvmZeroes.is)).finds)

pub returns-in-NvmZeroes : goal.returns-in-NvmZeroes
returns-in-NvmZeroes c conf state work =
    let f = zero-nvm conf state c.args.self work _ _ _ (sym c.deref.ensures ∙ c.in-NvmZeroes.is) in
    f.done c.filled.result (c.filled.ensures _ f.finds.counts)

pub overflow_mul-start : goal.overflow_mul-start
overflow_mul-start c =
    let f = copy-nvm c.requires.0 c.requires.1 c.args.self c.requires.2 _ _ _ (sym c.deref.ensures ∙ c.in-NvmCopy.is) in
    let unit : c.from-unit.result ≡ c.args.self.block = search rules in
    let short : c.in-NvmCopy.lba * c.args.self.block ≤ 16777216 = f.short in
    let small : c.in-NvmCopy.lba * c.from-unit.result ≤ 16777216 = subst (λ (n : ℕ). c.in-NvmCopy.lba * n ≤ 16777216) (sym unit) short in
    search rules

pub copied-requires : goal.copied-requires
copied-requires c =
    let f = copy-nvm c.requires.0 c.requires.1 c.args.self c.requires.2 _ _ _ (sym c.deref.ensures ∙ c.in-NvmCopy.is) in
    let unit : c.from-unit.result ≡ c.args.self.block = search rules in
    copyable c.args.self.pieces.items c.args.self.reply c.args.self.block (space.Nvm c.in-NvmCopy.ns) _ _ _ _ (ap (λ (n : ℕ). c.in-NvmCopy.lba * n) unit) c.as_slice-in-NvmCopy.ensures.value f.finds

pub returns-in-NvmCopy : goal.returns-in-NvmCopy
returns-in-NvmCopy c conf state work =
    let f = copy-nvm conf state c.args.self work _ _ _ (sym c.deref.ensures ∙ c.in-NvmCopy.is) in
    let unit : c.from-unit.result ≡ c.args.self.block = search rules in
    f.done c.copied.result (copy-left c.copied.result c.args.self.pieces.items c.args.self.block (space.Nvm c.in-NvmCopy.ns) _ _ _ _ (ap (λ (n : ℕ). c.in-NvmCopy.lba * n) unit) c.as_slice-in-NvmCopy.ensures.value c.copied.ensures)

pub read-requires-in-MemRead : goal.read-requires-in-MemRead
read-requires-in-MemRead c = (read-mem c.requires.0 c.requires.1 c.args.self c.requires.2 _ _ _ (sym c.deref.ensures ∙ c.in-MemRead.is)).finds

pub returns-in-MemRead : goal.returns-in-MemRead
returns-in-MemRead c conf state work = (read-mem conf state c.args.self work _ _ _ (sym c.deref.ensures ∙ c.in-MemRead.is)).done c.read-in-MemRead.result c.read-in-MemRead.ensures

pub written-requires-in-MemWrite : goal.written-requires-in-MemWrite
written-requires-in-MemWrite c =
    let shown : c.as_slice-in-MemWrite.result.now ≡ c.in-MemWrite.bytes.items = search rules in
    subst (λ (bytes : List ℕ). IsWritable c.args.self.pieces.items c.args.self.reply (length bytes)) (sym shown)
    (write-mem c.requires.0 c.requires.1 c.args.self c.requires.2 _ _ _ (sym c.deref.ensures ∙ c.in-MemWrite.is)).finds

pub returns-in-MemWrite : goal.returns-in-MemWrite
returns-in-MemWrite c conf state work =
    let shown : c.as_slice-in-MemWrite.result.now ≡ c.in-MemWrite.bytes.items = search rules in
    (write-mem conf state c.args.self work _ _ _ (sym c.deref.ensures ∙ c.in-MemWrite.is)).done c.written-in-MemWrite.result
    (subst (λ (bytes : List ℕ). Leaves c.written-in-MemWrite.result (only_status status.Ok) (map (piece_holding bytes) (region_bytes c.args.self.pieces.items))) shown c.written-in-MemWrite.ensures)

pub filled-requires-in-MemFill : goal.filled-requires-in-MemFill
filled-requires-in-MemFill c = (_, (fill-mem c.requires.0 c.requires.1 c.args.self c.requires.2 _ _ _ _ (sym c.deref.ensures ∙ c.in-MemFill.is)).finds)

pub returns-in-MemFill : goal.returns-in-MemFill
returns-in-MemFill c conf state work =
    let f = fill-mem conf state c.args.self work _ _ _ _ (sym c.deref.ensures ∙ c.in-MemFill.is) in
    f.done c.filled-in-MemFill.result (c.filled-in-MemFill.ensures _ f.finds.counts)

pub copied-requires-in-MemCopy : goal.copied-requires-in-MemCopy
copied-requires-in-MemCopy c =
    let f = copy-mem c.requires.0 c.requires.1 c.args.self c.requires.2 _ _ _ (sym c.deref.ensures ∙ c.in-MemCopy.is) in
    copyable c.args.self.pieces.items c.args.self.reply c.args.self.block (space.Mem c.in-MemCopy.ns) _ _ _ _ refl c.as_slice-in-MemCopy.ensures.value f.finds

pub returns-in-MemCopy : goal.returns-in-MemCopy
returns-in-MemCopy c conf state work =
    let f = copy-mem conf state c.args.self work _ _ _ (sym c.deref.ensures ∙ c.in-MemCopy.is) in
    f.done c.copied-in-MemCopy.result (copy-left c.copied-in-MemCopy.result c.args.self.pieces.items c.args.self.block (space.Mem c.in-MemCopy.ns) _ _ _ _ refl c.as_slice-in-MemCopy.ensures.value c.copied-in-MemCopy.ensures)

pub executed-requires : goal.executed-requires
executed-requires c =
    let f = run-set c.requires.0 c.requires.1 c.args.self c.requires.2 _ _ _ _ _ (sym c.deref.ensures ∙ c.in-Execute.is) in
    let same : f.ranges ≡ c.as_slice-in-Execute.result.now = set-ranges f.ranges c.in-Some.ranges (sym f.set ∙ c.in-Some.is) ∙ sym c.as_slice-in-Execute.ensures.value in
    record {
      few = c.as_slice-in-Execute.ensures.few;
      empty = f.empty;
      ready = (
        executable_in c.requires.1 c.in-Execute.slot,
        subst (λ (ranges : List MemRange). IsExecutable (executable_in c.requires.1 c.in-Execute.slot) ranges c.args.self.pieces.items c.args.self.windows.items
            (vec_capacity c.args.self.windows) (option_map (λ decoded. decoded.value) c.args.self.code) c.args.self.stack c.in-Execute.slot c.in-Execute.budget) same f.finds,
      );
    }

pub returns-in-Execute : goal.returns-in-Execute
returns-in-Execute c conf state work =
    let f = run-set conf state c.args.self work _ _ _ _ _ (sym c.deref.ensures ∙ c.in-Execute.is) in
    let same : f.ranges ≡ c.as_slice-in-Execute.result.now = set-ranges f.ranges c.in-Some.ranges (sym f.set ∙ c.in-Some.is) ∙ sym c.as_slice-in-Execute.ensures.value in
    f.done c.executed.result
    (subst (λ (ranges : List MemRange). Leaves c.executed.result
    (told_of c.in-Execute.budget (outcome_on (executable_in state c.in-Execute.slot) ranges (memory_in c.args.self.pieces.items) c.in-Execute.p1 c.in-Execute.p2 c.in-Execute.budget).ending)
    (ranges_with (outcome_on (executable_in state c.in-Execute.slot) ranges (memory_in c.args.self.pieces.items) c.in-Execute.p1 c.in-Execute.p2 c.in-Execute.budget).memory ranges))
    (sym same)
    (c.executed.ensures (executable_in state c.in-Execute.slot)
    (subst (λ (ranges : List MemRange). IsExecutable (executable_in state c.in-Execute.slot) ranges c.args.self.pieces.items c.args.self.windows.items
    (vec_capacity c.args.self.windows) (option_map (λ decoded. decoded.value) c.args.self.code) c.args.self.stack c.in-Execute.slot c.in-Execute.budget) same f.finds)))
