use Rattle.std.proofs.Common.{◌≡◌, ℕ, ◌+◌, ◌<◌, ◌≤◌, List, ◌∷◌, ◌++◌, length, map, drop, get_or, sym, ap, subst, ◌∙◌, arith, rules}
use Rattle.std.specs.List.{AllByRecursion}
use Rattle.std.proofs.lemmas.List.{append_assoc, get_or_default}
use Rattle.cp_base.specs.Checks.{total_len}
use Rattle.cp_base.specs.Configuration.{Configuration, bare}
use Rattle.cp_base.specs.Region.{Region}
use Rattle.cp_base.specs.Sharing.{source_region}
use Rattle.cp_base.specs.declared.lists.CopySource.{CopySource}
use Rattle.cp_base.specs.declared.lists.CopySource.TheVariants as source
use Rattle.trail_model.specs.Pieces.{AllBytes, RegionBytes, carried, gathered_joined}
use Rattle.trail_model.proofs.Bytes.{length-gathered}
use Rattle.job_run.specs.Held.{IsSource, gathered_region}
use Rattle.job_run.specs.Works.{region_bytes}
use Rattle.job_run.proofs.Items.{drop-at, total-cons}
use Rattle.job_run.proofs.copies.gather.Goals as goal

-- what stands for no source
abbrev nothing : CopySource
nothing = source.Mem 0 0 0

pub append-requires : goal.append-requires
append-requires c =
    let b : Configuration = bare c.args.block 1 1 in
    let all : AllBytes = carried (region_bytes c.args.pieces.now) in
    let item : CopySource = get_or c.args.from.now c.loop-source.source-index nothing in
    let r : Region = source_region b item in
    let rest : List CopySource = drop (c.loop-source.source-index + 1) c.args.from.now in
    let below : c.loop-source.source-index < length c.args.from.now = search rules in
    let first = drop-at c.args.from.now c.loop-source.source-index nothing below in
    let room : total_len (map (source_region b) (item ∷ rest)) ≤ c.loop-source.made.spare =
    subst (λ (ss : List CopySource). total_len (map (source_region b) ss) ≤ c.loop-source.made.spare) first c.loop-source.invariant.room in
    let bytes : c.source_bytes.result.now ≡ gathered_region all r =
    c.source_bytes.ensures ∙ ap (λ (s : CopySource). gathered_region all (source_region b s)) (get_or_default c.args.from.now c.loop-source.source-index _ nothing below) in
    omega (arith, room, total-cons r (map (source_region b) rest), ap length bytes, length-gathered all r.space r.start r.len)

pub loop-source-preserved : goal.loop-source-preserved
loop-source-preserved c =
    let b : Configuration = bare c.args.block 1 1 in
    let pieces : List RegionBytes = region_bytes c.args.pieces.now in
    let all : AllBytes = carried pieces in
    let item : CopySource = get_or c.args.from.now c.loop-source.source-index nothing in
    let r : Region = source_region b item in
    let rest : List CopySource = drop (c.loop-source.source-index + 1) c.args.from.now in
    let below : c.loop-source.source-index < length c.args.from.now = search rules in
    let first = drop-at c.args.from.now c.loop-source.source-index nothing below in
    let held : AllByRecursion (λ (s : CopySource). IsSource pieces (source_region b s)) (item ∷ rest) =
    subst (λ (ss : List CopySource). AllByRecursion (λ (s : CopySource). IsSource pieces (source_region b s)) ss) first c.loop-source.invariant.held in
    let room : total_len (map (source_region b) (item ∷ rest)) ≤ c.loop-source.made.spare =
    subst (λ (ss : List CopySource). total_len (map (source_region b) ss) ≤ c.loop-source.made.spare) first c.loop-source.invariant.room in
    let bytes : c.source_bytes.result.now ≡ gathered_region all r =
    c.source_bytes.ensures ∙ ap (λ (s : CopySource). gathered_region all (source_region b s)) (get_or_default c.args.from.now c.loop-source.source-index _ nothing below) in
    let items : c.append.new.self.items ≡ c.loop-source.made.items ++ c.source_bytes.result.now = search rules in
    let spare : c.append.new.self.spare + length c.source_bytes.result.now ≡ c.loop-source.made.spare = search rules in
    record {
      held = held.1;
      room = omega (arith, room, total-cons r (map (source_region b) rest), spare, ap length bytes, length-gathered all r.space r.start r.len);
      made = ap (λ (xs : List ℕ). xs ++ gathered_joined all (map (source_region b) rest)) (items ∙ ap (λ (xs : List ℕ). c.loop-source.made.items ++ xs) bytes)
          ∙ append_assoc c.loop-source.made.items (gathered_region all r) (gathered_joined all (map (source_region b) rest))
          ∙ sym (ap (λ (ss : List CopySource). c.loop-source.made.items ++ gathered_joined all (map (source_region b) ss)) first)
          ∙ c.loop-source.invariant.made;
    }
