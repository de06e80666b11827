use Rattle.std.proofs.Common.{◌≡◌, ℕ, List, [], ◌++◌, length, map, set, slice_get, Some, sym, ap, subst, ◌∙◌, arith}
use Rattle.std.specs.List.{AllByRecursion}
use Rattle.cp_base.specs.Checks.{destination_of}
use Rattle.cp_base.specs.Configuration.{Configuration, bare}
use Rattle.cp_base.specs.Region.{Region}
use Rattle.cp_base.specs.Sharing.{source_region}
use Rattle.cp_base.specs.declared.replies.Piece.{Piece}
use Rattle.trail_model.specs.Pieces.{RegionBytes, carried, gathered_joined}
use Rattle.job_run.specs.Held.{BeginsOnce, IsSource}
use Rattle.job_run.specs.Works.{piece_holding, piece_regions, region_bytes}
use Rattle.job_run.proofs.Copying.{destination-found, emptied, get-set, joined-emptied, length-at, set-again, set-count, sources-emptied}
use Rattle.job_run.proofs.Covered.{alone-once}
use Rattle.job_run.proofs.copies.copy.Goals as goal

pub index_at-index-requires : goal.index_at-index-requires
index_at-index-requires c =
    let d : Region = destination_of c.args.space c.args.start (map (source_region (bare c.args.block 1 1)) c.args.from.now) in
    subst (λ (xs : List Piece). BeginsOnce c.args.space c.args.start (piece_regions xs)) (sym c.deref.ensures.value)
    (alone-once d (piece_regions c.args.pieces.now.items) c.requires.alone)

pub gather-requires-clause-held : goal.gather-requires-clause-held
gather-requires-clause-held c =
    let b : Configuration = bare c.args.block 1 1 in
    let d : Region = destination_of c.args.space c.args.start (map (source_region b) c.args.from.now) in
    let ps : List Piece = c.args.pieces.now.items in
    let found = destination-found ps c.deref.result.now c.index_at-index.result d c.deref.ensures.value c.index_at-index.ensures.alone c.index_at-index.ensures.found c.requires.alone in
    let left = c.take_bytes-made.ensures.left (record { region = d; bytes = found.old }) found.at in
    let is : region_bytes c.deref-2.result.now ≡ emptied d (region_bytes ps) =
    ap (λ (xs : List Piece). region_bytes xs) c.deref-2.ensures.value ∙ (left ∙ sym (found.changed [])) in
    subst (λ (qs : List RegionBytes). AllByRecursion (λ source. IsSource qs (source_region b source)) c.args.from.now) (sym is)
    (sources-emptied b d (region_bytes ps) c.args.from.now c.requires.held c.requires.beside)

pub gather-requires-clause-room : goal.gather-requires-clause-room
gather-requires-clause-room c =
    let b : Configuration = bare c.args.block 1 1 in
    let d : Region = destination_of c.args.space c.args.start (map (source_region b) c.args.from.now) in
    let ps : List Piece = c.args.pieces.now.items in
    let found = destination-found ps c.deref.result.now c.index_at-index.result d c.deref.ensures.value c.index_at-index.ensures.alone c.index_at-index.ensures.found c.requires.alone in
    let bytes = c.take_bytes-made.ensures.bytes (record { region = d; bytes = found.old }) found.at in
    let whole : length found.old ≡ d.len = length-at (region_bytes ps) c.index_at-index.result (record { region = d; bytes = found.old }) found.at c.requires.whole in
    let spare = c.clear.ensures.spare in
    omega (arith, whole, ap (λ (xs : List ℕ). length xs) bytes, spare)

pub put_bytes-requires : goal.put_bytes-requires
put_bytes-requires c =
    let b : Configuration = bare c.args.block 1 1 in
    let d : Region = destination_of c.args.space c.args.start (map (source_region b) c.args.from.now) in
    let ps : List Piece = c.args.pieces.now.items in
    let found = destination-found ps c.deref.result.now c.index_at-index.result d c.deref.ensures.value c.index_at-index.ensures.alone c.index_at-index.ensures.found c.requires.alone in
    let left = c.take_bytes-made.ensures.left (record { region = d; bytes = found.old }) found.at in
    let count = set-count ps c.take_bytes-made.new.pieces.items c.index_at-index.result (piece_holding [] (record { region = d; bytes = found.old })) left in
    let inside = c.index_at-index.ensures.inside in
    let same = ap (λ (xs : List Piece). length xs) c.deref.ensures.value in
    omega (arith, count, inside, same)

pub returns : goal.returns
returns c =
    let b : Configuration = bare c.args.block 1 1 in
    let d : Region = destination_of c.args.space c.args.start (map (source_region b) c.args.from.now) in
    let ps : List Piece = c.args.pieces.now.items in
    let i : ℕ = c.index_at-index.result in
    let found = destination-found ps c.deref.result.now i d c.deref.ensures.value c.index_at-index.ensures.alone c.index_at-index.ensures.found c.requires.alone in
    let none : RegionBytes = record { region = d; bytes = [] } in
    let left : region_bytes c.take_bytes-made.new.pieces.items ≡ set (region_bytes ps) i none = c.take_bytes-made.ensures.left (record { region = d; bytes = found.old }) found.at in
    let is : region_bytes c.deref-2.result.now ≡ emptied d (region_bytes ps) =
    ap (λ (xs : List Piece). region_bytes xs) c.deref-2.ensures.value ∙ (left ∙ sym (found.changed [])) in
    let at : slice_get (region_bytes c.take_bytes-made.new.pieces.items) i ≡ Some none =
    ap (λ (xs : List RegionBytes). slice_get xs i) left ∙ get-set (region_bytes ps) i (record { region = d; bytes = found.old }) none found.at in
    let all : List ℕ = gathered_joined (carried (region_bytes ps)) (map (source_region b) c.args.from.now) in
    let made : c.gather.new.made.items ≡ all =
    c.gather.ensures
    ∙ (ap (λ (xs : List ℕ). xs ++ gathered_joined (carried (region_bytes c.deref-2.result.now)) (map (source_region b) c.args.from.now)) c.clear.ensures.items
    ∙ (ap (λ (qs : List RegionBytes). gathered_joined (carried qs) (map (source_region b) c.args.from.now)) is
    ∙ joined-emptied b d (region_bytes ps) c.args.from.now c.requires.beside)) in
    c.put_bytes.ensures none at
    ∙ (ap (λ (xs : List RegionBytes). set xs i (record { region = d; bytes = c.gather.new.made.items })) left
    ∙ (set-again (region_bytes ps) i none (record { region = d; bytes = c.gather.new.made.items })
    ∙ (ap (λ (bytes : List ℕ). set (region_bytes ps) i (record { region = d; bytes = bytes })) made
    ∙ sym (found.changed all))))
