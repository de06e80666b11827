use Rattle.std.proofs.Common.{◌≡◌, ℕ, ◌<◌, List, [], Some, length, length-take-le, get_or, set, slice_get, sum, take, sym, ap, ◌∙◌, arith, rules}
use Rattle.cp_base.specs.Pieces.{patched}
use Rattle.cp_base.specs.declared.replies.Piece.{Piece}
use Rattle.device_model.specs.Builtin.{marks_of, window_at}
use Rattle.trail_model.specs.Pieces.{RegionBytes}
use Rattle.job_run.specs.Windows.{piece_bytes}
use Rattle.job_run.specs.Works.{piece_holding, region_bytes}
use Rattle.job_run.proofs.Copying.{get-set, set-again, set-count}
use Rattle.job_run.proofs.Marking.{first-kept, second-piece}
use Rattle.job_run.proofs.own.marked.Goals as goal

pub index-requires : goal.index-requires
index-requires c =
    let ps : List Piece = c.args.pieces.now.items in
    let second = second-piece ps c.requires.two in
    let left = c.take_bytes-into.ensures.left second.0 second.1 in
    let count = set-count ps c.take_bytes-into.new.pieces.items 1 (piece_holding [] second.0) left in
    let some : 0 < length c.take_bytes-into.new.pieces.items = omega (arith, count, c.requires.two) in
    search rules

pub slice_bounds-mark-end : goal.slice_bounds-mark-end
slice_bounds-mark-end c =
    let ps : List Piece = c.args.pieces.now.items in
    let second = second-piece ps c.requires.two in
    let left = c.take_bytes-into.ensures.left second.0 second.1 in
    let item : get_or c.take_bytes-into.new.pieces.items 0 c.index.result.now ≡ c.index.result.now = search rules in
    let shown : c.as_slice.result.now ≡ c.index.result.now.bytes.items = search rules in
    let first : c.as_slice.result.now ≡ window_at (piece_bytes ps) 0 = shown ∙ first-kept ps c.take_bytes-into.new.pieces.items (piece_holding [] second.0) c.index.result.now left c.requires.two item in
    sym (length-take-le c.args.cost c.as_slice.result.now (omega (arith, c.requires.first, ap (λ (xs : List ℕ). length xs) first)))

pub mark-number-requires : goal.mark-number-requires
mark-number-requires c =
    let ps : List Piece = c.args.pieces.now.items in
    let second = second-piece ps c.requires.two in
    let left = c.take_bytes-into.ensures.left second.0 second.1 in
    let bytes = c.take_bytes-into.ensures.bytes second.0 second.1 in
    let item : get_or c.take_bytes-into.new.pieces.items 0 c.index.result.now ≡ c.index.result.now = search rules in
    let shown : c.as_slice.result.now ≡ c.index.result.now.bytes.items = search rules in
    let first : c.as_slice.result.now ≡ window_at (piece_bytes ps) 0 = shown ∙ first-kept ps c.take_bytes-into.new.pieces.items (piece_holding [] second.0) c.index.result.now left c.requires.two item in
    let size = length-take-le c.args.cost c.as_slice.result.now (omega (arith, c.requires.first, ap (λ (xs : List ℕ). length xs) first)) in
    omega (arith, size, c.requires.second, ap (λ (xs : List ℕ). length xs) bytes, ap (λ (xs : List ℕ). length xs) second.2)

pub put_bytes-requires : goal.put_bytes-requires
put_bytes-requires c =
    let ps : List Piece = c.args.pieces.now.items in
    let second = second-piece ps c.requires.two in
    let left = c.take_bytes-into.ensures.left second.0 second.1 in
    let count = set-count ps c.take_bytes-into.new.pieces.items 1 (piece_holding [] second.0) left in
    omega (arith, count, c.requires.two)

pub returns-clause-number : goal.returns-clause-number
returns-clause-number c =
    let ps : List Piece = c.args.pieces.now.items in
    let second = second-piece ps c.requires.two in
    let left = c.take_bytes-into.ensures.left second.0 second.1 in
    let item : get_or c.take_bytes-into.new.pieces.items 0 c.index.result.now ≡ c.index.result.now = search rules in
    let shown : c.as_slice.result.now ≡ c.index.result.now.bytes.items = search rules in
    let first : c.as_slice.result.now ≡ window_at (piece_bytes ps) 0 = shown ∙ first-kept ps c.take_bytes-into.new.pieces.items (piece_holding [] second.0) c.index.result.now left c.requires.two item in
    c.mark-number.ensures.number ∙ ap (λ (xs : List ℕ). sum (marks_of c.args.low c.args.high (take c.args.cost xs))) first

pub returns-clause-marks : goal.returns-clause-marks
returns-clause-marks c piece at =
    let ps : List Piece = c.args.pieces.now.items in
    let left = c.take_bytes-into.ensures.left piece at in
    let bytes = c.take_bytes-into.ensures.bytes piece at in
    let item : get_or c.take_bytes-into.new.pieces.items 0 c.index.result.now ≡ c.index.result.now = search rules in
    let shown : c.as_slice.result.now ≡ c.index.result.now.bytes.items = search rules in
    let first : c.as_slice.result.now ≡ window_at (piece_bytes ps) 0 = shown ∙ first-kept ps c.take_bytes-into.new.pieces.items (piece_holding [] piece) c.index.result.now left c.requires.two item in
    let there : slice_get (region_bytes c.take_bytes-into.new.pieces.items) 1 ≡ Some (piece_holding [] piece) =
    ap (λ (xs : List RegionBytes). slice_get xs 1) left ∙ get-set (region_bytes ps) 1 piece (piece_holding [] piece) at in
    let made : c.mark-number.new.into.items ≡ patched piece.bytes 0 (marks_of c.args.low c.args.high (take c.args.cost (window_at (piece_bytes ps) 0))) =
    c.mark-number.ensures.marks ∙ (λ i. patched (bytes i) 0 (marks_of c.args.low c.args.high (take c.args.cost (first i)))) in
    c.put_bytes.ensures (piece_holding [] piece) there
    ∙ (ap (λ (xs : List RegionBytes). set xs 1 (piece_holding c.mark-number.new.into.items piece)) left
    ∙ (set-again (region_bytes ps) 1 (piece_holding [] piece) (piece_holding c.mark-number.new.into.items piece)
    ∙ ap (λ (xs : List ℕ). set (region_bytes ps) 1 (piece_holding xs piece)) made))
