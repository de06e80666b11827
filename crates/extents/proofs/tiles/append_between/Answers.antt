-- Each turn appends what the extent around the place has of the range.
use Rattle.std.proofs.Common.{◌≡◌, ℕ, ◌+◌, ◌-◌, ◌≤◌, ◌++◌, List, take, drop, length, ap, ◌∙◌, arith}
use Rattle.std.proofs.lemmas.Option.{MatchOption-at_some}
use Rattle.std.proofs.lemmas.List.{length-drop, length-take-le}
use Rattle.extents.specs.Tiles.{LiesAround, all_shown}
use Rattle.extents.specs.declared.tiles.Extent.TheVariants.{Home}
use Rattle.extents.proofs.Pieces.{piece_more, piece_of}
use Rattle.extents.proofs.Tiling.{stands, stands_fits}
use Rattle.extents.proofs.tiles.append_between.Goals as goal

around : (c : goal.After-len) → LiesAround c.args.tiles.now.entries c.unwrap-start.result.0 (Home c.unwrap-start.result.1.now) c.loop-at.at
around c = MatchOption-at_some _ _ _ c.unwrap-start.ensures c.home_around.ensures

pub overflow_add-start : goal.overflow_add-start
overflow_add-start c =
    let fits = stands_fits _ _ _ (stands 0 c.args.tiles.now.entries _ _ c.requires.tiles (around c).entry) in
    omega (arith, fits, c.len.ensures, c.requires.bounded)

pub loop-at-preserved : goal.loop-at-preserved
loop-at-preserved c =
    let here : LiesAround c.args.tiles.now.entries c.unwrap-start.result.0 (Home c.unwrap-start.result.1.now) c.loop-at.at = MatchOption-at_some _ _ _ c.unwrap-start.ensures c.home_around.ensures in
    let st = stands 0 c.args.tiles.now.entries _ _ c.requires.tiles here.entry in
    let low : c.loop-at.at ≤ c.min-end.result = omega (arith, c.len.ensures, c.min-end.ensures, here.high) in
    let high : c.min-end.result ≤ c.args.to = omega (arith, c.min-end.ensures) in
    let fits : c.loop-at.at + (c.min-end.result - c.loop-at.at) ≤ c.unwrap-start.result.0 + length c.unwrap-start.result.1.now.items = omega (arith, c.len.ensures, c.min-end.ensures, low) in
    let n : c.min-end.result - c.unwrap-start.result.0 - (c.loop-at.at - c.unwrap-start.result.0) ≡ c.min-end.result - c.loop-at.at = omega (arith, here.low, low) in
    let part = piece_of c.args.tiles.now.entries c.unwrap-start.result.0 c.unwrap-start.result.1.now c.loop-at.at (c.min-end.result - c.loop-at.at) st here.low fits in
    let same : take (c.min-end.result - c.unwrap-start.result.0 - (c.loop-at.at - c.unwrap-start.result.0)) (drop (c.loop-at.at - c.unwrap-start.result.0) c.as_slice.result.now)
    ≡ take (c.min-end.result - c.loop-at.at) (drop (c.loop-at.at - c.unwrap-start.result.0) c.unwrap-start.result.1.now.items) =
    ap (λ (k : ℕ). take k (drop (c.loop-at.at - c.unwrap-start.result.0) c.as_slice.result.now)) n ∙ ap (λ (xs : List ℕ). take (c.min-end.result - c.loop-at.at) (drop (c.loop-at.at - c.unwrap-start.result.0) xs)) c.as_slice.ensures in
    let size : length (take (c.min-end.result - c.loop-at.at) (drop (c.loop-at.at - c.unwrap-start.result.0) c.unwrap-start.result.1.now.items)) ≡ c.min-end.result - c.loop-at.at =
    length-take-le (c.min-end.result - c.loop-at.at) (drop (c.loop-at.at - c.unwrap-start.result.0) c.unwrap-start.result.1.now.items) (omega (arith, fits, here.low, length-drop (c.loop-at.at - c.unwrap-start.result.0) c.unwrap-start.result.1.now.items)) in
    record {
      low = omega (arith, low);
      high = high;
      bytes = piece_more (all_shown c.args.tiles.now.entries) c.args.out.now.items c.loop-at.out.items c.append.new.self.items
          (take (c.min-end.result - c.loop-at.at) (drop (c.loop-at.at - c.unwrap-start.result.0) c.unwrap-start.result.1.now.items))
          c.args.from c.loop-at.at c.min-end.result c.loop-at.invariant.low low c.loop-at.invariant.bytes (c.append.ensures.items ∙ ap (λ (xs : List ℕ). c.loop-at.out.items ++ xs) same) part;
      spare = omega (arith, c.append.ensures.spare, ap length same, size, c.loop-at.invariant.spare, low);
    }
