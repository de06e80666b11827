use Rattle.std.proofs.Common.{rules, ◌≡◌, ◌<◌, ◌+◌, ◌++◌, ◌∷◌, [], ℕ, List, get_or, length, take, ap, sym, subst}
use Rattle.std.proofs.lemmas.List.{take_more}
use Rattle.cp_base.specs.declared.replies.Piece.{Piece}
use Rattle.extents.specs.Homes.{IsAtHome}
use Rattle.device_core.specs.Portions.{AreCopied, IsCopied, IsReadIf}
use Rattle.device_core.specs.declared.portions.Portion.{Portion}
use Rattle.device_core.proofs.Fetched.{copied-more, range-each}
use Rattle.device_core.proofs.fetching.copy_read.Goals as goal

pub read_bytes-requires : goal.read_bytes-requires
read_bytes-requires c =
    let xs : List Portion = c.args.portions.now in
    let i : ℕ = c.loop-portion.portion-index in
    let x : Portion = c.portion-item.result in
    let below : i < length xs = search rules in
    let item : get_or xs i x ≡ x = search rules in
    subst (λ (y : Portion). IsAtHome c.args.store.now y.range) item (range-each (IsAtHome c.args.store.now) xs i x below c.requires)

pub loop-portion-preserved : goal.loop-portion-preserved
loop-portion-preserved c =
    let xs : List Portion = c.args.portions.now in
    let i : ℕ = c.loop-portion.portion-index in
    let x : Portion = c.portion-item.result in
    let home = c.args.store.now in
    let below : i < length xs = search rules in
    let item : get_or xs i x ≡ x = search rules in
    let pushed : c.push.new.self.items ≡ c.loop-portion.pieces.items ++ c.piece.result ∷ [] = search rules in
    let one : IsCopied home x c.piece.result = record {
      place = ap (λ (p : Piece). p.range) c.piece.ensures.piece;
      range = c.piece.ensures.range;
      read = subst (λ (p : Piece). IsReadIf x.written home x p) (sym c.piece.ensures.piece) c.in_ok-bytes.ensures;
    } in
    subst (λ (ps : List Piece). AreCopied home (take (i + 1) xs) ps) (sym pushed)
    (subst (λ (ys : List Portion). AreCopied home ys (c.loop-portion.pieces.items ++ c.piece.result ∷ [])) (sym (take_more xs i x below))
    (copied-more home (take i xs) c.loop-portion.pieces.items (get_or xs i x) c.piece.result c.loop-portion.invariant
    (subst (λ (y : Portion). IsCopied home y c.piece.result) (sym item) one)))
