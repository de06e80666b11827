use Rattle.std.proofs.Common.{rules, ◌≡◌, ◌∙◌, ◌<◌, ◌+◌, ℕ, true, false, List, drop, take, get_or, length, ap, sym, subst, arith}
use Rattle.std.specs.List.{AllByRecursion}
use Rattle.cp_base.specs.Region.{Region}
use Rattle.cp_base.specs.Sharing.{any_overlap, meets_any}
use Rattle.cp_base.specs.declared.replies.Piece.{Piece}
use Rattle.device_core.specs.Portions.{AreFilled, AreTaken, CanBeTaken, written_ranges}
use Rattle.device_core.specs.declared.portions.Portion.{Portion}
use Rattle.device_core.proofs.Fetched.{earlier-next, either-false, fewer-next, filled-length, filled-next, filled-take, kept-next, more-taken, ready-later, taken-back, written-at}
use Rattle.device_core.proofs.fetching.+take_written.Goals as goal

pub returns-then-not-portion-clause-filled : goal.returns-then-not-portion-clause-filled
returns-then-not-portion-clause-filled t c =
    let xs : List Portion = c.args.portions.now in
    let i : ℕ = c.args.index in
    let x : Portion = c.index-portions-index.result in
    let below : i < length xs = search rules in
    let item : get_or xs i x ≡ x = search rules in
    let read : x.written ≡ false = search rules in
    kept-next c.take_written.result c.args.store.now xs c.args.pieces.now.items c.take_written.new.pieces.items i x below c.requires.pieces c.take_written.ensures.length
    item read c.take_written.ensures.filled c.take_written.ensures.earlier

pub returns-then-not-portion-clause-earlier : goal.returns-then-not-portion-clause-earlier
returns-then-not-portion-clause-earlier t c =
    earlier-next c.take_written.result c.args.pieces.now.items c.take_written.new.pieces.items c.args.index c.take_written.ensures.earlier

pub take_written-requires-2 : goal.take_written-requires-2
take_written-requires-2 t c =
    let xs : List Portion = c.args.portions.now in
    let i : ℕ = c.args.index in
    let x : Portion = c.index-portions-index.result in
    let rest : List Region = written_ranges (drop (i + 1) xs) in
    let below : i < length xs = search rules in
    let item : get_or xs i x ≡ x = search rules in
    let written : x.written ≡ true = search rules in
    let here = written-at xs i x below item written in
    let clear = either-false (meets_any rest x.range) (any_overlap rest) (subst (λ (rs : List Region). any_overlap rs ≡ false) here c.requires.apart) in
    let can = subst (λ (rs : List Region). AllByRecursion (CanBeTaken c.args.store.now) rs) here c.requires.ready in
    let ready : AllByRecursion (CanBeTaken c.take.new.self) rest =
    ready-later c.args.store.now c.take.new.self x.range rest c.in_ok-bytes.ensures.taken can.0.some clear.0 can.1 in
    (search (rules, arith), (omega arith, (c.requires.pieces, (ready, clear.1))))

pub returns-in-Err-clause-unchanged : goal.returns-in-Err-clause-unchanged
returns-in-Err-clause-unchanged t c =
    let xs : List Portion = c.args.portions.now in
    let i : ℕ = c.args.index in
    let x : Portion = c.index-portions-index.result in
    let below : i < length xs = search rules in
    let item : get_or xs i x ≡ x = search rules in
    let written : x.written ≡ true = search rules in
    let here = written-at xs i x below item written in
    let can = subst (λ (rs : List Region). AllByRecursion (CanBeTaken c.args.store.now) rs) here c.requires.ready in
    taken-back c.args.store.now c.take.new.self c.take_written-2.new.store c.put.new.self x.range c.in_ok-bytes.bytes.items can.0 c.in_ok-bytes.ensures.bytes
    c.in_ok-bytes.ensures.taken c.in-Err.ensures.unchanged c.put.ensures

pub returns-clause-taken : goal.returns-clause-taken
returns-clause-taken t c =
    let xs : List Portion = c.args.portions.now in
    let i : ℕ = c.args.index in
    let x : Portion = c.index-portions-index.result in
    let below : i < length xs = search rules in
    let item : get_or xs i x ≡ x = search rules in
    let written : x.written ≡ true = search rules in
    subst (λ (rs : List Region). AreTaken c.args.store.now c.take_written-2.new.store rs) (sym (written-at xs i x below item written))
    (more-taken c.args.store.now c.take.new.self c.take_written-2.new.store x.range (written_ranges (drop (i + 1) xs)) c.in_ok-bytes.ensures.taken c.in_default.ensures.taken)

pub returns-clause-filled : goal.returns-clause-filled
returns-clause-filled t c =
    let xs : List Portion = c.args.portions.now in
    let i : ℕ = c.args.index in
    let x : Portion = c.index-portions-index.result in
    let ps : List Piece = c.args.pieces.now.items in
    let qs : List Piece = c.take_written-2.new.pieces.items in
    let rest : List Region = written_ranges (drop (i + 1) xs) in
    let below : i < length xs = search rules in
    let item : get_or xs i x ≡ x = search rules in
    let written : x.written ≡ true = search rules in
    let here = written-at xs i x below item written in
    let clear = either-false (meets_any rest x.range) (any_overlap rest) (subst (λ (rs : List Region). any_overlap rs ≡ false) here c.requires.apart) in
    subst (λ (made : List Piece). AreFilled c.args.store.now (drop i xs) (drop i ps) (drop i made)) (sym c.fill.ensures)
    (filled-next c.args.store.now c.take.new.self xs ps qs i x c.in_ok-bytes.bytes below c.requires.pieces c.in_default.ensures.length item written
    c.in_ok-bytes.ensures.taken clear.0 c.in_default.ensures.filled c.in_default.ensures.earlier c.in_ok-bytes.ensures.bytes)

pub returns-clause-earlier : goal.returns-clause-earlier
returns-clause-earlier t c =
    ap (λ (made : List Piece). take c.args.index made) c.fill.ensures
    ∙ (filled-take c.take_written-2.new.pieces.items c.args.index c.in_ok-bytes.bytes
    ∙ fewer-next c.args.pieces.now.items c.take_written-2.new.pieces.items c.args.index c.in_default.ensures.earlier)

pub returns-clause-length : goal.returns-clause-length
returns-clause-length t c =
    ap (λ (made : List Piece). length made) c.fill.ensures
    ∙ (filled-length c.take_written-2.new.pieces.items c.args.index c.in_ok-bytes.bytes ∙ c.in_default.ensures.length)
