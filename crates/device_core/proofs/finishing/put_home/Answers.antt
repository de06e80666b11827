-- The pieces come home one after the other.
use Rattle.std.proofs.Common.{◌≡◌, ◌∙◌, List, [], ◌∷◌, true, false, ap, arith, length, refl, rules, subst, sym}
use Rattle.std.specs.Vec.Iter.{into_iter_items}
use Rattle.cp_base.specs.Region.{Region}
use Rattle.cp_base.specs.declared.replies.Piece.{Piece}
use Rattle.trail_model.specs.Pieces.{any_has_byte}
use Rattle.device_core.specs.Homecoming.{homebound}
use Rattle.device_core.proofs.Finished.{Homing, begin-home, end-home, out-now, stayed, went}
use Rattle.device_core.proofs.finishing.put_home.Goals as goal

pub loop-piece-init : goal.loop-piece-init
loop-piece-init c =
    let all = homebound c.args.writes.now c.args.pieces.items in
    let gives = c.into_iter-piece-iterator.ensures.into_iter_gives in
    let items = ap length gives.0 in
    let len = gives.1 in (
      subst (λ (xs : List Piece). Homing c.args.store.now c.args.store.now all (homebound c.args.writes.now xs)) (sym gives.0) (begin-home c.args.store.now all c.requires),
      search (rules, items, len),
    )

pub put-requires-clause-out : goal.put-requires-clause-out
put-requires-clause-out c =
    let all = homebound c.args.writes.now c.args.pieces.items in
    let now = subst (λ (xs : List Piece). Homing c.args.store.now c.loop-piece.store all (homebound c.args.writes.now xs)) c.in-Some.ensures.steps.0 c.loop-piece.invariant.0 in
    let test : any_has_byte c.args.writes.now c.in-Some.piece.range.space c.in-Some.piece.range.start ≡ true =
    sym (ap (λ (ws : List Region). any_has_byte ws c.in-Some.piece.range.space c.in-Some.piece.range.start) c.as_slice.ensures) ∙ (sym c.begins_in.ensures ∙ c.if-begins_in.true) in
    (out-now c.args.store.now c.loop-piece.store c.args.writes.now all c.in-Some.piece (into_iter_items c.next.new.self) now test).out

pub put-requires-clause-length : goal.put-requires-clause-length
put-requires-clause-length c =
    let all = homebound c.args.writes.now c.args.pieces.items in
    let now = subst (λ (xs : List Piece). Homing c.args.store.now c.loop-piece.store all (homebound c.args.writes.now xs)) c.in-Some.ensures.steps.0 c.loop-piece.invariant.0 in
    let test : any_has_byte c.args.writes.now c.in-Some.piece.range.space c.in-Some.piece.range.start ≡ true =
    sym (ap (λ (ws : List Region). any_has_byte ws c.in-Some.piece.range.space c.in-Some.piece.range.start) c.as_slice.ensures) ∙ (sym c.begins_in.ensures ∙ c.if-begins_in.true) in
    (out-now c.args.store.now c.loop-piece.store c.args.writes.now all c.in-Some.piece (into_iter_items c.next.new.self) now test).whole

pub loop-piece-preserved-then-begins_in : goal.loop-piece-preserved-then-begins_in
loop-piece-preserved-then-begins_in c =
    let all = homebound c.args.writes.now c.args.pieces.items in
    let now = subst (λ (xs : List Piece). Homing c.args.store.now c.loop-piece.store all (homebound c.args.writes.now xs)) c.in-Some.ensures.steps.0 c.loop-piece.invariant.0 in
    let test : any_has_byte c.args.writes.now c.in-Some.piece.range.space c.in-Some.piece.range.start ≡ true =
    sym (ap (λ (ws : List Region). any_has_byte ws c.in-Some.piece.range.space c.in-Some.piece.range.start) c.as_slice.ensures) ∙ (sym c.begins_in.ensures ∙ c.if-begins_in.true) in
    let gone = c.in-Some.ensures.steps.1 in
    let short = ap length c.in-Some.ensures.steps.0 in
    let was = c.loop-piece.invariant.1 in
    (went c.args.store.now c.loop-piece.store c.put.new.self c.args.writes.now all c.in-Some.piece (into_iter_items c.next.new.self) now test c.put.ensures, omega arith)

pub loop-piece-preserved : goal.loop-piece-preserved
loop-piece-preserved c =
    let all = homebound c.args.writes.now c.args.pieces.items in
    let now = subst (λ (xs : List Piece). Homing c.args.store.now c.loop-piece.store all (homebound c.args.writes.now xs)) c.in-Some.ensures.steps.0 c.loop-piece.invariant.0 in
    let test : any_has_byte c.args.writes.now c.in-Some.piece.range.space c.in-Some.piece.range.start ≡ false =
    sym (ap (λ (ws : List Region). any_has_byte ws c.in-Some.piece.range.space c.in-Some.piece.range.start) c.as_slice.ensures) ∙ (sym c.begins_in.ensures ∙ c.if-begins_in.false) in
    let gone = c.in-Some.ensures.steps.1 in
    let short = ap length c.in-Some.ensures.steps.0 in
    let was = c.loop-piece.invariant.1 in
    (stayed c.args.store.now c.loop-piece.store c.args.writes.now all c.in-Some.piece (into_iter_items c.next.new.self) now test, omega arith)

nothing-left : (xs : List Piece) → length xs ≡ 0 → xs ≡ []
nothing-left [] e = refl
nothing-left (x ∷ xs) e = absurd (omega arith)

pub returns : goal.returns
returns c =
    let all = homebound c.args.writes.now c.args.pieces.items in
    let none : into_iter_items c.loop-piece.piece-iterator ≡ [] =
    nothing-left (into_iter_items c.loop-piece.piece-iterator) (sym c.loop-piece.invariant.1 ∙ c.in-None.ensures.steps.0) in
    end-home c.args.store.now c.loop-piece.store all
    (subst (λ (xs : List Piece). Homing c.args.store.now c.loop-piece.store all (homebound c.args.writes.now xs)) none c.loop-piece.invariant.0)
