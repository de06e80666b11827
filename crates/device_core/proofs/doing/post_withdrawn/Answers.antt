-- What an Abort withdraws is posted.
use Rattle.std.proofs.Common.{◌∙◌, ◌+◌, ℕ, IfSome, IsSomeAnd, Option, ap, option_map, subst, sym}
use Rattle.core_model.specs.Asked.{Asked, asked_at}
use Rattle.core_model.specs.Moves.{PostMoves, WithdrawMoves}
use Rattle.core_model.specs.Parts.{tables_in}
use Rattle.device_core.specs.Keep.{CanPost, parts_of}
use Rattle.device_core.specs.Reading.{as_asked}
use Rattle.device_core.specs.Recorded.{trail_of}
use Rattle.device_core.specs.declared.asked.Wanted.{Wanted}
use Rattle.device_core.proofs.doing.post_withdrawn.Goals as goal

pub returns-in-Some-clause-moves : goal.returns-in-Some-clause-moves
returns-in-Some-clause-moves c =
    let place = c.in-Some.place in
    let old = parts_of (c.args.posted + 1) c.args.keep.now in
    let new = parts_of (c.args.posted + 1) c.post.new.self in
    let read = sym c.asked_in.ensures ∙ ap (λ (o : Option Wanted). option_map as_asked o) c.unwrap-asked.ensures in
    let here : IsSomeAnd (asked_at (trail_of c.args.trail.now) place) (λ (a : Asked). CanPost c.args.keep.now a place) =
    subst (λ (o : Option ℕ). IfSome o (λ (k : ℕ). IsSomeAnd (asked_at (trail_of c.args.trail.now) k) (λ (a : Asked). CanPost c.args.keep.now a k))) c.in-Some.is c.requires in
    let can : CanPost c.args.keep.now (as_asked c.unwrap-asked.result) place =
    subst (λ (o : Option Asked). IsSomeAnd o (λ (a : Asked). CanPost c.args.keep.now a place)) read here in
    subst (λ (o : Option ℕ). WithdrawMoves (trail_of c.args.trail.now) old new c.args.posted o) (sym c.in-Some.is)
    (subst (λ (o : Option Asked). IsSomeAnd o (λ (a : Asked). PostMoves old new a.host place c.args.posted (tables_in old))) (sym read)
    (c.post.ensures.moves (c.args.posted + 1) can.apart))
