use Rattle.std.proofs.Common.{◌≡◌, ◌++◌, List, ℕ, length, refl, ap, ◌∙◌, arith}
use Rattle.cp_base.specs.declared.replies.Piece.{Piece}
use Rattle.job_run.specs.Works.{region_bytes}
use Rattle.job_run.proofs.Working.{answer_with, leaves-so, single}
use Rattle.job_run.proofs.work.read.Goals as goal

pub append-requires : goal.append-requires
append-requires c =
    let p = single c.args.pieces.items c.requires.one in
    let bytes = c.only.ensures p.0 (ap (λ (ps : List Piece). region_bytes ps) c.deref.ensures.value ∙ p.1) in
    let room = c.requires.room p.0 p.1 in
    omega (arith, room, ap (λ (xs : List ℕ). length xs) bytes)

pub returns : goal.returns
returns c piece e =
    let shown = c.only.ensures piece (ap (λ (ps : List Piece). region_bytes ps) c.deref.ensures.value ∙ e) in
    let bytes : c.append.new.self.items ≡ piece.bytes = c.append.ensures.items ∙ (ap (λ (xs : List ℕ). xs ++ c.only.result.now) c.requires.empty ∙ shown) in
    leaves-so c.leave.result (answer_with c.append.new.self.items) (answer_with piece.bytes) (region_bytes c.args.pieces.items) (region_bytes c.args.pieces.items)
    c.leave.ensures (ap answer_with bytes) refl
