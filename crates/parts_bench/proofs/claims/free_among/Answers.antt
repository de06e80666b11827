use Rattle.std.proofs.Common.{◌∙◌, ℕ, ◌+◌, ◌<◌, Bool, not, length, sym, ap}
use Rattle.std.specs.List.{list_any}
use Rattle.std.proofs.lemmas.List.Sums.{count_by_more_no, count_by_more_yes}
use Rattle.cp_base.specs.Touching.{meets}
use Rattle.cp_base.specs.declared.spans.Footprint.{Footprint}
use Rattle.range_claims.specs.declared.claims.Claim.{Claim}
use Rattle.parts_bench.proofs.claims.free_among.Goals.{then-free, else-free}
use Rattle.parts_bench.proofs.claims.free_among.Goals as goal

pub loop-footprint-preserved : goal.loop-footprint-preserved
loop-footprint-preserved c =
    let may : Footprint → Bool = λ (footprint : Footprint). not (list_any (λ (claim : Claim). meets footprint claim.footprint) c.args.claims.now.kept) in
    let i : ℕ = c.loop-footprint.footprint-index in
    let item : Footprint = c.footprint-item.result in
    let below : i < length c.args.asked.now = c.loop-footprint-test.true in
    elim c.if-free.branch [
      | then-free w ↦
          w.free-is ∙ (ap (λ (n : ℕ). n + 1) c.loop-footprint.invariant
          ∙ sym (count_by_more_yes may c.args.asked.now i item below (ap may (sym c.footprint-item.is) ∙ (sym c.free.ensures ∙ w.if-free.true))))
      | else-free w ↦
          w.free-is ∙ (c.loop-footprint.invariant
          ∙ sym (count_by_more_no may c.args.asked.now i item below (ap may (sym c.footprint-item.is) ∙ (sym c.free.ensures ∙ w.if-free.false))))
    ]
