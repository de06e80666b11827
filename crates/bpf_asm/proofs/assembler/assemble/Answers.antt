use Rattle.std.proofs.Common.{◌≡◌, ℕ, ◌<◌, List, [], length, slice_index, sym, ap, subst, ◌∙◌, arith, rules}
use Rattle.std.proofs.lemmas.Result.{err_from_is_err_and}
use Rattle.std.specs.Prelude.{Err}
use Rattle.bpf_asm.specs.declared.assembler.AsmEnd.{AsmEnd}
use Rattle.bpf_asm.specs.Assembly.{IsAssembledTo}
use Rattle.bpf_asm.specs.Text.{IsFaultyAt}
use Rattle.bpf_asm.proofs.TextLaws.{all_assembled, empty_list, fault_is, fault_unended, handed_on, nothing_assembled, one_line, same_small}
use Rattle.bpf_asm.proofs.assembler.assemble.Goals as goal
use Rattle.bpf_asm.proofs.assembler.assemble.Goals.{then-not-is_empty-via-then-not-is_empty, then-not-is_empty-via-else-not-is_empty+then-is_empty}

pub lines-init : goal.lines-init
lines-init c =
    let s = nothing_assembled c.args.text.now.items c.new-code.result.items c.new-code.ensures.items in
    subst (λ (rest : List ℕ). IsAssembledTo c.args.text.now.items rest c.new-code.result.items 1) (sym c.as_slice-rest.ensures) s

pub returns-in_err-add_line-clause-fault : goal.returns-in_err-add_line-clause-fault
returns-in_err-add_line-clause-fault c =
    let p = err_from_is_err_and c.from_residual.result c.from_residual.ensures.1 in
    handed_on c.args.text.now.items c.lines.rest.now c.in-Some.after.now c.in-Some.first.now c.lines.code.items c.lines.line c.lines.invariant
    c.in-Some.ensures.whole c.in-Some.ensures.first c.in_err-add_line.field-0.0 c.add_line.result c.in_err-add_line.was c.add_line.ensures.fault
    c.from_residual.result (p.1 ∙ ap (λ (x : AsmEnd). Err x) p.2)

pub lines-preserved : goal.lines-preserved
lines-preserved c =
    one_line c.args.text.now.items c.lines.rest.now c.in-Some.after.now c.in-Some.first.now c.lines.code.items c.add_line.new.code.items c.lines.line
    c.lines.invariant c.in-Some.ensures.whole c.in_ok-add_line.ensures.added

pub returns-then-not-is_empty-clause-fault : goal.returns-then-not-is_empty-clause-fault
returns-then-not-is_empty-clause-fault c line e =
    let nothing : c.lines.rest.now ≡ [] → c.lines.code.items ≡ [] = elim c.then-not-is_empty.branch [
      | then-not-is_empty-via-then-not-is_empty w ↦ λ e. let len : length c.lines.rest.now ≡ 0 = ap length e in absurd (grind (arith, len, w.if-not-is_empty.ensures))
      | then-not-is_empty-via-else-not-is_empty+then-is_empty w ↦ λ e. sym c.as_slice-bytes.ensures ∙ empty_list c.as_slice-bytes.result.now (grind (arith, w.if-is_empty.ensures))
    ] in
    let f = fault_unended c.args.text.now.items c.lines.rest.now c.lines.code.items c.lines.line c.lines.invariant c.in_default.ensures.whole nothing in
    subst (λ (n : ℕ). IsFaultyAt c.args.text.now.items n) (fault_is c.lines.line line (cc)) f

pub returns-clause-bytes : goal.returns-clause-bytes
returns-clause-bytes c =
    let small : (k : ℕ) → slice_index c.lines.code.items k < 256 =
    same_small c.as_slice-bytes.result.now c.lines.code.items c.as_slice-bytes.ensures (λ k. search rules) in
    let none : c.lines.rest.now ≡ [] = empty_list c.lines.rest.now (grind (arith, c.if-not-is_empty.ensures)) in
    let some : c.lines.code.items ≡ [] → ⊥ = λ e. let len : length c.as_slice-bytes.result.now ≡ 0 = ap length (c.as_slice-bytes.ensures ∙ e) in absurd (grind (arith, len, c.if-is_empty.ensures)) in
    (all_assembled c.args.text.now.items c.lines.rest.now c.lines.code.items c.lines.line small c.lines.invariant none some).bytes

pub returns-clause-well_formed : goal.returns-clause-well_formed
returns-clause-well_formed c =
    let small : (k : ℕ) → slice_index c.lines.code.items k < 256 =
    same_small c.as_slice-bytes.result.now c.lines.code.items c.as_slice-bytes.ensures (λ k. search rules) in
    let none : c.lines.rest.now ≡ [] = empty_list c.lines.rest.now (grind (arith, c.if-not-is_empty.ensures)) in
    let some : c.lines.code.items ≡ [] → ⊥ = λ e. let len : length c.as_slice-bytes.result.now ≡ 0 = ap length (c.as_slice-bytes.ensures ∙ e) in absurd (grind (arith, len, c.if-is_empty.ensures)) in
    (all_assembled c.args.text.now.items c.lines.rest.now c.lines.code.items c.lines.line small c.lines.invariant none some).well_formed

pub returns-clause-text : goal.returns-clause-text
returns-clause-text c =
    let small : (k : ℕ) → slice_index c.lines.code.items k < 256 =
    same_small c.as_slice-bytes.result.now c.lines.code.items c.as_slice-bytes.ensures (λ k. search rules) in
    let none : c.lines.rest.now ≡ [] = empty_list c.lines.rest.now (grind (arith, c.if-not-is_empty.ensures)) in
    let some : c.lines.code.items ≡ [] → ⊥ = λ e. let len : length c.as_slice-bytes.result.now ≡ 0 = ap length (c.as_slice-bytes.ensures ∙ e) in absurd (grind (arith, len, c.if-is_empty.ensures)) in
    (all_assembled c.args.text.now.items c.lines.rest.now c.lines.code.items c.lines.line small c.lines.invariant none some).same_text

pub returns-clause-no_fault : goal.returns-clause-no_fault
returns-clause-no_fault c =
    let small : (k : ℕ) → slice_index c.lines.code.items k < 256 =
    same_small c.as_slice-bytes.result.now c.lines.code.items c.as_slice-bytes.ensures (λ k. search rules) in
    let none : c.lines.rest.now ≡ [] = empty_list c.lines.rest.now (grind (arith, c.if-not-is_empty.ensures)) in
    let some : c.lines.code.items ≡ [] → ⊥ = λ e. let len : length c.as_slice-bytes.result.now ≡ 0 = ap length (c.as_slice-bytes.ensures ∙ e) in absurd (grind (arith, len, c.if-is_empty.ensures)) in
    (all_assembled c.args.text.now.items c.lines.rest.now c.lines.code.items c.lines.line small c.lines.invariant none some).no_fault
