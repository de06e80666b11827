use Rattle.std.proofs.Common.{◌≡◌, ℕ, ◌∙◌, ap, sym, arith, drop, List, Option, inl, inr}
use Rattle.std.specs.Prelude.{◌⊎◌, option_and_then}
use Rattle.bpf_model.specs.declared.fields.Fields.{Fields}
use Rattle.bpf_model.specs.Form.{unit_fields, class_of, row_insn, load_imm, insn_of}
use Rattle.bpf_decode.proofs.ByClass.{insn_of-jump, insn_of-load_imm}
use Rattle.bpf_decode.proofs.Filling.{rest_of}
use Rattle.bpf_decode.proofs.instructions.first_insn.Goals as goal

pub returns-then-class-eq6 : goal.returns-then-class-eq6
returns-then-class-eq6 c =
    let next : Option Fields = unit_fields (drop 8 c.args.bytes.now) in
    let either : (class_of c.in_ok-f.f ≡ 5) ⊎ (class_of c.in_ok-f.f ≡ 6) =
    elim c.if-class-eq6.either [ inl five ↦ inl (omega arith) | inr six ↦ inr (omega arith) ] in
    c.jump.ensures ∙ sym (insn_of-jump c.in_ok-f.f next either)
    ∙ ap (λ (o : Option Fields). option_and_then (λ g. insn_of g next) o) c.in_ok-f.ensures.fields

pub returns-then-class-eq0 : goal.returns-then-class-eq0
returns-then-class-eq0 c =
    let next : Option Fields = unit_fields (drop 8 c.args.bytes.now) in
    c.load_imm.ensures
    ∙ ap (λ (x : List ℕ). row_insn (load_imm c.in_ok-f.f (unit_fields x))) (rest_of c.args.bytes.now 8)
    ∙ sym (insn_of-load_imm c.in_ok-f.f next (omega arith))
    ∙ ap (λ (o : Option Fields). option_and_then (λ g. insn_of g next) o) c.in_ok-f.ensures.fields
