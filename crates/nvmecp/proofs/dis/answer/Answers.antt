use Rattle.std.proofs.Common.{◌≡◌, ℕ, ◌<◌, ◌≤◌, List, Some, Err, codes, length, option_map, refl, sym, ap, subst, ◌∙◌, arith}
use Rattle.cp_base.specs.Buffer.{Buffer}
use Rattle.cp_base.specs.declared.limits.TheConstants.{MAX_PROGRAM}
use Rattle.nvmecp.specs.Code.{code_in}
use Rattle.nvmecp.specs.Dis.{BadCode, IsDisassembly, TellsCode, TooMuch}
use Rattle.nvmecp.specs.Refusal.{place_line, refusal_line}
use Rattle.bpf_asm.specs.Text.{IsCodeOf}
use Rattle.nvmecp.proofs.Endings.{answered, refused}
use Rattle.nvmecp.proofs.HexCode.{code_bytes}
use Rattle.nvmecp.proofs.dis.answer.Goals as goal

pub returns-then-len-gt-MAX_PROGRAM-clause-ends : goal.returns-then-len-gt-MAX_PROGRAM-clause-ends
returns-then-len-gt-MAX_PROGRAM-clause-ends g c =
    let input = c.args.input.now.items in
    let code : List ℕ = c.in-Ok-Some.code.items in
    let read : code_in input ≡ Some code = ap code_in (sym c.as_slice.ensures) ∙ sym c.in-Ok-Some.ensures ∙ ap (option_map (λ (b : Buffer). b.items)) c.in-Ok-Some.field-0-is in
    let long : MAX_PROGRAM < length code = omega (arith, c.if-len-gt-MAX_PROGRAM.true, c.len.ensures) in
    refused (IsDisassembly input) (TellsCode input) (refusal_line 1 (codes "Limit")) g.K.Sink.held g.K.Sink.faults c.args.sink.now
    c.refuse_line-then-len-gt-MAX_PROGRAM.new.sink c.refuse_line-then-len-gt-MAX_PROGRAM.result (TooMuch code read long refl) c.refuse_line-then-len-gt-MAX_PROGRAM.ensures

pub returns-in-Err-BadInsn-clause-ends : goal.returns-in-Err-BadInsn-clause-ends
returns-in-Err-BadInsn-clause-ends g c =
    let input = c.args.input.now.items in
    let code : List ℕ = c.in-Ok-Some.code.items in
    let read : code_in input ≡ Some code = ap code_in (sym c.as_slice.ensures) ∙ sym c.in-Ok-Some.ensures ∙ ap (option_map (λ (b : Buffer). b.items)) c.in-Ok-Some.field-0-is in
    let short : length code ≤ MAX_PROGRAM = omega (arith, c.if-len-gt-MAX_PROGRAM.false, c.len.ensures) in
    let bad = c.disassemble.ensures.bad c.in-Err-BadInsn.place (c.in-Err-BadInsn.is ∙ ap Err c.in-Err-BadInsn.field-0-is) in
    refused (IsDisassembly input) (TellsCode input) (place_line c.in-Err-BadInsn.place) g.K.Sink.held g.K.Sink.faults c.args.sink.now c.refuse_place.new.sink c.refuse_place.result
    (BadCode code read short bad.0 (ap place_line bad.1)) c.refuse_place.ensures

pub returns-in-Ok-clause-ends : goal.returns-in-Ok-clause-ends
returns-in-Ok-clause-ends g c =
    let input = c.args.input.now.items in
    let code : List ℕ = c.in-Ok-Some.code.items in
    let text : List ℕ = c.as_slice-in-Ok.result.now in
    let read : code_in input ≡ Some code = ap code_in (sym c.as_slice.ensures) ∙ sym c.in-Ok-Some.ensures ∙ ap (option_map (λ (b : Buffer). b.items)) c.in-Ok-Some.field-0-is in
    let short : length code ≤ MAX_PROGRAM = omega (arith, c.if-len-gt-MAX_PROGRAM.false, c.len.ensures) in
    let is_code : IsCodeOf text code = record {
      program = record { bytes = code_bytes input code read; well_formed = c.in-Ok.ensures.well_formed; limit = short };
      spelled = sym c.in-Ok.ensures.text ∙ sym c.as_slice-in-Ok.ensures;
    } in
    answered (λ answer. answer ≡ text) (IsDisassembly input) (TellsCode input) g.K.Sink.held g.K.Sink.faults c.args.sink.now c.answer_lines.new.sink c.answer_lines.result
    (λ answer same. record { code = code; read = read; printed = subst (λ (t : List ℕ). IsCodeOf t code) (sym same) is_code }) c.answer_lines.ensures.ends

pub returns-in-Ok-clause-rejected : goal.returns-in-Ok-clause-rejected
returns-in-Ok-clause-rejected g c =
    let input = c.args.input.now.items in
    let code : List ℕ = c.in-Ok-Some.code.items in
    let read : code_in input ≡ Some code = ap code_in (sym c.as_slice.ensures) ∙ sym c.in-Ok-Some.ensures ∙ ap (option_map (λ (b : Buffer). b.items)) c.in-Ok-Some.field-0-is in
    let short : length code ≤ MAX_PROGRAM = omega (arith, c.if-len-gt-MAX_PROGRAM.false, c.len.ensures) in
    λ none done. none code read (record { bytes = code_bytes input code read; well_formed = c.in-Ok.ensures.well_formed; limit = short })
