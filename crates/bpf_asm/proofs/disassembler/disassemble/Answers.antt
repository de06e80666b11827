use Rattle.std.proofs.Common.{◌≡◌, ℕ, ◌-◌, ◌/◌, ◌++◌, pos, List, length, Option, ap, ◌∙◌, arith, to_z, w64}
use Rattle.std.specs.Prelude.{option_copied}
use Rattle.std.specs.List.{flat_map, range_with_len}
use Rattle.std.proofs.lemmas.Int.{ints}
use Rattle.bpf_isa.specs.declared.insn.Insn.{Insn}
use Rattle.bpf_model.specs.Walk.{instruction_at}
use Rattle.bpf_decode.specs.Slots.{insn_at}
use Rattle.bpf_asm.specs.Text.{line_at, text_of_code}
use Rattle.bpf_asm.proofs.CodeLaws.{no_more, one_place}
use Rattle.bpf_asm.proofs.disassembler.disassemble.Goals as goal

pub loop-place-init : goal.loop-place-init
loop-place-init c =
    let code : List ℕ = c.args.code.now.items in
    let units : c.units-place-end.result - 0 ≡ length code / 8 = omega (arith, c.in_ok-decoded.ensures.units, c.units-place-end.ensures) in
    ap (λ (t : List ℕ). t ++ flat_map (λ place. line_at (instruction_at code place)) (range_with_len 0 (c.units-place-end.result - 0))) c.new-text.ensures.items
    ∙ ap (λ (n : ℕ). flat_map (λ place. line_at (instruction_at code place)) (range_with_len 0 n)) units

pub loop-place-preserved : goal.loop-place-preserved
loop-place-preserved c =
    let code : List ℕ = c.args.code.now.items in
    let place : ℕ = c.loop-place.place in
    let new : c.push_line_at.new.text.items ≡ c.loop-place.text.items ++ line_at (instruction_at code place) =
    let cast : to_z w64 place ≡ pos place = omega (arith, ints) in
    let here : option_copied c.at.result ≡ instruction_at code place = c.at.ensures.instruction ∙ ap (insn_at c.in_ok-decoded.decoded) cast ∙ c.in_ok-decoded.ensures.instructions place in
    c.in_ok-push_line_at.ensures.ok ∙ ap (λ (o : Option Insn). c.loop-place.text.items ++ line_at o) here
    in
    one_place (λ p. line_at (instruction_at code p)) c.units-place-end.result place c.loop-place.text.items c.push_line_at.new.text.items (text_of_code code)
    (omega arith) new c.loop-place.invariant

pub returns-clause-text : goal.returns-clause-text
returns-clause-text c =
    let code : List ℕ = c.args.code.now.items in
    no_more (λ place. line_at (instruction_at code place)) c.units-place-end.result c.loop-place.place c.loop-place.text.items (text_of_code code) (omega arith) c.loop-place.invariant
