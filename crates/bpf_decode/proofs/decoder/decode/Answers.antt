use Rattle.std.proofs.Common.{◌≡◌, ℕ, ◌*◌, ◌<◌, length, List, Some, sym, ap, ◌∙◌, arith, slice_index, w8, ◌≤◌}
use Rattle.std.proofs.Math.Facts.{Fits-lt-pow}
use Rattle.bpf_model.specs.Form.{first_form, form}
use Rattle.bpf_decode.proofs.Filling.{filled-start, filled-more, filled-allowed, rest_of}
use Rattle.bpf_decode.proofs.decoder.decode.Goals as goal

pub loop-bytes-init : goal.loop-bytes-init
loop-bytes-init c = rw c.in_ok-slots.ensures.items (filled-start c.as_slice-bytes.result.now)

pub loop-bytes-preserved : goal.loop-bytes-preserved
loop-bytes-preserved c =
    let code : List ℕ = c.as_slice-bytes.result.now in
    let place : c.len-place.result ≡ length c.loop-bytes.slots.items = omega (arith, c.loop-bytes.slots.ok.0) in
    let formed : form code (length c.loop-bytes.slots.items) ≡ Some c.in-Some.insn =
    sym (c.in-Some.ensures ∙ ap (λ (x : List ℕ). first_form x) (rest_of code (8 * c.len-place.result))
    ∙ ap (λ (p : ℕ). form code p) place) in
    let small : (k : ℕ) → slice_index code k < 256 = λ k. Fits-lt-pow {w = w8} {n = slice_index code k} (c.type_inv.bytes k) in
    rw c.in_ok-push_insn.ensures.ok (filled-more code c.loop-bytes.slots.items c.in-Some.insn small c.loop-bytes.invariant formed)

pub invariant_of-result : goal.invariant_of-result
invariant_of-result c =
    let inside : 8 * length c.loop-bytes.slots.items ≤ length c.as_slice-bytes.result.now = c.loop-bytes.invariant.inside in
    let read : length c.as_slice-bytes.result.now ≡ length c.args.code.now.items = ap (λ (bytes : List ℕ). length bytes) c.as_slice-bytes.ensures in
    (omega arith, filled-allowed c.as_slice-bytes.result.now c.loop-bytes.slots.items c.loop-bytes.invariant)
