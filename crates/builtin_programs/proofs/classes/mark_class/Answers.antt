use Rattle.std.proofs.Common.{◌≡◌, ℕ, ◌+◌, ◌≤◌, ◌++◌, List, length, sum, take, sym, ap, ◌∙◌, arith, rules}
use lib.Lanes.{chunk, put_chunk}
use Rattle.std.proofs.lemmas.List.{length-map, length-take-le}
use Rattle.std.proofs.lemmas.Simd.{length-chunk, length-put_chunk, take_more_put_chunk}
use Rattle.device_model.specs.Builtin.{marks_of}
use Rattle.builtin_programs.proofs.Lanes.{marks-take, sum-marks, sum-marks-take}
use Rattle.builtin_programs.proofs.classes.mark_class.Goals as goal

pub overflow_add-marked : goal.overflow_add-marked
overflow_add-marked c =
    let here : c.from-marked.result ≡ sum (marks_of c.args.low c.args.high (chunk c.loop-at.at 64 c.args.from.now)) = search rules in
    let inside : c.loop-at.at + 64 ≤ length c.args.from.now = search rules in
    let all = sum-marks-take c.args.low c.args.high c.args.from.now c.loop-at.at 64 in
    let few = sum-marks c.args.low c.args.high (take (c.loop-at.at + 64) c.args.from.now) in
    let most : c.loop-at.marked + c.from-marked.result ≤ length c.args.from.now =
    omega (arith, here, all, few, c.loop-at.invariant.number, length-take-le (c.loop-at.at + 64) c.args.from.now inside) in
    search rules

pub loop-at-preserved : goal.loop-at-preserved
loop-at-preserved c =
    let from : List ℕ = c.args.from.now in
    let here : c.from-marked.result ≡ sum (marks_of c.args.low c.args.high (chunk c.loop-at.at 64 from)) = search rules in
    let inside : c.loop-at.at + 64 ≤ length from = search rules in
    let put : c.mark_in_lanes.new.into ≡ put_chunk c.loop-at.at c.loop-at.into (marks_of c.args.low c.args.high (chunk c.loop-at.at 64 from)) = search rules in
    let lanes : length (marks_of c.args.low c.args.high (chunk c.loop-at.at 64 from)) ≡ 64 = length-map (chunk c.loop-at.at 64 from) _ ∙ length-chunk c.loop-at.at 64 from inside in
    record {
      inside = inside;
      length = c.loop-at.invariant.length ∙ sym (ap length put ∙ length-put_chunk c.loop-at.at c.loop-at.into (marks_of c.args.low c.args.high (chunk c.loop-at.at 64 from)));
      marks = ap (take (c.loop-at.at + 64)) put
          ∙ take_more_put_chunk c.loop-at.at c.loop-at.into (marks_of c.args.low c.args.high (chunk c.loop-at.at 64 from)) (c.loop-at.at + 64) (omega (arith, lanes)) (omega (arith, inside, c.loop-at.invariant.length))
          ∙ ap (λ (done : List ℕ). done ++ marks_of c.args.low c.args.high (chunk c.loop-at.at 64 from)) c.loop-at.invariant.marks
          ∙ sym (marks-take c.args.low c.args.high from c.loop-at.at 64);
      number = omega (arith, here, c.loop-at.invariant.number, sum-marks-take c.args.low c.args.high from c.loop-at.at 64);
    }

pub overflow_add-marked-in-loop-i : goal.overflow_add-marked-in-loop-i
overflow_add-marked-in-loop-i c =
    let few = sum-marks c.args.low c.args.high (take c.loop-i.i c.args.from.now) in
    let mark : c.from-marked-in-loop-i.result ≤ 1 = search rules in
    let most : c.loop-i.marked + c.from-marked-in-loop-i.result ≤ length c.args.from.now =
    omega (arith, mark, few, c.loop-i.invariant.number, c.loop-i-test.true, length-take-le c.loop-i.i c.args.from.now (omega (arith, c.loop-i-test.true))) in
    search rules
