use Rattle.std.proofs.Common.{◌≡◌, ◌∙◌, ℕ, Option, None, length, unwrap_or, sym, ap}
use Rattle.parts_bench.specs.Parts.{marks_left, value_given}
use Rattle.parts_bench.specs.declared.workload.Builtin.{Builtin}
use Rattle.parts_bench.proofs.Same.{all_same}
use Rattle.parts_bench.proofs.builtins.by_kernel.Goals as goal

pub returns-in-Compare : goal.returns-in-Compare
returns-in-Compare c =
    let none : c.first_difference.result ≡ None = c.first_difference.ensures.equal.1 (sym c.requires.same) in
    record {
      given = c.unwrap_or.ensures
          ∙ (ap (λ (o : Option ℕ). unwrap_or o (length c.args.bytes.now)) none
          ∙ (sym (all_same c.args.bytes.now) ∙ sym (ap (λ (p : Builtin). value_given p c.args.bytes.now) c.in-Compare.is)));
      marks = sym (ap (λ (p : Builtin). marks_left p c.args.bytes.now c.args.marks.now) c.in-Compare.is);
    }
