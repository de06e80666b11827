use Rattle.std.proofs.Common.{◌++◌, List, ℕ, take, sym, ap, ◌∙◌, subst, rules, arith}
use Rattle.std.proofs.lemmas.List.{take_rest}
use Rattle.std.proofs.KnownBytes.{Appends-trans}
use Rattle.std.specs.Io.KnownBytes.{Appends}
use Rattle.cp_io.proofs.Pieces.{take-add}
use Rattle.cp_io.proofs.sink.write_all.Goals as goal

pub loop-written-preserved : goal.loop-written-preserved
loop-written-preserved g c =
    let before = c.loop-written.invariant in
    let wrote = c.in-Count.ensures.this in
    let written = c.loop-written.written in
    let text = c.args.text.now in
    let joined = ap (λ (l : List ℕ). take written text ++ take c.in-Count.n l) (take_rest text written) ∙ sym (take-add written c.in-Count.n text) in
    record {
      within = search rules;
      front = subst (Appends _ _) joined (Appends-trans _ _ _ _ _ before.front wrote.2);
      later = omega arith;
    }
