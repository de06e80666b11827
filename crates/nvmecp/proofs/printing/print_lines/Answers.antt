use Rattle.std.proofs.Common.{◌≡◌, ℕ, ◌+◌, ◌-◌, List, ◌++◌, take, drop, sym, ap, ◌∙◌, subst, arith, length-drop}
use Rattle.std.proofs.KnownBytes.{Appends-trans}
use Rattle.std.proofs.Math.Seq.{take-add}
use Rattle.std.proofs.lemmas.List.{take-append-drop}
use Rattle.std.specs.Io.KnownBytes.{Appends}
use Rattle.cp_io.specs.Sink.{AppendsFront}
use Rattle.nvmecp.proofs.Fronts.{front_of_first, front_of_second}
use Rattle.nvmecp.proofs.Written.{told}
use Rattle.nvmecp.proofs.printing.print_lines.Goals as goal

-- a front of a text and a piece behind it are a longer front
joined : (text : List ℕ) (written count : ℕ) → take written text ++ take (written + count - written) (drop written text) ≡ take (written + count) text
joined text written count =
    let same : written + count - written ≡ count = omega arith in
    ap (λ (n : ℕ). take written text ++ take n (drop written text)) same ∙ sym (take-add written count text)

pub loop-written-preserved : goal.loop-written-preserved
loop-written-preserved g c =
    let held = g.K.Sink.held in
    let text : List ℕ = c.args.text.now in
    let written : ℕ = c.loop-written.written in
    let before = c.loop-written.invariant in
    record {
      within = omega (arith, c.loop-written-test.true, c.first_line.ensures.within.1, length-drop written text);
      front = subst (Appends (held c.args.sink.now) (held c.write_all.new.sink)) (joined text written c.first_line.result)
          (Appends-trans _ _ _ _ _ before.front c.in_ok-write_all.ensures.all);
      later = omega (arith, before.later, c.write_all.ensures.later);
    }

pub returns-in_err-write_all-clause-front : goal.returns-in_err-write_all-clause-front
returns-in_err-write_all-clause-front g c =
    let held = g.K.Sink.held in
    let old = held c.args.sink.now in
    let new = held c.write_all.new.sink in
    let text : List ℕ = c.args.text.now in
    let written : ℕ = c.loop-written.written in
    let count : ℕ = c.first_line.result in
    let piece : List ℕ = take (written + count - written) (drop written text) in
    let rest : List ℕ = drop (written + count) text in
    let whole : (take written text ++ piece) ++ rest ≡ text = ap (λ (front : List ℕ). front ++ rest) (joined text written count) ∙ take-append-drop (written + count) text in
    told c.from_residual.result
    (subst (AppendsFront old new) whole
    (front_of_first old new (take written text ++ piece) rest
    (front_of_second old (held c.loop-written.sink) new (take written text) piece c.loop-written.invariant.front c.in_err-write_all.ensures.front)))
