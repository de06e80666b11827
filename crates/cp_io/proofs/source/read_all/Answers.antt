use Rattle.std.proofs.Common.{◌≡◌, ℕ, ◌+◌, ◌≤◌, List, ◌++◌, length, take, sym, ap, ◌∙◌, subst, rules, arith, length-append}
use Rattle.std.proofs.lemmas.List.{length-take-le}
use Rattle.cp_io.proofs.Reading.{Gave-nil, Gave-more}
use Rattle.cp_io.specs.Source.{Gave}
use Rattle.cp_io.proofs.source.read_all.Goals as goal

pub loop-read-init : goal.loop-read-init
loop-read-init g c =
    record {
      took = rw c.new-read.ensures.items (Gave-nil _ _);
      within = search rules;
      piece = search rules;
      later = omega arith;
    }

pub loop-read-preserved : goal.loop-read-preserved
loop-read-preserved g c =
    let before = c.loop-read.invariant in
    let this = c.in-Count.ensures.this in
    let added = c.in_ok-add-in-Count.ensures.added in
    let n = c.in-Count.n in
    let into = c.read-in-loop-read.new.into in
    let more = Gave-more _ _ _ _ _ _ _ _ _ before.took this.1 this.2 c.in-Count.ensures.given in
    record {
      took = subst (Gave _ _ _ _) (sym added) more;
      within = omega (arith, ap length added, length-append c.loop-read.read.items (take n into), length-take-le n into this.1);
      piece = search rules;
      later = omega arith;
    }

-- more came than the limit
pub returns-then-n-rest-clause-came : goal.returns-then-n-rest-clause-came
returns-then-n-rest-clause-came g c =
    let before = c.loop-read.invariant in
    let this = c.in-Count.ensures.this in
    let n = c.in-Count.n in
    let into = c.read-in-loop-read.new.into in
    let long : c.args.limit + 1 ≤ length (c.loop-read.read.items ++ take n into) =
    omega (arith, length-append c.loop-read.read.items (take n into), length-take-le n into this.1) in
    (c.loop-read.read.items ++ take n into, Gave-more _ _ _ _ _ _ _ _ _ before.took this.1 this.2 c.in-Count.ensures.given, ((λ _. omega arith), (λ _. search rules)))

-- the memory for the last piece was not there
pub returns-in_err-add-in-Count-clause-came : goal.returns-in_err-add-in-Count-clause-came
returns-in_err-add-in-Count-clause-came g c =
    let before = c.loop-read.invariant in
    let this = c.in-Count.ensures.this in
    let n = c.in-Count.n in
    let into = c.read-in-loop-read.new.into in
    let short : length (c.loop-read.read.items ++ take n into) ≤ c.args.limit =
    omega (arith, length-append c.loop-read.read.items (take n into), length-take-le n into this.1) in
    (c.loop-read.read.items ++ take n into, Gave-more _ _ _ _ _ _ _ _ _ before.took this.1 this.2 c.in-Count.ensures.given, ((λ told. absurd (search rules)), (λ more. absurd (omega arith))))
