use Rattle.std.proofs.Common.{◌≡◌, ◌+◌, ◌<◌, ◌^◌, Bool, List, true, length, refl, sym, ap, subst, ◌∙◌, arith}
use Rattle.std.specs.Prelude.{slice_set}
use Rattle.history_check.specs.Readiness.{IsReady}
use Rattle.history_check.specs.Table.{sends_in}
use Rattle.history_check.specs.declared.awaiting.Awaiting.{Awaiting}
use Rattle.history_check.specs.declared.checker.Checker.{Checker}
use Rattle.history_check.specs.declared.table.Table.{Table}
use Rattle.history_check.proofs.Judging.{HasLooked, accepted-told, refused-unnamed, refused-unready, refused-untold}
use Rattle.history_check.proofs.checker.Checker.accepts.Goals as goal

pub returns-in_default : goal.returns-in_default
returns-in_default c config plan entries sized stands is =
    let fits = c.ranges.k.fits in
    let few : length entries + 1 < 2 ^ 64 = omega (arith, fits, is) in
    refused-unnamed config plan entries c.args.self.now c.args.line.now sized stands few c.in_default.ensures.named

pub returns-then-not-branch : goal.returns-then-not-branch
returns-then-not-branch c config plan entries sized stands is =
    let fits = c.ranges.k.fits in
    let few : length entries + 1 < 2 ^ 64 = omega (arith, fits, is) in
    refused-unready config plan entries c.args.self.now c.args.line.now sized stands few c.in-Some.place c.in-Some.ensures.named (c.in_ok-is_ready.ensures.no c.if-not-branch.true)

pub returns-then-not-branch-2 : goal.returns-then-not-branch-2
returns-then-not-branch-2 c config plan entries sized stands is =
    let fits = c.ranges.k.fits in
    let few : length entries + 1 < 2 ^ 64 = omega (arith, fits, is) in
    let old = c.args.self.now in
    let mid : Checker = record { device = old.device; awaiting = c.is_ready.new.self; withdrawn = old.withdrawn; buffer = old.buffer } in
    let same = c.in_ok-is_ready.ensures.same in
    let looked : HasLooked old mid = record { device = refl; withdrawn = refl; kept = c.in_ok-is_ready.ensures.kept; table = same.0; over = same.1 } in
    refused-untold config plan entries old c.args.line.now sized stands few c.in-Some.place c.args.k mid c.in-Some.ensures.named looked is (c.in_ok-tells_next.ensures.no c.if-not-branch-2.true)

pub returns : goal.returns
returns c config plan entries sized stands is =
    let fits = c.ranges.k.fits in
    let few : length entries + 1 < 2 ^ 64 = omega (arith, fits, is) in
    let old = c.args.self.now in
    let mid : Checker = record { device = old.device; awaiting = c.is_ready.new.self; withdrawn = old.withdrawn; buffer = old.buffer } in
    let told = c.tells_next.new.self in
    let new : Checker = record { device = told.device; awaiting = c.end.new.self; withdrawn = told.withdrawn; buffer = told.buffer } in
    let place = c.in-Some.place in
    let same = c.in_ok-is_ready.ensures.same in
    let kept : told.awaiting ≡ mid.awaiting = c.in_ok-tells_next.ensures.same in
    let looked : HasLooked old mid = record { device = refl; withdrawn = refl; kept = c.in_ok-is_ready.ensures.kept; table = same.0; over = same.1 } in
    let below : place < length (sends_in mid.awaiting.table) = subst (λ (t : Table). place < length (sends_in t)) (sym same.0) c.in-Some.ensures.some in
    let ready : IsReady (sends_in mid.awaiting.table) mid.awaiting.over.items place =
    subst (λ (t : Table). IsReady (sends_in t) mid.awaiting.over.items place) (sym same.0)
    (subst (λ (over : List Bool). IsReady (sends_in old.awaiting.table) over place) (sym same.1) (c.in_ok-is_ready.ensures.yes c.if-not-branch.false)) in
    accepted-told config plan entries old c.args.line.now sized stands few place c.args.k mid told new looked is below ready (c.in_ok-tells_next.ensures.yes c.if-not-branch-2.false) refl refl
    (record {
      kept = c.end.ensures.kept;
      table = c.end.ensures.table ∙ ap (λ (a : Awaiting). a.table) kept;
      over = c.end.ensures.over ∙ ap (λ (a : Awaiting). slice_set a.over.items place true) kept;
    })
