use Rattle.std.proofs.Common.{rules, ◌≡◌, ◌<◌, ℕ, Bool, List, true, false, Some, length, refl, sym, ◌∙◌, ap, arith}
use Rattle.std.specs.Prelude.{slice_get}
use Rattle.std.proofs.lemmas.Option.{slice_get_read}
use Rattle.history_check.specs.Table.{IsAt, sends_in}
use Rattle.history_check.proofs.Places.{within}
use Rattle.history_check.proofs.Ready.{is-at-as, take-left, take-none, take-over}
use Rattle.history_check.proofs.awaiting.Awaiting.is_take_over.Goals as goal

pub returns-in-Some-clause-yes : goal.returns-in-Some-clause-yes
returns-in-Some-clause-yes c on =
    let over : List Bool = c.args.self.now.over.items in
    let is : IsAt (sends_in c.args.self.now.table) c.args.host c.args.ordinal c.in-Some.place = is-at-as (sends_in c.args.self.now.table) _ c.args.host _ c.args.ordinal c.in-Some.place c.from.ensures c.from-2.ensures c.in-Some.ensures.found in
    let below = within (sends_in c.args.self.now.table) c.in-Some.place is.s is.at in
    let inside : c.in-Some.place < length over = let n = c.requires.count in omega (arith, below, n) in
    let at : slice_get over c.in-Some.place ≡ Some c.index.result.now = slice_get_read over (length over) c.in-Some.place c.index.result.now refl inside c.index.ensures in
    take-over (sends_in c.args.self.now.table) over c.args.host c.args.ordinal c.in-Some.place c.requires.order is (at ∙ ap (λ (b : Bool). Some b) on)

pub returns-in-Some-clause-no : goal.returns-in-Some-clause-no
returns-in-Some-clause-no c off =
    let over : List Bool = c.args.self.now.over.items in
    let is : IsAt (sends_in c.args.self.now.table) c.args.host c.args.ordinal c.in-Some.place = is-at-as (sends_in c.args.self.now.table) _ c.args.host _ c.args.ordinal c.in-Some.place c.from.ensures c.from-2.ensures c.in-Some.ensures.found in
    let below = within (sends_in c.args.self.now.table) c.in-Some.place is.s is.at in
    let inside : c.in-Some.place < length over = let n = c.requires.count in omega (arith, below, n) in
    let at : slice_get over c.in-Some.place ≡ Some c.index.result.now = slice_get_read over (length over) c.in-Some.place c.index.result.now refl inside c.index.ensures in
    take-left (sends_in c.args.self.now.table) over c.args.host c.args.ordinal c.in-Some.place is (at ∙ ap (λ (b : Bool). Some b) off)

pub returns-in-None-clause-yes : goal.returns-in-None-clause-yes
returns-in-None-clause-yes c on =
    take-none (sends_in c.args.self.now.table) c.args.self.now.over.items c.args.host c.args.ordinal
    (λ place is. c.in-None.ensures.none refl place (is-at-as (sends_in c.args.self.now.table) c.args.host _ c.args.ordinal _ place (sym c.from.ensures) (sym c.from-2.ensures) is))
