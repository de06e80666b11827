use Rattle.std.proofs.Common.{rules, ◌≡◌, ℕ, ◌+◌, ◌<◌, true, inl, inr, [], ◌∷◌, ◌++◌, length, Some, refl, subst, ◌∙◌, arith}
use Rattle.std.specs.Prelude.{slice_get}
use Rattle.std.proofs.lemmas.Option.{slice_get_read}
use Rattle.cp_base.specs.Contents.{bytes_in}
use Rattle.cp_text.specs.Parts.{lacks}
use Rattle.history_model.specs.Text.{shown_text}
use Rattle.seq_device.specs.Standing.{Standing}
use Rattle.history_check.proofs.ReadLines.{show-misses, show-read}
use Rattle.history_check.proofs.checking.read_shows.Goals as goal

pub returns-in_default : goal.returns-in_default
returns-in_default c =
    let shows = c.args.shows.now in
    let at : slice_get shows c.loop-show.show-index ≡ Some c.show-item.result = slice_get_read shows (length shows) c.loop-show.show-index c.show-item.result refl c.loop-show-test.true c.show-item.is in
    show-misses c.args.checker.now.device.state.contents shows c.args.first c.args.text.now c.loop-show.rest.now c.loop-show.show-index c.show-item.result at c.loop-show.invariant.begins
    c.loop-show.line c.loop-show.invariant.line (inl c.in_default.ensures.whole)

pub returns-then-not-branch : goal.returns-then-not-branch
returns-then-not-branch c =
    let shows = c.args.shows.now in
    let show = c.show-item.result in
    let at : slice_get shows c.loop-show.show-index ≡ Some show = slice_get_read shows (length shows) c.loop-show.show-index show refl c.loop-show-test.true c.show-item.is in
    let cut : c.loop-show.rest.now ≡ c.in-Some.shown.now ++ 10 ∷ c.in-Some.behind.now = search rules in
    let plain : lacks 10 c.in-Some.shown.now ≡ true = search rules in
    show-misses c.args.checker.now.device.state.contents shows c.args.first c.args.text.now c.loop-show.rest.now c.loop-show.show-index show at c.loop-show.invariant.begins
    c.loop-show.line c.loop-show.invariant.line
    (inr (
      c.in-Some.shown.now,
      c.in-Some.behind.now,
      cut,
      plain,
      subst (λ (d : Standing). shown_text show (bytes_in d.state.contents show.range) ≡ c.in-Some.shown.now ++ 10 ∷ [] → ⊥) c.loop-show.invariant.device (c.in_ok-shows.ensures.no c.if-not-branch.true),
    ))

pub loop-show-preserved : goal.loop-show-preserved
loop-show-preserved c =
    let shows = c.args.shows.now in
    let show = c.show-item.result in
    let at : slice_get shows c.loop-show.show-index ≡ Some show = slice_get_read shows (length shows) c.loop-show.show-index show refl c.loop-show-test.true c.show-item.is in
    let cut : c.loop-show.rest.now ≡ c.in-Some.shown.now ++ 10 ∷ c.in-Some.behind.now = search rules in
    let number : c.loop-show.line ≡ c.args.first + c.loop-show.show-index = c.loop-show.invariant.line in
    record {
      device = c.in_ok-shows.ensures.same ∙ c.loop-show.invariant.device;
      line = omega (arith, number);
      begins = show-read c.args.checker.now.device.state.contents shows c.args.first c.args.text.now c.loop-show.rest.now c.loop-show.show-index show at c.loop-show.invariant.begins
          c.in-Some.shown.now c.in-Some.behind.now cut
          (subst (λ (d : Standing). shown_text show (bytes_in d.state.contents show.range) ≡ c.in-Some.shown.now ++ 10 ∷ []) c.loop-show.invariant.device (c.in_ok-shows.ensures.yes c.if-not-branch.false));
    }
