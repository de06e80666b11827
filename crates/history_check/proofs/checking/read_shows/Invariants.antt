use Rattle.std.proofs.Common.{◌≡◌, ◌+◌, ◌++◌, take}
use Rattle.history_model.specs.Text.{shows_text}
use Rattle.history_check.proofs.checking.read_shows.Given as goal

-- the lines of the shows so far were read
abbrev pub invariant-loop-show : goal.invariant-loop-show
invariant-loop-show l = record {
  device : l.checker.device ≡ l.initial.checker.device;
  line : l.line ≡ l.first + l.show-index;
  begins : l.fn.text ≡ shows_text l.initial.checker.device.state.contents (take l.show-index l.shows) ++ l.rest;
}
