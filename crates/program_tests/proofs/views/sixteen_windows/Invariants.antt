use Rattle.std.proofs.Common.{◌≡◌, ◌<◌, ◌^◌, length}
use Rattle.std.specs.Prelude.{All}
use Rattle.confined_view.specs.Touched.{window_bytes}
use Rattle.program_tests.proofs.views.sixteen_windows.Given as goal

abbrev pub invariant-loop-number : goal.invariant-loop-number
invariant-loop-number l = record {
  count : length l.windows.items ≡ l.number;
  short : All (λ w. length w < 2 ^ 32) (window_bytes l.windows.items);
}
