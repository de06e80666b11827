-- What the programs of the device give on bytes that are compared with themselves.
use Rattle.std.proofs.Common.{◌≡◌, ◌==◌, ℕ, suc, ◌+◌, Bool, true, false, cond, List, [], ◌∷◌, length, refl, arith}
use Rattle.std.specs.List.{common_prefix_len}
use Rattle.std.proofs.lemmas.Bool.Decides.{nat_tests}
use Rattle.std.proofs.lemmas.List.{length-map}
use Rattle.parts_bench.specs.Parts.{marks_left}
use Rattle.parts_bench.specs.declared.workload.Builtin.{Builtin}
use Rattle.parts_bench.specs.declared.workload.Builtin.TheVariants.{Count, Sum, Compare, Classes}

pub all_same : (bytes : List ℕ) → common_prefix_len (λ x y. x == y) bytes bytes ≡ length bytes
all_same [] = refl
all_same (x ∷ bytes) = by_test (x == x) (grind (arith, nat_tests)) (all_same bytes)
  where
    by_test : (b : Bool) → b ≡ true → common_prefix_len (λ x y. x == y) bytes bytes ≡ length bytes → cond b (1 + common_prefix_len (λ x y. x == y) bytes bytes) 0 ≡ suc (length bytes)
    by_test true h rest = omega (arith, rest)
    by_test false h rest = cc

pub length-left_by : (program : Builtin) (bytes marks : List ℕ) → length marks ≡ length bytes → length (marks_left program bytes marks) ≡ length bytes
length-left_by Count bytes marks e = e
length-left_by Sum bytes marks e = e
length-left_by Compare bytes marks e = e
length-left_by Classes bytes marks e = length-map bytes _
