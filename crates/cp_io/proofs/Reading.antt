-- How a run of reads goes on.
use Rattle.std.proofs.Common.{◌≡◌, ℕ, ◌+◌, ◌≤◌, List, [], ◌++◌, Option, length, take, arith, length-append}
use Rattle.std.proofs.lemmas.List.{length-take-le}
use Rattle.std.proofs.KnownBytes.{Consumes-nil, Consumes-trans}
use Rattle.std.specs.Io.KnownBytes.{Consumes}
use Rattle.cp_io.specs.Counting.{counted}
use Rattle.cp_io.specs.Source.{Gave}

-- before the first read nothing came
pub Gave-nil : (left : Option (List ℕ)) (given : ℕ) → Gave left left given given []
Gave-nil left given = record { bytes = Consumes-nil left; count = omega arith }

-- one read more
pub Gave-more : (a b c : Option (List ℕ)) (g h i : ℕ) (came into : List ℕ) (n : ℕ) → Gave a b g h came → n ≤ length into → Consumes b c (take n into) → i ≡ counted h n
    → Gave a c g i (came ++ take n into)
Gave-more a b c g h i came into n so_far within read count = record {
  bytes = Consumes-trans a b c came (take n into) so_far.bytes read;
  count = omega (arith, so_far.count, count, length-append came (take n into), length-take-le n into within);
}
