-- What is said of a load where memory for the words is wanting.
use Rattle.std.proofs.Common.{◌≡◌, ℕ, List, Option, Some, None, inr, refl, arith}
use Rattle.std.specs.Prelude.{IfSome}
use Rattle.nvmecp.specs.Run.{IsMade}
use Rattle.nvmecp.specs.declared.words.Load.{Load}

-- nothing is read or written, and the status is 5
pub unmade : {S K : Type 0} (wanted : Option Load) (held : K → Option (List ℕ)) (source : S) (sink : K) (status : ℕ) → status ≡ 5
    → IfSome wanted (λ load. IsMade load held source source sink sink status)
unmade None held source sink status is = tt
unmade (Some load) held source sink status is = record {
  unread = refl;
  statuses = inr (inr is);
  done = λ zero. absurd (omega (arith, is, zero));
  cut_short = λ four. absurd (omega (arith, is, four));
}
