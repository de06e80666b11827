-- No entries are consistent, and consistent entries of all commands are a legal history.
use Rattle.std.proofs.Common.{◌≡◌, ◌+◌, List, [], ◌∷◌, ◌++◌, length, subst, arith, append-nil}
use Rattle.std.proofs.lemmas.List.{length-append}
use Rattle.std.proofs.lemmas.List.Sorted.{IsPermutation-refl}
use Rattle.cp_base.specs.Configuration.{Configuration}
use Rattle.script_cmds.specs.declared.item.Phase.{Phase}
use Rattle.history_model.specs.Entry.{Entry}
use Rattle.history_model.specs.Legal.{IsLegal}
use Rattle.history_model.specs.Sent.{sends_of}
use Rattle.history_check.specs.Beginning.{IsBeginning}
use Rattle.history_check.proofs.Continuing.{beginning-continued, beginning-of}
use Rattle.history_check.proofs.TextLines.{legal-length}

pub no-entries : (c : Configuration) (plan : List Phase) → IsBeginning c plan []
no-entries c plan = beginning-of c plan [] (sends_of plan) (record { each_once = IsPermutation-refl (sends_of plan); in_order = tt; ready = tt; replays = tt; paired = tt })

pub all-entries : (c : Configuration) (plan : List Phase) (entries : List Entry) → IsBeginning c plan entries → length entries ≡ length (sends_of plan) → IsLegal c plan entries
all-entries c plan entries b count = by_more more.0 more.1 (legal-length c plan (entries ++ more.0) more.1)
  where
    more : (xs : List Entry) × IsLegal c plan (entries ++ xs)
    more = beginning-continued c plan entries b

    by_more : (xs : List Entry) → IsLegal c plan (entries ++ xs) → length (entries ++ xs) ≡ length (sends_of plan) → IsLegal c plan entries
    by_more [] legal same = subst (λ (ys : List Entry). IsLegal c plan ys) (append-nil entries) legal
    by_more (x ∷ xs) legal same = absurd (omega (arith, same, count, length-append entries (x ∷ xs)))
