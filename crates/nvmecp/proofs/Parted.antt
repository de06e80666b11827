-- An input has one first empty line, and so one script and one history.
use Rattle.std.proofs.Common.{◌≡◌, ℕ, ◌+◌, ◌-◌, ◌<◌, ◌⊎◌, inl, inr, List, Option, length, take, drop, sym, ap, subst, ◌∙◌, arith}
use Rattle.std.proofs.lemmas.Bool.{cases_order}
use Rattle.std.proofs.lemmas.Grind.{common_steps}
use Rattle.nvmecp.specs.Check.{HasNoEmptyLine, HasNoHistory, IsFirstEmptyLine, IsParted, NoScript, OfParts, TellsBad, TellsLegal, TellsNone}
use Rattle.nvmecp.specs.Ends.{EndsOn}
use Rattle.nvmecp.specs.Step.{HasNoPlan, TellsScript}
use Rattle.nvmecp.specs.declared.ending.Ending.{Ending}
use Rattle.nvmecp.proofs.Endings.{weaker_on}

pub one_place : (text : List ℕ) (one other : ℕ) → IsFirstEmptyLine text one → IsFirstEmptyLine text other → one ≡ other
one_place text one other a b = by_order (cases_order one other)
  where
    by_order : (one ≡ other) ⊎ ((one < other) ⊎ (other < one)) → one ≡ other
    by_order (inl same) = same
    by_order (inr (inl before)) = absurd (b.first one before a.empty)
    by_order (inr (inr behind)) = absurd (a.first other behind b.empty)

pub one_script : (input script history script' history' : List ℕ) → IsParted input script history → IsParted input script' history' → script ≡ script'
one_script input script history script' history' a b =
    a.before ∙ (ap (λ (place : ℕ). take place input) (one_place input a.place b.place a.empty b.empty) ∙ sym b.before)

pub one_history : (input script history script' history' : List ℕ) → IsParted input script history → IsParted input script' history' → history ≡ history'
one_history input script history script' history' a b =
    a.behind ∙ (ap (λ (place : ℕ). drop (place + 1) input) (one_place input a.place b.place a.empty b.empty) ∙ sym b.behind)

pub parted_or_none : (input script history : List ℕ) → IsParted input script history → HasNoEmptyLine input → ⊥
parted_or_none input script history a none = none a.place a.empty.empty

rest_is : (xs : List ℕ) (k : ℕ) → take (length xs - k) (drop k xs) ≡ drop k xs
rest_is xs k = grind (arith, common_steps)

-- what stands before the first empty line and what stands behind it
pub parted_at : (input bytes script : List ℕ) (place : ℕ) → bytes ≡ input → IsFirstEmptyLine bytes place → script ≡ take place bytes → IsParted input script (take (length bytes - (place + 1)) (drop (place + 1) bytes))
parted_at input bytes script place same empty before =
    subst (λ (xs : List ℕ). IsParted xs script (take (length bytes - (place + 1)) (drop (place + 1) bytes))) same
    (record { place = place; empty = empty; before = before; behind = rest_is bytes (place + 1) })

-- ---- what holds of the parts of an input

module _ (input script history : List ℕ) (parted : IsParted input script history) where
  pub holds_here : (Holds : List ℕ → List ℕ → Type 0) → OfParts Holds input → Holds script history
  holds_here Holds o =
      subst (λ (text : List ℕ). Holds text history) (one_script input o.script o.history script history o.parted parted)
      (subst (λ (behind : List ℕ). Holds o.script behind) (one_history input o.script o.history script history o.parted parted) o.holds)

  pub rejected_here : HasNoHistory input → HasNoPlan script
  rejected_here (inl none) = absurd (parted_or_none input script history parted none)
  rejected_here (inr parts) = holds_here (λ text behind. HasNoPlan text) parts

  pub ends_here : {K : Type 0} (held : K → Option (List ℕ)) (faults : K → ℕ) (old new : K) (end : Ending)
      → EndsOn (λ line. TellsLegal line script history) (TellsScript script) (λ line. TellsBad line script history) held faults old new end
      → EndsOn (λ line. OfParts (TellsLegal line) input) (TellsNone input) (λ line. OfParts (TellsBad line) input) held faults old new end
  ends_here held faults old new end h =
      weaker_on (λ line. TellsLegal line script history) (λ line. OfParts (TellsLegal line) input) (TellsScript script) (TellsNone input) (λ line. TellsBad line script history) (λ line. OfParts (TellsBad line) input)
      held faults old new end
      (λ line told. record { script = script; history = history; parted = parted; holds = told })
      (λ line told. NoScript (record { script = script; history = history; parted = parted; holds = told }))
      (λ line told. record { script = script; history = history; parted = parted; holds = told })
      h
