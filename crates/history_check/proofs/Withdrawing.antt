-- The command that an Abort names and that is not over.
use Rattle.std.proofs.Common.{◌≡◌, ℕ, true, false, Some, None, sym, ap, subst, ◌∙◌}
use Rattle.std.specs.Prelude.{slice_get}
use Rattle.std.proofs.lemmas.Bool.{true≢false}
use Rattle.history_model.specs.Sent.{Sent}
use Rattle.history_check.specs.Readiness.{IsKept}
use Rattle.history_check.specs.Standing.{NamesLeft}
use Rattle.history_check.specs.Table.{IsAt, sends_in}
use Rattle.history_check.specs.declared.awaiting.Awaiting.{Awaiting}
use Rattle.history_check.proofs.Places.{not-none, some-is}
use Rattle.history_check.proofs.Ready.{named-once}

-- it is the one that stands at the place
pub names-at : (a : Awaiting) (place named o : ℕ) (s : Sent) → slice_get (sends_in a.table) place ≡ Some s → s.named ≡ Some o → NamesLeft a place named → IsAt (sends_in a.table) s.host o named
names-at a place named o s at names n =
    let is : s ≡ n.s = some-is s n.s (sym at ∙ n.at) in
    let same : o ≡ n.other.ordinal = some-is o n.other.ordinal (sym names ∙ (ap (λ (x : Sent). x.named) is ∙ n.names.1)) in
    record { s = n.other; at = n.there; host = sym n.names.0 ∙ ap (λ (x : Sent). x.host) (sym is); ordinal = sym same }

pub names-none : (a : Awaiting) (place : ℕ) (s : Sent) → slice_get (sends_in a.table) place ≡ Some s → s.named ≡ None → (named : ℕ) → NamesLeft a place named → ⊥
names-none a place s at none named n =
    let is : s ≡ n.s = some-is s n.s (sym at ∙ n.at) in
    not-none n.other.ordinal (sym none ∙ (ap (λ (x : Sent). x.named) is ∙ n.names.1))

pub names-over : (a : Awaiting) (place there o : ℕ) (s : Sent) → IsKept a → slice_get (sends_in a.table) place ≡ Some s → s.named ≡ Some o → IsAt (sends_in a.table) s.host o there → slice_get a.over.items there ≡ Some true
    → (named : ℕ) → NamesLeft a place named → ⊥
names-over a place there o s kept at names is over named n =
    let other = names-at a place named o s at names n in
    let same : there ≡ named = named-once (sends_in a.table) there named is.s other.s kept.order is.at other.at (is.host ∙ sym other.host) (is.ordinal ∙ sym other.ordinal) in
    true≢false (some-is true false (sym (subst (λ (p : ℕ). slice_get a.over.items p ≡ Some true) same over) ∙ n.left))
