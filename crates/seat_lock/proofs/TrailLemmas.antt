-- Trails: what stays of a beginning and of a party's entries when the trail grows.
use Rattle.std.proofs.Common.{◌≡◌, ◌≢◌, ℕ, ◌≤◌, eqb, List, [], ◌∷◌, ◌++◌, Bool, refl, sym, ap, ◌∙◌, subst, inl, inr, ne_eqb, append_assoc, append-nil}
use Rattle.std.specs.Prelude.{All, cond}
use Rattle.std.proofs.lemmas.List.Elements.{All-cons, All-nil, filter-append}
use Rattle.seat_lock.specs.Trails.{BeginsWith, entries_by}
use Rattle.seat_lock.specs.Rule.{IsMade}
use Rattle.seat_lock.specs.Passes.{AddsAtMostOne}

module _ {E : Type 0} (party : E → ℕ) where
  -- the trail that a turn leaves is the old one and then entries of this party alone
  pub record Grows (number : ℕ) (old new : List E) : Type 0 where
    pub more : List E
    pub is : new ≡ old ++ more
    pub others : (n : ℕ) → n ≢ number → entries_by party n more ≡ []
    pub makers : (made : ℕ) → number ≢ 0 → number ≤ made → All (IsMade party made) more

  lone_entry : (e : E) (number n : ℕ) → party e ≡ number → n ≢ number → entries_by party n (e ∷ []) ≡ []
  lone_entry e number n is other = subst (λ (b : Bool). cond b (e ∷ []) [] ≡ []) (sym (ne_eqb (party e) n (λ h. other (sym h ∙ is)))) refl

  pub grows : (number : ℕ) (old new : List E) → AddsAtMostOne party number old new → Grows number old new
  grows number old new (inl same) = record { more = []; is = same ∙ sym (append-nil old); others = λ n other. refl; makers = λ made pos le. All-nil (IsMade party made) }
  grows number old new (inr one) = record {
    more = one.0 ∷ [];
    is = one.1;
    others = λ n other. lone_entry one.0 number n one.2 other;
    makers = λ made pos le. All-cons (IsMade party made) one.0 [] ((λ h. pos (sym one.2 ∙ h)), subst (λ (k : ℕ). k ≤ made) (sym one.2) le) (All-nil (IsMade party made));
  }

  pub begins_longer : (seen old new more : List E) → new ≡ old ++ more → BeginsWith old seen → BeginsWith new seen
  begins_longer seen old new more is b = (b.0 ++ more, is ∙ (ap (λ t. t ++ more) b.1 ∙ append_assoc seen b.0 more))

  pub begins_same : (seen old new : List E) → new ≡ old → BeginsWith old seen → BeginsWith new seen
  begins_same seen old new is b = (b.0, is ∙ b.1)

  pub begins_all : (trail : List E) → BeginsWith trail trail
  begins_all trail = ([], sym (append-nil trail))

  pub entries_longer : (n : ℕ) (old new more : List E) → new ≡ old ++ more → entries_by party n more ≡ [] → entries_by party n new ≡ entries_by party n old
  entries_longer n old new more is none = ap (entries_by party n) is ∙ (filter-append (λ e. eqb (party e) n) old more ∙ (ap (λ t. entries_by party n old ++ t) none ∙ append-nil (entries_by party n old)))
