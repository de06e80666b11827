-- What an ending says, by weaker words and by its status.
use Rattle.std.proofs.Common.{◌≡◌, ℕ, List, Option, inl, inr, sym, subst}
use Rattle.std.specs.Prelude.{◌⊎◌}
use Rattle.nvmecp.specs.Ends.{EndsAnswered, EndsBy, EndsOn, EndsRefused}
use Rattle.nvmecp.specs.declared.ending.Ending.{Ending}
use Rattle.nvmecp.specs.declared.ending.Ending.TheVariants as ending

-- what answers, refuses or denies by one word does so by a weaker word
pub weaker_on : {K : Type 0} (A B R S D E : List ℕ → Type 0) (held : K → Option (List ℕ)) (faults : K → ℕ) (old new : K) (end : Ending)
    → ((text : List ℕ) → A text → B text) → ((text : List ℕ) → R text → S text) → ((text : List ℕ) → D text → E text)
    → EndsOn A R D held faults old new end → EndsOn B S E held faults old new end
weaker_on A B R S D E held faults old new ending.Done answers refuses denies h = record { text = h.text; due = answers h.text h.due; written = h.written }
weaker_on A B R S D E held faults old new ending.Refused answers refuses denies h = record { text = h.text; due = refuses h.text h.due; written = h.written }
weaker_on A B R S D E held faults old new ending.Denied answers refuses denies h = record { text = h.text; due = denies h.text h.due; written = h.written }
weaker_on A B R S D E held faults old new ending.WriteFault answers refuses denies h = (
  record {
    text = h.0.text;
    due = elim h.0.due as (λ due. B h.0.text ⊎ (S h.0.text ⊎ E h.0.text)) [
      | inl a ↦ inl (answers h.0.text a)
      | inr (inl r) ↦ inr (inl (refuses h.0.text r))
      | inr (inr d) ↦ inr (inr (denies h.0.text d))
    ];
    front = h.0.front;
  },
  h.1,
)
weaker_on A B R S D E held faults old new ending.NoMemory answers refuses denies h = h
weaker_on A B R S D E held faults old new ending.Usage answers refuses denies h = h
weaker_on A B R S D E held faults old new ending.ReadFault answers refuses denies h = h

-- what answers or refuses by one word does so by a weaker word
pub weaker : {K : Type 0} (A B R S : List ℕ → Type 0) (held : K → Option (List ℕ)) (faults : K → ℕ) (old new : K) (end : Ending)
    → ((text : List ℕ) → A text → B text) → ((text : List ℕ) → R text → S text) → EndsBy A R held faults old new end → EndsBy B S held faults old new end
weaker A B R S held faults old new end answers refuses h =
    weaker_on A B R S (λ told. ⊥) (λ told. ⊥) held faults old new end answers refuses (λ text none. none) h

-- what denies nothing does not end by a denial
pub no_denial : {K : Type 0} (A R : List ℕ → Type 0) (held : K → Option (List ℕ)) (faults : K → ℕ) (old new : K) (end : Ending)
    → EndsBy A R held faults old new end → end ≡ ending.Denied → ⊥
no_denial A R held faults old new ending.Done h is = absurd cc
no_denial A R held faults old new ending.Refused h is = absurd cc
no_denial A R held faults old new ending.Denied h is = h.due
no_denial A R held faults old new ending.WriteFault h is = absurd cc
no_denial A R held faults old new ending.NoMemory h is = absurd cc
no_denial A R held faults old new ending.Usage h is = h
no_denial A R held faults old new ending.ReadFault h is = h

-- a line that tells a refusal refuses
pub refused : {K : Type 0} (A R : List ℕ → Type 0) (text : List ℕ) (held : K → Option (List ℕ)) (faults : K → ℕ) (old new : K) (end : Ending) → R text
    → EndsRefused text held faults old new end → EndsBy A R held faults old new end
refused A R text held faults old new end due h =
    weaker (λ answer. ⊥) A (λ told. told ≡ text) R held faults old new end (λ answer none. absurd none) (λ told same. subst R (sym same) due) h

-- what answers by one word does so by a weaker one
pub answered : {K : Type 0} (A B R : List ℕ → Type 0) (held : K → Option (List ℕ)) (faults : K → ℕ) (old new : K) (end : Ending) → ((text : List ℕ) → A text → B text)
    → EndsAnswered A held faults old new end → EndsBy B R held faults old new end
answered A B R held faults old new end answers h = weaker A B (λ told. ⊥) R held faults old new end answers (λ told none. absurd none) h

-- a line that tells a refusal refuses, where something may be denied too
pub refused_on : {K : Type 0} (A R D : List ℕ → Type 0) (text : List ℕ) (held : K → Option (List ℕ)) (faults : K → ℕ) (old new : K) (end : Ending) → R text
    → EndsRefused text held faults old new end → EndsOn A R D held faults old new end
refused_on A R D text held faults old new end due h =
    weaker_on (λ answer. ⊥) A (λ told. told ≡ text) R (λ told. ⊥) D held faults old new end (λ answer none. absurd none) (λ told same. subst R (sym same) due) (λ told none. absurd none) h
