-- Commands that are sent by their numbers, and what a device comes to when all are.
use Rattle.std.proofs.Common.{◌≡◌, ℕ, suc, ◌+◌, ◌≤◌, List, [], ◌∷◌, ◌++◌, length, length-append, sym, ap, subst, arith}
use Rattle.cp_base.specs.Configuration.{Configuration}
use Rattle.trail_model.specs.Lawful.{IsLawful, history_of, world_of}
use Rattle.device_core.specs.Recorded.{Recorded}
use Rattle.core_bench.specs.Progress.{AreSent, ComesTo, EachFrom, SentCommand, open_on, over_on, sent_on}

each-more : (number : ℕ) (Has : ℕ → SentCommand → Type 0) (sent : List SentCommand) (x : SentCommand) → EachFrom number Has sent → Has (number + length sent) x
    → EachFrom number Has (sent ++ x ∷ [])
each-more number Has [] x each has = (subst (λ (n : ℕ). Has n x) (let same : number + 0 ≡ number = omega arith in same) has, tt)
each-more number Has (y ∷ sent) x each has = (
  each.0,
  each-more (number + 1) Has sent x each.1
      (subst (λ (n : ℕ). Has n x) (let same : number + suc (length sent) ≡ number + 1 + length sent = omega arith in same) has),
)

-- none were sent
pub none-sent : (Has : ℕ → SentCommand → Type 0) (sent : List SentCommand) → sent ≡ [] → AreSent Has 0 sent
none-sent Has sent none = record {
  each = subst (λ (xs : List SentCommand). EachFrom 0 Has xs) (sym none) tt;
  all = ap (λ (xs : List SentCommand). length xs) none;
}

-- the next one is sent
pub one-more : (Has : ℕ → SentCommand → Type 0) (count : ℕ) (old new : List SentCommand) (x : SentCommand) → AreSent Has count old → Has count x → new ≡ old ++ x ∷ []
    → AreSent Has (count + 1) new
one-more Has count old new x are has is = subst (λ (xs : List SentCommand). AreSent Has (count + 1) xs) (sym is) (record {
  each = each-more 0 Has old x are.each (subst (λ (n : ℕ). Has n x) (let same : count ≡ 0 + length old = (let all = are.all in omega arith) in same) has);
  all = (let all = are.all in let more = length-append old (x ∷ []) in omega arith);
})

-- a number that has reached its end and is not beyond it
pub at-end : (number end : ℕ) → end ≤ number → number ≤ end → number ≡ end
at-end number end over within = omega arith

pub comes-to : (d : Recorded) (c : Configuration) (commands working done : ℕ) (Has : ℕ → SentCommand → Type 0) → d.config ≡ c → d.commands ≡ commands
    → IsLawful d.config d.commands d.trail → AreSent Has commands (sent_on d) → open_on d ≡ working → over_on d ≡ done → ComesTo c commands working done Has
comes-to d c commands working done Has config all lawful sent claims over = record {
  trail = d.trail;
  lawful = subst (λ (k : Configuration). IsLawful k commands d.trail) config (subst (λ (n : ℕ). IsLawful d.config n d.trail) all lawful);
  sent = sent;
  claims = subst (λ (k : Configuration). length (world_of k d.trail).claims ≡ working) config claims;
  over = subst (λ (k : Configuration). length (history_of k d.trail) ≡ done) config over;
}
