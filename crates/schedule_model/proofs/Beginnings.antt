-- From the parts of a trail, one for each phase, to its beginnings.
use Rattle.std.proofs.Common.{◌≡◌, ℕ, zero, suc, ◌+◌, ◌<◌, ◌≤◌, List, [], ◌∷◌, ◌++◌, append_assoc, length, take, refl, sym, ap, ap₂, subst, ◌∙◌, arith}
use Rattle.history_model.specs.Plain.{PlainItem}
use Rattle.trail_model.specs.Lawful.{Trail}
use Rattle.schedule_model.specs.Deeds.{BeginsWith, HaveDone, HostsDid, IsHost, Phases, items_by, items_in}
use Rattle.schedule_model.proofs.Telling.{items-append}
use Rattle.schedule_model.proofs.WholePlans.{DidEach}

abbrev pub beginning_of : (phases : Phases) (trail : Trail) → DidEach phases trail → ℕ → Trail
beginning_of [] trail did k = []
beginning_of (phase ∷ phases) trail did zero = []
beginning_of (phase ∷ phases) trail did (suc k) = did.0 ++ beginning_of phases did.1 did.4 k

-- what holds of all beginnings
pub record Beginnings (phases : Phases) (trail : Trail) (did : DidEach phases trail) : Type 0 where
  pub grows : (k : ℕ) → k < length phases → BeginsWith (beginning_of phases trail did (suc k)) (beginning_of phases trail did k)
  pub done : (k : ℕ) → k ≤ length phases → HaveDone (take k phases) (beginning_of phases trail did k)
  pub within : BeginsWith trail (beginning_of phases trail did (length phases))
  pub all : HaveDone phases trail

pub begins : (phases : Phases) (trail : Trail) (did : DidEach phases trail) → Beginnings phases trail did
begins [] trail did = record {
  grows = λ k below. absurd (omega arith);
  done = λ k below host is. none host k;
  within = record { rest = trail; whole = refl };
  all = λ host is. did host is;
}
  where
    none : (host k : ℕ) → [] ≡ items_in host (take k [])
    none host zero = refl
    none host (suc k) = refl
begins (phase ∷ phases) trail did =
    let front : Trail = did.0 in
    let more = begins phases did.1 did.4 in
    record {
      grows = λ k below. grows k below more.grows;
      done = λ k below host is. done k below host is more.done;
      within = record {
        rest = more.within.rest;
        whole = did.2 ∙ (ap (λ (xs : Trail). front ++ xs) more.within.whole
            ∙ sym (append_assoc front (beginning_of phases did.1 did.4 (length phases)) more.within.rest));
      };
      all = λ host is. ap (items_by host) did.2 ∙ (items-append host front did.1
          ∙ ap₂ (λ (xs ys : List PlainItem). xs ++ ys) (did.3 host is) (more.all host is));
    }
  where
    grows : (k : ℕ) → k < length (phase ∷ phases)
        → ((k : ℕ) → k < length phases → BeginsWith (beginning_of phases did.1 did.4 (suc k)) (beginning_of phases did.1 did.4 k))
        → BeginsWith (beginning_of (phase ∷ phases) trail did (suc k)) (beginning_of (phase ∷ phases) trail did k)
    grows zero below more = record { rest = did.0 ++ beginning_of phases did.1 did.4 0; whole = refl }
    grows (suc k) below more =
        let g = more k (omega arith) in
        record {
          rest = g.rest;
          whole = ap (λ (xs : Trail). did.0 ++ xs) g.whole ∙ sym (append_assoc did.0 (beginning_of phases did.1 did.4 k) g.rest);
        }

    done : (k : ℕ) → k ≤ length (phase ∷ phases) → (host : ℕ) → IsHost host
        → ((k : ℕ) → k ≤ length phases → HaveDone (take k phases) (beginning_of phases did.1 did.4 k))
        → items_by host (beginning_of (phase ∷ phases) trail did k) ≡ items_in host (take k (phase ∷ phases))
    done zero below host is more = refl
    done (suc k) below host is more =
        items-append host did.0 (beginning_of phases did.1 did.4 k)
        ∙ ap₂ (λ (xs ys : List PlainItem). xs ++ ys) (did.3 host is) (more k (omega arith) host is)

-- so the hosts did the plan
pub hosts-did : (phases : Phases) (trail : Trail) → DidEach phases trail → HostsDid phases trail
hosts-did phases trail did =
    let h = begins phases trail did in
    let B : ℕ → Trail = beginning_of phases trail did in
    record {
      beginning = B;
      grows = λ k below. subst (λ (n : ℕ). BeginsWith (B n) (B k)) (let e : suc k ≡ k + 1 = omega arith in e) (h.grows k below);
      did = h.done;
      within = h.within;
      all = h.all;
    }
