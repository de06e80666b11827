-- The numbers of outstanding commands by their queues, as commands come and go.
use Rattle.std.proofs.Common.{◌≡◌, ◌≢◌, ℕ, zero, suc, ◌+◌, ◌-◌, ◌<◌, ◌==◌, nat_eq, Bool, true, false, not, ◌||◌, List, [], ◌∷◌, ◌++◌, cond, get_or, length, refl, sym, ap, ◌∙◌, subst, arith}
use Rattle.std.specs.List.{AllByRecursion, IsDistinct}
use Rattle.std.proofs.Math.ListN.{set}
use Rattle.std.proofs.lemmas.Bool.{eq-eqb, eqb-false, eqb-true}
use Rattle.std.proofs.lemmas.List.{get_or-set_other, get_or-set_same}
use Rattle.script_cmds.specs.Queues.{queue_of_cid}
use Rattle.history_model.specs.Plan.{in_queue, is_outstanding}
use Rattle.history_model.specs.Rules.{without}
use Rattle.script_plan.specs.Counted.{AreCounts}
use Rattle.script_plan.proofs.Queue.{without-absent}
use Rattle.script_plan.proofs.Together.{counts_one, in_queue-cons, in_queue-more}

-- the numbers are as before
pub counts_same : (counts more cids : List ℕ) → ((queue : ℕ) → get_or more queue 0 ≡ get_or counts queue 0) → AreCounts counts cids → AreCounts more cids
counts_same counts more cids same h = λ queue. same queue ∙ h queue

own : (cid : ℕ) → counts_one (queue_of_cid cid) cid ≡ 1
own cid = ap (λ (b : Bool). cond {A = ℕ} b 1 0) (eq-eqb (queue_of_cid cid) (queue_of_cid cid) refl)

-- a number in place of that of the queue of an identifier
set_counts : (counts cids : List ℕ) (cid value : ℕ) → queue_of_cid cid < length counts → value ≡ in_queue (queue_of_cid cid) cids
    → ((queue : ℕ) → counts_one queue cid ≡ 0 → get_or counts queue 0 ≡ in_queue queue cids) → AreCounts (set counts (queue_of_cid cid) value) cids
set_counts counts cids cid value lt here there queue = by (queue_of_cid cid == queue) refl
  where
    by : (b : Bool) → (queue_of_cid cid == queue) ≡ b → get_or (set counts (queue_of_cid cid) value) queue 0 ≡ in_queue queue cids
    by true is =
        let same : queue_of_cid cid ≡ queue = eqb-true (queue_of_cid cid) queue is in
        subst (λ (q : ℕ). get_or (set counts (queue_of_cid cid) value) q 0 ≡ in_queue q cids) same (get_or-set_same counts (queue_of_cid cid) value 0 lt ∙ here)
    by false is =
        let none : counts_one queue cid ≡ 0 = ap (λ (b : Bool). cond {A = ℕ} b 1 0) is in
        let other : queue ≢ queue_of_cid cid = λ e. eqb-false (queue_of_cid cid) queue is (sym e) in
        get_or-set_other counts (queue_of_cid cid) queue value 0 other ∙ there queue none

-- one more command
pub counts_more : (counts cids : List ℕ) (cid : ℕ) → queue_of_cid cid < length counts → AreCounts counts cids
    → AreCounts (set counts (queue_of_cid cid) (get_or counts (queue_of_cid cid) 0 + 1)) (cids ++ cid ∷ [])
counts_more counts cids cid lt h =
    set_counts counts (cids ++ cid ∷ []) cid (get_or counts (queue_of_cid cid) 0 + 1) lt (omega (arith, h (queue_of_cid cid), in_queue-more (queue_of_cid cid) cid cids, own cid))
    (λ queue none. omega (arith, h queue, in_queue-more queue cid cids, none))

-- one command less
pub in_queue-less : (queue cid : ℕ) (cids : List ℕ) → IsDistinct nat_eq cids → is_outstanding cid cids ≡ true → in_queue queue (without cid cids) + counts_one queue cid ≡ in_queue queue cids
unfolding IsDistinct
in_queue-less queue cid [] d found = absurd cc
in_queue-less queue cid (x ∷ xs) d found = by (nat_eq x cid) refl found (λ f. in_queue-less queue cid xs d.1 f)
  where
    by : (b : Bool) → nat_eq x cid ≡ b → (b || is_outstanding cid xs) ≡ true → (is_outstanding cid xs ≡ true → in_queue queue (without cid xs) + counts_one queue cid ≡ in_queue queue xs)
        → in_queue queue (cond (not b) (x ∷ without cid xs) (without cid xs)) + counts_one queue cid ≡ in_queue queue (x ∷ xs)
    by true is f more =
        let same : x ≡ cid = eqb-true x cid is in
        let P : ℕ → Type 0 = λ n. AllByRecursion (λ y. nat_eq n y ≡ false) xs in
        let gone : without cid xs ≡ xs = without-absent cid xs (subst P same d.0) in
        omega (arith, in_queue-cons queue x xs, ap (in_queue queue) gone, ap (counts_one queue) same)
    by false is f more = omega (arith, in_queue-cons queue x xs, in_queue-cons queue x (without cid xs), more f)

-- a queue that is new has no command
pub push_zero : (xs : List ℕ) (queue : ℕ) → get_or (xs ++ 0 ∷ []) queue 0 ≡ get_or xs queue 0
push_zero [] zero = refl
push_zero [] (suc queue) = refl
push_zero (x ∷ xs) zero = refl
push_zero (x ∷ xs) (suc queue) = push_zero xs queue

reached : (counts : List ℕ) (i : ℕ) → 0 < get_or counts i 0 → i < length counts
reached [] i some = absurd (omega arith)
reached (x ∷ xs) zero some = omega arith
reached (x ∷ xs) (suc i) some = omega (arith, reached xs i some)

-- an outstanding command is one of its queue, which has a number
pub some_there : (counts cids : List ℕ) (cid : ℕ) → IsDistinct nat_eq cids → is_outstanding cid cids ≡ true → AreCounts counts cids → (0 < get_or counts (queue_of_cid cid) 0) × (queue_of_cid cid < length counts)
some_there counts cids cid d found h =
    let some : 0 < get_or counts (queue_of_cid cid) 0 = omega (arith, h (queue_of_cid cid), in_queue-less (queue_of_cid cid) cid cids d found, own cid) in
    (some, reached counts (queue_of_cid cid) some)

pub counts_less : (counts cids : List ℕ) (cid : ℕ) → IsDistinct nat_eq cids → is_outstanding cid cids ≡ true → AreCounts counts cids
    → AreCounts (set counts (queue_of_cid cid) (get_or counts (queue_of_cid cid) 0 - 1)) (without cid cids)
counts_less counts cids cid d found h =
    let there = some_there counts cids cid d found h in
    set_counts counts (without cid cids) cid (get_or counts (queue_of_cid cid) 0 - 1) there.1 (omega (arith, h (queue_of_cid cid), in_queue-less (queue_of_cid cid) cid cids d found, own cid))
    (λ queue none. omega (arith, h queue, in_queue-less queue cid cids d found, none))
