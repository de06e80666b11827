-- What a host has in all its queues together.
use Rattle.std.proofs.Common.{◌≡◌, ℕ, zero, suc, ◌+◌, ◌*◌, ◌<◌, ◌≤◌, ◌==◌, Bool, true, false, not, List, [], ◌∷◌, ◌++◌, cond, filter, length, refl, sym, ap, ◌∙◌, subst, arith}
use Rattle.std.specs.List.{AllByRecursion, count_by}
use Rattle.std.proofs.Math.Nat.{suc-mul}
use Rattle.std.proofs.lemmas.Bool.{eqb-false, eqb-true}
use Rattle.std.proofs.lemmas.List.Sums.{sum_by-append, sum_by-cons}
use Rattle.script_cmds.specs.Queues.{SendToQueues, queue_of_cid}
use Rattle.script_cmds.specs.declared.item.Item.{Item}
use Rattle.script_cmds.specs.declared.item.Item.TheVariants as item
use Rattle.history_model.specs.Plan.{in_queue}
use Rattle.history_model.specs.Rules.{KeepsEachQueue, KeepsQueue, without}
use Rattle.history_model.proofs.Every.{every-append, every-filter}

-- 1 for an identifier of the queue, else 0
abbrev pub counts_one : ℕ → ℕ → ℕ
counts_one queue cid = cond {A = ℕ} (queue_of_cid cid == queue) 1 0

pub in_queue-cons : (queue cid : ℕ) (cids : List ℕ) → in_queue queue (cid ∷ cids) ≡ counts_one queue cid + in_queue queue cids
in_queue-cons queue cid cids = sum_by-cons (counts_one queue) cid cids

pub in_queue-more : (queue cid : ℕ) (cids : List ℕ) → in_queue queue (cids ++ cid ∷ []) ≡ in_queue queue cids + counts_one queue cid
in_queue-more queue cid cids =
    let both = sum_by-append (counts_one queue) cids (cid ∷ []) in
    let one = in_queue-cons queue cid [] in
    let none : in_queue queue [] ≡ 0 = refl in
    omega (arith, both, one, none)

-- ---- fewer identifiers

kept_fewer : (b : Bool) (queue x : ℕ) (xs kept : List ℕ) → in_queue queue kept ≤ in_queue queue xs → in_queue queue (cond b (x ∷ kept) kept) ≤ counts_one queue x + in_queue queue xs
kept_fewer true queue x xs kept le = omega (arith, in_queue-cons queue x kept, le)
kept_fewer false queue x xs kept le = omega (arith, le)

pub in_queue-filter : (queue : ℕ) (test : ℕ → Bool) (xs : List ℕ) → in_queue queue (filter test xs) ≤ in_queue queue xs
in_queue-filter queue test [] = omega arith
in_queue-filter queue test (x ∷ xs) =
    omega (arith, kept_fewer (test x) queue x xs (filter test xs) (in_queue-filter queue test xs), in_queue-cons queue x xs)

-- ---- all queues

abbrev Below : ℕ → ℕ → Type 0
Below queues cid = queue_of_cid cid < queues

-- those that are not of a queue
abbrev others : ℕ → List ℕ → List ℕ
others queue cids = filter (λ cid. not (queue_of_cid cid == queue)) cids

parted_by : (b : Bool) (queue x : ℕ) (xs rest : List ℕ) → (queue_of_cid x == queue) ≡ b → length xs ≡ in_queue queue xs + length rest
    → suc (length xs) ≡ cond {A = ℕ} b 1 0 + in_queue queue xs + length (cond (not b) (x ∷ rest) rest)
parted_by true queue x xs rest is e = omega (arith, e)
parted_by false queue x xs rest is e = omega (arith, e)

parted : (queue : ℕ) (xs : List ℕ) → length xs ≡ in_queue queue xs + length (others queue xs)
parted queue [] = refl
parted queue (x ∷ xs) =
    let split = parted_by (queue_of_cid x == queue) queue x xs (others queue xs) refl (parted queue xs) in
    omega (arith, split, in_queue-cons queue x xs)

below_kept : (b : Bool) (n x : ℕ) (rest : List ℕ) → (queue_of_cid x == n) ≡ b → queue_of_cid x < suc n → AllByRecursion (Below n) rest → AllByRecursion (Below n) (cond (not b) (x ∷ rest) rest)
below_kept true n x rest is lt all = all
below_kept false n x rest is lt all =
    let other : queue_of_cid x ≡ n → ⊥ = eqb-false (queue_of_cid x) n is in
    (omega (arith, lt, other), all)

below_others : (n : ℕ) (xs : List ℕ) → AllByRecursion (Below (suc n)) xs → AllByRecursion (Below n) (others n xs)
below_others n [] all = tt
below_others n (x ∷ xs) all = below_kept (queue_of_cid x == n) n x (others n xs) refl all.0 (below_others n xs all.1)

-- no more are outstanding than all queues together have room for
pub few_together : (queues depth : ℕ) (xs : List ℕ) → AllByRecursion (Below queues) xs → ((queue : ℕ) → in_queue queue xs ≤ depth) → length xs ≤ queues * depth
few_together zero depth [] all room = omega arith
few_together zero depth (x ∷ xs) all room = absurd (omega (arith, all.0))
few_together (suc n) depth xs all room =
    let rest = few_together n depth (others n xs) (below_others n xs all) (λ queue. omega (arith, in_queue-filter queue (λ cid. not (queue_of_cid cid == n)) xs, room queue)) in
    omega (arith, parted n xs, room n, rest, suc-mul n depth)

-- ---- one more

room_by : (b : Bool) (queue depth cid : ℕ) (xs : List ℕ) → (queue_of_cid cid == queue) ≡ b → in_queue (queue_of_cid cid) xs < depth → in_queue queue xs ≤ depth → in_queue queue xs + cond {A = ℕ} b 1 0 ≤ depth
room_by true queue depth cid xs is below room =
    let same : queue_of_cid cid ≡ queue = eqb-true (queue_of_cid cid) queue is in
    let here : in_queue queue xs < depth = subst (λ (q : ℕ). in_queue q xs < depth) same below in
    omega (arith, here)
room_by false queue depth cid xs is below room = omega (arith, room)

-- items that keep the rules of each queue keep those of the device, which holds them all
pub keeps-together : (queues depth : ℕ) (outstanding : List ℕ) (items : List Item) → AllByRecursion (Below queues) outstanding → ((queue : ℕ) → in_queue queue outstanding ≤ depth)
    → SendToQueues queues items → KeepsEachQueue depth outstanding items → KeepsQueue (queues * depth) outstanding items
keeps-together queues depth outstanding [] below room sends keeps = keeps
keeps-together queues depth outstanding (item.Send cid command ∷ items) below room sends keeps =
    let more : List ℕ = outstanding ++ cid ∷ [] in
    let all : AllByRecursion (Below queues) more = every-append (Below queues) outstanding (cid ∷ []) below (sends.0, tt) in
    let fits : (queue : ℕ) → in_queue queue more ≤ depth = λ queue. omega (arith, in_queue-more queue cid outstanding, room_by (queue_of_cid cid == queue) queue depth cid outstanding refl keeps.0 (room queue)) in
    let few = few_together queues depth more all fits in
    (omega (arith, few, length_more outstanding cid), keeps.1, keeps-together queues depth more items all fits sends.1 keeps.2)
  where
    length_more : (xs : List ℕ) (x : ℕ) → length (xs ++ x ∷ []) ≡ length xs + 1
    length_more [] x = omega arith
    length_more (y ∷ ys) x = omega (arith, length_more ys x)
keeps-together queues depth outstanding (item.Take cid ∷ items) below room sends keeps =
    let all = every-filter (Below queues) (λ other. not (other == cid)) outstanding below in
    let fits : (queue : ℕ) → in_queue queue (without cid outstanding) ≤ depth = λ queue. omega (arith, in_queue-filter queue (λ other. not (other == cid)) outstanding, room queue) in
    (keeps.0, keeps-together queues depth (without cid outstanding) items all fits sends keeps.1)

-- and those of a device with more room
pub keeps-deeper : (depth more : ℕ) (outstanding : List ℕ) (items : List Item) → depth ≤ more → KeepsQueue depth outstanding items → KeepsQueue more outstanding items
keeps-deeper depth more outstanding [] le keeps = keeps
keeps-deeper depth more outstanding (item.Send cid command ∷ items) le keeps =
    (omega (arith, keeps.0, le), keeps.1, keeps-deeper depth more (outstanding ++ cid ∷ []) items le keeps.2)
keeps-deeper depth more outstanding (item.Take cid ∷ items) le keeps = (keeps.0, keeps-deeper depth more (without cid outstanding) items le keeps.1)
