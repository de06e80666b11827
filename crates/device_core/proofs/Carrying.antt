-- What a command carries, in order, and which of it may be written.
use Rattle.std.proofs.Common.{◌≡◌, ℕ, suc, ◌+◌, ◌≤◌, Bool, true, false, not, cond, if◌then◌else◌, List, [], ◌∷◌, length, map, Some, None, Result, Ok, Err, IfOk, unwrap_or, nat_lt, refl, sym, ap, subst, ◌∙◌, arith}
use Rattle.std.proofs.lemmas.Bool.{ltb-false, true≢false}
use Rattle.std.proofs.lemmas.List.Sums.{prefix_len-le-length}
use Rattle.std.specs.List.{insert, position, position_or_len}
use Rattle.cp_base.specs.Configuration.{Configuration}
use Rattle.cp_base.specs.Region.{Region}
use Rattle.cp_base.specs.Runs.{runs_of}
use Rattle.cp_base.specs.Sharing.{range_region}
use Rattle.cp_base.specs.declared.commands.Command.{Command}
use Rattle.cp_base.specs.declared.commands.Command.TheVariants as command
use Rattle.cp_base.specs.declared.lists.MemRange.{MemRange}
use Rattle.bpf_model.specs.Memory.{allows_writing}
use Rattle.trail_model.specs.Footprints.{carried_regions, in_one_order, is_execution, reads_of, with_region, writable_ranges, writes_of}
use Rattle.device_core.specs.Portions.{comes_before, portion_ranges, read_portion, run_portions, set_portion, with_portion, written_portion, written_ranges}
use Rattle.device_core.specs.declared.portions.Portion.{Portion}

pub if-ok : {A E : Type 0} (P Q : A → Type 0) (r : Result A E) → ((x : A) → P x → Q x) → IfOk r P → IfOk r Q
if-ok P Q (Ok x) f h = f x h
if-ok P Q (Err e) f h = tt

-- ---- the ranges of a set

pub set-ranges : (ranges : List MemRange) → portion_ranges (map set_portion ranges) ≡ map range_region ranges
set-ranges [] = refl
set-ranges (r ∷ rs) = ap (λ (xs : List Region). range_region r ∷ xs) (set-ranges rs)

pub set-written : (ranges : List MemRange) → written_ranges (map set_portion ranges) ≡ map range_region (writable_ranges ranges)
set-written [] = refl
set-written (r ∷ rs) = by_test (allows_writing r.access) (set-written rs)
  where
    by_test : (b : Bool) → written_ranges (map set_portion rs) ≡ map range_region (writable_ranges rs)
        → (if b then range_region r ∷ written_ranges (map set_portion rs) else written_ranges (map set_portion rs))
        ≡ map range_region (if b then r ∷ writable_ranges rs else writable_ranges rs)
    by_test true e = ap (λ (xs : List Region). range_region r ∷ xs) e
    by_test false e = e

-- ---- runs

with-ranges : (x : Portion) (xs : List Portion) → portion_ranges (with_portion x xs) ≡ with_region x.range (portion_ranges xs)
with-ranges x [] = refl
with-ranges x (y ∷ ys) = by_test (comes_before x.range y.range) (with-ranges x ys)
  where
    by_test : (b : Bool) → portion_ranges (with_portion x ys) ≡ with_region x.range (portion_ranges ys)
        → portion_ranges (if b then x ∷ y ∷ ys else y ∷ with_portion x ys)
        ≡ (if b then x.range ∷ y.range ∷ portion_ranges ys else y.range ∷ with_region x.range (portion_ranges ys))
    by_test true e = refl
    by_test false e = ap (λ (rs : List Region). y.range ∷ rs) e

read-ranges : (rs : List Region) → portion_ranges (map read_portion rs) ≡ rs
read-ranges [] = refl
read-ranges (r ∷ rs) = ap (λ (xs : List Region). r ∷ xs) (read-ranges rs)

run-ranges : (ws rs : List Region) → portion_ranges (run_portions ws rs) ≡ in_one_order ws rs
run-ranges [] rs = read-ranges rs
run-ranges (w ∷ ws) rs = with-ranges (written_portion w) (run_portions ws rs) ∙ ap (λ (xs : List Region). with_region w xs) (run-ranges ws rs)

read-written : (rs : List Region) → written_ranges (map read_portion rs) ≡ []
read-written [] = refl
read-written (r ∷ rs) = read-written rs

none-written : (b : Bool) (r : Region) (rs : List Region) → (if b then r ∷ rs else rs) ≡ [] → (b ≡ false) × (rs ≡ [])
none-written true r rs e = cc
none-written false r rs e = (refl, e)

one-written : (w : Region) (xs : List Portion) → written_ranges xs ≡ [] → written_ranges (with_portion (written_portion w) xs) ≡ w ∷ []
one-written w [] e = refl
one-written w (y ∷ ys) e =
    let quiet = none-written y.written y.range (written_ranges ys) e in
    by_test (comes_before w y.range) quiet.0 (one-written w ys quiet.1)
  where
    by_test : (b : Bool) → y.written ≡ false → written_ranges (with_portion (written_portion w) ys) ≡ w ∷ []
        → written_ranges (if b then written_portion w ∷ y ∷ ys else y ∷ with_portion (written_portion w) ys) ≡ w ∷ []
    by_test true quiet later = ap (λ (rs : List Region). w ∷ rs) e
    by_test false quiet later =
        ap (λ (t : Bool). if t then y.range ∷ written_ranges (with_portion (written_portion w) ys) else written_ranges (with_portion (written_portion w) ys)) quiet ∙ later

run-written : (ws rs : List Region) → length ws ≤ 1 → written_ranges (run_portions ws rs) ≡ ws
run-written [] rs few = read-written rs
run-written (w ∷ []) rs few = one-written w (map read_portion rs) (read-written rs)
run-written (w ∷ v ∷ ws) rs few = absurd (omega arith)

-- ---- what commands carry

same-writes : (c : Configuration) (ranges : List MemRange) (cmd : Command) → is_execution cmd ≡ false → runs_of (writes_of c ranges cmd) ≡ writes_of c ranges cmd
same-writes c ranges (command.Execute slot set p1 p2 budget) e = absurd (true≢false e)
same-writes c ranges cmd e = refl

few : (c : Configuration) (ranges : List MemRange) (cmd : Command) → is_execution cmd ≡ false → length (writes_of c ranges cmd) ≤ 1
few c ranges (command.Execute slot set p1 p2 budget) e = absurd (true≢false e)
few c ranges cmd e = omega arith

-- a command that is no execution may write one run
pub few-writes : (c : Configuration) (ranges : List MemRange) (cmd : Command) → is_execution cmd ≡ false → length (runs_of (writes_of c ranges cmd)) ≤ 1
few-writes c ranges cmd e = subst (λ (rs : List Region). length rs ≤ 1) (sym (same-writes c ranges cmd e)) (few c ranges cmd e)

pub runs-carried : (c : Configuration) (ranges : List MemRange) (cmd : Command) → is_execution cmd ≡ false
    → portion_ranges (run_portions (runs_of (writes_of c ranges cmd)) (runs_of (reads_of c ranges cmd))) ≡ carried_regions c ranges cmd
runs-carried c ranges cmd e =
    run-ranges (runs_of (writes_of c ranges cmd)) (runs_of (reads_of c ranges cmd))
    ∙ sym (ap (λ (b : Bool). if b then map range_region ranges else in_one_order (runs_of (writes_of c ranges cmd)) (runs_of (reads_of c ranges cmd))) e)

pub runs-written : (c : Configuration) (ranges : List MemRange) (cmd : Command) → is_execution cmd ≡ false
    → written_ranges (run_portions (runs_of (writes_of c ranges cmd)) (runs_of (reads_of c ranges cmd))) ≡ writes_of c ranges cmd
runs-written c ranges cmd e =
    run-written (runs_of (writes_of c ranges cmd)) (runs_of (reads_of c ranges cmd)) (few-writes c ranges cmd e) ∙ same-writes c ranges cmd e

-- what an execution carries
pub set-carried : (c : Configuration) (ranges : List MemRange) (cmd : Command) → is_execution cmd ≡ true → portion_ranges (map set_portion ranges) ≡ carried_regions c ranges cmd
set-carried c ranges cmd e =
    set-ranges ranges ∙ sym (ap (λ (b : Bool). if b then map range_region ranges else in_one_order (runs_of (writes_of c ranges cmd)) (runs_of (reads_of c ranges cmd))) e)

pub set-taken : (c : Configuration) (ranges : List MemRange) (cmd : Command) → is_execution cmd ≡ true → written_ranges (map set_portion ranges) ≡ writes_of c ranges cmd
set-taken c ranges (command.Execute slot set p1 p2 budget) e = set-written ranges
set-taken c ranges cmd e = absurd (true≢false (sym e))

-- ---- where one goes

abbrev place : Portion → List Portion → ℕ
place x xs = position_or_len (λ (y : Portion). comes_before x.range y.range) xs

place-here : (x y : Portion) (ys : List Portion) → comes_before x.range y.range ≡ true → place x (y ∷ ys) ≡ 0
place-here x y ys e = ap (λ (b : Bool). cond (not b) (1 + place x ys) 0) e

place-later : (x y : Portion) (ys : List Portion) → comes_before x.range y.range ≡ false → place x (y ∷ ys) ≡ 1 + place x ys
place-later x y ys e = ap (λ (b : Bool). cond (not b) (1 + place x ys) 0) e

one-further : (x y : Portion) (ys : List Portion) (n : ℕ) → insert (y ∷ ys) (1 + n) x ≡ y ∷ insert ys n x
one-further x y ys n = let next : suc n ≡ 1 + n = omega arith in subst (λ (m : ℕ). insert (y ∷ ys) m x ≡ y ∷ insert ys n x) next refl

with-at : (x : Portion) (xs : List Portion) → insert xs (place x xs) x ≡ with_portion x xs
with-at x [] = refl
with-at x (y ∷ ys) = by_test (comes_before x.range y.range) refl (with-at x ys)
  where
    by_test : (b : Bool) → comes_before x.range y.range ≡ b → insert ys (place x ys) x ≡ with_portion x ys
        → insert (y ∷ ys) (place x (y ∷ ys)) x ≡ (if b then x ∷ y ∷ ys else y ∷ with_portion x ys)
    by_test true e later = ap (λ (n : ℕ). insert (y ∷ ys) n x) (place-here x y ys e)
    by_test false e later =
        ap (λ (n : ℕ). insert (y ∷ ys) n x) (place-later x y ys e) ∙ (one-further x y ys (place x ys) ∙ ap (λ (zs : List Portion). y ∷ zs) later)

pub with-inserted : (x : Portion) (xs : List Portion)
    → insert xs (unwrap_or (position (λ (y : Portion). comes_before x.range y.range) xs) (length xs)) x ≡ with_portion x xs
with-inserted x xs = by_test (nat_lt (place x xs) (length xs)) refl
  where
    by_test : (b : Bool) → nat_lt (place x xs) (length xs) ≡ b
        → insert xs (unwrap_or (cond b (Some (place x xs)) None) (length xs)) x ≡ with_portion x xs
    by_test true e = with-at x xs
    by_test false e =
        let most = prefix_len-le-length (λ (y : Portion). not (comes_before x.range y.range)) xs in
        let least = ltb-false (place x xs) (length xs) e in
        ap (λ (n : ℕ). insert xs n x) (let same : length xs ≡ place x xs = omega arith in same) ∙ with-at x xs
