-- Lists item by item, as loops go over them.
use Rattle.std.proofs.Common.{◌≡◌, ℕ, zero, suc, ◌+◌, ◌<◌, Bool, List, [], ◌∷◌, length, drop, get_or, set, refl, sym, ap, subst, ◌∙◌, arith}
use Rattle.std.proofs.Math.Seq.{drop-cons}
use Rattle.std.proofs.lemmas.List.Sums.{sum_by-cons}
use Rattle.cp_base.specs.Checks.{total_len}
use Rattle.cp_base.specs.Buffer.{Buffer}
use Rattle.cp_base.specs.Region.{Region}
use Rattle.cp_base.specs.declared.replies.Piece.{Piece}
use Rattle.cp_base.specs.declared.lists.MemRange.{MemRange}
use Rattle.bpf_model.specs.Memory.{allows_writing, read_write_of}
use Rattle.confined_view.specs.Touched.{window_bytes}
use Rattle.confined_view.specs.declared.window.Window.{Window}
use Rattle.job_run.specs.Windows.{piece_bytes}
use Rattle.job_run.specs.Works.{piece_regions}

-- the first item of those from a place on
pub drop-item : {A : Type 0} (xs : List A) (i : ℕ) (x : A) → i < length xs → get_or xs i x ≡ x → drop i xs ≡ x ∷ drop (i + 1) xs
drop-item xs i x less e = drop-cons xs i x less ∙ (λ k. e k ∷ drop (next k) xs)
  where
    next : suc i ≡ i + 1
    next = omega arith

-- the same, by a default
pub drop-at : {A : Type 0} (xs : List A) (i : ℕ) (d : A) → i < length xs → drop i xs ≡ get_or xs i d ∷ drop (i + 1) xs
drop-at xs i d less = drop-cons xs i d less ∙ (λ k. get_or xs i d ∷ drop (next k) xs)
  where
    next : suc i ≡ i + 1
    next = omega arith

pub total-cons : (r : Region) (rs : List Region) → total_len (r ∷ rs) ≡ r.len + total_len rs
total-cons r rs = sum_by-cons (λ (region : Region). region.len) r rs

-- behind a place, one further
drop-more : {A : Type 0} (zs : List A) (n : ℕ) → drop (suc n) zs ≡ drop 1 (drop n zs)
drop-more zs zero = refl
drop-more [] (suc n) = refl
drop-more (z ∷ zs) (suc n) = drop-more zs n

-- a list that is as another one from a place on is so from the next place on
pub drop-next : {A : Type 0} (xs ys : List A) (i : ℕ) → drop i xs ≡ drop i ys → drop (suc i) xs ≡ drop (suc i) ys
drop-next {A} xs ys i e = drop-more xs i ∙ ap (λ (zs : List A). drop 1 zs) e ∙ sym (drop-more ys i)

-- another item before a place changes nothing from there on
pub drop-set : {A : Type 0} (xs : List A) (i : ℕ) (x : A) → drop (suc i) (set xs i x) ≡ drop (suc i) xs
drop-set [] i x = refl
drop-set (y ∷ ys) zero x = refl
drop-set (y ∷ ys) (suc i) x = drop-set ys i x

-- the bytes of the piece at a place, where the pieces have the same bytes from there on
pub head-same : (xs ys : List Piece) (i : ℕ) (x : Piece) → i < length xs → get_or xs i x ≡ x → drop i (piece_bytes xs) ≡ drop i (piece_bytes ys)
    → x.bytes.items ≡ get_or (piece_bytes ys) i []
head-same xs ys i x less e same =
    sym (found xs i x less e) ∙ first (piece_bytes xs) i ∙ ap (λ (zs : List (List ℕ)). get_or zs 0 []) same ∙ sym (first (piece_bytes ys) i)
  where
    found : (zs : List Piece) (n : ℕ) (z : Piece) → n < length zs → get_or zs n z ≡ z → get_or (piece_bytes zs) n [] ≡ z.bytes.items
    found [] n z less e = absurd (omega arith)
    found (q ∷ qs) zero z less e = ap (λ (p : Piece). p.bytes.items) e
    found (q ∷ qs) (suc n) z less e = found qs n z (omega arith) e

    first : (zs : List (List ℕ)) (n : ℕ) → get_or zs n [] ≡ get_or (drop n zs) 0 []
    first zs zero = refl
    first [] (suc n) = refl
    first (z ∷ zs) (suc n) = first zs n

-- behind a piece with other bytes all is as before
pub rest-set : (xs ys : List Piece) (i : ℕ) (p : Piece) → drop i (piece_bytes xs) ≡ drop i (piece_bytes ys)
    → drop (i + 1) (piece_bytes (set xs i p)) ≡ drop (i + 1) (piece_bytes ys)
rest-set xs ys i p same = subst (λ (n : ℕ). drop n (piece_bytes (set xs i p)) ≡ drop n (piece_bytes ys)) next (behind xs i p ∙ drop-next (piece_bytes xs) (piece_bytes ys) i same)
  where
    next : suc i ≡ i + 1
    next = omega arith

    behind : (zs : List Piece) (n : ℕ) (q : Piece) → drop (suc n) (piece_bytes (set zs n q)) ≡ drop (suc n) (piece_bytes zs)
    behind [] n q = refl
    behind (z ∷ zs) zero q = refl
    behind (z ∷ zs) (suc n) q = behind zs n q

-- a piece with other bytes lies where it lay
pub regions-set : (xs : List Piece) (i : ℕ) (bytes : Buffer) (x : Piece) → i < length xs → get_or xs i x ≡ x
    → piece_regions (set xs i (record { range = x.range; bytes = bytes })) ≡ piece_regions xs
regions-set [] i bytes x less e = refl
regions-set (q ∷ qs) zero bytes x less e = λ k. (sym e k).range ∷ piece_regions qs
regions-set (q ∷ qs) (suc i) bytes x less e = ap (λ (rs : List Region). q.range ∷ rs) (regions-set qs i bytes x (omega arith) e)

-- whether the range at a place is read-write
pub access-at : (ranges : List MemRange) (i : ℕ) (d : MemRange) (b : Bool) → i < length ranges → get_or (read_write_of ranges) i b ≡ allows_writing (get_or ranges i d).access
access-at [] i d b less = absurd (omega arith)
access-at (r ∷ rs) zero d b less = refl
access-at (r ∷ rs) (suc i) d b less = access-at rs i d b (omega arith)

-- the same of windows, and the pieces so far
pub window-same : (xs ys : List Window) (i : ℕ) (x : Window) → i < length xs → get_or xs i x ≡ x → drop i (window_bytes xs) ≡ drop i (window_bytes ys)
    → x.bytes.items ≡ get_or (window_bytes ys) i []
window-same xs ys i x less e same =
    sym (found xs i x less e) ∙ first (window_bytes xs) i ∙ ap (λ (zs : List (List ℕ)). get_or zs 0 []) same ∙ sym (first (window_bytes ys) i)
  where
    found : (zs : List Window) (n : ℕ) (z : Window) → n < length zs → get_or zs n z ≡ z → get_or (window_bytes zs) n [] ≡ z.bytes.items
    found [] n z less e = absurd (omega arith)
    found (q ∷ qs) zero z less e = ap (λ (p : Window). p.bytes.items) e
    found (q ∷ qs) (suc n) z less e = found qs n z (omega arith) e

    first : (zs : List (List ℕ)) (n : ℕ) → get_or zs n [] ≡ get_or (drop n zs) 0 []
    first zs zero = refl
    first [] (suc n) = refl
    first (z ∷ zs) (suc n) = first zs n

pub windows-set : (xs ys : List Window) (i : ℕ) (w : Window) → drop i (window_bytes xs) ≡ drop i (window_bytes ys)
    → drop (i + 1) (window_bytes (set xs i w)) ≡ drop (i + 1) (window_bytes ys)
windows-set xs ys i w same = subst (λ (n : ℕ). drop n (window_bytes (set xs i w)) ≡ drop n (window_bytes ys)) next (behind xs i w ∙ drop-next (window_bytes xs) (window_bytes ys) i same)
  where
    next : suc i ≡ i + 1
    next = omega arith

    behind : (zs : List Window) (n : ℕ) (q : Window) → drop (suc n) (window_bytes (set zs n q)) ≡ drop (suc n) (window_bytes zs)
    behind [] n q = refl
    behind (z ∷ zs) zero q = refl
    behind (z ∷ zs) (suc n) q = behind zs n q

pub bytes-set : (xs : List Piece) (i : ℕ) (p : Piece) → piece_bytes (set xs i p) ≡ set (piece_bytes xs) i p.bytes.items
bytes-set [] i p = refl
bytes-set (q ∷ qs) zero p = refl
bytes-set (q ∷ qs) (suc i) p = ap (λ (bs : List (List ℕ)). q.bytes.items ∷ bs) (bytes-set qs i p)
