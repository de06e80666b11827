-- Parts of lists that are joined, of bytes that are missing, and of bytes that are there.
use Rattle.std.proofs.Common.{◌≡◌, ℕ, zero, suc, ◌+◌, ◌-◌, ◌<◌, ◌≤◌, Bool, false, ltb, ◌||◌, ◌&&◌, List, [], ◌∷◌, ◌++◌, Option, Some, None, is_some, length, take, drop, map, replicate, sym, refl, ap, ◌∙◌, ⊎_elim, arith}
use Rattle.std.specs.List.{list_any}
use Rattle.std.proofs.lemmas.Bool.{and_from, and_left, and_right, cases_lt, le-ltb, lt-ltb}
use Rattle.std.proofs.lemmas.List.{append_assoc, length-drop}
use Rattle.std.proofs.lemmas.List.Folds.{list_any-append}
use Rattle.cp_base.specs.Pieces.{patched}

module _ {X : Type 0} where
  pub take_both : (n : ℕ) (xs ys : List X) → take n (xs ++ ys) ≡ take n xs ++ take (n - length xs) ys
  take_both zero xs ys = let e : 0 ≡ 0 - length xs = omega arith in ap (λ (k : ℕ). take k ys) e
  take_both (suc n) [] ys = let e : suc n ≡ suc n - 0 = omega arith in ap (λ (k : ℕ). take k ys) e
  take_both (suc n) (x ∷ xs) ys =
      let e : n - length xs ≡ suc n - suc (length xs) = omega arith in
      ap (λ (rest : List X). x ∷ rest) (take_both n xs ys ∙ ap (λ (k : ℕ). take n xs ++ take k ys) e)

  pub drop_both : (i : ℕ) (xs ys : List X) → drop i (xs ++ ys) ≡ drop i xs ++ drop (i - length xs) ys
  drop_both zero xs ys = let e : 0 ≡ 0 - length xs = omega arith in ap (λ (k : ℕ). xs ++ drop k ys) e
  drop_both (suc i) [] ys = let e : suc i ≡ suc i - 0 = omega arith in ap (λ (k : ℕ). drop k ys) e
  drop_both (suc i) (x ∷ xs) ys =
      let e : i - length xs ≡ suc i - suc (length xs) = omega arith in
      drop_both i xs ys ∙ ap (λ (k : ℕ). drop i xs ++ drop k ys) e

  -- a test of a part of two lists that are joined
  pub any_both : (p : X → Bool) (i n : ℕ) (xs ys : List X)
      → list_any p (take n (drop i (xs ++ ys))) ≡ (list_any p (take n (drop i xs)) || list_any p (take (n - (length xs - i)) (drop (i - length xs) ys)))
  any_both p i n xs ys =
      ap (λ (zs : List X). list_any p (take n zs)) (drop_both i xs ys)
      ∙ ap (list_any p) (take_both n (drop i xs) (drop (i - length xs) ys))
      ∙ list_any-append p (take n (drop i xs)) (take (n - length (drop i xs)) (drop (i - length xs) ys))
      ∙ ap (λ (k : ℕ). list_any p (take n (drop i xs)) || list_any p (take (n - k) (drop (i - length xs) ys))) (length-drop i xs)

  -- the same, by other names of the numbers
  pub any_behind : (p : X → Bool) (i n j m : ℕ) (xs ys : List X) → j ≡ i - length xs → m ≡ n - (length xs - i)
      → list_any p (take n (drop i (xs ++ ys))) ≡ (list_any p (take n (drop i xs)) || list_any p (take m (drop j ys)))
  any_behind p i n j m xs ys e f =
      any_both p i n xs ys
      ∙ ap (λ (k : ℕ). list_any p (take n (drop i xs)) || list_any p (take k (drop (i - length xs) ys))) (sym f)
      ∙ ap (λ (k : ℕ). list_any p (take n (drop i xs)) || list_any p (take m (drop k ys))) (sym e)

  take_past : (n : ℕ) (xs ys : List X) → length xs ≤ n → take n (xs ++ ys) ≡ xs ++ take (n - length xs) ys
  take_past n [] ys h = let e : n ≡ n - 0 = omega arith in ap (λ (k : ℕ). take k ys) e
  take_past zero (x ∷ xs) ys h = absurd (omega arith)
  take_past (suc n) (x ∷ xs) ys h =
      let e : n - length xs ≡ suc n - suc (length xs) = omega arith in
      ap (λ (rest : List X). x ∷ rest) (take_past n xs ys (omega arith) ∙ ap (λ (k : ℕ). xs ++ take k ys) e)

  drop_past : (n : ℕ) (xs ys : List X) → length xs ≤ n → drop n (xs ++ ys) ≡ drop (n - length xs) ys
  drop_past n [] ys h = let e : n ≡ n - 0 = omega arith in ap (λ (k : ℕ). drop k ys) e
  drop_past zero (x ∷ xs) ys h = absurd (omega arith)
  drop_past (suc n) (x ∷ xs) ys h =
      let e : n - length xs ≡ suc n - suc (length xs) = omega arith in
      drop_past n xs ys (omega arith) ∙ ap (λ (k : ℕ). drop k ys) e

  -- what is put behind the first of two lists is put into the second
  pub patched_behind : (xs ys new : List X) (i j : ℕ) → i ≡ length xs + j → patched (xs ++ ys) i new ≡ xs ++ patched ys j new
  patched_behind xs ys new i j e =
      let front : take i (xs ++ ys) ≡ xs ++ take j ys = take_past i xs ys (omega arith) ∙ (let k : i - length xs ≡ j = omega arith in ap (λ (n : ℕ). xs ++ take n ys) k) in
      let back : drop (i + length new) (xs ++ ys) ≡ drop (j + length new) ys =
      drop_past (i + length new) xs ys (omega arith) ∙ (let k : i + length new - length xs ≡ j + length new = omega arith in ap (λ (n : ℕ). drop n ys) k) in
      ap (λ (zs : List X). zs ++ new ++ drop (i + length new) (xs ++ ys)) front
      ∙ ap (λ (zs : List X). (xs ++ take j ys) ++ new ++ zs) back
      ∙ ap (λ (zs : List X). zs ++ drop (j + length new) ys) (append_assoc xs (take j ys) new)
      ∙ append_assoc xs (take j ys ++ new) (drop (j + length new) ys)

-- two comparisons that say the same
pub same_less : (a b m n : ℕ) → (a < b → m < n) → (m < n → a < b) → ltb a b ≡ ltb m n
same_less a b m n f g =
    ⊎_elim (λ (yes : a < b). lt-ltb a b yes ∙ sym (lt-ltb m n (f yes)))
    (λ (no : b ≤ a). le-ltb a b no ∙ sym (le-ltb m n (⊎_elim (λ (less : m < n). let more : a < b = g less in absurd (omega arith)) (λ (h : n ≤ m). h) (cases_lt m n))))
    (cases_lt a b)

-- of bytes that are missing none is there
any_taken_missing : (n m : ℕ) → list_any (λ (byte : Option ℕ). is_some byte) (take n (replicate m None)) ≡ false
any_taken_missing zero m = refl
any_taken_missing (suc n) zero = refl
any_taken_missing (suc n) (suc m) = any_taken_missing n m

pub any_missing : (i n m : ℕ) → list_any (λ (byte : Option ℕ). is_some byte) (take n (drop i (replicate m None))) ≡ false
any_missing zero n m = any_taken_missing n m
any_missing (suc i) zero zero = refl
any_missing (suc i) (suc n) zero = refl
any_missing (suc i) n (suc m) = any_missing i n m

-- of bytes that are there, one is in each part that is not empty
pub any_known : (i n : ℕ) (bytes : List ℕ) → list_any (λ (byte : Option ℕ). is_some byte) (take n (drop i (map (λ byte. Some byte) bytes))) ≡ (ltb i (length bytes) && ltb 0 n)
any_known zero zero [] = refl
any_known zero (suc n) [] = refl
any_known (suc i) zero [] = sym (and_left (ltb (suc i) 0) (ltb 0 0) (le-ltb (suc i) 0 (omega arith)))
any_known (suc i) (suc n) [] = sym (and_left (ltb (suc i) 0) (ltb 0 (suc n)) (le-ltb (suc i) 0 (omega arith)))
any_known zero zero (byte ∷ bytes) = sym (and_right (ltb 0 (suc (length bytes))) (ltb 0 0) refl)
any_known zero (suc n) (byte ∷ bytes) = sym (and_from (ltb 0 (suc (length bytes))) (ltb 0 (suc n)) (lt-ltb 0 (suc (length bytes)) (omega arith)) (lt-ltb 0 (suc n) (omega arith)))
any_known (suc i) n (byte ∷ bytes) =
    any_known i n bytes ∙ ap (λ (b : Bool). b && ltb 0 n) (same_less i (length bytes) (suc i) (suc (length bytes)) (λ h. omega arith) (λ h. omega arith))
