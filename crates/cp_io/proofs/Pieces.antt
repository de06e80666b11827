-- Fronts of lists.
use Rattle.std.proofs.Common.{◌≡◌, ℕ, ◌+◌, ◌≤◌, List, ◌++◌, length, take, drop, sym, ap, ◌∙◌, arith, take-append-drop}
use Rattle.std.proofs.lemmas.List.{take-take, drop-take, take_at, length-take-le}

-- a longer front is the front and a front of the rest
pub take-add : (m n : ℕ) (xs : List ℕ) → take (m + n) xs ≡ take m xs ++ take n (drop m xs)
take-add m n xs =
    let within : m ≤ m + n = omega arith in
    sym (take-append-drop m (take (m + n) xs)) ∙ ap (λ (l : List ℕ). l ++ drop m (take (m + n) xs)) (take-take m (m + n) xs within) ∙ ap (λ (l : List ℕ). take m xs ++ l) (drop-take m n xs)

-- a list whose front was put before other bytes is those bytes' front and the rest
pub front_moved : (n : ℕ) (xs front others : List ℕ) → n ≤ length xs → front ≡ take n xs → xs ≡ take n (front ++ others) ++ drop n xs
front_moved n xs front others within is =
    let long : length front ≡ n = ap length is ∙ length-take-le n xs within in
    sym (take-append-drop n xs) ∙ ap (λ (l : List ℕ). l ++ drop n xs) (sym (take_at front others n long ∙ is))
