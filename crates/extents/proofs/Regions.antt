-- The bytes of a region of one of the namespaces.
use Rattle.std.proofs.Common.{◌≡◌, ℕ, zero, suc, ◌*◌, ◌+◌, ◌-◌, ◌<◌, ◌≤◌, Bool, true, false, not, ◌||◌, ◌&&◌, List, [], ◌∷◌, ◌++◌, Option, Some, None, length, take, drop, map, replicate, get_or, set, sym, refl, ap, ◌∙◌, subst, ◌⊎◌, ⊎_elim, inl, inr, arith, unwrap_or, slice_get}
use Rattle.std.specs.Option.{IsSome, MatchOption}
use Rattle.std.specs.Result.{IfOk, OnOk}
use Rattle.std.specs.declared.result.Result.{Result}
use Rattle.std.specs.declared.result.Result.TheVariants.{Err, Ok}
use Rattle.std.proofs.lemmas.Bool.{cases_eq, cases_lt, eq-eqb, ne_eqb}
use Rattle.std.proofs.lemmas.List.{append_assoc, drop-map, drop_at, get_or-append_right, get_or-drop, get_or-map, get_or-take, get_or_append_left, get_or-set_same, get_or_past, length-append, length-drop, length-map, length-replicate, length-set, length-take-le, take-append-drop, take-map, take_at}
use Rattle.std.proofs.lemmas.Option.{slice_get-get_or, slice_get_past}
use Rattle.cp_base.specs.Configuration.{Configuration, numbered}
use Rattle.cp_base.specs.Contents.{all_zero, bytes_of, zeros}
use Rattle.cp_base.specs.Pieces.{patched, piece}
use Rattle.cp_base.specs.Region.{Region}
use Rattle.cp_base.specs.Sharing.{IsIn, same_space}
use Rattle.cp_base.specs.declared.region.SpaceId.{SpaceId}
use Rattle.cp_base.specs.declared.region.SpaceId.TheVariants.{Nvm, Mem}
use Rattle.extents.specs.Homes.{AreBytesAt, AreHere, Homes, IsAtHome, IsBroughtBack, IsSpacePut, IsSpaceTaken, IsTakenAway, SpaceHome, has_hole, home_of, home_under, is_hole, known_at, same_hole, zero_spaces}
use Rattle.extents.proofs.Tiling.{no_byte}

-- whether two namespaces are the same
space_cases : (a b : SpaceId) → ((same_space a b ≡ true) × (a ≡ b)) ⊎ ((same_space a b ≡ false) × (a ≡ b → ⊥))
space_cases (Nvm m) (Nvm n) =
    ⊎_elim (λ (same : m ≡ n). inl (eq-eqb m n same, ap Nvm same)) (λ (other : m ≡ n → ⊥). inr (ne_eqb m n other, λ e. other (number m n e))) (cases_eq m n)
  where
    number : (m n : ℕ) → Nvm m ≡ Nvm n → m ≡ n
    number m n e = cc
space_cases (Mem m) (Mem n) =
    ⊎_elim (λ (same : m ≡ n). inl (eq-eqb m n same, ap Mem same)) (λ (other : m ≡ n → ⊥). inr (ne_eqb m n other, λ e. other (number m n e))) (cases_eq m n)
  where
    number : (m n : ℕ) → Mem m ≡ Mem n → m ≡ n
    number m n e = cc
space_cases (Nvm m) (Mem n) = inr (refl, λ e. apart m n e)
  where
    apart : (m n : ℕ) → Nvm m ≡ Mem n → ⊥
    apart m n e = cc
space_cases (Mem m) (Nvm n) = inr (refl, λ e. apart m n e)
  where
    apart : (m n : ℕ) → Mem m ≡ Nvm n → ⊥
    apart m n e = cc

-- ---- bytes over others

patched_in : (xs ys : List (Option ℕ)) (s k : ℕ) → s + length ys ≤ length xs → s ≤ k → k < s + length ys → get_or (patched xs s ys) k None ≡ get_or ys (k - s) None
patched_in xs ys s k fits low high =
    let front : length (take s xs) ≡ s = length-take-le s xs (omega (arith, fits)) in
    ap (λ (zs : List (Option ℕ)). get_or zs k None) (append_assoc (take s xs) ys (drop (s + length ys) xs))
    ∙ get_or-append_right (take s xs) (ys ++ drop (s + length ys) xs) s k None front low
    ∙ get_or_append_left ys (drop (s + length ys) xs) None (k - s) (omega arith)

patched_out : (xs ys : List (Option ℕ)) (s k : ℕ) → s + length ys ≤ length xs → (k < s) ⊎ (s + length ys ≤ k) → get_or (patched xs s ys) k None ≡ get_or xs k None
patched_out xs ys s k fits (inl before) =
    let front : length (take s xs) ≡ s = length-take-le s xs (omega (arith, fits)) in
    ap (λ (zs : List (Option ℕ)). get_or zs k None) (append_assoc (take s xs) ys (drop (s + length ys) xs))
    ∙ get_or_append_left (take s xs) (ys ++ drop (s + length ys) xs) None k (omega arith)
    ∙ get_or-take s xs k None before
patched_out xs ys s k fits (inr behind) =
    let front : length (take s xs ++ ys) ≡ s + length ys = length-append (take s xs) ys ∙ ap (λ (n : ℕ). n + length ys) (length-take-le s xs (omega (arith, fits))) in
    let i : s + length ys + (k - (s + length ys)) ≡ k = omega arith in
    get_or-append_right (take s xs ++ ys) (drop (s + length ys) xs) (s + length ys) k None front behind
    ∙ get_or-drop (s + length ys) xs (k - (s + length ys)) None ∙ ap (λ (j : ℕ). get_or xs j None) i

-- where a byte is at home, the namespace has it
pub within : (xs : List (Option ℕ)) (k : ℕ) → IsSome (get_or xs k None) → k < length xs
within xs k some = ⊎_elim (λ (less : k < length xs). less) (λ (past : length xs ≤ k). let e : IsSome {T = ℕ} None = subst IsSome (get_or_past xs k None past) some in absurd (cc)) (cases_lt k (length xs))

-- the bytes of a region, as a list
pub bytes_at : (homes : Homes) (region : Region) (bytes : List ℕ) (to : ℕ) → to ≡ region.start + region.len → to ≤ length (home_of homes region.space).bytes
    → map (λ byte. Some byte) bytes ≡ piece (home_of homes region.space).bytes region.start (to - region.start) → AreBytesAt homes region bytes
bytes_at homes region bytes to end fits same =
    let xs : List (Option ℕ) = (home_of homes region.space).bytes in
    let n : to - region.start ≡ region.len = omega arith in
    let size : length bytes ≡ region.len =
    sym (length-map bytes (λ byte. Some byte)) ∙ ap length same ∙ length-take-le (to - region.start) (drop region.start xs) (omega (arith, length-drop region.start xs)) ∙ n in
    record {
      length = size;
      each = λ k h.
          slice_get-get_or bytes k 0 (omega (arith, size))
          ∙ sym (get_or-map (λ byte. Some byte) bytes k 0 None (omega (arith, size)))
          ∙ ap (λ (zs : List (Option ℕ)). get_or zs k None) same
          ∙ get_or-take (to - region.start) (drop region.start xs) k None (omega arith)
          ∙ get_or-drop region.start xs k None;
    }

-- ---- what changes, from one namespace to all

-- a byte outside a region is in another namespace, or before or behind it
outside : (region : Region) (space : SpaceId) (offset : ℕ) → region.space ≡ space → (IsIn region space offset → ⊥) → (offset < region.start) ⊎ (region.start + region.len ≤ offset)
outside region space offset same out =
    ⊎_elim (λ (before : offset < region.start). inl before)
    (λ (low : region.start ≤ offset). ⊎_elim (λ (high : offset < region.start + region.len). absurd (out (same, low, high))) (λ (behind : region.start + region.len ≤ offset). inr behind) (cases_lt offset (region.start + region.len)))
    (cases_lt offset region.start)

pub taken_away : (old new : Homes) (region : Region) (to : ℕ) → to ≡ region.start + region.len → ((space : SpaceId) → (space ≡ region.space → ⊥) → home_of new space ≡ home_of old space)
    → IsSpaceTaken (home_of old region.space) (home_of new region.space) region.start to → to ≤ length (home_of old region.space).bytes → IsTakenAway old new region
taken_away old new region to end others taken fits =
    let xs : List (Option ℕ) = (home_of old region.space).bytes in
    let hole : List (Option ℕ) = replicate (to - region.start) None in
    let n : to - region.start ≡ region.len = omega arith in
    let size : length hole ≡ to - region.start = length-replicate {A = Option ℕ} (to - region.start) None in
    let bound : region.start + length hole ≤ length xs = omega arith in
    record {
      out = λ space offset inside.
          ap (λ (s : SpaceId). known_at new s offset) (sym inside.0)
          ∙ ap (λ (zs : List (Option ℕ)). get_or zs offset None) taken.bytes
          ∙ patched_in xs hole region.start offset bound inside.1 (omega (arith, inside.2)) ∙ no_byte (to - region.start) (offset - region.start);
      elsewhere = λ space offset out.
          ⊎_elim
          (λ (same : (same_space region.space space ≡ true) × (region.space ≡ space)).
          ap (λ (s : SpaceId). known_at new s offset) (sym same.1)
          ∙ ap (λ (zs : List (Option ℕ)). get_or zs offset None) taken.bytes
          ∙ patched_out xs hole region.start offset bound
          (⊎_elim (λ (before : offset < region.start). inl before) (λ (behind : region.start + region.len ≤ offset). inr (omega arith)) (outside region space offset same.1 out))
          ∙ ap (λ (s : SpaceId). known_at old s offset) same.1)
          (λ (other : (same_space region.space space ≡ false) × (region.space ≡ space → ⊥)).
          ap (λ (h : SpaceHome). get_or h.bytes offset None) (others space (λ e. other.1 (sym e))))
          (space_cases region.space space);
      holes = λ other.
          ⊎_elim
          (λ (same : (same_space region.space other.space ≡ true) × (region.space ≡ other.space)).
          ap (λ (s : SpaceId). has_hole (home_of new s).holes other.start other.len) (sym same.1)
          ∙ taken.holes other.start other.len
          ∙ ap (λ (l : ℕ). same_hole region.start l other.start other.len || has_hole (home_of old region.space).holes other.start other.len) n
          ∙ ap (λ (s : SpaceId). same_hole region.start region.len other.start other.len || has_hole (home_of old s).holes other.start other.len) same.1
          ∙ ap (λ (b : Bool). (b && same_hole region.start region.len other.start other.len) || is_hole old other) (sym same.0))
          (λ (apart : (same_space region.space other.space ≡ false) × (region.space ≡ other.space → ⊥)).
          ap (λ (h : SpaceHome). has_hole h.holes other.start other.len) (others other.space (λ e. apart.1 (sym e)))
          ∙ ap (λ (b : Bool). (b && same_hole region.start region.len other.start other.len) || is_hole old other) (sym apart.0))
          (space_cases region.space other.space);
    }

and_yes : (b : Bool) → b ≡ (b && true)
and_yes true = refl
and_yes false = refl

pub brought_back : (old new : Homes) (region : Region) (bytes : List ℕ) → length bytes ≡ region.len → ((space : SpaceId) → (space ≡ region.space → ⊥) → home_of new space ≡ home_of old space)
    → IsSpacePut (home_of old region.space) (home_of new region.space) region.start bytes → IsBroughtBack old new region bytes
brought_back old new region bytes size others filled =
    let xs : List (Option ℕ) = (home_of old region.space).bytes in
    let ys : List (Option ℕ) = map (λ byte. Some byte) bytes in
    let long : length ys ≡ length bytes = length-map bytes (λ byte. Some byte) in
    let bound : region.start + length ys ≤ length xs = omega (arith, filled.fits) in
    record {
      back = λ k h.
          let i : region.start + k - region.start ≡ k = omega arith in
          let inside : k < length bytes = omega arith in
          ap (λ (zs : List (Option ℕ)). get_or zs (region.start + k) None) filled.bytes
          ∙ patched_in xs ys region.start (region.start + k) bound (omega arith) (omega arith) ∙ ap (λ (j : ℕ). get_or ys j None) i
          ∙ get_or-map (λ byte. Some byte) bytes k 0 None inside ∙ sym (slice_get-get_or bytes k 0 inside);
      elsewhere = λ space offset out.
          ⊎_elim
          (λ (same : (same_space region.space space ≡ true) × (region.space ≡ space)).
          ap (λ (s : SpaceId). known_at new s offset) (sym same.1)
          ∙ ap (λ (zs : List (Option ℕ)). get_or zs offset None) filled.bytes
          ∙ patched_out xs ys region.start offset bound
          (⊎_elim (λ (before : offset < region.start). inl before) (λ (behind : region.start + region.len ≤ offset). inr (omega arith)) (outside region space offset same.1 out))
          ∙ ap (λ (s : SpaceId). known_at old s offset) same.1)
          (λ (other : (same_space region.space space ≡ false) × (region.space ≡ space → ⊥)).
          ap (λ (h : SpaceHome). get_or h.bytes offset None) (others space (λ e. other.1 (sym e))))
          (space_cases region.space space);
      holes = λ other.
          ⊎_elim
          (λ (same : (same_space region.space other.space ≡ true) × (region.space ≡ other.space)).
          ap (λ (s : SpaceId). has_hole (home_of new s).holes other.start other.len) (sym same.1)
          ∙ filled.holes other.start other.len
          ∙ ap (λ (l : ℕ). has_hole (home_of old region.space).holes other.start other.len && not (same_hole region.start l other.start other.len)) size
          ∙ ap (λ (s : SpaceId). has_hole (home_of old s).holes other.start other.len && not (same_hole region.start region.len other.start other.len)) same.1
          ∙ ap (λ (b : Bool). is_hole old other && not (b && same_hole region.start region.len other.start other.len)) (sym same.0))
          (λ (apart : (same_space region.space other.space ≡ false) × (region.space ≡ other.space → ⊥)).
          ap (λ (h : SpaceHome). has_hole h.holes other.start other.len) (others other.space (λ e. apart.1 (sym e))) ∙ and_yes (is_hole old other)
          ∙ ap (λ (b : Bool). is_hole old other && not (b && same_hole region.start region.len other.start other.len)) (sym apart.0))
          (space_cases region.space other.space);
    }

-- ---- numbers

-- a number with a byte is that of a namespace
pub number_has : (spaces : List SpaceHome) (n k : ℕ) → IsSome (get_or (home_under spaces n).bytes k None) → (0 < n) × (n ≤ length spaces)
number_has spaces zero k some = absurd (cc)
number_has spaces (suc m) k some =
    ⊎_elim (λ (less : m < length spaces). (omega arith, omega arith))
    (λ (past : length spaces ≤ m).
    let e : IsSome {T = ℕ} None = subst (λ (o : Option SpaceHome). IsSome (get_or (unwrap_or o (record { bytes = []; holes = [] })).bytes k None)) (slice_get_past spaces m past) some in absurd (cc)) (cases_lt m (length spaces))

pub number_holes : (spaces : List SpaceHome) (n start len : ℕ) → has_hole (home_under spaces n).holes start len ≡ true → (0 < n) × (n ≤ length spaces)
number_holes spaces zero start len some = absurd (cc)
number_holes spaces (suc m) start len some =
    ⊎_elim (λ (less : m < length spaces). (omega arith, omega arith))
    (λ (past : length spaces ≤ m).
    let e : false ≡ true = subst (λ (o : Option SpaceHome). has_hole (unwrap_or o (record { bytes = []; holes = [] })).holes start len ≡ true) (slice_get_past spaces m past) some in absurd (cc)) (cases_lt m (length spaces))

pub under_read : (spaces : List SpaceHome) (n : ℕ) (s : SpaceHome) → 0 < n → n ≤ length spaces → s ≡ get_or spaces (n - 1) s → home_under spaces n ≡ s
under_read spaces zero s low high read = absurd (omega arith)
under_read spaces (suc m) s low high read =
    let i : suc m - 1 ≡ m = omega arith in
    ap (λ (o : Option SpaceHome). unwrap_or o (record { bytes = []; holes = [] })) (slice_get-get_or spaces m s (omega arith)) ∙ sym (read ∙ ap (λ (j : ℕ). get_or spaces j s) i)

pub under_set : (spaces : List SpaceHome) (n : ℕ) (s : SpaceHome) → 0 < n → n ≤ length spaces → home_under (set spaces (n - 1) s) n ≡ s
under_set spaces zero s low high = absurd (omega arith)
under_set spaces (suc m) s low high =
    let i : suc m - 1 ≡ m = omega arith in
    ap (λ (j : ℕ). home_under (set spaces j s) (suc m)) i
    ∙ ap (λ (o : Option SpaceHome). unwrap_or o (record { bytes = []; holes = [] })) (slice_get-get_or (set spaces m s) m s (omega (arith, length-set spaces m s)))
    ∙ get_or-set_same spaces m s s (omega arith)

pub under_other : (spaces : List SpaceHome) (n m : ℕ) (s : SpaceHome) → 0 < n → (m ≡ n → ⊥) → home_under (set spaces (n - 1) s) m ≡ home_under spaces m
under_other spaces n zero s low other = refl
under_other spaces n (suc m) s low other = ap (λ (o : Option SpaceHome). unwrap_or o (record { bytes = []; holes = [] })) (set_elsewhere spaces (n - 1) m s (λ e. other (omega arith)))
  where
    set_elsewhere : (xs : List SpaceHome) (i j : ℕ) (s : SpaceHome) → (j ≡ i → ⊥) → slice_get (set xs i s) j ≡ slice_get xs j
    set_elsewhere [] i j s other = refl
    set_elsewhere (x ∷ xs) zero zero s other = absurd (other refl)
    set_elsewhere (x ∷ xs) zero (suc j) s other = refl
    set_elsewhere (x ∷ xs) (suc i) zero s other = refl
    set_elsewhere (x ∷ xs) (suc i) (suc j) s other = set_elsewhere xs i j s (λ e. other (ap suc e))

-- ---- zeros

same_zero : (n k : ℕ) → get_or (replicate {A = Option ℕ} n (Some 0)) k None ≡ slice_get (replicate {A = ℕ} n 0) k
same_zero zero k = refl
same_zero (suc n) zero = refl
same_zero (suc n) (suc k) = same_zero n k

pub zero_known : (unit : ℕ) (sizes : List ℕ) (n k : ℕ) → get_or (home_under (zero_spaces unit sizes) n).bytes k None ≡ slice_get (unwrap_or (numbered (zeros unit sizes) n) []) k
zero_known unit sizes zero k = refl
zero_known unit [] (suc m) k = refl
zero_known unit (size ∷ sizes) (suc zero) k = same_zero (size * unit) k
zero_known unit (size ∷ sizes) (suc (suc m)) k = zero_known unit sizes (suc m) k

pub zero_holes : (unit : ℕ) (sizes : List ℕ) (n start len : ℕ) → has_hole (home_under (zero_spaces unit sizes) n).holes start len ≡ false
zero_holes unit sizes zero start len = refl
zero_holes unit [] (suc m) start len = refl
zero_holes unit (size ∷ sizes) (suc zero) start len = refl
zero_holes unit (size ∷ sizes) (suc (suc m)) start len = zero_holes unit sizes (suc m) start len

pub all_zero_known : (nvm mem : List SpaceHome) (c : Configuration) → nvm ≡ zero_spaces c.block c.nvm → mem ≡ zero_spaces 1 c.mem → (space : SpaceId) (offset : ℕ)
    → known_at (record { nvm = nvm; mem = mem }) space offset ≡ slice_get (bytes_of (all_zero c) space) offset
all_zero_known nvm mem c n m (Nvm k) offset = ap (λ (spaces : List SpaceHome). get_or (home_under spaces k).bytes offset None) n ∙ zero_known c.block c.nvm k offset
all_zero_known nvm mem c n m (Mem k) offset = ap (λ (spaces : List SpaceHome). get_or (home_under spaces k).bytes offset None) m ∙ zero_known 1 c.mem k offset

whole_in : (nvm mem : List SpaceHome) (c : Configuration) → nvm ≡ zero_spaces c.block c.nvm → mem ≡ zero_spaces 1 c.mem → (space : SpaceId) (start len : ℕ)
    → has_hole (home_of (record { nvm = nvm; mem = mem }) space).holes start len ≡ false
whole_in nvm mem c n m (Nvm k) start len = ap (λ (spaces : List SpaceHome). has_hole (home_under spaces k).holes start len) n ∙ zero_holes c.block c.nvm k start len
whole_in nvm mem c n m (Mem k) start len = ap (λ (spaces : List SpaceHome). has_hole (home_under spaces k).holes start len) m ∙ zero_holes 1 c.mem k start len

pub all_whole : (nvm mem : List SpaceHome) (c : Configuration) → nvm ≡ zero_spaces c.block c.nvm → mem ≡ zero_spaces 1 c.mem → (region : Region)
    → is_hole (record { nvm = nvm; mem = mem }) region ≡ false
all_whole nvm mem c n m region = whole_in nvm mem c n m region.space region.start region.len

-- ---- namespaces that did not change

pub others_nvm : (old : Homes) (spaces : List SpaceHome) (n : ℕ) → ((m : ℕ) → (m ≡ n → ⊥) → home_under spaces m ≡ home_under old.nvm m) → (space : SpaceId) → (space ≡ Nvm n → ⊥)
    → home_of (record { nvm = spaces; mem = old.mem }) space ≡ home_of old space
others_nvm old spaces n same (Nvm m) other = same m (λ e. other (ap Nvm e))
others_nvm old spaces n same (Mem m) other = refl

pub others_mem : (old : Homes) (spaces : List SpaceHome) (n : ℕ) → ((m : ℕ) → (m ≡ n → ⊥) → home_under spaces m ≡ home_under old.mem m) → (space : SpaceId) → (space ≡ Mem n → ⊥)
    → home_of (record { nvm = old.nvm; mem = spaces }) space ≡ home_of old space
others_mem old spaces n same (Mem m) other = same m (λ e. other (ap Mem e))
others_mem old spaces n same (Nvm m) other = refl

-- ---- regions at home

pub here_from : (homes : Homes) (region : Region) (from to : ℕ) → from ≡ region.start → to ≡ region.start + region.len → IsAtHome homes region → AreHere (home_of homes region.space) from to
here_from homes region from to first last home at low high = home region.space at (refl, omega (arith, first, low), omega (arith, last, high))

pub fits_from : (homes : Homes) (region : Region) (to : ℕ) → to ≡ region.start + region.len → 0 < region.len → IsAtHome homes region → to ≤ length (home_of homes region.space).bytes
fits_from homes region to last some home =
    let inside = within (home_of homes region.space).bytes (region.start + region.len - 1) (home region.space (region.start + region.len - 1) (refl, omega arith, omega arith)) in
    omega arith

pub some_space : {X : Type 0} (r : Option X) (homes : Homes) (region : Region) (Q : X → Type 0) → MatchOption r ((at : ℕ) → known_at homes region.space at ≡ None) Q → 0 < region.len → IsAtHome homes region → IsSome r
some_space (Some x) homes region Q m some home = refl
some_space None homes region Q m some home =
    let e : IsSome {T = ℕ} None = subst IsSome (m region.start) (home region.space region.start (refl, omega arith, omega arith)) in absurd (cc)

pub ok_then : {A E : Type 0} (r : Result A E) (P Q : A → Type 0) → ((x : A) → P x → Q x) → IfOk r P → IfOk r Q
ok_then (Ok x) P Q f h = f x h
ok_then (Err e) P Q f h = h

pub then_ok : {A E : Type 0} (r : Result A E) (P Q : Type 0) → (P → Q) → OnOk r P → OnOk r Q
then_ok (Ok x) P Q f h = f h
then_ok (Err e) P Q f h = h

-- bytes that were appended
some_same : (xs ys : List ℕ) → map (λ byte. Some byte) xs ≡ map (λ byte. Some byte) ys → xs ≡ ys
some_same [] [] e = refl
some_same [] (y ∷ ys) e = absurd (cc)
some_same (x ∷ xs) [] e = absurd (cc)
some_same (x ∷ xs) (y ∷ ys) e =
    let first : x ≡ y = cc in
    let rest : map (λ byte. Some byte) xs ≡ map (λ byte. Some byte) ys = cc in
    ap (λ (z : ℕ). z ∷ xs) first ∙ ap (λ (zs : List ℕ). y ∷ zs) (some_same xs ys rest)

pub text_of : (old new : List ℕ) (xs : List (Option ℕ)) → map (λ byte. Some byte) new ≡ map (λ byte. Some byte) old ++ xs → map (λ byte. Some byte) (drop (length old) new) ≡ xs
text_of old new xs e =
    sym (drop-map (λ byte. Some byte) (length old) new) ∙ ap (drop (length old)) e ∙ drop_at (map (λ byte. Some byte) old) xs (length old) (length-map old (λ byte. Some byte))

pub appended_to : (old new : List ℕ) (xs : List (Option ℕ)) → map (λ byte. Some byte) new ≡ map (λ byte. Some byte) old ++ xs → new ≡ old ++ drop (length old) new
appended_to old new xs e =
    let front : take (length old) new ≡ old = some_same (take (length old) new) old
    (sym (take-map (λ byte. Some byte) (length old) new) ∙ ap (take (length old)) e ∙ take_at (map (λ byte. Some byte) old) xs (length old) (length-map old (λ byte. Some byte))) in
    sym (take-append-drop (length old) new) ∙ ap (λ (zs : List ℕ). zs ++ drop (length old) new) front

-- ---- the same, for the namespace, the first and the last place that a caller has

pub bytes_here : (homes : Homes) (region : Region) (s : SpaceId) (from to : ℕ) (bytes : List ℕ) → s ≡ region.space → from ≡ region.start → to ≡ from + region.len → 0 < region.len → IsAtHome homes region
    → map (λ byte. Some byte) bytes ≡ piece (home_of homes s).bytes from (to - from) → AreBytesAt homes region bytes
bytes_here homes region s from to bytes es ef et some home same =
    let moved : map (λ byte. Some byte) bytes ≡ piece (home_of homes region.space).bytes from (to - from) =
    subst (λ (t : SpaceId). map (λ byte. Some byte) bytes ≡ piece (home_of homes t).bytes from (to - from)) es same in
    let placed : map (λ byte. Some byte) bytes ≡ piece (home_of homes region.space).bytes region.start (to - region.start) =
    subst (λ (f : ℕ). map (λ byte. Some byte) bytes ≡ piece (home_of homes region.space).bytes f (to - f)) ef moved in
    bytes_at homes region bytes to (omega arith) (fits_from homes region to (omega arith) some home) placed

pub taken_here : (old new : Homes) (region : Region) (s : SpaceId) (from to : ℕ) → s ≡ region.space → from ≡ region.start → to ≡ from + region.len → 0 < region.len → IsAtHome old region
    → ((space : SpaceId) → (space ≡ s → ⊥) → home_of new space ≡ home_of old space) → IsSpaceTaken (home_of old s) (home_of new s) from to → IsTakenAway old new region
taken_here old new region s from to es ef et some home others taken =
    let moved : IsSpaceTaken (home_of old region.space) (home_of new region.space) from to = subst (λ (t : SpaceId). IsSpaceTaken (home_of old t) (home_of new t) from to) es taken in
    let placed : IsSpaceTaken (home_of old region.space) (home_of new region.space) region.start to =
    subst (λ (f : ℕ). IsSpaceTaken (home_of old region.space) (home_of new region.space) f to) ef moved in
    taken_away old new region to (omega arith) (λ space other. others space (λ e. other (e ∙ es))) placed (fits_from old region to (omega arith) some home)

pub put_here : (old new : Homes) (region : Region) (s : SpaceId) (from : ℕ) (bytes : List ℕ) → s ≡ region.space → from ≡ region.start → length bytes ≡ region.len
    → ((space : SpaceId) → (space ≡ s → ⊥) → home_of new space ≡ home_of old space) → IsSpacePut (home_of old s) (home_of new s) from bytes → IsBroughtBack old new region bytes
put_here old new region s from bytes es ef size others filled =
    let moved : IsSpacePut (home_of old region.space) (home_of new region.space) from bytes = subst (λ (t : SpaceId). IsSpacePut (home_of old t) (home_of new t) from bytes) es filled in
    let placed : IsSpacePut (home_of old region.space) (home_of new region.space) region.start bytes =
    subst (λ (f : ℕ). IsSpacePut (home_of old region.space) (home_of new region.space) f bytes) ef moved in
    brought_back old new region bytes size (λ space other. others space (λ e. other (e ∙ es))) placed
