-- The walk step by step: it has places enough, so each step is one instruction.
use Rattle.std.proofs.Common.{◌≡◌, ◌≢◌, ℕ, zero, suc, ◌<◌, ◌≤◌, ◌*◌, ◌+◌, ◌==◌, Bool, true, false, ◌||◌, List, length, slice_index, Option, Some, None, refl, sym, ap, ◌∙◌, arith, eqb-true, eq-eqb, inl, inr}
use Rattle.std.proofs.lemmas.Bool.{or_cases, ltb-true, lt-ltb, and_parts, and_from, cases_lt, true≢false}
use Rattle.std.proofs.Math.Bool.{or-true, or-false}
use Rattle.std.specs.Prelude.{is_some, IsSome, All, nat_lt, ◌↔◌}
use Rattle.std.specs.Option.{option_map_or}
use Rattle.bpf_isa.specs.declared.insn.Insn.{Insn}
use Rattle.bpf_model.specs.Form.{form}
use Rattle.bpf_model.specs.Walk.{units_of, reaches, stop_from, IsStart, bad_place, IsWellFormed}
use Rattle.bpf_model.proofs.BothWays.{form-inside, form-room, units_of-pos, bytes_small}

-- two walks that agree behind each instruction agree before it
reaches-follow : (n : ℕ) (code : List ℕ) (p q : ℕ)
    → ((i : Insn) → form code p ≡ Some i → reaches n code (p + units_of i) q ≡ reaches (suc n) code (p + units_of i) q)
    → reaches (suc n) code p q ≡ reaches (suc (suc n)) code p q
reaches-follow n code p q later = by_form (form code p) refl
  where
    by_form : (o : Option Insn) → form code p ≡ o
        → (p == q || option_map_or (λ i. reaches n code (p + units_of i) q) o false) ≡ (p == q || option_map_or (λ i. reaches (suc n) code (p + units_of i) q) o false)
    by_form None e = refl
    by_form (Some i) e = ap (λ (b : Bool). p == q || b) (later i e)

-- a walk that may go past the end of the code finds nothing in a further step
reaches-more : (n : ℕ) (code : List ℕ) (p q : ℕ) → length code < 8 * (p + suc n) → reaches (suc n) code p q ≡ reaches (suc (suc n)) code p q
reaches-more zero code p q enough = reaches-follow zero code p q (λ i e. let room = form-room code p i e in absurd (omega arith))
reaches-more (suc m) code p q enough =
    reaches-follow (suc m) code p q (λ i e. let pos = units_of-pos i in reaches-more m code (p + units_of i) q (omega arith))

reaches-enough : (n : ℕ) (code : List ℕ) (p q : ℕ) → length code ≤ n → 0 < length code → reaches n code p q ≡ reaches (suc n) code p q
reaches-enough zero code p q enough some = absurd (omega arith)
reaches-enough (suc m) code p q enough some = reaches-more m code p q (omega arith)

-- a step of the walk over an instruction
pub reaches-some : (code : List ℕ) (p q : ℕ) (i : Insn) → form code p ≡ Some i
    → reaches (suc (length code)) code p q ≡ (p == q || reaches (suc (length code)) code (p + units_of i) q)
reaches-some code p q i e =
    let room = form-room code p i e in
    ap (λ (o : Option Insn). p == q || option_map_or (λ j. reaches (length code) code (p + units_of j) q) o false) e
    ∙ ap (λ (b : Bool). p == q || b) (reaches-enough (length code) code (p + units_of i) q (omega arith) (omega arith))

-- its last place
pub reaches-none : (code : List ℕ) (p q : ℕ) → form code p ≡ None → reaches (suc (length code)) code p q ≡ (p == q)
reaches-none code p q e =
    ap (λ (o : Option Insn). p == q || option_map_or (λ j. reaches (length code) code (p + units_of j) q) o false) e ∙ or-false (p == q)

-- the same of the place where the walk stops
stop-more : (n : ℕ) (code : List ℕ) (p : ℕ) → length code < 8 * (p + n) + 8 → stop_from n code p ≡ stop_from (suc n) code p
stop-more zero code p enough = by_form (form code p) refl
  where
    by_form : (o : Option Insn) → form code p ≡ o → p ≡ option_map_or (λ i. p + units_of i) o p
    by_form None e = refl
    by_form (Some i) e = let room = form-room code p i e in absurd (omega arith)
stop-more (suc m) code p enough =
    by_form (form code p) (λ i. let pos = units_of-pos i in stop-more m code (p + units_of i) (omega arith))
  where
    by_form : (o : Option Insn) → ((i : Insn) → stop_from m code (p + units_of i) ≡ stop_from (suc m) code (p + units_of i))
        → option_map_or (λ i. stop_from m code (p + units_of i)) o p ≡ option_map_or (λ i. stop_from (suc m) code (p + units_of i)) o p
    by_form None later = refl
    by_form (Some i) later = later i

pub stop-some : (code : List ℕ) (p : ℕ) (i : Insn) → form code p ≡ Some i → stop_from (length code) code p ≡ stop_from (length code) code (p + units_of i)
stop-some code p i e =
    stop-more (length code) code p (omega arith) ∙ ap (λ (o : Option Insn). option_map_or (λ j. stop_from (length code) code (p + units_of j)) o p) e

pub stop-none : (code : List ℕ) (p : ℕ) → form code p ≡ None → stop_from (length code) code p ≡ p
stop-none code p e =
    stop-more (length code) code p (omega arith) ∙ ap (λ (o : Option Insn). option_map_or (λ j. stop_from (length code) code (p + units_of j)) o p) e

-- the walk stops at a place without a form
stop_from-form : (n : ℕ) (code : List ℕ) (p : ℕ) → length code < 8 * (p + n) + 8 → form code (stop_from n code p) ≡ None
stop_from-form zero code p enough = by_form (form code p) refl
  where
    by_form : (o : Option Insn) → form code p ≡ o → form code p ≡ None
    by_form None e = e
    by_form (Some i) e = let room = form-room code p i e in absurd (omega arith)
stop_from-form (suc m) code p enough =
    by_form (form code p) refl (λ i. let pos = units_of-pos i in stop_from-form m code (p + units_of i) (omega arith))
  where
    by_form : (o : Option Insn) → form code p ≡ o → ((i : Insn) → form code (stop_from m code (p + units_of i)) ≡ None)
        → form code (option_map_or (λ i. stop_from m code (p + units_of i)) o p) ≡ None
    by_form None e later = e
    by_form (Some i) e later = later i

pub bad_place-form : (code : List ℕ) → form code (stop_from (length code) code 0) ≡ None
bad_place-form code = stop_from-form (length code) code 0 (omega arith)

-- the walk comes to the place where it stops
stop_from-reached : (n : ℕ) (code : List ℕ) (p : ℕ) → reaches (suc n) code p (stop_from n code p) ≡ true
stop_from-reached zero code p = rw (eq-eqb p p refl) refl
stop_from-reached (suc m) code p = by_form (form code p) refl (λ i. stop_from-reached m code (p + units_of i))
  where
    by_form : (o : Option Insn) → form code p ≡ o
        → ((i : Insn) → reaches (suc m) code (p + units_of i) (stop_from m code (p + units_of i)) ≡ true)
        → (p == option_map_or (λ i. stop_from m code (p + units_of i)) o p
        || option_map_or (λ i. reaches (suc m) code (p + units_of i) (option_map_or (λ j. stop_from m code (p + units_of j)) o p)) o false) ≡ true
    by_form None e later = rw (eq-eqb p p refl) refl
    by_form (Some i) e later = rw (later i) (or-true (p == stop_from m code (p + units_of i)))

pub bad_place-reached : (code : List ℕ) → reaches (suc (length code)) code 0 (stop_from (length code) code 0) ≡ true
bad_place-reached code = stop_from-reached (length code) code 0

-- each place of the walk but the one where it stops has a form
pub reaches-form : (n : ℕ) (code : List ℕ) (p q : ℕ) → reaches (suc n) code p q ≡ true → q ≢ stop_from n code p → is_some (form code q) ≡ true
reaches-form zero code p q r other = by_form (form code p) r
  where
    by_form : (o : Option Insn) → (p == q || option_map_or (λ i. false) o false) ≡ true → is_some (form code q) ≡ true
    by_form None r = absurd (other (sym (eqb-true p q (sym (or-false (p == q)) ∙ r))))
    by_form (Some i) r = absurd (other (sym (eqb-true p q (sym (or-false (p == q)) ∙ r))))
reaches-form (suc m) code p q r other =
    by_form (form code p) refl r other (λ i. reaches-form m code (p + units_of i) q)
  where
    by_form : (o : Option Insn) → form code p ≡ o → (p == q || option_map_or (λ i. reaches (suc m) code (p + units_of i) q) o false) ≡ true
        → q ≢ option_map_or (λ i. stop_from m code (p + units_of i)) o p
        → ((i : Insn) → reaches (suc m) code (p + units_of i) q ≡ true → q ≢ stop_from m code (p + units_of i) → is_some (form code q) ≡ true)
        → is_some (form code q) ≡ true
    by_form None e r other later = absurd (other (sym (eqb-true p q (sym (or-false (p == q)) ∙ r))))
    by_form (Some i) e r other later = elim (or_cases (p == q) (reaches (suc m) code (p + units_of i) q) r) [
      | inl here ↦ let same : p ≡ q = eqb-true p q here in rw (← same, e) refl
      | inr behind ↦ later i behind other
    ]

-- the walk stops inside the code
stop_from-inside : (n : ℕ) (code : List ℕ) (p : ℕ) → ((k : ℕ) → slice_index code k < 256) → 8 * p ≤ length code → 8 * stop_from n code p ≤ length code
stop_from-inside zero code p small h = h
stop_from-inside (suc m) code p small h =
    by_form (form code p) refl (λ i e. stop_from-inside m code (p + units_of i) small (form-inside code p i small e))
  where
    by_form : (o : Option Insn) → form code p ≡ o → ((i : Insn) → form code p ≡ Some i → 8 * stop_from m code (p + units_of i) ≤ length code)
        → 8 * option_map_or (λ i. stop_from m code (p + units_of i)) o p ≤ length code
    by_form None e later = h
    by_form (Some i) e later = later i e

-- code is well formed exactly where it is not empty and each start has a form
pub well_formed-starts : (code : List ℕ) → All (λ b. b < 256) code
    → IsWellFormed code ↔ ((0 < length code) × ((place : ℕ) → IsStart code place → IsSome (form code place)))
well_formed-starts code all = (there, back)
  where
    there : IsWellFormed code → (0 < length code) × ((place : ℕ) → IsStart code place → IsSome (form code place))
    there well =
        let w = and_parts (nat_lt 0 (length code)) (8 * bad_place code == length code) well in
        let ends : 8 * bad_place code ≡ length code = eqb-true (8 * bad_place code) (length code) w.1 in (
          ltb-true 0 (length code) w.0,
          λ place start.
              let s = and_parts (nat_lt (8 * place) (length code)) (reaches (suc (length code)) code 0 place) start in
              let before : 8 * place < length code = ltb-true (8 * place) (length code) s.0 in
              reaches-form (length code) code 0 place s.1 (λ same. omega arith),
        )

    back : (0 < length code) × ((place : ℕ) → IsStart code place → IsSome (form code place)) → IsWellFormed code
    back h =
        let inside = stop_from-inside (length code) code 0 (bytes_small code all) (omega arith) in
        let ends : 8 * bad_place code ≡ length code = elim (cases_lt (8 * bad_place code) (length code)) [
          | inl before ↦
              let start : IsStart code (bad_place code) =
              and_from (nat_lt (8 * bad_place code) (length code)) (reaches (suc (length code)) code 0 (bad_place code))
              (lt-ltb (8 * bad_place code) (length code) before) (bad_place-reached code) in
              let formed = h.1 (bad_place code) start in
              let none : is_some (form code (bad_place code)) ≡ false = ap (λ (o : Option Insn). is_some o) (bad_place-form code) in
              absurd (true≢false (sym formed ∙ none))
          | inr past ↦ omega arith
        ] in
        and_from (nat_lt 0 (length code)) (8 * bad_place code == length code) (lt-ltb 0 (length code) h.0) (eq-eqb (8 * bad_place code) (length code) ends)
