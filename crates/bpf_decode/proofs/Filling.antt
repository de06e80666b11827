-- What the slots filled so far say of the code.
use Rattle.std.proofs.Common.{◌≡◌, ℕ, zero, suc, ◌<◌, ◌≤◌, ◌*◌, ◌+◌, Bool, true, false, ◌==◌, ◌||◌, ◌&&◌, List, [], ◌∷◌, ◌++◌, length, slice_index, get_or, Option, Some, None, refl, sym, ap, subst, ◌∙◌, arith, inl, inr, length-append, length-drop, take, drop, ◌-◌}
use Rattle.std.proofs.Math.Bool.{or-true, or-false}
use Rattle.std.proofs.Math.Seq.{take-length}
use Rattle.std.specs.Prelude.{is_some, nat_lt, if◌then◌else◌, All, IfSome}
use Rattle.std.proofs.lemmas.Grind.{common_steps}
use Rattle.std.proofs.lemmas.Bool.{cases_lt, cases_eq, eq-eqb, ne_eqb, lt-ltb, le-ltb, and_from, and_left, and_right}
use Rattle.bpf_isa.specs.declared.insn.Insn.{Insn}
use Rattle.bpf_isa.specs.declared.insn.Insn.TheVariants as insn
use Rattle.bpf_model.specs.Encoding.{IsAllowed}
use Rattle.bpf_model.specs.Form.{form}
use Rattle.bpf_model.specs.Walk.{units_of, reaches, stop_from, bad_place, is_well_formed, IsWellFormed, instruction_at}
use Rattle.bpf_model.proofs.BothWays.{form-encoded, form-inside, form-room}
use Rattle.bpf_model.proofs.Steps.{reaches-some, reaches-none, stop-some, stop-none}
use Rattle.bpf_decode.specs.Slots.{slots_of, HoldAllowed}

-- the slots before a place of the walk have the instructions of the starts there
pub record Filled (code : List ℕ) (slots : List (Option Insn)) : Type 0 where
  pub inside : 8 * length slots ≤ length code
  pub stops : stop_from (length code) code 0 ≡ stop_from (length code) code (length slots)
  pub reached : (q : ℕ) → reaches (suc (length code)) code 0 q ≡ (is_some (get_or slots q None) || reaches (suc (length code)) code (length slots) q)
  pub formed : (q : ℕ) → is_some (get_or slots q None) ≡ true → form code q ≡ get_or slots q None
  pub allowed : (q : ℕ) → IfSome (get_or slots q None) IsAllowed

pub filled-start : (code : List ℕ) → Filled code []
filled-start code = record { inside = omega arith; stops = refl; reached = λ q. refl; formed = λ q h. cc; allowed = λ q. tt }

-- an item of a list is one by any default
get_or_within : {A : Type 0} (slots : List A) (q : ℕ) (d e : A) → q < length slots → get_or slots q d ≡ get_or slots q e
get_or_within [] q d e less = absurd (omega arith)
get_or_within (x ∷ xs) zero d e less = refl
get_or_within (x ∷ xs) (suc q) d e less = get_or_within xs q d e (omega arith)

length-slots_of : (i : Insn) → length (slots_of i) ≡ units_of i
length-slots_of (insn.LoadImm dst value) = refl
length-slots_of _ = refl

-- the slots of one more instruction
slot-here : (slots : List (Option Insn)) (i : Insn) → get_or (slots ++ slots_of i) (length slots) None ≡ Some i
slot-here [] i = refl
slot-here (x ∷ xs) i = slot-here xs i

slot-other : (slots : List (Option Insn)) (i : Insn) (q : ℕ) → (q ≡ length slots → ⊥) → get_or (slots ++ slots_of i) q None ≡ get_or slots q None
slot-other [] i zero other = absurd (other refl)
slot-other [] (insn.LoadImm dst value) (suc zero) other = refl
slot-other [] (insn.LoadImm dst value) (suc (suc q)) other = refl
slot-other [] _ (suc q) other = refl
slot-other (x ∷ xs) i zero other = refl
slot-other (x ∷ xs) i (suc q) other = slot-other xs i q (λ e. other (ap (λ (n : ℕ). suc n) e))

-- one more instruction
pub filled-more : (code : List ℕ) (slots : List (Option Insn)) (i : Insn) → ((k : ℕ) → slice_index code k < 256)
    → Filled code slots → form code (length slots) ≡ Some i → Filled code (slots ++ slots_of i)
filled-more code slots i small w e =
    let p : ℕ = length slots in
    let len : length (slots ++ slots_of i) ≡ p + units_of i = length-append slots (slots_of i) ∙ ap (λ (n : ℕ). p + n) (length-slots_of i) in
    let room = form-inside code p i small e in
    record {
      inside = omega arith;
      stops = w.stops ∙ stop-some code p i e ∙ ap (λ (n : ℕ). stop_from (length code) code n) (sym len);
      reached = λ q. elim (cases_eq q p) [
        | inl same ↦
            let new : get_or (slots ++ slots_of i) q None ≡ Some i = rw same (slot-here slots i) in
            let here : (p == q) ≡ true = eq-eqb p q (sym same) in
            w.reached q
            ∙ ap (λ (b : Bool). is_some (get_or slots q None) || b) (reaches-some code p q i e ∙ ap (λ (b : Bool). b || reaches (suc (length code)) code (p + units_of i) q) here)
            ∙ or-true (is_some (get_or slots q None))
            ∙ sym (ap (λ (o : Option Insn). is_some o || reaches (suc (length code)) code (length (slots ++ slots_of i)) q) new)
        | inr other ↦
            let old : get_or (slots ++ slots_of i) q None ≡ get_or slots q None = slot-other slots i q other in
            let later : (p == q) ≡ false = ne_eqb p q (λ s. other (sym s)) in
            w.reached q
            ∙ ap (λ (b : Bool). is_some (get_or slots q None) || b) (reaches-some code p q i e ∙ ap (λ (b : Bool). b || reaches (suc (length code)) code (p + units_of i) q) later)
            ∙ ap (λ (n : ℕ). is_some (get_or slots q None) || reaches (suc (length code)) code n q) (sym len)
            ∙ sym (ap (λ (o : Option Insn). is_some o || reaches (suc (length code)) code (length (slots ++ slots_of i)) q) old)
      ];
      formed = λ q h. elim (cases_eq q p) [
        | inl same ↦ rw same (e ∙ sym (slot-here slots i))
        | inr other ↦
            let old : get_or (slots ++ slots_of i) q None ≡ get_or slots q None = slot-other slots i q other in
            w.formed q (sym (ap (λ (o : Option Insn). is_some o) old) ∙ h) ∙ sym old
      ];
      allowed = λ q. elim (cases_eq q p) [
        | inl same ↦
            let new : get_or (slots ++ slots_of i) q None ≡ Some i = rw same (slot-here slots i) in
            let bytes : All (λ b. b < 256) code = λ k d less. rw (get_or_within code k d 0 less) (small k) in
            subst (λ (o : Option Insn). IfSome o IsAllowed) (sym new) (form-encoded code p i bytes e).0
        | inr other ↦ subst (λ (o : Option Insn). IfSome o IsAllowed) (sym (slot-other slots i q other)) (w.allowed q)
      ];
    }

-- what is left of the code from a place on
pub rest_of : (code : List ℕ) (n : ℕ) → take (length code - n) (drop n code) ≡ drop n code
rest_of code n = ap (λ (m : ℕ). take m (drop n code)) (sym (length-drop n code)) ∙ take-length (drop n code)

-- there is no form at the end, nor past it
form-past : (code : List ℕ) (p : ℕ) → length code ≤ 8 * p → form code p ≡ None
form-past code p past = by_form (form code p) refl
  where
    by_form : (o : Option Insn) → form code p ≡ o → form code p ≡ None
    by_form None e = e
    by_form (Some i) e = let room = form-room code p i e in absurd (omega arith)

-- the slots of all code
pub filled-end : (code : List ℕ) (slots : List (Option Insn)) → 0 < length code → Filled code slots → length code ≤ 8 * length slots → IsWellFormed code
filled-end code slots some w done =
    let none = form-past code (length slots) done in
    let stop : bad_place code ≡ length slots = w.stops ∙ stop-none code (length slots) none in
    let inside = w.inside in
    and_from (nat_lt 0 (length code)) (8 * bad_place code == length code) (lt-ltb 0 (length code) some)
    (eq-eqb (8 * bad_place code) (length code) (omega arith))

pub filled-slots : (code : List ℕ) (slots : List (Option Insn)) → Filled code slots → length code ≤ 8 * length slots
    → (q : ℕ) → get_or slots q None ≡ instruction_at code q
filled-slots code slots w done q = elim (cases_lt q (length slots)) [
  | inl before ↦
      let inside = w.inside in
      let none = form-past code (length slots) done in
      let earlier : nat_lt (8 * q) (length code) ≡ true = lt-ltb (8 * q) (length code) (omega arith) in
      let other : (length slots == q) ≡ false = ne_eqb (length slots) q (λ s. omega arith) in
      let reached : reaches (suc (length code)) code 0 q ≡ is_some (get_or slots q None) =
      w.reached q ∙ ap (λ (b : Bool). is_some (get_or slots q None) || b) (reaches-none code (length slots) q none ∙ other)
      ∙ or-false (is_some (get_or slots q None)) in
      by_slot (get_or slots q None) refl earlier reached
  | inr behind ↦
      let past : nat_lt (8 * q) (length code) ≡ false = le-ltb (8 * q) (length code) (omega arith) in
      let empty : get_or slots q None ≡ None = grind (arith, common_steps) in
      empty ∙ sym (ap (λ (b : Bool). if b && reaches (suc (length code)) code 0 q then form code q else None) past)
]
  where
    by_slot : (o : Option Insn) → get_or slots q None ≡ o → nat_lt (8 * q) (length code) ≡ true
        → reaches (suc (length code)) code 0 q ≡ is_some (get_or slots q None) → get_or slots q None ≡ instruction_at code q
    by_slot None e earlier reached =
        let unreached : reaches (suc (length code)) code 0 q ≡ false = reached ∙ ap (λ (x : Option Insn). is_some x) e in
        e ∙ sym (ap (λ (b : Bool). if nat_lt (8 * q) (length code) && b then form code q else None) unreached
        ∙ ap (λ (b : Bool). if b && false then form code q else None) earlier)
    by_slot (Some i) e earlier reached =
        let found : is_some (get_or slots q None) ≡ true = ap (λ (x : Option Insn). is_some x) e in
        sym (ap (λ (b : Bool). if nat_lt (8 * q) (length code) && b then form code q else None) (reached ∙ found)
        ∙ ap (λ (b : Bool). if b && true then form code q else None) earlier ∙ w.formed q found)

-- each instruction among the slots is one of the profile
pub filled-allowed : (code : List ℕ) (slots : List (Option Insn)) → Filled code slots → HoldAllowed slots
filled-allowed code slots w q d less = subst (λ (o : Option Insn). IfSome o IsAllowed) (sym (get_or_within slots q d None less)) (w.allowed q)

-- a place of the walk without a form
pub filled-bad : (code : List ℕ) (slots : List (Option Insn)) → Filled code slots → form code (length slots) ≡ None → 8 * length slots < length code
    → (is_well_formed code ≡ false) × (bad_place code ≡ length slots)
filled-bad code slots w none before =
    let stop : bad_place code ≡ length slots = w.stops ∙ stop-none code (length slots) none in
    (and_right (nat_lt 0 (length code)) (8 * bad_place code == length code) (ne_eqb (8 * bad_place code) (length code) (λ s. omega arith)), stop)

-- empty code
pub empty-bad : (code : List ℕ) → length code ≡ 0 → (is_well_formed code ≡ false) × (bad_place code ≡ 0)
empty-bad code e = (
  and_left (nat_lt 0 (length code)) (8 * bad_place code == length code) (le-ltb 0 (length code) (omega arith)),
  stop-none code 0 (form-past code 0 (omega arith)),
)
