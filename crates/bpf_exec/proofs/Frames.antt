-- Saved frames: a call saves one, and its return takes it back.
use Rattle.std.proofs.Common.{◌≡◌, ℕ, ◌<◌, ◌≤◌, ◌+◌, ◌-◌, ℤ, Bool, true, List, ◌∷◌, length, take, drop, set, sym, ap, ◌∙◌, arith, length-drop}
use Rattle.std.proofs.lemmas.Bool.{lt-ltb}
use Rattle.std.proofs.lemmas.List.{drop-set}
use Rattle.std.proofs.Math.Seq.{take-length}
use Rattle.std.specs.Prelude.{nat_lt, if◌then◌else◌}
use Rattle.bpf_isa.specs.declared.end.End.TheVariants.{CallDepth}
use Rattle.bpf_model.specs.declared.frames.SavedFrame.{SavedFrame}
use Rattle.bpf_model.specs.Machine.{Machine, frame_pointer}
use Rattle.bpf_model.specs.Step.{Effect, Ends, jump, call}

-- R6 to R10 are all registers from R6 on
pub from_r6 : (registers : List ℕ) → length registers ≡ 11 → take 5 (drop 6 registers) ≡ drop 6 registers
from_r6 registers len =
    let count : 5 ≡ length (drop 6 registers) = omega (arith, length-drop 6 registers) in
    ap (λ (n : ℕ). take n (drop 6 registers)) count ∙ take-length (drop 6 registers)

-- a call of a local function
pub call_saves : (m : Machine) (frames : List SavedFrame) (free : ℕ) (distance told : ℤ) (registers : List ℕ) (pointer : ℕ)
    → m.frames ≡ drop free frames → 0 < free → free ≤ 7 → length frames ≡ 7 → registers ≡ drop 6 m.registers → pointer ≡ frame_pointer (7 - (free - 1)) → told ≡ distance
    → call m distance ≡ jump (record m {
      registers = set m.registers 10 pointer;
      frames = drop (free - 1) (set frames (free - 1) (record { registers = registers; return_place = m.counter + 1 }));
    }) told
call_saves m frames free distance told registers pointer kept some few len saved at same =
    let depth : length m.frames ≡ 7 - free = ap (λ (fs : List SavedFrame). length fs) kept ∙ omega (arith, length-drop free frames) in
    let shallow : nat_lt (length m.frames) 7 ≡ true = lt-ltb (length m.frames) 7 (omega arith) in
    let made_by : ℤ → ℕ → List SavedFrame → Effect = λ z r fs. jump (record m { registers = set m.registers 10 r; frames = fs }) z in
    let made : ℕ → List SavedFrame → Effect = made_by distance in
    let frame : List ℕ → SavedFrame = λ rs. record { registers = rs; return_place = m.counter + 1 } in
    let new : List SavedFrame = drop (free - 1) (set frames (free - 1) (frame registers)) in
    let next : (free - 1) + 1 ≡ free = omega arith in
    ap (λ (b : Bool). if b then made (frame_pointer (length m.frames + 1)) (frame (drop 6 m.registers) ∷ m.frames) else Ends (CallDepth m.counter)) shallow
    ∙ (ap (λ (n : ℕ). made (frame_pointer n) (frame (drop 6 m.registers) ∷ m.frames)) (omega arith)
    ∙ (ap (λ (r : ℕ). made r (frame (drop 6 m.registers) ∷ m.frames)) (sym at)
    ∙ (ap (λ (rs : List ℕ). made pointer (frame rs ∷ m.frames)) (sym saved)
    ∙ (ap (λ (fs : List SavedFrame). made pointer (frame registers ∷ fs)) (kept ∙ ap (λ (n : ℕ). drop n frames) (sym next))
    ∙ (ap (λ (fs : List SavedFrame). made pointer fs) (sym (drop-set frames (free - 1) (frame registers) (omega arith)))
    ∙ ap (λ (z : ℤ). made_by z pointer new) (sym same))))))
