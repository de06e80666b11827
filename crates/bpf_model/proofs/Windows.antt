-- The laws of runs: a run is confined to its read-write ranges, and depends on nothing but the bytes and accesses of its
-- ranges.
use Rattle.std.proofs.Common.{◌≡◌, ℕ, zero, suc, ◌<◌, ◌+◌, List, [], ◌∷◌, length, slice_index, refl, sym, ap, subst, ◌∙◌, arith, inl, inr}
use Rattle.std.proofs.lemmas.Bool.{cases_lt}
use Rattle.std.specs.Prelude.{map, slice_index_or, replicate}
use Rattle.cp_base.specs.declared.lists.Access.TheVariants.{ReadOnly}
use Rattle.cp_base.specs.declared.lists.MemRange.{MemRange}
use Rattle.bpf_model.specs.Address.{stack_len}
use Rattle.bpf_model.specs.Machine.{Machine, entry_machine, frame_pointer}
use Rattle.bpf_model.specs.Memory.{Memory, HoldsBytes, bytes_from, range_at, lengths_of, windows_of, read_write_of, CoversByte, CoversForWriting, AreApart}
use Rattle.bpf_model.specs.Outcome.{outcome, outcome_from}
use Rattle.bpf_model.specs.Step.{Program}
use Rattle.bpf_model.proofs.Alongside.{range_at-len, Alike, Agree, OutcomeAlong, run-along}
use Rattle.bpf_model.proofs.Writing.{length-bytes_from, bytes_from-at, bytes_from-same}

-- ---- one list of ranges

alike-self : (r : List MemRange) → Alike r r
alike-self r = record { lengths = refl; read_write = refl; there = λ i j k l _ _ same at. (same, at); back = λ i j k l _ _ same at. (same, at) }

pub confined : (program : Program) (r : List MemRange) (memory : Memory) (p1 p2 budget ns offset : ℕ) → (CoversForWriting r ns offset → ⊥)
    → (outcome program r memory p1 p2 budget).memory ns offset ≡ memory ns offset
confined program r memory p1 p2 budget ns offset out =
    (run-along program r r (alike-self r) budget (entry_machine r memory p1 p2) memory memory (λ i k less. refl)).kept.rest ns offset out

pub holds-bytes : (program : Program) (r : List MemRange) (memory : Memory) (p1 p2 budget : ℕ) → HoldsBytes memory → HoldsBytes (outcome program r memory p1 p2 budget).memory
holds-bytes program r memory p1 p2 budget held =
    (run-along program r r (alike-self r) budget (entry_machine r memory p1 p2) memory memory (λ i k less. refl)).kept.bytes held

local : (program : Program) (r : List MemRange) (a b : Memory) (p1 p2 budget : ℕ) → ((ns offset : ℕ) → CoversByte r ns offset → a ns offset ≡ b ns offset)
    → OutcomeAlong r r a b (outcome program r a p1 p2 budget) (outcome program r b p1 p2 budget)
local program r a b p1 p2 budget same =
    run-along program r r (alike-self r) budget (entry_machine r a p1 p2) a b
    (λ i k less. same (range_at r i).ns ((range_at r i).at + k) (i, (k, less, refl, refl)))

pub local-ending : (program : Program) (r : List MemRange) (a b : Memory) (p1 p2 budget : ℕ) → ((ns offset : ℕ) → CoversByte r ns offset → a ns offset ≡ b ns offset)
    → (outcome program r a p1 p2 budget).ending ≡ (outcome program r b p1 p2 budget).ending
local-ending program r a b p1 p2 budget same = (local program r a b p1 p2 budget same).ending

pub local-memory : (program : Program) (r : List MemRange) (a b : Memory) (p1 p2 budget : ℕ) → ((ns offset : ℕ) → CoversByte r ns offset → a ns offset ≡ b ns offset)
    → (ns offset : ℕ) → CoversByte r ns offset → (outcome program r a p1 p2 budget).memory ns offset ≡ (outcome program r b p1 p2 budget).memory ns offset
local-memory program r a b p1 p2 budget same ns offset (i, (k, less, here, there)) =
    let agree : (outcome program r a p1 p2 budget).memory (range_at r i).ns ((range_at r i).at + k)
    ≡ (outcome program r b p1 p2 budget).memory (range_at r i).ns ((range_at r i).at + k) =
    (local program r a b p1 p2 budget same).kept.agree i k less in
    subst (λ (n : ℕ). (outcome program r a p1 p2 budget).memory n offset ≡ (outcome program r b p1 p2 budget).memory n offset) here
    (subst (λ (o : ℕ). (outcome program r a p1 p2 budget).memory (range_at r i).ns o ≡ (outcome program r b p1 p2 budget).memory (range_at r i).ns o) there agree)

-- ---- two lists of ranges with the same windows

length-lengths : (r : List MemRange) → length (lengths_of r) ≡ length r
length-lengths [] = refl
length-lengths (x ∷ r) = ap suc (length-lengths r)

-- the range of an index that has bytes is one of the list
pub range_at-inside : (r : List MemRange) (i k : ℕ) → k < (range_at r i).len → i < length r
range_at-inside [] zero k less = absurd (omega arith)
range_at-inside [] (suc i) k less = absurd (omega arith)
range_at-inside (x ∷ r) zero k less = omega arith
range_at-inside (x ∷ r) (suc i) k less = let h = range_at-inside r i k less in omega arith

-- a byte of two ranges that lie apart is one byte of one range
apart-same : (r : List MemRange) → AreApart r → (i j k l : ℕ) → k < (range_at r i).len → l < (range_at r j).len
    → (range_at r i).ns ≡ (range_at r j).ns → (range_at r i).at + k ≡ (range_at r j).at + l → (i ≡ j) × (k ≡ l)
apart-same r apart i j k l less less' same at = elim (cases_lt i j) [
  | inl before ↦ absurd (apart i j empty before (range_at-inside r j l less') k l less less' same at)
  | inr le ↦ elim (cases_lt j i) [
    | inl before ↦ absurd (apart j i empty before (range_at-inside r i k less) l k less' less (sym same) (sym at))
    | inr ge ↦
        let e : i ≡ j = omega arith in
        let starts : (range_at r i).at ≡ (range_at r j).at = ap (λ (n : ℕ). (range_at r n).at) e in
        (e, omega arith)
  ]
]
  where
    empty : MemRange
    empty = record { ns = 0; at = 0; len = 0; access = ReadOnly }

lengths-windows : (a : Memory) (r : List MemRange) → map (λ (w : List ℕ). length w) (windows_of a r) ≡ lengths_of r
lengths-windows a [] = refl
lengths-windows a (x ∷ r) =
    let here : length (bytes_from a x.ns x.at x.len) ≡ x.len = length-bytes_from a x.ns x.at x.len in
    let rest = lengths-windows a r in
    cc

-- a byte of a window
pub windows-at : (a : Memory) (r : List MemRange) (i k : ℕ) → k < (range_at r i).len
    → slice_index (slice_index_or (windows_of a r) i []) k ≡ a (range_at r i).ns ((range_at r i).at + k)
windows-at a [] zero k less = absurd (omega arith)
windows-at a [] (suc i) k less = absurd (omega arith)
windows-at a (x ∷ r) zero k less = bytes_from-at a x.ns x.at x.len k less
windows-at a (x ∷ r) (suc i) k less = windows-at a r i k less

windows-same : (a b : Memory) (r s : List MemRange) → lengths_of r ≡ lengths_of s → Agree r s a b → windows_of a r ≡ windows_of b s
windows-same a b [] [] lengths agree = refl
windows-same a b [] (y ∷ s) lengths agree = cc
windows-same a b (x ∷ r) [] lengths agree = cc
windows-same a b (x ∷ r) (y ∷ s) lengths agree =
    let len : x.len ≡ y.len = cc in
    let first : (k : ℕ) → k < x.len → a x.ns (x.at + k) ≡ b y.ns (y.at + k) = λ k less. agree 0 k less in
    let here : bytes_from a x.ns x.at x.len ≡ bytes_from b y.ns y.at x.len = bytes_from-same a b x.ns x.at y.ns y.at x.len first in
    let lengths' : lengths_of r ≡ lengths_of s = cc in
    let others : Agree r s a b = λ i k less. agree (suc i) k less in
    let rest : windows_of a r ≡ windows_of b s = windows-same a b r s lengths' others in
    let here' : bytes_from a x.ns x.at x.len ≡ bytes_from b y.ns y.at y.len = here ∙ ap (λ (n : ℕ). bytes_from b y.ns y.at n) len in
    cc

module _ (r s : List MemRange) (a b : Memory) (r_apart : AreApart r) (s_apart : AreApart s) (same : windows_of a r ≡ windows_of b s) (access : read_write_of r ≡ read_write_of s) where
  lengths : lengths_of r ≡ lengths_of s
  lengths = sym (lengths-windows a r) ∙ (ap (λ (ws : List (List ℕ)). map (λ (w : List ℕ). length w) ws) same ∙ lengths-windows b s)

  len-same : (i : ℕ) → (range_at r i).len ≡ (range_at s i).len
  len-same i = sym (range_at-len r i) ∙ (ap (λ (ls : List ℕ). slice_index ls i) lengths ∙ range_at-len s i)

  alike : Alike r s
  alike = record {
    lengths = lengths;
    read_write = access;
    there = λ i j k l less less' ns at.
        let e = apart-same r r_apart i j k l less less' ns at in
        (ap (λ (n : ℕ). (range_at s n).ns) e.0, ap (λ (n : ℕ). (range_at s n).at + k) e.0 ∙ ap (λ (n : ℕ). (range_at s j).at + n) e.1);
    back = λ i j k l less less' ns at.
        let x = len-same i in
        let y = len-same j in
        let e = apart-same s s_apart i j k l (omega arith) (omega arith) ns at in
        (ap (λ (n : ℕ). (range_at r n).ns) e.0, ap (λ (n : ℕ). (range_at r n).at + k) e.0 ∙ ap (λ (n : ℕ). (range_at r j).at + n) e.1);
  }

  agree : Agree r s a b
  agree i k less =
      let x = len-same i in
      sym (windows-at a r i k less) ∙ (ap (λ (ws : List (List ℕ)). slice_index (slice_index_or ws i []) k) same ∙ windows-at b s i k (omega arith))

  by_windows : (program : Program) (p1 p2 budget : ℕ) → OutcomeAlong r s a b (outcome program r a p1 p2 budget) (outcome program s b p1 p2 budget)
  by_windows program p1 p2 budget =
      let count : length r ≡ length s = sym (length-lengths r) ∙ (ap (λ (ls : List ℕ). length ls) lengths ∙ length-lengths s) in
      subst (λ (n : ℕ). OutcomeAlong r s a b (outcome program r a p1 p2 budget) (outcome_from program budget (entered n s b))) count
      (run-along program r s alike budget (entry_machine r a p1 p2) a b agree)
    where
      entered : ℕ → List MemRange → Memory → Machine
      entered n ranges memory = record {
        registers = 0 ∷ p1 ∷ p2 ∷ n ∷ 0 ∷ 0 ∷ 0 ∷ 0 ∷ 0 ∷ 0 ∷ frame_pointer 0 ∷ [];
        counter = 0;
        frames = [];
        stack = replicate stack_len 0;
        memory = memory;
        ranges = ranges;
      }

pub windows-ending : (program : Program) (r s : List MemRange) (a b : Memory) (p1 p2 budget : ℕ) → AreApart r → AreApart s → windows_of a r ≡ windows_of b s → read_write_of r ≡ read_write_of s
    → (outcome program r a p1 p2 budget).ending ≡ (outcome program s b p1 p2 budget).ending
windows-ending program r s a b p1 p2 budget r_apart s_apart same access = (by_windows r s a b r_apart s_apart same access program p1 p2 budget).ending

pub windows-memory : (program : Program) (r s : List MemRange) (a b : Memory) (p1 p2 budget : ℕ) → AreApart r → AreApart s → windows_of a r ≡ windows_of b s → read_write_of r ≡ read_write_of s
    → windows_of (outcome program r a p1 p2 budget).memory r ≡ windows_of (outcome program s b p1 p2 budget).memory s
windows-memory program r s a b p1 p2 budget r_apart s_apart same access =
    windows-same (outcome program r a p1 p2 budget).memory (outcome program s b p1 p2 budget).memory r s (lengths r s a b r_apart s_apart same access)
    (by_windows r s a b r_apart s_apart same access program p1 p2 budget).kept.agree
