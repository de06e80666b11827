-- Windows as ranges and a memory: they are apart, and their bytes are the windows.
use Rattle.std.proofs.Common.{◌≡◌, ℕ, zero, suc, ◌<◌, Bool, false, List, [], ◌∷◌, length, get_or, map, Option, refl, sym, ap, ◌∙◌, arith}
use mathlib.Core.Path.{fun_ext}
use Rattle.std.proofs.Math.Seq.{take-length}
use Rattle.std.proofs.lemmas.List.{ext_get_or, get_or-map, length-map}
use Rattle.cp_base.specs.declared.lists.Access.TheVariants.{ReadOnly}
use Rattle.cp_base.specs.declared.lists.MemRange.{MemRange}
use Rattle.bpf_isa.specs.declared.insn.Insn.{Insn}
use Rattle.bpf_model.specs.Memory.{Memory, bytes_from, windows_of, allows_writing, read_write_of, AreApart}
use Rattle.bpf_model.specs.Outcome.{RunOutcome, outcome}
use Rattle.bpf_model.specs.Step.{Program}
use Rattle.bpf_model.proofs.Windows.{windows-ending, windows-memory}
use Rattle.confined_view.specs.Touched.{Touched}
use Rattle.bpf_exec.specs.Seen.{ranges_from, ranges_of, window_memory}
use Rattle.bpf_exec.specs.Setting.{Describes, decoded_program}
use Rattle.bpf_exec.proofs.Windows.{range_from, piece_from, read_write_seen}

length-ranges : (from : ℕ) (flags : List Bool) (ws : List (List ℕ)) → length (ranges_from from flags ws) ≡ length ws
length-ranges from flags [] = refl
length-ranges from flags (w ∷ ws) = ap suc (length-ranges (suc from) flags ws)

pub count_ranges : (t : Touched) → length (ranges_of t) ≡ length t.windows
count_ranges t = length-ranges 0 t.writable t.windows

-- each window is a namespace of its own
ranges_apart : (t : Touched) → AreApart (ranges_of t)
ranges_apart t i j d before inside k l less less' same at =
    let ws = t.windows in
    let count = count_ranges t in
    let first : (get_or (ranges_of t) i d).ns ≡ i = ap (λ (r : MemRange). r.ns) (range_from 0 t.writable ws i d (omega arith)) ∙ omega arith in
    let second : (get_or (ranges_of t) j d).ns ≡ j = ap (λ (r : MemRange). r.ns) (range_from 0 t.writable ws j d (omega arith)) ∙ omega arith in
    let equal : i ≡ j = sym first ∙ (same ∙ second) in
    omega arith

lengths_at : (ws : List (List ℕ)) (i : ℕ) → get_or (map (length {A = ℕ}) ws) i 0 ≡ length (get_or ws i [])
lengths_at [] zero = refl
lengths_at [] (suc i) = refl
lengths_at (w ∷ ws) zero = refl
lengths_at (w ∷ ws) (suc i) = lengths_at ws i

-- the bytes of windows of the same lengths
pub windows_seen : (t : Touched) (vs : List (List ℕ)) → map (length {A = ℕ}) vs ≡ map (length {A = ℕ}) t.windows → windows_of (window_memory vs) (ranges_of t) ≡ vs
windows_seen t vs lengths = ext_get_or [] (windows_of (window_memory vs) (ranges_of t)) vs (all ∙ (count_ranges t ∙ sym count)) each
  where
    all : length (windows_of (window_memory vs) (ranges_of t)) ≡ length (ranges_of t)
    all = length-map (ranges_of t) (λ (r : MemRange). bytes_from (window_memory vs) r.ns r.at r.len)

    count : length vs ≡ length t.windows
    count = sym (length-map vs (length {A = ℕ})) ∙ (ap (λ (ls : List ℕ). length ls) lengths ∙ length-map t.windows (length {A = ℕ}))

    each : (i : ℕ) → i < length (windows_of (window_memory vs) (ranges_of t)) → get_or (windows_of (window_memory vs) (ranges_of t)) i [] ≡ get_or vs i []
    each i less =
        let inside : i < length (ranges_of t) = omega (arith, all) in
        let here : i < length t.windows = omega (arith, count_ranges t) in
        let none : MemRange = record { ns = 0; at = 0; len = 0; access = ReadOnly } in
        let len : length (get_or t.windows i []) ≡ length (get_or vs i []) =
        sym (lengths_at t.windows i) ∙ (ap (λ (ls : List ℕ). get_or ls i 0) (sym lengths) ∙ lengths_at vs i) in
        get_or-map (λ (r : MemRange). bytes_from (window_memory vs) r.ns r.at r.len) (ranges_of t) i none [] inside
        ∙ (ap (λ (r : MemRange). bytes_from (window_memory vs) r.ns r.at r.len) (range_from 0 t.writable t.windows i none here)
        ∙ (ap (λ (j : ℕ). bytes_from (window_memory vs) j 0 (length (get_or t.windows i []))) (omega arith)
        ∙ (ap (λ (n : ℕ). bytes_from (window_memory vs) i 0 n) len
        ∙ (piece_from vs i 0 (length (get_or vs i [])) (omega arith) ∙ take-length (get_or vs i [])))))

-- the ranges of windows have the accesses that their flags say
pub flags_seen : (t : Touched) → length t.writable ≡ length t.windows → read_write_of (ranges_of t) ≡ t.writable
flags_seen t count = ext_get_or false (read_write_of (ranges_of t)) t.writable (all ∙ (count_ranges t ∙ sym count)) each
  where
    all : length (read_write_of (ranges_of t)) ≡ length (ranges_of t)
    all = length-map (ranges_of t) (λ (r : MemRange). allows_writing r.access)

    each : (i : ℕ) → i < length (read_write_of (ranges_of t)) → get_or (read_write_of (ranges_of t)) i false ≡ get_or t.writable i false
    each i less = read_write_seen t.writable t.windows i (omega (arith, all, count_ranges t))

-- a run on windows is one on all ranges and memories that they stand for
module _ (program : Program) (ranges : List MemRange) (memory : Memory) (slots : List (Option Insn)) (t : Touched)
    (given : Describes program ranges memory slots t) (p1 p2 budget : ℕ) where
  same_program : decoded_program slots ≡ program
  same_program = fun_ext (λ place. given.code place)

  -- there are as many flags as windows
  count_flags : length t.writable ≡ length t.windows
  count_flags =
      sym (ap (λ (fs : List Bool). length fs) given.access)
      ∙ (length-map ranges (λ (r : MemRange). allows_writing r.access)
      ∙ (sym (length-map ranges (λ (r : MemRange). bytes_from memory r.ns r.at r.len)) ∙ ap (λ (ws : List (List ℕ)). length ws) given.bytes))

  same_windows : windows_of (window_memory t.windows) (ranges_of t) ≡ windows_of memory ranges
  same_windows = windows_seen t t.windows refl ∙ sym given.bytes

  same_access : read_write_of (ranges_of t) ≡ read_write_of ranges
  same_access = flags_seen t count_flags ∙ sym given.access

  pub ending_of : outcome (decoded_program slots) (ranges_of t) (window_memory t.windows) p1 p2 budget ≡ outcome program (ranges_of t) (window_memory t.windows) p1 p2 budget
  ending_of = ap (λ (f : Program). outcome f (ranges_of t) (window_memory t.windows) p1 p2 budget) same_program

  pub described-ending : (o : RunOutcome) → outcome (decoded_program slots) (ranges_of t) (window_memory t.windows) p1 p2 budget ≡ o
      → o.ending ≡ (outcome program ranges memory p1 p2 budget).ending
  described-ending o e =
      ap (λ (x : RunOutcome). x.ending) (sym e ∙ ending_of)
      ∙ windows-ending program (ranges_of t) ranges (window_memory t.windows) memory p1 p2 budget (ranges_apart t) given.apart same_windows same_access

  pub described-windows : (vs : List (List ℕ)) → (outcome (decoded_program slots) (ranges_of t) (window_memory t.windows) p1 p2 budget).memory ≡ window_memory vs
      → map (length {A = ℕ}) vs ≡ map (length {A = ℕ}) t.windows → vs ≡ windows_of (outcome program ranges memory p1 p2 budget).memory ranges
  described-windows vs e lengths =
      sym (windows_seen t vs lengths)
      ∙ (ap (λ (m : Memory). windows_of m (ranges_of t)) (sym e ∙ ap (λ (x : RunOutcome). x.memory) ending_of)
      ∙ windows-memory program (ranges_of t) ranges (window_memory t.windows) memory p1 p2 budget (ranges_apart t) given.apart same_windows same_access)
