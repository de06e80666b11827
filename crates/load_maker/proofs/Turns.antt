-- One command more of a host.
use Rattle.std.proofs.Common.{◌≡◌, ℕ, suc, ◌+◌, ◌/◌, ◌%◌, ◌==◌, List, [], ◌++◌, refl, sym, ap, subst, ◌∙◌, add-one}
use Rattle.std.specs.Prelude.{if◌then◌else◌}
use Rattle.rand_xoshiro.specs.SplitMix64.{mix_u64}
use Rattle.load_maker.specs.Load.{host_turns, seed_state, seed_word, turn_lines, word_command}
use Rattle.load_maker.specs.Made.{PrintsLines}
use Rattle.load_maker.proofs.Printed.{prints_more, prints_none}
use Rattle.script_line.specs.Line.{Line}

-- the lines of the command of this number and word, where it is the host's
abbrev pub own_lines : ℕ → ℕ → ℕ → List Line
own_lines host n word = if n % 4 == host then turn_lines (n / 4) (word_command word) else []

next_state_is : (seed n word x y : ℕ) → x ≡ seed_state seed n → (word, y) ≡ mix_u64 x → y ≡ seed_state seed (suc n)
next_state_is seed n word x y is step =
    ap (λ (p : ℕ × ℕ). p.1) step ∙ ap (λ (s : ℕ). (mix_u64 s).1) is

next_word_is : (seed n word x y : ℕ) → x ≡ seed_state seed n → (word, y) ≡ mix_u64 x → word ≡ seed_word seed n
next_word_is seed n word x y is step =
    ap (λ (p : ℕ × ℕ). p.0) step ∙ ap (λ (s : ℕ). (mix_u64 s).0) is

-- the generator's state and the lines after one command more
pub next_turn : (seed host n word x y : ℕ) (old mid new : List ℕ) → x ≡ seed_state seed n → (word, y) ≡ mix_u64 x
    → PrintsLines (host_turns seed host n) old mid → PrintsLines (own_lines host n word) mid new
    → (y ≡ seed_state seed (n + 1)) × PrintsLines (host_turns seed host (n + 1)) old new
next_turn seed host n word x y old mid new is step before own =
    let mine = subst (λ (w : ℕ). PrintsLines (own_lines host n w) mid new) (next_word_is seed n word x y is step) own in
    rw (add-one) (
      next_state_is seed n word x y is step,
      prints_more (host_turns seed host n) (own_lines host n (seed_word seed n)) old mid new before mine,
    )
