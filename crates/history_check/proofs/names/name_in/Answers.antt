use Rattle.std.proofs.Common.{◌≡◌, ℕ, ◌++◌, ◌∷◌, ◌<◌, ◌^◌, List, true, arith, ap, sym, ◌∙◌, Some, None}
use Rattle.std.specs.Prelude.{codes, decimal}
use Rattle.cp_text.specs.Parts.{lacks}
use Rattle.history_model.specs.Text.{lettered}
use Rattle.history_check.specs.Name.{IsNamed}
use Rattle.history_check.proofs.Fields.{lettered-lacks}
use Rattle.history_check.proofs.Places.{some-is}
use Rattle.history_check.proofs.names.name_in.Goals as goal

plain-number : (k : ℕ) → k < 2 ^ 64 → lacks 32 (lettered (codes "#") k) ≡ true
plain-number k small = lettered-lacks 35 k (λ e. omega (arith, e)) small

plain-host : (k : ℕ) → k < 2 ^ 64 → lacks 32 (lettered (codes "h") k) ≡ true
plain-host k small = lettered-lacks 104 k (λ e. omega (arith, e)) small

plain-ordinal : (k : ℕ) → k < 2 ^ 64 → lacks 32 (lettered (codes "n") k) ≡ true
plain-ordinal k small = lettered-lacks 110 k (λ e. omega (arith, e)) small

pub returns-in_err-rest : goal.returns-in_err-rest
returns-in_err-rest c host ordinal n =
    absurd (c.in_err-rest.ensures (lettered (codes "#") n.number) (lettered (codes "h") host ++ 32 ∷ (lettered (codes "n") ordinal ++ 32 ∷ n.rest)) (plain-number n.number n.few) n.begins)

pub returns-in_err-host : goal.returns-in_err-host
returns-in_err-host c host ordinal n =
    let one = c.in_ok-rest.ensures (lettered (codes "#") n.number) (lettered (codes "h") host ++ 32 ∷ (lettered (codes "n") ordinal ++ 32 ∷ n.rest)) (plain-number n.number n.few) n.begins in
    absurd (c.in_err-host.ensures (lettered (codes "h") host) (lettered (codes "n") ordinal ++ 32 ∷ n.rest) (plain-host host n.hosts) one.1)

pub returns-in_err-ordinal : goal.returns-in_err-ordinal
returns-in_err-ordinal c host ordinal n =
    let one = c.in_ok-rest.ensures (lettered (codes "#") n.number) (lettered (codes "h") host ++ 32 ∷ (lettered (codes "n") ordinal ++ 32 ∷ n.rest)) (plain-number n.number n.few) n.begins in
    let two = c.in_ok-host.ensures (lettered (codes "h") host) (lettered (codes "n") ordinal ++ 32 ∷ n.rest) (plain-host host n.hosts) one.1 in
    absurd (c.in_err-ordinal.ensures (lettered (codes "n") ordinal) n.rest (plain-ordinal ordinal n.ordinals) two.1)

none-is : (n : ℕ) → None ≡ Some n → ⊥
none-is n e = cc

pub returns-in_err-number_behind : goal.returns-in_err-number_behind
returns-in_err-number_behind c host ordinal n =
    let one = c.in_ok-rest.ensures (lettered (codes "#") n.number) (lettered (codes "h") host ++ 32 ∷ (lettered (codes "n") ordinal ++ 32 ∷ n.rest)) (plain-number n.number n.few) n.begins in
    let two = c.in_ok-host.ensures (lettered (codes "h") host) (lettered (codes "n") ordinal ++ 32 ∷ n.rest) (plain-host host n.hosts) one.1 in
    absurd (none-is host (c.in_err-number_behind.ensures host n.hosts two.0))

pub returns-in_err-number_behind-2 : goal.returns-in_err-number_behind-2
returns-in_err-number_behind-2 c host ordinal n =
    let one = c.in_ok-rest.ensures (lettered (codes "#") n.number) (lettered (codes "h") host ++ 32 ∷ (lettered (codes "n") ordinal ++ 32 ∷ n.rest)) (plain-number n.number n.few) n.begins in
    let two = c.in_ok-host.ensures (lettered (codes "h") host) (lettered (codes "n") ordinal ++ 32 ∷ n.rest) (plain-host host n.hosts) one.1 in
    let three = c.in_ok-ordinal.ensures (lettered (codes "n") ordinal) n.rest (plain-ordinal ordinal n.ordinals) two.1 in
    absurd (none-is ordinal (c.in_err-number_behind-2.ensures ordinal n.ordinals three.0))

pub returns : goal.returns
returns c host ordinal n =
    let one = c.in_ok-rest.ensures (lettered (codes "#") n.number) (lettered (codes "h") host ++ 32 ∷ (lettered (codes "n") ordinal ++ 32 ∷ n.rest)) (plain-number n.number n.few) n.begins in
    let two = c.in_ok-host.ensures (lettered (codes "h") host) (lettered (codes "n") ordinal ++ 32 ∷ n.rest) (plain-host host n.hosts) one.1 in
    let three = c.in_ok-ordinal.ensures (lettered (codes "n") ordinal) n.rest (plain-ordinal ordinal n.ordinals) two.1 in
    let h : c.in_ok-number_behind.field-0 ≡ host = some-is c.in_ok-number_behind.field-0 host (c.in_ok-number_behind.ensures host n.hosts two.0) in
    let o : c.in_ok-number_behind-2.field-0 ≡ ordinal = some-is c.in_ok-number_behind-2.field-0 ordinal (c.in_ok-number_behind-2.ensures ordinal n.ordinals three.0) in
    λ i. Some (h i, o i)
