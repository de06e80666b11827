-- The line of an entry names its command.
use Rattle.std.proofs.Common.{◌≡◌, ℕ, ◌+◌, ◌<◌, ◌≤◌, ◌^◌, true, List, [], ◌∷◌, ◌++◌, length, refl, sym, ap, subst, ◌∙◌, arith, append_assoc}
use Rattle.std.specs.Prelude.{codes}
use Rattle.std.specs.List.{All, AllByRecursion}
use Rattle.std.proofs.lemmas.List.{append_cancel_right}
use Rattle.cp_base.specs.Configuration.{Configuration}
use Rattle.cp_base.specs.Commands.{word_of, word_text}
use Rattle.cp_text.specs.HexText.{hex_text}
use Rattle.script_cmds.specs.declared.item.Phase.{Phase}
use Rattle.history_model.specs.Entry.{Entry}
use Rattle.history_model.specs.Sent.{Sent, sends_of}
use Rattle.history_model.specs.Sized.{IsSizedSend}
use Rattle.history_model.specs.Text.{entry_text, lettered, status_text}
use Rattle.history_model.proofs.Every.{every-of-All}
use Rattle.history_model.proofs.OneHistory.{Among, every-among}
use Rattle.history_model.proofs.Order.{ordinals-few}
use Rattle.history_check.specs.Beginning.{MayComeNext}
use Rattle.history_check.specs.Name.{IsNamed}
use Rattle.history_check.specs.SizedPlan.{IsSizedPlan}
use Rattle.history_check.proofs.Lists.{contains-among}
use Rattle.history_check.proofs.TextLines.{entry-ends, entry_front}

-- one more part behind a front
behind : (front parts part whole : List ℕ) → whole ≡ front ++ parts → whole ++ part ≡ front ++ (parts ++ part)
behind front parts part whole is = ap (λ (xs : List ℕ). xs ++ part) is ∙ append_assoc front parts part

-- the first fields of an entry's line, and the rest
fields : (a h n x : List ℕ) → ((a ++ 32 ∷ h) ++ 32 ∷ n) ++ 32 ∷ x ≡ a ++ 32 ∷ (h ++ 32 ∷ (n ++ 32 ∷ x))
fields a h n x =
    append_assoc (a ++ 32 ∷ h) (32 ∷ n) (32 ∷ x) ∙ append_assoc a (32 ∷ h) (32 ∷ (n ++ 32 ∷ x))

pub front-named : (k : ℕ) (e : Entry) → (rest : List ℕ) × (entry_front k e ≡ lettered (codes "#") k ++ 32 ∷ (lettered (codes "h") e.sent.host ++ 32 ∷ (lettered (codes "n") e.sent.ordinal ++ 32 ∷ rest)))
front-named k e =
    let front : List ℕ = lettered (codes "#") k ++ lettered (codes " h") e.sent.host ++ lettered (codes " n") e.sent.ordinal in
    let p1 : List ℕ = lettered (codes "c") e.sent.cid in
    let p2 : List ℕ = p1 ++ codes " " in
    let p3 : List ℕ = p2 ++ word_text (word_of e.sent.command) in
    let p4 : List ℕ = p3 ++ codes " " in
    let p5 : List ℕ = p4 ++ status_text e.answer.status in
    let p6 : List ℕ = p5 ++ lettered (codes " r=") e.answer.result in
    let p7 : List ℕ = p6 ++ codes " d=" in
    let p8 : List ℕ = p7 ++ hex_text e.answer.bytes in
    let w1 : List ℕ = front ++ 32 ∷ p1 in
    let w2 : List ℕ = w1 ++ codes " " in
    let w3 : List ℕ = w2 ++ word_text (word_of e.sent.command) in
    let w4 : List ℕ = w3 ++ codes " " in
    let w5 : List ℕ = w4 ++ status_text e.answer.status in
    let w6 : List ℕ = w5 ++ lettered (codes " r=") e.answer.result in
    let w7 : List ℕ = w6 ++ codes " d=" in
    let e2 : w2 ≡ front ++ 32 ∷ p2 = behind front (32 ∷ p1) (codes " ") w1 refl in
    let e3 : w3 ≡ front ++ 32 ∷ p3 = behind front (32 ∷ p2) (word_text (word_of e.sent.command)) w2 e2 in
    let e4 : w4 ≡ front ++ 32 ∷ p4 = behind front (32 ∷ p3) (codes " ") w3 e3 in
    let e5 : w5 ≡ front ++ 32 ∷ p5 = behind front (32 ∷ p4) (status_text e.answer.status) w4 e4 in
    let e6 : w6 ≡ front ++ 32 ∷ p6 = behind front (32 ∷ p5) (lettered (codes " r=") e.answer.result) w5 e5 in
    let e7 : w7 ≡ front ++ 32 ∷ p7 = behind front (32 ∷ p6) (codes " d=") w6 e6 in
    let e8 : w7 ++ hex_text e.answer.bytes ≡ front ++ 32 ∷ p8 = behind front (32 ∷ p7) (hex_text e.answer.bytes) w7 e7 in
    (p8, e8 ∙ fields (lettered (codes "#") k) (lettered (codes "h") e.sent.host) (lettered (codes "n") e.sent.ordinal) p8)

pub entry-named : (c : Configuration) (plan : List Phase) (entries : List Entry) (next : Entry) (line : List ℕ) → IsSizedPlan c plan → MayComeNext c plan entries next → length entries + 1 < 2 ^ 64
    → entry_text (length entries + 1) next ≡ line ++ 10 ∷ [] → IsNamed line next.sent.host next.sent.ordinal
entry-named c plan entries next line sized may few text =
    let found : Among (sends_of plan) next.sent = contains-among (sends_of plan) next.sent may.sent in
    let send : IsSizedSend next.sent = every-among IsSizedSend (sends_of plan) next.sent (every-of-All IsSizedSend (sends_of plan) sized.sends) found in
    let upto : next.sent.ordinal ≤ length (sends_of plan) = every-among (λ (s : Sent). s.ordinal ≤ length (sends_of plan)) (sends_of plan) next.sent (ordinals-few plan) found in
    let named = front-named (length entries + 1) next in
    let same : line ≡ entry_front (length entries + 1) next = append_cancel_right line (entry_front (length entries + 1) next) (10 ∷ []) (sym text ∙ entry-ends (length entries + 1) next) in
    record {
      number = length entries + 1;
      rest = named.0;
      few = few;
      hosts = send.host;
      ordinals = let most = sized.few in omega (arith, upto, most);
      begins = same ∙ named.1;
    }
