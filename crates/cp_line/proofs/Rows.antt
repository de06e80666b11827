-- Words are an order exactly where they are its row of the table.
use Rattle.std.proofs.Common.{◌≡◌, ℕ, ◌≤◌, Bool, true, false, List, [], ◌∷◌, Option, Some, None, refl, sym, ap, subst, ◌∙◌, arith}
use Rattle.std.specs.Prelude.{if◌then◌else◌, codes, decimal}
use Rattle.std.specs.Str.{bytes_eq}
use Rattle.std.proofs.lemmas.Slice.Eq.{bytes_eq-Decides}
use Rattle.cp_base.specs.declared.limits.TheConstants.{MAX_HOSTS}
use Rattle.cp_text.proofs.NumberTexts.{spelled_number-decimal, spelled_number-spelled}
use Rattle.cp_text.specs.Number.{spelled_number}
use Rattle.cp_line.specs.Orders.{IsInTable, made_of, order_of, order_of_three, order_of_two, order_of_word, with_one, with_two, within, words_of, workers_of}
use Rattle.cp_line.specs.declared.limits.TheConstants.{MAX_MADE}
use Rattle.cp_line.specs.declared.order.Order.{Order}
use Rattle.cp_line.specs.declared.order.Order.TheVariants as order

-- the words are the row of an order, whose numbers are in their ranges
abbrev pub IsRow : List (List ℕ) → Order → Type 0
IsRow words o = (words ≡ words_of o) × IsInTable o

-- a number in its range is there, and in its range
within_some : (least most : ℕ) (read : Option ℕ) (n : ℕ) → within least most read ≡ Some n
    → (read ≡ Some n) × (least ≤ n) × (n ≤ most)
within_some least most None n h = absurd cc
within_some least most (Some m) n h = grind arith

-- one that is in its range is kept
within_kept : (least most n : ℕ) → least ≤ n → n ≤ most → within least most (Some n) ≡ Some n
within_kept least most n low high = grind arith

workers_spelled : (text : List ℕ) (n : ℕ) → workers_of text ≡ Some n → (text ≡ decimal n) × (1 ≤ n) × (n ≤ MAX_HOSTS)
workers_spelled text n h =
    let read = within_some 1 MAX_HOSTS (spelled_number text) n h in
    ((spelled_number-spelled text n read.0).0, read.1, read.2)

made_spelled : (text : List ℕ) (n : ℕ) → made_of text ≡ Some n → (text ≡ decimal n) × (n ≤ MAX_MADE)
made_spelled text n h =
    let read = within_some 0 MAX_MADE (spelled_number text) n h in
    ((spelled_number-spelled text n read.0).0, read.2)

workers_read : (n : ℕ) → 1 ≤ n → n ≤ MAX_HOSTS → workers_of (decimal n) ≡ Some n
workers_read n low high =
    ap (within 1 MAX_HOSTS) (spelled_number-decimal n (omega arith)) ∙ within_kept 1 MAX_HOSTS n low high

made_read : (n : ℕ) → n ≤ MAX_MADE → made_of (decimal n) ≡ Some n
made_read n high = ap (within 0 MAX_MADE) (spelled_number-decimal n (omega arith)) ∙ within_kept 0 MAX_MADE n (omega arith) high

-- two numbers that are there
two_some : (make : ℕ → ℕ → Order) (p q : Option ℕ) (o : Order) (P : Type 0)
    → ((a b : ℕ) → p ≡ Some a → q ≡ Some b → make a b ≡ o → P) → with_two make p q ≡ Some o → P
two_some make None q o P f h = absurd cc
two_some make (Some a) None o P f h = absurd cc
two_some make (Some a) (Some b) o P f h = f a b refl refl cc

one_some : (make : ℕ → Order) (p : Option ℕ) (o : Order) (P : Type 0)
    → ((a : ℕ) → p ≡ Some a → make a ≡ o → P) → with_one make p ≡ Some o → P
one_some make None o P f h = absurd cc
one_some make (Some a) o P f h = f a refl cc

-- a choice by a test is one of two
by_test : (test : Bool) (first rest : Option Order) (o : Order) (P : Type 0) → (test ≡ true → first ≡ Some o → P)
    → (rest ≡ Some o → P) → (if test then first else rest) ≡ Some o → P
by_test true first rest o P held missed h = held refl h
by_test false first rest o P held missed h = missed h

same : (word name : List ℕ) → bytes_eq word name ≡ true → word ≡ name
same word name h = (bytes_eq-Decides word name).0 h

-- a word alone
alone : (word name : List ℕ) (row o : Order) → words_of row ≡ name ∷ [] → IsInTable row → bytes_eq word name ≡ true
    → Some row ≡ Some o → IsRow (word ∷ []) o
alone word name row o named in_table test e =
    let is : row ≡ o = cc in
    subst (λ (x : Order). IsRow (word ∷ []) x) is (ap (λ (t : List ℕ). t ∷ []) (same word name test) ∙ sym named, in_table)

word_rows : (word : List ℕ) (o : Order) → order_of_word word ≡ Some o → IsRow (word ∷ []) o
word_rows word o =
    let P = IsRow (word ∷ []) o in
    by_test (bytes_eq word (codes "asm")) _ _ o P (alone word (codes "asm") order.Asm o refl tt)
    (by_test (bytes_eq word (codes "dis")) _ _ o P (alone word (codes "dis") order.Dis o refl tt)
    (by_test (bytes_eq word (codes "upgrade")) _ _ o P (alone word (codes "upgrade") order.Upgrade o refl tt)
    (by_test (bytes_eq word (codes "check")) _ _ o P (alone word (codes "check") order.Check o refl tt) (λ h. absurd cc))))

serve_row : (word first : List ℕ) (o : Order) → bytes_eq word (codes "serve") ≡ true
    → with_one (λ workers. order.Serve workers) (workers_of first) ≡ Some o → IsRow (word ∷ first ∷ []) o
serve_row word first o test =
    one_some (λ workers. order.Serve workers) (workers_of first) o (IsRow (word ∷ first ∷ []) o) (λ n read is.
    let text = workers_spelled first n read in
    let words : word ∷ first ∷ [] ≡ codes "serve" ∷ decimal n ∷ [] = cc (same word (codes "serve") test, text.0) in
    subst (λ (x : Order). IsRow (word ∷ first ∷ []) x) is (words, (text.1, text.2)))

two_rows : (word first : List ℕ) (o : Order) → order_of_two word first ≡ Some o → IsRow (word ∷ first ∷ []) o
two_rows word first o =
    by_test (bytes_eq word (codes "serve")) _ _ o (IsRow (word ∷ first ∷ []) o) (serve_row word first o) (λ h. absurd cc)

step_row : (word first second : List ℕ) (o : Order) → bytes_eq word (codes "step") ≡ true
    → with_two (λ workers choices. order.Step workers choices) (workers_of first) (spelled_number second) ≡ Some o
    → IsRow (word ∷ first ∷ second ∷ []) o
step_row word first second o test =
    two_some (λ workers choices. order.Step workers choices) (workers_of first) (spelled_number second) o
    (IsRow (word ∷ first ∷ second ∷ []) o) (λ a b left right is.
    let one = workers_spelled first a left in
    let two = spelled_number-spelled second b right in
    let words : word ∷ first ∷ second ∷ [] ≡ codes "step" ∷ decimal a ∷ decimal b ∷ [] =
    cc (same word (codes "step") test, one.0, two.0) in
    subst (λ (x : Order). IsRow (word ∷ first ∷ second ∷ []) x) is (words, (one.1, one.2, two.1)))

make_row : (word first second : List ℕ) (o : Order) → bytes_eq word (codes "make") ≡ true
    → with_two (λ seed commands. order.Make seed commands) (spelled_number first) (made_of second) ≡ Some o
    → IsRow (word ∷ first ∷ second ∷ []) o
make_row word first second o test =
    two_some (λ seed commands. order.Make seed commands) (spelled_number first) (made_of second) o
    (IsRow (word ∷ first ∷ second ∷ []) o) (λ a b left right is.
    let one = spelled_number-spelled first a left in
    let two = made_spelled second b right in
    let words : word ∷ first ∷ second ∷ [] ≡ codes "make" ∷ decimal a ∷ decimal b ∷ [] =
    cc (same word (codes "make") test, one.0, two.0) in
    subst (λ (x : Order). IsRow (word ∷ first ∷ second ∷ []) x) is (words, (one.1, two.1)))

three_rows : (word first second : List ℕ) (o : Order) → order_of_three word first second ≡ Some o
    → IsRow (word ∷ first ∷ second ∷ []) o
three_rows word first second o =
    let P = IsRow (word ∷ first ∷ second ∷ []) o in
    by_test (bytes_eq word (codes "step")) _ _ o P (step_row word first second o)
    (by_test (bytes_eq word (codes "make")) _ _ o P (make_row word first second o) (λ h. absurd cc))

-- words that are an order are its row
pub row_of : (words : List (List ℕ)) (o : Order) → order_of words ≡ Some o → IsRow words o
row_of [] o h = absurd cc
row_of (word ∷ []) o h = word_rows word o h
row_of (word ∷ first ∷ []) o h = two_rows word first o h
row_of (word ∷ first ∷ second ∷ []) o h = three_rows word first second o h
row_of (word ∷ first ∷ second ∷ third ∷ words) o h = absurd cc

-- the row of an order is it
pub read_row : (o : Order) → IsInTable o → order_of (words_of o) ≡ Some o
read_row (order.Step workers choices) h =
    ap (λ (p : Option ℕ). with_two (λ w c. order.Step w c) p (spelled_number (decimal choices))) (workers_read workers h.0 h.1)
    ∙ ap (λ (q : Option ℕ). with_two (λ w c. order.Step w c) (Some workers) q) (spelled_number-decimal choices h.2)
read_row (order.Serve workers) h = ap (λ (p : Option ℕ). with_one (λ w. order.Serve w) p) (workers_read workers h.0 h.1)
read_row (order.Make seed commands) h =
    ap (λ (p : Option ℕ). with_two (λ s c. order.Make s c) p (made_of (decimal commands))) (spelled_number-decimal seed h.0)
    ∙ ap (λ (q : Option ℕ). with_two (λ s c. order.Make s c) (Some seed) q) (made_read commands h.1)
read_row order.Asm h = refl
read_row order.Dis h = refl
read_row order.Upgrade h = refl
read_row order.Check h = refl
