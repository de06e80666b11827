-- Legal histories of one plan with one text are one history.
use Rattle.std.proofs.Common.{◌≡◌, ℕ, zero, suc, ◌+◌, ◌<◌, true, List, [], ◌∷◌, ◌++◌, length, get_or, map, Option, Some, refl, sym, ap, subst, ◌∙◌, arith, inl, inr, ◌⊎◌, append_assoc}
use Rattle.std.specs.Prelude.{decimal, find, ◌^◌}
use Rattle.std.specs.List.{All, AllByRecursion, Contains}
use Rattle.std.specs.List.Sorted.{IsPermutation}
use Rattle.std.specs.Str.{bytes_eq}
use Rattle.std.proofs.lemmas.Fmt.{decimal_injective}
use Rattle.std.proofs.lemmas.List.{append_cancel_left}
use Rattle.std.proofs.lemmas.List.Elements.{All-contains_itself}
use Rattle.std.proofs.lemmas.List.Sorted.{Contains-permutation, length_permutation}
use Rattle.cp_base.specs.Answer.{Answer}
use Rattle.cp_base.specs.Configuration.{Configuration}
use Rattle.cp_base.specs.declared.replies.Status.{Status}
use Rattle.cp_base.specs.declared.replies.Status.TheVariants as status
use Rattle.cp_text.specs.HexText.{hex_text}
use Rattle.cp_text.specs.Parts.{lacks}
use Rattle.cp_text.proofs.HexTexts.{hex_text-one}
use Rattle.cp_text.proofs.Joined.{decimal_lacks, hex_lacks, same_cut}
use Rattle.cp_base.specs.Commands.{word_of, word_text}
use Rattle.script_cmds.specs.declared.item.Phase.{Phase}
use Rattle.script_cmds.specs.declared.item.Show.{Show}
use Rattle.cp_base.specs.declared.commands.CommandWord.{CommandWord}
use Rattle.cp_base.specs.declared.commands.CommandWord.TheVariants as word
use Rattle.history_model.specs.Entry.{Entry}
use Rattle.history_model.specs.Legal.{IsLegal, last_state}
use Rattle.history_model.specs.Sent.{Sent, sends_of}
use Rattle.history_model.specs.Sized.{IsSizedEntry}
use Rattle.history_model.specs.Text.{entries_text, entry_text, history_text, shows_text, status_text}
use Rattle.history_model.proofs.Every.{Pairwise}
use Rattle.history_model.proofs.Order.{Precedes, sends-in-order}

-- ---- names are unique

-- an element of a list
abbrev pub Among : {A : Type 0} → List A → A → Type 0
Among [] x = ⊥
Among (y ∷ ys) x = (x ≡ y) ⊎ Among ys x

among-at : {A : Type 0} (xs : List A) (k : ℕ) (x : A) → k < length xs → get_or xs k x ≡ x → Among xs x
among-at [] k x below is = absurd (omega arith)
among-at (y ∷ ys) zero x below is = inl (sym is)
among-at (y ∷ ys) (suc k) x below is = inr (among-at ys k x (omega arith) is)

pub every-among : {A : Type 0} (P : A → Type 0) (xs : List A) (x : A) → AllByRecursion P xs → Among xs x → P x
every-among P [] x all found = absurd found
every-among P (y ∷ ys) x all (inl is) = subst P (sym is) all.0
every-among P (y ∷ ys) x all (inr found) = every-among P ys x all.1 found

pub unique : (xs : List Sent) (a b : Sent) → Pairwise Precedes xs → Among xs a → Among xs b → a.host ≡ b.host → a.ordinal ≡ b.ordinal → a ≡ b
unique [] a b order p q h o = absurd p
unique (y ∷ ys) a b order (inl p) (inl q) h o = p ∙ sym q
unique (y ∷ ys) a b order (inl p) (inr q) h o =
    let before = every-among (Precedes y) ys b order.0 q in
    let same : y.host ≡ b.host = ap (λ (s : Sent). s.host) (sym p) ∙ h in
    let number : y.ordinal ≡ a.ordinal = ap (λ (s : Sent). s.ordinal) (sym p) in
    let lt : y.ordinal < b.ordinal = before.ordinals same in
    absurd (omega arith)
unique (y ∷ ys) a b order (inr p) (inl q) h o =
    let before = every-among (Precedes y) ys a order.0 p in
    let same : y.host ≡ a.host = ap (λ (s : Sent). s.host) (sym q) ∙ sym h in
    let number : y.ordinal ≡ b.ordinal = ap (λ (s : Sent). s.ordinal) (sym q) in
    let lt : y.ordinal < a.ordinal = before.ordinals same in
    absurd (omega arith)
unique (y ∷ ys) a b order (inr p) (inr q) h o = unique ys a b order.1 p q h o

pub each-among : (whole sends : List Sent) (h : List Entry) → IsPermutation whole sends → All (Contains whole) (map (λ (e : Entry). e.sent) h) → AllByRecursion (λ (e : Entry). Among sends e.sent) h
each-among whole sends [] moved all = tt
each-among whole sends (e ∷ es) moved all =
    let found = Contains-permutation whole sends e.sent moved (all 0 e.sent (omega arith)) in
    (among-at sends found.0 e.sent found.1 found.2, each-among whole sends es moved (λ k d below. all (suc k) d (omega arith)))

-- ---- texts are cut at one place

-- a number, a space and what stands behind it
cut-number : (m n : ℕ) (x y : List ℕ) → m < 2 ^ 64 → n < 2 ^ 64 → decimal m ++ 32 ∷ x ≡ decimal n ++ 32 ∷ y → (m ≡ n) × (x ≡ y)
cut-number m n x y p q e =
    let h = same_cut 32 (decimal m) (decimal n) x y (decimal_lacks 32 m (inl (omega arith)) p) (decimal_lacks 32 n (inl (omega arith)) q) e in
    (decimal_injective m n p q h.0, h.1)

word-lacks : (w : CommandWord) → lacks 32 (word_text w) ≡ true
word-lacks word.NvmRead = refl
word-lacks word.NvmWrite = refl
word-lacks word.NvmZeroes = refl
word-lacks word.NvmCopy = refl
word-lacks word.MemRead = refl
word-lacks word.MemWrite = refl
word-lacks word.MemFill = refl
word-lacks word.MemCopy = refl
word-lacks word.SetCreate = refl
word-lacks word.SetDelete = refl
word-lacks word.Load = refl
word-lacks word.Unload = refl
word-lacks word.Activate = refl
word-lacks word.Deactivate = refl
word-lacks word.Execute = refl
word-lacks word.Abort = refl

status-lacks : (s : Status) → lacks 32 (status_text s) ≡ true
status-lacks status.Ok = refl
status-lacks status.BadNamespace = refl
status-lacks status.BadLength = refl
status-lacks status.TooLong = refl
status-lacks status.OutOfRange = refl
status-lacks status.CopyOverlap = refl
status-lacks status.SetTableFull = refl
status-lacks status.RangeOverlap = refl
status-lacks status.NoSuchSet = refl
status-lacks status.NoSuchSlot = refl
status-lacks status.SlotEmpty = refl
status-lacks status.SlotPartial = refl
status-lacks status.SlotComplete = refl
status-lacks status.SlotActive = refl
status-lacks status.SlotInactive = refl
status-lacks status.SizeDiffers = refl
status-lacks status.PieceOverlap = refl
status-lacks status.BadProgram = refl
status-lacks status.BudgetRange = refl
status-lacks status.BadAccess = refl
status-lacks status.BadJump = refl
status-lacks status.CallDepth = refl
status-lacks status.BudgetSpent = refl
status-lacks status.NoMemory = refl
status-lacks status.Aborted = refl

all-statuses : List Status
all-statuses =
    status.Ok ∷ status.BadNamespace ∷ status.BadLength ∷ status.TooLong ∷ status.OutOfRange ∷ status.CopyOverlap ∷ status.SetTableFull ∷ status.RangeOverlap
    ∷ status.NoSuchSet ∷ status.NoSuchSlot ∷ status.SlotEmpty ∷ status.SlotPartial ∷ status.SlotComplete ∷ status.SlotActive ∷ status.SlotInactive ∷ status.SizeDiffers
    ∷ status.PieceOverlap ∷ status.BadProgram ∷ status.BudgetRange ∷ status.BadAccess ∷ status.BadJump ∷ status.CallDepth ∷ status.BudgetSpent ∷ status.NoMemory ∷ status.Aborted ∷ []

status-of : List ℕ → Option Status
status-of text = find (λ s. bytes_eq text (status_text s)) all-statuses

status-again : (s : Status) → status-of (status_text s) ≡ Some s
unfolding status-of all-statuses
status-again status.Ok = refl
status-again status.BadNamespace = refl
status-again status.BadLength = refl
status-again status.TooLong = refl
status-again status.OutOfRange = refl
status-again status.CopyOverlap = refl
status-again status.SetTableFull = refl
status-again status.RangeOverlap = refl
status-again status.NoSuchSet = refl
status-again status.NoSuchSlot = refl
status-again status.SlotEmpty = refl
status-again status.SlotPartial = refl
status-again status.SlotComplete = refl
status-again status.SlotActive = refl
status-again status.SlotInactive = refl
status-again status.SizeDiffers = refl
status-again status.PieceOverlap = refl
status-again status.BadProgram = refl
status-again status.BudgetRange = refl
status-again status.BadAccess = refl
status-again status.BadJump = refl
status-again status.CallDepth = refl
status-again status.BudgetSpent = refl
status-again status.NoMemory = refl
status-again status.Aborted = refl

some-is : (s t : Status) → Some s ≡ Some t → s ≡ t
some-is s t e = cc

one-status : (s t : Status) → status_text s ≡ status_text t → s ≡ t
one-status s t e = some-is s t (sym (status-again s) ∙ ap status-of e ∙ status-again t)

-- ---- the line of an entry

-- what stands behind the number of a line
abbrev told : ℕ → ℕ → ℕ → CommandWord → Status → ℕ → List ℕ → List ℕ → List ℕ
told host ordinal cid w s value bytes more =
    32 ∷ 104 ∷ (decimal host ++ 32 ∷ 110 ∷ (decimal ordinal ++ 32 ∷ 99 ∷ (decimal cid ++ 32 ∷ (word_text w ++ 32 ∷ (status_text s ++ 32 ∷ 114 ∷ 61 ∷ (decimal value ++ 32 ∷ 100 ∷ 61 ∷ (hex_text bytes ++ 10 ∷ more)))))))

spelled : (k h n c w s r d more : List ℕ) → (35 ∷ k ++ 32 ∷ 104 ∷ h ++ 32 ∷ 110 ∷ n ++ 32 ∷ 99 ∷ c ++ 32 ∷ [] ++ w ++ 32 ∷ [] ++ s ++ 32 ∷ 114 ∷ 61 ∷ r ++ 32 ∷ 100 ∷ 61 ∷ [] ++ d ++ 10 ∷ []) ++ more
    ≡ 35 ∷ k ++ (32 ∷ 104 ∷ (h ++ 32 ∷ 110 ∷ (n ++ 32 ∷ 99 ∷ (c ++ 32 ∷ (w ++ 32 ∷ (s ++ 32 ∷ 114 ∷ 61 ∷ (r ++ 32 ∷ 100 ∷ 61 ∷ (d ++ 10 ∷ more))))))))
spelled k h n c w s r d more = simp append_assoc

-- what one line tells
pub record Tells (e f : Entry) (x y : List ℕ) : Type 0 where
  pub host : e.sent.host ≡ f.sent.host
  pub ordinal : e.sent.ordinal ≡ f.sent.ordinal
  pub answer : e.answer ≡ f.answer
  pub rest : x ≡ y

same-answer : (a b : Answer) → a.status ≡ b.status → a.result ≡ b.result → a.bytes ≡ b.bytes → a ≡ b
same-answer a b s r d =
    let by_status : Status → Answer = λ x. record { status = x; result = a.result; bytes = a.bytes } in
    let by_result : ℕ → Answer = λ x. record { status = b.status; result = x; bytes = a.bytes } in
    let by_bytes : List ℕ → Answer = λ x. record { status = b.status; result = b.result; bytes = x } in
    ap by_status s ∙ ap by_result r ∙ ap by_bytes d

tail-same : (a b : ℕ) (x y : List ℕ) → a ∷ x ≡ b ∷ y → x ≡ y
tail-same a b x y e = cc

pub line-tells : (k : ℕ) (e f : Entry) (x y : List ℕ) → IsSizedEntry e → IsSizedEntry f → entry_text k e ++ x ≡ entry_text k f ++ y → Tells e f x y
line-tells k e f x y p q same =
    let E : List ℕ = told e.sent.host e.sent.ordinal e.sent.cid (word_of e.sent.command) e.answer.status e.answer.result e.answer.bytes x in
    let F : List ℕ = told f.sent.host f.sent.ordinal f.sent.cid (word_of f.sent.command) f.answer.status f.answer.result f.answer.bytes y in
    let nested : 35 ∷ decimal k ++ E ≡ 35 ∷ decimal k ++ F =
    sym (spelled (decimal k) (decimal e.sent.host) (decimal e.sent.ordinal) (decimal e.sent.cid) (word_text (word_of e.sent.command)) (status_text e.answer.status) (decimal e.answer.result) (hex_text e.answer.bytes) x)
    ∙ same ∙ spelled (decimal k) (decimal f.sent.host) (decimal f.sent.ordinal) (decimal f.sent.cid) (word_text (word_of f.sent.command)) (status_text f.answer.status) (decimal f.answer.result) (hex_text f.answer.bytes) y in
    let a = append_cancel_left (35 ∷ decimal k) E F nested in
    let b = cut-number e.sent.host f.sent.host _ _ p.host q.host (tail-same _ _ _ _ (tail-same _ _ _ _ a)) in
    let c = cut-number e.sent.ordinal f.sent.ordinal _ _ p.ordinal q.ordinal (tail-same _ _ _ _ b.1) in
    let d = cut-number e.sent.cid f.sent.cid _ _ p.cid q.cid (tail-same _ _ _ _ c.1) in
    let w = same_cut 32 (word_text (word_of e.sent.command)) (word_text (word_of f.sent.command)) _ _ (word-lacks (word_of e.sent.command)) (word-lacks (word_of f.sent.command)) d.1 in
    let s = same_cut 32 (status_text e.answer.status) (status_text f.answer.status) _ _ (status-lacks e.answer.status) (status-lacks f.answer.status) w.1 in
    let r = cut-number e.answer.result f.answer.result _ _ p.result q.result (tail-same _ _ _ _ (tail-same _ _ _ _ s.1)) in
    let h = same_cut 10 (hex_text e.answer.bytes) (hex_text f.answer.bytes) x y (hex_lacks 10 e.answer.bytes (inl (omega arith)) p.bytes) (hex_lacks 10 f.answer.bytes (inl (omega arith)) q.bytes) (tail-same _ _ _ _ (tail-same _ _ _ _ r.1)) in
    record {
      host = b.0;
      ordinal = c.0;
      answer = same-answer e.answer f.answer (one-status e.answer.status f.answer.status s.0) r.0 (hex_text-one e.answer.bytes f.answer.bytes p.bytes q.bytes h.0);
      rest = h.1;
    }

-- ---- whole histories

pub same-entry : (e f : Entry) → e.sent ≡ f.sent → e.answer ≡ f.answer → e ≡ f
same-entry e f s a =
    let by_sent : Sent → Entry = λ x. record { sent = x; answer = e.answer } in
    let by_answer : Answer → Entry = λ x. record { sent = f.sent; answer = x } in
    ap by_sent s ∙ ap by_answer a

same-entries : (k : ℕ) (sends : List Sent) (es fs : List Entry) (x y : List ℕ) → Pairwise Precedes sends → length es ≡ length fs
    → AllByRecursion (λ (e : Entry). Among sends e.sent) es → AllByRecursion (λ (e : Entry). Among sends e.sent) fs → All IsSizedEntry es → All IsSizedEntry fs
    → entries_text k es ++ x ≡ entries_text k fs ++ y → es ≡ fs
same-entries k sends [] [] x y order len p q a b same = refl
same-entries k sends [] (f ∷ fs) x y order len p q a b same = absurd (omega arith)
same-entries k sends (e ∷ es) [] x y order len p q a b same = absurd (omega arith)
same-entries k sends (e ∷ es) (f ∷ fs) x y order len p q a b same =
    let line : entry_text k e ++ (entries_text (k + 1) es ++ x) ≡ entry_text k f ++ (entries_text (k + 1) fs ++ y) = sym (append_assoc (entry_text k e) (entries_text (k + 1) es) x) ∙ same ∙ append_assoc (entry_text k f) (entries_text (k + 1) fs) y in
    let t = line-tells k e f (entries_text (k + 1) es ++ x) (entries_text (k + 1) fs ++ y) (a 0 e (omega arith)) (b 0 f (omega arith)) line in
    let first : e ≡ f = same-entry e f (unique sends e.sent f.sent order p.0 q.0 t.host t.ordinal) t.answer in
    let rest : es ≡ fs = same-entries (k + 1) sends es fs x y order (omega arith) p.1 q.1 (λ i d below. a (suc i) d (omega arith)) (λ i d below. b (suc i) d (omega arith)) t.rest in
    ap (λ (z : Entry). z ∷ es) first ∙ ap (λ (zs : List Entry). f ∷ zs) rest

length-map : {A B : Type 0} (f : A → B) (xs : List A) → length (map f xs) ≡ length xs
length-map f [] = refl
length-map f (x ∷ xs) = ap (λ (n : ℕ). suc n) (length-map f xs)

pub one-history : (c : Configuration) (plan : List Phase) (shows : List Show) (hs gs : List Entry) → IsLegal c plan hs → IsLegal c plan gs → All IsSizedEntry hs → All IsSizedEntry gs → history_text c shows hs ≡ history_text c shows gs → hs ≡ gs
one-history c plan shows hs gs p q a b same =
    let sent : Entry → Sent = λ e. e.sent in
    let sends = sends_of plan in
    let len : length hs ≡ length gs =
    sym (length-map sent hs) ∙ sym (length_permutation (map sent hs) sends p.each_once) ∙ length_permutation (map sent gs) sends q.each_once ∙ length-map sent gs in
    same-entries 1 sends hs gs (shows_text (last_state c hs).contents shows) (shows_text (last_state c gs).contents shows) (sends-in-order plan) len
    (each-among (map sent hs) sends hs p.each_once (All-contains_itself (map sent hs))) (each-among (map sent gs) sends gs q.each_once (All-contains_itself (map sent gs))) a b same
