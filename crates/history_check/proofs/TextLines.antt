-- The lines of a text with which a legal history begins are those of its entries.
use Rattle.std.proofs.Common.{◌≡◌, ℕ, ◌+◌, ◌<◌, ◌≤◌, ◌^◌, true, inl, List, [], ◌∷◌, ◌++◌, length, refl, sym, ap, subst, ◌∙◌, arith, append_assoc, append-nil}
use Rattle.std.specs.Prelude.{codes}
use Rattle.std.specs.List.{AllByRecursion}
use Rattle.std.proofs.lemmas.List.{append_cancel_left, length-append, length-map}
use Rattle.std.proofs.lemmas.List.Elements.{All-contains_itself}
use Rattle.std.proofs.lemmas.List.Sorted.{length_permutation}
use Rattle.cp_base.specs.Configuration.{Configuration}
use Rattle.cp_base.specs.Commands.{word_of, word_text}
use Rattle.cp_base.specs.declared.replies.Status.{Status}
use Rattle.cp_base.specs.declared.replies.Status.TheVariants as status
use Rattle.cp_base.specs.declared.commands.CommandWord.{CommandWord}
use Rattle.cp_base.specs.declared.commands.CommandWord.TheVariants as word
use Rattle.cp_text.specs.HexText.{hex_text}
use Rattle.cp_text.specs.Parts.{lacks}
use Rattle.cp_text.proofs.Joined.{decimal_lacks, hex_lacks, lacks_both, same_cut}
use Rattle.script_cmds.specs.declared.item.Phase.{Phase}
use Rattle.script_cmds.specs.declared.item.Show.{Show}
use Rattle.history_model.specs.Entry.{Entry}
use Rattle.history_model.specs.Legal.{IsLegal, last_state}
use Rattle.history_model.specs.Sent.{Sent, sends_of}
use Rattle.history_model.specs.Sized.{IsSizedEntry}
use Rattle.history_model.specs.Text.{entries_text, entry_text, history_text, lettered, shows_text, status_text}
use Rattle.history_model.proofs.Every.{Pairwise, every-of-All}
use Rattle.history_model.proofs.OneHistory.{Among, each-among, line-tells, same-entry, unique}
use Rattle.history_model.proofs.Order.{Precedes, sends-in-order}
use Rattle.history_model.proofs.SizedHistories.{history_sized}
use Rattle.history_check.specs.Beginning.{IsBeginning, sents_of}
use Rattle.history_check.specs.SizedPlan.{IsSizedPlan}
use Rattle.history_check.proofs.Continuing.{beginning-continued}
use Rattle.history_check.proofs.Fronts.{front-of-legal}
use Rattle.history_check.proofs.Lists.{every-back, every-front}

-- entries of commands of a plan, with numbers of 64 bits
pub record AreEntries (sends : List Sent) (entries : List Entry) : Type 0 where
  pub among : AllByRecursion (λ (e : Entry). Among sends e.sent) entries
  pub sized : AllByRecursion IsSizedEntry entries

pub entries-of-legal : (c : Configuration) (plan : List Phase) (history : List Entry) → IsSizedPlan c plan → IsLegal c plan history → AreEntries (sends_of plan) history
entries-of-legal c plan history sized legal = record {
  among = each-among (sents_of history) (sends_of plan) history legal.each_once (All-contains_itself (sents_of history));
  sized = every-of-All IsSizedEntry history (history_sized c plan history sized.budget sized.few sized.sends legal);
}

front-entries : (sends : List Sent) (entries more : List Entry) → AreEntries sends (entries ++ more) → AreEntries sends entries
front-entries sends entries more all = record {
  among = every-front (λ (e : Entry). Among sends e.sent) entries more all.among;
  sized = every-front IsSizedEntry entries more all.sized;
}

pub entries-of-beginning : (c : Configuration) (plan : List Phase) (entries : List Entry) → IsSizedPlan c plan → IsBeginning c plan entries → AreEntries (sends_of plan) entries
entries-of-beginning c plan entries sized b =
    let more = beginning-continued c plan entries b in
    front-entries (sends_of plan) entries more.0 (entries-of-legal c plan (entries ++ more.0) sized more.1)

-- how many entries a legal history has
pub legal-length : (c : Configuration) (plan : List Phase) (history : List Entry) → IsLegal c plan history → length history ≡ length (sends_of plan)
legal-length c plan history legal =
    sym (length-map history (λ (e : Entry). e.sent)) ∙ sym (length_permutation (sents_of history) (sends_of plan) legal.each_once)

-- ---- entries that begin with the same text

same-front : (k : ℕ) (sends : List Sent) (entries history : List Entry) (x y : List ℕ) → Pairwise Precedes sends → AreEntries sends entries → AreEntries sends history
    → length entries ≤ length history → entries_text k history ++ y ≡ entries_text k entries ++ x → (more : List Entry) × (history ≡ entries ++ more)
same-front k sends [] history x y order a b upto same = (history, refl)
same-front k sends (e ∷ entries) [] x y order a b upto same = absurd (omega (arith, upto))
same-front k sends (e ∷ entries) (f ∷ history) x y order a b upto same =
    let line : entry_text k f ++ (entries_text (k + 1) history ++ y) ≡ entry_text k e ++ (entries_text (k + 1) entries ++ x) =
    sym (append_assoc (entry_text k f) (entries_text (k + 1) history) y) ∙ (same ∙ append_assoc (entry_text k e) (entries_text (k + 1) entries) x) in
    let t = line-tells k f e (entries_text (k + 1) history ++ y) (entries_text (k + 1) entries ++ x) b.sized.0 a.sized.0 line in
    let first : f ≡ e = same-entry f e (unique sends f.sent e.sent order b.among.0 a.among.0 t.host t.ordinal) t.answer in
    let later = same-front (k + 1) sends entries history x y order (record { among = a.among.1; sized = a.sized.1 }) (record { among = b.among.1; sized = b.sized.1 }) (omega (arith, upto)) t.rest in
    (later.0, ap (λ (z : Entry). z ∷ history) first ∙ ap (λ (zs : List Entry). e ∷ zs) later.1)

-- ---- the text of entries

pub text-append : (k : ℕ) (entries more : List Entry) → entries_text k (entries ++ more) ≡ entries_text k entries ++ entries_text (k + length entries) more
text-append k [] more = let number : k ≡ k + 0 = omega arith in ap (λ (n : ℕ). entries_text n more) number
text-append k (e ∷ entries) more =
    let number : k + 1 + length entries ≡ k + length (e ∷ entries) = omega arith in
    ap (λ (xs : List ℕ). entry_text k e ++ xs) (text-append (k + 1) entries more ∙ ap (λ (n : ℕ). entries_text (k + 1) entries ++ entries_text n more) number)
    ∙ sym (append_assoc (entry_text k e) (entries_text (k + 1) entries) (entries_text (k + length (e ∷ entries)) more))

-- what an entry's line has before its newline
abbrev pub entry_front : ℕ → Entry → List ℕ
entry_front k e =
    lettered (codes "#") k ++ lettered (codes " h") e.sent.host ++ lettered (codes " n") e.sent.ordinal ++ lettered (codes " c") e.sent.cid ++ codes " " ++ word_text (word_of e.sent.command) ++ codes " "
    ++ status_text e.answer.status ++ lettered (codes " r=") e.answer.result ++ codes " d=" ++ hex_text e.answer.bytes

pub entry-ends : (k : ℕ) (e : Entry) → entry_text k e ≡ entry_front k e ++ 10 ∷ []
entry-ends k e = refl

word-lacks : (w : CommandWord) → lacks 10 (word_text w) ≡ true
word-lacks word.NvmRead = refl
word-lacks word.NvmWrite = refl
word-lacks word.NvmZeroes = refl
word-lacks word.NvmCopy = refl
word-lacks word.MemRead = refl
word-lacks word.MemWrite = refl
word-lacks word.MemFill = refl
word-lacks word.MemCopy = refl
word-lacks word.SetCreate = refl
word-lacks word.SetDelete = refl
word-lacks word.Load = refl
word-lacks word.Unload = refl
word-lacks word.Activate = refl
word-lacks word.Deactivate = refl
word-lacks word.Execute = refl
word-lacks word.Abort = refl

status-lacks : (s : Status) → lacks 10 (status_text s) ≡ true
status-lacks status.Ok = refl
status-lacks status.BadNamespace = refl
status-lacks status.BadLength = refl
status-lacks status.TooLong = refl
status-lacks status.OutOfRange = refl
status-lacks status.CopyOverlap = refl
status-lacks status.SetTableFull = refl
status-lacks status.RangeOverlap = refl
status-lacks status.NoSuchSet = refl
status-lacks status.NoSuchSlot = refl
status-lacks status.SlotEmpty = refl
status-lacks status.SlotPartial = refl
status-lacks status.SlotComplete = refl
status-lacks status.SlotActive = refl
status-lacks status.SlotInactive = refl
status-lacks status.SizeDiffers = refl
status-lacks status.PieceOverlap = refl
status-lacks status.BadProgram = refl
status-lacks status.BudgetRange = refl
status-lacks status.BadAccess = refl
status-lacks status.BadJump = refl
status-lacks status.CallDepth = refl
status-lacks status.BudgetSpent = refl
status-lacks status.NoMemory = refl
status-lacks status.Aborted = refl

-- no newline stands in it
pub entry-lacks : (k : ℕ) (e : Entry) → k < 2 ^ 64 → IsSizedEntry e → lacks 10 (entry_front k e) ≡ true
entry-lacks k e small sized =
    let n1 : List ℕ = lettered (codes "#") k in
    let n2 : List ℕ = n1 ++ lettered (codes " h") e.sent.host in
    let n3 : List ℕ = n2 ++ lettered (codes " n") e.sent.ordinal in
    let n4 : List ℕ = n3 ++ lettered (codes " c") e.sent.cid in
    let n5 : List ℕ = n4 ++ codes " " ++ word_text (word_of e.sent.command) in
    let n6 : List ℕ = n5 ++ codes " " ++ status_text e.answer.status in
    let n7 : List ℕ = n6 ++ lettered (codes " r=") e.answer.result in
    let at1 : lacks 10 n1 ≡ true = decimal_lacks 10 k (inl (omega arith)) small in
    let at2 : lacks 10 n2 ≡ true = lacks_both 10 n1 (lettered (codes " h") e.sent.host) at1 (decimal_lacks 10 e.sent.host (inl (omega arith)) sized.host) in
    let at3 : lacks 10 n3 ≡ true = lacks_both 10 n2 (lettered (codes " n") e.sent.ordinal) at2 (decimal_lacks 10 e.sent.ordinal (inl (omega arith)) sized.ordinal) in
    let at4 : lacks 10 n4 ≡ true = lacks_both 10 n3 (lettered (codes " c") e.sent.cid) at3 (decimal_lacks 10 e.sent.cid (inl (omega arith)) sized.cid) in
    let at5 : lacks 10 n5 ≡ true = lacks_both 10 (n4 ++ codes " ") (word_text (word_of e.sent.command)) (lacks_both 10 n4 (codes " ") at4 refl) (word-lacks (word_of e.sent.command)) in
    let at6 : lacks 10 n6 ≡ true = lacks_both 10 (n5 ++ codes " ") (status_text e.answer.status) (lacks_both 10 n5 (codes " ") at5 refl) (status-lacks e.answer.status) in
    let at7 : lacks 10 n7 ≡ true = lacks_both 10 n6 (lettered (codes " r=") e.answer.result) at6 (decimal_lacks 10 e.answer.result (inl (omega arith)) sized.result) in
    lacks_both 10 (n7 ++ codes " d=") (hex_text e.answer.bytes) (lacks_both 10 n7 (codes " d=") at7 refl) (hex_lacks 10 e.answer.bytes (inl (omega arith)) sized.bytes)

-- ---- the next line

-- the entry that a legal history has behind these, and its text
pub record NextEntry (c : Configuration) (plan : List Phase) (entries : List Entry) (behind : List ℕ) : Type 0 where
  pub next : Entry
  pub begins : IsBeginning c plan (entries ++ next ∷ [])
  pub sized : IsSizedEntry next
  pub rest : List ℕ
  pub text : entry_text (length entries + 1) next ++ rest ≡ behind

pub next-entry : (c : Configuration) (plan : List Phase) (shows : List Show) (entries : List Entry) (behind : List ℕ) (history : List Entry) → IsSizedPlan c plan → IsBeginning c plan entries
    → length entries < length (sends_of plan) → IsLegal c plan history → history_text c shows history ≡ entries_text 1 entries ++ behind → NextEntry c plan entries behind
next-entry c plan shows entries behind history sized b short legal same =
    let whole = entries-of-legal c plan history sized legal in
    let count = legal-length c plan history legal in
    let cut = same-front 1 (sends_of plan) entries history behind (shows_text (last_state c history).contents shows) (sends-in-order plan)
    (entries-of-beginning c plan entries sized b) whole (omega (arith, short, count)) same in
    by_more cut.0 cut.1 whole count
  where
    by_more : (more : List Entry) → history ≡ entries ++ more → AreEntries (sends_of plan) history → length history ≡ length (sends_of plan) → NextEntry c plan entries behind
    by_more [] is whole count =
        let e : length history ≡ length entries = ap (λ (xs : List Entry). length xs) (is ∙ append-nil entries) in
        absurd (omega (arith, e, count, short))
    by_more (next ∷ more) is whole count =
        let legal' : IsLegal c plan ((entries ++ next ∷ []) ++ more) =
        subst (λ (xs : List Entry). IsLegal c plan xs) (is ∙ sym (append_assoc entries (next ∷ []) more)) legal in
        let all : AreEntries (sends_of plan) (entries ++ next ∷ more) = subst (λ (xs : List Entry). AreEntries (sends_of plan) xs) is whole in
        let shown : List ℕ = shows_text (last_state c history).contents shows in
        let n : ℕ = 1 + length entries in
        let text : entries_text 1 entries ++ (entry_text n next ++ (entries_text (n + 1) more ++ shown)) ≡ entries_text 1 entries ++ behind =
        ap (λ (xs : List ℕ). entries_text 1 entries ++ xs) (sym (append_assoc (entry_text n next) (entries_text (n + 1) more) shown))
        ∙ (sym (append_assoc (entries_text 1 entries) (entries_text n (next ∷ more)) shown)
        ∙ (ap (λ (xs : List ℕ). xs ++ shown) (sym (text-append 1 entries (next ∷ more)))
        ∙ (ap (λ (xs : List Entry). entries_text 1 xs ++ shown) (sym is) ∙ same))) in
        let number : length entries + 1 ≡ n = omega arith in
        record {
          next = next;
          begins = front-of-legal c plan (entries ++ next ∷ []) more legal';
          sized = (every-back IsSizedEntry entries (next ∷ more) all.sized).0;
          rest = entries_text (n + 1) more ++ shown;
          text = ap (λ (k : ℕ). entry_text k next ++ (entries_text (n + 1) more ++ shown)) number
              ∙ append_cancel_left (entries_text 1 entries) (entry_text n next ++ (entries_text (n + 1) more ++ shown)) behind text;
        }

-- an entry's line, cut at its newline
pub entry-cut : (k : ℕ) (e : Entry) (rest : List ℕ) → entry_text k e ++ rest ≡ entry_front k e ++ 10 ∷ rest
entry-cut k e rest = ap (λ (xs : List ℕ). xs ++ rest) (entry-ends k e) ∙ append_assoc (entry_front k e) (10 ∷ []) rest

-- the line of the entry that a legal history has behind these
pub next-line : (c : Configuration) (plan : List Phase) (shows : List Show) (entries : List Entry) (front rest : List ℕ) (history : List Entry) → IsSizedPlan c plan → IsBeginning c plan entries
    → length entries < length (sends_of plan) → lacks 10 front ≡ true → IsLegal c plan history → history_text c shows history ≡ entries_text 1 entries ++ (front ++ 10 ∷ rest)
    → (next : Entry) × IsBeginning c plan (entries ++ next ∷ []) × (entry_text (length entries + 1) next ≡ front ++ 10 ∷ [])
next-line c plan shows entries front rest history sized b short plain legal same =
    let n = next-entry c plan shows entries (front ++ 10 ∷ rest) history sized b short legal same in
    let few : length entries + 1 < 2 ^ 64 = let f = sized.few in omega (arith, f, short) in
    let cut = same_cut 10 (entry_front (length entries + 1) n.next) front n.rest rest (entry-lacks (length entries + 1) n.next few n.sized) plain
    (sym (entry-cut (length entries + 1) n.next n.rest) ∙ n.text) in
    (n.next, n.begins, entry-ends (length entries + 1) n.next ∙ ap (λ (xs : List ℕ). xs ++ 10 ∷ []) cut.0)

-- a history that is legal is the one whose text begins with its entries
pub whole-history : (c : Configuration) (plan : List Phase) (shows : List Show) (one other : List Entry) (rest : List ℕ) → IsSizedPlan c plan → IsLegal c plan one → IsLegal c plan other
    → history_text c shows other ≡ entries_text 1 one ++ rest → other ≡ one
whole-history c plan shows one other rest sized p q same =
    let a = legal-length c plan one p in
    let b = legal-length c plan other q in
    let cut = same-front 1 (sends_of plan) one other rest (shows_text (last_state c other).contents shows) (sends-in-order plan)
    (entries-of-legal c plan one sized p) (entries-of-legal c plan other sized q) (omega (arith, a, b)) same in
    by_more cut.0 cut.1 (omega (arith, a, b))
  where
    by_more : (more : List Entry) → other ≡ one ++ more → length other ≡ length one → other ≡ one
    by_more [] is count = is ∙ append-nil one
    by_more (next ∷ more) is count =
        let e : length other ≡ length one + length (next ∷ more) = ap (λ (xs : List Entry). length xs) is ∙ length-append one (next ∷ more) in
        absurd (omega (arith, e, count))
