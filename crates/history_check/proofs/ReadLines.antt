-- What is said of a text behind the lines that were read of it.
use Rattle.std.proofs.Common.{◌≡◌, ℕ, zero, suc, ◌+◌, ◌<◌, ◌^◌, ◌⊎◌, inl, inr, true, List, [], ◌∷◌, ◌++◌, length, take, drop, Some, None, refl, sym, ap, subst, ◌∙◌, arith, append_assoc, append-nil}
use Rattle.std.specs.Prelude.{slice_get}
use Rattle.std.specs.List.{All}
use Rattle.std.proofs.lemmas.List.{length-append}
use Rattle.cp_base.specs.Configuration.{Configuration}
use Rattle.cp_base.specs.Contents.{Contents, bytes_in}
use Rattle.cp_text.specs.Parts.{lacks}
use Rattle.script_cmds.specs.declared.item.Phase.{Phase}
use Rattle.script_cmds.specs.declared.item.Show.{Show}
use Rattle.history_model.specs.Entry.{Entry}
use Rattle.history_model.specs.Legal.{IsLegal, last_state}
use Rattle.history_model.specs.Sent.{sends_of}
use Rattle.history_model.specs.Text.{entries_text, entry_text, shown_text, shows_text}
use Rattle.history_check.specs.Beginning.{IsBeginning}
use Rattle.history_check.specs.FirstBad.{IsFirstBad, IsLegalText}
use Rattle.history_check.specs.Reading.{BeginsWithEntries, BreaksAtShow, MissesLine}
use Rattle.history_check.specs.SizedPlan.{IsSizedPlan}
use Rattle.history_check.specs.Standing.{FitsNoEntry, IsAccepted, Stands}
use Rattle.history_check.specs.Verdict.{IsShown}
use Rattle.history_check.specs.declared.checker.Checker.{Checker}
use Rattle.seq_device.specs.Standing.{Standing}
use Rattle.history_check.proofs.Ends.{all-entries}
use Rattle.history_check.proofs.NextBad.{bad-entry, missing-entry}
use Rattle.history_check.proofs.OneMore.{came}
use Rattle.history_check.proofs.Places.{not-none, some-is}
use Rattle.history_check.proofs.Shown.{all-shown, breaks-at, breaks-behind, shows-append}
use Rattle.history_check.proofs.TextLines.{text-append}

-- ---- entries

pub none-read : (c : Configuration) (plan : List Phase) (text : List ℕ) (checker : Checker) → Stands c plan [] checker → BeginsWithEntries c plan text text 0 checker
none-read c plan text checker stands = record { entries = []; stands = stands; number = refl; is = refl }

module _ (c : Configuration) (plan : List Phase) (text rest : List ℕ) (count : ℕ) (checker : Checker) (b : BeginsWithEntries c plan text rest count checker) (sized : IsSizedPlan c plan) where
  numbered : (shows : List Show) (other : List ℕ) (line : ℕ) → text ≡ other → line ≡ count + 1 → IsFirstBad c plan shows other (length b.entries + 1) → IsFirstBad c plan shows text line
  numbered shows other line is number bad =
      let same : length b.entries + 1 ≡ line = let n = b.number in omega (arith, n, number) in
      subst (λ (xs : List ℕ). IsFirstBad c plan shows xs line) (sym is) (subst (λ (n : ℕ). IsFirstBad c plan shows other n) same bad)

  short-of : count < length (sends_of plan) → length b.entries < length (sends_of plan)
  short-of short = let n = b.number in omega (arith, n, short)

  -- no line is left
  pub line-missing : (line : ℕ) → count < length (sends_of plan) → line ≡ count + 1 → lacks 10 rest ≡ true → (shows : List Show) → IsFirstBad c plan shows text line
  line-missing line short number plain shows =
      numbered shows (entries_text 1 b.entries ++ rest) line b.is number (missing-entry c plan shows b.entries rest sized b.stands.begins (short-of short) plain)

  -- the next line is that of no entry that may come next
  pub line-refused : (front behind : List ℕ) (line : ℕ) → count < length (sends_of plan) → line ≡ count + 1 → rest ≡ front ++ 10 ∷ behind → lacks 10 front ≡ true → FitsNoEntry c plan b.entries front
      → (shows : List Show) → IsFirstBad c plan shows text line
  line-refused front behind line short number cut plain refused shows =
      numbered shows (entries_text 1 b.entries ++ (front ++ 10 ∷ behind)) line (b.is ∙ ap (λ (xs : List ℕ). entries_text 1 b.entries ++ xs) cut) number
      (bad-entry c plan shows b.entries front behind sized b.stands.begins (short-of short) plain (λ next begins is. refused next (came c plan b.entries next begins).1 is))

  -- the next line is that of one, with which the checker has gone on
  pub line-accepted : (front behind : List ℕ) (checker' : Checker) → rest ≡ front ++ 10 ∷ behind → IsAccepted c plan b.entries front checker' → BeginsWithEntries c plan text behind (count + 1) checker'
  line-accepted front behind checker' cut a =
      let one : entries_text 1 (b.entries ++ a.next ∷ []) ≡ entries_text 1 b.entries ++ (entry_text (1 + length b.entries) a.next ++ []) = text-append 1 b.entries (a.next ∷ []) in
      let order : 1 + length b.entries ≡ length b.entries + 1 = omega arith in
      let line : entry_text (1 + length b.entries) a.next ++ [] ≡ front ++ 10 ∷ [] = append-nil (entry_text (1 + length b.entries) a.next) ∙ (ap (λ (n : ℕ). entry_text n a.next) order ∙ a.text) in
      let whole : entries_text 1 b.entries ++ rest ≡ entries_text 1 (b.entries ++ a.next ∷ []) ++ behind =
      ap (λ (xs : List ℕ). entries_text 1 b.entries ++ xs) (cut ∙ sym (append_assoc front (10 ∷ []) behind))
      ∙ (sym (append_assoc (entries_text 1 b.entries) (front ++ 10 ∷ []) behind)
      ∙ ap (λ (xs : List ℕ). xs ++ behind) (ap (λ (xs : List ℕ). entries_text 1 b.entries ++ xs) (sym line) ∙ sym one)) in
      record {
        entries = b.entries ++ a.next ∷ [];
        stands = a.stands;
        number = let n = b.number in omega (arith, n, length-append b.entries (a.next ∷ []));
        is = b.is ∙ whole;
      }

-- ---- shows

parted : (xs : List Show) (i : ℕ) (x : Show) → slice_get xs i ≡ Some x → xs ≡ take i xs ++ x ∷ drop (suc i) xs
parted [] i x e = absurd (not-none x e)
parted (y ∷ ys) zero x e = ap (λ (z : Show). z ∷ ys) (some-is y x e)
parted (y ∷ ys) (suc i) x e = ap (λ (zs : List Show). y ∷ zs) (parted ys i x e)

one-more-taken : (xs : List Show) (i : ℕ) (x : Show) → slice_get xs i ≡ Some x → take (suc i) xs ≡ take i xs ++ x ∷ []
one-more-taken [] i x e = absurd (not-none x e)
one-more-taken (y ∷ ys) zero x e = ap (λ (z : Show). z ∷ []) (some-is y x e)
one-more-taken (y ∷ ys) (suc i) x e = ap (λ (zs : List Show). y ∷ zs) (one-more-taken ys i x e)

taken-length : (xs : List Show) (i : ℕ) (x : Show) → slice_get xs i ≡ Some x → length (take i xs) ≡ i
taken-length [] i x e = absurd (not-none x e)
taken-length (y ∷ ys) zero x e = refl
taken-length (y ∷ ys) (suc i) x e = let later = taken-length ys i x e in omega (arith, later)

module _ (contents : Contents) (shows : List Show) (first : ℕ) (text rest : List ℕ) (i : ℕ) (show : Show) (at : slice_get shows i ≡ Some show) (begins : text ≡ shows_text contents (take i shows) ++ rest) where
  pub show-misses : (line : ℕ) → line ≡ first + i → MissesLine (shown_text show (bytes_in contents show.range)) rest → BreaksAtShow contents shows first text line
  show-misses line number misses = record {
    done = take i shows;
    next = show;
    more = drop (suc i) shows;
    is = parted shows i show at;
    rest = rest;
    begins = begins;
    misses = misses;
    number = let n = taken-length shows i show at in omega (arith, n, number);
  }

  pub show-read : (front behind : List ℕ) → rest ≡ front ++ 10 ∷ behind → shown_text show (bytes_in contents show.range) ≡ front ++ 10 ∷ [] → text ≡ shows_text contents (take (i + 1) shows) ++ behind
  show-read front behind cut is =
      let line : List ℕ = shown_text show (bytes_in contents show.range) in
      let i' : suc i ≡ i + 1 = omega arith in
      let more : shows_text contents (take (i + 1) shows) ≡ shows_text contents (take i shows) ++ (line ++ []) =
      ap (λ (n : ℕ). shows_text contents (take n shows)) (sym i') ∙ (ap (λ (ss : List Show). shows_text contents ss) (one-more-taken shows i show at) ∙ shows-append contents (take i shows) (show ∷ [])) in
      begins
      ∙ (ap (λ (xs : List ℕ). shows_text contents (take i shows) ++ xs) (cut ∙ (sym (append_assoc front (10 ∷ []) behind) ∙ ap (λ (xs : List ℕ). xs ++ behind) (sym is ∙ sym (append-nil line))))
      ∙ (sym (append_assoc (shows_text contents (take i shows)) (line ++ []) behind) ∙ ap (λ (xs : List ℕ). xs ++ behind) (sym more)))

-- ---- the verdict

module _ (c : Configuration) (plan : List Phase) (shows : List Show) (text behind : List ℕ) (checker : Checker) (b : BeginsWithEntries c plan text behind (length (sends_of plan)) checker) (sized : IsSizedPlan c plan)
    (few : length (sends_of plan) + 1 < 2 ^ 64) (shown : All (IsShown c) shows) where
  legal : IsLegal c plan b.entries
  legal = all-entries c plan b.entries b.stands.begins b.number

  enough : length b.entries + 1 < 2 ^ 64
  enough = let n = b.number in omega (arith, few, n)

  contents-are : checker.device.state.contents ≡ (last_state c b.entries).contents
  contents-are = ap (λ (d : Standing). d.state.contents) b.stands.device

  pub shows-break : (first line : ℕ) → first ≡ length (sends_of plan) + 1 → BreaksAtShow checker.device.state.contents shows first behind line → IsFirstBad c plan shows text line
  shows-break first line start breaks =
      breaks-at c plan shows b.entries sized legal enough shown text behind first line b.is (let n = b.number in omega (arith, n, start))
      (subst (λ (s : Contents). BreaksAtShow s shows first behind line) contents-are breaks)

  pub rest-breaks : (rest : List ℕ) (line : ℕ) → behind ≡ shows_text checker.device.state.contents shows ++ rest → 0 < length rest → line ≡ length (sends_of plan) + 1 + length shows → IsFirstBad c plan shows text line
  rest-breaks rest line is some number =
      breaks-behind c plan shows b.entries sized legal enough shown text behind rest line b.is (is ∙ ap (λ (s : Contents). shows_text s shows ++ rest) contents-are) some (let n = b.number in omega (arith, n, number))

  pub is-legal : behind ≡ shows_text checker.device.state.contents shows ++ [] → IsLegalText c plan shows text
  is-legal is =
      all-shown c plan shows b.entries sized legal enough shown text behind b.is (is ∙ (append-nil (shows_text checker.device.state.contents shows) ∙ ap (λ (s : Contents). shows_text s shows) contents-are))
