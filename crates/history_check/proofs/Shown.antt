-- The lines of the shows behind the entries of a legal history, and the first bad line among them or behind them.
use Rattle.std.proofs.Common.{◌≡◌, ℕ, ◌+◌, ◌<◌, ◌≤◌, ◌^◌, ◌==◌, Bool, true, false, ◌⊎◌, inl, inr, List, [], ◌∷◌, ◌++◌, length, map, refl, sym, ap, subst, ◌∙◌, arith, append_assoc, append-nil}
use Rattle.std.specs.Prelude.{codes}
use Rattle.std.specs.List.{All, AllByRecursion, concat}
use Rattle.std.proofs.lemmas.List.{append_cancel_left, length-append}
use Rattle.std.proofs.lemmas.List.Folds.{concat-append}
use Rattle.std.proofs.lemmas.Bool.{eqb-true}
use Rattle.cp_base.specs.Configuration.{Configuration}
use Rattle.cp_base.specs.Contents.{Contents, bytes_in}
use Rattle.cp_base.specs.declared.limits.TheConstants.{MAX_BUDGET}
use Rattle.cp_base.specs.declared.region.SpaceId.{SpaceId}
use Rattle.cp_base.specs.declared.region.SpaceId.TheVariants as space
use Rattle.cp_text.specs.HexText.{AreBytes, hex_text}
use Rattle.cp_text.specs.Parts.{lacks}
use Rattle.cp_text.proofs.Joined.{hex_lacks, lacks_both, lacks_cons, lacks_first, same_cut}
use Rattle.script_line.specs.Line.{fields_of, line_text}
use Rattle.script_line.specs.Field.{IsShaped}
use Rattle.script_line.specs.Sized.{IsSizedLine}
use Rattle.script_line.proofs.ReadAgain.{line_lacks}
use Rattle.script_cmds.specs.Text.{region_line, show_line}
use Rattle.script_cmds.specs.declared.item.Phase.{Phase}
use Rattle.script_cmds.specs.declared.item.Show.{Show}
use Rattle.device_model.specs.Sized.{IsSizedCommand, IsSizedState}
use Rattle.device_model.specs.State.{State, opening}
use Rattle.device_model.proofs.Bytes.{region_bytes}
use Rattle.device_model.proofs.Sizes.{opening_sized, step_sized}
use Rattle.history_model.specs.Entry.{Entry}
use Rattle.history_model.specs.Legal.{IsLegal, Replays, after_entry, after_history, last_state}
use Rattle.history_model.specs.Sent.{Sent, sends_of}
use Rattle.history_model.specs.Sized.{IsSizedSend}
use Rattle.history_model.specs.Text.{entries_text, history_text, shown_text, shows_text}
use Rattle.history_model.proofs.Every.{every-All, every-append, every-of-All, every-weaker}
use Rattle.history_model.proofs.OneHistory.{Among, every-among}
use Rattle.history_check.specs.FirstBad.{BeginLegally, IsEnded, IsEndedLine, IsFirstBad, IsLegalText}
use Rattle.history_check.specs.Reading.{BreaksAtShow, MissesLine}
use Rattle.history_check.specs.SizedPlan.{IsSizedPlan}
use Rattle.history_check.specs.Verdict.{IsShown}
use Rattle.history_check.proofs.BadLines.{bad-line, bad-rest, each-ended}
use Rattle.history_check.proofs.Lists.{every-back, every-front}
use Rattle.history_check.proofs.NextBad.{are-lines, entry_lines, lines-count, lines-text, newline-stands}
use Rattle.history_check.proofs.TextLines.{AreEntries, entries-of-legal, whole-history}

-- ---- the line of a show

-- what it has before its newline
abbrev pub shown_front : Show → List ℕ → List ℕ
shown_front show bytes = line_text (show_line show) ++ codes " d=" ++ hex_text bytes

shown-shape : (at : SpaceId) (start len : ℕ) → IsShaped (fields_of (region_line at start len).kind) (region_line at start len).values
shown-shape (space.Nvm n) start len = tt
shown-shape (space.Mem n) start len = tt

-- no newline stands in it
pub shown-lacks : (show : Show) (bytes : List ℕ) → IsSizedLine (show_line show) → AreBytes bytes → lacks 10 (shown_front show bytes) ≡ true
shown-lacks show bytes sized held =
    let line : List ℕ = line_text (show_line show) in
    let at1 : lacks 10 line ≡ true = line_lacks (show_line show) (record { shape = shown-shape show.range.space show.range.start show.range.len; sized = sized }) in
    lacks_both 10 (line ++ codes " d=") (hex_text bytes) (lacks_both 10 line (codes " d=") at1 refl) (hex_lacks 10 bytes (inl (omega arith)) held)

pub shown-is-line : (show : Show) (bytes : List ℕ) → IsSizedLine (show_line show) → AreBytes bytes → IsEndedLine (shown_text show bytes)
shown-is-line show bytes sized held = record { front = shown_front show bytes; ends = refl; plain = shown-lacks show bytes sized held }

-- ---- the bytes of the last state

replays-sized : (c : Configuration) (s : State) (entries : List Entry) → c.budget ≤ MAX_BUDGET → IsSizedState s → AllByRecursion (λ (e : Entry). IsSizedCommand e.sent.command) entries
    → Replays c s entries → IsSizedState (after_history c s entries)
replays-sized c s [] budget sized all replays = sized
replays-sized c s (e ∷ entries) budget sized all replays =
    replays-sized c (after_entry c s e) entries budget (step_sized c s e.sent.command e.answer (after_entry c s e) budget sized all.0 replays.0).next all.1 replays.1

pub last-sized : (c : Configuration) (plan : List Phase) (entries : List Entry) → IsSizedPlan c plan → IsLegal c plan entries → IsSizedState (last_state c entries)
last-sized c plan entries sized legal =
    replays-sized c (opening c) entries sized.budget (opening_sized c)
    (every-weaker (λ (e : Entry). Among (sends_of plan) e.sent) (λ (e : Entry). IsSizedCommand e.sent.command)
    (λ e found. (every-among IsSizedSend (sends_of plan) e.sent (every-of-All IsSizedSend (sends_of plan) sized.sends) found).command) entries (entries-of-legal c plan entries sized legal).among) legal.replays

shown-bytes : (s : State) (show : Show) → IsSizedState s → AreBytes (bytes_in s.contents show.range)
shown-bytes s show sized = region_bytes s.contents show.range (record { nvm = sized.nvm; mem = sized.mem })

-- ---- the lines of shows

abbrev show_lines : Contents → List Show → List (List ℕ)
show_lines contents shows = map (λ (show : Show). shown_text show (bytes_in contents show.range)) shows

shows-concat : (contents : Contents) (shows : List Show) → concat (show_lines contents shows) ≡ shows_text contents shows
shows-concat contents [] = refl
shows-concat contents (show ∷ shows) = ap (λ (xs : List ℕ). shown_text show (bytes_in contents show.range) ++ xs) (shows-concat contents shows)

shows-count : (contents : Contents) (shows : List Show) → length (show_lines contents shows) ≡ length shows
shows-count contents [] = refl
shows-count contents (show ∷ shows) = let e = shows-count contents shows in omega (arith, e)

shows-lines : (c : Configuration) (s : State) (shows : List Show) → IsSizedState s → AllByRecursion (IsShown c) shows → AllByRecursion IsEndedLine (show_lines s.contents shows)
shows-lines c s [] sized all = tt
shows-lines c s (show ∷ shows) sized all = (shown-is-line show (bytes_in s.contents show.range) all.0.sized (shown-bytes s show sized), shows-lines c s shows sized all.1)

pub shows-append : (contents : Contents) (some more : List Show) → shows_text contents (some ++ more) ≡ shows_text contents some ++ shows_text contents more
shows-append contents [] more = refl
shows-append contents (show ∷ some) more =
    ap (λ (xs : List ℕ). shown_text show (bytes_in contents show.range) ++ xs) (shows-append contents some more)
    ∙ sym (append_assoc (shown_text show (bytes_in contents show.range)) (shows_text contents some) (shows_text contents more))

-- a text lacks the newline, or has a first one
pub first-newline : (text : List ℕ) → (lacks 10 text ≡ true) ⊎ ((front : List ℕ) × (behind : List ℕ) × (text ≡ front ++ 10 ∷ behind) × (lacks 10 front ≡ true))
first-newline [] = inl refl
first-newline (b ∷ text) = by_test (b == 10) refl (first-newline text)
  where
    by_test : (t : Bool) → (b == 10) ≡ t → (lacks 10 text ≡ true) ⊎ ((front : List ℕ) × (behind : List ℕ) × (text ≡ front ++ 10 ∷ behind) × (lacks 10 front ≡ true))
        → (lacks 10 (b ∷ text) ≡ true) ⊎ ((front : List ℕ) × (behind : List ℕ) × (b ∷ text ≡ front ++ 10 ∷ behind) × (lacks 10 front ≡ true))
    by_test true is later = inr ([], text, ap (λ (x : ℕ). x ∷ text) (eqb-true b 10 is), refl)
    by_test false is (inl plain) = inl (lacks_cons 10 b text is plain)
    by_test false is (inr cut) = inr (b ∷ cut.0, cut.1, ap (λ (xs : List ℕ). b ∷ xs) cut.2, lacks_cons 10 b cut.0 is cut.3)

-- ---- behind the entries of a legal history

module _ (c : Configuration) (plan : List Phase) (shows : List Show) (entries : List Entry) (sized : IsSizedPlan c plan) (legal : IsLegal c plan entries) (few : length entries + 1 < 2 ^ 64)
    (shown : All (IsShown c) shows) where
  abbrev contents : Contents
  contents = (last_state c entries).contents

  abbrev lines : List Show → List (List ℕ)
  lines done = entry_lines 1 entries ++ show_lines contents done

  lines-concat : (done : List Show) → concat (lines done) ≡ entries_text 1 entries ++ shows_text contents done
  lines-concat done =
      concat-append (entry_lines 1 entries) (show_lines contents done)
      ∙ (ap (λ (xs : List ℕ). xs ++ concat (show_lines contents done)) (lines-text 1 entries) ∙ ap (λ (xs : List ℕ). entries_text 1 entries ++ xs) (shows-concat contents done))

  lines-length : (done : List Show) → length (lines done) ≡ length entries + length done
  lines-length done =
      let a = length-append (entry_lines 1 entries) (show_lines contents done) in
      let b = lines-count 1 entries in
      let d = shows-count contents done in
      omega (arith, a, b, d)

  proper : (done more : List Show) → shows ≡ done ++ more → AllByRecursion IsEndedLine (lines done)
  proper done more is =
      every-append IsEndedLine (entry_lines 1 entries) (show_lines contents done) (are-lines 1 entries (omega (arith, few)) (entries-of-legal c plan entries sized legal).sized)
      (shows-lines c (last_state c entries) done (last-sized c plan entries sized legal)
      (every-front (IsShown c) done more (every-of-All (IsShown c) (done ++ more) (subst (λ (ss : List Show). All (IsShown c) ss) is shown))))

  whole : (done more : List Show) → shows ≡ done ++ more → history_text c shows entries ≡ concat (lines done) ++ shows_text contents more
  whole done more is =
      ap (λ (ss : List Show). entries_text 1 entries ++ shows_text contents ss) is
      ∙ (ap (λ (xs : List ℕ). entries_text 1 entries ++ xs) (shows-append contents done more)
      ∙ (sym (append_assoc (entries_text 1 entries) (shows_text contents done) (shows_text contents more)) ∙ ap (λ (xs : List ℕ). xs ++ shows_text contents more) (sym (lines-concat done))))

  good : (done more : List Show) → shows ≡ done ++ more → BeginLegally c plan shows (lines done)
  good done more is = record {
    history = entries;
    legal = legal;
    rest = shows_text contents more;
    begins = whole done more is;
    ended = every-All IsEnded (lines done) (each-ended (lines done) (proper done more is));
  }

  -- what a legal history whose text begins with these lines shows behind them
  tail-is : (done more : List Show) → shows ≡ done ++ more → (other : List Entry) (y : List ℕ) → IsLegal c plan other → history_text c shows other ≡ concat (lines done) ++ y → shows_text contents more ≡ y
  tail-is done more is other y is-legal same =
      let text : history_text c shows other ≡ entries_text 1 entries ++ (shows_text contents done ++ y) =
      same ∙ (ap (λ (xs : List ℕ). xs ++ y) (lines-concat done) ∙ append_assoc (entries_text 1 entries) (shows_text contents done) y) in
      let one : other ≡ entries = whole-history c plan shows entries other (shows_text contents done ++ y) sized legal is-legal text in
      append_cancel_left (concat (lines done)) (shows_text contents more) y (sym (whole done more is) ∙ (ap (λ (h : List Entry). history_text c shows h) (sym one) ∙ same))

  -- a rest without a newline that is not what is shown
  rest-bad : (done more : List Show) (rest : List ℕ) → shows ≡ done ++ more → lacks 10 rest ≡ true → (shows_text contents more ≡ rest → ⊥) → IsFirstBad c plan shows (concat (lines done) ++ rest) (length (lines done) + 1)
  rest-bad done more rest is plain other =
      bad-rest c plan shows (lines done) rest (every-All IsEndedLine (lines done) (proper done more is)) (good done more is) plain (λ l. other (tail-is done more is l.history rest l.legal l.is))

  -- a line that is not that of the next show
  line-bad : (done more : List Show) (front behind : List ℕ) → shows ≡ done ++ more → lacks 10 front ≡ true → ((y : List ℕ) → shows_text contents more ≡ front ++ 10 ∷ y → ⊥)
      → IsFirstBad c plan shows (concat (lines done) ++ (front ++ 10 ∷ behind)) (length (lines done) + 1)
  line-bad done more front behind is plain other =
      subst (λ (xs : List ℕ). IsFirstBad c plan shows (concat (lines done) ++ xs) (length (lines done) + 1)) (append_assoc front (10 ∷ []) behind)
      (bad-line c plan shows (lines done) (front ++ 10 ∷ []) behind (every-All IsEndedLine (lines done) (proper done more is)) (good done more is) (record { front = front; ends = refl; plain = plain })
      (λ b. other b.rest (tail-is done more is b.history (front ++ 10 ∷ b.rest) b.legal (b.begins ∙ joined b.rest))))
    where
      joined : (y : List ℕ) → concat (lines done ++ (front ++ 10 ∷ []) ∷ []) ++ y ≡ concat (lines done) ++ (front ++ 10 ∷ y)
      joined y =
          ap (λ (xs : List ℕ). xs ++ y) (concat-append (lines done) ((front ++ 10 ∷ []) ∷ []))
          ∙ (append_assoc (concat (lines done)) ((front ++ 10 ∷ []) ++ []) y
          ∙ (ap (λ (xs : List ℕ). concat (lines done) ++ (xs ++ y)) (append-nil (front ++ 10 ∷ [])) ∙ ap (λ (xs : List ℕ). concat (lines done) ++ xs) (append_assoc front (10 ∷ []) y)))

  at-number : (done : List Show) (text rest : List ℕ) (line : ℕ) → text ≡ entries_text 1 entries ++ (shows_text contents done ++ rest) → line ≡ length entries + 1 + length done
      → IsFirstBad c plan shows (concat (lines done) ++ rest) (length (lines done) + 1) → IsFirstBad c plan shows text line
  at-number done text rest line is number bad =
      let count = lines-length done in
      let same : length (lines done) + 1 ≡ line = omega (arith, count, number) in
      let texts : concat (lines done) ++ rest ≡ text = ap (λ (xs : List ℕ). xs ++ rest) (lines-concat done) ∙ (append_assoc (entries_text 1 entries) (shows_text contents done) rest ∙ sym is) in
      subst (λ (xs : List ℕ). IsFirstBad c plan shows xs line) texts (subst (λ (n : ℕ). IsFirstBad c plan shows (concat (lines done) ++ rest) n) same bad)

  pub breaks-at : (text behind : List ℕ) (first line : ℕ) → text ≡ entries_text 1 entries ++ behind → first ≡ length entries + 1
      → BreaksAtShow (last_state c entries).contents shows first behind line → IsFirstBad c plan shows text line
  breaks-at text behind first line is start b =
      let number : line ≡ length entries + 1 + length b.done = let n = b.number in omega (arith, n, start) in
      at-number b.done text b.rest line (is ∙ ap (λ (xs : List ℕ). entries_text 1 entries ++ xs) b.begins) number (by_cause b.misses)
    where
      cut : (y : List ℕ) → shows_text contents (b.next ∷ b.more) ≡ y → shown_front b.next (bytes_in contents b.next.range) ++ 10 ∷ (shows_text contents b.more) ≡ y
      cut y e = sym (append_assoc (shown_front b.next (bytes_in contents b.next.range)) (10 ∷ []) (shows_text contents b.more)) ∙ e

      by_cause : MissesLine (shown_text b.next (bytes_in contents b.next.range)) b.rest → IsFirstBad c plan shows (concat (lines b.done) ++ b.rest) (length (lines b.done) + 1)
      by_cause (inl plain) = rest-bad b.done (b.next ∷ b.more) b.rest b.is plain
          (λ e. newline-stands (shown_front b.next (bytes_in contents b.next.range)) (shows_text contents b.more) (subst (λ (xs : List ℕ). lacks 10 xs ≡ true) (sym (cut b.rest e)) plain))
      by_cause (inr m) =
          subst (λ (xs : List ℕ). IsFirstBad c plan shows (concat (lines b.done) ++ xs) (length (lines b.done) + 1)) (sym m.2)
          (line-bad b.done (b.next ∷ b.more) m.0 m.1 b.is m.3 (λ y e. m.4 (same-line y e)))
        where
          next-shown : IsShown c b.next
          next-shown = (every-back (IsShown c) b.done (b.next ∷ b.more) (every-of-All (IsShown c) (b.done ++ b.next ∷ b.more) (subst (λ (ss : List Show). All (IsShown c) ss) b.is shown))).0

          same-line : (y : List ℕ) → shows_text contents (b.next ∷ b.more) ≡ m.0 ++ 10 ∷ y → shown_text b.next (bytes_in contents b.next.range) ≡ m.0 ++ 10 ∷ []
          same-line y e =
              let plain : lacks 10 (shown_front b.next (bytes_in contents b.next.range)) ≡ true =
              shown-lacks b.next (bytes_in contents b.next.range) next-shown.sized (shown-bytes (last_state c entries) b.next (last-sized c plan entries sized legal)) in
              let front = same_cut 10 (shown_front b.next (bytes_in contents b.next.range)) m.0 (shows_text contents b.more) y plain m.3 (cut (m.0 ++ 10 ∷ y) e) in
              ap (λ (xs : List ℕ). xs ++ 10 ∷ []) front.0

  pub breaks-behind : (text behind rest : List ℕ) (line : ℕ) → text ≡ entries_text 1 entries ++ behind → behind ≡ shows_text (last_state c entries).contents shows ++ rest → 0 < length rest
      → line ≡ length entries + 1 + length shows → IsFirstBad c plan shows text line
  breaks-behind text behind rest line is shown-all some number =
      at-number shows text rest line (is ∙ ap (λ (xs : List ℕ). entries_text 1 entries ++ xs) shown-all) number (by_cut (first-newline rest))
    where
      by_cut : (lacks 10 rest ≡ true) ⊎ ((front : List ℕ) × (behind : List ℕ) × (rest ≡ front ++ 10 ∷ behind) × (lacks 10 front ≡ true)) → IsFirstBad c plan shows (concat (lines shows) ++ rest) (length (lines shows) + 1)
      by_cut (inl plain) = rest-bad shows [] rest (sym (append-nil shows)) plain (λ e. (let n = ap (λ (xs : List ℕ). length xs) e in omega (arith, n, some)))
      by_cut (inr m) =
          subst (λ (xs : List ℕ). IsFirstBad c plan shows (concat (lines shows) ++ xs) (length (lines shows) + 1)) (sym m.2)
          (line-bad shows [] m.0 m.1 (sym (append-nil shows)) m.3
          (λ y e. (let n = ap (λ (xs : List ℕ). length xs) e in let k = length-append m.0 (10 ∷ y) in omega (arith, n, k))))

  pub all-shown : (text behind : List ℕ) → text ≡ entries_text 1 entries ++ behind → behind ≡ shows_text (last_state c entries).contents shows → IsLegalText c plan shows text
  all-shown text behind is shown-all = record { history = entries; legal = legal; is = ap (λ (xs : List ℕ). entries_text 1 entries ++ xs) (sym shown-all) ∙ sym is }
