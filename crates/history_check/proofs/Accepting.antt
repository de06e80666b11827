-- What the checker accepts is the line of an entry that may come next, and what it refuses is that of none.
use Rattle.std.proofs.Common.{◌≡◌, ℕ, ◌+◌, ◌<◌, Bool, true, false, ◌⊎◌, inl, inr, List, [], ◌∷◌, ◌++◌, length, map, Option, Some, None, refl, sym, ap, subst, ◌∙◌, arith}
use Rattle.std.specs.Prelude.{IsSomeAnd, IsTrue, slice_get, slice_set}
use Rattle.std.specs.List.{All, AllByRecursion, Contains}
use Rattle.std.proofs.lemmas.List.{map-append, same_from_push}
use Rattle.cp_base.specs.Answer.{Answer, only_status}
use Rattle.cp_base.specs.Configuration.{Configuration}
use Rattle.cp_base.specs.declared.commands.Command.{Command}
use Rattle.cp_base.specs.declared.commands.Command.TheVariants as command
use Rattle.cp_base.specs.declared.replies.Status.{Status}
use Rattle.cp_base.specs.declared.replies.Status.TheVariants as status
use Rattle.script_cmds.specs.declared.item.Phase.{Phase}
use Rattle.device_model.specs.Execution.{Outcome}
use Rattle.device_model.specs.Memory.{takes_memory}
use Rattle.device_model.specs.State.{State, opening}
use Rattle.device_model.specs.Step.{DeviceStep, FindsNoMemory, IsWithdrawn, Withdraws, outcome_of}
use Rattle.seq_device.specs.Standing.{IsDone, Standing}
use Rattle.seq_device.proofs.Withdrawn.{done_other}
use Rattle.history_model.specs.Entry.{Entry}
use Rattle.history_model.specs.Legal.{HasWithdrawn, StandsBehind, after_entry, after_history, last_state}
use Rattle.history_model.specs.Sent.{Names, Sent, TakenBefore, sends_of}
use Rattle.history_model.specs.Text.{entry_text}
use Rattle.history_model.proofs.Every.{every-All, every-of-All}
use Rattle.history_model.proofs.OneHistory.{Among, every-among, same-entry, unique}
use Rattle.history_model.proofs.Order.{sends-in-order}
use Rattle.history_model.proofs.Settled.{settled}
use Rattle.history_check.specs.Beginning.{FollowsBehind, IsBeginning, MayComeNext, MayFollow, NamesNew, sents_of}
use Rattle.history_check.specs.Readiness.{IsKept, IsReady}
use Rattle.history_check.specs.Standing.{Awaits, AwaitsAborted, FitsNoEntry, IsAccepted, IsNextRefused, IsNextTold, IsReplyRefused, IsReplyTold, IsTellingOf, NamesLeft, Stands, TellsAnswer, TellsNoMemory, TellsWithdrawal, is_named_among}
use Rattle.history_check.specs.Table.{IsAt, sends_in}
use Rattle.history_check.specs.declared.checker.Checker.{Checker}
use Rattle.history_check.proofs.Continuing.{leaves-of, left-of-plan}
use Rattle.history_check.proofs.Lists.{among-append-left, among-append-right, among-contains, among-parts, contains-among, every-front}
use Rattle.history_check.proofs.Named.{MayName, NamesEarlier, sends-name}
use Rattle.history_check.proofs.OneMore.{may-come}
use Rattle.history_check.proofs.Over.{all-ready, left-new, new-left, over-one-more, ready-all}
use Rattle.history_check.proofs.Places.{among-place, at-among, one-place, some-is, within}

-- ---- what may follow

follows-last : (x : Entry) (before : List Entry) (last next : Entry) → FollowsBehind x (before ++ last ∷ []) next ≡ StandsBehind last next
follows-last x [] last next = refl
follows-last x (y ∷ ys) last next = follows-last y ys last next

may-follow-last : (before : List Entry) (last next : Entry) → MayFollow (before ++ last ∷ []) next ≡ StandsBehind last next
may-follow-last [] last next = refl
may-follow-last (x ∷ xs) last next = follows-last x xs last next

last-of : (e : Entry) (es : List Entry) → (before : List Entry) × (last : Entry) × (e ∷ es ≡ before ++ last ∷ [])
last-of e [] = ([], e, refl)
last-of e (f ∷ fs) = let l = last-of f fs in (e ∷ l.0, l.1, ap (λ (xs : List Entry). e ∷ xs) l.2)

behind-last : (entries before : List Entry) (last next : Entry) → entries ≡ before ++ last ∷ [] → MayFollow entries next → StandsBehind last next
behind-last entries before last next is follows = subst (λ (T : Type 0). T) (may-follow-last before last next) (subst (λ (xs : List Entry). MayFollow xs next) is follows)

follow-last : (entries before : List Entry) (last next : Entry) → entries ≡ before ++ last ∷ [] → StandsBehind last next → MayFollow entries next
follow-last entries before last next is stands =
    subst (λ (xs : List Entry). MayFollow xs next) (sym is) (subst (λ (T : Type 0). T) (sym (may-follow-last before last next)) stands)

-- where no withdrawn command is awaited, what is not told Aborted may follow, and nothing else
settled-follows : (sends : List Sent) (entries : List Entry) (next : Entry) → Awaits sends entries None → (next.answer.status ≡ status.Aborted → ⊥) → MayFollow entries next
settled-follows sends [] next awaits done = done
settled-follows sends (e ∷ es) next awaits done =
    let l = last-of e es in
    follow-last (e ∷ es) l.0 l.1 next l.2 (record { aborted = λ is. absurd (done is); follows = λ by. absurd (awaits l.0 l.1 l.2 by) })

settled-only : (sends : List Sent) (entries : List Entry) (next : Entry) → Awaits sends entries None → MayFollow entries next → next.answer.status ≡ status.Aborted → ⊥
settled-only sends [] next awaits follows = follows
settled-only sends (e ∷ es) next awaits follows =
    let l = last-of e es in
    λ is. awaits l.0 l.1 l.2 ((behind-last (e ∷ es) l.0 l.1 next l.2 follows).aborted is).0

-- what is awaited behind one more entry
awaits-none : (sends : List Sent) (entries : List Entry) (next : Entry) → (HasWithdrawn next → ⊥) → Awaits sends (entries ++ next ∷ []) None
awaits-none sends entries next never before last is by =
    let same = same_from_push entries before next last is in
    never (subst (λ (x : Entry). HasWithdrawn x) (sym same.1) by)

-- ---- the state behind one more entry

after-more : (c : Configuration) (s : State) (entries : List Entry) (next : Entry) → after_history c s (entries ++ next ∷ []) ≡ after_entry c (after_history c s entries) next
after-more c s [] next = refl
after-more c s (entry ∷ entries) next = after-more c (after_entry c s entry) entries next

-- ---- statuses

not-withdrawn : (e : Entry) → (e.answer.status ≡ status.Ok → ⊥) → HasWithdrawn e → ⊥
not-withdrawn e other by = other by.told

memory-ok : status.NoMemory ≡ status.Ok → ⊥
memory-ok e = cc

aborted-ok : status.Aborted ≡ status.Ok → ⊥
aborted-ok e = cc

memory-aborted : status.NoMemory ≡ status.Aborted → ⊥
memory-aborted e = cc

ok-aborted : status.Ok ≡ status.Aborted → ⊥
ok-aborted e = cc

-- the device does not answer an Abort with 0
done-withdraws : (old : Standing) (s : Sent) (answer : Answer) (new : Standing) → IsDone old s.command answer new → HasWithdrawn (record { sent = s; answer = answer }) → ⊥
done-withdraws old s answer new done by =
    let told : (outcome_of old.config old.state (command.Abort by.cid)).answer.result ≡ 1 = refl in
    let same : (outcome_of old.config old.state s.command).answer.result ≡ 1 = ap (λ (cmd : Command). (outcome_of old.config old.state cmd).answer.result) by.abort ∙ told in
    let zero : (outcome_of old.config old.state s.command).answer.result ≡ 0 = ap (λ (o : Outcome). o.answer.result) done.0 ∙ by.result in
    omega (arith, same, zero)

-- what stands for the same
pub stands-same : (c : Configuration) (plan : List Phase) (entries : List Entry) (old new : Checker) → Stands c plan entries old → new.device ≡ old.device → new.withdrawn ≡ old.withdrawn
    → IsKept new.awaiting → new.awaiting.table ≡ old.awaiting.table → new.awaiting.over.items ≡ old.awaiting.over.items → Stands c plan entries new
stands-same c plan entries old new st device withdrawn kept table over = record {
  begins = st.begins;
  device = device ∙ st.device;
  kept = kept;
  sends = ap sends_in table ∙ st.sends;
  over = over ∙ st.over;
  awaits = subst (λ (o : Option ℕ). Awaits (sends_of plan) entries o) (sym withdrawn) st.awaits;
}

some-and : (o : Option ℕ) (P : ℕ → Type 0) → IsSomeAnd o P → (n : ℕ) × (o ≡ Some n) × P n
some-and (Some n) P is = (n, refl, is)
some-and None P is = absurd is

-- the command at a place is over, and nothing else has changed of what is awaited
pub record Ended (old : Checker) (p : ℕ) (new : Checker) : Type 0 where
  pub kept : IsKept new.awaiting
  pub table : new.awaiting.table ≡ old.awaiting.table
  pub over : new.awaiting.over.items ≡ slice_set old.awaiting.over.items p true

-- ---- one checker and its entries

module _ (c : Configuration) (plan : List Phase) (entries : List Entry) (old : Checker) (st : Stands c plan entries old) where
  among : AllByRecursion (Among (sends_of plan)) (sents_of entries)
  among = every-front (Among (sends_of plan)) (sents_of entries) st.begins.left (left-of-plan c plan entries st.begins.left (leaves-of c plan entries st.begins))

  at-plan : (p : ℕ) (s : Sent) → slice_get (sends_in old.awaiting.table) p ≡ Some s → slice_get (sends_of plan) p ≡ Some s
  at-plan p s at = subst (λ (ss : List Sent). slice_get ss p ≡ Some s) st.sends at

  at-table : (p : ℕ) (s : Sent) → slice_get (sends_of plan) p ≡ Some s → slice_get (sends_in old.awaiting.table) p ≡ Some s
  at-table p s at = subst (λ (ss : List Sent). slice_get ss p ≡ Some s) (sym st.sends) at

  over-plan : (p : ℕ) (b : Bool) → slice_get old.awaiting.over.items p ≡ Some b → slice_get (map (is_named_among (sents_of entries)) (sends_of plan)) p ≡ Some b
  over-plan p b is = subst (λ (bs : List Bool). slice_get bs p ≡ Some b) st.over is

  over-table : (p : ℕ) (b : Bool) → slice_get (map (is_named_among (sents_of entries)) (sends_of plan)) p ≡ Some b → slice_get old.awaiting.over.items p ≡ Some b
  over-table p b is = subst (λ (bs : List Bool). slice_get bs p ≡ Some b) (sym st.over) is

  ready-plan : (p : ℕ) → IsReady (sends_in old.awaiting.table) old.awaiting.over.items p → IsReady (sends_of plan) (map (is_named_among (sents_of entries)) (sends_of plan)) p
  ready-plan p ready =
      subst (λ (ss : List Sent). IsReady ss (map (is_named_among (sents_of entries)) (sends_of plan)) p) st.sends (subst (λ (bs : List Bool). IsReady (sends_in old.awaiting.table) bs p) st.over ready)

  ready-table : (p : ℕ) → IsReady (sends_of plan) (map (is_named_among (sents_of entries)) (sends_of plan)) p → IsReady (sends_in old.awaiting.table) old.awaiting.over.items p
  ready-table p ready =
      subst (λ (ss : List Sent). IsReady ss old.awaiting.over.items p) (sym st.sends) (subst (λ (bs : List Bool). IsReady (sends_of plan) bs p) (sym st.over) ready)

  device-config : old.device.config ≡ c
  device-config = ap (λ (d : Standing). d.config) st.device

  device-state : old.device.state ≡ last_state c entries
  device-state = ap (λ (d : Standing). d.state) st.device

  -- ---- accepted

  -- what an entry of the command at a ready place needs to come next
  record Comes (p : ℕ) (s : Sent) (answer : Answer) (next : State) : Type 0 where
    at : slice_get (sends_of plan) p ≡ Some s
    ready : IsReady (sends_of plan) (map (is_named_among (sents_of entries)) (sends_of plan)) p
    step : DeviceStep c (last_state c entries) s.command answer next
    follows : MayFollow entries (record { sent = s; answer = answer })
    names : HasWithdrawn (record { sent = s; answer = answer }) → NamesNew plan (entries ++ record { sent = s; answer = answer } ∷ []) s

  comes-next : (p : ℕ) (s : Sent) (answer : Answer) (next : State) → Comes p s answer next → MayComeNext c plan entries (record { sent = s; answer = answer })
  comes-next p s answer next comes = record {
    sent = among-contains (sends_of plan) s (at-among (sends_of plan) p s comes.at);
    new = left-new (sends_of plan) (sents_of entries) (sends-in-order plan) among p s comes.at comes.ready.left;
    ready = ready-all (sends_of plan) (sents_of entries) (sends-in-order plan) among p s comes.at comes.ready;
    step = subst (λ (n : State). DeviceStep c (last_state c entries) s.command answer n) (settled c (last_state c entries) s.command answer next comes.step) comes.step;
    follows = comes.follows;
    names = comes.names;
  }

  -- how the checker stands then
  record Went (p : ℕ) (s : Sent) (answer : Answer) (next : State) (new : Checker) : Type 0 where
    device : new.device ≡ record { config = c; state = next }
    kept : IsKept new.awaiting
    table : new.awaiting.table ≡ old.awaiting.table
    over : new.awaiting.over.items ≡ slice_set old.awaiting.over.items p true
    awaits : Awaits (sends_of plan) (entries ++ record { sent = s; answer = answer } ∷ []) new.withdrawn

  went-on : (p : ℕ) (s : Sent) (answer : Answer) (next : State) (new : Checker) → Comes p s answer next → Went p s answer next new
      → Stands c plan (entries ++ record { sent = s; answer = answer } ∷ []) new
  went-on p s answer next new comes went =
      let entry : Entry = record { sent = s; answer = answer } in
      let state : next ≡ last_state c (entries ++ entry ∷ []) = settled c (last_state c entries) s.command answer next comes.step ∙ sym (after-more c (opening c) entries entry) in
      record {
        begins = may-come c plan entries entry st.begins (comes-next p s answer next comes);
        device = went.device ∙ ap (λ (n : State). record { config = c; state = n }) state;
        kept = went.kept;
        sends = ap sends_in went.table ∙ st.sends;
        over = went.over
            ∙ (ap (λ (bs : List Bool). slice_set bs p true) st.over
            ∙ (sym (over-one-more (sends_of plan) (sents_of entries) p s (sends-in-order plan) comes.at)
            ∙ ap (λ (ds : List Sent). map (is_named_among ds) (sends_of plan)) (sym (map-append (λ (e : Entry). e.sent) entries (entry ∷ [])))));
        awaits = went.awaits;
      }

  accepted : (p : ℕ) (s : Sent) (answer : Answer) (next : State) (line : List ℕ) (new : Checker) → Comes p s answer next → Went p s answer next new
      → entry_text (length entries + 1) (record { sent = s; answer = answer }) ≡ line ++ 10 ∷ [] → IsAccepted c plan entries line new
  accepted p s answer next line new comes went text = record {
    next = record { sent = s; answer = answer };
    may = comes-next p s answer next comes;
    text = text;
    stands = went-on p s answer next new comes went;
  }

  -- an entry that changes nothing of the device
  unchanged : (p : ℕ) (s : Sent) (answer : Answer) (new : Checker) → new.device ≡ old.device → Ended old p new
      → Awaits (sends_of plan) (entries ++ record { sent = s; answer = answer } ∷ []) new.withdrawn → Went p s answer (last_state c entries) new
  unchanged p s answer new same ended awaits = record { device = same ∙ st.device; kept = ended.kept; table = ended.table; over = ended.over; awaits = awaits }

  -- none is awaited behind an entry that is not told Ok
  none-awaited : (s : Sent) (answer : Answer) (new : Checker) → new.withdrawn ≡ None → (HasWithdrawn (record { sent = s; answer = answer }) → ⊥)
      → Awaits (sends_of plan) (entries ++ record { sent = s; answer = answer } ∷ []) new.withdrawn
  none-awaited s answer new none never =
      subst (λ (o : Option ℕ). Awaits (sends_of plan) (entries ++ record { sent = s; answer = answer } ∷ []) o) (sym none) (awaits-none (sends_of plan) entries (record { sent = s; answer = answer }) never)

  awaits-now : (o : Option ℕ) → old.withdrawn ≡ o → Awaits (sends_of plan) entries o
  awaits-now o is = subst (λ (o : Option ℕ). Awaits (sends_of plan) entries o) is st.awaits

  pub accept-aborted : (p w : ℕ) (s : Sent) (line : List ℕ) (new : Checker) → old.withdrawn ≡ Some w → p ≡ w → slice_get (sends_in old.awaiting.table) p ≡ Some s
      → IsReady (sends_in old.awaiting.table) old.awaiting.over.items p → IsTellingOf old p (length entries + 1) (only_status status.Aborted) line
      → new.device ≡ old.device → new.withdrawn ≡ None → Ended old p new → IsAccepted c plan entries line new
  accept-aborted p w s line new awaited here at ready told same none ended =
      let a : AwaitsAborted (sends_of plan) entries w = awaits-now (Some w) awaited in
      let is : s ≡ a.other = some-is s a.other (sym (at-plan p s at) ∙ (ap (λ (k : ℕ). slice_get (sends_of plan) k) here ∙ a.at)) in
      let answer : Answer = only_status status.Aborted in
      let never : HasWithdrawn (record { sent = s; answer = answer }) → ⊥ = not-withdrawn (record { sent = s; answer = answer }) aborted-ok in
      accepted p s answer (last_state c entries) line new
      (record {
        at = at-plan p s at;
        ready = ready-plan p ready;
        step = inr (inr (inl (record { told = refl; unchanged = refl })));
        follows = follow-last entries a.before a.last (record { sent = s; answer = answer }) a.is
            (record { aborted = λ t. (a.withdrew, subst (λ (x : Sent). Names a.last.sent x) (sym is) a.names); follows = λ by. refl });
        names = λ by. absurd (never by);
      })
      (unchanged p s answer new same ended (none-awaited s answer new none never)) (told s at)

  pub accept-memory : (p : ℕ) (s : Sent) (line : List ℕ) (new : Checker) → old.withdrawn ≡ None → slice_get (sends_in old.awaiting.table) p ≡ Some s
      → IsReady (sends_in old.awaiting.table) old.awaiting.over.items p → TellsNoMemory old p (length entries + 1) line
      → new.device ≡ old.device → new.withdrawn ≡ None → Ended old p new → IsAccepted c plan entries line new
  accept-memory p s line new awaited at ready tells same none ended =
      let answer : Answer = only_status status.NoMemory in
      let never : HasWithdrawn (record { sent = s; answer = answer }) → ⊥ = not-withdrawn (record { sent = s; answer = answer }) memory-ok in
      accepted p s answer (last_state c entries) line new
      (record {
        at = at-plan p s at;
        ready = ready-plan p ready;
        step = inr (inl (record { takes = subst (λ (d : Standing). IsTrue (takes_memory d.config d.state s.command)) st.device (tells.takes s at); told = refl; unchanged = refl }));
        follows = settled-follows (sends_of plan) entries (record { sent = s; answer = answer }) (awaits-now None awaited) memory-aborted;
        names = λ by. absurd (never by);
      })
      (unchanged p s answer new same ended (none-awaited s answer new none never)) (tells.told s at)

  pub accept-answer : (p : ℕ) (s : Sent) (line : List ℕ) (new : Checker) → old.withdrawn ≡ None → slice_get (sends_in old.awaiting.table) p ≡ Some s
      → IsReady (sends_in old.awaiting.table) old.awaiting.over.items p → TellsAnswer old p (length entries + 1) line new.device
      → new.withdrawn ≡ None → Ended old p new → IsAccepted c plan entries line new
  accept-answer p s line new awaited at ready tells none ended =
      let is : tells.s ≡ s = some-is tells.s s (sym tells.at ∙ at) in
      let answer : Answer = tells.answer in
      let done : IsDone old.device s.command answer new.device = subst (λ (x : Sent). IsDone old.device x.command answer new.device) is tells.done in
      let never : HasWithdrawn (record { sent = s; answer = answer }) → ⊥ = done-withdraws old.device s answer new.device done in
      accepted p s answer new.device.state line new
      (record {
        at = at-plan p s at;
        ready = ready-plan p ready;
        step = inl (subst (λ (d : Standing). outcome_of d.config d.state s.command ≡ record { answer = answer; next = new.device.state }) st.device done.0);
        follows = settled-follows (sends_of plan) entries (record { sent = s; answer = answer }) (awaits-now None awaited) (done_other old.device s.command answer new.device done);
        names = λ by. absurd (never by);
      })
      (record {
        device = ap (λ (k : Configuration). record { config = k; state = new.device.state }) (done.1 ∙ device-config);
        kept = ended.kept;
        table = ended.table;
        over = ended.over;
        awaits = none-awaited s answer new none never;
      })
      (subst (λ (x : Sent). entry_text (length entries + 1) (record { sent = x; answer = answer }) ≡ line ++ 10 ∷ []) is tells.told)

  -- an Abort that names a command that is not over
  names-new : (p named : ℕ) (s other : Sent) → slice_get (sends_of plan) p ≡ Some s → slice_get (sends_of plan) named ≡ Some other → Names s other
      → slice_get (map (is_named_among (sents_of entries)) (sends_of plan)) named ≡ Some false → (answer : Answer) → NamesNew plan (entries ++ record { sent = s; answer = answer } ∷ []) s
  names-new p named s other at there names left answer = record {
    other = other;
    sent = among-contains (sends_of plan) other (at-among (sends_of plan) named other there);
    new = λ has. by_part (among-parts (sents_of entries) (s ∷ []) other
        (subst (λ (ds : List Sent). Among ds other) (map-append (λ (e : Entry). e.sent) entries (record { sent = s; answer = answer } ∷ [])) (contains-among (sents_of (entries ++ record { sent = s; answer = answer } ∷ [])) other has)));
    names = names;
  }
    where
      earlier : NamesEarlier s other.ordinal
      earlier = every-among MayName (sends_of plan) s (sends-name plan) (at-among (sends_of plan) p s at) other.ordinal names.1

      by_part : Among (sents_of entries) other ⊎ Among (s ∷ []) other → ⊥
      by_part (inl found) = left-new (sends_of plan) (sents_of entries) (sends-in-order plan) among named other there left (among-contains (sents_of entries) other found)
      by_part (inr (inl is)) = let e = earlier.earlier in let same = ap (λ (x : Sent). x.ordinal) is in omega (arith, e, same)
      by_part (inr (inr none)) = none

  pub accept-withdrawal : (p named : ℕ) (s : Sent) (line : List ℕ) (new : Checker) → old.withdrawn ≡ None → slice_get (sends_in old.awaiting.table) p ≡ Some s
      → IsReady (sends_in old.awaiting.table) old.awaiting.over.items p → TellsWithdrawal old p named (length entries + 1) line
      → new.device ≡ old.device → new.withdrawn ≡ Some named → Ended old p new → IsAccepted c plan entries line new
  accept-withdrawal p named s line new awaited at ready tells same some ended =
      let n = tells.names in
      let is : n.s ≡ s = some-is n.s s (sym n.at ∙ at) in
      let names : Names s n.other = subst (λ (x : Sent). Names x n.other) is n.names in
      let at' : slice_get (sends_of plan) p ≡ Some s = at-plan p s at in
      let there : slice_get (sends_of plan) named ≡ Some n.other = at-plan named n.other n.there in
      let earlier : NamesEarlier s n.other.ordinal = every-among MayName (sends_of plan) s (sends-name plan) (at-among (sends_of plan) p s at') n.other.ordinal names.1 in
      let answer : Answer = only_status status.Ok in
      let entry : Entry = record { sent = s; answer = answer } in
      let by : HasWithdrawn entry = record { cid = earlier.cid; abort = earlier.abort; told = refl; result = refl } in
      accepted p s answer (last_state c entries) line new
      (record {
        at = at';
        ready = ready-plan p ready;
        step = inr (inr (inr (record { cid = earlier.cid; aborts = earlier.abort; told = refl; unchanged = refl })));
        follows = settled-follows (sends_of plan) entries entry (awaits-now None awaited) ok-aborted;
        names = λ b. names-new p named s n.other at' there names (over-plan named false n.left) answer;
      })
      (unchanged p s answer new same ended
      (subst (λ (o : Option ℕ). Awaits (sends_of plan) (entries ++ entry ∷ []) o) (sym some)
      (record { before = entries; last = entry; is = refl; withdrew = by; other = n.other; at = there; names = names })))
      (tells.told s at)

  pub accept-reply : (p : ℕ) (s : Sent) (line : List ℕ) (told new : Checker) → old.withdrawn ≡ None → slice_get (sends_in old.awaiting.table) p ≡ Some s
      → IsReady (sends_in old.awaiting.table) old.awaiting.over.items p → IsReplyTold old p (length entries + 1) line told
      → new.device ≡ told.device → new.withdrawn ≡ told.withdrawn → Ended old p new → IsAccepted c plan entries line new
  accept-reply p s line told new awaited at ready (inl (tells, device, withdrawn)) same kept ended =
      accept-memory p s line new awaited at ready tells (same ∙ device) (kept ∙ (withdrawn ∙ awaited)) ended
  accept-reply p s line told new awaited at ready (inr (inl (tells, device))) same kept ended =
      let w = some-and told.withdrawn (λ named. TellsWithdrawal old p named (length entries + 1) line) tells in
      accept-withdrawal p w.0 s line new awaited at ready w.2 (same ∙ device) (kept ∙ w.1) ended
  accept-reply p s line told new awaited at ready (inr (inr (tells, withdrawn))) same kept ended =
      accept-answer p s line new awaited at ready (subst (λ (d : Standing). TellsAnswer old p (length entries + 1) line d) (sym same) tells) (kept ∙ (withdrawn ∙ awaited)) ended

  pub accept-next : (o : Option ℕ) (p : ℕ) (s : Sent) (line : List ℕ) (told new : Checker) → old.withdrawn ≡ o → slice_get (sends_in old.awaiting.table) p ≡ Some s
      → IsReady (sends_in old.awaiting.table) old.awaiting.over.items p → IsNextTold o old p (length entries + 1) line told
      → new.device ≡ told.device → new.withdrawn ≡ told.withdrawn → Ended old p new → IsAccepted c plan entries line new
  accept-next (Some w) p s line told new awaited at ready tells same kept ended =
      accept-aborted p w s line new awaited tells.here at ready tells.told (same ∙ tells.device) (kept ∙ tells.none) ended
  accept-next None p s line told new awaited at ready tells same kept ended = accept-reply p s line told new awaited at ready tells same kept ended

  -- ---- refused

  -- the place of the command of an entry that may come next
  pub next-place : (next : Entry) → MayComeNext c plan entries next → (p : ℕ) × (slice_get (sends_in old.awaiting.table) p ≡ Some next.sent)
  next-place next may = let f = among-place (sends_of plan) next.sent (contains-among (sends_of plan) next.sent may.sent) in (f.0, at-table f.0 next.sent f.1)

  -- and that place is ready
  pub next-ready : (next : Entry) (p : ℕ) → MayComeNext c plan entries next → slice_get (sends_in old.awaiting.table) p ≡ Some next.sent → IsReady (sends_in old.awaiting.table) old.awaiting.over.items p
  next-ready next p may at = ready-table p (all-ready (sends_of plan) (sents_of entries) (sends-in-order plan) among p next.sent (at-plan p next.sent at) may.new may.ready)

  -- the place of a name is the one
  pub same-place : (p q : ℕ) (s : Sent) → IsAt (sends_in old.awaiting.table) s.host s.ordinal p → slice_get (sends_in old.awaiting.table) q ≡ Some s → p ≡ q
  same-place p q s is at = one-place (sends_of plan) p q is.s s (sends-in-order plan) (at-plan p is.s is.at) (at-plan q s at) is.host is.ordinal

  telling : (p : ℕ) (next : Entry) (line : List ℕ) → slice_get (sends_in old.awaiting.table) p ≡ Some next.sent → (answer : Answer) → next.answer ≡ answer
      → entry_text (length entries + 1) next ≡ line ++ 10 ∷ [] → IsTellingOf old p (length entries + 1) answer line
  telling p next line at answer is text s here =
      let same : s ≡ next.sent = some-is s next.sent (sym here ∙ at) in
      ap (λ (e : Entry). entry_text (length entries + 1) e) (same-entry (record { sent = s; answer = answer }) next same (sym is)) ∙ text

  pub refuse-aborted : (p w : ℕ) (line : List ℕ) (next : Entry) → old.withdrawn ≡ Some w → slice_get (sends_in old.awaiting.table) p ≡ Some next.sent → MayComeNext c plan entries next
      → entry_text (length entries + 1) next ≡ line ++ 10 ∷ [] → (p ≡ w → IsTellingOf old p (length entries + 1) (only_status status.Aborted) line → ⊥) → ⊥
  refuse-aborted p w line next awaited at may text none =
      let a : AwaitsAborted (sends_of plan) entries w = awaits-now (Some w) awaited in
      let stands : StandsBehind a.last next = behind-last entries a.before a.last next a.is may.follows in
      let told : next.answer.status ≡ status.Aborted = stands.follows a.withdrew in
      let names : Names a.last.sent next.sent = (stands.aborted told).1 in
      let ordinals : a.other.ordinal ≡ next.sent.ordinal = some-is a.other.ordinal next.sent.ordinal (sym a.names.1 ∙ names.1) in
      let here : p ≡ w = one-place (sends_of plan) p w next.sent a.other (sends-in-order plan) (at-plan p next.sent at) a.at (sym names.0 ∙ a.names.0) (sym ordinals) in
      none here (telling p next line at (only_status status.Aborted) (only-aborted may.step told) text)
    where
      only-aborted : DeviceStep c (last_state c entries) next.sent.command next.answer (after_entry c (last_state c entries) next) → next.answer.status ≡ status.Aborted → next.answer ≡ only_status status.Aborted
      only-aborted (inl outcome) told = absurd (done_other (record { config = c; state = last_state c entries }) next.sent.command next.answer
          (record { config = c; state = after_entry c (last_state c entries) next }) (outcome, refl) told)
      only-aborted (inr (inl memory)) told = absurd (memory-aborted (sym (ap (λ (a : Answer). a.status) memory.told) ∙ told))
      only-aborted (inr (inr (inl withdrawn))) told = withdrawn.told
      only-aborted (inr (inr (inr withdraws))) told = absurd (ok-aborted (sym (ap (λ (a : Answer). a.status) withdraws.told) ∙ told))

  pub refuse-reply : (p : ℕ) (line : List ℕ) (next : Entry) → old.withdrawn ≡ None → slice_get (sends_in old.awaiting.table) p ≡ Some next.sent → MayComeNext c plan entries next
      → entry_text (length entries + 1) next ≡ line ++ 10 ∷ [] → IsReplyRefused old p (length entries + 1) line → ⊥
  refuse-reply p line next awaited at may text none = by_step may.step
    where
      by_step : DeviceStep c (last_state c entries) next.sent.command next.answer (after_entry c (last_state c entries) next) → ⊥
      by_step (inl outcome) = none.answer (record { config = c; state = after_entry c (last_state c entries) next }) (record {
        s = next.sent;
        at = at;
        answer = next.answer;
        done = subst (λ (d : Standing). IsDone d next.sent.command next.answer (record { config = c; state = after_entry c (last_state c entries) next })) (sym st.device) (outcome, refl);
        told = text;
      })
      by_step (inr (inl memory)) = none.memory (record {
        takes = λ s here.
            subst (λ (x : Sent). IsTrue (takes_memory old.device.config old.device.state x.command)) (some-is next.sent s (sym at ∙ here))
            (subst (λ (d : Standing). IsTrue (takes_memory d.config d.state next.sent.command)) (sym st.device) memory.takes);
        told = telling p next line at (only_status status.NoMemory) memory.told text;
      })
      by_step (inr (inr (inl withdrawn))) = settled-only (sends_of plan) entries next (awaits-now None awaited) may.follows (ap (λ (a : Answer). a.status) withdrawn.told)
      by_step (inr (inr (inr withdraws))) =
          let by : HasWithdrawn next = record { cid = withdraws.cid; abort = withdraws.aborts; told = ap (λ (a : Answer). a.status) withdraws.told; result = ap (λ (a : Answer). a.result) withdraws.told } in
          let n : NamesNew plan (entries ++ next ∷ []) next.sent = may.names by in
          let there = among-place (sends_of plan) n.other (contains-among (sends_of plan) n.other n.sent) in
          none.withdrawal there.0 (record {
            names = record {
              s = next.sent;
              at = at;
              other = n.other;
              there = at-table there.0 n.other there.1;
              names = n.names;
              left = over-table there.0 false (new-left (sends_of plan) (sents_of entries) (sends-in-order plan) among there.0 n.other there.1
                  (λ has. n.new (among-contains (sents_of (entries ++ next ∷ [])) n.other
                  (subst (λ (ds : List Sent). Among ds n.other) (sym (map-append (λ (e : Entry). e.sent) entries (next ∷ []))) (among-append-left (sents_of entries) (next.sent ∷ []) n.other (contains-among (sents_of entries) n.other has))))));
            };
            told = telling p next line at (only_status status.Ok) withdraws.told text;
          })

  pub refuse-next : (o : Option ℕ) (p : ℕ) (line : List ℕ) (next : Entry) → old.withdrawn ≡ o → slice_get (sends_in old.awaiting.table) p ≡ Some next.sent → MayComeNext c plan entries next
      → entry_text (length entries + 1) next ≡ line ++ 10 ∷ [] → IsNextRefused o old p (length entries + 1) line → ⊥
  refuse-next (Some w) p line next awaited at may text none = refuse-aborted p w line next awaited at may text none
  refuse-next None p line next awaited at may text none = refuse-reply p line next awaited at may text none
