-- Consistent entries go on to a legal history: a withdrawn command follows its Abort, and after that each command
-- that is left is carried out in the order of the text.
use Rattle.std.proofs.Common.{◌≡◌, ℕ, zero, suc, ◌⊎◌, inl, inr, List, [], ◌∷◌, ◌++◌, length, refl, sym, ap, subst, ◌∙◌, arith, append_assoc, append-nil}
use Rattle.std.specs.List.{All, AllByRecursion}
use Rattle.std.specs.List.Sorted.{IsPermutation}
use Rattle.std.proofs.lemmas.Bool.{false≢true}
use Rattle.std.proofs.lemmas.List.{map-append}
use Rattle.std.proofs.lemmas.List.Sorted.{IsPermutation-append_right, IsPermutation-sym, IsPermutation-trans, length_permutation}
use Rattle.cp_base.specs.Answer.{only_status}
use Rattle.cp_base.specs.Configuration.{Configuration}
use Rattle.cp_base.specs.declared.commands.Command.{Command}
use Rattle.cp_base.specs.declared.replies.Status.{Status}
use Rattle.cp_base.specs.declared.replies.Status.TheVariants as status
use Rattle.script_cmds.specs.declared.item.Phase.{Phase}
use Rattle.device_model.specs.State.{State, opening}
use Rattle.device_model.specs.Step.{DeviceStep, outcome_of}
use Rattle.device_model.proofs.Told.{IsSettled, is_settled, outcome_tells}
use Rattle.history_model.specs.Entry.{Entry}
use Rattle.history_model.specs.Legal.{HasWithdrawn, IsLegal, Replays, after_entry, after_history}
use Rattle.history_model.specs.Sent.{Sent, TakenBefore, sends_of}
use Rattle.history_model.proofs.Every.{Pairwise, every-All, every-append, every-of-All, every-weaker, pairwise-AllPairs, pairwise-append}
use Rattle.history_model.proofs.OneHistory.{Among, every-among}
use Rattle.history_model.proofs.Settled.{settled}
use Rattle.history_check.specs.Beginning.{ArePairedSoFar, IsBeginning, MayFollow, NamesOneOf, sents_of}
use Rattle.history_check.proofs.Choosing.{next-of}
use Rattle.history_check.proofs.Lists.{among-append-left, among-append-right, among-itself, contains-among, every-moved, pairwise-of-AllPairs, take-out}
use Rattle.history_check.proofs.Naming.{before-named}
use Rattle.history_check.proofs.Pairing.{IsClosed, IsOpen, all-paired, more-paired, open-or-closed}

-- the first of two entries may stand before the second
abbrev pub MayPrecede : Entry → Entry → Type 0
MayPrecede earlier later = TakenBefore later.sent earlier.sent → ⊥

-- a command need not be over before this one is sent
abbrev pub NotBefore : Sent → Sent → Type 0
NotBefore sent other = TakenBefore other sent → ⊥

-- consistent entries, by recursion on them, and what they leave
pub record Leaves (c : Configuration) (plan : List Phase) (entries : List Entry) (left : List Sent) : Type 0 where
  pub each_once : IsPermutation (sents_of entries ++ left) (sends_of plan)
  pub in_order : Pairwise MayPrecede entries
  pub ready : AllByRecursion (λ (entry : Entry). AllByRecursion (NotBefore entry.sent) left) entries
  pub replays : Replays c (opening c) entries
  pub paired : ArePairedSoFar left entries

ready-of-All : (left : List Sent) (entries : List Entry) → AllByRecursion (λ (entry : Entry). All (NotBefore entry.sent) left) entries
    → AllByRecursion (λ (entry : Entry). AllByRecursion (NotBefore entry.sent) left) entries
ready-of-All left entries all =
    every-weaker (λ (entry : Entry). All (NotBefore entry.sent) left) (λ (entry : Entry). AllByRecursion (NotBefore entry.sent) left)
    (λ entry h. every-of-All (NotBefore entry.sent) left h) entries all

ready-All : (left : List Sent) (entries : List Entry) → AllByRecursion (λ (entry : Entry). AllByRecursion (NotBefore entry.sent) left) entries
    → AllByRecursion (λ (entry : Entry). All (NotBefore entry.sent) left) entries
ready-All left entries all =
    every-weaker (λ (entry : Entry). AllByRecursion (NotBefore entry.sent) left) (λ (entry : Entry). All (NotBefore entry.sent) left)
    (λ entry h. every-All (NotBefore entry.sent) left h) entries all

pub leaves-of : (c : Configuration) (plan : List Phase) (entries : List Entry) (b : IsBeginning c plan entries) → Leaves c plan entries b.left
leaves-of c plan entries b = record {
  each_once = b.each_once;
  in_order = pairwise-of-AllPairs MayPrecede entries b.in_order;
  ready = ready-of-All b.left entries (every-of-All (λ (entry : Entry). All (NotBefore entry.sent) b.left) entries b.ready);
  replays = b.replays;
  paired = b.paired;
}

pub beginning-of : (c : Configuration) (plan : List Phase) (entries : List Entry) (left : List Sent) → Leaves c plan entries left → IsBeginning c plan entries
beginning-of c plan entries left l = record {
  left = left;
  each_once = l.each_once;
  in_order = pairwise-AllPairs MayPrecede entries l.in_order;
  ready = every-All (λ (entry : Entry). All (NotBefore entry.sent) left) entries (ready-All left entries l.ready);
  replays = l.replays;
  paired = l.paired;
}

-- ---- one more entry

more-replays : (c : Configuration) (s : State) (entries : List Entry) (next : Entry) → Replays c s entries
    → DeviceStep c (after_history c s entries) next.sent.command next.answer (after_entry c (after_history c s entries) next) → Replays c s (entries ++ next ∷ [])
more-replays c s [] next replays step = (step, tt)
more-replays c s (entry ∷ entries) next replays step = (replays.0, more-replays c (after_entry c s entry) entries next replays.1 step)

-- a command among those that are left may have the next entry
pub record IsStep (c : Configuration) (entries : List Entry) (left left' : List Sent) (next : Entry) : Type 0 where
  pub moved : IsPermutation left (next.sent ∷ left')
  pub ready : AllByRecursion (NotBefore next.sent) left
  pub step : DeviceStep c (after_history c (opening c) entries) next.sent.command next.answer (after_entry c (after_history c (opening c) entries) next)
  pub follows : MayFollow entries next
  pub names : HasWithdrawn next → NamesOneOf left' next.sent

-- what a not yet sent command allows of each entry before it
ready-for : (left left' : List Sent) (next : Entry) (entries : List Entry) → IsPermutation left (next.sent ∷ left')
    → AllByRecursion (λ (entry : Entry). AllByRecursion (NotBefore entry.sent) left) entries
    → AllByRecursion (λ (entry : Entry). AllByRecursion (NotBefore entry.sent) (next.sent ∷ left')) entries
ready-for left left' next entries moved all =
    every-weaker (λ (entry : Entry). AllByRecursion (NotBefore entry.sent) left) (λ (entry : Entry). AllByRecursion (NotBefore entry.sent) (next.sent ∷ left'))
    (λ entry h. every-moved (NotBefore entry.sent) left (next.sent ∷ left') moved h) entries all

pub one-more : (c : Configuration) (plan : List Phase) (entries : List Entry) (left left' : List Sent) (next : Entry) → Leaves c plan entries left → IsStep c entries left left' next
    → Leaves c plan (entries ++ next ∷ []) left'
one-more c plan entries left left' next l s =
    let after = ready-for left left' next entries s.moved l.ready in
    let sents : sents_of (entries ++ next ∷ []) ++ left' ≡ sents_of entries ++ next.sent ∷ left' =
    ap (λ (xs : List Sent). xs ++ left') (map-append (λ (entry : Entry). entry.sent) entries (next ∷ [])) ∙ append_assoc (sents_of entries) (next.sent ∷ []) left' in
    record {
      each_once = subst (λ (xs : List Sent). IsPermutation xs (sends_of plan)) (sym sents)
          (IsPermutation-trans (sents_of entries ++ next.sent ∷ left') (sents_of entries ++ left) (sends_of plan)
          (IsPermutation-append_right (sents_of entries) (next.sent ∷ left') left (IsPermutation-sym left (next.sent ∷ left') s.moved)) l.each_once);
      in_order = pairwise-append MayPrecede entries (next ∷ []) l.in_order (tt, tt)
          (every-weaker (λ (entry : Entry). AllByRecursion (NotBefore entry.sent) (next.sent ∷ left')) (λ (entry : Entry). AllByRecursion (MayPrecede entry) (next ∷ []))
          (λ entry h. (h.0, tt)) entries after);
      ready = every-append (λ (entry : Entry). AllByRecursion (NotBefore entry.sent) left') entries (next ∷ [])
          (every-weaker (λ (entry : Entry). AllByRecursion (NotBefore entry.sent) (next.sent ∷ left')) (λ (entry : Entry). AllByRecursion (NotBefore entry.sent) left')
          (λ entry h. h.1) entries after)
          ((every-moved (NotBefore next.sent) left (next.sent ∷ left') s.moved s.ready).1, tt);
      replays = more-replays c (opening c) entries next l.replays s.step;
      paired = more-paired left left' entries next l.paired s.follows s.names;
    }

-- ---- the two kinds of next entries

-- the device's answer where there is memory
abbrev done_entry : Configuration → State → Sent → Entry
done_entry c s sent = record { sent = sent; answer = (outcome_of c s sent.command).answer }

-- a command that is withdrawn
abbrev withdrawn_entry : Sent → Entry
withdrawn_entry sent = record { sent = sent; answer = only_status status.Aborted }

not-settled : (s : Status) → IsSettled s → s ≡ status.Aborted → ⊥
not-settled s is e = false≢true (ap is_settled (sym e) ∙ is)

-- no command that is carried out withdraws another: an Abort that withdraws none answers 1
done-withdraws-none : (c : Configuration) (s : State) (sent : Sent) → HasWithdrawn (done_entry c s sent) → ⊥
done-withdraws-none c s sent by =
    let one : (outcome_of c s sent.command).answer.result ≡ 1 = ap (λ (x : Command). (outcome_of c s x).answer.result) by.abort in
    let none = by.result in
    omega (arith, one, none)

own-named : (left : List Sent) (abort : Sent) (names : NamesOneOf left abort) → Among left names.other
own-named left abort names = contains-among left names.other names.among

-- those that are left, and those that have entries, are of the plan
pub left-of-plan : (c : Configuration) (plan : List Phase) (entries : List Entry) (left : List Sent) → Leaves c plan entries left → AllByRecursion (Among (sends_of plan)) (sents_of entries ++ left)
left-of-plan c plan entries left l =
    every-moved (Among (sends_of plan)) (sends_of plan) (sents_of entries ++ left) (IsPermutation-sym (sents_of entries ++ left) (sends_of plan) l.each_once) (among-itself (sends_of plan))

among-sents : (entries : List Entry) (entry : Entry) → Among entries entry → Among (sents_of entries) entry.sent
among-sents [] entry found = absurd found
among-sents (e ∷ entries) entry (inl is) = inl (ap (λ (x : Entry). x.sent) is)
among-sents (e ∷ entries) entry (inr found) = inr (among-sents entries entry found)

-- one more entry, and what is left then
pub record GoesOn (c : Configuration) (plan : List Phase) (entries : List Entry) (left : List Sent) : Type 0 where
  pub next : Entry
  pub left' : List Sent
  pub fewer : length left ≡ suc (length left')
  pub leaves : Leaves c plan (entries ++ next ∷ []) left'

-- the withdrawn command follows its Abort
withdrawn-next : (c : Configuration) (plan : List Phase) (entries : List Entry) (left : List Sent) → Leaves c plan entries left → IsOpen left entries → GoesOn c plan entries left
withdrawn-next c plan entries left l o =
    let other : Sent = o.names.other in
    let next : Entry = withdrawn_entry other in
    let out = take-out left other (own-named left o.last.sent o.names) in
    let all = left-of-plan c plan entries left l in
    let abort = every-among (Among (sends_of plan)) (sents_of entries ++ left) o.last.sent all (among-append-left (sents_of entries) left o.last.sent (among-sents entries o.last o.among)) in
    let named = every-among (Among (sends_of plan)) (sents_of entries ++ left) other all (among-append-right (sents_of entries) left other (own-named left o.last.sent o.names)) in
    let before = every-among (λ (entry : Entry). AllByRecursion (NotBefore entry.sent) left) entries o.last l.ready o.among in
    record {
      next = next;
      left' = out.0;
      fewer = sym (length_permutation left (other ∷ out.0) out.1);
      leaves = one-more c plan entries left out.0 next l (record {
        moved = out.1;
        ready = every-weaker (NotBefore o.last.sent) (NotBefore other) (λ first free is. free (before-named plan o.last.sent other first abort named o.names.names is)) left before;
        step = inr (inr (inl (record { told = refl; unchanged = refl })));
        follows = o.follows next (record { aborted = λ is. (o.withdrew, o.names.names); follows = λ by. refl });
        names = λ by. absurd (no-ok by.told);
      });
    }
  where
    no-ok : status.Aborted ≡ status.Ok → ⊥
    no-ok e = cc

-- a command is carried out
done-next : (c : Configuration) (plan : List Phase) (entries : List Entry) (first : Sent) (left : List Sent) → Leaves c plan entries (first ∷ left) → IsClosed entries → GoesOn c plan entries (first ∷ left)
done-next c plan entries first left l closed =
    let all = left-of-plan c plan entries (first ∷ left) l in
    let own = back (sents_of entries) (first ∷ left) all in
    let chosen = next-of plan first left own in
    let sent : Sent = chosen.0 in
    let s : State = after_history c (opening c) entries in
    let next : Entry = done_entry c s sent in
    let out = take-out (first ∷ left) sent chosen.2.among in
    let step : DeviceStep c s sent.command next.answer (outcome_of c s sent.command).next = inl refl in
    let is : (outcome_of c s sent.command).next ≡ after_entry c s next = settled c s sent.command next.answer (outcome_of c s sent.command).next step in
    record {
      next = next;
      left' = out.0;
      fewer = sym (length_permutation (first ∷ left) (sent ∷ out.0) out.1);
      leaves = one-more c plan entries (first ∷ left) out.0 next l (record {
        moved = out.1;
        ready = chosen.2.ready;
        step = subst (λ (x : State). DeviceStep c s sent.command next.answer x) is step;
        follows = closed.follows next (not-settled next.answer.status (outcome_tells c s sent.command));
        names = λ by. absurd (done-withdraws-none c s sent by);
      });
    }
  where
    back : (xs ys : List Sent) → AllByRecursion (Among (sends_of plan)) (xs ++ ys) → AllByRecursion (Among (sends_of plan)) ys
    back [] ys all = all
    back (x ∷ xs) ys all = back xs ys all.1

goes-on : (c : Configuration) (plan : List Phase) (entries : List Entry) (first : Sent) (left : List Sent) → Leaves c plan entries (first ∷ left) → GoesOn c plan entries (first ∷ left)
goes-on c plan entries first left l = by_last (open-or-closed (first ∷ left) entries l.paired)
  where
    by_last : IsOpen (first ∷ left) entries ⊎ IsClosed entries → GoesOn c plan entries (first ∷ left)
    by_last (inl o) = withdrawn-next c plan entries (first ∷ left) l o
    by_last (inr closed) = done-next c plan entries first left l closed

-- ---- to the end

-- where none is left the history is legal
whole : (c : Configuration) (plan : List Phase) (entries : List Entry) → Leaves c plan entries [] → IsLegal c plan entries
whole c plan entries l = record {
  each_once = subst (λ (xs : List Sent). IsPermutation xs (sends_of plan)) (append-nil (sents_of entries)) l.each_once;
  in_order = pairwise-AllPairs MayPrecede entries l.in_order;
  replays = l.replays;
  paired = all-paired entries l.paired;
}

pub continued : (n : ℕ) (c : Configuration) (plan : List Phase) (entries : List Entry) (left : List Sent) → length left ≡ n → Leaves c plan entries left
    → (more : List Entry) × IsLegal c plan (entries ++ more)
continued n c plan entries [] is l = ([], subst (λ (xs : List Entry). IsLegal c plan xs) (sym (append-nil entries)) (whole c plan entries l))
continued zero c plan entries (first ∷ left) is l = absurd (omega (arith, is))
continued (suc n) c plan entries (first ∷ left) is l =
    let g = goes-on c plan entries first left l in
    let fewer = g.fewer in
    let later = continued n c plan (entries ++ g.next ∷ []) g.left' (omega (arith, is, fewer)) g.leaves in
    (g.next ∷ later.0, subst (λ (xs : List Entry). IsLegal c plan xs) (append_assoc entries (g.next ∷ []) later.0) later.1)

pub beginning-continued : (c : Configuration) (plan : List Phase) (entries : List Entry) → IsBeginning c plan entries → (more : List Entry) × IsLegal c plan (entries ++ more)
beginning-continued c plan entries b = continued (length b.left) c plan entries b.left refl (leaves-of c plan entries b)
