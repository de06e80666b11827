-- One more entry behind consistent ones.
use Rattle.std.proofs.Common.{◌≡◌, ◌⊎◌, inl, inr, List, [], ◌∷◌, ◌++◌, refl, sym, ap, subst, ◌∙◌, append_assoc}
use Rattle.std.specs.List.{AllByRecursion, Contains}
use Rattle.std.specs.List.Sorted.{IsPermutation}
use Rattle.std.proofs.lemmas.List.{map-append}
use Rattle.std.proofs.lemmas.List.Sorted.{IsPermutation-sym}
use Rattle.cp_base.specs.Configuration.{Configuration}
use Rattle.script_cmds.specs.declared.item.Phase.{Phase}
use Rattle.device_model.specs.State.{State, opening}
use Rattle.device_model.specs.Step.{DeviceStep}
use Rattle.history_model.specs.Entry.{Entry}
use Rattle.history_model.specs.Legal.{IsLegal, Replays, after_entry, after_history}
use Rattle.history_model.specs.Sent.{Sent, TakenBefore, sends_of}
use Rattle.history_model.proofs.Every.{every-All, every-of-All}
use Rattle.history_model.proofs.OneHistory.{Among, every-among}
use Rattle.history_check.specs.Beginning.{IsBeginning, MayComeNext, NamesNew, NamesOneOf, sents_of}
use Rattle.history_check.proofs.Choosing.{TakesEarlier, all-take-earlier, not-itself}
use Rattle.history_check.proofs.Continuing.{Leaves, NotBefore, beginning-of, beginning-continued, leaves-of, left-of-plan, one-more}
use Rattle.history_check.proofs.Disjoint.{disjoint}
use Rattle.history_check.proofs.Fronts.{front-of-legal}
use Rattle.history_check.proofs.Lists.{among-append-left, among-append-right, among-contains, among-itself, among-moved, among-parts, contains-among, every-back, take-out}
use Rattle.history_check.proofs.Pairing.{last-paired}

-- ---- an entry that may come next is consistent behind the others

-- a command of the plan without an entry is left
is-left : (c : Configuration) (plan : List Phase) (entries : List Entry) (left : List Sent) → Leaves c plan entries left → (s : Sent)
    → Contains (sends_of plan) s → (Contains (sents_of entries) s → ⊥) → Among left s
is-left c plan entries left l s sent new =
    by_part (among-parts (sents_of entries) left s (among-moved (sends_of plan) (sents_of entries ++ left) s (IsPermutation-sym (sents_of entries ++ left) (sends_of plan) l.each_once) (contains-among (sends_of plan) s sent)))
  where
    by_part : Among (sents_of entries) s ⊎ Among left s → Among left s
    by_part (inl found) = absurd (new (among-contains (sents_of entries) s found))
    by_part (inr found) = found

-- a command that is left is one of the plan and has no entry
left-new : (c : Configuration) (plan : List Phase) (entries : List Entry) (left : List Sent) → Leaves c plan entries left → (s : Sent) → Among left s
    → Contains (sends_of plan) s × (Contains (sents_of entries) s → ⊥)
left-new c plan entries left l s found = (
  among-contains (sends_of plan) s (among-moved (sents_of entries ++ left) (sends_of plan) s l.each_once (among-append-right (sents_of entries) left s found)),
  (λ has. disjoint plan (sents_of entries) left s l.each_once (contains-among (sents_of entries) s has) found),
)

sents-with : (entries : List Entry) (next : Entry) → sents_of (entries ++ next ∷ []) ≡ sents_of entries ++ next.sent ∷ []
sents-with entries next = map-append (λ (entry : Entry). entry.sent) entries (next ∷ [])

pub may-come : (c : Configuration) (plan : List Phase) (entries : List Entry) (next : Entry) → IsBeginning c plan entries → MayComeNext c plan entries next
    → IsBeginning c plan (entries ++ next ∷ [])
may-come c plan entries next b may =
    let left : List Sent = b.left in
    let l = leaves-of c plan entries b in
    let out = take-out left next.sent (is-left c plan entries left l next.sent may.sent may.new) in
    beginning-of c plan (entries ++ next ∷ []) out.0 (one-more c plan entries left out.0 next l (record {
      moved = out.1;
      ready = not-before left l left (own left (sents_of entries) (left-of-plan c plan entries left l)) (among-itself left);
      step = may.step;
      follows = may.follows;
      names = λ by. names-left left out.0 l out.1 (may.names by);
    }))
  where
    own : (left before : List Sent) → AllByRecursion (Among (sends_of plan)) (before ++ left) → AllByRecursion (Among (sends_of plan)) left
    own left before all = every-back (Among (sends_of plan)) before left all

    first-ready : (s : Sent) → Among (sends_of plan) s → TakenBefore s next.sent → Contains (sents_of entries) s
    first-ready s found = every-among (λ (first : Sent). TakenBefore first next.sent → Contains (sents_of entries) first) (sends_of plan) s
        (every-of-All (λ (first : Sent). TakenBefore first next.sent → Contains (sents_of entries) first) (sends_of plan) may.ready) found

    not-before : (left : List Sent) → Leaves c plan entries left → (some : List Sent) → AllByRecursion (Among (sends_of plan)) some → AllByRecursion (Among left) some → AllByRecursion (NotBefore next.sent) some
    not-before left l [] all found = tt
    not-before left l (s ∷ some) all found = (
      (λ before. (left-new c plan entries left l s found.0).1 (first-ready s all.0 before)),
      not-before left l some all.1 found.1,
    )

    names-left : (left left' : List Sent) → Leaves c plan entries left → IsPermutation left (next.sent ∷ left') → NamesNew plan (entries ++ next ∷ []) next.sent → NamesOneOf left' next.sent
    names-left left left' l moved n = record {
      other = n.other;
      among = among-contains left' n.other (still (among-moved left (next.sent ∷ left') n.other moved (is-left c plan entries left l n.other n.sent older)));
      names = n.names;
    }
      where
        there : (x : Sent) → Among (sents_of entries ++ next.sent ∷ []) x → Contains (sents_of (entries ++ next ∷ [])) x
        there x found = among-contains (sents_of (entries ++ next ∷ [])) x (subst (λ (xs : List Sent). Among xs x) (sym (sents-with entries next)) found)

        older : Contains (sents_of entries) n.other → ⊥
        older has = n.new (there n.other (among-append-left (sents_of entries) (next.sent ∷ []) n.other (contains-among (sents_of entries) n.other has)))

        still : Among (next.sent ∷ left') n.other → Among left' n.other
        still (inl is) = absurd (n.new (there n.other (among-append-right (sents_of entries) (next.sent ∷ []) n.other (inl is))))
        still (inr found) = found

-- ---- and the other way round

last-replayed : (c : Configuration) (s : State) (entries : List Entry) (next : Entry) → Replays c s (entries ++ next ∷ [])
    → DeviceStep c (after_history c s entries) next.sent.command next.answer (after_entry c (after_history c s entries) next)
last-replayed c s [] next replays = replays.0
last-replayed c s (entry ∷ entries) next replays = last-replayed c (after_entry c s entry) entries next replays.1

pub came : (c : Configuration) (plan : List Phase) (entries : List Entry) (next : Entry) → IsBeginning c plan (entries ++ next ∷ [])
    → IsBeginning c plan entries × MayComeNext c plan entries next
came c plan entries next b =
    let l = leaves-of c plan (entries ++ next ∷ []) b in
    let more = beginning-continued c plan (entries ++ next ∷ []) b in
    let front = front-of-legal c plan entries (next ∷ more.0) (subst (λ (xs : List Entry). IsLegal c plan xs) (append_assoc entries (next ∷ []) more.0) more.1) in
    let moved : IsPermutation (sents_of entries ++ next.sent ∷ b.left) (sends_of plan) =
    subst (λ (xs : List Sent). IsPermutation xs (sends_of plan)) (ap (λ (xs : List Sent). xs ++ b.left) (sents-with entries next) ∙ append_assoc (sents_of entries) (next.sent ∷ []) b.left) l.each_once in
    let pairs = last-paired b.left entries next l.paired in
    let last = every-back (λ (entry : Entry). AllByRecursion (NotBefore entry.sent) b.left) entries (next ∷ []) l.ready in (
      front,
      record {
        sent = among-contains (sends_of plan) next.sent (among-moved (sents_of entries ++ next.sent ∷ b.left) (sends_of plan) next.sent moved
            (among-append-right (sents_of entries) (next.sent ∷ b.left) next.sent (inl refl)));
        new = λ has. disjoint plan (sents_of entries) (next.sent ∷ b.left) next.sent moved (contains-among (sents_of entries) next.sent has) (inl refl);
        ready = every-All (λ (first : Sent). TakenBefore first next.sent → Contains (sents_of entries) first) (sends_of plan)
            (all-ready b.left moved last.0 (sends_of plan) (among-itself (sends_of plan)) (all-take-earlier plan));
        step = last-replayed c (opening c) entries next l.replays;
        follows = pairs.0;
        names = λ by. names-new b l (pairs.1 by);
      },
    )
  where
    all-ready : (left : List Sent) → IsPermutation (sents_of entries ++ next.sent ∷ left) (sends_of plan) → AllByRecursion (NotBefore next.sent) left → (some : List Sent)
        → AllByRecursion (Among (sends_of plan)) some → AllByRecursion TakesEarlier some → AllByRecursion (λ (first : Sent). TakenBefore first next.sent → Contains (sents_of entries) first) some
    all-ready left moved ready [] all earlier = tt
    all-ready left moved ready (s ∷ some) all earlier = (
      (λ before. by_part before (among-parts (sents_of entries) (next.sent ∷ left) s
          (among-moved (sends_of plan) (sents_of entries ++ next.sent ∷ left) s (IsPermutation-sym (sents_of entries ++ next.sent ∷ left) (sends_of plan) moved) all.0))),
      all-ready left moved ready some all.1 earlier.1,
    )
      where
        by_part : TakenBefore s next.sent → Among (sents_of entries) s ⊎ Among (next.sent ∷ left) s → Contains (sents_of entries) s
        by_part before (inl found) = among-contains (sents_of entries) s found
        by_part before (inr (inl is)) = absurd (not-itself s earlier.0 (subst (λ (x : Sent). TakenBefore s x) (sym is) before))
        by_part before (inr (inr found)) = absurd (every-among (NotBefore next.sent) left s ready found before)

    names-new : (b : IsBeginning c plan (entries ++ next ∷ [])) → Leaves c plan (entries ++ next ∷ []) b.left → NamesOneOf b.left next.sent → NamesNew plan (entries ++ next ∷ []) next.sent
    names-new b l n =
        let new = left-new c plan (entries ++ next ∷ []) b.left l n.other (contains-among b.left n.other n.among) in
        record { other = n.other; sent = new.0; new = new.1; names = n.names }
