-- The passes of a device while a phase is run: a pass is lent, the others are run, and it is given back.
use Rattle.std.proofs.Common.{◌≡◌, ◌≢◌, ◌⊎◌, inl, inr, ◌∙◌, ℕ, ◌+◌, ◌<◌, ◌≤◌, ◌-◌, ◌==◌, Bool, true, false, cond, if◌then◌else◌, List, [], ◌∷◌, ◌++◌, append-nil, append_assoc, length, map, filter, Option, Some, None, IsSome, refl, sym, ap, ap₂, subst, arith}
use Rattle.std.specs.List.{AllByRecursion, Contains}
use Rattle.std.proofs.lemmas.Bool.{true≢false}
use Rattle.std.proofs.lemmas.List.Elements.{Contains-append_right}
use Rattle.std.proofs.lemmas.Map.Made.{Contains-tail}
use Rattle.cp_base.specs.declared.limits.TheConstants.{MAX_HOSTS}
use Rattle.script_cmds.specs.Hosts.{AscendFrom, hosts_of}
use Rattle.script_cmds.specs.declared.item.HostPart.{HostPart}
use Rattle.script_cmds.specs.declared.item.Item.{Item}
use Rattle.script_cmds.specs.declared.item.Item.TheVariants as item
use Rattle.script_cmds.specs.declared.item.Phase.{Phase}
use Rattle.history_model.specs.Plain.{PlainItem, PlainPart, Sends, Takes, plain_items, plain_part, plain_parts, plain_phase}
use Rattle.history_model.specs.Rules.{KeepsQueue, KeepsRules, without}
use Rattle.history_model.proofs.Every.{Pairwise, every-of-All}
use Rattle.history_model.proofs.Hosts.{ascend-differ, ascend-within}
use Rattle.seat_lock.specs.Passes.{AreAllOf, HaveMet, IsHomeOf, at_home, lost_by, made_by, party_of, seats_in, seen_by}
use Rattle.seat_lock.specs.Trails.{BeginsWith, entries_by}
use Rattle.seat_lock.proofs.PlaceLemmas.{home_pos, home_within}
use Rattle.trail_model.specs.Accounts.{account_of}
use Rattle.trail_model.specs.Each.{EachTwo}
use Rattle.trail_model.specs.Lawful.{Trail, party_of_event}
use Rattle.trail_model.specs.declared.events.Event.{Event}
use Rattle.trail_model.specs.declared.events.Event.TheVariants as event
use Rattle.trail_model.proofs.Submits.{each-weaker, eqb-same, none-some, other-eqb, same-eqb, some-same}
use Rattle.schedule_model.specs.Deeds.{HaveDone, IsHost, Phases, item_by, items_by, items_in, items_in_phase}
use Rattle.schedule_model.proofs.Standings.{each-contains}
use Rattle.schedule_model.proofs.Telling.{items-append, planned-append}
use Rattle.device_lock.specs.Answers.{GoesToRest, IsAtRest, WasAtRest}
use Rattle.device_lock.specs.Names.{DeviceName, lock_of_device}
use Rattle.device_lock.specs.Passes.{AreAllOfDevice, AreIdle, DevicePass, DevicePasses, IsBack, IsIdle, IsOfDevice}
use Rattle.workers.specs.Further.{IsFurther, cids_by, outstanding_by}
use Rattle.workers.specs.Phases.{AreFurther, AreReady, HaveDoneSoFar, HaveNoneOutstanding, IsHomeFurther, IsHostReady, MayRun, rests_of}
use Rattle.workers.proofs.Furthering.{cids_after, cids_of, further-alone, further-both, further-cids, further-more, further-named, further-outstanding, further-same, further-with, none-outstanding, one-rest}

-- ---- passes at home

pub some-home : (ps : DevicePasses) (n : ℕ) (p : DevicePass) → at_home ps n ≡ Some p → IsSome (at_home ps n)
some-home ps n p home = subst IsSome (sym home) refl

pub pass-home : (ps : DevicePasses) (n : ℕ) → IsSome (at_home ps n) → (p : DevicePass) × (at_home ps n ≡ Some p)
pass-home ps n some = by_option (at_home ps n) some
  where
    by_option : (o : Option DevicePass) → IsSome o → (p : DevicePass) × (o ≡ Some p)
    by_option None e = absurd (true≢false (sym e))
    by_option (Some p) e = (p, refl)

pub home-seat : (ps : DevicePasses) (n : ℕ) (p : DevicePass) → at_home ps n ≡ Some p → n ≤ seats_in ps
home-seat ps n p home = let within = home_within ps.places.items n (some-home ps n p home) in omega (arith, within)

-- a pass was lent: its place is empty, and all else is as before
pub record IsLent (ps mid : DevicePasses) (n : ℕ) (p : DevicePass) : Type 0 where
  pub home : at_home ps n ≡ Some p
  pub empty : at_home mid n ≡ None
  pub others : (m : ℕ) → m ≢ n → at_home mid m ≡ at_home ps m
  pub seats : seats_in mid ≡ seats_in ps

-- a pass was given back to its place
pub record IsGiven (back new : DevicePasses) (n : ℕ) (q : DevicePass) : Type 0 where
  pub home : at_home new n ≡ Some q
  pub others : (m : ℕ) → m ≢ n → at_home new m ≡ at_home back m
  pub seats : seats_in new ≡ seats_in back

-- what is at home while one is lent is another one
not-lent : (ps mid : DevicePasses) (n m : ℕ) (p q : DevicePass) → IsLent ps mid n p → at_home mid m ≡ Some q → m ≢ n
not-lent ps mid n m p q lent home same = none-some q (sym lent.empty ∙ subst (λ (k : ℕ). at_home mid k ≡ Some q) same home)

-- ---- how all come further around one

pub around : (most : ℕ) (d : DeviceName) (ps mid back new : DevicePasses) (parts whole : List PlainPart) (n : ℕ) (p q : DevicePass) → IsLent ps mid n p → AreFurther most d parts mid back
    → IsGiven back new n q → IsFurther (rests_of most n) d p q (items_in_phase n whole) → ((m : ℕ) → m ≢ n → items_in_phase m parts ≡ items_in_phase m whole)
    → AreFurther most d whole ps new
around most d ps mid back new parts whole n p q lent others given further same = record {
  seats = given.seats ∙ (others.seats ∙ lent.seats);
  home = λ m r home. at m r home (m == n) refl;
  lent = λ m empty.
      (let other : m ≢ n = λ e. none-some p (sym (subst (λ (k : ℕ). at_home ps k ≡ None) e empty) ∙ lent.home) in
      given.others m other ∙ others.lent m (lent.others m other ∙ empty));
}
  where
    at : (m : ℕ) (r : DevicePass) → at_home ps m ≡ Some r → (b : Bool) → (m == n) ≡ b → IsHomeFurther most d whole new m r
    at m r home true h =
        let is : n ≡ m = sym (eqb-same m n h) in
        let one : p ≡ r = some-same p r (sym lent.home ∙ subst (λ (k : ℕ). at_home ps k ≡ Some r) (sym is) home) in
        subst (λ (k : ℕ). IsHomeFurther most d whole new k r) is
        (subst (λ (x : DevicePass). IsHomeFurther most d whole new n x) one (record { pass = q; home = given.home; further = further }))
    at m r home false h =
        let other : m ≢ n = λ e. true≢false (sym (same-eqb m n e) ∙ h) in
        let far = others.home m r (lent.others m other ∙ home) in
        record {
          pass = far.pass;
          home = given.others m other ∙ far.home;
          further = further-named (rests_of most m) d r far.pass (items_in_phase m parts) (items_in_phase m whole) (same m other) far.further;
        }

-- those that are left may go on while one is lent
pub ready-others : (d : DeviceName) (last less : ℕ) (parts left : List HostPart) (ps mid : DevicePasses) (n : ℕ) (p : DevicePass) → AreReady d last parts ps → IsLent ps mid n p → less ≤ last
    → ((m : ℕ) → m ≤ less → m ≢ n) → AllByRecursion (MayRun d ps) left → AllByRecursion (λ (a : HostPart). a.host ≢ n) left
    → EachTwo (λ (a b : HostPart). a.host ≢ b.host) left → AreReady d less left mid
ready-others d last less parts left ps mid n p ready lent low below may others differ = record {
  homes = λ m some within. subst IsSome (sym (lent.others m (below m within))) (ready.homes m some (omega (arith, within, low)));
  idle = λ m q home. ready.idle m q (sym (lent.others m (not-lent ps mid n m p q lent home)) ∙ home);
  may_run = each left may others;
  differ = differ;
}
  where
    each : (xs : List HostPart) → AllByRecursion (MayRun d ps) xs → AllByRecursion (λ (a : HostPart). a.host ≢ n) xs → AllByRecursion (MayRun d mid) xs
    each [] may others = tt
    each (x ∷ xs) may others =
        (record { host = may.0.host; pass = may.0.pass; home = lent.others x.host others.0 ∙ may.0.home; none = may.0.none; queue = may.0.queue }, each xs may.1 others.1)

-- ---- the last part

each-front : {A : Type 0} (P : A → Type 0) (xs : List A) (y : A) → AllByRecursion P (xs ++ y ∷ []) → AllByRecursion P xs
each-front P [] y all = tt
each-front P (x ∷ xs) y all = (all.0, each-front P xs y all.1)

pub each-last : {A : Type 0} (P : A → Type 0) (xs : List A) (y : A) → AllByRecursion P (xs ++ y ∷ []) → P y
each-last P [] y all = all.0
each-last P (x ∷ xs) y all = each-last P xs y all.1

two-front : (xs : List HostPart) (y : HostPart) → EachTwo (λ (a b : HostPart). a.host ≢ b.host) (xs ++ y ∷ []) → EachTwo (λ (a b : HostPart). a.host ≢ b.host) xs
two-front [] y all = tt
two-front (x ∷ xs) y all = (each-front (λ (b : HostPart). x.host ≢ b.host) xs y all.0, two-front xs y all.1)

two-last : (xs : List HostPart) (y : HostPart) → EachTwo (λ (a b : HostPart). a.host ≢ b.host) (xs ++ y ∷ []) → AllByRecursion (λ (a : HostPart). a.host ≢ y.host) xs
two-last [] y all = tt
two-last (x ∷ xs) y all = (each-last (λ (b : HostPart). x.host ≢ b.host) xs y all.0, two-last xs y all.1)

pub part-last : (d : DeviceName) (last : ℕ) (front : List HostPart) (part : HostPart) (ps : DevicePasses) → AreReady d last (front ++ part ∷ []) ps → MayRun d ps part
part-last d last front part ps ready = each-last (MayRun d ps) front part ready.may_run

pub parts-front : (d : DeviceName) (last : ℕ) (front : List HostPart) (part : HostPart) (ps mid : DevicePasses) (p : DevicePass) → AreReady d last (front ++ part ∷ []) ps
    → IsLent ps mid part.host p → AreReady d 0 front mid
parts-front d last front part ps mid p ready lent =
    let may = each-last (MayRun d ps) front part ready.may_run in
    ready-others d last 0 (front ++ part ∷ []) front ps mid part.host p ready lent (omega arith) (λ m low same. (let some = may.host.0 in omega (arith, low, same, some)))
    (each-front (MayRun d ps) front part ready.may_run) (two-last front part ready.differ) (two-front front part ready.differ)

-- the place of a pass that comes back is there, and is empty
pub place-there : (most : ℕ) (d : DeviceName) (parts : List PlainPart) (ps mid back : DevicePasses) (n : ℕ) (p q : DevicePass) → IsLent ps mid n p → AreFurther most d parts mid back
    → party_of q ≡ n → party_of q ≤ seats_in back
place-there most d parts ps mid back n p q lent others same =
    let within = home-seat ps n p lent.home in
    let seats : seats_in back ≡ seats_in ps = others.seats ∙ lent.seats in
    omega (arith, within, seats, same)

pub place-empty : (most : ℕ) (d : DeviceName) (parts : List PlainPart) (ps mid back : DevicePasses) (n : ℕ) (p q : DevicePass) → IsLent ps mid n p → AreFurther most d parts mid back
    → party_of q ≡ n → at_home back (party_of q) ≡ None
place-empty most d parts ps mid back n p q lent others same = subst (λ (k : ℕ). at_home back k ≡ None) (sym same) (others.lent n lent.empty)

-- the host of the last part may do it
pub host-ready : (d : DeviceName) (last : ℕ) (front : List HostPart) (part : HostPart) (ps : DevicePasses) (p : DevicePass) → AreReady d last (front ++ part ∷ []) ps
    → at_home ps part.host ≡ Some p → party_of p ≡ part.host → IsHostReady d part p
host-ready d last front part ps p ready home party =
    let may = part-last d last front part ps ready in
    let is = ready.idle part.host p home in
    record {
      of_device = is.0;
      idle = is.1;
      party = party;
      none = subst (λ (x : DevicePass). outstanding_by x ≡ []) (some-same may.pass p (sym may.home ∙ home)) may.none;
      few = may.host.1;
      queue = may.queue;
    }

-- items of a phase with a part more
items-push : (n : ℕ) (front : List HostPart) (part : HostPart)
    → items_in_phase n (plain_parts (front ++ part ∷ [])) ≡ items_in_phase n (plain_parts front) ++ (if part.host == n then plain_items part.items else [])
items-push n [] part = append-nil (if part.host == n then plain_items part.items else [])
items-push n (x ∷ xs) part =
    ap (λ (items : List PlainItem). (if x.host == n then plain_items x.items else []) ++ items) (items-push n xs part)
    ∙ sym (append_assoc (if x.host == n then plain_items x.items else []) (items_in_phase n (plain_parts xs)) (if part.host == n then plain_items part.items else []))

no-items-of : (n : ℕ) (parts : List HostPart) → AllByRecursion (λ (a : HostPart). a.host ≢ n) parts → items_in_phase n (plain_parts parts) ≡ []
no-items-of n [] all = refl
no-items-of n (x ∷ xs) all =
    ap (λ (b : Bool). (if b then plain_items x.items else []) ++ items_in_phase n (plain_parts xs)) (other-eqb x.host n all.0) ∙ no-items-of n xs all.1

items-last : (front : List HostPart) (part : HostPart) → AllByRecursion (λ (a : HostPart). a.host ≢ part.host) front
    → items_in_phase part.host (plain_parts (front ++ part ∷ [])) ≡ plain_items part.items
items-last front part others =
    items-push part.host front part
    ∙ (ap (λ (items : List PlainItem). items ++ (if part.host == part.host then plain_items part.items else [])) (no-items-of part.host front others)
    ∙ ap (λ (b : Bool). if b then plain_items part.items else []) (same-eqb part.host part.host refl))

items-other : (n : ℕ) (front : List HostPart) (part : HostPart) → n ≢ part.host
    → items_in_phase n (plain_parts front) ≡ items_in_phase n (plain_parts (front ++ part ∷ []))
items-other n front part other =
    sym (items-push n front part
    ∙ (ap (λ (b : Bool). items_in_phase n (plain_parts front) ++ (if b then plain_items part.items else [])) (other-eqb part.host n (λ same. other (sym same)))
    ∙ append-nil (items_in_phase n (plain_parts front))))

pub no-elements : (xs : List HostPart) → length xs ≡ 0 → xs ≡ []
no-elements [] e = refl
no-elements (x ∷ xs) e = absurd (omega arith)

-- no part is left
pub no-parts : (most : ℕ) (d : DeviceName) (last : ℕ) (parts : List HostPart) (ps : DevicePasses) → parts ≡ [] → AreReady d last parts ps → AreFurther most d (plain_parts parts) ps ps
no-parts most d last parts ps none ready =
    subst (λ (xs : List HostPart). AreFurther most d (plain_parts xs) ps ps) (sym none) (record {
      seats = refl;
      home = λ n p home. (let is = ready.idle n p home in record { pass = p; home = home; further = further-same (rests_of most n) d p is.0 is.1 });
      lent = λ n empty. empty;
    })

-- the last host and all others have done their parts
pub hosts-done : (d : DeviceName) (last : ℕ) (front : List HostPart) (part : HostPart) (ps mid back new : DevicePasses) (p q : DevicePass) → AreReady d last (front ++ part ∷ []) ps
    → IsLent ps mid part.host p → AreFurther 0 d (plain_parts front) mid back → IsGiven back new part.host q → IsFurther 0 d p q (plain_items part.items)
    → AreFurther 0 d (plain_parts (front ++ part ∷ [])) ps new
hosts-done d last front part ps mid back new p q ready lent others given further =
    around 0 d ps mid back new (plain_parts front) (plain_parts (front ++ part ∷ [])) part.host p q lent others given
    (further-more 0 (rests_of 0 part.host) d p q (items_in_phase part.host (plain_parts (front ++ part ∷ []))) (omega arith)
    (further-named 0 d p q (plain_items part.items) (items_in_phase part.host (plain_parts (front ++ part ∷ []))) (sym (items-last front part (two-last front part ready.differ))) further))
    (λ m other. items-other m front part other)

-- ---- workers

above-hosts : (d : DeviceName) (ps : DevicePasses) (worker : ℕ) (parts : List HostPart) → MAX_HOSTS + 1 ≤ worker → AllByRecursion (MayRun d ps) parts
    → AllByRecursion (λ (a : HostPart). a.host ≢ worker) parts
above-hosts d ps worker parts high may = each-weaker (MayRun d ps) (λ (a : HostPart). a.host ≢ worker) (λ a m same. (let low = m.host.1 in omega (arith, low, same, high))) parts may

pub workers-left : (d : DeviceName) (worker less : ℕ) (parts : List HostPart) (ps mid : DevicePasses) (p : DevicePass) → MAX_HOSTS + 1 ≤ worker → less + 1 ≡ worker → AreReady d worker parts ps
    → IsLent ps mid worker p → AreReady d less parts mid
workers-left d worker less parts ps mid p high one ready lent =
    ready-others d worker less parts parts ps mid worker p ready lent (omega (arith, one)) (λ m low same. omega (arith, low, same, one)) ready.may_run
    (above-hosts d ps worker parts high ready.may_run) ready.differ

pub worker-done : (d : DeviceName) (worker : ℕ) (parts : List HostPart) (ps mid back new : DevicePasses) (p q : DevicePass) → MAX_HOSTS + 1 ≤ worker → AreReady d worker parts ps
    → IsLent ps mid worker p → AreFurther 1 d (plain_parts parts) mid back → IsGiven back new worker q → IsFurther 0 d p q [] → AreFurther 1 d (plain_parts parts) ps new
worker-done d worker parts ps mid back new p q high ready lent others given further =
    around 1 d ps mid back new (plain_parts parts) (plain_parts parts) worker p q lent others given
    (further-more 0 (rests_of 1 worker) d p q (items_in_phase worker (plain_parts parts)) (omega arith)
    (further-named 0 d p q [] (items_in_phase worker (plain_parts parts)) (sym (no-items-of worker parts (above-hosts d ps worker parts high ready.may_run))) further))
    (λ m other. refl)

-- ---- the rest

pub rested : (d : DeviceName) (p q : DevicePass) → IsIdle p → IsAtRest d p q → IsFurther 1 d p q []
rested d p q idle rest = by_case rest.rested
  where
    by_case : WasAtRest d p q ⊎ GoesToRest d p q → IsFurther 1 d p q []
    by_case (inl was) = further-more 0 1 d p q [] (omega arith) (further-alone d p q was.turn (rest.idle idle))
    by_case (inr goes) = further-with 1 d p q goes.before (event.Rest (party_of p)) [] goes.turn (rest.idle idle) refl one-rest

-- hosts alone need no other pass at home
pub ready-hosts : (d : DeviceName) (last : ℕ) (parts : List HostPart) (ps : DevicePasses) → AreReady d last parts ps → AreReady d 0 parts ps
ready-hosts d last parts ps ready =
    record { homes = λ n some within. absurd (omega (arith, some, within)); idle = ready.idle; may_run = ready.may_run; differ = ready.differ }

-- party 1 is back at home, of the device and idle
pub record IsFirstBack (d : DeviceName) (back : DevicePasses) : Type 0 where
  pub pass : DevicePass
  pub home : at_home back 1 ≡ Some pass
  pub of_device : IsOfDevice d pass
  pub idle : IsIdle pass

pub first-back : (most : ℕ) (d : DeviceName) (last : ℕ) (parts : List HostPart) (whole : List PlainPart) (ps back : DevicePasses) → 1 ≤ last → AreReady d last parts ps
    → AreFurther most d whole ps back → IsFirstBack d back
first-back most d last parts whole ps back some ready further =
    let one : 1 ≤ 1 = omega arith in
    let before = pass-home ps 1 (ready.homes 1 one some) in
    let far = further.home 1 before.0 before.1 in
    record { pass = far.pass; home = far.home; of_device = far.further.back.of_device; idle = far.further.idle }

-- the pass that is lent then is that
pub first-lent : (d : DeviceName) (back : DevicePasses) (p : DevicePass) → IsFirstBack d back → at_home back 1 ≡ Some p → IsOfDevice d p × IsIdle p
first-lent d back p first home =
    let same : first.pass ≡ p = some-same first.pass p (sym first.home ∙ home) in
    (subst (λ (x : DevicePass). IsOfDevice d x) same first.of_device, subst (λ (x : DevicePass). IsIdle x) same first.idle)

no-rests : (n : ℕ) → rests_of 0 n ≡ 0
no-rests n = by_test (n == 1)
  where
    by_test : (b : Bool) → ◌≡◌ {A = ℕ} (if b then 0 else 0) 0
    by_test true = refl
    by_test false = refl

pub rest-done : (d : DeviceName) (parts : List PlainPart) (ps back mid new : DevicePasses) (p q : DevicePass) → AreFurther 0 d parts ps back → IsLent back mid 1 p → IsGiven mid new 1 q
    → IsFurther 1 d p q [] → AreFurther 1 d parts ps new
rest-done d parts ps back mid new p q before lent given further = record {
  seats = given.seats ∙ (lent.seats ∙ before.seats);
  home = λ n r home. at n r home (n == 1) refl;
  lent = λ n empty.
      (let was : at_home back n ≡ None = before.lent n empty in
      let other : n ≢ 1 = λ e. none-some p (sym (subst (λ (k : ℕ). at_home back k ≡ None) e was) ∙ lent.home) in
      given.others n other ∙ (lent.others n other ∙ was));
}
  where
    at : (n : ℕ) (r : DevicePass) → at_home ps n ≡ Some r → (b : Bool) → (n == 1) ≡ b → IsHomeFurther 1 d parts new n r
    at n r home true h =
        let is : 1 ≡ n = sym (eqb-same n 1 h) in
        let far = before.home n r home in
        let one : far.pass ≡ p = some-same far.pass p (sym far.home ∙ subst (λ (k : ℕ). at_home back k ≡ Some p) is lent.home) in
        let there : IsFurther 0 d r p (items_in_phase n parts) =
        subst (λ (x : DevicePass). IsFurther 0 d r x (items_in_phase n parts)) one
        (subst (λ (k : ℕ). IsFurther k d r far.pass (items_in_phase n parts)) (no-rests n) far.further) in
        record {
          pass = q;
          home = subst (λ (k : ℕ). at_home new k ≡ Some q) is given.home;
          further = subst (λ (k : ℕ). IsFurther k d r q (items_in_phase n parts)) (sym (ap (λ (b : Bool). if b then 1 else 0) h))
              (further-named 1 d r q (items_in_phase n parts ++ []) (items_in_phase n parts) (append-nil (items_in_phase n parts))
              (further-both 0 1 d r p q (items_in_phase n parts) [] there further));
        }
    at n r home false h =
        let other : n ≢ 1 = λ e. true≢false (sym (same-eqb n 1 e) ∙ h) in
        let far = before.home n r home in
        record {
          pass = far.pass;
          home = given.others n other ∙ (lent.others n other ∙ far.home);
          further = subst (λ (k : ℕ). IsFurther k d r far.pass (items_in_phase n parts)) (no-rests n ∙ sym (ap (λ (b : Bool). if b then 1 else 0) h)) far.further;
        }

-- ---- all passes

-- all passes come further, and are all of this device again
pub all-further : (most : ℕ) (d : DeviceName) (parts : List PlainPart) (ps qs : DevicePasses) → AreAllOfDevice d ps → AreFurther most d parts ps qs → AreAllOfDevice d qs
all-further most d parts ps qs all further = record {
  all = record { seats = further.seats ∙ all.all.seats; each = λ n some within. here n some within };
  each = λ n q home. of_device n q home (at_home ps n) refl;
}
  where
    here : (n : ℕ) → 1 ≤ n → n ≤ seats_in qs → (q : DevicePass) × IsHomeOf party_of_event (lock_of_device d) qs n q
    here n some within =
        let before = all.all.each n some (subst (λ (k : ℕ). n ≤ k) further.seats within) in
        let far = further.home n before.0 before.1.home in
        (far.pass, record { home = far.home; party_is = far.further.back.party ∙ before.1.party_is; of_lock = far.further.back.of_device.lock })

    of_device : (n : ℕ) (q : DevicePass) → at_home qs n ≡ Some q → (o : Option DevicePass) → at_home ps n ≡ o → IsOfDevice d q
    of_device n q home None e = absurd (none-some q (sym (further.lent n e) ∙ home))
    of_device n q home (Some p) e =
        let far = further.home n p e in
        subst (λ (x : DevicePass). IsOfDevice d x) (some-same far.pass q (sym far.home ∙ home)) far.further.back.of_device

-- all passes are ready for a phase whose rules are kept
pub all-ready : (d : DeviceName) (last : ℕ) (phase : Phase) (ps : DevicePasses) → last ≡ seats_in ps → MAX_HOSTS ≤ seats_in ps → AreAllOfDevice d ps → AreIdle ps
    → KeepsRules d.config.depth phase → HaveNoneOutstanding (hosts_of phase.hosts) ps → AreReady d last phase.hosts ps
all-ready d last phase ps seats enough all idle rules none = record {
  homes = λ n some within. (let home = all.all.each n some (subst (λ (k : ℕ). n ≤ k) seats within) in some-home ps n home.0 home.1.home);
  idle = λ n p home. (all.each n p home, idle n p home);
  may_run = parts phase.hosts (every-of-All (λ (h : ℕ). (1 ≤ h) × (h ≤ MAX_HOSTS)) (hosts_of phase.hosts) (ascend-within MAX_HOSTS (hosts_of phase.hosts) rules.ascend rules.numbers))
      (every-of-All (λ (part : HostPart). KeepsQueue d.config.depth [] part.items) phase.hosts rules.queues.queues) (λ h found. found);
  differ = differ 0 phase.hosts rules.ascend;
}
  where
    parts : (xs : List HostPart) → AllByRecursion (λ (h : ℕ). (1 ≤ h) × (h ≤ MAX_HOSTS)) (hosts_of xs) → AllByRecursion (λ (part : HostPart). KeepsQueue d.config.depth [] part.items) xs
        → ((h : ℕ) → Contains (hosts_of xs) h → Contains (hosts_of phase.hosts) h) → AllByRecursion (MayRun d ps) xs
    parts [] within queues among = tt
    parts (x ∷ xs) within queues among =
        let home = all.all.each x.host within.0.0 (let low = within.0.1 in omega (arith, low, enough)) in (
          record {
            host = within.0;
            pass = home.0;
            home = home.1.home;
            none = none x.host home.0 (among x.host (0, omega arith, refl)) home.1.home;
            queue = queues.0;
          },
          parts xs within.1 queues.1 (λ h found. among h (Contains-append_right (x.host ∷ []) (hosts_of xs) h found)),
        )

    above : (before : ℕ) (xs : List HostPart) → AscendFrom before (hosts_of xs) → AllByRecursion (λ (b : HostPart). before < b.host) xs
    above before [] ascend = tt
    above before (x ∷ xs) ascend =
        (ascend.0, each-weaker (λ (b : HostPart). x.host < b.host) (λ (b : HostPart). before < b.host) (λ b over. (let first = ascend.0 in omega (arith, over, first))) xs (above x.host xs ascend.1))

    differ : (before : ℕ) (xs : List HostPart) → AscendFrom before (hosts_of xs) → EachTwo (λ (a b : HostPart). a.host ≢ b.host) xs
    differ before [] ascend = tt
    differ before (x ∷ xs) ascend =
        (each-weaker (λ (b : HostPart). x.host < b.host) (λ (b : HostPart). x.host ≢ b.host) (λ b over same. omega (arith, over, same)) xs (above x.host xs ascend.1), differ x.host xs ascend.1)

-- ---- the meeting

-- all passes have met, and each is as before but for what it has seen
pub record HaveMetNow (d : DeviceName) (qs rs : DevicePasses) : Type 0 where
  pub all : AreAllOfDevice d rs
  pub met : HaveMet rs
  pub seen : (n : ℕ) (p q : DevicePass) → at_home qs n ≡ Some p → at_home rs n ≡ Some q → BeginsWith (seen_by q) (seen_by p)
  pub made : (n : ℕ) (p q : DevicePass) → at_home qs n ≡ Some p → at_home rs n ≡ Some q → made_by q ≡ made_by p
  pub lost : (n : ℕ) (p q : DevicePass) → at_home qs n ≡ Some p → at_home rs n ≡ Some q → BeginsWith (lost_by q) (lost_by p)

-- the number of a pass at home
pub home-party : (d : DeviceName) (ps : DevicePasses) (n : ℕ) (p : DevicePass) → AreAllOfDevice d ps → at_home ps n ≡ Some p → party_of p ≡ n
home-party d ps n p all home =
    let some = home_pos ps.places.items n (some-home ps n p home) in
    let there = all.all.each n (omega (arith, some)) (home-seat ps n p home) in
    subst (λ (x : DevicePass). party_of x ≡ n) (some-same there.0 p (sym there.1.home ∙ home)) there.1.party_is

-- a pass at home was at home before
pub home-before : (d : DeviceName) (ps qs : DevicePasses) (n : ℕ) (q : DevicePass) → AreAllOfDevice d ps → seats_in qs ≡ seats_in ps → at_home qs n ≡ Some q
    → (p : DevicePass) × (at_home ps n ≡ Some p)
home-before d ps qs n q all seats home =
    let some = home_pos qs.places.items n (some-home qs n q home) in
    let there = all.all.each n (omega (arith, some)) (subst (λ (k : ℕ). n ≤ k) seats (home-seat qs n q home)) in
    (there.0, there.1.home)

-- the seats of passes that have met are as before
pub met-seats : (d : DeviceName) (qs rs : DevicePasses) → AreAllOfDevice d qs → HaveMetNow d qs rs → seats_in rs ≡ seats_in qs
met-seats d qs rs all met = met.all.all.seats ∙ sym all.all.seats

met-back : (d : DeviceName) (qs rs : DevicePasses) (n : ℕ) (q r : DevicePass) → AreAllOfDevice d qs → HaveMetNow d qs rs → at_home qs n ≡ Some q → at_home rs n ≡ Some r → IsBack d q r
met-back d qs rs n q r all met before after = record {
  of_device = met.all.each n r after;
  party = home-party d rs n r met.all after ∙ sym (home-party d qs n q all before);
  seen = met.seen n q r before after;
  lost = met.lost n q r before after;
}

met-further : (d : DeviceName) (qs rs : DevicePasses) (n : ℕ) (q r : DevicePass) → AreAllOfDevice d qs → HaveMetNow d qs rs → at_home qs n ≡ Some q → at_home rs n ≡ Some r → IsIdle q
    → IsFurther 0 d q r []
met-further d qs rs n q r all met before after idle =
    let made : made_by r ≡ made_by q = met.made n q r before after in
    record {
      back = met-back d qs rs n q r all met before after;
      idle = subst (λ (mine : Trail). (account_of mine).claim ≡ None) (sym made) idle;
      more = [];
      made = made ∙ sym (append-nil (made_by q));
      did = refl;
      few = omega arith;
    }

-- a pass after a phase and the meeting behind it
pub phase-further : (d : DeviceName) (parts : List PlainPart) (ps qs rs : DevicePasses) → AreAllOfDevice d ps → AreFurther 1 d parts ps qs → HaveMetNow d qs rs
    → (n : ℕ) (p r : DevicePass) → at_home ps n ≡ Some p → at_home rs n ≡ Some r → IsFurther (rests_of 1 n) d p r (items_in_phase n parts)
phase-further d parts ps qs rs all further met n p r before after =
    let far = further.home n p before in
    let there = met-further d qs rs n far.pass r (all-further 1 d parts ps qs all further) met far.home after far.further.idle in
    further-named (rests_of 1 n) d p r (items_in_phase n parts ++ []) (items_in_phase n parts) (append-nil (items_in_phase n parts))
    (further-more (rests_of 1 n + 0) (rests_of 1 n) d p r (items_in_phase n parts ++ []) (omega arith)
    (further-both (rests_of 1 n) 0 d p far.pass r (items_in_phase n parts) [] far.further there))

pub phase-seats : (d : DeviceName) (parts : List PlainPart) (ps qs rs : DevicePasses) → AreAllOfDevice d ps → AreFurther 1 d parts ps qs → HaveMetNow d qs rs → seats_in rs ≡ seats_in ps
phase-seats d parts ps qs rs all further met = met-seats d qs rs (all-further 1 d parts ps qs all further) met ∙ further.seats

pub phase-idle : (d : DeviceName) (parts : List PlainPart) (ps qs rs : DevicePasses) → AreAllOfDevice d ps → AreFurther 1 d parts ps qs → HaveMetNow d qs rs → AreIdle rs
phase-idle d parts ps qs rs all further met n r home =
    let before = home-before d ps rs n r all (phase-seats d parts ps qs rs all further met) home in
    (phase-further d parts ps qs rs all further met n before.0 r before.1 home).idle

-- ---- what the hosts have outstanding

-- the items of a host of the phase are those of a part of it
part-of : (n : ℕ) (parts : List HostPart) → Contains (hosts_of parts) n → EachTwo (λ (a b : HostPart). a.host ≢ b.host) parts
    → (part : HostPart) × Contains parts part × (part.host ≡ n) × (items_in_phase n (plain_parts parts) ≡ plain_items part.items)
part-of n [] found differ = absurd (let below = found.1 in omega (arith, below))
part-of n (x ∷ xs) found differ =
    by_test (x.host == n) refl (λ other. part-of n xs (Contains-tail x.host (hosts_of xs) n other found) differ.1)
  where
    by_test : (b : Bool) → (x.host == n) ≡ b
        → (x.host ≢ n → (part : HostPart) × Contains xs part × (part.host ≡ n) × (items_in_phase n (plain_parts xs) ≡ plain_items part.items))
        → (part : HostPart) × Contains (x ∷ xs) part × (part.host ≡ n) × ((if b then plain_items x.items else []) ++ items_in_phase n (plain_parts xs) ≡ plain_items part.items)
    by_test true h later =
        let same : x.host ≡ n = eqb-same x.host n h in (
          x,
          (0, omega arith, refl),
          same,
          ap (λ (items : List PlainItem). plain_items x.items ++ items)
              (no-items-of n xs (each-weaker (λ (b : HostPart). x.host ≢ b.host) (λ (b : HostPart). b.host ≢ n) (λ b other e. other (same ∙ sym e)) xs differ.0))
              ∙ append-nil (plain_items x.items),
        )
    by_test false h later =
        let more = later (λ same. true≢false (sym (same-eqb x.host n same) ∙ h)) in
        (more.0, Contains-append_right (x ∷ []) xs more.0 more.1, more.2, more.3)

no-host : (n : ℕ) (parts : List HostPart) → (Contains (hosts_of parts) n → ⊥) → AllByRecursion (λ (a : HostPart). a.host ≢ n) parts
no-host n [] none = tt
no-host n (x ∷ xs) none =
    ((λ same. none (0, omega arith, same)), no-host n xs (λ found. none (Contains-append_right (x.host ∷ []) (hosts_of xs) n found)))

-- items that keep the rules of a queue leave nothing
pub keeps-none : (depth : ℕ) (cids : List ℕ) (items : List Item) → KeepsQueue depth cids items
    → cids_after cids (plain_items items) ≡ []
keeps-none depth cids [] keeps = keeps
keeps-none depth cids (item.Send cid command ∷ items) keeps = keeps-none depth (cids ++ cid ∷ []) items keeps.2
keeps-none depth cids (item.Take cid ∷ items) keeps =
    keeps-none depth (without cid cids) items keeps.1

pub phase-none : (d : DeviceName) (phase : Phase) (ps qs rs : DevicePasses) → AreAllOfDevice d ps → AreReady d (seats_in ps) phase.hosts ps → AreFurther 1 d (plain_phase phase) ps qs
    → HaveMetNow d qs rs → HaveNoneOutstanding (hosts_of phase.hosts) rs
phase-none d phase ps qs rs all ready further met n r among home =
    let found = part-of n phase.hosts among ready.differ in
    let may : MayRun d ps found.0 = each-contains (MayRun d ps) phase.hosts found.0 ready.may_run found.1 in
    let before : at_home ps n ≡ Some may.pass = subst (λ (k : ℕ). at_home ps k ≡ Some may.pass) found.2 may.home in
    let far = phase-further d (plain_phase phase) ps qs rs all further met n may.pass r before home in
    let left = further-cids (rests_of 1 n) d may.pass r (items_in_phase n (plain_phase phase)) far in
    none-outstanding r
    (left
    ∙ (ap (λ (items : List PlainItem). cids_after (cids_by may.pass) items) found.3
    ∙ (ap (λ (cs : List ℕ). cids_after cs (plain_items found.0.items)) (ap cids_of may.none)
    ∙ keeps-none d.config.depth [] found.0.items may.queue)))

pub phase-others : (d : DeviceName) (phase : Phase) (ps qs rs : DevicePasses) → AreAllOfDevice d ps → AreFurther 1 d (plain_phase phase) ps qs → HaveMetNow d qs rs
    → (n : ℕ) (p r : DevicePass) → (Contains (hosts_of phase.hosts) n → ⊥) → at_home ps n ≡ Some p → at_home rs n ≡ Some r → outstanding_by r ≡ outstanding_by p
phase-others d phase ps qs rs all further met n p r other before after =
    further-outstanding (rests_of 1 n) d p r
    (further-named (rests_of 1 n) d p r (items_in_phase n (plain_phase phase)) [] (no-items-of n phase.hosts (no-host n phase.hosts other))
    (phase-further d (plain_phase phase) ps qs rs all further met n p r before after))

-- ---- what the hosts have done

-- an event of another party does no item of a host
foreign : (n : ℕ) (x : Event) → (party_of_event x == n) ≡ false → item_by n x ≡ []
foreign n (event.Submit by cid ordinal cmd) h = ap (λ (b : Bool). if b then Sends cid cmd ∷ [] else []) h
foreign n (event.Claim by host ordinal sent) h = refl
foreign n (event.Finish by claim answer) h = refl
foreign n (event.Do by host ordinal sent answer aborts) h = refl
foreign n (event.Take by cid posted) h = ap (λ (b : Bool). if b then Takes cid ∷ [] else []) h
foreign n (event.Rest by) h = refl

-- the items of a host are those of its own events
pub items-own : (n : ℕ) (trail : Trail) → items_by n (filter (λ (e : Event). party_of_event e == n) trail) ≡ items_by n trail
items-own n [] = refl
items-own n (e ∷ trail) = by_test (party_of_event e == n) refl (items-own n trail)
  where
    by_test : (b : Bool) → (party_of_event e == n) ≡ b → items_by n (filter (λ (x : Event). party_of_event x == n) trail) ≡ items_by n trail
        → items_by n (cond b (e ∷ filter (λ (x : Event). party_of_event x == n) trail) (filter (λ (x : Event). party_of_event x == n) trail)) ≡ item_by n e ++ items_by n trail
    by_test true h later = ap (λ (items : List PlainItem). item_by n e ++ items) later
    by_test false h later = later ∙ ap (λ (items : List PlainItem). items ++ items_by n trail) (sym (foreign n e h))

pub phase-done : (d : DeviceName) (parts : List PlainPart) (ps qs rs : DevicePasses) (phases : Phases) (n : ℕ) (q : DevicePass) → MAX_HOSTS ≤ seats_in ps → AreAllOfDevice d ps
    → AreFurther 1 d parts ps qs → HaveMetNow d qs rs → HaveDoneSoFar phases ps → at_home rs n ≡ Some q → HaveDone (phases ++ parts ∷ []) (seen_by q)
phase-done d parts ps qs rs phases n q enough all further met so_far home host is =
    let low = is.1 in
    let before = all.all.each host is.0 (omega (arith, low, enough)) in
    let seats = phase-seats d parts ps qs rs all further met in
    let after = met.all.all.each host is.0 (subst (λ (k : ℕ). host ≤ k) (sym seats) (omega (arith, low, enough))) in
    let r : DevicePass = after.0 in
    let far = phase-further d parts ps qs rs all further met host before.0 r before.1.home after.1.home in
    let same : seen_by q ≡ seen_by r = met.met n host q r home after.1.home in
    let own : entries_by party_of_event host (seen_by r) ≡ made_by r =
    subst (λ (k : ℕ). entries_by party_of_event k (seen_by r) ≡ made_by r) after.1.party_is (met.all.each host r after.1.home).lock.own in
    let there : items_by host far.more ≡ items_in_phase host parts = subst (λ (k : ℕ). items_by k far.more ≡ items_in_phase host parts) before.1.party_is far.did in
    ap (items_by host) same
    ∙ (sym (items-own host (seen_by r))
    ∙ (ap (items_by host) own
    ∙ (ap (items_by host) far.made
    ∙ (items-append host (made_by before.0) far.more
    ∙ (ap₂ (λ (us vs : List PlainItem). us ++ vs) (so_far host before.0 is before.1.home) there
    ∙ (ap (λ (items : List PlainItem). items_in host phases ++ items) (sym (append-nil (items_in_phase host parts))) ∙ sym (planned-append host phases (parts ∷ []))))))))

-- ---- a phase

-- what a phase has come to, when all passes have met
pub record IsPhaseRun (d : DeviceName) (phase : Phase) (ps rs : DevicePasses) : Type 0 where
  pub seats : seats_in rs ≡ seats_in ps
  pub idle : AreIdle rs
  pub further : (n : ℕ) (p q : DevicePass) → at_home ps n ≡ Some p → at_home rs n ≡ Some q → IsFurther (rests_of 1 n) d p q (items_in_phase n (plain_phase phase))
  pub none : HaveNoneOutstanding (hosts_of phase.hosts) rs
  pub others : (n : ℕ) (p q : DevicePass) → (Contains (hosts_of phase.hosts) n → ⊥) → at_home ps n ≡ Some p → at_home rs n ≡ Some q → outstanding_by q ≡ outstanding_by p
  pub done : (phases : Phases) (n : ℕ) (q : DevicePass) → HaveDoneSoFar phases ps → at_home rs n ≡ Some q → HaveDone (phases ++ plain_phase phase ∷ []) (seen_by q)

pub phase-run : (d : DeviceName) (phase : Phase) (ps qs rs : DevicePasses) → MAX_HOSTS ≤ seats_in ps → AreAllOfDevice d ps → AreIdle ps → KeepsRules d.config.depth phase
    → HaveNoneOutstanding (hosts_of phase.hosts) ps → AreFurther 1 d (plain_phase phase) ps qs → HaveMetNow d qs rs → IsPhaseRun d phase ps rs
phase-run d phase ps qs rs enough all idle rules none further met =
    let ready = all-ready d (seats_in ps) phase ps refl enough all idle rules none in
    record {
      seats = phase-seats d (plain_phase phase) ps qs rs all further met;
      idle = phase-idle d (plain_phase phase) ps qs rs all further met;
      further = phase-further d (plain_phase phase) ps qs rs all further met;
      none = phase-none d phase ps qs rs all ready further met;
      others = phase-others d phase ps qs rs all further met;
      done = λ phases n q so_far home. phase-done d (plain_phase phase) ps qs rs phases n q enough all further met so_far home;
    }
