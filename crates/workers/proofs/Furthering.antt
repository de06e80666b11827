-- How the ways of a pass are put together, and what they come to.
use Rattle.std.proofs.Common.{◌≡◌, ◌≢◌, ◌∙◌, ℕ, ◌+◌, ◌<◌, ◌≤◌, ◌==◌, Bool, true, false, not, cond, if◌then◌else◌, List, [], ◌∷◌, ◌++◌, append-nil, append_assoc, length, map, filter, refl, sym, ap, ap₂, subst, arith}
use Rattle.std.specs.List.{AllByRecursion}
use Rattle.std.proofs.lemmas.Bool.{true≢false}
use Rattle.cp_base.specs.Answer.{Answer}
use Rattle.cp_base.specs.declared.commands.Command.{Command}
use Rattle.history_model.specs.Plain.{PlainItem, Sends, Takes}
use Rattle.history_model.specs.Rules.{without}
use Rattle.seat_lock.specs.Passes.{lost_by, made_by, party_of, seen_by}
use Rattle.seat_lock.specs.Trails.{BeginsWith}
use Rattle.trail_model.specs.Accounts.{Account, Outstanding, account_after, account_from, account_of, first_account}
use Rattle.trail_model.specs.Lawful.{IsParty, Trail, party_of_event}
use Rattle.trail_model.specs.declared.events.Event.{Event}
use Rattle.trail_model.specs.declared.events.Event.TheVariants as event
use Rattle.trail_model.proofs.Submits.{eqb-same, same-eqb}
use Rattle.schedule_model.specs.Deeds.{item_by, items_by}
use Rattle.schedule_model.proofs.Telling.{items-append}
use Rattle.device_lock.specs.Names.{DeviceName}
use Rattle.device_lock.specs.Passes.{DevicePass, IsBack, IsBackAlone, IsBackWith, IsIdle, IsOfDevice}
use Rattle.workers.specs.Further.{IsFurther, cids_by, outstanding_by, rests_by, rests_in}

-- ---- one after the other

rests-append : (xs ys : Trail) → rests_in (xs ++ ys) ≡ rests_in xs + rests_in ys
rests-append [] ys = omega arith
rests-append (x ∷ xs) ys = let later = rests-append xs ys in omega (arith, later)

begins-both : {A : Type 0} (xs ys zs : List A) → BeginsWith ys xs → BeginsWith zs ys → BeginsWith zs xs
begins-both {A} xs ys zs first second = (first.0 ++ second.0, second.1 ∙ (ap (λ (l : List A). l ++ second.0) first.1 ∙ append_assoc xs first.0 second.0))

pub back-both : (d : DeviceName) (p q r : DevicePass) → IsBack d p q → IsBack d q r → IsBack d p r
back-both d p q r first second = record {
  of_device = second.of_device;
  party = second.party ∙ first.party;
  seen = begins-both (seen_by p) (seen_by q) (seen_by r) first.seen second.seen;
  lost = begins-both (lost_by p) (lost_by q) (lost_by r) first.lost second.lost;
}

pub back-same : (d : DeviceName) (p : DevicePass) → IsOfDevice d p → IsBack d p p
back-same d p of_device = record { of_device = of_device; party = refl; seen = ([], sym (append-nil (seen_by p))); lost = ([], sym (append-nil (lost_by p))) }

pub further-same : (most : ℕ) (d : DeviceName) (p : DevicePass) → IsOfDevice d p → IsIdle p → IsFurther most d p p []
further-same most d p of_device idle =
    record { back = back-same d p of_device; idle = idle; more = []; made = sym (append-nil (made_by p)); did = refl; few = low }
  where
    low : 0 ≤ most
    low = omega arith

pub further-both : (most few : ℕ) (d : DeviceName) (p q r : DevicePass) (xs ys : List PlainItem) → IsFurther most d p q xs → IsFurther few d q r ys
    → IsFurther (most + few) d p r (xs ++ ys)
further-both most few d p q r xs ys first second =
    let there : items_by (party_of p) second.more ≡ ys = subst (λ (n : ℕ). items_by n second.more ≡ ys) first.back.party second.did in
    let rests = rests-append first.more second.more in
    let a = first.few in
    let b = second.few in
    record {
      back = back-both d p q r first.back second.back;
      idle = second.idle;
      more = first.more ++ second.more;
      made = second.made ∙ (ap (λ (m : Trail). m ++ second.more) first.made ∙ append_assoc (made_by p) first.more second.more);
      did = items-append (party_of p) first.more second.more ∙ ap₂ (λ (us vs : List PlainItem). us ++ vs) first.did there;
      few = omega (arith, rests, a, b);
    }

-- with as many rests, or more
pub further-more : (few most : ℕ) (d : DeviceName) (p q : DevicePass) (items : List PlainItem) → few ≤ most → IsFurther few d p q items → IsFurther most d p q items
further-more few most d p q items below further =
    let a = further.few in
    record { back = further.back; idle = further.idle; more = further.more; made = further.made; did = further.did; few = omega (arith, a, below) }

-- the items may be named otherwise
pub further-named : (most : ℕ) (d : DeviceName) (p q : DevicePass) (xs ys : List PlainItem) → xs ≡ ys → IsFurther most d p q xs → IsFurther most d p q ys
further-named most d p q xs ys same further = subst (λ (items : List PlainItem). IsFurther most d p q items) same further

-- ---- single turns

pub no-rest : 0 ≤ 0
no-rest = omega arith

pub one-rest : 1 ≤ 1
one-rest = omega arith

-- a turn without an event
pub further-alone : (d : DeviceName) (p q : DevicePass) → IsBackAlone d p q → IsIdle q → IsFurther 0 d p q []
further-alone d p q alone idle =
    record { back = alone.back; idle = idle; more = []; made = alone.made ∙ sym (append-nil (made_by p)); did = refl; few = no-rest }

-- a turn with one event
pub further-with : (most : ℕ) (d : DeviceName) (p q : DevicePass) (before : Trail) (e : Event) (items : List PlainItem) → IsBackWith d p q before e → IsIdle q
    → item_by (party_of p) e ++ [] ≡ items → rests_by e + 0 ≤ most → IsFurther most d p q items
further-with most d p q before e items turn idle did few = record { back = turn.back; idle = idle; more = e ∷ []; made = turn.made; did = did; few = few }

-- a claim and its finish
pub further-claimed : (d : DeviceName) (p q r : DevicePass) (before after : Trail) (host ordinal sent claim : ℕ) (answer : Answer)
    → IsBackWith d p q before (event.Claim (party_of p) host ordinal sent) → IsBackWith d q r after (event.Finish (party_of q) claim answer) → IsIdle r → IsFurther 0 d p r []
further-claimed d p q r before after host ordinal sent claim answer first second idle =
    record {
      back = back-both d p q r first.back second.back;
      idle = idle;
      more = event.Claim (party_of p) host ordinal sent ∷ event.Finish (party_of q) claim answer ∷ [];
      made = second.made ∙ (ap (λ (m : Trail). m ++ event.Finish (party_of q) claim answer ∷ []) first.made
          ∙ append_assoc (made_by p) (event.Claim (party_of p) host ordinal sent ∷ []) (event.Finish (party_of q) claim answer ∷ []));
      did = refl;
      few = no-rest;
    }

-- what a submit and a take of a party do
pub sends-one : (party cid ordinal : ℕ) (cmd : Command) → item_by party (event.Submit party cid ordinal cmd) ++ [] ≡ Sends cid cmd ∷ []
sends-one party cid ordinal cmd = ap (λ (b : Bool). (if b then Sends cid cmd ∷ [] else []) ++ []) (same-eqb party party refl)

pub takes-one : (party cid posted : ℕ) → item_by party (event.Take party cid posted) ++ [] ≡ Takes cid ∷ []
takes-one party cid posted = ap (λ (b : Bool). (if b then Takes cid ∷ [] else []) ++ []) (same-eqb party party refl)

-- ---- outstanding commands

-- the identifiers of the outstanding commands after these items
abbrev pub cids_after : List ℕ → List PlainItem → List ℕ
cids_after cids [] = cids
cids_after cids (Sends cid cmd ∷ items) = cids_after (cids ++ cid ∷ []) items
cids_after cids (Takes cid ∷ items) = cids_after (without cid cids) items

abbrev pub cids_of : List Outstanding → List ℕ
cids_of outstanding = map (λ (o : Outstanding). o.cid) outstanding

cids-push : (xs ys : List Outstanding) → cids_of (xs ++ ys) ≡ cids_of xs ++ cids_of ys
cids-push [] ys = refl
cids-push (x ∷ xs) ys = ap (λ (cs : List ℕ). x.cid ∷ cs) (cids-push xs ys)

cids-left : (cid : ℕ) (xs : List Outstanding) → cids_of (filter (λ (o : Outstanding). not (o.cid == cid)) xs) ≡ without cid (cids_of xs)
cids-left cid [] = refl
cids-left cid (x ∷ xs) = by_test (not (x.cid == cid)) (cids-left cid xs)
  where
    by_test : (b : Bool) → cids_of (filter (λ (o : Outstanding). not (o.cid == cid)) xs) ≡ without cid (cids_of xs)
        → cids_of (cond b (x ∷ filter (λ (o : Outstanding). not (o.cid == cid)) xs) (filter (λ (o : Outstanding). not (o.cid == cid)) xs))
        ≡ cond b (x.cid ∷ without cid (cids_of xs)) (without cid (cids_of xs))
    by_test true later = ap (λ (cs : List ℕ). x.cid ∷ cs) later
    by_test false later = later

-- an account's outstanding commands after events of the party are what its items leave
account-cids : (party : ℕ) (a : Account) (mine : Trail) → AllByRecursion (λ (e : Event). party_of_event e ≡ party) mine
    → cids_of (account_from a mine).outstanding ≡ cids_after (cids_of a.outstanding) (items_by party mine)
account-cids party a [] own = refl
account-cids party a (event.Submit by cid ordinal cmd ∷ mine) own =
    account-cids party (account_after a (event.Submit by cid ordinal cmd)) mine own.1
    ∙ (ap (λ (cs : List ℕ). cids_after cs (items_by party mine)) (cids-push a.outstanding ((let o : Outstanding = record { cid = cid; ordinal = ordinal } in o) ∷ []))
    ∙ sym (ap (λ (b : Bool). cids_after (cids_of a.outstanding) ((if b then Sends cid cmd ∷ [] else []) ++ items_by party mine)) (same-eqb by party own.0)))
account-cids party a (event.Claim by host ordinal sent ∷ mine) own = account-cids party (account_after a (event.Claim by host ordinal sent)) mine own.1
account-cids party a (event.Finish by claim answer ∷ mine) own = account-cids party (account_after a (event.Finish by claim answer)) mine own.1
account-cids party a (event.Do by host ordinal sent answer aborts ∷ mine) own = account-cids party a mine own.1
account-cids party a (event.Take by cid posted ∷ mine) own =
    account-cids party (account_after a (event.Take by cid posted)) mine own.1
    ∙ (ap (λ (cs : List ℕ). cids_after cs (items_by party mine)) (cids-left cid a.outstanding)
    ∙ sym (ap (λ (b : Bool). cids_after (cids_of a.outstanding) ((if b then Takes cid ∷ [] else []) ++ items_by party mine)) (same-eqb by party own.0)))
account-cids party a (event.Rest by ∷ mine) own = account-cids party a mine own.1

some-item : (i : PlainItem) (items : List PlainItem) → i ∷ items ≡ [] → ⊥
some-item i items e = cc

-- where there is no item, they are as before
account-same : (party : ℕ) (a : Account) (mine : Trail) → AllByRecursion (λ (e : Event). party_of_event e ≡ party) mine → items_by party mine ≡ []
    → (account_from a mine).outstanding ≡ a.outstanding
account-same party a [] own none = refl
account-same party a (event.Submit by cid ordinal cmd ∷ mine) own none =
    absurd (some-item (Sends cid cmd) (items_by party mine)
    (sym (ap (λ (b : Bool). (if b then Sends cid cmd ∷ [] else []) ++ items_by party mine) (same-eqb by party own.0)) ∙ none))
account-same party a (event.Claim by host ordinal sent ∷ mine) own none = account-same party (account_after a (event.Claim by host ordinal sent)) mine own.1 none
account-same party a (event.Finish by claim answer ∷ mine) own none = account-same party (account_after a (event.Finish by claim answer)) mine own.1 none
account-same party a (event.Do by host ordinal sent answer aborts ∷ mine) own none = account-same party a mine own.1 none
account-same party a (event.Take by cid posted ∷ mine) own none =
    absurd (some-item (Takes cid) (items_by party mine)
    (sym (ap (λ (b : Bool). (if b then Takes cid ∷ [] else []) ++ items_by party mine) (same-eqb by party own.0)) ∙ none))
account-same party a (event.Rest by ∷ mine) own none = account-same party a mine own.1 none

account-append : (a : Account) (xs ys : Trail) → account_from a (xs ++ ys) ≡ account_from (account_from a xs) ys
account-append a [] ys = refl
account-append a (x ∷ xs) ys = account-append (account_after a x) xs ys

-- what is filtered passes the test
all-pass : (party : ℕ) (xs : Trail) → AllByRecursion (λ (e : Event). party_of_event e ≡ party) (filter (λ (e : Event). party_of_event e == party) xs)
all-pass party [] = tt
all-pass party (x ∷ xs) = by_test (party_of_event x == party) refl (all-pass party xs)
  where
    by_test : (b : Bool) → (party_of_event x == party) ≡ b → AllByRecursion (λ (e : Event). party_of_event e ≡ party) (filter (λ (e : Event). party_of_event e == party) xs)
        → AllByRecursion (λ (e : Event). party_of_event e ≡ party) (cond b (x ∷ filter (λ (e : Event). party_of_event e == party) xs) (filter (λ (e : Event). party_of_event e == party) xs))
    by_test true h later = (eqb-same (party_of_event x) party h, later)
    by_test false h later = later

all-behind : (P : Event → Type 0) (xs ys : Trail) → AllByRecursion P (xs ++ ys) → AllByRecursion P ys
all-behind P [] ys all = all
all-behind P (x ∷ xs) ys all = all-behind P xs ys all.1

-- what a party made meanwhile is its own
own-more : (most : ℕ) (d : DeviceName) (p q : DevicePass) (items : List PlainItem) (f : IsFurther most d p q items)
    → AllByRecursion (λ (e : Event). party_of_event e ≡ party_of p) f.more
own-more most d p q items f =
    all-behind (λ (e : Event). party_of_event e ≡ party_of p) (made_by p) f.more
    (subst (λ (mine : Trail). AllByRecursion (λ (e : Event). party_of_event e ≡ party_of p) mine) f.made
    (subst (λ (n : ℕ). AllByRecursion (λ (e : Event). party_of_event e ≡ n) (made_by q)) f.back.party
    (subst (λ (mine : Trail). AllByRecursion (λ (e : Event). party_of_event e ≡ party_of q) mine) f.back.of_device.lock.own (all-pass (party_of q) (seen_by q)))))

-- the outstanding commands after items are what the items leave
pub further-cids : (most : ℕ) (d : DeviceName) (p q : DevicePass) (items : List PlainItem) → IsFurther most d p q items → cids_by q ≡ cids_after (cids_by p) items
further-cids most d p q items f =
    ap (λ (mine : Trail). cids_of (account_of mine).outstanding) f.made
    ∙ (ap (λ (a : Account). cids_of a.outstanding) (account-append first_account (made_by p) f.more)
    ∙ (account-cids (party_of p) (account_of (made_by p)) f.more (own-more most d p q items f)
    ∙ ap (cids_after (cids_by p)) f.did))

-- and with no item they are as before
pub further-outstanding : (most : ℕ) (d : DeviceName) (p q : DevicePass) → IsFurther most d p q [] → outstanding_by q ≡ outstanding_by p
further-outstanding most d p q f =
    ap (λ (mine : Trail). (account_of mine).outstanding) f.made
    ∙ (ap (λ (a : Account). a.outstanding) (account-append first_account (made_by p) f.more)
    ∙ account-same (party_of p) (account_of (made_by p)) f.more (own-more most d p q [] f) f.did)

pub none-outstanding : (p : DevicePass) → cids_by p ≡ [] → outstanding_by p ≡ []
none-outstanding p none = by_list (outstanding_by p) none
  where
    by_list : (xs : List Outstanding) → cids_of xs ≡ [] → xs ≡ []
    by_list [] e = refl
    by_list (x ∷ xs) e = cc
