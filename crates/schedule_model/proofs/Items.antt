-- What a host's items come to: its account, and the commands that it sends.
use Rattle.std.proofs.Common.{◌≡◌, ℕ, ◌+◌, ◌==◌, Bool, true, false, not, cond, if◌then◌else◌, List, [], ◌∷◌, ◌++◌, length, map, filter, refl, sym, ap, ap₂, ◌∙◌, arith}
use Rattle.std.proofs.lemmas.List.Elements.{filter-append}
use Rattle.cp_base.specs.declared.commands.Command.{Command}
use Rattle.script_cmds.specs.declared.item.Item.{Item}
use Rattle.script_cmds.specs.declared.item.Item.TheVariants as item
use Rattle.history_model.specs.Plain.{PlainItem, Sends, Takes, plain_items}
use Rattle.history_model.specs.Rules.{KeepsQueue, without}
use Rattle.history_model.specs.Sent.{Sent, Waiting, named_in, ordinals_of, sends_of_items}
use Rattle.trail_model.specs.Lawful.{Trail}
use Rattle.trail_model.specs.declared.events.Event.{Event}
use Rattle.trail_model.specs.declared.events.Event.TheVariants as event
use Rattle.trail_model.proofs.Submits.{eqb-same}
use Rattle.schedule_model.specs.Deeds.{item_by, items_by}

-- A host's account: the ordinal of its next command, what waits, what it has taken in this phase, and what it has ever
-- taken.
pub record Standing : Type 0 where
  pub ordinal : ℕ
  pub waiting : List Waiting
  pub taken : List ℕ
  pub ever : List ℕ

abbrev pub after_item : Standing → PlainItem → Standing
after_item a (Sends cid cmd) = record {
  ordinal = a.ordinal + 1;
  waiting = a.waiting ++ record { cid = cid; ordinal = a.ordinal } ∷ [];
  taken = a.taken;
  ever = a.ever;
}
after_item a (Takes cid) = record {
  ordinal = a.ordinal;
  waiting = filter (λ (w : Waiting). not (w.cid == cid)) a.waiting;
  taken = a.taken ++ ordinals_of cid a.waiting;
  ever = a.ever ++ ordinals_of cid a.waiting;
}

abbrev pub after_items : Standing → List PlainItem → Standing
after_items a [] = a
after_items a (i ∷ items) = after_items (after_item a i) items

abbrev pub sent_by : ℕ → ℕ → Standing → ℕ → Command → Sent
sent_by host phase a cid cmd = record { host = host; ordinal = a.ordinal; cid = cid; phase = phase; command = cmd; taken = a.taken; named = named_in a.waiting cmd }

-- the commands that a host sends by these items
abbrev pub sends_by : ℕ → ℕ → Standing → List PlainItem → List Sent
sends_by host phase a [] = []
sends_by host phase a (Sends cid cmd ∷ items) = sent_by host phase a cid cmd ∷ sends_by host phase (after_item a (Sends cid cmd)) items
sends_by host phase a (Takes cid ∷ items) = sends_by host phase (after_item a (Takes cid)) items

abbrev pub begun : ℕ → List Waiting → List ℕ → List ℕ → Standing
begun ordinal waiting taken ever = record { ordinal = ordinal; waiting = waiting; taken = taken; ever = ever }

-- the plan's own list of a part is that
pub sends-of-items : (host phase ordinal : ℕ) (waiting : List Waiting) (taken ever : List ℕ) (items : List Item)
    → sends_of_items host phase ordinal waiting taken items ≡ sends_by host phase (begun ordinal waiting taken ever) (plain_items items)
sends-of-items host phase ordinal waiting taken ever [] = refl
sends-of-items host phase ordinal waiting taken ever (item.Send cid sent ∷ items) =
    ap (λ (xs : List Sent). sent_by host phase (begun ordinal waiting taken ever) cid sent.value ∷ xs)
    (sends-of-items host phase (ordinal + 1) (waiting ++ (let w : Waiting = record { cid = cid; ordinal = ordinal } in w) ∷ []) taken ever items)
sends-of-items host phase ordinal waiting taken ever (item.Take cid ∷ items) =
    sends-of-items host phase ordinal (filter (λ (w : Waiting). not (w.cid == cid)) waiting) (taken ++ ordinals_of cid waiting) (ever ++ ordinals_of cid waiting) items

-- the ordinals count on
pub ordinal-counts : (host phase : ℕ) (a : Standing) (items : List PlainItem) → (after_items a items).ordinal ≡ a.ordinal + length (sends_by host phase a items)
ordinal-counts host phase a [] = omega arith
ordinal-counts host phase a (Sends cid cmd ∷ items) = let h = ordinal-counts host phase (after_item a (Sends cid cmd)) items in omega arith
ordinal-counts host phase a (Takes cid ∷ items) = ordinal-counts host phase (after_item a (Takes cid)) items

pub after-append : (a : Standing) (xs ys : List PlainItem) → after_items a (xs ++ ys) ≡ after_items (after_items a xs) ys
after-append a [] ys = refl
after-append a (x ∷ xs) ys = after-append (after_item a x) xs ys

-- ---- trails

-- the standings of all hosts after an event
abbrev pub next_standings : (ℕ → Standing) → Event → ℕ → Standing
next_standings A e host = after_items (A host) (item_by host e)

abbrev pub standings_after : (ℕ → Standing) → Trail → ℕ → Standing
standings_after A trail host = after_items (A host) (items_by host trail)

-- the commands that an event sends
abbrev pub sent_in : ℕ → (ℕ → Standing) → Event → List Sent
sent_in phase A (event.Submit by cid ordinal cmd) = sent_by by phase (A by) cid cmd ∷ []
sent_in phase A (event.Claim by host ordinal sent) = []
sent_in phase A (event.Finish by claim answer) = []
sent_in phase A (event.Do by host ordinal sent answer aborts) = []
sent_in phase A (event.Take by cid posted) = []
sent_in phase A (event.Rest by) = []

abbrev pub sent_along : ℕ → (ℕ → Standing) → Trail → List Sent
sent_along phase A [] = []
sent_along phase A (e ∷ trail) = sent_in phase A e ++ sent_along phase (next_standings A e) trail

abbrev pub of_host : ℕ → List Sent → List Sent
of_host host sents = filter (λ (s : Sent). s.host == host) sents

pub sends-append : (host phase : ℕ) (a : Standing) (xs ys : List PlainItem)
    → sends_by host phase a (xs ++ ys) ≡ sends_by host phase a xs ++ sends_by host phase (after_items a xs) ys
sends-append host phase a [] ys = refl
sends-append host phase a (Sends cid cmd ∷ xs) ys = ap (λ (s : List Sent). sent_by host phase a cid cmd ∷ s) (sends-append host phase (after_item a (Sends cid cmd)) xs ys)
sends-append host phase a (Takes cid ∷ xs) ys = sends-append host phase (after_item a (Takes cid)) xs ys

one-sent : (host phase : ℕ) (A : ℕ → Standing) (e : Event) → of_host host (sent_in phase A e) ≡ sends_by host phase (A host) (item_by host e)
one-sent host phase A (event.Submit by cid ordinal cmd) = by_host (by == host) refl
  where
    by_host : (b : Bool) → (by == host) ≡ b → cond b (sent_by by phase (A by) cid cmd ∷ []) [] ≡ sends_by host phase (A host) (if b then Sends cid cmd ∷ [] else [])
    by_host true h = ap (λ (n : ℕ). sent_by n phase (A n) cid cmd ∷ []) (eqb-same by host h)
    by_host false h = refl
one-sent host phase A (event.Claim by other ordinal sent) = refl
one-sent host phase A (event.Finish by claim answer) = refl
one-sent host phase A (event.Do by other ordinal sent answer aborts) = refl
one-sent host phase A (event.Take by cid posted) = by_host (by == host)
  where
    by_host : (b : Bool) → [] ≡ sends_by host phase (A host) (if b then Takes cid ∷ [] else [])
    by_host true = refl
    by_host false = refl
one-sent host phase A (event.Rest by) = refl

-- what is sent along a trail is for each host what its items send
pub sent-of-host : (host phase : ℕ) (A : ℕ → Standing) (trail : Trail) → of_host host (sent_along phase A trail) ≡ sends_by host phase (A host) (items_by host trail)
sent-of-host host phase A [] = refl
sent-of-host host phase A (e ∷ trail) =
    filter-append (λ (s : Sent). s.host == host) (sent_in phase A e) (sent_along phase (next_standings A e) trail)
    ∙ (ap₂ (λ (xs ys : List Sent). xs ++ ys) (one-sent host phase A e) (sent-of-host host phase (next_standings A e) trail)
    ∙ sym (sends-append host phase (A host) (item_by host e) (items_by host trail)))

-- ---- nothing waits at the end of a part

pub cids-append : (xs ys : List Waiting) → map (λ (w : Waiting). w.cid) (xs ++ ys) ≡ map (λ (w : Waiting). w.cid) xs ++ map (λ (w : Waiting). w.cid) ys
cids-append [] ys = refl
cids-append (x ∷ xs) ys = ap (λ (cs : List ℕ). x.cid ∷ cs) (cids-append xs ys)

pub cids-without : (cid : ℕ) (waiting : List Waiting) → map (λ (w : Waiting). w.cid) (filter (λ (w : Waiting). not (w.cid == cid)) waiting) ≡ without cid (map (λ (w : Waiting). w.cid) waiting)
cids-without cid [] = refl
cids-without cid (w ∷ waiting) = by_test (not (w.cid == cid)) (cids-without cid waiting)
  where
    rest : List Waiting
    rest = filter (λ (x : Waiting). not (x.cid == cid)) waiting

    by_test : (b : Bool) → map (λ (x : Waiting). x.cid) (filter (λ (x : Waiting). not (x.cid == cid)) waiting) ≡ without cid (map (λ (x : Waiting). x.cid) waiting)
        → map (λ (x : Waiting). x.cid) (cond b (w ∷ filter (λ (x : Waiting). not (x.cid == cid)) waiting) (filter (λ (x : Waiting). not (x.cid == cid)) waiting))
        ≡ cond b (w.cid ∷ without cid (map (λ (x : Waiting). x.cid) waiting)) (without cid (map (λ (x : Waiting). x.cid) waiting))
    by_test true later = ap (λ (cs : List ℕ). w.cid ∷ cs) later
    by_test false later = later

none-waits : (waiting : List Waiting) → map (λ (w : Waiting). w.cid) waiting ≡ [] → waiting ≡ []
none-waits [] e = refl
none-waits (w ∷ waiting) e = cc

pub ends-empty : (depth : ℕ) (outstanding : List ℕ) (a : Standing) (items : List Item) → map (λ (w : Waiting). w.cid) a.waiting ≡ outstanding → KeepsQueue depth outstanding items
    → (after_items a (plain_items items)).waiting ≡ []
ends-empty depth outstanding a [] same keeps = none-waits a.waiting (same ∙ keeps)
ends-empty depth outstanding a (item.Send cid sent ∷ items) same keeps =
    ends-empty depth (outstanding ++ cid ∷ []) (after_item a (Sends cid sent.value)) items
    (cids-append a.waiting ((let w : Waiting = record { cid = cid; ordinal = a.ordinal } in w) ∷ []) ∙ ap (λ (cs : List ℕ). cs ++ cid ∷ []) same) keeps.2
ends-empty depth outstanding a (item.Take cid ∷ items) same keeps =
    ends-empty depth (without cid outstanding) (after_item a (Takes cid)) items (cids-without cid a.waiting ∙ ap (without cid) same) keeps.1
