-- One step of a plan, in plain words.
use Rattle.std.proofs.Common.{◌≡◌, ℕ, ◌+◌, Bool, true, false, List, [], ◌∷◌, ◌++◌, Result, Ok, Err, map, length, nat_le, refl, sym, ◌∙◌, ap, append_assoc, arith}
use Rattle.std.specs.Prelude.{if◌then◌else◌}
use Rattle.std.proofs.lemmas.List.{map-append}
use Rattle.script_cmds.specs.declared.item.Item.{Item}
use Rattle.script_cmds.specs.declared.item.Item.TheVariants as item
use Rattle.script_cmds.specs.declared.item.HostPart.{HostPart}
use Rattle.script_cmds.specs.declared.item.Phase.{Phase}
use Rattle.history_model.specs.Plain.{PlainItem, PlainPart, Sends, Takes, plain_item, plain_items, plain_part, plain_parts, plain_phase, plain_phases}
use Rattle.script_cmds.specs.Queues.{queue_of_cid}
use Rattle.history_model.specs.Plan.{Breach, PlanFault, QueueFull, CidBusy, NotOutstanding, in_queue, is_outstanding, planned_items, planned_parts, planned_hosts, planned_phases, lines_of_parts, then_plan, both_planned}
use Rattle.history_model.specs.Rules.{without}
use Rattle.script_plan.specs.Meant.{meant, after}
use Rattle.script_plan.specs.Step.{outstanding_after}

-- what is planned in two steps is planned in one
pub after-after : {B : Type 0} (xs ys : List B) (r : Result (List B) PlanFault) → after xs (after ys r) ≡ after (xs ++ ys) r
after-after xs ys (Ok zs) = ap (λ l. Ok l) (sym (append_assoc xs ys zs))
after-after xs ys (Err f) = refl

-- nothing is planned yet
pub after-none : {B : Type 0} (r : Result (List B) PlanFault) → r ≡ after [] r
after-none (Ok zs) = refl
after-none (Err f) = refl

-- plain words keep a fault
pub meant-fault : {A B : Type 0} (plain : A → B) (front : List B) (r s : Result (List A) PlanFault) (f : PlanFault)
    → meant plain r ≡ after front (meant plain s) → s ≡ Err f → r ≡ Err f
meant-fault plain front (Ok xs) (Ok ys) f same is = cc
meant-fault plain front (Ok xs) (Err g) f same is = cc
meant-fault plain front (Err e) (Ok ys) f same is = cc
meant-fault plain front (Err e) (Err g) f same is = cc

-- something in front
pub meant-then : {A B : Type 0} (plain : A → B) (x : A) (r : Result (List A) PlanFault)
    → meant plain (then_plan (λ rest. x ∷ rest) r) ≡ after (plain x ∷ []) (meant plain r)
meant-then plain x (Ok xs) = refl
meant-then plain x (Err f) = refl

-- an item that keeps the rules stands in front of the plan of the rest
pub items-step : (depth line : ℕ) (outstanding next : List ℕ) (x : Item) (rest : List Item) → outstanding_after depth outstanding x ≡ Ok next
    → meant plain_item (planned_items depth line outstanding (x ∷ rest)) ≡ after (plain_item x ∷ []) (meant plain_item (planned_items depth (line + 1) next rest))
items-step depth line outstanding next (item.Send cid command) rest =
    go (nat_le depth (in_queue (queue_of_cid cid) outstanding)) (is_outstanding cid outstanding)
  where
    go : (full busy : Bool) → (if full then Err QueueFull else if busy then Err CidBusy else Ok (outstanding ++ cid ∷ [])) ≡ Ok next
        → meant plain_item (if full then Err (record { line = line; breach = QueueFull }) else if busy then Err (record { line = line; breach = CidBusy }) else then_plan (λ more. item.Send cid command ∷ more) (planned_items depth (line + 1) (outstanding ++ cid ∷ []) rest))
        ≡ after (Sends cid command.value ∷ []) (meant plain_item (planned_items depth (line + 1) next rest))
    go true busy is = cc
    go false true is = cc
    go false false is =
        let same : outstanding ++ cid ∷ [] ≡ next = cc in
        meant-then plain_item (item.Send cid command) (planned_items depth (line + 1) (outstanding ++ cid ∷ []) rest)
        ∙ ap (λ out. after (Sends cid command.value ∷ []) (meant plain_item (planned_items depth (line + 1) out rest))) same
items-step depth line outstanding next (item.Take cid) rest = go (is_outstanding cid outstanding)
  where
    go : (found : Bool) → (if found then Ok (without cid outstanding) else Err NotOutstanding) ≡ Ok next
        → meant plain_item (if found then then_plan (λ more. item.Take cid ∷ more) (planned_items depth (line + 1) (without cid outstanding) rest) else Err (record { line = line; breach = NotOutstanding }))
        ≡ after (Takes cid ∷ []) (meant plain_item (planned_items depth (line + 1) next rest))
    go true is =
        let same : without cid outstanding ≡ next = cc in
        meant-then plain_item (item.Take cid) (planned_items depth (line + 1) (without cid outstanding) rest)
        ∙ ap (λ out. after (Takes cid ∷ []) (meant plain_item (planned_items depth (line + 1) out rest))) same
    go false is = cc

-- a fault by its line and its breach
told : {A : Type 0} (f : PlanFault) (line : ℕ) (breach : Breach) → f.line ≡ line → breach ≡ f.breach
    → Path (Result A PlanFault) (Err (record { line = line; breach = breach })) (Err f)
told f line breach at is = rw (sym at, is) refl

-- an item that breaks a rule is the fault
pub items-fault : (depth line : ℕ) (outstanding : List ℕ) (x : Item) (rest : List Item) (f : PlanFault) → f.line ≡ line
    → outstanding_after depth outstanding x ≡ Err f.breach → planned_items depth line outstanding (x ∷ rest) ≡ Err f
items-fault depth line outstanding (item.Send cid command) rest f at is = go (nat_le depth (in_queue (queue_of_cid cid) outstanding)) (is_outstanding cid outstanding) is
  where
    go : (full busy : Bool) → (if full then Err QueueFull else if busy then Err CidBusy else Ok (outstanding ++ cid ∷ [])) ≡ Err f.breach
        → (if full then Err (record { line = line; breach = QueueFull }) else if busy then Err (record { line = line; breach = CidBusy }) else then_plan (λ more. item.Send cid command ∷ more) (planned_items depth (line + 1) (outstanding ++ cid ∷ []) rest)) ≡ Err f
    go true busy h = told f line QueueFull at (cc)
    go false true h = told f line CidBusy at (cc)
    go false false h = cc
items-fault depth line outstanding (item.Take cid) rest f at is = go (is_outstanding cid outstanding) is
  where
    go : (found : Bool) → (if found then Ok (without cid outstanding) else Err NotOutstanding) ≡ Err f.breach
        → (if found then then_plan (λ more. item.Take cid ∷ more) (planned_items depth (line + 1) (without cid outstanding) rest) else Err (record { line = line; breach = NotOutstanding })) ≡ Err f
    go true h = cc
    go false h = told f line NotOutstanding at (cc)

-- a part that keeps the rules stands in front of the plan of the rest
pub parts-step : (host : ℕ) (items : List PlainItem) (r : Result (List Item) PlanFault) (s : Result (List HostPart) PlanFault)
    → meant plain_item r ≡ Ok items
    → meant plain_part (both_planned (λ items rest. record { host = host; items = items } ∷ rest) r s) ≡ after (record { host = host; items = items } ∷ []) (meant plain_part s)
parts-step host items (Ok xs) (Ok ys) is =
    let same : plain_items xs ≡ items = cc in
    ap (λ l. Ok (record { host = host; items = l } ∷ plain_parts ys)) same
parts-step host items (Ok xs) (Err f) is = refl
parts-step host items (Err e) s is = cc

-- a phase that keeps the rules stands in front of the plan of the rest
pub phases-step : (hosts : List PlainPart) (r : Result (List HostPart) PlanFault) (s : Result (List Phase) PlanFault) → meant plain_part r ≡ Ok hosts
    → meant plain_phase (both_planned (λ hosts rest. record { hosts = hosts } ∷ rest) r s) ≡ after (hosts ∷ []) (meant plain_phase s)
phases-step hosts (Ok xs) (Ok ys) is =
    let same : plain_parts xs ≡ hosts = cc in
    ap (λ l. Ok (l ∷ plain_phases ys)) same
phases-step hosts (Ok xs) (Err f) is = refl
phases-step hosts (Err e) s is = cc

-- the first of two faults is told
pub both-fault : {A B C : Type 0} (join : A → B → C) (r : Result A PlanFault) (s : Result B PlanFault) (f : PlanFault) → r ≡ Err f
    → both_planned join r s ≡ Err f
both-fault join (Ok a) s f is = cc
both-fault join (Err e) s f is = ap (λ g. Err g) (cc)

-- what is outstanding is taken, and nothing else is left
pub items-end : (depth line : ℕ) (outstanding : List ℕ) → meant plain_item (planned_items depth line outstanding []) ≡ Ok (map (λ cid. Takes cid) outstanding)
items-end depth line outstanding = ap (λ l. Ok l) (plain-takes outstanding)
  where
    plain-takes : (cids : List ℕ) → plain_items (map (λ cid. item.Take cid) cids) ≡ map (λ cid. Takes cid) cids
    plain-takes [] = refl
    plain-takes (cid ∷ cids) = ap (λ l. Takes cid ∷ l) (plain-takes cids)

-- one more phase is planned
pub phases-loop : (depth start line count : ℕ) (all done left rest new : List Phase) (x next : Phase)
    → left ≡ x ∷ rest → count ≡ lines_of_parts x.hosts → new ≡ done ++ next ∷ []
    → meant plain_phase (planned_phases depth start all) ≡ after (plain_phases done) (meant plain_phase (planned_phases depth line left))
    → meant plain_part (planned_hosts depth line x.hosts) ≡ Ok (plain_phase next)
    → meant plain_phase (planned_phases depth start all) ≡ after (plain_phases new) (meant plain_phase (planned_phases depth (line + (1 + count)) rest))
phases-loop depth start line count all done left rest new x next split counted pushed whole host =
    let more : Result (List Phase) PlanFault = planned_phases depth (line + 1 + lines_of_parts x.hosts) rest in
    let at : line + 1 + lines_of_parts x.hosts ≡ line + (1 + count) = omega (arith, counted) in
    let text : plain_phases done ++ plain_phase next ∷ [] ≡ plain_phases new = sym (map-append plain_phase done (next ∷ [])) ∙ ap plain_phases (sym pushed) in
    whole ∙ ap (λ l. after (plain_phases done) (meant plain_phase (planned_phases depth line l))) split
    ∙ ap (after (plain_phases done)) (phases-step (plain_phase next) (planned_hosts depth line x.hosts) more host)
    ∙ after-after (plain_phases done) (plain_phase next ∷ []) (meant plain_phase more)
    ∙ ap (λ l. after l (meant plain_phase more)) text
    ∙ ap (λ n. after (plain_phases new) (meant plain_phase (planned_phases depth n rest))) at

-- one more part is planned
pub parts-loop : (depth start line next_line : ℕ) (all done left rest new : List HostPart) (x next : HostPart)
    → left ≡ x ∷ rest → next_line ≡ line + 1 + length x.items → new ≡ done ++ next ∷ [] → next.host ≡ x.host
    → meant plain_part (planned_parts depth start all) ≡ after (plain_parts done) (meant plain_part (planned_parts depth line left))
    → meant plain_item (planned_items depth (line + 1) [] x.items) ≡ Ok (plain_items next.items)
    → meant plain_part (planned_parts depth start all) ≡ after (plain_parts new) (meant plain_part (planned_parts depth next_line rest))
parts-loop depth start line next_line all done left rest new x next split at pushed host whole items =
    let more : Result (List HostPart) PlanFault = planned_parts depth (line + 1 + length x.items) rest in
    let plain : PlainPart = record { host = x.host; items = plain_items next.items } in
    let same : plain ≡ plain_part next = ap (λ h. record { host = h; items = plain_items next.items }) (sym host) in
    let text : plain_parts done ++ plain ∷ [] ≡ plain_parts new =
    ap (λ p. plain_parts done ++ p ∷ []) same ∙ sym (map-append plain_part done (next ∷ [])) ∙ ap plain_parts (sym pushed) in
    whole ∙ ap (λ l. after (plain_parts done) (meant plain_part (planned_parts depth line l))) split
    ∙ ap (after (plain_parts done)) (parts-step x.host (plain_items next.items) (planned_items depth (line + 1) [] x.items) more items)
    ∙ after-after (plain_parts done) (plain ∷ []) (meant plain_part more)
    ∙ ap (λ l. after l (meant plain_part more)) text
    ∙ ap (λ n. after (plain_parts new) (meant plain_part (planned_parts depth n rest))) (sym at)
