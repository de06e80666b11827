-- To which queues a plan sends: to those of its script.
use Rattle.std.proofs.Common.{◌≡◌, ℕ, ◌+◌, ◌<◌, ◌==◌, not, List, [], ◌∷◌, ◌++◌, filter, sym, ap, subst}
use Rattle.std.specs.List.{AllByRecursion}
use Rattle.script_cmds.specs.Queues.{SendToQueues, queue_of_cid}
use Rattle.script_cmds.specs.declared.item.Item.{Item}
use Rattle.script_cmds.specs.declared.item.Item.TheVariants as item
use Rattle.script_cmds.specs.declared.item.HostPart.{HostPart}
use Rattle.script_cmds.specs.declared.item.Phase.{Phase}
use Rattle.history_model.specs.Plain.{PlainPart, plain_items, plain_part, plain_parts, plain_phases}
use Rattle.history_model.specs.Sent.{Sent, Waiting, ordinals_of, sends_of_items}
use Rattle.script_plan.proofs.Alike.{same-items}

abbrev pub GoesTo : ℕ → Sent → Type 0
GoesTo queues sent = queue_of_cid sent.cid < queues

all-go : (queues host phase ordinal : ℕ) (waiting : List Waiting) (taken : List ℕ) (items : List Item) → SendToQueues queues items
    → AllByRecursion (GoesTo queues) (sends_of_items host phase ordinal waiting taken items)
all-go queues host phase ordinal waiting taken [] to = tt
all-go queues host phase ordinal waiting taken (item.Send cid command ∷ items) to =
    let here : Waiting = record { cid = cid; ordinal = ordinal } in
    (to.0, all-go queues host phase (ordinal + 1) (waiting ++ here ∷ []) taken items to.1)
all-go queues host phase ordinal waiting taken (item.Take cid ∷ items) to =
    all-go queues host phase ordinal (filter (λ (w : Waiting). not (w.cid == cid)) waiting) (taken ++ ordinals_of cid waiting) items to

so-they-go : (queues host phase ordinal : ℕ) (waiting : List Waiting) (taken : List ℕ) (items : List Item)
    → AllByRecursion (GoesTo queues) (sends_of_items host phase ordinal waiting taken items) → SendToQueues queues items
so-they-go queues host phase ordinal waiting taken [] all = tt
so-they-go queues host phase ordinal waiting taken (item.Send cid command ∷ items) all =
    let here : Waiting = record { cid = cid; ordinal = ordinal } in
    (all.0, so-they-go queues host phase (ordinal + 1) (waiting ++ here ∷ []) taken items all.1)
so-they-go queues host phase ordinal waiting taken (item.Take cid ∷ items) all =
    so-they-go queues host phase ordinal (filter (λ (w : Waiting). not (w.cid == cid)) waiting) (taken ++ ordinals_of cid waiting) items all

-- items that send the same commands send them to the same queues
pub items-to : (queues : ℕ) (xs ys : List Item) → sends_of_items 0 0 0 [] [] xs ≡ sends_of_items 0 0 0 [] [] ys → SendToQueues queues ys → SendToQueues queues xs
items-to queues xs ys same to =
    so-they-go queues 0 0 0 [] [] xs (subst (λ (sent : List Sent). AllByRecursion (GoesTo queues) sent) (sym same) (all-go queues 0 0 0 [] [] ys to))

-- a part sends to so many queues
abbrev pub PartSendsTo : ℕ → HostPart → Type 0
PartSendsTo queues part = SendToQueues queues part.items

-- the parts of a phase do
abbrev pub PhaseSendsTo : ℕ → Phase → Type 0
PhaseSendsTo queues phase = AllByRecursion (PartSendsTo queues) phase.hosts

parts-to-same : (queues : ℕ) (xs ys : List HostPart) → plain_parts xs ≡ plain_parts ys → AllByRecursion (PartSendsTo queues) xs → AllByRecursion (PartSendsTo queues) ys
parts-to-same queues [] [] same to = to
parts-to-same queues [] (y ∷ ys) same to = cc
parts-to-same queues (x ∷ xs) [] same to = cc
parts-to-same queues (x ∷ xs) (y ∷ ys) same to =
    let rest : plain_parts xs ≡ plain_parts ys = cc in
    let first : plain_part x ≡ plain_part y = cc in
    let items : plain_items x.items ≡ plain_items y.items = ap (λ (p : PlainPart). p.items) first in
    (items-to queues y.items x.items (sym (same-items 0 0 0 [] [] x.items y.items items)) to.0, parts-to-same queues xs ys rest to.1)

-- phases that say the same send to the same queues
pub phases-to-same : (queues : ℕ) (xs ys : List Phase) → plain_phases xs ≡ plain_phases ys → AllByRecursion (PhaseSendsTo queues) xs → AllByRecursion (PhaseSendsTo queues) ys
phases-to-same queues [] [] same to = to
phases-to-same queues [] (y ∷ ys) same to = cc
phases-to-same queues (x ∷ xs) [] same to = cc
phases-to-same queues (x ∷ xs) (y ∷ ys) same to =
    let rest : plain_phases xs ≡ plain_phases ys = cc in
    let first : plain_parts x.hosts ≡ plain_parts y.hosts = cc in
    (parts-to-same queues x.hosts y.hosts first to.0, phases-to-same queues xs ys rest to.1)
