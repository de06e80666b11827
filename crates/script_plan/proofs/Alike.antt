-- Plans that say the same in plain words: they send the same commands, and keep the rules alike.
use Rattle.std.proofs.Common.{◌≡◌, ℕ, ◌+◌, ◌==◌, not, List, [], ◌∷◌, ◌++◌, filter, refl, ◌∙◌, ap, subst}
use Rattle.std.specs.List.{AllByRecursion}
use Rattle.script_cmds.specs.declared.item.Item.{Item}
use Rattle.script_cmds.specs.declared.item.Item.TheVariants as item
use Rattle.script_cmds.specs.declared.item.HostPart.{HostPart}
use Rattle.script_cmds.specs.declared.item.Phase.{Phase}
use Rattle.history_model.specs.Plain.{PlainPart, plain_items, plain_part, plain_parts, plain_phases}
use Rattle.history_model.specs.Rules.{KeepsEachQueue, without}
use Rattle.history_model.specs.Sent.{Sent, Waiting, ordinals_of, next_ordinal, sends_of_items, sends_of_parts, sends_of_phases, sends_of}

pub same-items : (host phase ordinal : ℕ) (waiting : List Waiting) (taken : List ℕ) (xs ys : List Item) → plain_items xs ≡ plain_items ys
    → sends_of_items host phase ordinal waiting taken xs ≡ sends_of_items host phase ordinal waiting taken ys
same-items host phase ordinal waiting taken [] [] same = refl
same-items host phase ordinal waiting taken [] (y ∷ ys) same = cc
same-items host phase ordinal waiting taken (x ∷ xs) [] same = cc
same-items host phase ordinal waiting taken (item.Send cid command ∷ xs) (item.Send cid' command' ∷ ys) same =
    let rest : plain_items xs ≡ plain_items ys = cc in
    let cids : cid ≡ cid' = cc in
    let commands : command.value ≡ command'.value = cc in
    let here : Waiting = record { cid = cid; ordinal = ordinal } in
    let more = same-items host phase (ordinal + 1) (waiting ++ here ∷ []) taken xs ys rest in
    rw (commands, more, cids) refl
same-items host phase ordinal waiting taken (item.Send cid command ∷ xs) (item.Take cid' ∷ ys) same = cc
same-items host phase ordinal waiting taken (item.Take cid ∷ xs) (item.Send cid' command' ∷ ys) same = cc
same-items host phase ordinal waiting taken (item.Take cid ∷ xs) (item.Take cid' ∷ ys) same =
    let rest : plain_items xs ≡ plain_items ys = cc in
    let cids : cid ≡ cid' = cc in
    let more = same-items host phase ordinal (filter (λ (w : Waiting). not (w.cid == cid)) waiting) (taken ++ ordinals_of cid waiting) xs ys rest in
    more ∙ ap (λ n. sends_of_items host phase ordinal (filter (λ (w : Waiting). not (w.cid == n)) waiting) (taken ++ ordinals_of n waiting) ys) cids

same-parts : (phase : ℕ) (earlier : List Sent) (xs ys : List HostPart) → plain_parts xs ≡ plain_parts ys → sends_of_parts phase earlier xs ≡ sends_of_parts phase earlier ys
same-parts phase earlier [] [] same = refl
same-parts phase earlier [] (y ∷ ys) same = cc
same-parts phase earlier (x ∷ xs) [] same = cc
same-parts phase earlier (x ∷ xs) (y ∷ ys) same =
    let rest : plain_parts xs ≡ plain_parts ys = cc in
    let first : plain_part x ≡ plain_part y = cc in
    let hosts : x.host ≡ y.host = ap (λ (p : PlainPart). p.host) first in
    let items : plain_items x.items ≡ plain_items y.items = ap (λ (p : PlainPart). p.items) first in
    let new = same-items x.host phase (next_ordinal x.host earlier) [] [] x.items y.items items in
    let new' = ap (λ n. sends_of_items n phase (next_ordinal n earlier) [] [] y.items) hosts in
    ap (λ s. sends_of_parts phase (earlier ++ s) xs) (new ∙ new')
    ∙ same-parts phase (earlier ++ sends_of_items y.host phase (next_ordinal y.host earlier) [] [] y.items) xs ys rest

same-phases : (phase : ℕ) (earlier : List Sent) (xs ys : List Phase) → plain_phases xs ≡ plain_phases ys → sends_of_phases phase earlier xs ≡ sends_of_phases phase earlier ys
same-phases phase earlier [] [] same = refl
same-phases phase earlier [] (y ∷ ys) same = cc
same-phases phase earlier (x ∷ xs) [] same = cc
same-phases phase earlier (x ∷ xs) (y ∷ ys) same =
    let rest : plain_phases xs ≡ plain_phases ys = cc in
    let first : plain_parts x.hosts ≡ plain_parts y.hosts = cc in
    ap (λ s. sends_of_phases (phase + 1) s xs) (same-parts phase earlier x.hosts y.hosts first)
    ∙ same-phases (phase + 1) (sends_of_parts phase earlier y.hosts) xs ys rest

-- plans that say the same send the same commands
pub same-sends : (xs ys : List Phase) → plain_phases xs ≡ plain_phases ys → sends_of xs ≡ sends_of ys
same-sends xs ys same = same-phases 1 [] xs ys same

keeps-same : (depth : ℕ) (outstanding : List ℕ) (xs ys : List Item) → plain_items xs ≡ plain_items ys → KeepsEachQueue depth outstanding xs → KeepsEachQueue depth outstanding ys
keeps-same depth outstanding [] [] same keeps = keeps
keeps-same depth outstanding [] (y ∷ ys) same keeps = cc
keeps-same depth outstanding (x ∷ xs) [] same keeps = cc
keeps-same depth outstanding (item.Send cid command ∷ xs) (item.Send cid' command' ∷ ys) same keeps =
    let rest : plain_items xs ≡ plain_items ys = cc in
    let cids : cid ≡ cid' = cc in
    let P : ℕ → Type 0 = λ n. KeepsEachQueue depth outstanding (item.Send n command' ∷ ys) in
    subst P cids (keeps.0, keeps.1, keeps-same depth (outstanding ++ cid ∷ []) xs ys rest keeps.2)
keeps-same depth outstanding (item.Send cid command ∷ xs) (item.Take cid' ∷ ys) same keeps = cc
keeps-same depth outstanding (item.Take cid ∷ xs) (item.Send cid' command' ∷ ys) same keeps = cc
keeps-same depth outstanding (item.Take cid ∷ xs) (item.Take cid' ∷ ys) same keeps =
    let rest : plain_items xs ≡ plain_items ys = cc in
    let cids : cid ≡ cid' = cc in
    let P : ℕ → Type 0 = λ n. KeepsEachQueue depth outstanding (item.Take n ∷ ys) in
    subst P cids (keeps.0, keeps-same depth (without cid outstanding) xs ys rest keeps.1)

-- a part keeps the rules of its queues from the start
abbrev pub KeepsPart : ℕ → HostPart → Type 0
KeepsPart depth part = KeepsEachQueue depth [] part.items

pub parts-keep-same : (depth : ℕ) (xs ys : List HostPart) → plain_parts xs ≡ plain_parts ys → AllByRecursion (KeepsPart depth) xs → AllByRecursion (KeepsPart depth) ys
parts-keep-same depth [] [] same keeps = keeps
parts-keep-same depth [] (y ∷ ys) same keeps = cc
parts-keep-same depth (x ∷ xs) [] same keeps = cc
parts-keep-same depth (x ∷ xs) (y ∷ ys) same keeps =
    let rest : plain_parts xs ≡ plain_parts ys = cc in
    let first : plain_part x ≡ plain_part y = cc in
    (keeps-same depth [] x.items y.items (ap (λ (p : PlainPart). p.items) first) keeps.0, parts-keep-same depth xs ys rest keeps.1)
