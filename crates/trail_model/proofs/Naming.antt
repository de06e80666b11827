-- What the Aborts of a host name, by requests alone, and how many commands a host has submitted.
use Rattle.std.proofs.Common.{◌≡◌, ℕ, suc, ◌<◌, ◌==◌, Bool, true, false, cond, List, [], ◌∷◌, ◌++◌, append-nil, append_assoc, length, map, filter, find, Option, Some, None, option_map, refl, sym, ap, ap₂, ◌∙◌, arith, if◌then◌else◌}
use Rattle.std.specs.List.{AllByRecursion}
use Rattle.std.specs.Prelude.{option_and_then}
use Rattle.cp_base.specs.declared.commands.Command.{Command}
use Rattle.cp_base.specs.declared.commands.Command.TheVariants as command
use Rattle.trail_model.specs.Accounts.{Naming, Outstanding, named_by_submit, names_in, naming_of, outstanding_in}
use Rattle.trail_model.specs.Linked.{IsLinked, NamesEarlier, requests_of}
use Rattle.trail_model.specs.World.{Queued, Request, Submission, World, outstanding_of, outstanding_under, request_at, request_of, submit_at, submits_of}
use Rattle.trail_model.proofs.Linked.{requests-push, self-found, under-each}
use Rattle.trail_model.proofs.Submits.{find-push, other-eqb}

-- ---- by requests

abbrev Lookup : Type 0
Lookup = ℕ → Option Request

abbrev looked_up : List Request → Lookup
looked_up requests place = find (λ (r : Request). r.place == place) requests

abbrev named_by : Lookup → Request → Command → List Naming
named_by look request (command.Abort cid) = record { abort = request.ordinal; named = option_map (λ (r : Request). r.ordinal) (option_and_then look request.names) } ∷ []
named_by look request cmd = []

abbrev pub names_by : Lookup → ℕ → List Request → List Naming
names_by look host [] = []
names_by look host (r ∷ more) = (if r.host == host then named_by look r r.command else []) ++ names_by look host more

look-same : (submits : List Submission) (place : ℕ) → request_at submits place ≡ looked_up (requests_of submits) place
look-same [] place = refl
look-same (s ∷ submits) place = by_test (s.request.place == place) (look-same submits place)
  where
    by_test : (b : Bool) → request_at submits place ≡ looked_up (requests_of submits) place
        → option_map (λ (x : Submission). x.request) (cond b (Some s) (submit_at submits place)) ≡ cond b (Some s.request) (looked_up (requests_of submits) place)
    by_test true later = refl
    by_test false later = later

then-same : (f g : Lookup) → ((place : ℕ) → f place ≡ g place) → (names : Option ℕ) → option_and_then f names ≡ option_and_then g names
then-same f g same None = refl
then-same f g same (Some place) = same place

named-same : (submits : List Submission) (r : Request) (cmd : Command) → named_by_submit submits r cmd ≡ named_by (looked_up (requests_of submits)) r cmd
named-same submits r (command.Abort cid) =
    ap (λ (o : Option Request). let n : Naming = record { abort = r.ordinal; named = option_map (λ (x : Request). x.ordinal) o } in n ∷ [])
    (then-same (λ place. request_at submits place) (looked_up (requests_of submits)) (look-same submits) r.names)
named-same submits r cmd = refl

pub names-same : (all : List Submission) (host : ℕ) (submits : List Submission) → names_in all host submits ≡ names_by (looked_up (requests_of all)) host (requests_of submits)
names-same all host [] = refl
names-same all host (s ∷ submits) =
    ap₂ (λ (xs ys : List Naming). (if s.request.host == host then xs else []) ++ ys) (named-same all s.request s.request.command) (names-same all host submits)

-- ---- one more request

names-append : (look : Lookup) (host : ℕ) (rs rs' : List Request) → names_by look host (rs ++ rs') ≡ names_by look host rs ++ names_by look host rs'
names-append look host [] rs' = refl
names-append look host (r ∷ rs) rs' =
    ap (λ (xs : List Naming). (if r.host == host then named_by look r r.command else []) ++ xs) (names-append look host rs rs')
    ∙ sym (append_assoc (if r.host == host then named_by look r r.command else []) (names_by look host rs) (names_by look host rs'))

push-elsewhere : (rs : List Request) (new : Request) (place : ℕ) → (new.place ≡ place → ⊥) → looked_up (rs ++ new ∷ []) place ≡ looked_up rs place
push-elsewhere [] new place other = ap (λ (b : Bool). cond b (Some new) None) (other-eqb new.place place other)
push-elsewhere (r ∷ rs) new place other = ap (λ (o : Option Request). cond (r.place == place) (Some r) o) (push-elsewhere rs new place other)

named-kept : (f g : Lookup) (r : Request) (cmd : Command) → ((place : ℕ) → r.names ≡ Some place → f place ≡ g place) → named_by f r cmd ≡ named_by g r cmd
named-kept f g r (command.Abort cid) same =
    ap (λ (o : Option Request). let n : Naming = record { abort = r.ordinal; named = option_map (λ (x : Request). x.ordinal) o } in n ∷ []) (by_names r.names same)
  where
    by_names : (o : Option ℕ) → ((place : ℕ) → o ≡ Some place → f place ≡ g place) → option_and_then f o ≡ option_and_then g o
    by_names None same = refl
    by_names (Some place) same = same place refl
named-kept f g r cmd same = refl

names-kept : (f g : Lookup) (host : ℕ) (rs : List Request) → AllByRecursion (λ (r : Request). (place : ℕ) → r.names ≡ Some place → f place ≡ g place) rs
    → names_by f host rs ≡ names_by g host rs
names-kept f g host [] all = refl
names-kept f g host (r ∷ rs) all =
    ap₂ (λ (xs ys : List Naming). (if r.host == host then xs else []) ++ ys) (named-kept f g r r.command all.0) (names-kept f g host rs all.1)

-- what was named stays named
old-kept : (rs all : List Request) (new : Request) → AllByRecursion NamesEarlier rs → AllByRecursion (λ (r : Request). r.place < new.place) rs
    → AllByRecursion (λ (r : Request). (place : ℕ) → r.names ≡ Some place → looked_up (all ++ new ∷ []) place ≡ looked_up all place) rs
old-kept [] all new names below = tt
old-kept (r ∷ rs) all new names below = (
  (λ place e. let earlier = names.0 place e in let less = below.0 in push-elsewhere all new place (λ same. omega arith)),
  old-kept rs all new names.1 below.1,
)

names-push : (rs : List Request) (new : Request) (host : ℕ) → AllByRecursion NamesEarlier rs → AllByRecursion (λ (r : Request). r.place < new.place) rs
    → names_by (looked_up (rs ++ new ∷ [])) host (rs ++ new ∷ []) ≡ names_by (looked_up rs) host rs ++ (if new.host == host then named_by (looked_up (rs ++ new ∷ [])) new new.command else [])
names-push rs new host names below =
    names-append (looked_up (rs ++ new ∷ [])) host rs (new ∷ [])
    ∙ ap₂ (λ (xs ys : List Naming). xs ++ ys) (names-kept (looked_up (rs ++ new ∷ [])) (looked_up rs) host rs (old-kept rs rs new names below))
    (append-nil (if new.host == host then named_by (looked_up (rs ++ new ∷ [])) new new.command else []))

-- ---- what a new command names

abbrev own : Submission → Outstanding
own s = record { cid = s.request.cid; ordinal = s.request.ordinal }

found-own : (xs : List Submission) (cid : ℕ) → find (λ (o : Outstanding). o.cid == cid) (map own xs) ≡ option_map own (find (λ (s : Submission). s.request.cid == cid) xs)
found-own [] cid = refl
found-own (x ∷ xs) cid = by_test (x.request.cid == cid) (found-own xs cid)
  where
    by_test : (b : Bool) → find (λ (o : Outstanding). o.cid == cid) (map own xs) ≡ option_map own (find (λ (s : Submission). s.request.cid == cid) xs)
        → cond b (Some (own x)) (find (λ (o : Outstanding). o.cid == cid) (map own xs)) ≡ option_map own (cond b (Some x) (find (λ (s : Submission). s.request.cid == cid) xs))
    by_test true later = refl
    by_test false later = later

new-named : (w : World) (host cid : ℕ) (cmd : Command) (ordinal : ℕ) → IsLinked w
    → named_by (looked_up (requests_of w.submits ++ request_of w host cid ordinal cmd ∷ [])) (request_of w host cid ordinal cmd) cmd ≡ naming_of (outstanding_in w.submits host) ordinal cmd
new-named w host cid (command.Abort other) ordinal linked =
    ap (λ (o : Option ℕ). let n : Naming = record { abort = ordinal; named = o } in n ∷ [])
    (by_found (outstanding_under w.submits host other) refl
    ∙ sym (ap (λ (o : Option Outstanding). option_map (λ (x : Outstanding). x.ordinal) o) (found-own (outstanding_of w.submits host) other)))
  where
    new : Request
    new = request_of w host cid ordinal (command.Abort other)

    look : Lookup
    look = looked_up (requests_of w.submits ++ request_of w host cid ordinal (command.Abort other) ∷ [])

    by_found : (o : Option Submission) → outstanding_under w.submits host other ≡ o
        → option_map (λ (r : Request). r.ordinal) (option_and_then (looked_up (requests_of w.submits ++ request_of w host cid ordinal (command.Abort other) ∷ [])) (option_map (λ (s : Submission). s.request.place) o))
        ≡ option_map (λ (x : Outstanding). x.ordinal) (option_map own o)
    by_found None found = refl
    by_found (Some s) found =
        let self = under-each (λ (x : Submission). submit_at w.submits x.request.place ≡ Some x) w.submits host other s (self-found w linked) found in
        let there : looked_up (requests_of w.submits) s.request.place ≡ Some s.request =
        sym (look-same w.submits s.request.place) ∙ ap (λ (o : Option Submission). option_map (λ (x : Submission). x.request) o) self in
        ap (λ (o : Option Request). option_map (λ (r : Request). r.ordinal) o) (find-push _ (requests_of w.submits) (request_of w host cid ordinal (command.Abort other)) s.request there)
new-named w host cid cmd ordinal linked = refl

-- the names after a submit
pub names-submit : (w : World) (by cid ordinal : ℕ) (cmd : Command) (host : ℕ) → IsLinked w
    → (let new : Submission = record { request = request_of w by cid ordinal cmd; stage = Queued } in names_in (w.submits ++ new ∷ []) host (w.submits ++ new ∷ []))
    ≡ names_in w.submits host w.submits ++ (if by == host then naming_of (outstanding_in w.submits by) ordinal cmd else [])
names-submit w by cid ordinal cmd host linked =
    let request : Request = request_of w by cid ordinal cmd in
    let new : Submission = record { request = request_of w by cid ordinal cmd; stage = Queued } in
    names-same (w.submits ++ new ∷ []) host (w.submits ++ new ∷ [])
    ∙ (ap (λ (rs : List Request). names_by (looked_up rs) host rs) (requests-push w.submits new)
    ∙ (names-push (requests_of w.submits) request host linked.names linked.places.below
    ∙ ap₂ (λ (xs ys : List Naming). xs ++ (if by == host then ys else [])) (sym (names-same w.submits host w.submits)) (new-named w by cid cmd ordinal linked)))

-- the names where the requests are the same
pub names-stay : (old new : List Submission) (host : ℕ) → requests_of new ≡ requests_of old → names_in new host new ≡ names_in old host old
names-stay old new host same =
    names-same new host new ∙ (ap (λ (rs : List Request). names_by (looked_up rs) host rs) same ∙ sym (names-same old host old))

-- ---- how many commands a host has submitted

count-own : (submits : List Submission) (host : ℕ) → length (submits_of submits host) ≡ length (filter (λ (r : Request). r.host == host) (requests_of submits))
count-own [] host = refl
count-own (s ∷ submits) host = by_test (s.request.host == host) (count-own submits host)
  where
    by_test : (b : Bool) → length (submits_of submits host) ≡ length (filter (λ (r : Request). r.host == host) (requests_of submits))
        → length (cond b (s ∷ submits_of submits host) (submits_of submits host))
        ≡ length (cond b (s.request ∷ filter (λ (r : Request). r.host == host) (requests_of submits)) (filter (λ (r : Request). r.host == host) (requests_of submits)))
    by_test true later = ap suc later
    by_test false later = later

pub count-stays : (old new : List Submission) (host : ℕ) → requests_of new ≡ requests_of old → length (submits_of new host) ≡ length (submits_of old host)
count-stays old new host same =
    count-own new host ∙ (ap (λ (rs : List Request). length (filter (λ (r : Request). r.host == host) rs)) same ∙ sym (count-own old host))

pub submits-append : (xs ys : List Submission) (host : ℕ) → submits_of (xs ++ ys) host ≡ submits_of xs host ++ submits_of ys host
submits-append [] ys host = refl
submits-append (x ∷ xs) ys host = by_test (x.request.host == host) (submits-append xs ys host)
  where
    by_test : (b : Bool) → submits_of (xs ++ ys) host ≡ submits_of xs host ++ submits_of ys host
        → cond b (x ∷ submits_of (xs ++ ys) host) (submits_of (xs ++ ys) host) ≡ cond b (x ∷ submits_of xs host) (submits_of xs host) ++ submits_of ys host
    by_test true later = ap (λ (zs : List Submission). x ∷ zs) later
    by_test false later = later
