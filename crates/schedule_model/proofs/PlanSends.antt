-- The commands of a plan, host by host.
use Rattle.std.proofs.Common.{◌≡◌, ℕ, ◌+◌, ◌==◌, Bool, true, false, not, cond, if◌then◌else◌, List, [], ◌∷◌, ◌++◌, append-nil, append_assoc, map, filter, refl, sym, ap, subst, ◌∙◌, arith}
use Rattle.std.specs.List.{AllByRecursion}
use Rattle.std.specs.Prelude.{IsPermutation, count_by, ◌≢◌}
use Rattle.std.proofs.lemmas.Bool.{true≢false}
use Rattle.std.proofs.lemmas.List.Sorted.{IsPermutation-refl, IsPermutation-trans, IsPermutation-append, IsPermutation-filter_both}
use Rattle.std.proofs.lemmas.List.Sums.{sum_by-append, sum_by-cons}
use Rattle.script_cmds.specs.declared.item.HostPart.{HostPart}
use Rattle.script_cmds.specs.Hosts.{hosts_of}
use Rattle.history_model.specs.Plain.{PlainItem, PlainPart, plain_items, plain_parts}
use Rattle.history_model.specs.Rules.{KeepsQueue}
use Rattle.history_model.specs.Sent.{Sent, Waiting, next_ordinal, sends_of_items, sends_of_parts}
use Rattle.history_model.proofs.Every.{Pairwise}
use Rattle.trail_model.proofs.Submits.{eqb-same, same-eqb, other-eqb}
use Rattle.schedule_model.specs.Deeds.{IsHost, items_in_phase}
use Rattle.schedule_model.proofs.Items.{Standing, after-append, after_items, begun, ends-empty, of_host, sends-of-items, sends_by}

-- ---- the parts of a phase, each from its host's standing

abbrev pub sends_in_parts : ℕ → (ℕ → Standing) → List HostPart → List Sent
sends_in_parts phase A [] = []
sends_in_parts phase A (part ∷ parts) = sends_by part.host phase (A part.host) (plain_items part.items) ++ sends_in_parts phase A parts

-- a standing at the begin of a phase
pub record Begins (earlier : List Sent) (host : ℕ) (a : Standing) : Type 0 where
  pub ordinal : a.ordinal ≡ next_ordinal host earlier
  pub waiting : a.waiting ≡ []
  pub taken : a.taken ≡ []

-- what a host sends counts only for it
none-counted : (host other phase : ℕ) (a : Standing) (items : List PlainItem) → (other == host) ≡ false → count_by (λ (s : Sent). s.host == host) (sends_by other phase a items) ≡ 0
none-counted host other phase a items differ = counted (sends_by other phase a items) (own items a)
  where
    own : (items : List PlainItem) (a : Standing) → AllByRecursion (λ (s : Sent). (s.host == host) ≡ false) (sends_by other phase a items)
    own [] a = tt
    own (Rattle.history_model.specs.Plain.Sends cid cmd ∷ items) a = (differ, own items _)
    own (Rattle.history_model.specs.Plain.Takes cid ∷ items) a = own items _

    counted : (sents : List Sent) → AllByRecursion (λ (s : Sent). (s.host == host) ≡ false) sents → count_by (λ (s : Sent). s.host == host) sents ≡ 0
    counted [] all = refl
    counted (s ∷ sents) all =
        sum_by-cons (λ (x : Sent). cond (x.host == host) 1 0) s sents
        ∙ (ap (λ (b : Bool). cond {A = ℕ} b 1 0 + count_by (λ (x : Sent). x.host == host) sents) all.0 ∙ (let h = counted sents all.1 in omega arith))

counted-append : (host : ℕ) (xs ys : List Sent) → count_by (λ (s : Sent). s.host == host) (xs ++ ys) ≡ count_by (λ (s : Sent). s.host == host) xs + count_by (λ (s : Sent). s.host == host) ys
counted-append host xs ys = sum_by-append (λ (s : Sent). cond (s.host == host) 1 0) xs ys

pub sends-of-parts : (phase : ℕ) (earlier : List Sent) (A : ℕ → Standing) (parts : List HostPart) → Pairwise (λ a b. a ≢ b) (hosts_of parts)
    → AllByRecursion (λ (part : HostPart). Begins earlier part.host (A part.host)) parts
    → sends_of_parts phase earlier parts ≡ earlier ++ sends_in_parts phase A parts
sends-of-parts phase earlier A [] differ begins = sym (append-nil earlier)
sends-of-parts phase earlier A (part ∷ parts) differ begins =
    let new : List Sent = sends_of_items part.host phase (next_ordinal part.host earlier) [] [] part.items in
    let is : new ≡ sends_by part.host phase (A part.host) (plain_items part.items) =
    sends-of-items part.host phase (next_ordinal part.host earlier) [] [] (A part.host).ever part.items
    ∙ ap (λ (a : Standing). sends_by part.host phase a (plain_items part.items))
    (λ i. begun (sym begins.0.ordinal i) (sym begins.0.waiting i) (sym begins.0.taken i) (A part.host).ever) in
    sends-of-parts phase (earlier ++ new) A parts differ.1 (still new is parts differ.0 begins.1)
    ∙ (append_assoc earlier new (sends_in_parts phase A parts)
    ∙ ap (λ (xs : List Sent). earlier ++ (xs ++ sends_in_parts phase A parts)) is)
  where
    still : (new : List Sent) → new ≡ sends_by part.host phase (A part.host) (plain_items part.items) → (more : List HostPart)
        → AllByRecursion (λ host. part.host ≢ host) (hosts_of more) → AllByRecursion (λ (p : HostPart). Begins earlier p.host (A p.host)) more
        → AllByRecursion (λ (p : HostPart). Begins (earlier ++ new) p.host (A p.host)) more
    still new is [] differ begins = tt
    still new is (p ∷ more) differ begins =
        let none : count_by (λ (s : Sent). s.host == p.host) new ≡ 0 =
        ap (λ (xs : List Sent). count_by (λ (s : Sent). s.host == p.host) xs) is
        ∙ none-counted p.host part.host phase (A part.host) (plain_items part.items) (other-eqb part.host p.host differ.0) in (
          record {
            ordinal = begins.0.ordinal ∙ (let h = counted-append p.host earlier new in omega arith);
            waiting = begins.0.waiting;
            taken = begins.0.taken;
          },
          still new is more differ.1 begins.1,
        )

-- ---- equal host by host

no-host : (phase : ℕ) (sents : List Sent) → AllByRecursion (λ (s : Sent). IsHost s.host) sents → ((host : ℕ) → IsHost host → of_host host sents ≡ []) → sents ≡ []
no-host phase [] hosts none = refl
no-host phase (s ∷ sents) hosts none =
    let here = none s.host hosts.0 in
    let there : of_host s.host (s ∷ sents) ≡ s ∷ of_host s.host sents = ap (λ (b : Bool). cond b (s ∷ of_host s.host sents) (of_host s.host sents)) (same-eqb s.host s.host refl) in
    absurd (nonempty s (of_host s.host sents) (sym there ∙ here))
  where
    nonempty : (x : Sent) (xs : List Sent) → x ∷ xs ≡ [] → ⊥
    nonempty x xs e = cc

each-kept : (P : Sent → Type 0) (test : Sent → Bool) (xs : List Sent) → AllByRecursion P xs → AllByRecursion P (filter test xs)
each-kept P test [] all = tt
each-kept P test (x ∷ xs) all = by_test (test x) (each-kept P test xs all.1)
  where
    by_test : (b : Bool) → AllByRecursion P (filter test xs) → AllByRecursion P (cond b (x ∷ filter test xs) (filter test xs))
    by_test true later = (all.0, later)
    by_test false later = later

-- the commands of other hosts, and of this one, among those that are not another's
others-kept : (host other : ℕ) (xs : List Sent) → (host ≡ other → ⊥) → of_host host (filter (λ (s : Sent). not (s.host == other)) xs) ≡ of_host host xs
others-kept host other [] differ = refl
others-kept host other (x ∷ xs) differ = by_test (x.host == other) refl (others-kept host other xs differ)
  where
    by_test : (b : Bool) → (x.host == other) ≡ b → of_host host (filter (λ (s : Sent). not (s.host == other)) xs) ≡ of_host host xs
        → of_host host (cond (not b) (x ∷ filter (λ (s : Sent). not (s.host == other)) xs) (filter (λ (s : Sent). not (s.host == other)) xs)) ≡ of_host host (x ∷ xs)
    by_test true h later =
        let no : (x.host == host) ≡ false = other-eqb x.host host (λ e. differ (sym e ∙ eqb-same x.host other h)) in
        later ∙ sym (ap (λ (b : Bool). cond b (x ∷ of_host host xs) (of_host host xs)) no)
    by_test false h later = ap (λ (ys : List Sent). cond (x.host == host) (x ∷ ys) ys) later

none-kept : (other : ℕ) (xs : List Sent) → of_host other (filter (λ (s : Sent). not (s.host == other)) xs) ≡ []
none-kept other [] = refl
none-kept other (x ∷ xs) = by_test (x.host == other) refl (none-kept other xs)
  where
    by_test : (b : Bool) → (x.host == other) ≡ b → of_host other (filter (λ (s : Sent). not (s.host == other)) xs) ≡ []
        → of_host other (cond (not b) (x ∷ filter (λ (s : Sent). not (s.host == other)) xs) (filter (λ (s : Sent). not (s.host == other)) xs)) ≡ []
    by_test true h later = later
    by_test false h later = ap (λ (b : Bool). cond b (x ∷ of_host other (filter (λ (s : Sent). not (s.host == other)) xs)) (of_host other (filter (λ (s : Sent). not (s.host == other)) xs))) h ∙ later

-- a host that has no part has no items
no-items : (host : ℕ) (parts : List HostPart) → AllByRecursion (λ h. host ≢ h) (hosts_of parts) → items_in_phase host (plain_parts parts) ≡ []
no-items host [] differ = refl
no-items host (part ∷ parts) differ =
    ap (λ (b : Bool). (if b then plain_items part.items else []) ++ items_in_phase host (plain_parts parts)) (other-eqb part.host host (λ e. differ.0 (sym e)))
    ∙ no-items host parts differ.1

pub host-by-host : (phase : ℕ) (A : ℕ → Standing) (parts : List HostPart) (sents : List Sent) → Pairwise (λ a b. a ≢ b) (hosts_of parts)
    → AllByRecursion IsHost (hosts_of parts) → AllByRecursion (λ (s : Sent). IsHost s.host) sents
    → ((host : ℕ) → IsHost host → of_host host sents ≡ sends_by host phase (A host) (items_in_phase host (plain_parts parts)))
    → IsPermutation sents (sends_in_parts phase A parts)
host-by-host phase A [] sents differ numbers hosts same = subst (λ (xs : List Sent). IsPermutation xs []) (sym (no-host phase sents hosts same)) (IsPermutation-refl [])
host-by-host phase A (part ∷ parts) sents differ numbers hosts same =
    let rest : List Sent = filter (λ (s : Sent). not (s.host == part.host)) sents in
    let own : of_host part.host sents ≡ sends_by part.host phase (A part.host) (plain_items part.items) =
    same part.host numbers.0 ∙ ap (λ (items : List PlainItem). sends_by part.host phase (A part.host) items)
    (ap (λ (b : Bool). (if b then plain_items part.items else []) ++ items_in_phase part.host (plain_parts parts)) (same-eqb part.host part.host refl)
    ∙ (ap (λ (items : List PlainItem). plain_items part.items ++ items) (no-items part.host parts differ.0) ∙ append-nil (plain_items part.items))) in
    let later : IsPermutation rest (sends_in_parts phase A parts) =
    host-by-host phase A parts rest differ.1 numbers.1 (each-kept (λ (s : Sent). IsHost s.host) (λ (s : Sent). not (s.host == part.host)) sents hosts)
    (λ host is. by_host host is (host == part.host) refl) in
    IsPermutation-trans sents (of_host part.host sents ++ rest) (sends_by part.host phase (A part.host) (plain_items part.items) ++ sends_in_parts phase A parts)
    (split sents)
    (subst (λ (xs : List Sent). IsPermutation (of_host part.host sents ++ rest) (xs ++ sends_in_parts phase A parts)) own
    (IsPermutation-append (of_host part.host sents) (of_host part.host sents) rest (sends_in_parts phase A parts) (IsPermutation-refl (of_host part.host sents)) later))
  where
    split : (xs : List Sent) → IsPermutation xs (of_host part.host xs ++ filter (λ (s : Sent). not (s.host == part.host)) xs)
    split xs = IsPermutation-filter_both (λ (s : Sent). s.host == part.host) (λ (s : Sent). not (s.host == part.host)) (λ x. refl) xs

    by_host : (host : ℕ) → IsHost host → (b : Bool) → (host == part.host) ≡ b
        → of_host host (filter (λ (s : Sent). not (s.host == part.host)) sents) ≡ sends_by host phase (A host) (items_in_phase host (plain_parts parts))
    by_host host is true h =
        let e : host ≡ part.host = eqb-same host part.host h in
        ap (λ (n : ℕ). of_host n (filter (λ (s : Sent). not (s.host == part.host)) sents)) e
        ∙ (none-kept part.host sents
        ∙ (sym (ap (λ (items : List PlainItem). sends_by part.host phase (A part.host) items) (no-items part.host parts differ.0))
        ∙ sym (ap (λ (n : ℕ). sends_by n phase (A n) (items_in_phase n (plain_parts parts))) e)))
    by_host host is false h =
        let no : host ≡ part.host → ⊥ = λ e. true≢false (sym (same-eqb host part.host e) ∙ h) in
        others-kept host part.host sents no
        ∙ (same host is
        ∙ ap (λ (b : Bool). sends_by host phase (A host) ((if b then plain_items part.items else []) ++ items_in_phase host (plain_parts parts)))
        (other-eqb part.host host (λ e. no (sym e))))

-- ---- nothing waits at the end of a phase

pub phase-ends-empty : (depth host : ℕ) (a : Standing) (parts : List HostPart) → AllByRecursion (λ (part : HostPart). KeepsQueue depth [] part.items) parts → a.waiting ≡ []
    → (after_items a (items_in_phase host (plain_parts parts))).waiting ≡ []
phase-ends-empty depth host a [] keeps empty = empty
phase-ends-empty depth host a (part ∷ parts) keeps empty =
    by_host (part.host == host) (λ (b : Standing) (none : b.waiting ≡ []). phase-ends-empty depth host b parts keeps.1 none)
  where
    by_host : (b : Bool) → ((x : Standing) → x.waiting ≡ [] → (after_items x (items_in_phase host (plain_parts parts))).waiting ≡ [])
        → (after_items a ((if b then plain_items part.items else []) ++ items_in_phase host (plain_parts parts))).waiting ≡ []
    by_host true later =
        ap (λ (x : Standing). x.waiting) (after-append a (plain_items part.items) (items_in_phase host (plain_parts parts)))
        ∙ later (after_items a (plain_items part.items))
        (ends-empty depth [] a part.items (ap (map (λ (w : Waiting). w.cid)) empty) keeps.0)
    by_host false later = later a empty
