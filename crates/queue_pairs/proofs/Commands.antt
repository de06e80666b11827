-- Commands under their identifiers and places, whose identifiers differ.
use Rattle.std.proofs.Common.{◌≡◌, ℕ, zero, suc, ◌+◌, ◌<◌, ◌≤◌, Bool, true, false, cond, eqb, not, ◌||◌, List, [], ◌∷◌, Option, Some, None, IsSome, length, get_or, set, sym, refl, ap, ◌∙◌, subst, nat_lt, ⊎_elim, arith}
use Rattle.std.specs.List.{position, prefix_len, remove}
use Rattle.std.proofs.lemmas.Bool.{cases_Bool, cond-false, cond-true, eq-eqb, eqb-false, eqb-true, false≢true, ltb-false, ne_eqb, or_from, or_parts}
use Rattle.std.proofs.lemmas.List.Folds.{list_any-append}
use Rattle.std.proofs.lemmas.List.Quantifiers.{position-Some}
use Rattle.std.proofs.lemmas.Option.{none-some, same_Some}
use Rattle.queue_pairs.specs.Outstanding.{CidsDiffer, is_busy, under, with_sent, with_stage, without_cid}
use Rattle.queue_pairs.specs.Places.{PlacesDiffer, is_sent_at, restaged, without_sent}
use Rattle.queue_pairs.specs.declared.command.Outstanding.{Outstanding}
use Rattle.queue_pairs.specs.declared.command.Stage.{Stage}
use Rattle.queue_pairs.specs.declared.command.Stage.TheVariants.{Queued}

-- a stage given to nobody changes nothing
stage_of_none : (os : List Outstanding) (cid : ℕ) (s : Stage) → is_busy os cid ≡ false → with_stage os cid s ≡ os
stage_of_none [] cid s none = refl
stage_of_none (o ∷ os) cid s none =
    let parts = or_parts (eqb o.cid cid) (is_busy os cid) none in
    rw parts.0 (ap (λ (rest : List Outstanding). o ∷ rest) (stage_of_none os cid s parts.1))

-- without nobody all stay
without_none : (os : List Outstanding) (cid : ℕ) → is_busy os cid ≡ false → without_cid os cid ≡ os
without_none [] cid none = refl
without_none (o ∷ os) cid none =
    let parts = or_parts (eqb o.cid cid) (is_busy os cid) none in
    rw parts.0 (ap (λ (rest : List Outstanding). o ∷ rest) (without_none os cid parts.1))

stage_of_no_place : (os : List Outstanding) (place : ℕ) (s : Stage) → is_sent_at os place ≡ false → restaged os place s ≡ os
stage_of_no_place [] place s none = refl
stage_of_no_place (o ∷ os) place s none =
    let parts = or_parts (eqb o.sent place) (is_sent_at os place) none in
    rw parts.0 (ap (λ (rest : List Outstanding). o ∷ rest) (stage_of_no_place os place s parts.1))

without_no_place : (os : List Outstanding) (place : ℕ) → is_sent_at os place ≡ false → without_sent os place ≡ os
without_no_place [] place none = refl
without_no_place (o ∷ os) place none =
    let parts = or_parts (eqb o.sent place) (is_sent_at os place) none in
    rw parts.0 (ap (λ (rest : List Outstanding). o ∷ rest) (without_no_place os place parts.1))

-- the first command under an identifier is at an index
pub record IsAt (os : List Outstanding) (cid i : ℕ) (d : Outstanding) : Type 0 where
  pub within : i < length os
  pub here : eqb (get_or os i d).cid cid ≡ true
  pub before : (k : ℕ) → k < i → eqb (get_or os k d).cid cid ≡ false

pub at_position : (os : List Outstanding) (cid i : ℕ) (d : Outstanding) → position (λ command. eqb command.cid cid) os ≡ Some i → IsAt os cid i d
at_position os cid i d e =
    let parts = position-Some (λ (command : Outstanding). eqb command.cid cid) os i d e in
    record { within = parts.0; here = parts.1; before = parts.2 }

later : (o : Outstanding) (os : List Outstanding) (cid i : ℕ) (d : Outstanding) → IsAt (o ∷ os) cid (suc i) d → IsAt os cid i d
later o os cid i d at = record { within = omega (arith, at.within); here = at.here; before = λ k h. at.before (suc k) (omega arith) }

-- no other command is under the identifier of the first one
alone : (o : Outstanding) (os : List Outstanding) (cid : ℕ) → is_busy os o.cid ≡ false → eqb o.cid cid ≡ true → is_busy os cid ≡ false
alone o os cid none e = subst (λ (n : ℕ). is_busy os n ≡ false) (eqb-true o.cid cid e) none

-- the stage at the index is that of the identifier
pub with_stage_at : (os : List Outstanding) (cid i : ℕ) (d : Outstanding) (s : Stage) → CidsDiffer os → IsAt os cid i d
    → set os i (record (get_or os i d) { stage = s }) ≡ with_stage os cid s
with_stage_at [] cid i d s differ at = absurd (omega (arith, at.within))
with_stage_at (o ∷ os) cid zero d s differ at =
    rw at.here (ap (λ (rest : List Outstanding). record o { stage = s } ∷ rest) (sym (stage_of_none os cid s (alone o os cid differ.0 at.here))))
with_stage_at (o ∷ os) cid (suc i) d s differ at =
    rw (at.before 0 (omega arith)) (ap (λ (rest : List Outstanding). o ∷ rest) (with_stage_at os cid i d s differ.1 (later o os cid i d at)))

-- what is left without the index is what is left without the identifier
pub without_at : (os : List Outstanding) (cid i : ℕ) (d : Outstanding) → CidsDiffer os → IsAt os cid i d → remove os i ≡ without_cid os cid
without_at [] cid i d differ at = absurd (omega (arith, at.within))
without_at (o ∷ os) cid zero d differ at = rw at.here (sym (without_none os cid (alone o os cid differ.0 at.here)))
without_at (o ∷ os) cid (suc i) d differ at =
    rw (at.before 0 (omega arith)) (ap (λ (rest : List Outstanding). o ∷ rest) (without_at os cid i d differ.1 (later o os cid i d at)))

-- the command under the identifier is the one at the index
pub under_at : (os : List Outstanding) (cid i : ℕ) (d : Outstanding) → IsAt os cid i d → under os cid ≡ Some (get_or os i d)
under_at [] cid i d at = absurd (omega (arith, at.within))
under_at (o ∷ os) cid zero d at = rw at.here refl
under_at (o ∷ os) cid (suc i) d at = rw (at.before 0 (omega arith)) (under_at os cid i d (later o os cid i d at))

pub busy_at : (os : List Outstanding) (cid i : ℕ) (d : Outstanding) → IsAt os cid i d → is_busy os cid ≡ true
busy_at [] cid i d at = absurd (omega (arith, at.within))
busy_at (o ∷ os) cid zero d at = rw at.here refl
busy_at (o ∷ os) cid (suc i) d at = rw (at.before 0 (omega arith)) (busy_at os cid i d (later o os cid i d at))

-- where no index is found none is under the identifier
counted : (n m : ℕ) (b : Bool) → b ≡ nat_lt n m → cond b (Some n) None ≡ None → m ≤ n
counted n m true e none = absurd (cc)
counted n m false e none = ltb-false n m (sym e)

free_step : (b : Bool) (os : List Outstanding) (cid n : ℕ) → suc (length os) ≤ cond (not b) (1 + n) 0 → (length os ≤ n → is_busy os cid ≡ false)
    → (b || is_busy os cid) ≡ false
free_step true os cid n h more = absurd (omega (arith, h))
free_step false os cid n h more = more (omega (arith, h))

free_from : (os : List Outstanding) (cid : ℕ) → length os ≤ prefix_len (λ (command : Outstanding). not (eqb command.cid cid)) os → is_busy os cid ≡ false
free_from [] cid h = refl
free_from (o ∷ os) cid h = free_step (eqb o.cid cid) os cid (prefix_len (λ (command : Outstanding). not (eqb command.cid cid)) os) h (free_from os cid)

pub free_without_position : (os : List Outstanding) (cid : ℕ) → position (λ command. eqb command.cid cid) os ≡ None → is_busy os cid ≡ false
free_without_position os cid e = free_from os cid (counted (prefix_len (λ (command : Outstanding). not (eqb command.cid cid)) os) (length os) _ refl e)

pub none_under : (os : List Outstanding) (cid : ℕ) → is_busy os cid ≡ false → under os cid ≡ None
none_under [] cid none = refl
none_under (o ∷ os) cid none =
    let parts = or_parts (eqb o.cid cid) (is_busy os cid) none in
    rw parts.0 (none_under os cid parts.1)

-- the identifiers still differ with one more command
other_way : (m n : ℕ) → eqb m n ≡ false → eqb n m ≡ false
other_way m n e = ne_eqb n m (λ same. eqb-false m n e (sym same))

pub differ_with_sent : (os : List Outstanding) (cid sent : ℕ) → CidsDiffer os → is_busy os cid ≡ false → CidsDiffer (with_sent os cid sent)
differ_with_sent [] cid sent differ none = (refl, tt)
differ_with_sent (o ∷ os) cid sent differ none =
    let parts = or_parts (eqb o.cid cid) (is_busy os cid) none in
    let more = list_any-append (λ (command : Outstanding). eqb command.cid o.cid) os (record { cid = cid; sent = sent; stage = Queued } ∷ []) in
    let last : (eqb cid o.cid || false) ≡ false = or_from (eqb cid o.cid) false (other_way o.cid cid parts.0) refl in
    (more ∙ or_from _ _ differ.0 last, differ_with_sent os cid sent differ.1 parts.1)

-- with another stage of one of them
staged_cid : (b : Bool) (o : Outstanding) (s : Stage) → (cond b (record o { stage = s }) o).cid ≡ o.cid
staged_cid true o s = refl
staged_cid false o s = refl

busy_staged : (os : List Outstanding) (cid : ℕ) (s : Stage) (n : ℕ) → is_busy (with_stage os cid s) n ≡ is_busy os n
busy_staged [] cid s n = refl
busy_staged (o ∷ os) cid s n =
    ap (λ (m : ℕ). eqb m n || is_busy (with_stage os cid s) n) (staged_cid (eqb o.cid cid) o s)
    ∙ ap (λ (found : Bool). eqb o.cid n || found) (busy_staged os cid s n)

pub differ_staged : (os : List Outstanding) (cid : ℕ) (s : Stage) → CidsDiffer os → CidsDiffer (with_stage os cid s)
differ_staged [] cid s differ = tt
differ_staged (o ∷ os) cid s differ =
    (ap (is_busy (with_stage os cid s)) (staged_cid (eqb o.cid cid) o s) ∙ busy_staged os cid s o.cid ∙ differ.0, differ_staged os cid s differ.1)

-- and without one of them
kept_free : (b : Bool) (o : Outstanding) (os : List Outstanding) (n : ℕ) → eqb o.cid n ≡ false → is_busy os n ≡ false → is_busy (cond b (o ∷ os) os) n ≡ false
kept_free true o os n here rest = or_from (eqb o.cid n) (is_busy os n) here rest
kept_free false o os n here rest = rest

free_without : (os : List Outstanding) (cid n : ℕ) → is_busy os n ≡ false → is_busy (without_cid os cid) n ≡ false
free_without [] cid n none = refl
free_without (o ∷ os) cid n none =
    let parts = or_parts (eqb o.cid n) (is_busy os n) none in
    kept_free (not (eqb o.cid cid)) o (without_cid os cid) n parts.0 (free_without os cid n parts.1)

kept_apart : (b : Bool) (o : Outstanding) (os : List Outstanding) → is_busy os o.cid ≡ false → CidsDiffer os → CidsDiffer (cond b (o ∷ os) os)
kept_apart true o os here rest = (here, rest)
kept_apart false o os here rest = rest

pub differ_without : (os : List Outstanding) (cid : ℕ) → CidsDiffer os → CidsDiffer (without_cid os cid)
differ_without [] cid differ = tt
differ_without (o ∷ os) cid differ =
    kept_apart (not (eqb o.cid cid)) o (without_cid os cid) (free_without os cid o.cid differ.0) (differ_without os cid differ.1)

-- a command among others was submitted at no place where none of them was
sent_elsewhere : (os : List Outstanding) (cid place : ℕ) (o : Outstanding) → under os cid ≡ Some o → is_sent_at os place ≡ false → eqb o.sent place ≡ false
sent_elsewhere [] cid place o found none = absurd (none-some o found)
sent_elsewhere (p ∷ os) cid place o found none =
    let parts = or_parts (eqb p.sent place) (is_sent_at os place) none in
    ⊎_elim
    (λ (yes : eqb p.cid cid ≡ true). let same = same_Some p o (sym (cond-true (eqb p.cid cid) (Some p) (under os cid) yes) ∙ found) in
    subst (λ (x : Outstanding). eqb x.sent place ≡ false) same parts.0)
    (λ (no : eqb p.cid cid ≡ false). sent_elsewhere os cid place o (sym (cond-false (eqb p.cid cid) (Some p) (under os cid) no) ∙ found) parts.1)
    (cases_Bool (eqb p.cid cid))

-- the words by an identifier are those by the place of its command
pub staged_by_place : (os : List Outstanding) (cid : ℕ) (s : Stage) (o : Outstanding) → CidsDiffer os → PlacesDiffer os → under os cid ≡ Some o
    → with_stage os cid s ≡ restaged os o.sent s
staged_by_place [] cid s o differ apart found = refl
staged_by_place (p ∷ os) cid s o differ apart found =
    ⊎_elim
    (λ (yes : eqb p.cid cid ≡ true).
    let same = same_Some p o (sym (cond-true (eqb p.cid cid) (Some p) (under os cid) yes) ∙ found) in
    let here : eqb p.sent o.sent ≡ true = eq-eqb p.sent o.sent (ap (λ (x : Outstanding). x.sent) same) in
    let none : is_sent_at os o.sent ≡ false = subst (λ (x : Outstanding). is_sent_at os x.sent ≡ false) same apart.0 in
    rw (yes, here) (ap (λ (rest : List Outstanding). record p { stage = s } ∷ rest)
    (stage_of_none os cid s (alone p os cid differ.0 yes) ∙ sym (stage_of_no_place os o.sent s none))))
    (λ (no : eqb p.cid cid ≡ false).
    let rest = sym (cond-false (eqb p.cid cid) (Some p) (under os cid) no) ∙ found in
    let elsewhere : eqb p.sent o.sent ≡ false = other_way o.sent p.sent (sent_elsewhere os cid p.sent o rest apart.0) in
    rw (no, elsewhere) (ap (λ (more : List Outstanding). p ∷ more) (staged_by_place os cid s o differ.1 apart.1 rest)))
    (cases_Bool (eqb p.cid cid))

pub without_by_place : (os : List Outstanding) (cid : ℕ) (o : Outstanding) → CidsDiffer os → PlacesDiffer os → under os cid ≡ Some o
    → without_cid os cid ≡ without_sent os o.sent
without_by_place [] cid o differ apart found = refl
without_by_place (p ∷ os) cid o differ apart found =
    ⊎_elim
    (λ (yes : eqb p.cid cid ≡ true).
    let same = same_Some p o (sym (cond-true (eqb p.cid cid) (Some p) (under os cid) yes) ∙ found) in
    let here : eqb p.sent o.sent ≡ true = eq-eqb p.sent o.sent (ap (λ (x : Outstanding). x.sent) same) in
    let none : is_sent_at os o.sent ≡ false = subst (λ (x : Outstanding). is_sent_at os x.sent ≡ false) same apart.0 in
    rw (yes, here) (without_none os cid (alone p os cid differ.0 yes) ∙ sym (without_no_place os o.sent none)))
    (λ (no : eqb p.cid cid ≡ false).
    let rest = sym (cond-false (eqb p.cid cid) (Some p) (under os cid) no) ∙ found in
    let elsewhere : eqb p.sent o.sent ≡ false = other_way o.sent p.sent (sent_elsewhere os cid p.sent o rest apart.0) in
    rw (no, elsewhere) (ap (λ (more : List Outstanding). p ∷ more) (without_by_place os cid o differ.1 apart.1 rest)))
    (cases_Bool (eqb p.cid cid))

-- the answer that was found among the same commands
pub position_in : (ps qs : List Outstanding) (cid : ℕ) (found answer : Option ℕ) → qs ≡ ps → found ≡ position (λ command. eqb command.cid cid) qs → found ≡ answer
    → position (λ command. eqb command.cid cid) ps ≡ answer
position_in ps qs cid found answer e f g = ap (λ (os : List Outstanding). position (λ command. eqb command.cid cid) os) (sym e) ∙ sym f ∙ g

-- a command that is outstanding has an index
pub some_index : (os : List Outstanding) (cid : ℕ) (found : Option ℕ) → position (λ command. eqb command.cid cid) os ≡ found → IsSome (under os cid) → IsSome found
some_index os cid None e h = absurd (false≢true (subst (λ (o : Option Outstanding). IsSome o) (none_under os cid (free_without_position os cid e)) h))
some_index os cid (Some i) e h = refl
