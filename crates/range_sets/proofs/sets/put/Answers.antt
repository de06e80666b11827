-- The first free place is that of the least free number.
use Rattle.std.proofs.Common.{◌≡◌, ℕ, ◌+◌, ◌<◌, List, Option, None, Some, true, is_none, length, get_or, sym, ◌∙◌, arith, ap}
use Rattle.std.specs.List.{position}
use Rattle.std.proofs.lemmas.List.Quantifiers.{position-Some}
use Rattle.cp_base.specs.declared.lists.MemRange.{MemRange}
use Rattle.range_sets.proofs.Numbering.{fewer, full_table, least_free, with_set_at}
use Rattle.range_sets.proofs.sets.put.Goals as goal

-- a place that is the first free one
record IsFirstFree (ps : List (Option (List MemRange))) (i : ℕ) : Type 0 where
  within : i < length ps
  free : is_none (get_or ps i None) ≡ true

first_free : (ps : List (Option (List MemRange))) (i : ℕ) → position (λ place. is_none place) ps ≡ Some i → IsFirstFree ps i
first_free ps i e = let here = position-Some (λ (place : Option (List MemRange)). is_none place) ps i None e in record { within = here.0; free = here.1 }

-- the answer that was found in the same places
of_same : (ps qs : List (Option (List MemRange))) (found answer : Option ℕ) → qs ≡ ps → found ≡ position (λ place. is_none place) qs → found ≡ answer
    → position (λ place. is_none place) ps ≡ answer
of_same ps qs found answer e f g = ap (λ (places : List (Option (List MemRange))). position (λ place. is_none place) places) (sym e) ∙ sym f ∙ g

pub returns-in_err-place-clause-full : goal.returns-in_err-place-clause-full
returns-in_err-place-clause-full c =
    let many = full_table c.args.places.now.items (of_same _ _ _ _ c.deref.ensures.value c.free_place.ensures c.in_err-place.was) in
    rw c.from_residual.ensures (rw c.requires at many)

pub overflow_cast-result : goal.overflow_cast-result
overflow_cast-result c =
    let here = first_free c.args.places.now.items c.in_ok-place.place (of_same _ _ _ _ c.deref.ensures.value c.free_place.ensures c.in_ok-place.was) in
    omega (arith, here.within, c.requires)

pub overflow_add-result : goal.overflow_add-result
overflow_add-result c =
    let here = first_free c.args.places.now.items c.in_ok-place.place (of_same _ _ _ _ c.deref.ensures.value c.free_place.ensures c.in_ok-place.was) in
    omega (arith, here.within, c.requires)

pub returns-clause-number : goal.returns-clause-number
returns-clause-number c = least_free c.args.places.now.items c.in_ok-place.place c.requires (of_same _ _ _ _ c.deref.ensures.value c.free_place.ensures c.in_ok-place.was)

pub returns-clause-room : goal.returns-clause-room
returns-clause-room c =
    let here = first_free c.args.places.now.items c.in_ok-place.place (of_same _ _ _ _ c.deref.ensures.value c.free_place.ensures c.in_ok-place.was) in
    let less = fewer 1 c.in_ok-place.place c.args.places.now.items here.within here.free in
    omega (arith, c.requires)

pub returns-clause-added : goal.returns-clause-added
returns-clause-added c =
    let here = first_free c.args.places.now.items c.in_ok-place.place (of_same _ _ _ _ c.deref.ensures.value c.free_place.ensures c.in_ok-place.was) in
    sym (with_set_at 1 c.in_ok-place.place (c.in_ok-place.place + 1) c.args.places.now.items c.args.ranges (omega arith) here.within here.free)
