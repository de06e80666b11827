-- A front of a text after a whole text.
use Rattle.std.proofs.Common.{◌≡◌, ℕ, ◌+◌, List, ◌++◌, length, take, Option, Result, Ok, Err, OnErr, sym, subst, arith, length-append}
use Rattle.std.proofs.KnownBytes.{Appends-trans}
use Rattle.std.proofs.lemmas.Grind.{common_steps}
use Rattle.std.proofs.Math.Seq.{take-append-add}
use Rattle.std.specs.Io.KnownBytes.{Appends}
use Rattle.cp_io.specs.Sink.{AppendsFront}

-- a front of the first text is one of both
pub front_of_first : (old new : Option (List ℕ)) (xs ys : List ℕ) → AppendsFront old new xs → AppendsFront old new (xs ++ ys)
front_of_first old new xs ys h =
    let same : take h.count (xs ++ ys) ≡ take h.count xs = grind (arith, common_steps, h.short) in
    record {
      count = h.count;
      short = omega (arith, h.short, length-append xs ys);
      appended = subst (λ (text : List ℕ). Appends old new text) (sym same) h.appended;
    }

-- a whole text and a front of the second are a front of both
pub front_of_second : (old mid new : Option (List ℕ)) (xs ys : List ℕ) → Appends old mid xs → AppendsFront mid new ys → AppendsFront old new (xs ++ ys)
front_of_second old mid new xs ys whole h =
    let same : take (length xs + h.count) (xs ++ ys) ≡ xs ++ take h.count ys = take-append-add xs ys h.count in
    record {
      count = length xs + h.count;
      short = omega (arith, h.short, length-append xs ys);
      appended = subst (λ (text : List ℕ). Appends old new text) (sym same) (Appends-trans old mid new xs (take h.count ys) whole h.appended);
    }

-- what a failure at the second text leaves
pub on_second : {E : Type 0} (result : Result (Unit {0}) E) (old mid new : Option (List ℕ)) (xs ys : List ℕ) → Appends old mid xs → OnErr result (AppendsFront mid new ys) → OnErr result (AppendsFront old new (xs ++ ys))
on_second (Ok x) old mid new xs ys whole h = h
on_second (Err e) old mid new xs ys whole h = front_of_second old mid new xs ys whole h
