-- Commands under their identifiers, one of which has another stage.
use Rattle.std.proofs.Common.{◌≡◌, ℕ, Bool, true, false, cond, eqb, List, [], ◌∷◌, Some, refl, ap}
use Rattle.std.proofs.lemmas.Option.{same_Some}
use Rattle.queue_pairs.specs.Outstanding.{under, with_stage}
use Rattle.queue_pairs.specs.declared.command.Outstanding.{Outstanding}
use Rattle.queue_pairs.specs.declared.command.Stage.{Stage}

-- the command under an identifier, whose stage is another one
pub under_restaged : (commands : List Outstanding) (cid : ℕ) (stage : Stage) (x : Outstanding) → under commands cid ≡ Some x
    → under (with_stage commands cid stage) cid ≡ Some (record x { stage = stage })
under_restaged [] cid stage x found = cc
under_restaged (o ∷ commands) cid stage x found = by_test (eqb o.cid cid) refl found (under_restaged commands cid stage x)
  where
    by_test : (test : Bool) → eqb o.cid cid ≡ test → cond test (Some o) (under commands cid) ≡ Some x
        → (under commands cid ≡ Some x → under (with_stage commands cid stage) cid ≡ Some (record x { stage = stage }))
        → under (with_stage (o ∷ commands) cid stage) cid ≡ Some (record x { stage = stage })
    by_test true e h later = rw (e, e) (ap (λ (y : Outstanding). Some (record y { stage = stage })) (same_Some o x h))
    by_test false e h later = rw (e, e) (later h)
