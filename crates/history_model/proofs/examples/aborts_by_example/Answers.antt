use Rattle.std.proofs.Common.{◌≡◌, inl, inr, [], ◌∷◌, refl, arith}
use Rattle.std.proofs.lemmas.List.Sorted.{IsPermutation-refl, IsPermutation-swap}
use Rattle.cp_base.specs.declared.replies.Status.TheVariants as status
use Rattle.history_model.specs.Entry.{Entry}
use Rattle.history_model.specs.Legal.{HasWithdrawn}
use Rattle.history_model.specs.Examples.{entry_told, filled, withdrawing}
use Rattle.history_model.specs.Sent.{TakenBefore}
use Rattle.history_model.proofs.Every.{pairwise-AllPairs}
use Rattle.history_model.proofs.Withdrawn.{ok-done}
use Rattle.history_model.proofs.examples.aborts_by_example.Goals as goal

-- the fill need not be over before the Abort, nor the other way round
apart-1 : TakenBefore filled withdrawing → ⊥
apart-1 (inl phases) = absurd (omega arith)
apart-1 (inr (hosts, taken)) = absurd (omega (arith, taken.1))

apart-2 : TakenBefore withdrawing filled → ⊥
apart-2 (inl phases) = absurd (omega arith)
apart-2 (inr (hosts, taken)) = absurd (omega (arith, taken.1))

no_fill : (entry : Entry) → entry.sent ≡ filled → HasWithdrawn entry → ⊥
no_fill entry is by = let fill = by.abort in cc

pub returns-clause-withdrawn : goal.returns-clause-withdrawn
returns-clause-withdrawn c = λ shared. record {
  each_once = IsPermutation-swap (withdrawing ∷ filled ∷ []) (filled ∷ withdrawing ∷ []) 0 1 (omega arith) (omega arith) refl;
  in_order = pairwise-AllPairs (λ (earlier later : Entry). TakenBefore later.sent earlier.sent → ⊥) (entry_told withdrawing status.Ok 0 ∷ entry_told filled status.Aborted 0 ∷ []) ((apart-1, tt), (tt, tt));
  replays = (inr (inr (inr (record { cid = 1; aborts = refl; told = refl; unchanged = refl }))), (inr (inr (inl (record { told = refl; unchanged = refl }))), tt));
  paired = (ok-done, (record { aborted = λ is. (record { cid = 1; abort = refl; told = refl; result = refl }, (refl, refl)); follows = λ by. refl }, no_fill (entry_told filled status.Aborted 0) refl));
}

pub returns-clause-too_late : goal.returns-clause-too_late
returns-clause-too_late c = λ shared. record {
  each_once = IsPermutation-refl (filled ∷ withdrawing ∷ []);
  in_order = pairwise-AllPairs (λ (earlier later : Entry). TakenBefore later.sent earlier.sent → ⊥) (entry_told filled status.Ok 0 ∷ entry_told withdrawing status.Ok 1 ∷ []) ((apart-2, tt), (tt, tt));
  replays = (inl refl, (inl refl, tt));
  paired = (ok-done, (record { aborted = λ is. absurd (ok-done is); follows = λ by. absurd (no_fill (entry_told filled status.Ok 0) refl by) }, λ by. let none = by.result in omega (arith, none)));
}

pub returns-clause-wrong_order : goal.returns-clause-wrong_order
returns-clause-wrong_order c = λ shared legal. legal.paired.0 refl

pub returns-clause-not_withdrawn : goal.returns-clause-not_withdrawn
returns-clause-not_withdrawn c = λ shared legal.
    ok-done (legal.paired.1.0.follows (record { cid = 1; abort = refl; told = refl; result = refl }))
