use Rattle.std.proofs.Common.{◌≡◌, inl, inr, ℕ, [], ◌∷◌, refl, ap, arith, length}
use Rattle.std.proofs.lemmas.List.Sorted.{IsPermutation-refl, IsPermutation-swap}
use Rattle.std.specs.Prelude.{slice_index}
use Rattle.cp_base.specs.Answer.{Answer}
use Rattle.device_model.specs.Execution.{Outcome}
use Rattle.device_model.specs.State.{State, opening}
use Rattle.device_model.specs.Step.{DeviceStep}
use Rattle.history_model.specs.Entry.{Entry}
use Rattle.history_model.specs.Legal.{after_entry}
use Rattle.history_model.specs.Examples.{answered, filled, look, looked, small_device}
use Rattle.history_model.specs.Sent.{TakenBefore}
use Rattle.history_model.proofs.Every.{pairwise-AllPairs}
use Rattle.history_model.proofs.Withdrawn.{IsNoAbort, none_paired, ok-done}
use Rattle.history_model.proofs.examples.histories_by_example.Goals as goal

no_abort-fill : IsNoAbort filled
no_abort-fill cid is = cc

no_abort-look : IsNoAbort looked
no_abort-look cid is = cc

-- neither of the two commands has to be over before the other is sent
apart-1 : TakenBefore looked filled → ⊥
apart-1 (inl phases) = absurd (omega arith)
apart-1 (inr (hosts, taken)) = absurd (omega arith)

apart-2 : TakenBefore filled looked → ⊥
apart-2 (inl phases) = absurd (omega arith)
apart-2 (inr (hosts, taken)) = absurd (omega arith)

pub returns-clause-fill_first : goal.returns-clause-fill_first
returns-clause-fill_first c = λ shared. record {
  each_once = IsPermutation-refl (filled ∷ looked ∷ []);
  in_order = pairwise-AllPairs (λ (earlier later : Entry). TakenBefore later.sent earlier.sent → ⊥) (answered filled [] ∷ answered looked (7 ∷ 7 ∷ []) ∷ []) ((apart-1, tt), (tt, tt));
  replays = (inl refl, (inl refl, tt));
  paired = none_paired (answered filled [] ∷ answered looked (7 ∷ 7 ∷ []) ∷ []) (no_abort-fill, (no_abort-look, tt)) (ok-done, (ok-done, tt));
}

pub returns-clause-look_first : goal.returns-clause-look_first
returns-clause-look_first c = λ shared. record {
  each_once = IsPermutation-swap (looked ∷ filled ∷ []) (filled ∷ looked ∷ []) 0 1 (omega arith) (omega arith) refl;
  in_order = pairwise-AllPairs (λ (earlier later : Entry). TakenBefore later.sent earlier.sent → ⊥) (answered looked (0 ∷ 0 ∷ []) ∷ answered filled [] ∷ []) ((apart-2, tt), (tt, tt));
  replays = (inl refl, (inl refl, tt));
  paired = none_paired (answered looked (0 ∷ 0 ∷ []) ∷ answered filled [] ∷ []) (no_abort-look, (no_abort-fill, tt)) (ok-done, (ok-done, tt));
}

-- the first byte of an answer
first_byte : Outcome → ℕ
first_byte outcome = slice_index outcome.answer.bytes 0

-- in the opening state nothing else than zeros is read
reads-zeros : (next : State) → DeviceStep (small_device 1) (opening (small_device 1)) look (answered looked (7 ∷ 7 ∷ [])).answer next → ⊥
unfolding first_byte
reads-zeros next (inl told) = let same : 0 ≡ 7 = ap first_byte told in absurd (omega (arith, same))
reads-zeros next (inr (inl lacks)) = let same : 2 ≡ 0 = ap (λ (a : Answer). length a.bytes) lacks.told in absurd (omega (arith, same))
reads-zeros next (inr (inr (inl withdrawn))) = let same : 2 ≡ 0 = ap (λ (a : Answer). length a.bytes) withdrawn.told in absurd (omega (arith, same))
reads-zeros next (inr (inr (inr withdraws))) = let same : 2 ≡ 0 = ap (λ (a : Answer). length a.bytes) withdraws.told in absurd (omega (arith, same))

pub returns-clause-not_legal : goal.returns-clause-not_legal
returns-clause-not_legal c = λ shared legal.
    reads-zeros (after_entry (small_device 1) (opening (small_device 1)) (answered looked (7 ∷ 7 ∷ []))) legal.replays.0
