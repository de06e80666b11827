-- What a line tells depends on the device and on what is awaited alone.
use Rattle.std.proofs.Common.{◌≡◌, ℕ, List, [], ◌∷◌, ◌++◌, Some, sym, subst}
use Rattle.std.specs.Prelude.{slice_get}
use Rattle.history_model.specs.Entry.{Entry}
use Rattle.seq_device.specs.Standing.{IsDone, Standing}
use Rattle.history_check.specs.Standing.{NamesLeft, TellsAnswer, TellsWithdrawal}
use Rattle.history_check.specs.Table.{sends_in}
use Rattle.history_check.specs.declared.awaiting.Awaiting.{Awaiting}
use Rattle.history_check.specs.declared.checker.Checker.{Checker}

pub withdrawal-as : (old new : Checker) (place named k : ℕ) (line : List ℕ) → old.awaiting ≡ new.awaiting → TellsWithdrawal old place named k line → TellsWithdrawal new place named k line
withdrawal-as old new place named k line same t = record {
  names = subst (λ (a : Awaiting). NamesLeft a place named) same t.names;
  told = λ s at. t.told s (subst (λ (a : Awaiting). slice_get (sends_in a.table) place ≡ Some s) (sym same) at);
}

pub answer-as : (old new : Checker) (place k : ℕ) (line : List ℕ) (after : Standing) → old.device ≡ new.device → old.awaiting ≡ new.awaiting → TellsAnswer old place k line after
    → TellsAnswer new place k line after
answer-as old new place k line after device same t = record {
  s = t.s;
  at = subst (λ (a : Awaiting). slice_get (sends_in a.table) place ≡ Some t.s) same t.at;
  answer = t.answer;
  done = subst (λ (d : Standing). IsDone d t.s.command t.answer after) device t.done;
  told = t.told;
}

-- no entry is behind none
pub none-last : (before : List Entry) (last : Entry) → [] ≡ before ++ last ∷ [] → ⊥
none-last [] last e = cc
none-last (x ∷ before) last e = cc
