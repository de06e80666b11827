-- What a plan means, part by part. This project's own.
use Rattle.std.specs.Prelude.{List, ◌++◌, Result, Ok, Err, map}
use Rattle.history_model.specs.Plan.{PlanFault}

-- each item of a plan in plain words; a fault stays
abbrev pub meant : {A B : Type 0} → (A → B) → Result (List A) PlanFault → Result (List B) PlanFault
meant plain (Ok planned) = Ok (map plain planned)
meant plain (Err fault) = Err fault

-- what is planned already, and the plan of the rest after it; a fault stays
abbrev pub after : {B : Type 0} → List B → Result (List B) PlanFault → Result (List B) PlanFault
after front (Ok rest) = Ok (front ++ rest)
after front (Err fault) = Err fault
