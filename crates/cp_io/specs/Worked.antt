-- States of the worked examples: a source and a sink in memory whose second call fails.
use Rattle.std.specs.Prelude.{[], ◌∷◌}
use Rattle.cp_io.specs.Memory.{Supply, Store}

-- five bytes, read at most three at a time
abbrev pub opening_supply : Supply
opening_supply = record { left = 1 ∷ 2 ∷ 3 ∷ 4 ∷ 5 ∷ []; given = 0; most = 3; fails = 2 ∷ []; calls = 0; faults = 0 }

-- after a read that gave three
abbrev pub first_supply : Supply
first_supply = record { left = 4 ∷ 5 ∷ []; given = 3; most = 3; fails = 2 ∷ []; calls = 1; faults = 0 }

-- after a read that failed
abbrev pub second_supply : Supply
second_supply = record { left = 4 ∷ 5 ∷ []; given = 3; most = 3; fails = 2 ∷ []; calls = 2; faults = 1 }

-- an empty sink
abbrev pub opening_store : Store
opening_store = record { held = []; fails = 2 ∷ []; calls = 0; faults = 0 }

-- after a write of two bytes
abbrev pub first_store : Store
first_store = record { held = 7 ∷ 8 ∷ []; fails = 2 ∷ []; calls = 1; faults = 0 }

-- after a write that failed
abbrev pub second_store : Store
second_store = record { held = 7 ∷ 8 ∷ []; fails = 2 ∷ []; calls = 2; faults = 1 }
