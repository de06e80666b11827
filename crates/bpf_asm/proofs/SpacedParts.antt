-- How many parts a text has between spaces.
use Rattle.std.proofs.Common.{◌≡◌, ℕ, List, ◌∷◌, None, ap}
use Rattle.cp_text.specs.Parts.{parts_between}
use Rattle.cp_text.proofs.Cuts.{some_part}
use Rattle.bpf_asm.specs.Reading.{exit_of, one_of}

pub is_some_part : (text : List ℕ) → exit_of (parts_between 32 text) ≡ None
is_some_part text = let p = some_part 32 text in ap exit_of p.2

pub more_than_one : (part text : List ℕ) → one_of (part ∷ parts_between 32 text) ≡ None
more_than_one part text = let p = some_part 32 text in ap (λ (ps : List (List ℕ)). one_of (part ∷ ps)) p.2
