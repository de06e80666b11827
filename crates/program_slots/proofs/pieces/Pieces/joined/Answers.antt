-- A complete program is what its pieces have.
use Rattle.std.proofs.Common.{◌≡◌, ◌+◌, ℕ, List, Option, true, is_some, eqb, map, unwrap_or, sym, ap, ◌∙◌, IfOk, subst, ◌≤◌, Result, Ok, Err, length, arith}
use Rattle.std.specs.List.{list_all}
use Rattle.std.proofs.lemmas.Bool.{eqb-true}
use Rattle.std.proofs.lemmas.List.{length-map}
use Rattle.cp_base.specs.Buffer.{Buffer}
use Rattle.cp_base.specs.declared.limits.TheConstants.{MAX_PROGRAM}
use Rattle.cp_base.specs.declared.no_memory.NoMemory.{NoMemory}
use Rattle.program_slots.specs.Spread.{joined_bytes, loaded_in, spread}
use Rattle.program_slots.proofs.Spreading.{code_joined, complete_spread, few_loaded, length-spread}
use Rattle.program_slots.proofs.pieces.Pieces.joined.Goals as goal

pub returns-clause-code : goal.returns-clause-code
returns-clause-code c =
    let es = c.self.inside.pieces.entries in
    let all : eqb (0 + loaded_in es) c.self.inside.size ≡ true =
    sym (complete_spread 0 c.self.inside.size es c.self.invariant.1) ∙ ap (λ (bytes : List (Option ℕ)). list_all (λ (byte : Option ℕ). is_some byte) bytes) c.self.view_is ∙ c.requires in
    let code : joined_bytes es ≡ map (λ (byte : Option ℕ). unwrap_or byte 0) c.args.self.now =
    sym (code_joined 0 c.self.inside.size es c.self.invariant.1 (eqb-true (0 + loaded_in es) c.self.inside.size all)) ∙ ap (map (λ (byte : Option ℕ). unwrap_or byte 0)) c.self.view_is in
    subst (λ (bytes : List ℕ). IfOk c.join.result (λ made. made.items ≡ bytes)) code c.join.ensures

-- a list as long as another
as_long : (made : Result Buffer NoMemory) (code : List ℕ) → IfOk made (λ b. b.items ≡ code) → length code ≤ MAX_PROGRAM → IfOk made (λ b. length b.items ≤ MAX_PROGRAM)
as_long (Ok b) code e h = subst (λ (bytes : List ℕ). length bytes ≤ MAX_PROGRAM) (sym e) h
as_long (Err e) code same h = tt

pub returns-clause-fits : goal.returns-clause-fits
returns-clause-fits c =
    let es = c.self.inside.pieces.entries in
    let all : eqb (0 + loaded_in es) c.self.inside.size ≡ true =
    sym (complete_spread 0 c.self.inside.size es c.self.invariant.1) ∙ ap (λ (bytes : List (Option ℕ)). list_all (λ (byte : Option ℕ). is_some byte) bytes) c.self.view_is ∙ c.requires in
    let code = code_joined 0 c.self.inside.size es c.self.invariant.1 (eqb-true (0 + loaded_in es) c.self.inside.size all) in
    let long : length (joined_bytes es) ≡ length (spread 0 c.self.inside.size es) = sym (ap length code) ∙ length-map (spread 0 c.self.inside.size es) (λ (byte : Option ℕ). unwrap_or byte 0) in
    let size = length-spread 0 c.self.inside.size es c.self.invariant.1 in
    as_long c.join.result (joined_bytes es) c.join.ensures (omega (arith, c.self.invariant.0))

pub join-requires : goal.join-requires
join-requires c =
    let few = few_loaded 0 c.self.inside.size c.self.inside.pieces.entries c.self.invariant.1 in
    omega arith
