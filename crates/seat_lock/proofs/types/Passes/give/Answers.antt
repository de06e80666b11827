use Rattle.std.proofs.Common.{ℕ, ◌-◌, ◌<◌, length, Some, refl, arith}
use Rattle.seat_lock.proofs.PlaceLemmas.{home_here, home_else, set_placed, given_placed}
use Rattle.seat_lock.proofs.types.Passes.give.Goals as goal

pub invariant_of-self-clause-placed : goal.invariant_of-self-clause-placed
invariant_of-self-clause-placed g c = let l = c.args.self.now.places.items in let n : ℕ = c.args.pass.number in let pos : 0 < n = omega arith in
    set_placed l (n - 1) (Some c.args.pass) (given_placed (Some c.args.pass) c.args.pass pos refl) c.args.self.now.placed

pub returns-clause-pass : goal.returns-clause-pass
returns-clause-pass g c = let l = c.args.self.now.places.items in let n : ℕ = c.args.pass.number in let pos : 0 < n = omega arith in let within : n - 1 < length l = omega arith in
    home_here l n (Some c.args.pass) pos within

pub returns-clause-others : goal.returns-clause-others
returns-clause-others g c = let l = c.args.self.now.places.items in let n : ℕ = c.args.pass.number in let pos : 0 < n = omega arith in home_else l n (Some c.args.pass) pos
