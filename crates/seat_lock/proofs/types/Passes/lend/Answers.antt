use Rattle.std.proofs.Common.{ℕ, ◌-◌, Option, Some, IsSome, get_or, sym, ap, ◌∙◌, subst, arith}
use Rattle.seat_lock.specs.declared.types.Pass.{Pass}
use Rattle.seat_lock.proofs.PlaceLemmas.{get_there, home_pos, home_within, home_was, home_here, home_else, set_placed}
use Rattle.seat_lock.proofs.types.Passes.lend.Goals as goal

pub invariant_of-self-clause-placed : goal.invariant_of-self-clause-placed
invariant_of-self-clause-placed g c = set_placed _ _ c.replace.new.dest (λ p e. let none = c.replace.ensures.after in absurd (cc)) c.args.self.now.placed

pub unwrap-requires : goal.unwrap-requires
unwrap-requires g c = let l = c.args.self.now.places.items in let n : ℕ = c.args.party in
    subst IsSome (home_was l n c.replace.result (home_pos l n c.requires) (home_within l n c.requires) (c.replace.ensures.value ∙ (c.index_mut.ensures.value ∙ ap (get_or l (n - 1)) (sym c.replace.ensures.value)))) c.requires

pub returns-clause-pass : goal.returns-clause-pass
returns-clause-pass g c = let l = c.args.self.now.places.items in let n : ℕ = c.args.party in
    home_was l n c.replace.result (home_pos l n c.requires) (home_within l n c.requires) (c.replace.ensures.value ∙ (c.index_mut.ensures.value ∙ ap (get_or l (n - 1)) (sym c.replace.ensures.value))) ∙ c.unwrap.ensures

pub returns-clause-party : goal.returns-clause-party
returns-clause-party g c = let l = c.args.self.now.places.items in let n : ℕ = c.args.party in let pos = home_pos l n c.requires in
    let there = get_there l (n - 1) c.replace.result (home_within l n c.requires) (c.replace.ensures.value ∙ (c.index_mut.ensures.value ∙ ap (get_or l (n - 1)) (sym c.replace.ensures.value))) in
    let at = c.args.self.now.placed (n - 1) c.unwrap.result (there ∙ ap (λ (o : Option (Pass g.row.E.Denot g.row.F.Denot)). Some o) c.unwrap.ensures) in omega arith

pub returns-clause-empty : goal.returns-clause-empty
returns-clause-empty g c = let l = c.args.self.now.places.items in let n : ℕ = c.args.party in home_here l n c.replace.new.dest (home_pos l n c.requires) (home_within l n c.requires) ∙ c.replace.ensures.after

pub returns-clause-others : goal.returns-clause-others
returns-clause-others g c = let l = c.args.self.now.places.items in let n : ℕ = c.args.party in home_else l n c.replace.new.dest (home_pos l n c.requires)
