-- The bytes that are appended are those of the state.
use Rattle.std.proofs.Common.{IsSome, List, ℕ, subst, sym}
use Rattle.std.specs.Vec.{vec_capacity}
use Rattle.cp_base.specs.Contents.{bytes_in}
use Rattle.cp_base.specs.Growth.{Appended}
use Rattle.cp_base.specs.Sharing.{IsIn}
use Rattle.cp_base.specs.declared.region.SpaceId.{SpaceId}
use Rattle.trail_model.specs.Lawful.{world_of}
use Rattle.trail_model.specs.World.{home}
use Rattle.device_core.specs.Recorded.{Recorded}
use Rattle.device_core.proofs.Shown.{shown, stored-home}
use Rattle.device_core.proofs.device.Core.append.Goals as goal

pub append-requires-clause-home : goal.append-requires-clause-home
append-requires-clause-home c =
    let k = c.self.inside in
    stored-home k.config k.commands k.trail.items (vec_capacity k.trail) k.keep c.args.range.now c.self.invariant
    (λ s o inside. subst (λ (d : Recorded). IsSome (home d.config (world_of d.config d.trail) s o)) (sym c.self.view_is) (c.requires.home s o inside))

pub returns : goal.returns
returns c =
    let k = c.self.inside in
    let there = λ (s : SpaceId) (o : ℕ) (inside : IsIn c.args.range.now s o).
    subst (λ (d : Recorded). IsSome (home d.config (world_of d.config d.trail) s o)) (sym c.self.view_is) (c.requires.home s o inside) in
    subst (λ (d : Recorded). Appended c.args.out.now c.append.new.out (bytes_in (world_of d.config d.trail).state.contents c.args.range.now)) c.self.view_is
    (subst (λ (xs : List ℕ). Appended c.args.out.now c.append.new.out xs)
    (shown k.config k.commands k.trail.items (vec_capacity k.trail) k.keep c.args.range.now _ c.self.invariant there c.append.ensures.bytes) c.append.ensures.appended)
