-- The claim ends: the parts move as at its finish.
use Rattle.std.proofs.Common.{◌∙◌, ℕ, ◌*◌, ◌≤◌, Option, ap, map, refl, subst, sym}
use Rattle.cp_base.specs.declared.limits.TheConstants.{MAX_HOSTS}
use Rattle.cp_base.specs.declared.spans.Footprint.{Footprint}
use Rattle.range_claims.specs.Kept.{KeptClaims, footprint_under}
use Rattle.device_core.specs.Homecoming.{CameHome, CanComeHome, homebound, writes_in}
use Rattle.device_core.specs.Keep.{as_kept_footprint}
use Rattle.device_core.proofs.Finished.{kept-same, stored}
use Rattle.device_core.proofs.keep.Keep.end_claim.Goals as goal

pub put_home-requires : goal.put_home-requires
put_home-requires c =
    subst (λ (f : Option Footprint). CanComeHome c.args.self.now.store (homebound (writes_in f) c.args.pieces.items)) c.remove-footprint.ensures.footprint c.requires.home

pub returns-clause-moves : goal.returns-clause-moves
returns-clause-moves c apart =
    let came : CameHome c.args.self.now.store c.put_home.new.store (homebound (writes_in (footprint_under c.args.self.now.kept.kept c.args.claim.claim)) c.args.pieces.items) =
    subst (λ (f : Option Footprint). CameHome c.args.self.now.store c.put_home.new.store (homebound (writes_in f) c.args.pieces.items)) (sym c.remove-footprint.ensures.footprint) c.put_home.ensures in
    record {
      count = refl;
      still = record { submitted = refl; ordinals = λ host. refl; at_rest = refl };
      waiting = refl;
      queues = c.post_claimed.ensures.posted apart;
      kept = ap (λ (k : KeptClaims). map as_kept_footprint k.kept) c.remove-footprint.ensures.kept ∙ kept-same c.args.claim.claim c.args.self.now.kept.kept;
      claims = c.leave_out.ensures.left;
      store = stored c.args.self.now.store c.put_home.new.store _ c.requires.home came;
      out = λ region some. came.out region;
      slots = refl;
      sets = refl;
      entries = c.push_reserved.ensures.items;
    }

pub returns-clause-room : goal.returns-clause-room
returns-clause-room c depth commands room = record {
  waiting = room.waiting;
  entries = subst (λ (n : ℕ). commands ≤ n) (sym c.push_reserved.ensures.capacity) room.entries;
  kept = ap (λ (k : KeptClaims). k.most) c.remove-footprint.ensures.kept ∙ room.kept;
  claims = subst (λ (n : ℕ). 2 * MAX_HOSTS ≤ n) (sym c.leave_out.ensures.capacity) room.claims;
  queues = c.post_claimed.ensures.queues depth room.queues;
  ordinals = room.ordinals;
}
