use Rattle.trail_model.specs.Lawful.{world_of}
use Rattle.core_model.proofs.Choosing.{may-in, pickable-in, withdrawn-in}
use Rattle.core_model.proofs.picking.picking_by_parts.Goals as goal

pub returns : goal.returns
returns c = record {
  command = λ c commands p trail cmd stand. may-in c p (world_of c trail) cmd stand.ties;
  list = pickable-in;
  withdrawn = withdrawn-in;
}
