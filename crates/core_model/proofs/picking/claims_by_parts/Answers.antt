use Rattle.core_model.proofs.Choosing.{kept-in, key-fresh, places-in}
use Rattle.core_model.proofs.picking.claims_by_parts.Goals as goal

pub returns : goal.returns
returns c = record { places = places-in; kept = kept-in; fresh = key-fresh }
