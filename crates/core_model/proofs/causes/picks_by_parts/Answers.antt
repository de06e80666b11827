use Rattle.core_model.proofs.Allowing.{claim-allowed, do-allowed, waits-asked}
use Rattle.core_model.proofs.causes.picks_by_parts.Goals as goal

pub returns : goal.returns
returns c = record { asked = waits-asked; claims = claim-allowed; dos = do-allowed }
