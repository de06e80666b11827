use Rattle.core_model.proofs.Only.{lawful-only}
use Rattle.core_model.proofs.facts.lawful_in_one_way.Goals as goal

pub returns : goal.returns
returns c = lawful-only
