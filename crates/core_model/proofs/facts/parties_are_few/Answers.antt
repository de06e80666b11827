use Rattle.core_model.proofs.Numbers.{asked-host, few-parts}
use Rattle.core_model.proofs.facts.parties_are_few.Goals as goal

pub returns : goal.returns
returns c = record { hosts = asked-host; claims = few-parts }
