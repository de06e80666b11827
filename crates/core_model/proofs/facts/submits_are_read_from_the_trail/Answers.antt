use Rattle.core_model.proofs.Reading.{asked-found, asked-there}
use Rattle.core_model.proofs.facts.submits_are_read_from_the_trail.Goals as goal

pub returns : goal.returns
returns c = record { found = asked-found; there = asked-there }
