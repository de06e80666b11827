use Rattle.core_model.proofs.Entries.{entries-number, entry-told}
use Rattle.core_model.proofs.facts.entries_tell_the_history.Goals as goal

pub returns : goal.returns
returns c = record { number = entries-number; told = entry-told }
