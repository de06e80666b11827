use Rattle.bpf_model.proofs.Address.{lies_there, found, lies_for_writing, found_for_writing}
use Rattle.bpf_model.proofs.addresses.addresses_are_resolved.Goals as goal

pub returns-clause-lies_there : goal.returns-clause-lies_there
returns-clause-lies_there c = lies_there

pub returns-clause-found : goal.returns-clause-found
returns-clause-found c = found

pub returns-clause-is_for_writing : goal.returns-clause-is_for_writing
returns-clause-is_for_writing c = lies_for_writing

pub returns-clause-found_for_writing : goal.returns-clause-found_for_writing
returns-clause-found_for_writing c = found_for_writing
