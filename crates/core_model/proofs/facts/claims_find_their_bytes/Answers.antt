use Rattle.core_model.proofs.Fetching.{claim-home, cut-same, same-bytes}
use Rattle.core_model.proofs.facts.claims_find_their_bytes.Goals as goal

pub returns : goal.returns
returns c = record { home = claim-home; same = same-bytes; cut = cut-same }
