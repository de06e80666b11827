use Rattle.cp_base.proofs.Sharing.{AllPairs-from_no_overlap, AreDisjoint-from_false, AreDisjoint-from_unmet, any_overlap-false, meets_any-false, shares_byte-common, shares_byte-false, shares_byte-from_common}
use Rattle.cp_base.proofs.laws.sharing_laws.Goals as goal

pub returns-clause-shared : goal.returns-clause-shared
returns-clause-shared c = λ a b. (shares_byte-common a b, shares_byte-from_common a b)

pub returns-clause-apart : goal.returns-clause-apart
returns-clause-apart c = λ a b. (AreDisjoint-from_false a b, shares_byte-false a b)

pub returns-clause-met : goal.returns-clause-met
returns-clause-met c = λ regions region. (AreDisjoint-from_unmet region regions, meets_any-false region regions)

pub returns-clause-overlapping : goal.returns-clause-overlapping
returns-clause-overlapping c = λ regions. (AllPairs-from_no_overlap regions, any_overlap-false regions)
