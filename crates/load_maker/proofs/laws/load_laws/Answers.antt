use Rattle.load_maker.proofs.Lines.{load_few}
use Rattle.load_maker.proofs.Planned.{load_planned}
use Rattle.load_maker.proofs.Script.{load_accepted, same_lines}
use Rattle.load_maker.proofs.laws.load_laws.Goals as goal

pub returns-clause-accepted : goal.returns-clause-accepted
returns-clause-accepted c = load_accepted

pub returns-clause-planned : goal.returns-clause-planned
returns-clause-planned c = λ seed n script fault bound sized same breaks. load_planned seed n script fault sized same breaks

pub returns-clause-lines : goal.returns-clause-lines
returns-clause-lines c = same_lines

pub returns-clause-few : goal.returns-clause-few
returns-clause-few c = load_few
