use Rattle.trail_model.proofs.Accounts.{own-account}
use Rattle.trail_model.proofs.trails.own_events_tell_the_account.Goals as goal

pub returns : goal.returns
returns c = own-account
