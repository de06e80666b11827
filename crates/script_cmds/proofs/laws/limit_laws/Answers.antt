use Rattle.script_cmds.proofs.HostLaws.{few_sends, hosts_ascend, to_queues}
use Rattle.script_cmds.proofs.laws.limit_laws.Goals as goal

pub returns-clause-hosts : goal.returns-clause-hosts
returns-clause-hosts c = hosts_ascend

pub returns-clause-sends : goal.returns-clause-sends
returns-clause-sends c = few_sends

pub returns-clause-queues : goal.returns-clause-queues
returns-clause-queues c = to_queues
