-- How large what a history says can be. This project's own.
use Rattle.std.specs.Prelude.{◌^◌, ◌<◌}
use Rattle.cp_text.specs.HexText.{AreBytes}
use Rattle.device_model.specs.Sized.{IsSizedCommand}
use Rattle.history_model.specs.Entry.{Entry}
use Rattle.history_model.specs.Sent.{Sent}

-- the numbers of an entry have 64 bits, and what was read are bytes
pub record IsSizedEntry (entry : Entry) : Type 0 where
  pub host : entry.sent.host < 2 ^ 64
  pub ordinal : entry.sent.ordinal < 2 ^ 64
  pub cid : entry.sent.cid < 2 ^ 64
  pub result : entry.answer.result < 2 ^ 64
  pub bytes : AreBytes entry.answer.bytes

-- the numbers of a command that is sent have 64 bits, and its data are bytes
pub record IsSizedSend (sent : Sent) : Type 0 where
  pub host : sent.host < 2 ^ 64
  pub cid : sent.cid < 2 ^ 64
  pub command : IsSizedCommand sent.command
