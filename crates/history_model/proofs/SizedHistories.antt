-- The entries of a legal history are sized where what is sent is sized.
use Rattle.std.proofs.Common.{ℕ, ◌<◌, ◌≤◌, ◌^◌, List, [], ◌∷◌, length, map, arith}
use Rattle.std.specs.List.{All, AllByRecursion}
use Rattle.std.proofs.lemmas.List.Elements.{All-contains_itself}
use Rattle.cp_base.specs.Configuration.{Configuration}
use Rattle.cp_base.specs.declared.limits.TheConstants.{MAX_BUDGET}
use Rattle.script_cmds.specs.declared.item.Phase.{Phase}
use Rattle.device_model.specs.Sized.{IsSizedState}
use Rattle.device_model.specs.State.{State, opening}
use Rattle.device_model.proofs.Sizes.{opening_sized, step_sized}
use Rattle.history_model.specs.Entry.{Entry}
use Rattle.history_model.specs.Legal.{IsLegal, Replays, after_entry}
use Rattle.history_model.specs.Sent.{Sent, sends_of}
use Rattle.history_model.specs.Sized.{IsSizedEntry, IsSizedSend}
use Rattle.history_model.proofs.Every.{every-All, every-of-All, every-weaker}
use Rattle.history_model.proofs.OneHistory.{Among, each-among, every-among}
use Rattle.history_model.proofs.Order.{ordinals-few}

-- a command that is sent, and its ordinal
record IsNumbered (most : ℕ) (sent : Sent) : Type 0 where
  send : IsSizedSend sent
  ordinal : sent.ordinal ≤ most

numbered : (most : ℕ) (sents : List Sent) → AllByRecursion IsSizedSend sents → AllByRecursion (λ (sent : Sent). sent.ordinal ≤ most) sents → AllByRecursion (IsNumbered most) sents
numbered most [] sized few = tt
numbered most (sent ∷ sents) sized few = (record { send = sized.0; ordinal = few.0 }, numbered most sents sized.1 few.1)

entries_sized : (c : Configuration) (s : State) (most : ℕ) (entries : List Entry) → c.budget ≤ MAX_BUDGET → most < 2 ^ 64 → IsSizedState s
    → AllByRecursion (λ (entry : Entry). IsNumbered most entry.sent) entries → Replays c s entries → AllByRecursion IsSizedEntry entries
entries_sized c s most [] budget few h all replays = tt
entries_sized c s most (entry ∷ entries) budget few h all replays =
    let here = step_sized c s entry.sent.command entry.answer (after_entry c s entry) budget h all.0.send.command replays.0 in (
      record {
        host = all.0.send.host;
        ordinal = let n = all.0.ordinal in omega (arith, n, few);
        cid = all.0.send.cid;
        result = here.answer.result;
        bytes = here.answer.bytes;
      },
      entries_sized c (after_entry c s entry) most entries budget few here.next all.1 replays.1,
    )

pub history_sized : (c : Configuration) (plan : List Phase) (history : List Entry) → c.budget ≤ MAX_BUDGET → length (sends_of plan) < 2 ^ 64 → All IsSizedSend (sends_of plan)
    → IsLegal c plan history → All IsSizedEntry history
history_sized c plan history budget few sized legal =
    let sents : List Sent = map (λ (entry : Entry). entry.sent) history in
    let most : ℕ = length (sends_of plan) in
    let sends = numbered most (sends_of plan) (every-of-All IsSizedSend (sends_of plan) sized) (ordinals-few plan) in
    let among = each-among sents (sends_of plan) history legal.each_once (All-contains_itself sents) in
    let entries = every-weaker (λ (entry : Entry). Among (sends_of plan) entry.sent) (λ (entry : Entry). IsNumbered most entry.sent)
    (λ entry found. every-among (IsNumbered most) (sends_of plan) entry.sent sends found) history among in
    every-All IsSizedEntry history (entries_sized c (opening c) most history budget few (opening_sized c) entries legal.replays)
