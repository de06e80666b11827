-- Beginnings of legal histories: what the first entries of one have to be, said of these entries alone. This
-- project's own.
use Rattle.std.specs.Prelude.{◌≡◌, List, [], ◌∷◌, ◌++◌, All, AllPairs, Contains, IsPermutation, map}
use Rattle.cp_base.specs.Configuration.{Configuration}
use Rattle.cp_base.specs.declared.replies.Status.TheVariants as status
use Rattle.device_model.specs.State.{opening}
use Rattle.device_model.specs.Step.{DeviceStep}
use Rattle.script_cmds.specs.declared.item.Phase.{Phase}
use Rattle.history_model.specs.Entry.{Entry}
use Rattle.history_model.specs.Legal.{HasWithdrawn, Replays, StandsBehind, after_entry, last_state}
use Rattle.history_model.specs.Sent.{Sent, Names, TakenBefore, sends_of}

-- the commands that have these entries
abbrev pub sents_of : List Entry → List Sent
sents_of entries = map (λ (entry : Entry). entry.sent) entries

-- an Abort names one of these commands
pub record NamesOneOf (left : List Sent) (abort : Sent) : Type 0 where
  pub other : Sent
  pub among : Contains left other
  pub names : Names abort other

-- What stands behind an entry so far, one by one. Where the last entry has withdrawn a command, that command
-- is one of those that are left, so that its own entry can follow.
abbrev pub StandBehindSoFar : List Sent → Entry → List Entry → Type 0
StandBehindSoFar left before [] = HasWithdrawn before → NamesOneOf left before.sent
StandBehindSoFar left before (entry ∷ entries) = StandsBehind before entry × StandBehindSoFar left entry entries

-- withdrawn commands stand behind their Aborts so far
abbrev pub ArePairedSoFar : List Sent → List Entry → Type 0
ArePairedSoFar left [] = Unit {0}
ArePairedSoFar left (entry ∷ entries) = (entry.answer.status ≡ status.Aborted → ⊥) × StandBehindSoFar left entry entries

-- an entry may stand behind others, the first of which is set apart
abbrev pub FollowsBehind : Entry → List Entry → Entry → Type 0
FollowsBehind before [] next = StandsBehind before next
FollowsBehind before (entry ∷ entries) next = FollowsBehind entry entries next

-- an entry may stand behind these: the pairs of Aborts and withdrawn commands stay whole
abbrev pub MayFollow : List Entry → Entry → Type 0
MayFollow [] next = next.answer.status ≡ status.Aborted → ⊥
MayFollow (entry ∷ entries) next = FollowsBehind entry entries next

-- an Abort names a command of the plan that has none of these entries
pub record NamesNew (plan : List Phase) (entries : List Entry) (abort : Sent) : Type 0 where
  pub other : Sent
  pub sent : Contains (sends_of plan) other
  pub new : Contains (sents_of entries) other → ⊥
  pub names : Names abort other

-- An entry may come next: its command is one of the plan and has no entry yet; all that has to be over before
-- it is sent has one; its answer is the sequential device's in the state after these entries, or that there is
-- no memory or that it was withdrawn; where the last entry has withdrawn a command it is that command's, and
-- else it is not told Aborted; and an Abort that has withdrawn a command names one that has no entry yet.
pub record MayComeNext (c : Configuration) (plan : List Phase) (entries : List Entry) (next : Entry) : Type 0 where
  pub sent : Contains (sends_of plan) next.sent
  pub new : Contains (sents_of entries) next.sent → ⊥
  pub ready : All (λ (first : Sent). TakenBefore first next.sent → Contains (sents_of entries) first) (sends_of plan)
  pub step : DeviceStep c (last_state c entries) next.sent.command next.answer
      (after_entry c (last_state c entries) next)
  pub follows : MayFollow entries next
  pub names : HasWithdrawn next → NamesNew plan (entries ++ next ∷ []) next.sent

-- Entries are consistent with a plan: they have commands of the plan, none twice, so that some are left; no
-- command stands before one that has to be over before it is sent, be it one of these or one that is left;
-- from the opening state on the answers are those of the sequential device; and withdrawn commands stand
-- behind their Aborts so far.
pub record IsBeginning (c : Configuration) (plan : List Phase) (entries : List Entry) : Type 0 where
  pub left : List Sent
  pub each_once : IsPermutation (sents_of entries ++ left) (sends_of plan)
  pub in_order : AllPairs (λ (earlier : Entry) (later : Entry). TakenBefore later.sent earlier.sent → ⊥) entries
  pub ready : All (λ (entry : Entry). All (λ (sent : Sent). TakenBefore sent entry.sent → ⊥) left) entries
  pub replays : Replays c (opening c) entries
  pub paired : ArePairedSoFar left entries
