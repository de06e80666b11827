-- Pairs of Aborts and withdrawn commands, so far and to the end.
use Rattle.std.proofs.Common.{◌≡◌, ℕ, zero, suc, ◌⊎◌, inl, inr, List, [], ◌∷◌, ◌++◌, refl, arith}
use Rattle.cp_base.specs.declared.commands.Command.{Command}
use Rattle.cp_base.specs.declared.commands.Command.TheVariants as command
use Rattle.cp_base.specs.declared.replies.Status.{Status}
use Rattle.cp_base.specs.declared.replies.Status.TheVariants as status
use Rattle.history_model.specs.Entry.{Entry}
use Rattle.history_model.specs.Legal.{ArePaired, HasWithdrawn, StandBehind, StandsBehind}
use Rattle.history_model.specs.Sent.{Sent}
use Rattle.history_model.proofs.OneHistory.{Among}
use Rattle.history_check.specs.Beginning.{ArePairedSoFar, FollowsBehind, MayFollow, NamesOneOf, StandBehindSoFar, sents_of}

-- ---- whether an entry has withdrawn a command

abort-or-not : (cmd : Command) → ((cid : ℕ) × (cmd ≡ command.Abort cid)) ⊎ ((cid : ℕ) → cmd ≡ command.Abort cid → ⊥)
abort-or-not (command.Abort cid) = inl (cid, refl)
abort-or-not (command.NvmRead ns lba count) = inr (λ cid e. cc)
abort-or-not (command.NvmWrite ns lba bytes) = inr (λ cid e. cc)
abort-or-not (command.NvmZeroes ns lba count) = inr (λ cid e. cc)
abort-or-not (command.NvmCopy ns lba from) = inr (λ cid e. cc)
abort-or-not (command.MemRead ns at len) = inr (λ cid e. cc)
abort-or-not (command.MemWrite ns at bytes) = inr (λ cid e. cc)
abort-or-not (command.MemFill ns at len value) = inr (λ cid e. cc)
abort-or-not (command.MemCopy ns at from) = inr (λ cid e. cc)
abort-or-not (command.SetCreate ranges) = inr (λ cid e. cc)
abort-or-not (command.SetDelete set) = inr (λ cid e. cc)
abort-or-not (command.Load slot size at bytes) = inr (λ cid e. cc)
abort-or-not (command.Unload slot) = inr (λ cid e. cc)
abort-or-not (command.Activate slot) = inr (λ cid e. cc)
abort-or-not (command.Deactivate slot) = inr (λ cid e. cc)
abort-or-not (command.Execute slot set p1 p2 budget) = inr (λ cid e. cc)

ok-or-not : (s : Status) → (s ≡ status.Ok) ⊎ (s ≡ status.Ok → ⊥)
ok-or-not status.Ok = inl refl
ok-or-not _ = inr (λ e. cc)

zero-or-not : (n : ℕ) → (n ≡ 0) ⊎ (n ≡ 0 → ⊥)
zero-or-not zero = inl refl
zero-or-not (suc n) = inr (λ e. omega (arith, e))

pub withdrew-or-not : (x : Entry) → HasWithdrawn x ⊎ (HasWithdrawn x → ⊥)
withdrew-or-not x = by_command (abort-or-not x.sent.command) (ok-or-not x.answer.status) (zero-or-not x.answer.result)
  where
    by_command : ((cid : ℕ) × (x.sent.command ≡ command.Abort cid)) ⊎ ((cid : ℕ) → x.sent.command ≡ command.Abort cid → ⊥)
        → (x.answer.status ≡ status.Ok) ⊎ (x.answer.status ≡ status.Ok → ⊥) → (x.answer.result ≡ 0) ⊎ (x.answer.result ≡ 0 → ⊥)
        → HasWithdrawn x ⊎ (HasWithdrawn x → ⊥)
    by_command (inl abort) (inl told) (inl result) = inl (record { cid = abort.0; abort = abort.1; told = told; result = result })
    by_command (inr never) told result = inr (λ by. never by.cid by.abort)
    by_command (inl abort) (inr never) result = inr (λ by. never by.told)
    by_command (inl abort) (inl told) (inr never) = inr (λ by. never by.result)

-- ---- one more entry

more-behind : (left left' : List Sent) (before : Entry) (entries : List Entry) (next : Entry) → StandBehindSoFar left before entries → FollowsBehind before entries next
    → (HasWithdrawn next → NamesOneOf left' next.sent) → StandBehindSoFar left' before (entries ++ next ∷ [])
more-behind left left' before [] next so_far follows names = (follows, names)
more-behind left left' before (entry ∷ entries) next so_far follows names = (so_far.0, more-behind left left' entry entries next so_far.1 follows names)

pub more-paired : (left left' : List Sent) (entries : List Entry) (next : Entry) → ArePairedSoFar left entries → MayFollow entries next
    → (HasWithdrawn next → NamesOneOf left' next.sent) → ArePairedSoFar left' (entries ++ next ∷ [])
more-paired left left' [] next so_far follows names = (follows, names)
more-paired left left' (entry ∷ entries) next so_far follows names = (so_far.0, more-behind left left' entry entries next so_far.1 follows names)

-- ---- the last entry

-- the last entry is that of an Abort that has withdrawn a command of which no entry stands yet
pub record IsOpen (left : List Sent) (entries : List Entry) : Type 0 where
  pub last : Entry
  pub among : Among entries last
  pub withdrew : HasWithdrawn last
  pub names : NamesOneOf left last.sent
  pub follows : (next : Entry) → StandsBehind last next → MayFollow entries next

-- each entry that is not told Aborted may follow
pub record IsClosed (entries : List Entry) : Type 0 where
  pub follows : (next : Entry) → (next.answer.status ≡ status.Aborted → ⊥) → MayFollow entries next

open-behind : (left : List Sent) (before : Entry) (entries : List Entry) → StandBehindSoFar left before entries → IsOpen left (before ∷ entries) ⊎ IsClosed (before ∷ entries)
open-behind left before [] so_far = by_last (withdrew-or-not before)
  where
    by_last : HasWithdrawn before ⊎ (HasWithdrawn before → ⊥) → IsOpen left (before ∷ []) ⊎ IsClosed (before ∷ [])
    by_last (inl by) = inl (record { last = before; among = inl refl; withdrew = by; names = so_far by; follows = λ next stands. stands })
    by_last (inr never) = inr (record { follows = λ next done. record { aborted = λ is. absurd (done is); follows = λ by. absurd (never by) } })
open-behind left before (entry ∷ entries) so_far = further (open-behind left entry entries so_far.1)
  where
    further : IsOpen left (entry ∷ entries) ⊎ IsClosed (entry ∷ entries) → IsOpen left (before ∷ entry ∷ entries) ⊎ IsClosed (before ∷ entry ∷ entries)
    further (inl o) = inl (record { last = o.last; among = inr o.among; withdrew = o.withdrew; names = o.names; follows = o.follows })
    further (inr c) = inr (record { follows = c.follows })

pub open-or-closed : (left : List Sent) (entries : List Entry) → ArePairedSoFar left entries → IsOpen left entries ⊎ IsClosed entries
open-or-closed left [] so_far = inr (record { follows = λ next done. done })
open-or-closed left (entry ∷ entries) so_far = open-behind left entry entries so_far.1

-- ---- to the end and from the end

none-named : (abort : Sent) → NamesOneOf [] abort → ⊥
none-named abort names = let below = names.among.1 in omega (arith, below)

paired-behind : (before : Entry) (entries : List Entry) → StandBehindSoFar [] before entries → StandBehind before entries
paired-behind before [] so_far = λ by. none-named before.sent (so_far by)
paired-behind before (entry ∷ entries) so_far = (so_far.0, paired-behind entry entries so_far.1)

-- where no command is left the pairs are whole
pub all-paired : (entries : List Entry) → ArePairedSoFar [] entries → ArePaired entries
all-paired [] so_far = tt
all-paired (entry ∷ entries) so_far = (so_far.0, paired-behind entry entries so_far.1)

front-behind : (before : Entry) (entries more : List Entry) → StandBehind before (entries ++ more) → StandBehindSoFar (sents_of more) before entries
front-behind before [] [] paired = λ by. absurd (paired by)
front-behind before [] (entry ∷ more) paired = λ by.
    let names = (paired.0.aborted (paired.0.follows by)).1 in
    record { other = entry.sent; among = (0, omega arith, refl); names = names }
front-behind before (entry ∷ entries) more paired = (paired.0, front-behind entry entries more paired.1)

-- the first entries of a history whose pairs are whole
pub front-paired : (entries more : List Entry) → ArePaired (entries ++ more) → ArePairedSoFar (sents_of more) entries
front-paired [] more paired = tt
front-paired (entry ∷ entries) more paired = (paired.0, front-behind entry entries more paired.1)

-- ---- the last of some entries

last-behind : (left : List Sent) (before : Entry) (entries : List Entry) (next : Entry) → StandBehindSoFar left before (entries ++ next ∷ [])
    → FollowsBehind before entries next × (HasWithdrawn next → NamesOneOf left next.sent)
last-behind left before [] next so_far = (so_far.0, so_far.1)
last-behind left before (entry ∷ entries) next so_far = last-behind left entry entries next so_far.1

-- the last entry may follow those before it, and names one that is left where it has withdrawn a command
pub last-paired : (left : List Sent) (entries : List Entry) (next : Entry) → ArePairedSoFar left (entries ++ next ∷ [])
    → MayFollow entries next × (HasWithdrawn next → NamesOneOf left next.sent)
last-paired left [] next so_far = (so_far.0, so_far.1)
last-paired left (entry ∷ entries) next so_far = last-behind left entry entries next so_far.1
