-- How a pass comes back from its turn.
use Rattle.std.proofs.Common.{◌≡◌, ◌<◌, ◌≤◌, ◌+◌, ◌*◌, ◌^◌, ℕ, [], ◌∷◌, ◌++◌, append-nil, append_assoc, length, refl, sym, ap, subst, ◌∙◌, inl, inr, arith, Some, None, Option}
use Rattle.cp_base.specs.declared.limits.TheConstants.{MAX_COMMANDS}
use Rattle.seat_lock.specs.Passes.{AddsAtMostOne, IsPassOf, LockName, MadeInTurn, lock_in, lost_by, lost_in, made_by, made_in, party_in, party_of, seen_by, seen_in, value_in}
use Rattle.seat_lock.specs.Trails.{BeginsWith, FitsTrail}
use Rattle.seat_lock.specs.declared.types.Turn.{Turn}
use Rattle.trail_model.specs.Accounts.{Account, account_after, account_of, first_account}
use Rattle.trail_model.specs.Lawful.{IsLawful, IsParty, Trail, party_of_event}
use Rattle.trail_model.specs.declared.events.Event.{Event}
use Rattle.trail_model.proofs.Counts.{bounded}
use Rattle.device_core.specs.Recorded.{Recorded}
use Rattle.device_lock.specs.Names.{DeviceName, fixed_in, lock_of_device, recorded_with}
use Rattle.device_lock.specs.Passes.{DevicePass, IsBack, IsBackAlone, IsBackWith, IsIdle, IsOfDevice}
use Rattle.device_lock.specs.Turns.{IsTurnOf}
use Rattle.device_lock.specs.declared.kept.Fixed.{Fixed}
use Rattle.device_lock.specs.declared.kept.Kept.{Kept}
use Rattle.device_lock.proofs.Knowing.{account-push}

-- what a turn leaves of a pass, where the value behind the lock is this one then
pub record Leaves (t : Turn Kept Event Fixed) (k : Kept) (q : DevicePass) : Type 0 where
  pub pass : IsPassOf party_of_event (lock_in t) q
  pub party : party_of q ≡ party_in t
  pub seen : seen_by q ≡ k.core.trail
  pub made : MadeInTurn (seen_in t) k.core.trail (made_in t) (made_by q)
  pub lost : lost_by q ≡ lost_in t

-- a lawful trail has at most five events for each command, and one more
pub few-events : (k : Kept) → length k.core.trail ≤ 5 * MAX_COMMANDS + 1
few-events k = let most = bounded k.core.config k.core.commands k.core.trail k.lawful in let few = k.few in omega arith

pub kept-short : (k : Kept) → length k.core.trail < 2 ^ 32
kept-short k = let few = few-events k in omega arith

-- a pass that made the same is as idle
pub same-idle : (p q : DevicePass) → made_by q ≡ made_by p → IsIdle p → IsIdle q
same-idle p q made idle = subst (λ (mine : Trail). (account_of mine).claim ≡ None) (sym made) idle

-- ---- nothing was added

pub came-alone : (d : DeviceName) (p q : DevicePass) (t : Turn Kept Event Fixed) (k : Kept) → IsTurnOf d p t → k.core ≡ recorded_with d (seen_in t) → Leaves t k q
    → IsBackAlone d p q
came-alone d p q t k turn core left =
    let trail : k.core.trail ≡ seen_in t = ap (λ (r : Recorded). r.trail) core in
    let seen : seen_by q ≡ seen_in t = left.seen ∙ trail in
    let lawful : IsLawful d.config d.commands (seen_in t) = subst (λ (r : Recorded). IsLawful r.config r.commands r.trail) core k.lawful in
    let party : party_of q ≡ party_of p = left.party ∙ turn.party in
    record {
      back = record {
        of_device = record {
          lock = subst (λ (l : LockName Fixed). IsPassOf party_of_event l q) turn.lock left.pass;
          party = subst (λ (n : ℕ). IsParty n) (sym party) turn.of_device.party;
          lawful = subst (λ (s : Trail). IsLawful d.config d.commands s) (sym seen) lawful;
        };
        party = party;
        seen = (turn.fits.0.0, seen ∙ turn.fits.0.1);
        lost = (turn.lost.0, left.lost ∙ turn.lost.1);
      };
      fits = subst (λ (s : Trail). FitsTrail party_of_event (party_of p) (seen_by p) (made_by p) s) (sym seen) turn.fits;
      made = left.made.none trail ∙ turn.made;
      idle = same-idle p q (left.made.none trail ∙ turn.made);
    }

-- ---- one event was added

pub came-with : (d : DeviceName) (p q : DevicePass) (t : Turn Kept Event Fixed) (k : Kept) (e : Event) → IsTurnOf d p t → k.core ≡ recorded_with d (seen_in t ++ e ∷ []) → Leaves t k q
    → IsBackWith d p q (seen_in t) e
came-with d p q t k e turn core left =
    let trail : k.core.trail ≡ seen_in t ++ e ∷ [] = ap (λ (r : Recorded). r.trail) core in
    let seen : seen_by q ≡ seen_in t ++ e ∷ [] = left.seen ∙ trail in
    let lawful : IsLawful d.config d.commands (seen_in t ++ e ∷ []) = subst (λ (r : Recorded). IsLawful r.config r.commands r.trail) core k.lawful in
    let party : party_of q ≡ party_of p = left.party ∙ turn.party in
    record {
      back = record {
        of_device = record {
          lock = subst (λ (l : LockName Fixed). IsPassOf party_of_event l q) turn.lock left.pass;
          party = subst (λ (n : ℕ). IsParty n) (sym party) turn.of_device.party;
          lawful = subst (λ (s : Trail). IsLawful d.config d.commands s) (sym seen) lawful;
        };
        party = party;
        seen = (turn.fits.0.0 ++ e ∷ [], seen ∙ (ap (λ (s : Trail). s ++ e ∷ []) turn.fits.0.1 ∙ append_assoc (seen_by p) turn.fits.0.0 (e ∷ [])));
        lost = (turn.lost.0, left.lost ∙ turn.lost.1);
      };
      fits = turn.fits;
      seen = seen;
      made = left.made.one e trail ∙ ap (λ (m : Trail). m ++ e ∷ []) turn.made;
    }

-- an idle pass stays idle with an event that is no claim
pub idle-with : (d : DeviceName) (p q : DevicePass) (before : Trail) (e : Event) → IsBackWith d p q before e
    → ((a : Account) → a.claim ≡ None → (account_after a e).claim ≡ None) → IsIdle p → IsIdle q
idle-with d p q before e back keeps idle =
    subst (λ (mine : Trail). (account_of mine).claim ≡ None) (sym back.made)
    (ap (λ (a : Account). a.claim) (account-push first_account (made_by p) e) ∙ keeps (account_of (made_by p)) idle)

-- ---- what a turn asks of what it leaves behind the lock

pub fixed-kept : (d : DeviceName) (p : DevicePass) (t : Turn Kept Event Fixed) (k : Kept) (trail : Trail) → IsTurnOf d p t → k.core ≡ recorded_with d trail
    → Some (fixed_in k) ≡ (lock_in t).fixed
fixed-kept d p t k trail turn core =
    ap (λ (r : Recorded). Some (let f : Fixed = record { config = r.config; commands = r.commands } in f)) core ∙ sym (ap (λ (l : LockName Fixed). l.fixed) turn.lock)

pub adds-none : (d : DeviceName) (t : Turn Kept Event Fixed) (k : Kept) → k.core ≡ recorded_with d (seen_in t) → AddsAtMostOne party_of_event (party_in t) (seen_in t) k.core.trail
adds-none d t k core = inl (ap (λ (r : Recorded). r.trail) core)

pub adds-one : (d : DeviceName) (p : DevicePass) (t : Turn Kept Event Fixed) (k : Kept) (e : Event) → IsTurnOf d p t → k.core ≡ recorded_with d (seen_in t ++ e ∷ [])
    → party_of_event e ≡ party_of p → AddsAtMostOne party_of_event (party_in t) (seen_in t) k.core.trail
adds-one d p t k e turn core own = inr (e, ap (λ (r : Recorded). r.trail) core, own ∙ sym turn.party)

-- the trail before the turn is lawful
pub lawful-before : (d : DeviceName) (p : DevicePass) (t : Turn Kept Event Fixed) → IsTurnOf d p t → IsLawful d.config d.commands (seen_in t)
lawful-before d p t turn = subst (λ (r : Recorded). IsLawful r.config r.commands r.trail) turn.core (value_in t).lawful
