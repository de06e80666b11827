-- The phases of a plan, one after the other.
use Rattle.std.proofs.Common.{◌≡◌, ◌⊎◌, inl, inr, ◌∙◌, ℕ, ◌≤◌, ◌==◌, Bool, true, false, List, [], ◌∷◌, ◌++◌, append-nil, append_assoc, length, map, Some, refl, sym, ap, ap₂, subst, arith}
use Rattle.std.specs.List.{All, AllByRecursion, Contains}
use Rattle.std.proofs.lemmas.Bool.{true≢false}
use Rattle.std.proofs.lemmas.List.Elements.{Contains-append_right}
use Rattle.std.proofs.lemmas.Map.Made.{Contains-tail}
use Rattle.cp_base.specs.declared.limits.TheConstants.{MAX_HOSTS}
use Rattle.script_cmds.specs.Hosts.{hosts_of}
use Rattle.script_cmds.specs.declared.item.Phase.{Phase}
use Rattle.history_model.specs.Plain.{PlainItem, PlainPart, plain_phase, plain_phases}
use Rattle.history_model.specs.Rules.{KeepsRules}
use Rattle.history_model.proofs.Every.{every-of-All}
use Rattle.seat_lock.specs.Passes.{at_home, made_by, seats_in, seen_by}
use Rattle.seat_lock.specs.Trails.{FitsTrail}
use Rattle.trail_model.specs.Accounts.{account_of}
use Rattle.trail_model.specs.Lawful.{Trail, party_of_event}
use Rattle.trail_model.proofs.Submits.{eqb-same, same-eqb}
use Rattle.schedule_model.specs.Deeds.{BeginsWith, HostsDid, IsHost, Phases, items_by, items_in, items_in_phase}
use Rattle.schedule_model.proofs.Growing.{grown, nothing-yet, stayed}
use Rattle.schedule_model.proofs.Telling.{items-append, planned-append}
use Rattle.device_lock.specs.Names.{DeviceName}
use Rattle.device_lock.specs.Passes.{AreAllOfDevice, AreIdle, DevicePass, DevicePasses}
use Rattle.workers.specs.Further.{outstanding_by}
use Rattle.workers.specs.Phases.{HaveDoneSoFar, HaveNoneOutstanding}
use Rattle.workers.specs.Plans.{HaveDoneNothing}
use Rattle.workers.proofs.Running.{IsPhaseRun, home-before, home-party, items-own}

-- These phases are run: all passes are at home and idle, no party has an outstanding command, and the hosts have done
-- these phases, by what they made and in what each has seen.
pub record HaveRun (d : DeviceName) (done : Phases) (ps : DevicePasses) : Type 0 where
  pub hosts : MAX_HOSTS ≤ seats_in ps
  pub all : AreAllOfDevice d ps
  pub idle : AreIdle ps
  pub none : (n : ℕ) (p : DevicePass) → at_home ps n ≡ Some p → outstanding_by p ≡ []
  pub done_so_far : HaveDoneSoFar done ps
  pub did : (n : ℕ) (p : DevicePass) → at_home ps n ≡ Some p → HostsDid done (seen_by p)

pub run-nothing : (d : DeviceName) (ps : DevicePasses) → MAX_HOSTS ≤ seats_in ps → AreAllOfDevice d ps → AreIdle ps → HaveDoneNothing ps → HaveRun d [] ps
run-nothing d ps hosts all idle nothing = record {
  hosts = hosts;
  all = all;
  idle = idle;
  none = λ n p home. ap (λ (mine : Trail). (account_of mine).outstanding) (nothing n p home).1;
  done_so_far = λ n p host home. ap (items_by n) (nothing n p home).1;
  did = λ n p home. subst (λ (trail : Trail). HostsDid [] trail) (sym (nothing n p home).0) nothing-yet;
}

-- whether a number stands in a list
contains-or-not : (n : ℕ) (xs : List ℕ) → Contains xs n ⊎ (Contains xs n → ⊥)
contains-or-not n [] = inr (λ found. (let below = found.1 in omega (arith, below)))
contains-or-not n (x ∷ xs) = by_test (x == n) refl (contains-or-not n xs)
  where
    by_rest : (x == n) ≡ false → Contains xs n ⊎ (Contains xs n → ⊥) → Contains (x ∷ xs) n ⊎ (Contains (x ∷ xs) n → ⊥)
    by_rest h (inl found) = inl (Contains-append_right (x ∷ []) xs n found)
    by_rest h (inr none) = inr (λ found. none (Contains-tail x xs n (λ same. true≢false (sym (same-eqb x n same) ∙ h)) found))

    by_test : (b : Bool) → (x == n) ≡ b → Contains xs n ⊎ (Contains xs n → ⊥) → Contains (x ∷ xs) n ⊎ (Contains (x ∷ xs) n → ⊥)
    by_test true h rest = inl (0, omega arith, eqb-same x n h)
    by_test false h rest = by_rest h rest

-- a phase more
pub run-more : (d : DeviceName) (done : Phases) (phase : Phase) (ps rs : DevicePasses) → HaveRun d done ps → AreAllOfDevice d rs → IsPhaseRun d phase ps rs
    → HaveRun d (done ++ plain_phase phase ∷ []) rs
run-more d done phase ps rs so all run = record {
  hosts = subst (λ (k : ℕ). MAX_HOSTS ≤ k) (sym run.seats) so.hosts;
  all = all;
  idle = run.idle;
  none = λ n r home. none n r home (contains-or-not n (hosts_of phase.hosts));
  done_so_far = made;
  did = λ n r home.
      (let before = home-before d ps rs n r so.all run.seats home in
      let far = run.further n before.0 r before.1 home in
      let begins : BeginsWith (seen_by r) (seen_by before.0) = record { rest = far.back.seen.0; whole = far.back.seen.1 } in
      grown done (plain_phase phase) (seen_by before.0) (seen_by r) (so.did n before.0 before.1) begins (run.done done n r so.done_so_far home));
}
  where
    none : (n : ℕ) (r : DevicePass) → at_home rs n ≡ Some r → Contains (hosts_of phase.hosts) n ⊎ (Contains (hosts_of phase.hosts) n → ⊥) → outstanding_by r ≡ []
    none n r home (inl acts) = run.none n r acts home
    none n r home (inr other) =
        let before = home-before d ps rs n r so.all run.seats home in
        run.others n before.0 r other before.1 home ∙ so.none n before.0 before.1

    made : HaveDoneSoFar (done ++ plain_phase phase ∷ []) rs
    made n r host home =
        let before = home-before d ps rs n r so.all run.seats home in
        let far = run.further n before.0 r before.1 home in
        let there : items_by n far.more ≡ items_in_phase n (plain_phase phase) =
        subst (λ (k : ℕ). items_by k far.more ≡ items_in_phase n (plain_phase phase)) (home-party d ps n before.0 so.all before.1) far.did in
        ap (items_by n) far.made
        ∙ (items-append n (made_by before.0) far.more
        ∙ (ap₂ (λ (us vs : List PlainItem). us ++ vs) (so.done_so_far n before.0 host before.1) there
        ∙ (ap (λ (items : List PlainItem). items_in n done ++ items) (sym (append-nil (items_in_phase n (plain_phase phase))))
        ∙ sym (planned-append n done (plain_phase phase ∷ [])))))

-- of the phases of a plan these are left, and those before are run
pub record HasPhasesLeft (d : DeviceName) (plan left : List Phase) (ps : DevicePasses) : Type 0 where
  pub done : Phases
  pub split : done ++ plain_phases left ≡ plain_phases plan
  pub rules : AllByRecursion (KeepsRules d.config.depth) left
  pub run : HaveRun d done ps

pub all-phases-left : (d : DeviceName) (plan : List Phase) (ps : DevicePasses) → All (KeepsRules d.config.depth) plan → HaveRun d [] ps → HasPhasesLeft d plan plan ps
all-phases-left d plan ps rules run = record { done = []; split = refl; rules = every-of-All (KeepsRules d.config.depth) plan rules; run = run }

pub phase-left : (d : DeviceName) (plan left : List Phase) (phase : Phase) (ps rs : DevicePasses) (has : HasPhasesLeft d plan (phase ∷ left) ps) → AreAllOfDevice d rs
    → IsPhaseRun d phase ps rs → HasPhasesLeft d plan left rs
phase-left d plan left phase ps rs has all run = record {
  done = has.done ++ plain_phase phase ∷ [];
  split = append_assoc has.done (plain_phase phase ∷ []) (plain_phases left) ∙ has.split;
  rules = has.rules.1;
  run = run-more d has.done phase ps rs has.run all run;
}

pub no-phase-left : (d : DeviceName) (plan : List Phase) (ps : DevicePasses) → HasPhasesLeft d plan [] ps → HaveRun d (plain_phases plan) ps
no-phase-left d plan ps has = subst (λ (done : Phases). HaveRun d done ps) (sym (append-nil has.done) ∙ has.split) has.run

pub no-phases : (xs : List Phase) → length xs ≡ 0 → xs ≡ []
no-phases [] e = refl
no-phases (x ∷ xs) e = absurd (omega arith)

-- none of the hosts of a phase has an outstanding command
pub none-by-hosts : (d : DeviceName) (done : Phases) (hosts : List ℕ) (ps : DevicePasses) → HaveRun d done ps → HaveNoneOutstanding hosts ps
none-by-hosts d done hosts ps run n p acts home = run.none n p home

-- ---- the end

-- in a trail that all passes fit, the hosts did what the passes say
pub closed-did : (d : DeviceName) (phases : Phases) (ps : DevicePasses) (trail : Trail) → MAX_HOSTS ≤ seats_in ps → AreAllOfDevice d ps → HaveDoneSoFar phases ps
    → ((n : ℕ) (p : DevicePass) → at_home ps n ≡ Some p → HostsDid phases (seen_by p))
    → ((n : ℕ) (p : DevicePass) → at_home ps n ≡ Some p → FitsTrail party_of_event n (seen_by p) (made_by p) trail) → HostsDid phases trail
closed-did d phases ps trail enough all done did fits =
    let first = all.all.each 1 (omega arith) (omega (arith, enough)) in
    let fit = fits 1 first.0 first.1.home in
    let begins : BeginsWith trail (seen_by first.0) = record { rest = fit.0.0; whole = fit.0.1 } in
    stayed phases (seen_by first.0) trail (did 1 first.0 first.1.home) begins
    (λ host is. (let low = is.1 in let there = all.all.each host is.0 (omega (arith, low, enough)) in
    sym (items-own host trail) ∙ (ap (items_by host) (fits host there.0 there.1.home).1 ∙ done host there.0 is there.1.home)))
