-- What holds in the world of every lawful trail: the history replays to the state, each open claim finds itself as it was
-- made, and no two of them meet.
use Rattle.std.proofs.Common.{◌≡◌, ℕ, zero, suc, ◌*◌, ◌==◌, unwrap_or, zero-mul, Bool, true, false, not, ◌||◌, List, [], ◌∷◌, ◌++◌, append-nil, length, Option, Some, None, option_map, is_none, is_some, refl, sym, ap, subst, ◌∙◌, inl, inr, if◌then◌else◌, IsSomeAnd}
use Rattle.std.specs.List.{AllByRecursion, list_any}
use Rattle.std.specs.Prelude.{option_and_then}
use Rattle.std.proofs.lemmas.Bool.{true≢false}
use Rattle.std.proofs.lemmas.List.{length-replicate}
use Rattle.cp_base.specs.Answer.{Answer, only_status}
use Rattle.cp_base.specs.Configuration.{Configuration, numbered, present, size_of}
use Rattle.cp_base.specs.Contents.{Contents, bytes_of, zeros}
use Rattle.cp_base.specs.Region.{Region}
use Rattle.cp_base.specs.Touching.{meets}
use Rattle.cp_base.specs.declared.commands.Command.{Command}
use Rattle.cp_base.specs.declared.commands.Command.TheVariants as command
use Rattle.cp_base.specs.declared.region.SpaceId.{SpaceId}
use Rattle.cp_base.specs.declared.region.SpaceId.TheVariants.{Nvm, Mem}
use Rattle.cp_base.specs.declared.replies.Status.TheVariants as status
use Rattle.device_model.specs.Checks.{refusal_of}
use Rattle.device_model.specs.Effect.{effect_of}
use Rattle.device_model.specs.Execution.{Outcome}
use Rattle.device_model.specs.Memory.{moves_bytes}
use Rattle.device_model.specs.State.{State, opening}
use Rattle.device_model.specs.Step.{DeviceStep, outcome_of, refused_or_done}
use Rattle.trail_model.specs.Claims.{DoNotMeet, FindsItself}
use Rattle.trail_model.specs.Each.{EachTwo}
use Rattle.trail_model.specs.Fits.{StateFits}
use Rattle.trail_model.specs.Footprints.{Execution, carried_regions, cut_for, execution_of, held_set, held_slot, writes_of}
use Rattle.trail_model.specs.Histories.{LeadsTo}
use Rattle.trail_model.specs.Lawful.{IsAllowedIn, IsLawful, IsLawfulFrom, MayAnswer, MayClaim, MayDo, MayFinish, Trail, done_answer, world_from, world_of}
use Rattle.trail_model.specs.LocalEffects.{LocalEffect, local_effect, put_back, written}
use Rattle.trail_model.specs.Pieces.{RegionBytes, all_bytes, pieces_of}
use Rattle.trail_model.specs.World.{Completion, OpenClaim, Request, Submission, World, brought_home, changes_held, claim_at, claim_of, claimed_footprint, completion_of, effect_of_claim, first_world, is_free, is_no_memory, is_number, is_pickable, outstanding_under, request_at, state_after, submit_at, with_claim, with_done, with_finish, with_take, without_claim, world_after}
use Rattle.trail_model.specs.declared.events.Event.{Event}
use Rattle.trail_model.specs.declared.events.Event.TheVariants as event
use Rattle.trail_model.proofs.Bytes.{AreInContents, item}
use Rattle.trail_model.proofs.Carrying.{carried-inside, carried-touched, effect-local, local-written, written-regions, written-whole}
use Rattle.trail_model.proofs.Passing.{lies-inside}
use Rattle.trail_model.proofs.Putting.{cut-same, inside-kept, put_pieces-length, put_pieces-outside, regions_of}
use Rattle.trail_model.proofs.Regions.{AreClear, IsInSome, clear, clear-swap, in-runs}
use Rattle.trail_model.proofs.Submits.{claim-place, eqb-same, each-append, each-both, each-weaker, found-each, two-push, without-each, without-related, without-two}
use Rattle.trail_model.proofs.Tables.{bytes-keep, change-fits, change-keeps, finds-kept, still-bytes}

-- state, open claims and history belong together
pub record Sound (c : Configuration) (s : State) (claims : List OpenClaim) (history : List Completion) : Type 0 where
  pub fits : StateFits c s
  pub replays : LeadsTo c (opening c) history s
  pub own : AllByRecursion (FindsItself c s) claims
  pub clear : EachTwo (DoNotMeet c) claims

abbrev pub SoundWorld : Configuration → World → Type 0
SoundWorld c w = Sound c w.state w.claims w.history

-- ---- small facts

pub some-and : {A : Type 0} (P : A → Type 0) (o : Option A) → IsSomeAnd o P → (x : A) × (o ≡ Some x) × P x
some-and P None h = absurd h
some-and P (Some x) h = (x, refl, h)

pub is-none : {A : Type 0} (o : Option A) → is_none o ≡ true → o ≡ None
is-none None e = refl
is-none (Some x) e = absurd (true≢false (sym e))

pub not-true : (b : Bool) → not b ≡ true → b ≡ false
not-true true e = absurd (true≢false (sym e))
not-true false e = refl

any-false : {A : Type 0} (test : A → Bool) (xs : List A) → list_any test xs ≡ false → AllByRecursion (λ x. test x ≡ false) xs
any-false test [] e = tt
any-false test (x ∷ xs) e = by_test (test x) refl e (any-false test xs)
  where
    by_test : (b : Bool) → test x ≡ b → (b || list_any test xs) ≡ false → (list_any test xs ≡ false → AllByRecursion (λ x. test x ≡ false) xs)
        → (test x ≡ false) × AllByRecursion (λ x. test x ≡ false) xs
    by_test true h e later = absurd (true≢false e)
    by_test false h e later = (h, later e)

leads-append : (c : Configuration) (s t u : State) (h h' : List Completion) → LeadsTo c s h t → LeadsTo c t h' u → LeadsTo c s (h ++ h') u
leads-append c s t u [] h' here rest = subst (λ (x : State). LeadsTo c x h' u) (sym here) rest
leads-append c s t u (done ∷ h) h' (next, step, more) rest = (next, step, leads-append c next t u h h' more rest)

-- ---- nothing changes

silent : (c : Configuration) (s : State) (claims : List OpenClaim) (history : List Completion) → Sound c s claims history → Sound c s claims (history ++ [])
silent c s claims history sound = subst (λ (h : List Completion). Sound c s claims h) (sym (append-nil history)) sound

-- ---- a claim

claim-sound : (c : Configuration) (w : World) (by host ordinal : ℕ) (s : Submission) → SoundWorld c w → MayClaim c w by host ordinal s
    → Sound c w.state (w.claims ++ claim_of c w by s.request ∷ []) w.history
claim-sound c w by host ordinal s sound may =
    let new : OpenClaim = claim_of c w by s.request in
    let own : FindsItself c w.state new = record { passes = is-none (refusal_of c w.state s.request.command) may.passes; moves = may.moves; execution = refl; pieces = refl } in
    record {
      fits = sound.fits;
      replays = sound.replays;
      own = each-append (FindsItself c w.state) w.claims (new ∷ []) sound.own (own, tt);
      clear = two-push (DoNotMeet c) w.claims new sound.clear
          (any-false (λ (claim : OpenClaim). meets (claimed_footprint c new) (claimed_footprint c claim)) w.claims (not-true _ may.free));
    }

-- ---- a finish

module _ (c : Configuration) (s : State) (claim : OpenClaim) (fits : StateFits c s) (finds : FindsItself c s claim) where
  -- what the claim comes to is what its command writes in the state
  claim-effect : effect_of_claim c claim ≡ written c (execution_of s claim.request.command) (all_bytes s.contents) claim.request.command
  claim-effect =
      sym (ap (λ (x : Execution). local_effect c x claim.pieces claim.request.command) finds.execution)
      ∙ (sym (ap (λ (ps : List RegionBytes). local_effect c (execution_of s claim.request.command) ps claim.request.command) finds.pieces)
      ∙ local-written c s claim.request.command fits finds.passes)

  pub finish-step : (answer : Answer) → answer ≡ (effect_of_claim c claim).answer → DeviceStep c s claim.request.command answer (brought_home c s claim)
  finish-step answer told =
      let same : effect_of c s claim.request.command ≡ put_back s (effect_of_claim c claim) =
      effect-local c s claim.request.command fits finds.passes finds.moves
      ∙ (ap (λ (x : Execution). put_back s (local_effect c x (cut_for c s claim.request.command) claim.request.command)) finds.execution
      ∙ ap (λ (ps : List RegionBytes). put_back s (local_effect c claim.execution ps claim.request.command)) finds.pieces) in
      inl (ap (λ (o : Option Answer). refused_or_done s o (effect_of c s claim.request.command)) finds.passes
      ∙ (same ∙ ap (λ (a : Answer). let o : Outcome = record { answer = a; next = brought_home c s claim } in o) (sym told)))

  pieces-inside : AreInContents s.contents (regions_of (written c (execution_of s claim.request.command) (all_bytes s.contents) claim.request.command).pieces)
  pieces-inside = subst (λ (rs : List Region). AreInContents s.contents rs) (sym (written-regions c (execution_of s claim.request.command) (all_bytes s.contents) claim.request.command))
      (lies-inside c s claim.request.command fits finds.passes).writes

pub home-length : (c : Configuration) (s : State) (claim : OpenClaim) → StateFits c s → FindsItself c s claim → (t : SpaceId)
    → length (bytes_of (brought_home c s claim).contents t) ≡ length (bytes_of s.contents t)
home-length c s claim fits finds t =
    ap (λ (e : LocalEffect). length (bytes_of (put_back s e).next.contents t)) (claim-effect c s claim fits finds)
    ∙ put_pieces-length s.contents (written c (execution_of s claim.request.command) (all_bytes s.contents) claim.request.command).pieces
    (written-whole c (execution_of s claim.request.command) (all_bytes s.contents) claim.request.command) (pieces-inside c s claim fits finds) t

-- a byte that the claim may not write stays
pub home-outside : (c : Configuration) (s : State) (claim : OpenClaim) → StateFits c s → FindsItself c s claim → (t : SpaceId) (k : ℕ)
    → (IsInSome (claimed_footprint c claim).writes t k → ⊥) → all_bytes (brought_home c s claim).contents t k ≡ all_bytes s.contents t k
home-outside c s claim fits finds t k out =
    let x : Execution = execution_of s claim.request.command in
    ap (λ (e : LocalEffect). all_bytes (put_back s e).next.contents t k) (claim-effect c s claim fits finds)
    ∙ put_pieces-outside s.contents (written c x (all_bytes s.contents) claim.request.command).pieces
    (written-whole c x (all_bytes s.contents) claim.request.command) (pieces-inside c s claim fits finds) t k
    (λ there. out (in-runs (writes_of c claim.execution.ranges claim.request.command) t k
    (subst (λ (y : Execution). IsInSome (writes_of c y.ranges claim.request.command) t k) finds.execution
    (subst (λ (rs : List Region). IsInSome rs t k) (written-regions c x (all_bytes s.contents) claim.request.command) there))))

-- another open claim finds itself after a finish
other-finds : (c : Configuration) (s : State) (claim other : OpenClaim) → StateFits c s → FindsItself c s claim → FindsItself c s other
    → AreClear (claimed_footprint c claim) (claimed_footprint c other) → FindsItself c (brought_home c s claim) other
other-finds c s claim other fits finds others apart =
    let cmd : Command = other.request.command in
    let regions : List Region = carried_regions c other.execution.ranges cmd in
    let there = lies-inside c s cmd fits others.passes in
    let inside : AreInContents s.contents regions =
    subst (λ (x : Execution). AreInContents s.contents (carried_regions c x.ranges cmd)) others.execution
    (carried-inside c s.contents (execution_of s cmd).ranges cmd there.reads there.writes) in
    let inside' : AreInContents (brought_home c s claim).contents regions =
    inside-kept s.contents (brought_home c s claim).contents regions (home-length c s claim fits finds) inside in
    finds-kept c s (brought_home c s claim) other others (bytes-keep s (brought_home c s claim).contents cmd)
    (cut-same (brought_home c s claim).contents s.contents regions inside' inside
    (λ t k touched. home-outside c s claim fits finds t k (λ mine. apart.first t k mine (carried-touched c other.execution.ranges cmd t k touched))))

finish-sound : (c : Configuration) (w : World) (place by : ℕ) (answer : Answer) (claim : OpenClaim) → SoundWorld c w → claim_at w.claims place ≡ Some claim
    → MayFinish c by answer claim
    → Sound c (brought_home c w.state claim) (without_claim place w.claims) (w.history ++ (let done : Completion = record { request = claim.request; answer = answer } in done) ∷ [])
finish-sound c w place by answer claim sound found may =
    let finds : FindsItself c w.state claim = found-each (FindsItself c w.state) _ w.claims claim sound.own found in
    let apart : EachTwo (λ (a b : OpenClaim). AreClear (claimed_footprint c a) (claimed_footprint c b)) w.claims = both_ways w.claims sound.clear in
    record {
      fits = record {
        sizes = λ t. home-length c w.state claim sound.fits finds t ∙ sound.fits.sizes t;
        sets = sound.fits.sets;
      };
      replays = leads-append c (opening c) w.state (brought_home c w.state claim) w.history _ sound.replays
          (brought_home c w.state claim, finish-step c w.state claim sound.fits finds answer may.told, refl);
      own = each-weaker (λ (other : OpenClaim). AreClear (claimed_footprint c claim) (claimed_footprint c other) × FindsItself c w.state other)
          (FindsItself c (brought_home c w.state claim)) (λ other both. other-finds c w.state claim other sound.fits finds both.1 both.0)
          (without_claim place w.claims)
          (each-both (λ (other : OpenClaim). AreClear (claimed_footprint c claim) (claimed_footprint c other)) (FindsItself c w.state) (without_claim place w.claims)
          (without-related (λ (a b : OpenClaim). AreClear (claimed_footprint c a) (claimed_footprint c b))
          (λ a b h. clear-swap (claimed_footprint c a) (claimed_footprint c b) h) place w.claims claim apart found)
          (without-each (FindsItself c w.state) place w.claims sound.own));
      clear = without-two (DoNotMeet c) place w.claims sound.clear;
    }
  where
    both_ways : (claims : List OpenClaim) → EachTwo (DoNotMeet c) claims → EachTwo (λ (a b : OpenClaim). AreClear (claimed_footprint c a) (claimed_footprint c b)) claims
    both_ways [] all = tt
    both_ways (x ∷ claims) all = (
      each-weaker (DoNotMeet c x) (λ (y : OpenClaim). AreClear (claimed_footprint c x) (claimed_footprint c y))
          (λ y none. clear-swap (claimed_footprint c y) (claimed_footprint c x) (clear (claimed_footprint c y) (claimed_footprint c x) none)) claims all.0,
      both_ways claims all.1,
    )

-- ---- a command done at once

done-step : (c : Configuration) (w : World) (cmd : Command) (aborts : Option ℕ) (answer : Answer) → answer ≡ done_answer c w cmd aborts
    → DeviceStep c w.state cmd answer (outcome_of c w.state cmd).next
done-step c w (command.Abort cid) None answer told = inl (ap (λ (a : Answer). let o : Outcome = record { answer = a; next = w.state } in o) (sym told))
done-step c w (command.Abort cid) (Some place) answer told = inr (inr (inr (record { cid = cid; aborts = refl; told = told; unchanged = refl })))
done-step c w cmd aborts answer told = inl (ap (λ (a : Answer). let o : Outcome = record { answer = a; next = (outcome_of c w.state cmd).next } in o) (sym told))

held-each : (claims : List OpenClaim) (cmd : Command) → changes_held claims cmd ≡ false → AllByRecursion (λ (claim : OpenClaim). changes_held (claim ∷ []) cmd ≡ false) claims
held-each claims (command.SetDelete set) e =
    each-weaker _ _ (λ (claim : OpenClaim) h. ap (λ (b : Bool). b || false) h) claims
    (any-false (λ (claim : OpenClaim). is_number set (held_set claim.request.command)) claims e)
held-each claims (command.Deactivate slot) e =
    each-weaker _ _ (λ (claim : OpenClaim) h. ap (λ (b : Bool). b || false) h) claims
    (any-false (λ (claim : OpenClaim). is_number slot (held_slot claim.request.command)) claims e)
held-each claims cmd e = each-all claims
  where
    each-all : (claims : List OpenClaim) → AllByRecursion (λ (claim : OpenClaim). changes_held (claim ∷ []) cmd ≡ false) claims
    each-all [] = tt
    each-all (claim ∷ claims) = (refl, each-all claims)

-- the state after a command that was done at once fits, and each open claim finds itself in it
pub record Unharmed (c : Configuration) (next : State) (claims : List OpenClaim) : Type 0 where
  pub fits : StateFits c next
  pub own : AllByRecursion (FindsItself c next) claims

unharmed : (c : Configuration) (w : World) (cmd : Command) → SoundWorld c w → is_pickable c w cmd ≡ true
    → (not (moves_bytes cmd) || is_some (refusal_of c w.state cmd)) ≡ true → Unharmed c (outcome_of c w.state cmd).next w.claims
unharmed c w cmd sound pickable at_once = by_refusal (refusal_of c w.state cmd) refl pickable at_once
  where
    still : (b : Bool) → (not b || false) ≡ true → b ≡ false
    still true e = absurd (true≢false (sym e))
    still false e = refl

    free : (b held : Bool) → b ≡ false → (if b then is_free c w cmd else not held) ≡ true → held ≡ false
    free true held e h = absurd (true≢false e)
    free false held e h = not-true held h

    by_refusal : (o : Option Answer) → refusal_of c w.state cmd ≡ o → (is_some o || (if moves_bytes cmd then is_free c w cmd else not (changes_held w.claims cmd))) ≡ true
        → (not (moves_bytes cmd) || is_some o) ≡ true → Unharmed c (refused_or_done w.state o (effect_of c w.state cmd)).next w.claims
    by_refusal (Some answer) e pick once = record { fits = sound.fits; own = sound.own }
    by_refusal None e pick once =
        let quiet : moves_bytes cmd ≡ false = still (moves_bytes cmd) once in
        let none : changes_held w.claims cmd ≡ false = free (moves_bytes cmd) (changes_held w.claims cmd) quiet pick in
        record {
          fits = change-fits c w.state cmd quiet e sound.fits;
          own = each-weaker (λ (claim : OpenClaim). (changes_held (claim ∷ []) cmd ≡ false) × FindsItself c w.state claim)
              (FindsItself c (effect_of c w.state cmd).next)
              (λ claim both. finds-kept c w.state (effect_of c w.state cmd).next claim both.1 (change-keeps c w.state cmd claim quiet e both.0 both.1)
              (ap (λ (contents : Contents). pieces_of contents (carried_regions c claim.execution.ranges claim.request.command)) (still-bytes c w.state cmd quiet)))
              w.claims
              (each-both (λ (claim : OpenClaim). changes_held (claim ∷ []) cmd ≡ false) (FindsItself c w.state) w.claims (held-each w.claims cmd none) sound.own);
        }

-- what is withdrawn changes nothing
withdrawn-leads : (c : Configuration) (s : State) (o : Option Request) → LeadsTo c s (completion_of (only_status status.Aborted) o) s
withdrawn-leads c s None = refl
withdrawn-leads c s (Some request) = (s, inr (inr (inl (record { told = refl; unchanged = refl }))), refl)

do-sound : (c : Configuration) (w : World) (by host ordinal : ℕ) (answer : Answer) (aborts : Option ℕ) (s : Submission) → SoundWorld c w → MayDo c w by host ordinal answer aborts s
    → Sound c (state_after c w.state s.request.command answer) w.claims
    (w.history ++ ((let done : Completion = record { request = s.request; answer = answer } in done) ∷ []
    ++ completion_of (only_status status.Aborted) (option_and_then (λ place. request_at w.submits place) aborts)))
do-sound c w by host ordinal answer aborts s sound may = by_memory (is_no_memory answer.status) may.told
  where
    so : (next : State) → DeviceStep c w.state s.request.command answer next → Unharmed c next w.claims → Sound c next w.claims
        (w.history ++ ((let d : Completion = record { request = s.request; answer = answer } in d) ∷ []
        ++ completion_of (only_status status.Aborted) (option_and_then (λ place. request_at w.submits place) aborts)))
    so next step kept = record {
      fits = kept.fits;
      replays = leads-append c (opening c) w.state next w.history _ sound.replays
          (leads-append c w.state next next ((let d : Completion = record { request = s.request; answer = answer } in d) ∷ []) _ (next, step, refl)
          (withdrawn-leads c next (option_and_then (λ place. request_at w.submits place) aborts)));
      own = kept.own;
      clear = sound.clear;
    }

    by_memory : (b : Bool) → MayAnswer b c w s.request.command aborts answer
        → Sound c (if b then w.state else (outcome_of c w.state s.request.command).next) w.claims
        (w.history ++ ((let d : Completion = record { request = s.request; answer = answer } in d) ∷ []
        ++ completion_of (only_status status.Aborted) (option_and_then (λ place. request_at w.submits place) aborts)))
    by_memory true told = so w.state (inr (inl (record { takes = told.1; told = told.0; unchanged = refl }))) (record { fits = sound.fits; own = sound.own })
    by_memory false told = so (outcome_of c w.state s.request.command).next (done-step c w s.request.command aborts answer told.0)
        (unharmed c w s.request.command sound may.pickable told.1)

-- ---- every event

pub sound-step : (c : Configuration) (commands : ℕ) (w : World) (e : Event) → SoundWorld c w → IsAllowedIn c commands w e → SoundWorld c (world_after c w e)
sound-step c commands w (event.Submit by cid ordinal cmd) sound allowed = silent c w.state w.claims w.history sound
sound-step c commands w (event.Claim by host ordinal sent) sound allowed =
    let found = some-and (λ (s : Submission). MayClaim c w by host ordinal s) (submit_at w.submits sent) allowed in
    subst (λ (o : Option Submission). Sound c (with_claim c w by o).state (with_claim c w by o).claims (w.history ++ [])) (sym found.1)
    (silent c w.state _ w.history (claim-sound c w by host ordinal found.0 sound found.2))
sound-step c commands w (event.Finish by claim answer) sound allowed =
    let found = some-and (λ (x : OpenClaim). MayFinish c by answer x) (claim_at w.claims claim) allowed in
    let place : found.0.place ≡ claim = claim-place w.claims claim found.0 found.1 in
    subst (λ (o : Option OpenClaim). Sound c (with_finish c w o).state (with_finish c w o).claims (w.history ++ completion_of answer (option_map (λ (x : OpenClaim). x.request) o))) (sym found.1)
    (finish-sound c w found.0.place by answer found.0 sound (subst (λ (p : ℕ). claim_at w.claims p ≡ Some found.0) (sym place) found.1) found.2)
sound-step c commands w (event.Do by host ordinal sent answer aborts) sound allowed =
    let found = some-and (λ (s : Submission). MayDo c w by host ordinal answer aborts s) (submit_at w.submits sent) allowed in
    subst (λ (o : Option Submission). Sound c (with_done c w answer aborts o).state (with_done c w answer aborts o).claims
    (w.history ++ (completion_of answer (option_map (λ (s : Submission). s.request) o)
    ++ completion_of (only_status status.Aborted) (option_and_then (λ place. request_at w.submits place) aborts)))) (sym found.1)
    (do-sound c w by host ordinal answer aborts found.0 sound found.2)
sound-step c commands w (event.Take by cid posted) sound allowed = by_found (outstanding_under w.submits by cid)
  where
    by_found : (o : Option Submission) → Sound c (with_take w o).state (with_take w o).claims (w.history ++ [])
    by_found None = silent c w.state w.claims w.history sound
    by_found (Some s) = silent c w.state w.claims w.history sound
sound-step c commands w (event.Rest by) sound allowed = silent c w.state w.claims w.history sound

pub sound-from : (c : Configuration) (commands : ℕ) (w : World) (trail : Trail) → SoundWorld c w → IsLawfulFrom c commands w trail → SoundWorld c (world_from c w trail)
sound-from c commands w [] sound lawful = sound
sound-from c commands w (e ∷ trail) sound lawful =
    sound-from c commands (world_after c w e) trail (sound-step c commands w e sound lawful.0) lawful.1

-- ---- the first world

zeros-item : (unit : ℕ) (sizes : List ℕ) (n : ℕ) → length (item (zeros unit sizes) n) ≡ unwrap_or (numbered sizes n) 0 * unit
zeros-item unit [] zero = sym (zero-mul unit)
zeros-item unit [] (suc n) = sym (zero-mul unit)
zeros-item unit (size ∷ sizes) zero = sym (zero-mul unit)
zeros-item unit (size ∷ sizes) (suc zero) = length-replicate (size * unit) 0
zeros-item unit (size ∷ sizes) (suc (suc n)) = zeros-item unit sizes (suc n)

sized : (unit : ℕ) (o : Option ℕ) → unwrap_or (present unit o) 0 ≡ unwrap_or o 0 * unit
sized unit None = sym (zero-mul unit)
sized unit (Some n) = by_zero (n == 0) refl
  where
    by_zero : (b : Bool) → (n == 0) ≡ b → unwrap_or (if b then None else Some (n * unit)) 0 ≡ n * unit
    by_zero true e = sym (ap (λ (m : ℕ). m * unit) (eqb-same n 0 e) ∙ zero-mul unit)
    by_zero false e = refl

opening-sizes : (c : Configuration) (t : SpaceId) → length (bytes_of (opening c).contents t) ≡ unwrap_or (size_of c t) 0
opening-sizes c (Nvm n) = zeros-item c.block c.nvm n ∙ sym (sized c.block (numbered c.nvm n))
opening-sizes c (Mem n) = zeros-item 1 c.mem n ∙ sym (sized 1 (numbered c.mem n))

pub sound-first : (c : Configuration) → SoundWorld c (first_world c)
sound-first c = record { fits = record { sizes = opening-sizes c; sets = tt }; replays = refl; own = tt; clear = tt }

pub sound-world : (c : Configuration) (commands : ℕ) (trail : Trail) → IsLawful c commands trail → SoundWorld c (world_of c trail)
sound-world c commands trail lawful = sound-from c commands (first_world c) trail (sound-first c) lawful
