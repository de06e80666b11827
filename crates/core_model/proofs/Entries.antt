-- The places of the entries tell the history.
use Rattle.std.proofs.Common.{◌≡◌, ℕ, zero, suc, ◌<◌, Bool, List, [], ◌∷◌, ◌++◌, append-nil, append_assoc, length, Option, Some, None, option_map, refl, sym, ap, subst, ◌∙◌, arith, if◌then◌else◌, slice_get, IsSomeAnd}
use Rattle.std.specs.Prelude.{option_and_then}
use Rattle.cp_base.specs.Answer.{Answer, only_status}
use Rattle.cp_base.specs.Configuration.{Configuration}
use Rattle.cp_base.specs.declared.replies.Status.TheVariants as status
use Rattle.trail_model.specs.Lawful.{IsAllowedIn, IsLawful, MayDo, MayFinish, Trail, history_of, world_of}
use Rattle.trail_model.specs.Linked.{ClaimLinked, NamesEarlier}
use Rattle.trail_model.specs.World.{Completion, OpenClaim, Submission, World, claim_at, completion_of, completions_by, first_world, request_at, submit_at, withdrawn_place}
use Rattle.trail_model.specs.declared.events.Event.{Event}
use Rattle.trail_model.specs.declared.events.Event.TheVariants as event
use Rattle.trail_model.proofs.Counts.{beginning-from, count-world, rest-from, world-append}
use Rattle.trail_model.proofs.Linked.{Works, each-request}
use Rattle.trail_model.proofs.Moving.{linked-world, withdrawn-queued}
use Rattle.trail_model.proofs.Sound.{some-and}
use Rattle.trail_model.proofs.Submits.{found-each, none-some, other-eqb, same-eqb, some-same, submit-place}
use Rattle.core_model.specs.Asked.{asked_by_request, asked_in}
use Rattle.core_model.specs.Parts.{EntryPlaces, Parts}
use Rattle.core_model.specs.Telling.{TellEntries, TellsEntry, reply_in}
use Rattle.core_model.specs.Ties.{StandFor, entries_by, entries_of, entry_if, entry_of}
use Rattle.core_model.proofs.Reading.{asked-found}
use Rattle.core_model.proofs.Steps.{entries-after}

-- ---- a longer trail

slice-push : {A : Type 0} (xs : List A) (y x : A) (k : ℕ) → slice_get xs k ≡ Some x → slice_get (xs ++ y ∷ []) k ≡ Some x
slice-push [] y x k e = absurd (none-some x e)
slice-push (z ∷ xs) y x zero e = e
slice-push (z ∷ xs) y x (suc k) e = slice-push xs y x k e

slice-last : {A : Type 0} (xs : List A) (y : A) → slice_get (xs ++ y ∷ []) (length xs) ≡ Some y
slice-last [] y = refl
slice-last (x ∷ xs) y = slice-last xs y

-- what is read at a place of a trail is read there in a longer one
read-push : {B : Type 0} (f : Event → Option B) (trail : Trail) (new : Event) (k : ℕ) (b : B) → option_and_then f (slice_get trail k) ≡ Some b
    → option_and_then f (slice_get (trail ++ new ∷ []) k) ≡ Some b
read-push f trail new k b e = by_found (slice_get trail k) refl e
  where
    by_found : (o : Option Event) → slice_get trail k ≡ o → option_and_then f o ≡ Some b → option_and_then f (slice_get (trail ++ new ∷ []) k) ≡ Some b
    by_found None found e = absurd (none-some b e)
    by_found (Some x) found e = ap (λ (o : Option Event). option_and_then f o) (slice-push trail new x k found) ∙ e

tells-push : (trail : Trail) (new : Event) (e : EntryPlaces) (done : Completion) → TellsEntry trail e done → TellsEntry (trail ++ new ∷ []) e done
tells-push trail new e done h = record {
  asked = read-push asked_in trail new e.sent (asked_by_request done.request) h.asked;
  reply = read-push (reply_in e.sent) trail new e.posted done.answer h.reply;
}

all-push : (trail : Trail) (new : Event) (es : List EntryPlaces) (history : List Completion) → TellEntries trail es history → TellEntries (trail ++ new ∷ []) es history
all-push trail new [] [] h = tt
all-push trail new (e ∷ es) (done ∷ history) h = (tells-push trail new e done h.0, all-push trail new es history h.1)
all-push trail new [] (done ∷ history) h = absurd h
all-push trail new (e ∷ es) [] h = absurd h

tell-append : (trail : Trail) (es es' : List EntryPlaces) (history history' : List Completion) → TellEntries trail es history → TellEntries trail es' history'
    → TellEntries trail (es ++ es') (history ++ history')
tell-append trail [] es' [] history' h h' = h'
tell-append trail (e ∷ es) es' (done ∷ history) history' h h' = (h.0, tell-append trail es es' history history' h.1 h')
tell-append trail [] es' (done ∷ history) history' h h' = absurd h
tell-append trail (e ∷ es) es' [] history' h h' = absurd h

-- ---- one event more

module _ (c : Configuration) (commands : ℕ) (trail : Trail) (new : Event) (lawful : IsLawful c commands trail) where
  at-end : slice_get (trail ++ new ∷ []) (world_of c trail).count ≡ Some new
  at-end = subst (λ (n : ℕ). slice_get (trail ++ new ∷ []) n ≡ Some new) (sym (count-world c trail)) (slice-last trail new)

  -- the entry of a submit whose command the new event ends with this answer
  tells-new : (place : ℕ) (s : Submission) (answer : Answer) → submit_at (world_of c trail).submits place ≡ Some s → reply_in place new ≡ Some answer
      → TellsEntry (trail ++ new ∷ []) (entry_of (world_of c trail).count place) (let done : Completion = record { request = s.request; answer = answer } in done)
  tells-new place s answer found reply = record {
    asked = read-push asked_in trail new place (asked_by_request s.request) (asked-found c commands trail place s lawful found);
    reply = ap (λ (o : Option Event). option_and_then (reply_in place) o) at-end ∙ reply;
  }

told-by : (c : Configuration) (commands : ℕ) (trail : Trail) (e : Event) → IsLawful c commands trail → IsAllowedIn c commands (world_of c trail) e
    → TellEntries (trail ++ e ∷ []) (entries_by (world_of c trail) e) (completions_by (world_of c trail) e)
told-by c commands trail (event.Submit by cid ordinal cmd) lawful allowed = tt
told-by c commands trail (event.Claim by host ordinal sent) lawful allowed = tt
told-by c commands trail (event.Finish by place answer) lawful allowed =
    let w : World = world_of c trail in
    let e : Event = event.Finish by place answer in
    let found = some-and (λ (x : OpenClaim). MayFinish c by answer x) (claim_at w.claims place) allowed in
    let claim : OpenClaim = found.0 in
    let own : ClaimLinked w claim = found-each (ClaimLinked w) _ w.claims claim (linked-world c commands trail lawful).claims found.1 in
    subst (λ (o : Option OpenClaim). TellEntries (trail ++ e ∷ []) (entry_if w.count (option_map (λ (x : OpenClaim). x.request.place) o))
    (completion_of answer (option_map (λ (x : OpenClaim). x.request) o))) (sym found.1)
    (tells-new c commands trail e lawful claim.request.place (Works claim.request) answer own.submit refl, tt)
told-by c commands trail (event.Do by host ordinal sent answer aborts) lawful allowed =
    let w : World = world_of c trail in
    let e : Event = event.Do by host ordinal sent answer aborts in
    let found = some-and (λ (s : Submission). MayDo c w by host ordinal answer aborts s) (submit_at w.submits sent) allowed in
    subst (λ (o : Option Submission). TellEntries (trail ++ e ∷ []) (entry_of w.count sent ∷ entry_if w.count aborts)
    (completion_of answer (option_map (λ (s : Submission). s.request) o) ++ completion_of (only_status status.Aborted) (option_and_then (λ place. request_at w.submits place) aborts)))
    (sym found.1) (
      tells-new c commands trail e lawful sent found.0 answer found.1
          (ap (λ (b : Bool). Some (if b then answer else only_status status.Aborted)) (same-eqb sent sent refl)),
      by_aborts found.0 found.1 found.2.withdraws aborts refl,
    )
  where
    by_aborts : (s : Submission) → submit_at (world_of c trail).submits sent ≡ Some s → aborts ≡ withdrawn_place (world_of c trail).submits s.request → (o : Option ℕ) → aborts ≡ o
        → TellEntries (trail ++ event.Do by host ordinal sent answer aborts ∷ []) (entry_if (world_of c trail).count o)
        (completion_of (only_status status.Aborted) (option_and_then (λ place. request_at (world_of c trail).submits place) o))
    by_aborts s here withdraws None e = tt
    by_aborts s here withdraws (Some place) e =
        let w : World = world_of c trail in
        let new : Event = event.Do by host ordinal sent answer aborts in
        let other = withdrawn-queued w.submits s.request place (sym withdraws ∙ e) in
        let at = submit-place w.submits sent s here in
        let earlier : place < s.request.place =
        found-each (λ (y : Submission). NamesEarlier y.request) _ w.submits s (each-request NamesEarlier w.submits (linked-world c commands trail lawful).names) here place other.3 in
        subst (λ (o : Option Submission). TellEntries (trail ++ new ∷ []) (entry_of w.count place ∷ [])
        (completion_of (only_status status.Aborted) (option_map (λ (x : Submission). x.request) o))) (sym other.1) (
          tells-new c commands trail new lawful place other.0 (only_status status.Aborted) other.1
              (ap (λ (b : Bool). Some (if b then answer else only_status status.Aborted)) (other-eqb sent place (λ same. omega arith))),
          tt,
        )
told-by c commands trail (event.Take by cid posted) lawful allowed = tt
told-by c commands trail (event.Rest by) lawful allowed = tt

tell-more : (c : Configuration) (commands : ℕ) (trail more : Trail) → IsLawful c commands (trail ++ more) → TellEntries trail (entries_of c trail) (history_of c trail)
    → TellEntries (trail ++ more) (entries_of c (trail ++ more)) (history_of c (trail ++ more))
tell-more c commands trail [] lawful told =
    subst (λ (t : Trail). TellEntries t (entries_of c t) (history_of c t)) (sym (append-nil trail)) told
tell-more c commands trail (e ∷ more) lawful told =
    let seen = beginning-from c commands (first_world c) trail (e ∷ more) lawful in
    let allowed = (rest-from c commands (first_world c) trail (e ∷ more) lawful).0 in
    let both : TellEntries (trail ++ e ∷ []) (entries_of c trail ++ entries_by (world_of c trail) e) (history_of c trail ++ completions_by (world_of c trail) e) =
    tell-append (trail ++ e ∷ []) (entries_of c trail) (entries_by (world_of c trail) e) (history_of c trail) (completions_by (world_of c trail) e)
    (all-push trail e (entries_of c trail) (history_of c trail) told) (told-by c commands trail e seen allowed) in
    let next : TellEntries (trail ++ e ∷ []) (entries_of c (trail ++ e ∷ [])) (history_of c (trail ++ e ∷ [])) =
    subst (λ (w : World). TellEntries (trail ++ e ∷ []) (entries_of c (trail ++ e ∷ [])) w.history) (sym (world-append c (first_world c) trail (e ∷ [])))
    (subst (λ (es : List EntryPlaces). TellEntries (trail ++ e ∷ []) es (history_of c trail ++ completions_by (world_of c trail) e)) (sym (entries-after c trail e)) both) in
    subst (λ (t : Trail). TellEntries t (entries_of c t) (history_of c t)) (append_assoc trail (e ∷ []) more)
    (tell-more c commands (trail ++ e ∷ []) more (subst (λ (t : Trail). IsLawful c commands t) (sym (append_assoc trail (e ∷ []) more)) lawful) next)

pub entries-told : (c : Configuration) (commands : ℕ) (p : Parts) (trail : Trail) → StandFor c commands p trail → TellEntries trail p.entries (history_of c trail)
entries-told c commands p trail stand =
    subst (λ (es : List EntryPlaces). TellEntries trail es (history_of c trail)) (sym stand.entries) (tell-more c commands [] trail stand.lawful tt)

-- ---- one by one

same-number : (trail : Trail) (es : List EntryPlaces) (history : List Completion) → TellEntries trail es history → length es ≡ length history
same-number trail [] [] h = refl
same-number trail (e ∷ es) (done ∷ history) h = ap suc (same-number trail es history h.1)
same-number trail [] (done ∷ history) h = absurd h
same-number trail (e ∷ es) [] h = absurd h

tells-one : (trail : Trail) (es : List EntryPlaces) (history : List Completion) (k : ℕ) (e : EntryPlaces) → TellEntries trail es history → slice_get es k ≡ Some e
    → IsSomeAnd (slice_get history k) (TellsEntry trail e)
tells-one trail [] history k e h found = absurd (none-some e found)
tells-one trail (x ∷ es) [] k e h found = absurd h
tells-one trail (x ∷ es) (done ∷ history) zero e h found = subst (λ (y : EntryPlaces). TellsEntry trail y done) (some-same x e found) h.0
tells-one trail (x ∷ es) (done ∷ history) (suc k) e h found = tells-one trail es history k e h.1 found

pub entry-told : (c : Configuration) (commands : ℕ) (p : Parts) (trail : Trail) (k : ℕ) (e : EntryPlaces) → StandFor c commands p trail → slice_get p.entries k ≡ Some e
    → IsSomeAnd (slice_get (history_of c trail) k) (TellsEntry trail e)
entry-told c commands p trail k e stand found = tells-one trail p.entries (history_of c trail) k e (entries-told c commands p trail stand) found

pub entries-number : (c : Configuration) (commands : ℕ) (p : Parts) (trail : Trail) → StandFor c commands p trail → length p.entries ≡ length (history_of c trail)
entries-number c commands p trail stand = same-number trail p.entries (history_of c trail) (entries-told c commands p trail stand)
