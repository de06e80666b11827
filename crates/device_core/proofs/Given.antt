-- What a party is given that turned to a command.
use Rattle.std.proofs.Common.{◌≡◌, ℕ, List, [], ◌∷◌, ◌++◌, length, IsSomeAnd, slice_get, refl, sym, ap, subst, ◌∙◌}
use Rattle.std.proofs.lemmas.List.{length-map}
use Rattle.cp_base.specs.Configuration.{Configuration}
use Rattle.trail_model.specs.Lawful.{world_of}
use Rattle.trail_model.specs.World.{Submission, pickable_among, withdrawn_place}
use Rattle.trail_model.specs.declared.events.Event.{Event}
use Rattle.trail_model.specs.declared.events.Event.TheVariants as event
use Rattle.job_run.specs.declared.work.Work.{Work}
use Rattle.device_core.proofs.Stands.{one-more}
use Rattle.device_core.proofs.Turning.{some-and}
use Rattle.device_core.specs.Gives.{Claims, Does, Gives}
use Rattle.device_core.specs.Recorded.{Appends, Recorded, told_event, trail_of, with_event}
use Rattle.device_core.specs.Turns.{ClaimsBy, DoesBy, Turns}
use Rattle.device_core.specs.declared.answers.Picked.TheVariants as picked
use Rattle.device_core.specs.declared.claiming.Turned.{Turned}
use Rattle.device_core.specs.declared.claiming.Turned.TheVariants as turned
use Rattle.device_core.specs.declared.events.Event.{Event as KeptEvent}
use Rattle.device_core.specs.declared.keep.Keep.{Keep}

-- a device of these events
abbrev pub recorded : Configuration → ℕ → List KeptEvent → Recorded
recorded c commands events = record { config = c; commands = commands; trail = trail_of events }

appended : (c : Configuration) (commands : ℕ) (events now : List KeptEvent) (e : KeptEvent) (told : Event) → now ≡ events ++ e ∷ [] → told_event e ≡ told
    → Appends (recorded c commands events) (recorded c commands now) told
appended c commands events now e told longer same =
    ap (λ (es : List KeptEvent). recorded c commands es) longer
    ∙ (λ k. record { config = c; commands = commands; trail = one-more events e k })
    ∙ ap (λ (x : Event). with_event (recorded c commands events) x) same

-- what a turn comes to by the events that were read
pub read-as : (c : Configuration) (commands : ℕ) (events read : List KeptEvent) (by skip : ℕ) (t : Turned) (old new : Keep) → read ≡ events
    → Turns c commands read by skip t old new → Turns c commands events by skip t old new
read-as c commands events read by skip t old new same turns = subst (λ (es : List KeptEvent). Turns c commands es by skip t old new) same turns

pub given-claim : (c : Configuration) (commands : ℕ) (events now : List KeptEvent) (e : KeptEvent) (by skip claim : ℕ) (work : Work) → now ≡ events ++ e ∷ []
    → claim ≡ length events
    → IsSomeAnd (slice_get (pickable_among c (world_of c (trail_of events))) skip) (λ (s : Submission). ClaimsBy c (world_of c (trail_of events)) by (told_event e) work s)
    → Gives (recorded c commands events) by skip (picked.Claimed work claim) (recorded c commands now)
given-claim c commands events now e by skip claim work longer here claims = (
  here ∙ sym (length-map events told_event),
  some-and (λ (s : Submission). ClaimsBy c (world_of c (trail_of events)) by (told_event e) work s)
      (λ (s : Submission). Claims (recorded c commands events) (recorded c commands now) by s work)
      (slice_get (pickable_among c (world_of c (trail_of events))) skip)
      (λ s found is. record {
        event = appended c commands events now e (event.Claim by s.request.host s.request.ordinal s.request.place) longer is.event;
        claimed = is.claimed;
      }) claims,
)

pub given-done : (c : Configuration) (commands : ℕ) (events now : List KeptEvent) (e : KeptEvent) (by skip : ℕ) → now ≡ events ++ e ∷ []
    → IsSomeAnd (slice_get (pickable_among c (world_of c (trail_of events))) skip) (λ (s : Submission). DoesBy (world_of c (trail_of events)) by (told_event e) s)
    → Gives (recorded c commands events) by skip picked.Did (recorded c commands now)
given-done c commands events now e by skip longer does =
    some-and (λ (s : Submission). DoesBy (world_of c (trail_of events)) by (told_event e) s)
    (λ (s : Submission). Does (recorded c commands events) (recorded c commands now) by s)
    (slice_get (pickable_among c (world_of c (trail_of events))) skip)
    (λ s found is. record {
      answer = is.answer;
      event = appended c commands events now e
          (event.Do by s.request.host s.request.ordinal s.request.place is.answer (withdrawn_place (world_of c (trail_of events)).submits s.request)) longer is.event;
    }) does

pub given-nothing : (c : Configuration) (commands : ℕ) (events : List KeptEvent) (by skip : ℕ) (old new : Keep)
    → Turns c commands events by skip turned.Nothing old new → Gives (recorded c commands events) by skip picked.Nothing (recorded c commands events)
given-nothing c commands events by skip old new turns = (refl, turns.1, turns.2)

pub given-rested : (c : Configuration) (commands : ℕ) (events : List KeptEvent) (by skip : ℕ) (old new : Keep)
    → Turns c commands events by skip turned.Rested old new → Gives (recorded c commands events) by skip picked.Rested (recorded c commands events)
given-rested c commands events by skip old new turns = (refl, turns.1, turns.2)
