-- What the places of an entry tell of it, read from the trail. This project's own.
use Rattle.std.specs.Prelude.{◌≡◌, ℕ, ◌==◌, if◌then◌else◌, List, [], ◌∷◌, Option, None, Some, option_and_then, slice_get}
use Rattle.cp_base.specs.Answer.{Answer, only_status}
use Rattle.cp_base.specs.declared.replies.Status.TheVariants as status
use Rattle.trail_model.specs.Lawful.{Trail}
use Rattle.trail_model.specs.World.{Completion}
use Rattle.trail_model.specs.declared.events.Event.{Event}
use Rattle.trail_model.specs.declared.events.Event.TheVariants as event
use Rattle.core_model.specs.Asked.{asked_at, asked_by_request}
use Rattle.core_model.specs.Parts.{EntryPlaces}

-- the answer that an event gives to the command of a submit, where it ends one: a command done at once is told its own
-- answer, and what it withdraws is told that it was aborted
abbrev pub reply_in : ℕ → Event → Option Answer
reply_in sent (event.Submit by cid ordinal cmd) = None
reply_in sent (event.Claim by host ordinal place) = None
reply_in sent (event.Finish by claim answer) = Some answer
reply_in sent (event.Do by host ordinal place answer aborts) =
    Some (if place == sent then answer else only_status status.Aborted)
reply_in sent (event.Take by cid posted) = None
reply_in sent (event.Rest by) = None

-- the answer to an entry
abbrev pub reply_at : Trail → EntryPlaces → Option Answer
reply_at trail e = option_and_then (reply_in e.sent) (slice_get trail e.posted)

-- the places of an entry tell a completion
pub record TellsEntry (trail : Trail) (e : EntryPlaces) (done : Completion) : Type 0 where
  pub asked : asked_at trail e.sent ≡ Some (asked_by_request done.request)
  pub reply : reply_at trail e ≡ Some done.answer

-- the places of entries tell completions, one after the other
abbrev pub TellEntries : Trail → List EntryPlaces → List Completion → Type 0
TellEntries trail [] [] = Unit {0}
TellEntries trail (e ∷ es) (done ∷ history) = TellsEntry trail e done × TellEntries trail es history
TellEntries trail [] (done ∷ history) = ⊥
TellEntries trail (e ∷ es) [] = ⊥
