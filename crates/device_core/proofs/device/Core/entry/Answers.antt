-- The entry is the one that the history has.
use Rattle.std.proofs.Common.{◌≡◌, ◌∙◌, List, None, Option, Some, ap, option_map, slice_get, subst, sym}
use Rattle.std.specs.Vec.{vec_capacity}
use Rattle.core_model.specs.Telling.{TellsEntry}
use Rattle.core_model.specs.declared.places.EntryPlaces.{EntryPlaces}
use Rattle.trail_model.specs.Lawful.{history_of}
use Rattle.trail_model.specs.World.{Completion}
use Rattle.device_core.specs.Gives.{ended_as_shown, ended_by}
use Rattle.device_core.specs.Recorded.{Recorded, trail_of}
use Rattle.device_core.specs.declared.answers.EntryRef.{EntryRef}
use Rattle.device_core.specs.declared.events.Event.{Event as KeptEvent}
use Rattle.device_core.proofs.Shown.{entry-shown, no-entry}
use Rattle.device_core.proofs.device.Core.entry.Goals as goal

pub returns-in_err-entry : goal.returns-in_err-entry
returns-in_err-entry c =
    let k = c.self.inside in
    let none : slice_get k.keep.entries.items c.args.k ≡ None =
    sym (c.entry_at.ensures ∙ ap (λ (xs : List EntryPlaces). slice_get xs c.args.k) c.deref.ensures.value) ∙ c.in_err-entry.was in
    ap (λ (o : Option EntryRef). option_map ended_as_shown o) c.from_residual.ensures
    ∙ sym (ap (λ (o : Option Completion). option_map ended_by o)
    (subst (λ (d : Recorded). slice_get (history_of d.config d.trail) c.args.k ≡ None) c.self.view_is
    (no-entry k.config k.commands k.trail.items (vec_capacity k.trail) c.args.k k.keep c.self.invariant none)))

pub returns : goal.returns
returns c =
    let k = c.self.inside in
    let found : slice_get k.keep.entries.items c.args.k ≡ Some c.in_ok-entry.entry =
    sym (c.entry_at.ensures ∙ ap (λ (xs : List EntryPlaces). slice_get xs c.args.k) c.deref.ensures.value) ∙ c.in_ok-entry.was in
    subst (λ (d : Recorded). option_map ended_as_shown c.entry_in.result ≡ option_map ended_by (slice_get (history_of d.config d.trail) c.args.k)) c.self.view_is
    (entry-shown k.config k.commands k.trail.items (vec_capacity k.trail) c.args.k k.keep c.in_ok-entry.entry (option_map ended_as_shown c.entry_in.result) c.self.invariant found
    (λ done tells. c.entry_in.ensures done (subst (λ (xs : List KeptEvent). TellsEntry (trail_of xs) c.in_ok-entry.entry done) (sym c.deref-2.ensures.value) tells)))
