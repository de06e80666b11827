-- A command that moves bytes is claimed.
use Rattle.std.proofs.Common.{◌≡◌, ◌∙◌, ◌&&◌, true, false, Option, List, [], Some, ap, is_none, length, map, option_map, refl, rules, subst, sym, unwrap_or}
use Rattle.std.specs.Arc.{arc_value}
use Rattle.std.specs.List.{AllByRecursion, list_any}
use Rattle.cp_base.specs.Checks.{any_without_bytes}
use Rattle.cp_base.specs.Sharing.{is_outside, range_region}
use Rattle.cp_base.specs.declared.commands.Command.{Command}
use Rattle.cp_base.specs.declared.lists.MemRange.{MemRange}
use Rattle.cp_base.specs.declared.spans.Footprint.{Footprint}
use Rattle.device_model.specs.Checks.{refusal_of}
use Rattle.device_model.specs.Memory.{moves_bytes}
use Rattle.extents.specs.Homes.{IsAtHome}
use Rattle.trail_model.specs.declared.events.Event.TheVariants as event
use Rattle.core_model.proofs.Apart.{sets-fit, taken-apart}
use Rattle.core_model.specs.Asked.{Asked, asked_at}
use Rattle.core_model.specs.Parts.{tables_of}
use Rattle.job_run.specs.Works.{IsWork}
use Rattle.job_run.specs.declared.work.Work.{Work}
use Rattle.core_model.specs.declared.places.ClaimPlaces.{ClaimPlaces}
use Rattle.device_core.specs.Claiming.{Begins}
use Rattle.device_core.specs.Keep.{parts_of}
use Rattle.device_core.specs.Portions.{AreCutAt, AreTaken}
use Rattle.device_core.specs.Preparing.{carried_in, taken_in}
use Rattle.device_core.specs.Reading.{as_asked}
use Rattle.device_core.specs.Recorded.{trail_of}
use Rattle.device_core.specs.declared.asked.Wanted.{Wanted}
use Rattle.device_core.specs.declared.keep.Keep.{Keep}
use Rattle.device_core.proofs.Begun.{command-there, may-begin, of-ok, on-ok, other-store-room, room-left, touched-on}
use Rattle.device_core.proofs.Claimed.{carried-home, claimed, whole-home}
use Rattle.device_core.proofs.Done.{first-post}
use Rattle.device_core.proofs.Prepared.{ranges-fit}
use Rattle.device_core.proofs.Stands.{few-events}
use Rattle.device_core.proofs.claiming.claim_now.Goals as goal

pub footprint-touched-requires-clause-not_empty : goal.footprint-touched-requires-clause-not_empty
footprint-touched-requires-clause-not_empty c =
    let fits = sets-fit c.args.config.now c.args.commands (parts_of (length c.args.trail.now) c.args.keep.now) (trail_of c.args.trail.now) c.requires.held.1.stands in
    subst (λ (set : Option (List MemRange)). any_without_bytes (map range_region (unwrap_or set [])) ≡ false) (sym c.set_of.ensures)
    (ranges-fit c.args.config.now c.args.keep.now.sets c.unwrap-asked.result.command.now fits).some

pub footprint-touched-requires-clause-inside : goal.footprint-touched-requires-clause-inside
footprint-touched-requires-clause-inside c =
    let fits = sets-fit c.args.config.now c.args.commands (parts_of (length c.args.trail.now) c.args.keep.now) (trail_of c.args.trail.now) c.requires.held.1.stands in
    subst (λ (set : Option (List MemRange)). list_any (is_outside c.args.config.now) (map range_region (unwrap_or set [])) ≡ false) (sym c.set_of.ensures)
    (ranges-fit c.args.config.now c.args.keep.now.sets c.unwrap-asked.result.command.now fits).inside

pub prepare-prepared-requires-clause-fits : goal.prepare-prepared-requires-clause-fits
prepare-prepared-requires-clause-fits c =
    sets-fit c.args.config.now c.args.commands (parts_of (length c.args.trail.now) c.args.keep.now) (trail_of c.args.trail.now) c.requires.held.1.stands

pub prepare-prepared-requires-clause-home : goal.prepare-prepared-requires-clause-home
prepare-prepared-requires-clause-home c =
    let asked : Asked = as_asked c.unwrap-asked.result in
    let read : asked_at (trail_of c.args.trail.now) c.args.x.sent ≡ Some (as_asked c.unwrap-asked.result) = sym c.asked_in.ensures ∙ ap (λ (o : Option Wanted). option_map as_asked o) c.unwrap-asked.ensures in
    let claimable : true ≡ (moves_bytes asked.command && is_none (refusal_of c.args.config.now (tables_of c.args.keep.now.slots c.args.keep.now.sets) asked.command)) = sym (sym c.is_claimable.ensures ∙ c.if-not-is_claimable.false) in
    let begin = may-begin c.args.config.now c.args.commands c.args.trail.now c.requires.held.0 c.args.by c.requires.waits.0 c.args.x asked c.args.keep.now
    c.requires.held.1 c.requires.party c.requires.idle c.requires.waits.1 read c.requires.may claimable in
    let is : arc_value c.unwrap-command.result.now ≡ asked.command = command-there _ _ _ _ asked c.unwrap-command.ensures read c.command_at.ensures in
    subst (λ (m : Command). AllByRecursion (IsAtHome c.args.keep.now.store) (carried_in c.args.config.now (tables_of c.args.keep.now.slots c.args.keep.now.sets) m)) (sym is)
    (carried-home c.args.config.now c.args.commands (length c.args.trail.now) (trail_of c.args.trail.now) c.args.keep.now asked.command c.requires.held.1.stands begin.passes begin.free)

pub prepare-prepared-requires-clause-whole : goal.prepare-prepared-requires-clause-whole
prepare-prepared-requires-clause-whole c =
    whole-home c.args.config.now c.args.commands (length c.args.trail.now) (trail_of c.args.trail.now) c.args.keep.now c.requires.held.1.stands

pub prepare-prepared-requires-clause-apart : goal.prepare-prepared-requires-clause-apart
prepare-prepared-requires-clause-apart c =
    taken-apart c.args.config.now c.args.commands (parts_of (length c.args.trail.now) c.args.keep.now) (trail_of c.args.trail.now) (arc_value c.unwrap-command.result.now)
    c.requires.held.1.stands

pub overflow_cast-places : goal.overflow_cast-places
overflow_cast-places c =
    let few = few-events c.args.config.now c.args.commands c.args.trail.now c.requires.held.0 c.args.keep.now c.requires.held.1 in
    search (rules, few)

pub begin-requires-clause-host : goal.begin-requires-clause-host
begin-requires-clause-host c =
    let asked : Asked = as_asked c.unwrap-asked.result in
    let read : asked_at (trail_of c.args.trail.now) c.args.x.sent ≡ Some (as_asked c.unwrap-asked.result) = sym c.asked_in.ensures ∙ ap (λ (o : Option Wanted). option_map as_asked o) c.unwrap-asked.ensures in
    let can = first-post c.args.config.now c.args.commands c.args.trail.now c.requires.held.0 c.requires.waits.0 c.args.x asked c.args.keep.now c.requires.held.1 c.requires.waits.1 read in
    can.host

pub begin-requires-clause-waits : goal.begin-requires-clause-waits
begin-requires-clause-waits c =
    let asked : Asked = as_asked c.unwrap-asked.result in
    let read : asked_at (trail_of c.args.trail.now) c.args.x.sent ≡ Some (as_asked c.unwrap-asked.result) = sym c.asked_in.ensures ∙ ap (λ (o : Option Wanted). option_map as_asked o) c.unwrap-asked.ensures in
    let can = first-post c.args.config.now c.args.commands c.args.trail.now c.requires.held.0 c.requires.waits.0 c.args.x asked c.args.keep.now c.requires.held.1 c.requires.waits.1 read in
    can.waits

pub begin-requires-clause-kept : goal.begin-requires-clause-kept
begin-requires-clause-kept c =
    (room-left c.args.config.now c.args.commands c.args.trail.now c.requires.held.0 c.args.by c.args.keep.now c.requires.held.1 c.requires.party c.requires.idle).0

pub begin-requires-clause-claims : goal.begin-requires-clause-claims
begin-requires-clause-claims c =
    (room-left c.args.config.now c.args.commands c.args.trail.now c.requires.held.0 c.args.by c.args.keep.now c.requires.held.1 c.requires.party c.requires.idle).1

pub returns-clause-claims : goal.returns-clause-claims
returns-clause-claims c =
    let asked : Asked = as_asked c.unwrap-asked.result in
    let read : asked_at (trail_of c.args.trail.now) c.args.x.sent ≡ Some (as_asked c.unwrap-asked.result) = sym c.asked_in.ensures ∙ ap (λ (o : Option Wanted). option_map as_asked o) c.unwrap-asked.ensures in
    let claimable : true ≡ (moves_bytes asked.command && is_none (refusal_of c.args.config.now (tables_of c.args.keep.now.slots c.args.keep.now.sets) asked.command)) = sym (sym c.is_claimable.ensures ∙ c.if-not-is_claimable.false) in
    let begin = may-begin c.args.config.now c.args.commands c.args.trail.now c.requires.held.0 c.args.by c.requires.waits.0 c.args.x asked c.args.keep.now
    c.requires.held.1 c.requires.party c.requires.idle c.requires.waits.1 read c.requires.may claimable in
    let is : arc_value c.unwrap-command.result.now ≡ asked.command = command-there _ _ _ _ asked c.unwrap-command.ensures read c.command_at.ensures in
    let can = first-post c.args.config.now c.args.commands c.args.trail.now c.requires.held.0 c.requires.waits.0 c.args.x asked c.args.keep.now c.requires.held.1 c.requires.waits.1 read in
    let config = c.args.config.now in
    let keep = c.args.keep.now in
    let store = c.prepare-prepared.new.store in
    let new = c.begin.new.keep in
    let work : Work = c.in_ok-work.work in
    let touches = c.footprint-touched.ensures ∙ touched-on config keep.slots keep.sets asked.command _ c.set_of.ensures in
    let places : ClaimPlaces = record { claim = length c.args.trail.now; party = c.args.by; host = asked.host; sent = c.args.x.sent } in
    let old : Keep = record keep { store = store } in
    let begins = subst (λ (touched : Footprint). Begins old new places touched) touches (c.begin.ensures.begins can.apart) in
    let gone = subst (λ (m : Command). AreTaken keep.store store (taken_in config (tables_of keep.slots keep.sets) m)) is
    (on-ok c.prepare-prepared.result work _ c.in_ok-work.ensures.value c.prepare-prepared.ensures.taken) in
    let is_work = of-ok c.prepare-prepared.result work (λ (w : Work). IsWork config (tables_of keep.slots keep.sets) w) c.in_ok-work.ensures.value c.prepare-prepared.ensures.work in
    let same = of-ok c.prepare-prepared.result work (λ (w : Work). w.command.value ≡ arc_value c.unwrap-command.result.now) c.in_ok-work.ensures.value c.prepare-prepared.ensures.command in
    let cut = subst (λ (m : Command). AreCutAt keep.store (carried_in config (tables_of keep.slots keep.sets) m) work.pieces.items) is
    (of-ok c.prepare-prepared.result work
    (λ (w : Work). AreCutAt keep.store (carried_in config (tables_of keep.slots keep.sets) (arc_value c.unwrap-command.result.now)) w.pieces.items)
    c.in_ok-work.ensures.value c.prepare-prepared.ensures.cut) in
    let both = claimed config c.args.commands c.args.trail.now c.requires.held.0 c.args.by c.args.x.sent asked keep new store work
    c.requires.held.1 begin.allowed read begin.passes begin.free gone begins is_work (same ∙ is) cut
    (event.Claim c.args.by asked.host asked.ordinal c.args.x.sent) refl in
    record { stands = both.0; claim = both.1 }

pub returns-clause-room : goal.returns-clause-room
returns-clause-room c depth commands room =
    c.begin.ensures.room depth commands (other-store-room depth commands c.args.keep.now c.prepare-prepared.new.store room)
