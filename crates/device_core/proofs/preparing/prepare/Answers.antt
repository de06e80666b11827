use Rattle.std.proofs.Common.{rules, ◌≡◌, ◌∙◌, ◌≤◌, [], ℕ, List, Option, true, false, length, map, option_copied, unwrap_or, refl, ap, sym, subst, arith}
use Rattle.std.specs.Arc.{arc_value}
use Rattle.std.specs.List.{AllByRecursion, list_any}
use Rattle.cp_base.specs.Checks.{any_without_bytes}
use Rattle.cp_base.specs.Configuration.{Configuration}
use Rattle.cp_base.specs.Region.{Region}
use Rattle.cp_base.specs.Sets.{RangeSet}
use Rattle.cp_base.specs.Sharing.{is_outside, range_region}
use Rattle.cp_base.specs.declared.commands.Command.{Command}
use Rattle.cp_base.specs.declared.lists.MemRange.{MemRange}
use Rattle.cp_base.specs.declared.replies.Piece.{Piece}
use Rattle.cp_base.specs.declared.spans.Footprint.{Footprint}
use Rattle.device_model.specs.State.{Slot, State}
use Rattle.extents.specs.Homes.{Homes, IsAtHome}
use Rattle.trail_model.specs.Footprints.{Execution, carried_regions, execution_of, footprint_of, is_execution, writes_of}
use Rattle.trail_model.specs.LocalEffects.{written}
use Rattle.trail_model.specs.Pieces.{AllBytes}
use Rattle.core_model.specs.Parts.{tables_of}
use Rattle.job_run.specs.Works.{FitsExecution}
use Rattle.job_run.specs.declared.work.Work.{Work}
use Rattle.device_core.specs.Portions.{AreCopied, AreCutAt, AreFilled, AreTaken, CanBeTaken, portion_ranges, written_ranges}
use Rattle.device_core.specs.Preparing.{FitsSetup, carried_in, set_in, taken_in, touched_in}
use Rattle.device_core.specs.declared.portions.Portion.{Portion}
use Rattle.device_core.specs.declared.preparing.Setup.{Setup}
use Rattle.device_core.proofs.Claimed.{written-ready}
use Rattle.device_core.proofs.Fetched.{copied-length, cut-all}
use Rattle.device_core.proofs.Prepared.{fits-work, made, ranges-fit, ranges-run}
use Rattle.device_core.proofs.preparing.prepare.Goals as goal

-- the ranges that were found are those of the command's set
found-ranges : (sets : List RangeSet) (cmd x : Command) (set : Option (List MemRange)) (ranges : List MemRange)
    → ranges ≡ unwrap_or set [] → set ≡ set_in sets x → x ≡ cmd → ranges ≡ unwrap_or (set_in sets cmd) []
found-ranges sets cmd x set ranges here found same =
    here ∙ ap (λ (o : Option (List MemRange)). unwrap_or o []) (found ∙ ap (λ (y : Command). set_in sets y) same)

-- so the portions lie where the command carries
found-carried : (c : Configuration) (slots : List Slot) (sets : List RangeSet) (cmd x : Command) (ranges : List MemRange) (xs : List Portion)
    → ranges ≡ unwrap_or (set_in sets cmd) [] → x ≡ cmd → portion_ranges xs ≡ carried_regions c ranges x
    → portion_ranges xs ≡ carried_in c (tables_of slots sets) cmd
found-carried c slots sets cmd x ranges xs found same carried =
    let run = found ∙ ranges-run slots sets cmd in
    carried ∙ (λ k. carried_regions c (run k) (same k))

-- and those that may be written lie where it writes
found-taken : (c : Configuration) (slots : List Slot) (sets : List RangeSet) (cmd x : Command) (ranges : List MemRange) (xs : List Portion)
    → ranges ≡ unwrap_or (set_in sets cmd) [] → x ≡ cmd → written_ranges xs ≡ writes_of c ranges x
    → written_ranges xs ≡ taken_in c (tables_of slots sets) cmd
found-taken c slots sets cmd x ranges xs found same writes =
    let run = found ∙ ranges-run slots sets cmd in
    writes ∙ (λ k. writes_of c (run k) (same k))

-- copied and filled, the pieces are cut where the command carries
cut-here : (h : Homes) (rs : List Region) (xs ys zs : List Portion) (ps qs : List Piece) → portion_ranges xs ≡ rs → ys ≡ xs → zs ≡ xs
    → AreCopied h ys ps → AreFilled h zs ps qs → AreCutAt h rs qs
cut-here h rs xs ys zs ps qs carried first second copied filled =
    subst (λ (regions : List Region). AreCutAt h regions qs) (ap portion_ranges first ∙ carried)
    (cut-all h ys ps qs copied (subst (λ (portions : List Portion). AreFilled h portions ps qs) (second ∙ sym first) filled))

-- the reply has room for the answer
reply-fits : (c : Configuration) (s : State) (cmd x : Command) (touched : Footprint) (reads : List Region) (least spare : ℕ) → x ≡ cmd → reads ≡ touched.reads
    → touched ≡ touched_in c s cmd
    → ((d : Configuration) (ranges : List MemRange) (e : Execution) (all : AllBytes) → reads ≡ (footprint_of d ranges x).reads
    → length (written d e all x).answer.bytes ≤ least)
    → least ≤ spare → (e : Execution) (all : AllBytes) → length (written c e all cmd).answer.bytes ≤ spare
reply-fits c s cmd x touched reads least spare same here is most room e all =
    let place : reads ≡ (footprint_of c (execution_of s cmd).ranges x).reads =
    here ∙ (ap (λ (f : Footprint). f.reads) is ∙ sym (ap (λ (y : Command). (footprint_of c (execution_of s cmd).ranges y).reads) same)) in
    let few = subst (λ (y : Command). length (written c e all y).answer.bytes ≤ least) same (most c (execution_of s cmd).ranges e all place) in
    omega (arith, few, room)

-- what was made for so many pieces fits as many of them
setup-here : (s : State) (cmd x : Command) (m n : ℕ) (setup : Setup) → x ≡ cmd → m ≡ n
    → FitsSetup (execution_of s x) m setup → FitsSetup (execution_of s cmd) n setup
setup-here s cmd x m n setup same count fits =
    subst (λ (k : ℕ). FitsSetup (execution_of s cmd) k setup) count (subst (λ (y : Command). FitsSetup (execution_of s y) m setup) same fits)

pub portions_of-requires-clause-not_empty : goal.portions_of-requires-clause-not_empty
portions_of-requires-clause-not_empty c =
    let cmd : Command = arc_value c.args.command.now in
    let found : c.ranges_of.result.now ≡ unwrap_or (set_in c.args.sets.now cmd) [] =
    found-ranges c.args.sets.now cmd c.deref.result.now (option_copied c.set_of-set.result) c.ranges_of.result.now c.ranges_of.ensures.ranges c.set_of-set.ensures c.deref.ensures in
    subst (λ (ranges : List MemRange). any_without_bytes (map range_region ranges) ≡ false) (sym found)
    (ranges-fit c.args.config.now c.args.sets.now cmd c.requires.fits).some

pub portions_of-requires-clause-inside : goal.portions_of-requires-clause-inside
portions_of-requires-clause-inside c =
    let cmd : Command = arc_value c.args.command.now in
    let found : c.ranges_of.result.now ≡ unwrap_or (set_in c.args.sets.now cmd) [] =
    found-ranges c.args.sets.now cmd c.deref.result.now (option_copied c.set_of-set.result) c.ranges_of.result.now c.ranges_of.ensures.ranges c.set_of-set.ensures c.deref.ensures in
    subst (λ (ranges : List MemRange). list_any (is_outside c.args.config.now) (map range_region ranges) ≡ false) (sym found)
    (ranges-fit c.args.config.now c.args.sets.now cmd c.requires.fits).inside

pub take_written-requires-clause-pieces : goal.take_written-requires-clause-pieces
take_written-requires-clause-pieces c =
    copied-length c.args.store.now c.deref-3.result.now c.in_ok-pieces.pieces.items c.in_ok-pieces.ensures
    ∙ ap (λ (xs : List Portion). length xs) (c.deref-3.ensures.value ∙ sym c.deref-6.ensures.value)

pub take_written-requires-clause-ready : goal.take_written-requires-clause-ready
take_written-requires-clause-ready c =
    let cmd : Command = arc_value c.args.command.now in
    let found : c.ranges_of.result.now ≡ unwrap_or (set_in c.args.sets.now cmd) [] =
    found-ranges c.args.sets.now cmd c.deref.result.now (option_copied c.set_of-set.result) c.ranges_of.result.now c.ranges_of.ensures.ranges c.set_of-set.ensures c.deref.ensures in
    let xs : List Portion = c.in_ok-portions.portions.items in
    let carried : portion_ranges xs ≡ carried_in c.args.config.now (tables_of c.args.slots.now c.args.sets.now) cmd =
    found-carried c.args.config.now c.args.slots.now c.args.sets.now cmd c.deref-2.result.now c.ranges_of.result.now xs found c.deref-2.ensures c.in_ok-portions.ensures.ranges in
    let copied = c.deref-3.ensures.value in
    let home : AllByRecursion (IsAtHome c.args.store.now) (portion_ranges c.deref-3.result.now) =
    subst (λ (rs : List Region). AllByRecursion (IsAtHome c.args.store.now) rs) (sym (ap portion_ranges copied ∙ carried)) c.requires.home in
    subst (λ (ys : List Portion). AllByRecursion (CanBeTaken c.args.store.now) (written_ranges ys)) (copied ∙ sym c.deref-6.ensures.value)
    (written-ready c.args.store.now c.deref-3.result.now c.in_ok-pieces.pieces.items c.in_ok-pieces.ensures home c.requires.whole)

pub returns-clause-work : goal.returns-clause-work
returns-clause-work c =
    let cmd : Command = arc_value c.args.command.now in
    let config : Configuration = c.args.config.now in
    let s : State = tables_of c.args.slots.now c.args.sets.now in
    let found : c.ranges_of.result.now ≡ unwrap_or (set_in c.args.sets.now cmd) [] =
    found-ranges c.args.sets.now cmd c.deref.result.now (option_copied c.set_of-set.result) c.ranges_of.result.now c.ranges_of.ensures.ranges c.set_of-set.ensures c.deref.ensures in
    let xs : List Portion = c.in_ok-portions.portions.items in
    let carried : portion_ranges xs ≡ carried_in c.args.config.now (tables_of c.args.slots.now c.args.sets.now) cmd =
    found-carried c.args.config.now c.args.slots.now c.args.sets.now cmd c.deref-2.result.now c.ranges_of.result.now xs found c.deref-2.ensures c.in_ok-portions.ensures.ranges in
    let cut = cut-here c.args.store.now (carried_in c.args.config.now (tables_of c.args.slots.now c.args.sets.now) cmd) xs c.deref-3.result.now c.deref-6.result.now
    c.in_ok-pieces.pieces.items c.take_written.new.pieces.items carried c.deref-3.ensures.value c.deref-6.ensures.value c.in_ok-pieces.ensures
    c.in_ok-take_written.ensures.filled in
    let same : c.in_ok-command.command.value ≡ cmd = search rules in
    let counted : c.len.result ≡ length c.in_ok-pieces.pieces.items = search rules in
    let reply = reply-fits config s cmd c.deref-4.result.now c.args.touched.now c.as_slice.result.now c.reply_len.result c.in_ok-reply.reply.spare c.deref-4.ensures
    c.as_slice.ensures c.requires.touched c.reply_len.ensures c.in_ok-reply.ensures.room in
    let work : Work = record {
      command = c.in_ok-command.command;
      block = c.block.result;
      pieces = c.take_written.new.pieces;
      windows = c.in_ok-setup.setup.windows;
      set = c.in_ok-setup.setup.set;
      code = c.in_ok-setup.setup.code;
      stack = c.in_ok-setup.setup.stack;
      reply = c.in_ok-reply.reply;
    } in
    let fits : is_execution cmd ≡ true → FitsExecution (execution_of s cmd) work = λ is.
    let set = c.set_of-set.ensures ∙ ap (λ (x : Command). set_in c.args.sets.now x) (c.deref.ensures ∙ sym c.deref-5.ensures) in
    fits-work config c.args.slots.now c.args.sets.now cmd c.in_ok-setup.setup work c.requires.fits
    (setup-here s cmd c.deref-5.result.now c.len.result (length c.take_written.new.pieces.items) c.in_ok-setup.setup c.deref-5.ensures
    (counted ∙ sym c.in_ok-take_written.ensures.length) (c.in_ok-setup.ensures.fits (ap is_execution c.deref-5.ensures ∙ is) c.args.sets.now set)) refl in
    made config s c.args.store.now cmd work same (sym c.block.ensures.value) c.requires.moves c.requires.passes cut c.in_ok-setup.ensures.empty
    c.in_ok-reply.ensures.empty reply fits

pub returns-clause-cut : goal.returns-clause-cut
returns-clause-cut c =
    let cmd : Command = arc_value c.args.command.now in
    let found : c.ranges_of.result.now ≡ unwrap_or (set_in c.args.sets.now cmd) [] =
    found-ranges c.args.sets.now cmd c.deref.result.now (option_copied c.set_of-set.result) c.ranges_of.result.now c.ranges_of.ensures.ranges c.set_of-set.ensures c.deref.ensures in
    let xs : List Portion = c.in_ok-portions.portions.items in
    let carried : portion_ranges xs ≡ carried_in c.args.config.now (tables_of c.args.slots.now c.args.sets.now) cmd =
    found-carried c.args.config.now c.args.slots.now c.args.sets.now cmd c.deref-2.result.now c.ranges_of.result.now xs found c.deref-2.ensures c.in_ok-portions.ensures.ranges in
    cut-here c.args.store.now (carried_in c.args.config.now (tables_of c.args.slots.now c.args.sets.now) cmd) xs c.deref-3.result.now c.deref-6.result.now
    c.in_ok-pieces.pieces.items c.take_written.new.pieces.items carried c.deref-3.ensures.value c.deref-6.ensures.value c.in_ok-pieces.ensures
    c.in_ok-take_written.ensures.filled

pub returns-clause-taken : goal.returns-clause-taken
returns-clause-taken c =
    let cmd : Command = arc_value c.args.command.now in
    let found : c.ranges_of.result.now ≡ unwrap_or (set_in c.args.sets.now cmd) [] =
    found-ranges c.args.sets.now cmd c.deref.result.now (option_copied c.set_of-set.result) c.ranges_of.result.now c.ranges_of.ensures.ranges c.set_of-set.ensures c.deref.ensures in
    let xs : List Portion = c.in_ok-portions.portions.items in
    subst (λ (rs : List Region). AreTaken c.args.store.now c.take_written.new.store rs)
    (ap written_ranges c.deref-6.ensures.value
    ∙ found-taken c.args.config.now c.args.slots.now c.args.sets.now cmd c.deref-2.result.now c.ranges_of.result.now xs found c.deref-2.ensures c.in_ok-portions.ensures.written)
    c.in_ok-take_written.ensures.taken
