use Rattle.std.proofs.Common.{◌≡◌, List, [], ℕ, Some, None, option_map, ap, sym, subst, ◌∙◌, rules}
use Rattle.cp_base.specs.declared.lists.MemRange.{MemRange}
use Rattle.cp_base.specs.declared.replies.Piece.{Piece}
use Rattle.cp_base.specs.declared.replies.Status.{Status}
use Rattle.device_model.specs.Execution.{Executable, Loaded, OfDevice, outcome_on, told_of}
use Rattle.trail_model.specs.LocalEffects.{ranges_with}
use Rattle.trail_model.specs.Pieces.{RegionBytes}
use Rattle.job_run.specs.Works.{memory_in, region_bytes}
use Rattle.job_run.specs.declared.work.Asked.{Asked}
use Rattle.job_run.specs.declared.work.Worked.{Worked}
use Rattle.job_run.specs.private.Kinds.{Leaves}
use Rattle.job_run.proofs.Working.{leaves-so, loaded-code, own-code}
use Rattle.job_run.proofs.work.executed.Goals as goal

-- work leaves what this execution does
abbrev Ran : Worked → Executable → List MemRange → List Piece → Asked → Type 0
Ran done x ranges ps asked =
    Leaves done (told_of asked.budget (outcome_on x ranges (memory_in ps) asked.p1 asked.p2 asked.budget).ending)
    (ranges_with (outcome_on x ranges (memory_in ps) asked.p1 asked.p2 asked.budget).memory ranges)

ran : (done : Worked) (x y : Executable) (ranges : List MemRange) (ps : List Piece) (asked : Asked) (status : Status) (value : ℕ) (reply : List ℕ) (new : List RegionBytes)
    → Leaves done (record { status = status; result = value; bytes = reply }) new → reply ≡ [] → y ≡ x
    → told_of asked.budget (outcome_on x ranges (memory_in ps) asked.p1 asked.p2 asked.budget).ending ≡ record { status = status; result = value; bytes = [] }
    → new ≡ ranges_with (outcome_on x ranges (memory_in ps) asked.p1 asked.p2 asked.budget).memory ranges → Ran done y ranges ps asked
ran done x y ranges ps asked status value reply new leaves empty is told left =
    subst (λ (z : Executable). Ran done z ranges ps asked) (sym is)
    (leaves-so done (record { status = status; result = value; bytes = reply })
    (told_of asked.budget (outcome_on x ranges (memory_in ps) asked.p1 asked.p2 asked.budget).ending) new
    (ranges_with (outcome_on x ranges (memory_in ps) asked.p1 asked.p2 asked.budget).memory ranges) leaves
    (ap (λ (bytes : List ℕ). record { status = status; result = value; bytes = bytes }) empty ∙ sym told) left)

pub execute-status-requires : goal.execute-status-requires
execute-status-requires c =
    let r = c.requires.ready.1 in
    record { budget = r.some_budget; few = c.requires.few; of_ranges = r.of_ranges; empty = r.no_window; room = r.has_room; stack = r.zeros }

pub execute_own-status-requires : goal.execute_own-status-requires
execute_own-status-requires c = record { few = c.requires.few; of_ranges = c.requires.ready.1.of_ranges }

pub returns-in-Some : goal.returns-in-Some
returns-in-Some c runs ready =
    let given : option_map (λ decoded. decoded.value) c.args.code ≡ Some c.deref.result.now = search rules in
    let code = loaded-code runs (option_map (λ decoded. decoded.value) c.args.code) c.deref.result.now ready.decoded given in
    ran c.leave.result (Loaded code.bytes) runs c.args.ranges.now c.args.pieces.items c.args.asked c.execute-status.result.0 c.execute-status.result.1
    c.args.reply.items (region_bytes c.execute-status.new.pieces.items) c.leave.ensures c.requires.empty code.is
    (c.execute-status.ensures.told code.bytes code.same) (c.execute-status.ensures.left code.bytes code.same)

pub returns-in-None : goal.returns-in-None
returns-in-None c runs ready =
    let given : option_map (λ decoded. decoded.value) c.args.code ≡ None = search rules in
    let own = own-code runs (option_map (λ decoded. decoded.value) c.args.code) c.args.asked.slot ready.decoded given ready.of_slot in
    ran c.leave-in-None.result (OfDevice own.program) runs c.args.ranges.now c.args.pieces.items c.args.asked c.execute_own-status.result.0 c.execute_own-status.result.1
    c.args.reply.items (region_bytes c.execute_own-status.new.pieces.items) c.leave-in-None.ensures c.requires.empty own.is
    (c.execute_own-status.ensures.told own.program own.at) (c.execute_own-status.ensures.left own.program own.at)
