-- A command that is claimed: what is known of it before its work is prepared.
use Rattle.std.proofs.Common.{◌≡◌, ◌∙◌, ℕ, ◌<◌, true, ◌&&◌, List, [], Option, Some, None, Result, Ok, Err, IfOk, OnOk, is_none, length, option_map, unwrap_or, slice_get, vec_capacity, vec_len, sym, ap, subst, arith}
use Rattle.std.specs.Result.{result_ok}
use Rattle.std.proofs.lemmas.List.{length-map}
use Rattle.std.proofs.lemmas.Option.{same_Some}
use Rattle.cp_base.specs.Configuration.{Configuration}
use Rattle.cp_base.specs.Sets.{RangeSet}
use Rattle.cp_base.specs.declared.commands.Command.{Command}
use Rattle.cp_base.specs.declared.lists.MemRange.{MemRange}
use Rattle.extents.specs.Homes.{Homes}
use Rattle.device_model.specs.Checks.{refusal_of}
use Rattle.device_model.specs.Memory.{moves_bytes}
use Rattle.device_model.specs.State.{Slot}
use Rattle.trail_model.specs.Footprints.{footprint_of}
use Rattle.trail_model.specs.Lawful.{IsAllowedIn, IsParty, is_idle, world_of}
use Rattle.trail_model.specs.declared.events.Event.TheVariants as event
use Rattle.core_model.specs.Asked.{Asked, asked_at}
use Rattle.core_model.specs.Parts.{Parts, tables_of}
use Rattle.core_model.specs.Picking.{is_clear_of, may_pick_asked, touched_by}
use Rattle.core_model.specs.declared.places.WaitingSubmit.{WaitingSubmit}
use Rattle.core_model.proofs.Allowing.{claim-allowed}
use Rattle.core_model.proofs.Numbers.{few-parts}
use Rattle.device_core.specs.Keep.{HasRoom, Holds, as_kept_footprint, parts_of}
use Rattle.device_core.specs.Preparing.{set_in, touched_in}
use Rattle.device_core.specs.Recorded.{trail_of}
use Rattle.device_core.specs.declared.events.Event.{Event as KeptEvent}
use Rattle.device_core.specs.declared.keep.Keep.{Keep}
use Rattle.device_core.proofs.Claimed.{asked-may, both-so, clear-so, none-so}
use Rattle.device_core.proofs.Prepared.{ranges-run}

-- a command moves bytes, passes its checks and meets no open claim, so a party may claim it
pub record MayBegin (c : Configuration) (commands : ℕ) (events : List KeptEvent) (by sent : ℕ) (asked : Asked) (k : Keep) : Type 0 where
  pub moves : moves_bytes asked.command ≡ true
  pub passes : refusal_of c (tables_of k.slots k.sets) asked.command ≡ None
  pub free : is_clear_of (parts_of (length events) k).kept (touched_by c (parts_of (length events) k) asked.command) ≡ true
  pub allowed : IsAllowedIn c commands (world_of c (trail_of events)) (event.Claim by asked.host asked.ordinal sent)

pub may-begin : (c : Configuration) (commands : ℕ) (events : List KeptEvent) (spots by i : ℕ) (x : WaitingSubmit) (asked : Asked) (k : Keep) → Holds c commands events spots k
    → IsParty by → is_idle (world_of c (trail_of events)) by ≡ true → slice_get k.waiting.items i ≡ Some x → asked_at (trail_of events) x.sent ≡ Some asked
    → may_pick_asked c (parts_of (length events) k) (asked_at (trail_of events) x.sent) ≡ true
    → true ≡ (moves_bytes asked.command && is_none (refusal_of c (tables_of k.slots k.sets) asked.command))
    → MayBegin c commands events by x.sent asked k
may-begin c commands events spots by i x asked k held party idle found read may claimable =
    let p : Parts = parts_of (length events) k in
    let both = both-so (moves_bytes asked.command) (is_none (refusal_of c (tables_of k.slots k.sets) asked.command)) claimable in
    let passes = none-so (refusal_of c (tables_of k.slots k.sets) asked.command) both.1 in
    let free = clear-so c p asked.command (asked-may c p (asked_at (trail_of events) x.sent) asked read may) both.0 passes in
    record {
      moves = both.0;
      passes = passes;
      free = free;
      allowed = claim-allowed c commands p (trail_of events) by i x asked held.stands party idle found read both.0 passes free;
    }

-- what is touched on the set of a command is what it touches
pub touched-on : (c : Configuration) (slots : List Slot) (sets : List RangeSet) (cmd : Command) (set : Option (List MemRange)) → set ≡ set_in sets cmd
    → footprint_of c (unwrap_or set []) cmd ≡ touched_in c (tables_of slots sets) cmd
touched-on c slots sets cmd set same =
    ap (λ (ranges : List MemRange). footprint_of c ranges cmd) (ap (λ (o : Option (List MemRange)). unwrap_or o []) same ∙ ranges-run slots sets cmd)

-- the command at the place of a submit is what it asks for
pub command-there : {A : Type 0} (f : A → Command) (o : Option A) (a : A) (read : Option Asked) (asked : Asked) → o ≡ Some a → read ≡ Some asked
    → option_map f o ≡ option_map (λ (x : Asked). x.command) read → f a ≡ asked.command
command-there {A} f o a read asked found is same =
    same_Some (f a) asked.command (sym (ap (λ (x : Option A). option_map f x) found) ∙ (same ∙ ap (λ (x : Option Asked). option_map (λ (y : Asked). y.command) x) is))

-- there is room for one more claim
pub room-left : (c : Configuration) (commands : ℕ) (events : List KeptEvent) (spots by : ℕ) (k : Keep) → Holds c commands events spots k
    → IsParty by → is_idle (world_of c (trail_of events)) by ≡ true → (length k.kept.kept < k.kept.most) × (vec_len k.claims < vec_capacity k.claims)
room-left c commands events spots by k held party idle =
    let few = few-parts c commands (parts_of (length events) k) (trail_of events) by held.stands party idle in
    let claims = few.0 in
    let kept = few.1 in
    let same = length-map k.kept.kept as_kept_footprint in
    let most = held.room.kept in
    let room = held.room.claims in
    (omega arith, omega arith)

-- other extents need no other room
pub other-store-room : (depth commands : ℕ) (k : Keep) (store : Homes) → HasRoom depth commands k → HasRoom depth commands (let other : Keep = record k { store = store } in other)
other-store-room depth commands k store room = record {
  waiting = room.waiting;
  entries = room.entries;
  kept = room.kept;
  claims = room.claims;
  queues = room.queues;
  ordinals = room.ordinals;
}

-- what holds where a result is Ok holds of what it has
pub of-ok : {A E : Type 0} (r : Result A E) (x : A) (P : A → Type 0) → Some x ≡ result_ok r → IfOk r P → P x
of-ok {A} (Ok y) x P e h = subst (λ (z : A). P z) (same_Some y x (sym e)) h
of-ok (Err y) x P e h = cc

pub on-ok : {A E : Type 0} (r : Result A E) (x : A) (P : Type 0) → Some x ≡ result_ok r → OnOk r P → P
on-ok (Ok y) x P e h = h
on-ok (Err y) x P e h = cc
