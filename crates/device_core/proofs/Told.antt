-- What a command that is done at once is told. No check tells that there is no memory.
use Rattle.std.proofs.Common.{◌≡◌, ◌∙◌, ℕ, Bool, true, false, not, ◌&&◌, if◌then◌else◌, Option, Some, None, is_some, option_map, refl, subst, sym, ap, inl, inr}
use Rattle.std.specs.Option.{option_or}
use Rattle.std.proofs.lemmas.Bool.{true≢false}
use Rattle.cp_base.specs.Answer.{Answer, only_status}
use Rattle.cp_base.specs.Checks.{first_failing}
use Rattle.cp_base.specs.Configuration.{Configuration}
use Rattle.cp_base.specs.declared.commands.Command.{Command}
use Rattle.cp_base.specs.declared.commands.Command.TheVariants as command
use Rattle.cp_base.specs.declared.replies.Status.{Status}
use Rattle.cp_base.specs.declared.replies.Status.TheVariants as status
use Rattle.device_model.proofs.Told.{checks_tell, is_settled, outcome_tells}
use Rattle.device_model.specs.Checks.{checks_of, refusal_of, refusal_of_program}
use Rattle.device_model.specs.Effect.{effect_of}
use Rattle.device_model.specs.Execution.{Outcome, tells}
use Rattle.device_model.specs.Memory.{moves_bytes}
use Rattle.device_model.specs.State.{State}
use Rattle.device_model.specs.Step.{outcome_of, refused_or_done}
use Rattle.trail_model.specs.Lawful.{is_abort}
use Rattle.trail_model.specs.World.{is_no_memory}
use Rattle.core_model.proofs.Apart.{memory-taken}
use Rattle.device_core.specs.AtOnce.{CarriesOut, IsDoneAtOnce, changes_tables}

settled-not-full : (s : Status) → is_settled s ≡ true → is_no_memory s ≡ false
settled-not-full status.NoMemory e = absurd (true≢false (sym e))
settled-not-full s e = refl

moving-no-abort : (cmd : Command) → moves_bytes cmd ≡ true → is_abort cmd ≡ false
moving-no-abort (command.Abort cid) e = absurd (true≢false (sym e))
moving-no-abort cmd e = refl

both-not : (a b : Bool) → (not a && not b) ≡ true → (a ≡ false) × (b ≡ false)
both-not true b e = absurd (true≢false (sym e))
both-not false true e = absurd (true≢false (sym e))
both-not false false e = (refl, refl)

no-program : (s : State) (cmd : Command) → moves_bytes cmd ≡ true → refusal_of_program s cmd ≡ None
no-program s (command.Activate slot) e = absurd (true≢false (sym e))
no-program s cmd e = refl

-- ---- what is told at once

-- a command that fails a check
pub refused-told : (c : Configuration) (s : State) (cmd : Command) (told : Status) (aborts : Option ℕ) (answer : Answer) → moves_bytes cmd ≡ true
    → first_failing (checks_of c s cmd) ≡ Some told → answer ≡ only_status told → IsDoneAtOnce (is_no_memory answer.status) c s cmd aborts answer s
refused-told c s cmd told aborts answer moves fails tells_it =
    let refusal : refusal_of c s cmd ≡ Some (only_status told) = ap (λ (o : Option Status). option_or (option_map only_status o) (refusal_of_program s cmd)) fails in
    let outcome : outcome_of c s cmd ≡ record { answer = only_status told; next = s } = ap (λ (o : Option Answer). refused_or_done s o (effect_of c s cmd)) refusal in
    let other : is_no_memory answer.status ≡ false = ap (λ (a : Answer). is_no_memory a.status) tells_it ∙ settled-not-full told (checks_tell c s cmd told fails) in
    subst (λ (b : Bool). IsDoneAtOnce b c s cmd aborts answer s) (sym other) (
      tells_it ∙ sym (ap (λ (o : Outcome). o.answer) outcome) ∙ sym (rw (moving-no-abort cmd moves) refl),
      rw (moves, refusal) refl,
      sym (ap (λ (o : Outcome). o.next) outcome),
    )

-- an Abort
pub abort-told : (c : Configuration) (s : State) (cmd : Command) (cid : ℕ) (aborts : Option ℕ) (answer : Answer) → cmd ≡ command.Abort cid
    → answer ≡ tells status.Ok (if is_some aborts then 0 else 1) → IsDoneAtOnce (is_no_memory answer.status) c s cmd aborts answer s
abort-told c s cmd cid aborts answer is tells_it =
    subst (λ (x : Command). IsDoneAtOnce (is_no_memory answer.status) c s x aborts answer s) (sym is)
    (subst (λ (b : Bool). IsDoneAtOnce b c s (command.Abort cid) aborts answer s) (sym (ap (λ (a : Answer). is_no_memory a.status) tells_it))
    (tells_it, refl, refl))

-- a command that moves bytes, where there is no memory
pub full-told : (c : Configuration) (s : State) (cmd : Command) (aborts : Option ℕ) (answer : Answer) → moves_bytes cmd ≡ true
    → first_failing (checks_of c s cmd) ≡ None → answer ≡ only_status status.NoMemory → IsDoneAtOnce (is_no_memory answer.status) c s cmd aborts answer s
full-told c s cmd aborts answer moves passes tells_it =
    let refusal : refusal_of c s cmd ≡ None =
    ap (λ (o : Option Status). option_or (option_map only_status o) (refusal_of_program s cmd)) passes ∙ no-program s cmd moves in
    subst (λ (b : Bool). IsDoneAtOnce b c s cmd aborts answer s) (sym (ap (λ (a : Answer). is_no_memory a.status) tells_it))
    (tells_it, memory-taken c s cmd moves refusal, refl)

-- a command that changes tables
pub tables-told : (c : Configuration) (s : State) (cmd : Command) (aborts : Option ℕ) (answer : Answer) (next : State) → changes_tables cmd ≡ true
    → CarriesOut c s cmd answer next → IsDoneAtOnce (is_no_memory answer.status) c s cmd aborts answer next
tables-told c s cmd aborts answer next quiet (inl outcome) =
    let parts = both-not (moves_bytes cmd) (is_abort cmd) quiet in
    let same = ap (λ (o : Outcome). o.answer) outcome in
    let other : is_no_memory answer.status ≡ false = subst (λ (a : Answer). is_no_memory a.status ≡ false) same (settled-not-full _ (outcome_tells c s cmd)) in
    subst (λ (b : Bool). IsDoneAtOnce b c s cmd aborts answer next) (sym other)
    (sym same ∙ sym (rw parts.1 refl), rw parts.0 refl, sym (ap (λ (o : Outcome). o.next) outcome))
tables-told c s cmd aborts answer next quiet (inr lacks) =
    subst (λ (b : Bool). IsDoneAtOnce b c s cmd aborts answer next) (sym (ap (λ (a : Answer). is_no_memory a.status) lacks.told))
    (lacks.told, lacks.takes, lacks.unchanged)
