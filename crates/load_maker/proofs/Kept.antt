-- The lines of a load stand in their places and keep the limits of scripts.
use Rattle.std.proofs.Common.{◌≡◌, ℕ, zero, suc, ◌+◌, ◌*◌, ◌/◌, ◌%◌, ◌<◌, ◌≤◌, ◌==◌, Bool, true, false, ◌&&◌, List, [], ◌∷◌, ◌++◌, Result, Ok, Err, refl, sym, ap, subst, ◌∙◌, arith, eqb, ltb}
use Rattle.std.specs.Prelude.{if◌then◌else◌, nat_lt, All}
use Rattle.std.specs.List.{list_all}
use Rattle.std.proofs.lemmas.Bool.{eqb-true, lt-ltb}
use Rattle.std.proofs.lemmas.List.{append-nil}
use Rattle.std.proofs.lemmas.List.Elements.{All-append, All-cons, All-nil}
use Rattle.cp_base.specs.Configuration.{Configuration, bare, with_size}
use Rattle.cp_base.specs.declared.region.SpaceId.TheVariants as space
use Rattle.cp_base.specs.declared.commands.Command.{Command}
use Rattle.script_line.specs.declared.fault.TextCause.{TextCause}
use Rattle.script_line.specs.declared.kind.LineKind.TheVariants as line
use Rattle.script_line.specs.Fits.{line_fits}
use Rattle.script_line.specs.Line.{Line, send_line}
use Rattle.script_line.specs.Reading.{◌>>=◌}
use Rattle.script_line.specs.Sized.{AreSized, IsSizedLine}
use Rattle.script_line.specs.declared.version.Version.TheVariants as version
use Rattle.script_cmds.specs.declared.form.Form.{Form}
use Rattle.script_cmds.specs.declared.progress.Progress.{Progress}
use Rattle.script_cmds.specs.declared.progress.Stage.TheVariants as stage
use Rattle.script_cmds.specs.Fault.{after_lines, judged}
use Rattle.script_cmds.specs.Progress.{start}
use Rattle.script_cmds.specs.Text.{numbers_line}
use Rattle.load_maker.specs.Load.{device_lines, host_line, host_part, host_turns, load_lines, ready_lines, seed_word, take_reply_line, turn_lines, turn_takes, word_command, work_lines}
use Rattle.load_maker.proofs.Fits.{command_fits, command_names, command_sized, take_fits, take_sized}
use Rattle.load_maker.proofs.Turns.{own_lines}

-- ---- lines after lines

then_more : (r : Result Progress TextCause) (xs ys : List Line) (m q : Progress)
    → ((p : Progress) → after_lines p xs ≡ Ok m → after_lines p (xs ++ ys) ≡ Ok q)
    → (r >>= λ p. after_lines p xs) ≡ Ok m → (r >>= λ p. after_lines p (xs ++ ys)) ≡ Ok q
then_more (Ok p) xs ys m q f h = f p h
then_more (Err e) xs ys m q f h = absurd cc

pub after_more : (xs ys : List Line) (p m q : Progress) → after_lines p xs ≡ Ok m → after_lines m ys ≡ Ok q → after_lines p (xs ++ ys) ≡ Ok q
after_more [] ys p m q a b =
    let same : m ≡ p = cc in
    subst (λ (s : Progress). after_lines s ys ≡ Ok q) same b
after_more (x ∷ xs) ys p m q a b = then_more (judged p x) xs ys m q (λ s h. after_more xs ys s m q h b) a

-- ---- a host's part of the second phase

-- the device of the load
abbrev pub load_device : Configuration
load_device = with_size (with_size (bare 512 16 1000) (space.Nvm 1) 64) (space.Mem 1) 65536

-- version 1
abbrev pub one_queue : Form
one_queue = record { version = version.One; queues = 1 }

-- in the part of a host of the second phase, after so many sends
abbrev pub working : ℕ → ℕ → Progress
working host sends = record { stage = stage.InPart host; form = one_queue; config = load_device; sends = sends; phases = 2; shows = 0 }

if_held : {A : Type 0} (test : Bool) (a b : A) → test ≡ true → (if test then a else b) ≡ a
if_held test a b h = rw h refl

send_runs : (host sends cid word : ℕ) → cid < 16 → sends < 16384
    → after_lines (working host sends) (send_line version.One cid (word_command word) ∷ []) ≡ Ok (working host (sends + 1))
send_runs host sends cid word low few =
    let fits = command_fits cid word low in
    let room : nat_lt sends 16384 ≡ true = lt-ltb _ _ few in
    let names = command_names cid word in
    rw (fits, room, names) refl

take_runs : (host sends cid : ℕ) → cid < 16 → after_lines (working host sends) (take_reply_line cid ∷ []) ≡ Ok (working host sends)
take_runs host sends cid low = let fits = take_fits cid low in rw fits refl

takes_run : (host sends number : ℕ) (test : Bool)
    → after_lines (working host sends) (if test then [] else take_reply_line (number % 16) ∷ []) ≡ Ok (working host sends)
takes_run host sends number true = refl
takes_run host sends number false = take_runs host sends (number % 16) (omega arith)

turn_runs : (host sends number word : ℕ) → sends < 16384
    → after_lines (working host sends) (turn_lines number (word_command word)) ≡ Ok (working host (sends + 1))
turn_runs host sends number word few =
    after_more (turn_takes number) (send_line version.One (number % 16) (word_command word) ∷ []) (working host sends) (working host sends) (working host (sends + 1))
    (takes_run host sends number (nat_lt number 16)) (send_runs host sends (number % 16) word (omega arith) few)

-- after the first commands, of which so many are the host's
record Ran (seed host n sends : ℕ) : Type 0 where
  own : ℕ
  few : 4 * own + host ≤ n + 3
  runs : after_lines (working (host + 1) sends) (host_turns seed host n) ≡ Ok (working (host + 1) (sends + own))

ran_more : (seed host n sends : ℕ) (test : Bool) → (n % 4 == host) ≡ test → host < 4 → n < 8192 → sends ≤ 8000
    → Ran seed host n sends → Ran seed host (suc n) sends
ran_more seed host n sends true is low bound room r =
    let mine : n % 4 ≡ host = eqb-true _ _ is in
    let fewer : sends + r.own < 16384 = omega (arith, r.few) in
    record {
      own = r.own + 1;
      few = omega (arith, r.few, mine);
      runs =
          after_more (host_turns seed host n) (own_lines host n (seed_word seed n)) (working (host + 1) sends) (working (host + 1) (sends + r.own))
          (working (host + 1) (sends + (r.own + 1))) r.runs
          (rw is (turn_runs (host + 1) (sends + r.own) (n / 4) (seed_word seed n) fewer ∙ ap (λ (k : ℕ). Ok (working (host + 1) k)) (omega arith)));
    }
ran_more seed host n sends false is low bound room r = record {
  own = r.own;
  few = omega (arith, r.few);
  runs =
      after_more (host_turns seed host n) (own_lines host n (seed_word seed n)) (working (host + 1) sends) (working (host + 1) (sends + r.own))
      (working (host + 1) (sends + r.own)) r.runs (rw is refl);
}

ran : (seed host n sends : ℕ) → host < 4 → n ≤ 8192 → sends ≤ 8000 → Ran seed host n sends
ran seed host zero sends low bound room = record { own = 0; few = omega arith; runs = ap (λ (k : ℕ). Ok (working (host + 1) k)) (omega arith) }
ran seed host (suc n) sends low bound room =
    ran_more seed host n sends (n % 4 == host) refl low (omega arith) room (ran seed host n sends low (omega arith) room)

-- ---- the whole load

ready_runs : after_lines start (device_lines ++ ready_lines ++ (numbers_line line.Phase [] ∷ host_line 1 ∷ [])) ≡ Ok (working 1 4)
ready_runs = refl

pub record Ends (lines : List Line) : Type 0 where
  pub last : Progress
  pub runs : after_lines start lines ≡ Ok last

-- the first phase, and the parts of the second
pub load_runs : (seed n : ℕ) → n ≤ 8192 → Ends (load_lines seed n)
load_runs seed n bound =
    let a = ran seed 0 n 4 (omega arith) bound (omega arith) in
    let b = ran seed 1 n (4 + a.own) (omega arith) bound (omega (arith, a.few)) in
    let c = ran seed 2 n (4 + a.own + b.own) (omega arith) bound (omega (arith, a.few, b.few)) in
    let d = ran seed 3 n (4 + a.own + b.own + c.own) (omega arith) bound (omega (arith, a.few, b.few, c.few)) in
    let begun = device_lines ++ ready_lines ++ (numbers_line line.Phase [] ∷ host_line 1 ∷ []) in
    let one = after_more begun (host_turns seed 0 n) start (working 1 4) (working 1 (4 + a.own)) ready_runs a.runs in
    let two = after_more (begun ++ host_turns seed 0 n) (host_part seed n 1) start (working 1 (4 + a.own)) (working 2 (4 + a.own + b.own)) one b.runs in
    let three =
    after_more (begun ++ host_turns seed 0 n ++ host_part seed n 1) (host_part seed n 2) start (working 2 (4 + a.own + b.own))
    (working 3 (4 + a.own + b.own + c.own)) two c.runs
    in
    let four =
    after_more (begun ++ host_turns seed 0 n ++ host_part seed n 1 ++ host_part seed n 2) (host_part seed n 3) start
    (working 3 (4 + a.own + b.own + c.own)) (working 4 (4 + a.own + b.own + c.own + d.own)) three d.runs
    in
    record { last = working 4 (4 + a.own + b.own + c.own + d.own); runs = four }
