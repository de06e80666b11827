-- What reads is answered with the bytes of the one run that it reads, and nothing else is answered with bytes.
use Rattle.std.proofs.Common.{rules, ◌≡◌, ◌∙◌, ◌≤◌, ℕ, false, List, get_or, length, sym, subst, ap}
use Rattle.cp_base.specs.Region.{Region}
use Rattle.trail_model.specs.LocalEffects.{written}
use Rattle.device_core.proofs.Prepared.{is_reading, no-reply, one-read, reply-first}
use Rattle.device_core.proofs.preparing.reply_len.Goals as goal

pub bounds-reads-0 : goal.bounds-reads-0
bounds-reads-0 c =
    let one = ap (λ (rs : List Region). length rs) c.requires.2
    ∙ one-read c.requires.0 c.requires.1 c.args.command.now (sym c.nature.ensures ∙ c.in-Reads.is) in
    search (rules, one)

pub returns-in-Reads : goal.returns-in-Reads
returns-in-Reads c config ranges x all same =
    let r : Region = c.index-reads-0.result in
    let item : get_or c.args.reads.now 0 r ≡ r = search rules in
    subst (λ (n : ℕ). length (written config x all c.args.command.now).answer.bytes ≤ n) (sym c.len.ensures.value)
    (reply-first config ranges x all c.args.command.now c.args.reads.now r (sym c.nature.ensures ∙ c.in-Reads.is) same item)

pub returns-in-Writes : goal.returns-in-Writes
returns-in-Writes c config ranges x all same =
    let other : is_reading c.nature.result ≡ false = search rules in
    no-reply config x all c.args.command.now (ap is_reading (sym c.nature.ensures) ∙ other)
