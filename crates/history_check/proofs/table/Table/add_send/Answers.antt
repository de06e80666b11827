use Rattle.std.proofs.Common.{rules, ◌≡◌, ◌+◌, ◌≤◌, ◌++◌, ◌∷◌, [], length, refl, sym, ◌∙◌, ap, arith}
use Rattle.std.proofs.lemmas.List.{length-map}
use Rattle.history_check.specs.Table.{sends_in, sent_in}
use Rattle.history_check.proofs.Tables.{counts-as, pushed, updates-as, went-send}
use Rattle.history_check.proofs.table.Table.add_send.Goals as goal

pub returns-clause-table : goal.returns-clause-table
returns-clause-table c =
    let t = c.args.self.now in
    let place : c.len-place.result ≡ length (sends_in t) = (search rules) ∙ sym (length-map t.commands.items (sent_in t.takes.items)) in
    let ends : c.len.result ≤ length t.takes.items = search rules in
    let count = c.sent_by-ordinal.ensures in
    (pushed t (record { commands = c.push.new.self; takes = t.takes; places = c.insert.new.self; counts = c.insert-2.new.self }) _ c.requires.table c.in_ok-push.ensures.items refl ends
    (updates-as t.places c.insert.new.self _ _ _ _ _ _ c.from.ensures c.from-2.ensures place c.in_ok-insert.ensures.updates)
    (counts-as t.counts c.insert-2.new.self _ _ _ (ap (λ n. n + 1) count) c.in_ok-insert-2.ensures.updates)).1

pub returns-clause-more : goal.returns-clause-more
returns-clause-more c =
    let t = c.args.self.now in
    let place : c.len-place.result ≡ length (sends_in t) = (search rules) ∙ sym (length-map t.commands.items (sent_in t.takes.items)) in
    let ends : c.len.result ≤ length t.takes.items = search rules in
    let count = c.sent_by-ordinal.ensures in
    let added = pushed t (record { commands = c.push.new.self; takes = t.takes; places = c.insert.new.self; counts = c.insert-2.new.self }) _ c.requires.table c.in_ok-push.ensures.items refl ends
    (updates-as t.places c.insert.new.self _ _ _ _ _ _ c.from.ensures c.from-2.ensures place c.in_ok-insert.ensures.updates)
    (counts-as t.counts c.insert-2.new.self _ _ _ (ap (λ n. n + 1) count) c.in_ok-insert-2.ensures.updates) in
    went-send t _ c.args.sender.now _ c.args.cid c.args.command.now
    (record {
      host = c.args.sender.now.host;
      ordinal = c.sent_by-ordinal.result + 1;
      cid = c.args.cid;
      phase = c.args.sender.now.phase;
      command = c.in_ok-try_clone.field-0;
      begin = c.args.sender.now.begin;
      end = c.len.result;
      named = c.named_by-named.result;
    })
    (record {
      host = refl;
      ordinal = ap (λ n. n + 1) count;
      cid = refl;
      phase = refl;
      command = search rules;
      begin = refl;
      end = search rules;
      named = search rules;
    })
    added.0 refl refl refl refl c.in_ok-push-2.ensures.items c.requires.begun
