use Rattle.std.proofs.Common.{List, inl, sym, subst}
use Rattle.std.specs.Io.KnownBytes.{Appends}
use Rattle.cp_base.specs.Configuration.{Configuration}
use Rattle.cp_io.specs.Sink.{AppendsFront}
use Rattle.script_cmds.specs.declared.item.Show.{Show}
use Rattle.nvmecp.specs.Finished.{printed_text}
use Rattle.nvmecp.specs.Shown.{AreInside}
use Rattle.nvmecp.proofs.Printed.{at_home_of, print_of, short_of}
use Rattle.nvmecp.proofs.Shows.{inside}
use Rattle.nvmecp.proofs.step.carry_out.Goals as goal

pub print-requires-clause-short : goal.print-requires-clause-short
print-requires-clause-short g c =
    let read = c.requires.planned in
    short_of c.args.script.now c.args.plan.phases c.in-Ok.finished read.sized read.kept read.sends c.in-Ok.ensures.finished

pub print-requires-clause-home : goal.print-requires-clause-home
print-requires-clause-home g c = at_home_of c.args.script.now.config c.args.plan.phases c.in-Ok.finished c.in-Ok.ensures.finished

pub print-requires-clause-inside : goal.print-requires-clause-inside
print-requires-clause-inside g c =
    let script = c.args.script.now in
    let all : AreInside script.config script.shows = inside script c.depth-depth.ensures.limits.nvm_numbers c.depth-depth.ensures.limits.mem_numbers c.requires.planned.kept in
    subst (λ (config : Configuration). AreInside config c.as_slice.result.now) (sym c.in-Ok.ensures.finished.config)
    (subst (λ (shows : List Show). AreInside script.config shows) (sym c.as_slice.ensures) all)

pub returns-in-Ok-print-clause-ends : goal.returns-in-Ok-print-clause-ends
returns-in-Ok-print-clause-ends g c =
    let read = c.requires.planned in
    record {
      text = printed_text c.in-Ok.finished.core c.args.script.now.shows;
      due = print_of c.args.script.now c.args.plan.phases c.args.workers c.args.choices c.in-Ok.finished read.sized read.kept read.planned read.given c.in-Ok.ensures.finished c.in-Ok.ensures.scheduled;
      written = subst (λ (shows : List Show). Appends (g.K.Sink.held c.args.sink.now) (g.K.Sink.held c.print.new.sink) (printed_text c.in-Ok.finished.core shows)) c.as_slice.ensures c.in-Ok-print.ensures.all;
    }

pub returns-in-Err-print-clause-ends : goal.returns-in-Err-print-clause-ends
returns-in-Err-print-clause-ends g c =
    let read = c.requires.planned in (
      record {
        text = printed_text c.in-Ok.finished.core c.args.script.now.shows;
        due = inl (print_of c.args.script.now c.args.plan.phases c.args.workers c.args.choices c.in-Ok.finished read.sized read.kept read.planned read.given c.in-Ok.ensures.finished c.in-Ok.ensures.scheduled);
        front = subst (λ (shows : List Show). AppendsFront (g.K.Sink.held c.args.sink.now) (g.K.Sink.held c.print.new.sink) (printed_text c.in-Ok.finished.core shows)) c.as_slice.ensures c.in-Err-print.ensures.front;
      },
      c.in-Err-print.ensures.fault,
    )
