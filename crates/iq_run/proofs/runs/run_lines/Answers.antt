use Rattle.std.proofs.Common.{List, subst, sym, drop, ◌+◌}
use Rattle.iq_model.specs.declared.replies.Reply.{Reply}
use Rattle.iq_run.specs.Runs.{RunsLines}
use Rattle.iq_run.proofs.Walk.{run_more, next_line, grammar_more}
use Rattle.iq_run.proofs.runs.run_lines.Goals as goal

pub run_line-requires-clause-next : goal.run_line-requires-clause-next
run_line-requires-clause-next c = next_line c.args.plex.now c.loop-line.plex c.args.lines.now c.loop-line.line-index c.line-item.result c.loop-line.replies.items c.line-item.is c.loop-line-test.true c.loop-line.invariant.so_far

pub loop-line-preserved : goal.loop-line-preserved
loop-line-preserved c =
    let i = c.loop-line.line-index in
    let more = run_more c.args.plex.now c.loop-line.plex c.run_line.new.self c.args.lines.now i c.line-item.result c.run_line.result c.loop-line.replies.items
    c.line-item.is c.loop-line-test.true c.loop-line.invariant.so_far c.run_line.ensures.line c.run_line.ensures.number c.run_line.ensures.placed in
    record {
      so_far = subst (λ (rs : List Reply). RunsLines c.args.plex.now c.args.lines.now (drop (i + 1) c.args.lines.now) rs c.run_line.new.self) (sym {A = List Reply} c.in_ok-push.ensures.items) more;
      runnable = grammar_more c.args.lines.now i c.loop-line-test.true c.loop-line.invariant.runnable;
    }
