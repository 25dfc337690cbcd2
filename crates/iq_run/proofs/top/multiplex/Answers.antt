use Rattle.std.proofs.Common.{map}
use Rattle.std.specs.Prelude.{string_bytes}
use Rattle.iq_run.specs.Streams.{input, output}
use Rattle.iq_run.proofs.Complete.{complete_of}
use Rattle.iq_run.proofs.top.multiplex.Goals as goal

pub returns-clause-complete : goal.returns-clause-complete
returns-clause-complete g c =
    complete_of (map string_bytes c.args.words.now) c.report.result
    (input g.I.Source c.args.script.now c.run_words-cause.new.script)
    (output g.O.Sink c.args.out.now c.run_words-cause.new.out)
    (output g.E.Sink c.args.err.now c.report.new.err)
    c.run_words-cause.result c.run_words-cause.ensures.met c.report.ensures
