use Rattle.iq_run.specs.Streams.{input, output}
use Rattle.iq_run.proofs.Complete.{read_of_run}
use Rattle.iq_run.proofs.top.run_words.Goals as goal

pub returns-in-Ok-clause-read : goal.returns-in-Ok-clause-read
returns-in-Ok-clause-read g c =
    read_of_run c.in-Ok.script (input g.I.Source c.args.script.now c.script_of.new.source)
    (output g.O.Sink c.args.out.now c.run_script.new.out) c.run_script.result
    c.in-Ok.ensures.whole c.in-Ok.ensures.up_to c.run_script.ensures
