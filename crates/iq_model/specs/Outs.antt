-- Values as they are answered.
use Rattle.std.specs.Prelude.{List, map}
use Rattle.iq_base.specs.declared.values.Value.{Value}
use Rattle.iq_base.specs.declared.values.Value.TheVariants as values
use Rattle.iq_model.specs.declared.answers.Out.{Out}
use Rattle.iq_model.specs.declared.answers.Out.TheVariants as outs

-- a value as it is answered
abbrev pub out_of : Value → Out
out_of values.Null = outs.Null
out_of (values.Int z) = outs.Int z
out_of (values.Text text) = outs.Text text

-- the values of a row as they are answered
abbrev pub outs_of : List Value → List Out
outs_of row = map out_of row
