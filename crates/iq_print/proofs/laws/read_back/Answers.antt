use Rattle.std.proofs.Common.{◌∙◌}
use Rattle.iq_print.specs.Spellable.{without_text}
use Rattle.iq_print.proofs.StatementForms.{printed_spells}
use Rattle.iq_print.proofs.laws.read_back.Goals as goal

pub returns : goal.returns
returns c = λ can.
    c.parse.ensures.only (without_text c.args.statement.now) (printed_spells c.args.statement.now c.as_str.result.now (c.as_str.ensures.value ∙ c.in_ok-text.ensures) can)
