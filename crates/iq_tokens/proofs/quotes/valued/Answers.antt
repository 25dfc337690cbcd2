use Rattle.std.proofs.Common.{◌∙◌}
use Rattle.iq_tokens.proofs.Quoting.{valid_is, invalid_is}
use Rattle.iq_tokens.proofs.quotes.valued.Goals as goal

pub returns-in_ok-value-in-Ok-clause-value : goal.returns-in_ok-value-in-Ok-clause-value
returns-in_ok-value-in-Ok-clause-value c = valid_is _ _ _ c.in-Ok.ensures.cases.1 (c.in_ok-value-in-Ok.ensures.value ∙ c.in-Ok.ensures.cases.0)

pub returns-in-Err-clause-value : goal.returns-in-Err-clause-value
returns-in-Err-clause-value c = invalid_is _ _ c.in-Err.ensures.cases.0
