use Rattle.std.proofs.Common.{sym, ◌∙◌}
use Rattle.iq_catalog.proofs.Names.{text_of-utf8, text_of-other}
use Rattle.iq_plain_opening.proofs.texts.text_of.Goals as goal

pub returns-in-Some : goal.returns-in-Some
returns-in-Some c = c.in-Some.ensures.value ∙ c.in-Ok.ensures.cases.0 ∙ sym (text_of-utf8 c.args.bytes.now c.in-Ok.ensures.cases.1)

pub returns-in-Err : goal.returns-in-Err
returns-in-Err c = c.no_name.ensures ∙ sym (text_of-other c.args.bytes.now c.in-Err.ensures.cases.0)
