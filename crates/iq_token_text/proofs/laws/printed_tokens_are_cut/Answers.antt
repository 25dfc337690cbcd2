use Rattle.iq_token_text.proofs.Cutting.{printed_cut}
use Rattle.iq_token_text.proofs.laws.printed_tokens_are_cut.Goals as goal

pub returns : goal.returns
returns c = printed_cut
