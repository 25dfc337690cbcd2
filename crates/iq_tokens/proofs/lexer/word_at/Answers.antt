use Rattle.iq_tokens.proofs.Cutting.{word_is_ascii}
use Rattle.iq_tokens.proofs.lexer.word_at.Goals as goal

pub lowered-requires : goal.lowered-requires
lowered-requires c = rw (c.split_at.ensures.front, c.word_len-bytes.ensures.value) (word_is_ascii c.args.text.now)
