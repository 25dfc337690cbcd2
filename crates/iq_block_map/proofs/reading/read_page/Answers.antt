use Rattle.std.proofs.Common.{rules}
use Rattle.iq_block_map.proofs.ReadLemmas.{holds_page}
use Rattle.iq_block_map.proofs.reading.read_page.Goals as goal

pub returns-in-Ok-clause-ok : goal.returns-in-Ok-clause-ok
returns-in-Ok-clause-ok g c = λ all told.
    holds_page c.copy_from_slice.new.self c.read.new.into c.args.at all c.in-Ok.ensures.header (c.in-Ok.ensures.block all told) (search rules)
