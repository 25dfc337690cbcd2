use Rattle.std.proofs.Common.{sym, arith}
use Rattle.iq_root.proofs.NewestLemmas.{no_header_past}
use Rattle.iq_root.proofs.newest.fetched.Goals as goal

pub returns-then-at-count-clause-headed : goal.returns-then-at-count-clause-headed
returns-then-at-count-clause-headed g c all told =
    sym (no_header_past c.args.kind c.args.at all (omega (arith, c.if-at-count.true, c.requires all told)))
