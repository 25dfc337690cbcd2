use Rattle.std.proofs.Common.{◌+◌, ap₂, ◌∙◌, arith}
use Rattle.std.specs.Simd.Lanes.{zip2}
use Rattle.iq_pieces.proofs.Counting.{reads_on}
use Rattle.iq_fp.specs.Calls.{all_pages}
use Rattle.iq_fp.specs.Scans.{is_pair}
use Rattle.iq_fp.proofs.Growth.{stands_there}
use Rattle.iq_fp.proofs.fp.Fp.scan_pair.Goals as goal

pub returns-clause-rows : goal.returns-clause-rows
returns-clause-rows g c = λ vs ws left right.
    let fp = c.args.right.now in
    let kept = c.read_coded.ensures.reads.kept.told in
    let there = stands_there fp (g.S.PageSource.told c.args.source.now) (g.S.PageSource.told c.read_coded.new.source) ws (kept fp.codes) (kept fp.values) right in
    c.in_ok-pairs.ensures.pairs ∙ ap₂ (zip2 (is_pair c.args.side c.args.op)) (c.in_ok-left.ensures.values vs left) (c.in_ok-right.ensures.values ws there)

pub returns-clause-reads : goal.returns-clause-reads
returns-clause-reads g c =
    reads_on (all_pages c.args.self.now) (all_pages c.args.right.now) (all_pages c.args.self.now + all_pages c.args.right.now) _ _ _ (omega arith) c.read_coded.ensures.reads c.read_coded-2.ensures.reads
