use Rattle.std.proofs.Common.{◌≡◌, ◌∙◌}
use Rattle.iq_pages.proofs.PageLaws.{counts_none}
use Rattle.iq_table.proofs.Removals.{chunks_none, without_stands, without_none}
use Rattle.iq_chunks.specs.Chunks.{chunks_hit}
use Rattle.iq_table.proofs.table.Table.delete_rows.Goals as goal

pub returns-then-has_none-clause-ok : goal.returns-then-has_none-clause-ok
returns-then-has_none-clause-ok g c = without_none c.args.self.now c.args.found.now _ _ c.requires.long (c.has_none.ensures.0 c.if-has_none.true)

pub returns-then-has_none-clause-written : goal.returns-then-has_none-clause-written
returns-then-has_none-clause-written g c =
    let none : chunks_hit c.args.found.now ≡ 0 = chunks_none c.args.found.now _ (c.has_none.ensures.0 c.if-has_none.true) in
    rw none (counts_none (g.S.PageSource.writes c.args.sink.now))

pub returns-clause-ok : goal.returns-clause-ok
returns-clause-ok g c =
    without_stands c.args.self.now c.args.found.now (g.S.PageSource.told c.args.sink.now) (g.S.PageSource.told c.clear_bits.new.sink) c.requires.long
    (λ other e. c.clear_bits.ensures.others.told other (λ same. e (same ∙ c.existence_of.ensures))) (rw c.existence_of.ensures at c.in_ok-clear_bits.ensures.ok)
