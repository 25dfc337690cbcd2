use Rattle.std.proofs.Common.{◌∙◌, sym}
use Rattle.iq_catalog.proofs.Wholes.{only_one, none_uncounted, none_other, none_unlike}
use Rattle.iq_catalog.proofs.reading.get.Goals as goal

pub returns-then-not-has_count-clause-err : goal.returns-then-not-has_count-clause-err
returns-then-not-has_count-clause-err c =
    none_uncounted c.args.pages.now c.as_slice-bytes.result.now (c.as_slice-bytes.ensures.value ∙ c.in_ok-all.ensures)
    (sym c.has_count.ensures ∙ c.if-not-has_count.true)

pub returns-then-not-is_storable-clause-err : goal.returns-then-not-is_storable-clause-err
returns-then-not-is_storable-clause-err c =
    rw (c.contradiction.ensures)
    (none_other c.is_storable.result c.in_ok-table.table c.args.pages.now c.as_slice-bytes.result.now _ (c.as_slice-bytes.ensures.value ∙ c.in_ok-all.ensures)
    c.split_at.ensures.back c.in_ok-table.ensures.ok c.is_storable.ensures c.if-not-is_storable.true)

pub returns-then-eq-clause-only : goal.returns-then-eq-clause-only
returns-then-eq-clause-only c =
    λ t h has. only_one t c.in_ok-table.table c.args.pages.now c.as_slice-bytes.result.now _ (c.as_slice-bytes.ensures.value ∙ c.in_ok-all.ensures)
    c.split_at.ensures.back c.in_ok-table.ensures.ok h has

pub returns-clause-err : goal.returns-clause-err
returns-clause-err c =
    rw (c.contradiction-else-eq.ensures)
    (none_unlike c.in_ok-table.table c.args.pages.now c.as_slice-bytes.result.now _ _ (c.as_slice-bytes.ensures.value ∙ c.in_ok-all.ensures)
    c.split_at.ensures.back c.in_ok-table.ensures.ok (c.as_slice-written.ensures.value ∙ c.in_ok-again.ensures) (sym c.eq.ensures ∙ c.if-eq.false))
