use Rattle.std.proofs.Common.{◌∙◌, ap, refl, arith, length, []}
use Rattle.iq_block_store.proofs.FrameLemmas.{length-bytes_of}
use Rattle.iq_root.proofs.BodyLemmas.{length-long_bytes}
use Rattle.iq_root.proofs.PageLemmas.{IsDone-at, joined, body_of_tables}
use Rattle.iq_root.proofs.pages.body_page.Goals as goal

pub returns-clause-fits : goal.returns-clause-fits
returns-clause-fits c = record {
  generation = c.long_bytes.ensures.fits;
  format = c.bytes_of.ensures.fits;
  count = c.bytes_of-2.ensures.fits;
  few = rw (← c.as_slice-tables.ensures.value) c.as_slice-tables.ensures.few;
  tables = rw (← c.as_slice-tables.ensures.value) c.put_all.ensures.fits;
}

pub returns-clause-page : goal.returns-clause-page
returns-clause-page c =
    let root = c.args.root.now in
    let one = c.put.ensures [] c.blank-page.ensures in
    let two = c.put-2.ensures _ (IsDone-at _ _ _ _ _ (omega (arith, ap length c.long_bytes.ensures.bytes, length-long_bytes root.generation)) refl one) in
    let three = c.put-3.ensures _ (IsDone-at _ _ _ _ _ (omega (arith, ap length c.bytes_of.ensures.bytes, length-bytes_of root.format)) refl two) in
    let four = c.put-4.ensures _ (IsDone-at _ _ _ _ _ (omega (arith, ap length c.bytes_of-2.ensures.bytes, length-bytes_of root.count)) refl three) in
    let five = c.put_all.ensures.done _ (IsDone-at _ _ _ _ _ (omega (arith, ap length c.bytes_of-3.ensures.bytes, length-bytes_of (length c.as_slice-tables.result.now))) refl four) in
    five.page_is
    ∙ joined _ _ _ _ _ _ _ _ _ _ c.long_bytes.ensures.bytes c.bytes_of.ensures.bytes c.bytes_of-2.ensures.bytes c.bytes_of-3.ensures.bytes
    ∙ body_of_tables root _ c.as_slice-tables.ensures.value
