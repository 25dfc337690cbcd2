use Rattle.std.proofs.Common.{rules, arith, ap, ◌∙◌, ◌∷◌, [], Ok, length, length-append}
use Rattle.iq_block_map.proofs.PutLemmas.{put_none, put_then, looked_same}
use Rattle.iq_descriptors.specs.Stored.{pages_in}
use Rattle.iq_descriptors.proofs.WriteLemmas.{one_more, one_fits, took_more, take_more}
use Rattle.iq_descriptors.proofs.writing.put_others.Goals as goal

pub loop-page-init : goal.loop-page-init
loop-page-init g c = record {
  put = put_none g.D.Device _ _ _ (looked_same g.D.Device c.args.disk.now);
  spare = c.requires.spare;
  left = search rules;
  size = search rules;
  fits = search rules;
  pages = search rules;
}

pub returns-in_err-put_part-clause-put : goal.returns-in_err-put_part-clause-put
returns-in_err-put_part-clause-put g c =
    put_then g.D.Device _ _ _ c.args.disk.now c.loop-page.disk c.put_part.new.disk c.loop-page.invariant.put c.put_part.ensures.put

pub loop-page-preserved : goal.loop-page-preserved
loop-page-preserved g c = record {
  put = put_then g.D.Device _ _ _ c.args.disk.now c.loop-page.disk c.put_part.new.disk c.loop-page.invariant.put c.put_part.ensures.put;
  spare = c.put_part.ensures.spare;
  left = rw c.push.ensures (took_more _ _ _ _ _ c.loop-page.invariant.left c.in_ok-put_part.ensures.left);
  size = omega (arith, ap length c.push.ensures, length-append c.loop-page.others (c.in_ok-put_part.field-0 ∷ []), c.loop-page.invariant.size);
  fits = rw c.push.ensures (one_fits c.loop-page.others _ c.loop-page.invariant.fits c.in_ok-put_part.ensures.fits);
  pages = λ now told.
      ap (pages_in now) c.push.ensures
      ∙ (one_more g.D.Device _ _ _ c.loop-page.others _ c.in_ok-put_part.field-0 _ c.loop-page.disk c.put_part.new.disk c.requires.spare.distinct
      c.loop-page.invariant.left c.in_ok-put_part.ensures.left c.loop-page.invariant.spare c.in_ok-put_part.ensures.fits c.put_part.ensures.put
      c.in_ok-put_part.ensures.block c.loop-page.invariant.pages now told
      ∙ ap Ok (take_more c.args.pages.now c.loop-page.page-index _ (search rules) (search rules)));
}
