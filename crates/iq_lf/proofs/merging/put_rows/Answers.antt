use Rattle.std.proofs.Common.{◌≡◌, ◌≤◌, ◌+◌, ◌-◌, ◌∙◌, length, arith}
use Rattle.iq_lf.proofs.MergeLaws.{adds_step, adds_all}
use Rattle.iq_pieces.proofs.Counting.{others_on}
use Rattle.iq_lf.proofs.merging.put_rows.Goals as goal

pub returns-clause-ok : goal.returns-clause-ok
returns-clause-ok g c = adds_all _ c.args.slots c.rows.done c.args.codes.now _ _ _ _ (omega arith) c.rows.invariant.ok

pub rows-preserved : goal.rows-preserved
rows-preserved g c =
    let inv = c.rows.invariant in
    let done = c.rows.done in
    let more = c.min-more.result in
    let cut : done + more - done ≡ more = omega arith in
    let fits : done + more ≤ length c.args.codes.now = omega (arith, c.min-more.ensures, inv.within) in
    record {
      within = fits;
      ok = adds_step _ c.args.slots done more c.args.codes.now _ _ _ _ _ _ inv.within inv.ok (rw cut at c.in_ok-put_chunk.ensures.ok);
      long = c.in_ok-put_chunk.ensures.long ∙ inv.long;
      changed = c.in_ok-put_chunk.ensures.changed ∙ inv.changed;
      kept = λ told h. c.in_ok-put_chunk.ensures.kept told (inv.kept told h);
      others = others_on c.args.object _ _ _ inv.others c.put_chunk.ensures.others;
      later = omega (arith, inv.later, c.put_chunk.ensures.later);
    }
