use Rattle.std.proofs.Common.{◌+◌, [], ◌∷◌, length, Option, subst, ap, arith}
use Rattle.std.proofs.lemmas.List.{length-append}
use Rattle.iq_pages.specs.Pages.{Pages, IsPageOf}
use Rattle.iq_pieces.proofs.Counting.{reads_on}
use Rattle.iq_lf.proofs.EntriesRead.{needed_next, needed_all}
use Rattle.iq_lf.proofs.table.read_entries.Goals as goal

pub loop-p-preserved : goal.loop-p-preserved
loop-p-preserved g c =
    let told = c.loop-p.invariant.reads.kept.told c.args.lf.now.second in
    record {
      long = omega (arith, ap length c.in_ok-push.ensures.items, length-append c.loop-p.pages.items (c.in_ok-page_where.field-0 ∷ []), c.loop-p.invariant.long);
      pages = rw c.in_ok-push.ensures.items (needed_next c.loop-p.p c.args.lf.now (g.S.PageSource.told c.args.source.now) c.args.needed.now c.loop-p.pages.items c.in_ok-page_where.field-0 c.loop-p.invariant.long
          (λ on. subst (λ (o : Option Pages). IsPageOf o c.loop-p.p c.in_ok-page_where.field-0) told (c.in_ok-page_where.ensures.page on)) c.loop-p.invariant.pages);
      reads = reads_on c.loop-p.p 1 (c.loop-p.p + 1) _ _ _ (omega arith) c.loop-p.invariant.reads c.page_where.ensures.reads;
    }

pub returns-clause-pages : goal.returns-clause-pages
returns-clause-pages g c = needed_all c.loop-p.p c.args.lf.now (g.S.PageSource.told c.args.source.now) c.args.needed.now c.loop-p.pages.items (omega arith) c.loop-p.invariant.pages
