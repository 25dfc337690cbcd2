use Rattle.std.proofs.lemmas.Result.{on_ok_weaker}
use Rattle.iq_lf.proofs.MergeLaws.{widens_page}
use Rattle.iq_lf.proofs.merging.widen.Goals as goal

pub returns-clause-ok : goal.returns-clause-ok
returns-clause-ok g c =
    on_ok_weaker c.set_page.result
    (λ done. widens_page _ _ c.args.n c.args.rows.now c.read_page.new.into c.or_in_page.new.page c.in_ok-read_page.ensures.ok c.in_ok-or_in_page.ensures
    (rw (c.read_page.ensures.reads.kept.told c.args.object) at done.told_here))
    c.set_page.ensures.0.done
