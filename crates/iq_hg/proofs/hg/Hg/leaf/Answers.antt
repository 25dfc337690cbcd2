use Rattle.std.proofs.Common.{refl}
use Rattle.std.proofs.lemmas.Result.{err_from_is_err_and}
use Rattle.iq_pages.specs.PageCalls.{view}
use Rattle.iq_hg.proofs.PageLaws.{leaf_given, leaf_refused, leaf_unread}
use Rattle.iq_hg.proofs.hg.Hg.leaf.Goals as goal

pub returns-in_err-read_page-clause-cause : goal.returns-in_err-read_page-clause-cause
returns-in_err-read_page-clause-cause g c =
    let p = err_from_is_err_and c.from_residual.result c.from_residual.ensures.1 in
    rw (p.1, p.2) (leaf_unread c.args.self.now c.args.page (view g.S.PageSource c.args.source.now) (view g.S.PageSource c.read_page.new.source) c.in_err-read_page.field-0.0 c.in_err-read_page.ensures.cause c.in_err-read_page.ensures.names)

pub returns-in-Some-clause-leaf : goal.returns-in-Some-clause-leaf
returns-in-Some-clause-leaf g c = leaf_given c.args.self.now _ c.args.page c.read_page.new.into _ _ c.in_ok-read_page.ensures.ok (rw c.in-Some.is at c.in_ok-read.ensures.leaf)

pub returns-in-None-clause-cause : goal.returns-in-None-clause-cause
returns-in-None-clause-cause g c = (refl, leaf_refused c.args.self.now _ c.args.page c.read_page.new.into c.in_ok-read_page.ensures.ok (rw c.in-None.is at c.in_ok-read.ensures.bad))
