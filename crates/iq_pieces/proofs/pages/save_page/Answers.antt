use Rattle.std.proofs.Common.{◌≡◌, arith}
use Rattle.std.proofs.lemmas.Result.{on_ok_weaker}
use Rattle.iq_pieces.proofs.PutPage.{set_saves, push_saves}
use Rattle.iq_pieces.proofs.pages.save_page.Goals as goal

pub returns-then-n-pages-clause-ok : goal.returns-then-n-pages-clause-ok
returns-then-n-pages-clause-ok g c =
    on_ok_weaker c.set_page.result (λ changes. set_saves _ _ c.args.n c.pages.result c.args.from.now c.pages.ensures.told c.if-n-pages.true changes.told_here) c.set_page.ensures.0.done

pub returns-else-n-pages-clause-ok : goal.returns-else-n-pages-clause-ok
returns-else-n-pages-clause-ok g c =
    let at : c.args.n ≡ c.pages.result = omega (arith, c.requires.reached, c.pages.ensures.count, c.if-n-pages.false) in
    on_ok_weaker c.push_page.result (λ changes. push_saves _ _ c.args.n c.pages.result c.args.from.now c.pages.ensures.told at changes.told_here) c.push_page.ensures.done
