use Rattle.std.proofs.Common.{◌≡◌, ◌-◌, ◌∙◌, refl, ap, arith}
use Rattle.std.proofs.lemmas.Result.{on_ok_weaker}
use Rattle.iq_pages.specs.Pages.{Pages}
use Rattle.iq_chunks.proofs.PageRows.{chunk_whole}
use Rattle.iq_lf.specs.Entries.{entry_in}
use Rattle.iq_lf.proofs.MergeLaws.{merges_to, merges_new, full_holds_nothing, one_less}
use Rattle.iq_lf.proofs.merging.merge.Goals as goal

pub returns-then-named-ne0-clause-ok : goal.returns-then-named-ne0-clause-ok
returns-then-named-ne0-clause-ok g c =
    let is : c.entry-named.result ≡ entry_in c.args.table.now.pages.items c.args.k = c.entry-named.ensures ∙ ap (λ (ps : Pages). entry_in ps c.args.k) c.deref.ensures.value in
    let named = one_less (entry_in c.args.table.now.pages.items c.args.k) c.entry-named.result is c.if-named-ne0.true in
    on_ok_weaker c.widen.result (λ w. merges_to _ _ c.args.k (c.entry-named.result - 1) c.args.rows.now c.args.table.now.pages.items c.requires.rows c.requires.some named w) c.widen.ensures.ok

pub returns-then-have-ge-MOST_PAGES-clause-cause : goal.returns-then-have-ge-MOST_PAGES-clause-cause
returns-then-have-ge-MOST_PAGES-clause-cause g c = (refl, full_holds_nothing _ _ c.args.k c.pages-have.result c.pages-have.ensures.told (omega (arith, c.if-have-ge-MOST_PAGES.true)))

pub returns-clause-ok : goal.returns-clause-ok
returns-clause-ok g c =
    let is : c.entry-named.result ≡ entry_in c.args.table.now.pages.items c.args.k = c.entry-named.ensures ∙ ap (λ (ps : Pages). entry_in ps c.args.k) c.deref.ensures.value in
    let none : entry_in c.args.table.now.pages.items c.args.k ≡ 0 = omega (arith, is, c.if-named-ne0.false) in
    merges_new _ _ c.args.k c.pages-have.result c.args.rows.now c.args.table.now.pages.items _ c.store_page.new.into c.requires.rows c.requires.some none c.pages-have.ensures.told (c.store_page.ensures ∙ chunk_whole c.args.rows.now c.requires.rows) c.in_ok-push_page.ensures.done.told_here c.put.ensures.here
