use Rattle.std.proofs.Common.{◌≡◌, ◌∙◌, ◌*◌, true, false, length, replicate, ap, arith}
use Rattle.std.proofs.lemmas.List.{length-replicate}
use Rattle.iq_pieces.specs.Counts.{pages_for}
use Rattle.iq_lf.specs.Stands.{entries_in}
use Rattle.iq_lf.specs.Steps.{AreNeeded}
use Rattle.iq_lf.proofs.GrowLaws.{grown_entries, grown_kept}
use Rattle.iq_lf.proofs.table.grown_table.Goals as goal

pub returns-clause-entries : goal.returns-clause-entries
returns-clause-entries g c =
    let lf = c.args.lf.now in
    let told = g.S.PageSource.told c.args.source.now in
    let n = c.div_ceil.result in
    let all : c.in_ok-all.all.items ≡ replicate n true = c.in_ok-all.ensures.items_if_clones_equal (λ y e. e) in
    let are : AreNeeded lf told (replicate n true) c.in_ok-pages.pages.items = rw (c.deref.ensures.value, all) at c.in_ok-pages.ensures.pages in
    let long : length c.in_ok-pages.pages.items ≡ n = c.in_ok-pages.ensures.long ∙ ap length c.deref.ensures.value ∙ ap length all ∙ length-replicate n true in
    let need : n ≡ pages_for 4 (entries_in lf) = c.div_ceil.ensures in
    grown_entries lf told n _ (33 * c.args.values) c.in_ok-pages.pages.items _ _ _ _ long need are c.in_ok-lengthen.ensures c.clear.ensures.pages

pub returns-clause-kept : goal.returns-clause-kept
returns-clause-kept g c =
    let lf = c.args.lf.now in
    let told = g.S.PageSource.told c.args.source.now in
    let n = c.div_ceil.result in
    let all : c.in_ok-all.all.items ≡ replicate n true = c.in_ok-all.ensures.items_if_clones_equal (λ y e. e) in
    let are : AreNeeded lf told (replicate n true) c.in_ok-pages.pages.items = rw (c.deref.ensures.value, all) at c.in_ok-pages.ensures.pages in
    let long : length c.in_ok-pages.pages.items ≡ n = c.in_ok-pages.ensures.long ∙ ap length c.deref.ensures.value ∙ ap length all ∙ length-replicate n true in
    let need : n ≡ pages_for 4 (entries_in lf) = c.div_ceil.ensures in
    let flags : length c.in_ok-changed.changed.items ≡ c.len.result = ap length (c.in_ok-changed.ensures.items_if_clones_equal (λ y e. e)) ∙ length-replicate c.len.result false in
    let marks : length c.in_ok-changed.changed.items ≡ n = omega (arith, flags, c.len.ensures, long) in
    λ values stands. c.clear.ensures.kept stands.numbers (grown_kept lf told n _ c.in_ok-pages.pages.items _ c.in_ok-changed.changed.items _ long need marks are c.in_ok-lengthen.ensures values stands)
