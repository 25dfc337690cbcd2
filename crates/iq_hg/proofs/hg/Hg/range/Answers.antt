use Rattle.std.proofs.Common.{◌+◌, ◌/◌, refl, arith}
use Rattle.std.proofs.lemmas.Result.{IfOk-weaker}
use Rattle.iq_pages.specs.PageCalls.{view}
use Rattle.iq_hg.specs.declared.wanted.Wanted.TheVariants.{Between}
use Rattle.iq_pieces.proofs.Counting.{reads_on}
use Rattle.iq_hg.specs.Bounds.{range_count}
use Rattle.iq_hg.specs.Walks.{is_chosen}
use Rattle.iq_hg.proofs.WalkLaws.{no_rows, stands_kept}
use Rattle.iq_hg.proofs.StartLaws.{starts_there, rows_on_way, cause_on_way, if_err_on}
use Rattle.iq_hg.proofs.hg.Hg.range.Goals as goal

pub returns-then-count-eq0-clause-rows : goal.returns-then-count-eq0-clause-rows
returns-then-count-eq0-clause-rows g c = no_rows c.args.self.now _ (Between c.args.low c.args.high) c.pages-count.result _ c.pages-count.ensures.told c.if-count-eq0.true c.in_ok-empty.ensures

pub walk-requires-clause-some : goal.walk-requires-clause-some
walk-requires-clause-some g c =
    let reads = c.start.ensures.reads 32 (omega (arith, c.pages-pages.ensures.count)) in
    omega (arith, reads.kept.counts c.args.self.now.leaves, c.pages-count.ensures.count, c.if-count-eq0.false)

pub walk-requires-clause-start : goal.walk-requires-clause-start
walk-requires-clause-start g c =
    let reads = c.start.ensures.reads 32 (omega (arith, c.pages-pages.ensures.count)) in
    starts_there c.args.self.now (view g.S.PageSource c.args.source.now) (view g.S.PageSource c.start.new.source) _ c.args.low.now c.in_ok-start.start c.pages-count.result reads.kept c.pages-count.ensures.told (omega (arith, c.if-count-eq0.false)) (λ v. refl) c.in_ok-start.ensures.start

pub returns-clause-rows : goal.returns-clause-rows
returns-clause-rows g c =
    let reads = c.start.ensures.reads 32 (omega (arith, c.pages-pages.ensures.count)) in
    IfOk-weaker c.walk.result _ _ (λ bits. rows_on_way c.args.self.now (view g.S.PageSource c.args.source.now) (view g.S.PageSource c.start.new.source) (is_chosen (Between c.args.low c.args.high)) bits reads.kept) c.walk.ensures.rows

pub returns-clause-cause : goal.returns-clause-cause
returns-clause-cause g c =
    let reads = c.start.ensures.reads 32 (omega (arith, c.pages-pages.ensures.count)) in
    if_err_on c.walk.result _ _ (λ fault. cause_on_way c.args.self.now (view g.S.PageSource c.args.source.now) (view g.S.PageSource c.start.new.source) (view g.S.PageSource c.walk.new.source) fault reads.kept reads.later) c.walk.ensures.cause

pub returns-clause-few : goal.returns-clause-few
returns-clause-few g c = λ values st k h.
    let reads = c.start.ensures.reads k h in
    let now = stands_kept c.args.self.now (view g.S.PageSource c.args.source.now) (view g.S.PageSource c.start.new.source) values reads.kept st in
    let half = range_count c.args.low.now c.args.high.now values / 2 in
    reads_on (k + 1) (2 + half) (k + 3 + half) (view g.S.PageSource c.args.source.now) (view g.S.PageSource c.start.new.source) (view g.S.PageSource c.walk.new.source) (omega arith) reads (c.walk.ensures.few values now)
