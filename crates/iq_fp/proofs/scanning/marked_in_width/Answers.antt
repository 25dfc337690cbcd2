use Rattle.std.proofs.Common.{◌<◌, ◌*◌, ◌+◌, inl, refl, ◌∙◌, arith}
use Rattle.std.proofs.lemmas.Grind.{rows}
use Rattle.iq_pages.specs.Pages.{IsPageOf}
use Rattle.iq_pieces.specs.Counts.{per_page, pages_for}
use Rattle.iq_pieces.specs.Faults.{CodesBelow, ArePieces}
use Rattle.iq_pieces.proofs.Counting.{reads_on, ends_behind}
use Rattle.iq_fp.specs.Forms.{code_width}
use Rattle.iq_fp.proofs.OnPages.{marked_next, all_marked, unsound_pieces}
use Rattle.iq_fp.proofs.scanning.marked_in_width.Goals as goal

pub returns-then-not-mark-clause-reads : goal.returns-then-not-mark-clause-reads
returns-then-not-mark-clause-reads g c = reads_on c.loop-p.p 1 _ _ _ _ (omega (arith, c.div_ceil-p-end.ensures, c.loop-p-test.true)) c.loop-p.invariant.reads c.read_page.ensures.reads

pub returns-then-not-mark-clause-cause : goal.returns-then-not-mark-clause-cause
returns-then-not-mark-clause-cause g c =
    let fp = c.args.fp.now in
    let form = CodesBelow (code_width fp.distinct) fp.distinct in
    let here : IsPageOf (g.S.PageSource.told c.args.source.now fp.codes) c.loop-p.p c.read_page.new.into = rw (c.loop-p.invariant.reads.kept.told fp.codes) at c.in_ok-read_page.ensures.ok in
    let within : c.loop-p.p < pages_for g.row.W fp.slots = omega (arith, c.div_ceil-p-end.ensures, c.loop-p-test.true) in
    let needed : c.loop-p.p < pages_for (code_width fp.distinct) fp.slots = rw (← c.requires.width) within in
    let bad : ¬ (ArePieces form c.read_page.new.into c.min-here.result) = rw (← c.requires.width, ← c.requires.hits) (c.if-not-mark.ensures.bad refl) in
    inl (refl, needed, unsound_pieces form fp.slots (g.S.PageSource.told c.args.source.now fp.codes) c.loop-p.p c.min-here.result _ here (rw (← c.requires.width) c.min-here.ensures) bad)

pub loop-p-preserved : goal.loop-p-preserved
loop-p-preserved g c =
    let fp = c.args.fp.now in
    let here : IsPageOf (g.S.PageSource.told c.args.source.now fp.codes) c.loop-p.p c.read_page.new.into = rw (c.loop-p.invariant.reads.kept.told fp.codes) at c.in_ok-read_page.ensures.ok in
    record {
      long = c.mark.ensures.long ∙ c.loop-p.invariant.long;
      rows = marked_next fp (g.S.PageSource.told c.args.source.now) c.args.hits.now g.row.W c.loop-p.p c.min-here.result _ _ _ c.requires.width here c.min-here.ensures (c.if-not-mark.ensures.rows refl) c.loop-p.invariant.rows;
      reads = reads_on c.loop-p.p 1 (c.loop-p.p + 1) _ _ _ (omega arith) c.loop-p.invariant.reads c.read_page.ensures.reads;
    }

pub returns-clause-rows : goal.returns-clause-rows
returns-clause-rows g c =
    let low = c.requires.narrow.0 in
    let high = c.requires.narrow.1 in
    let some : 0 < per_page g.row.W = grind (arith, rows) in
    all_marked c.args.fp.now (g.S.PageSource.told c.args.source.now) c.args.hits.now (per_page g.row.W * c.loop-p.p) c.loop-p.bits (ends_behind _ _ _ some (omega (arith, c.div_ceil-p-end.ensures, c.loop-p-test.false))) c.loop-p.invariant.long c.loop-p.invariant.rows
