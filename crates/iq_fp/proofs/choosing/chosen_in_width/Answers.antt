use Rattle.std.proofs.Common.{inl, length, ◌<◌, ◌≤◌, ◌/◌, ◌*◌, ◌+◌, ◌∙◌, min, refl, arith}
use Rattle.std.proofs.lemmas.Grind.{rows}
use Rattle.iq_bitmap.specs.Bits.{IsNextSet, HasNoneFrom}
use Rattle.iq_pages.specs.Pages.{IsPageOf}
use Rattle.iq_pieces.specs.Counts.{per_page, pages_for}
use Rattle.iq_pieces.proofs.Counting.{reads_on}
use Rattle.iq_fp.proofs.Chosen.{page_onward, page_within, chosen_next, chosen_long, all_chosen, all_long}
use Rattle.iq_pieces.specs.declared.taking.PieceFault.TheVariants.{BadPiece}
use Rattle.iq_pieces.specs.Faults.{CodesBelow, ArePieces}
use Rattle.iq_pieces.specs.Taking.{HasPieceCause}
use Rattle.iq_fp.specs.Forms.{code_width}
use Rattle.iq_fp.proofs.OnPages.{unsound_pieces}
use Rattle.iq_fp.proofs.choosing.chosen_in_width.Goals as goal

pub pages-preserved : goal.pages-preserved
pages-preserved g c =
    let fp = c.args.fp.now in
    let per = per_page g.row.W in
    let row = c.in-Some.row in
    let low = c.requires.narrow.0 in
    let high = c.requires.narrow.1 in
    let some : 0 < per_page g.row.W = grind (arith, rows) in
    let next : IsNextSet c.args.rows.now (min fp.slots (per * c.pages.p)) row = rw (← c.min.ensures) c.in-Some.ensures.found in
    let less : row < fp.slots = omega (arith, next.within, c.requires.rows) in
    let onward : c.pages.p ≤ row / per = page_onward per c.pages.p row fp.slots some next.onward less in
    let here : IsPageOf (g.S.PageSource.told c.args.source.now fp.codes) (row / per) c.read_page.new.into = rw (c.pages.invariant.reads.kept.told fp.codes) at c.in_ok-read_page.ensures.ok in
    let within : row / per < pages_for g.row.W fp.slots = page_within per row fp.slots (pages_for g.row.W fp.slots) some refl less in
    record {
      kind = c.in-Ok.ensures.kind ∙ c.pages.invariant.kind;
      few = omega (arith, within);
      long = chosen_long c.args.rows.now g.row.W c.pages.p row c.min-here.result fp.slots c.pages.cells.values _ _ some c.requires.rows next c.min-here.ensures c.in-Ok.ensures.values c.pages.invariant.long;
      values = chosen_next fp (g.S.PageSource.told c.args.source.now) c.args.rows.now c.args.known.now.values g.row.W c.pages.p row c.min-here.result c.read_page.new.into _ _ some c.requires.width c.requires.rows next here c.min-here.ensures c.in-Ok.ensures.values c.pages.invariant.values;
      reads = reads_on c.pages.p 1 (row / per + 1) _ _ _ (omega (arith, onward)) c.pages.invariant.reads c.read_page.ensures.reads;
    }

pub returns-in-Err-BadPiece-clause-cause : goal.returns-in-Err-BadPiece-clause-cause
returns-in-Err-BadPiece-clause-cause g c =
    let fp = c.args.fp.now in
    let per = per_page g.row.W in
    let row = c.in-Some.row in
    let low = c.requires.narrow.0 in
    let high = c.requires.narrow.1 in
    let some : 0 < per_page g.row.W = grind (arith, rows) in
    let form = CodesBelow (code_width fp.distinct) fp.distinct in
    let next : IsNextSet c.args.rows.now (min fp.slots (per * c.pages.p)) row = rw (← c.min.ensures) c.in-Some.ensures.found in
    let less : row < fp.slots = omega (arith, next.within, c.requires.rows) in
    let within : row / per < pages_for g.row.W fp.slots = page_within per row fp.slots (pages_for g.row.W fp.slots) some refl less in
    let needed : row / per < pages_for (code_width fp.distinct) fp.slots = rw (← c.requires.width) within in
    let here : IsPageOf (g.S.PageSource.told c.args.source.now fp.codes) (row / per) c.read_page.new.into = rw (c.pages.invariant.reads.kept.told fp.codes) at c.in_ok-read_page.ensures.ok in
    let cause : HasPieceCause (CodesBelow g.row.W (length c.args.known.now.values)) c.read_page.new.into c.min-here.result BadPiece = rw c.in-Err-BadPiece.field-0-is at c.in-Err-BadPiece.ensures.cause in
    let bad : ¬ (ArePieces form c.read_page.new.into c.min-here.result) = rw (← c.requires.width, ← c.requires.known) cause in
    inl (refl, needed, unsound_pieces form fp.slots (g.S.PageSource.told c.args.source.now fp.codes) (row / per) c.min-here.result _ here (rw (← c.requires.width) c.min-here.ensures) bad)

pub returns-clause-values : goal.returns-clause-values
returns-clause-values g c =
    let fp = c.args.fp.now in
    let from = min fp.slots (per_page g.row.W * c.pages.p) in
    let none : HasNoneFrom c.args.rows.now from = rw (← c.min.ensures) c.in_default.ensures.none in
    all_chosen fp (g.S.PageSource.told c.args.source.now) c.args.rows.now c.args.known.now.values from c.pages.cells.values (omega (arith, c.requires.rows)) none c.pages.invariant.values

pub returns-clause-long : goal.returns-clause-long
returns-clause-long g c =
    let fp = c.args.fp.now in
    let from = min fp.slots (per_page g.row.W * c.pages.p) in
    let none : HasNoneFrom c.args.rows.now from = rw (← c.min.ensures) c.in_default.ensures.none in
    all_long c.args.rows.now from c.pages.cells.values (omega (arith, c.requires.rows)) none c.pages.invariant.long
