use Rattle.std.proofs.Common.{◌<◌, ◌∙◌, arith}
use Rattle.std.proofs.lemmas.Grind.{rows}
use Rattle.iq_pieces.specs.Counts.{per_page}
use Rattle.iq_fp.proofs.OnPages.{code_of_row}
use Rattle.iq_fp.proofs.one_row.code_of_width.Goals as goal

pub returns-clause-code : goal.returns-clause-code
returns-clause-code g c = λ values stands.
    let low = c.requires.narrow.0 in
    let high = c.requires.narrow.1 in
    let some : 0 < per_page g.row.W = grind (arith, rows) in
    c.code_at-code.ensures.value ∙ code_of_row c.args.fp.now (g.S.PageSource.told c.args.source.now) values stands g.row.W c.args.row _ some c.requires.width c.in_ok-read_page.ensures.ok c.requires.within
