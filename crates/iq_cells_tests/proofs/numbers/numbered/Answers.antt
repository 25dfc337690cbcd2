use Rattle.std.proofs.Common.{sym}
use Rattle.iq_numbering.specs.Numbers.{IsNumbered}
use Rattle.iq_cells_tests.proofs.numbers.numbered.Goals as goal

pub returns : goal.returns
returns c =
    let found = c.in_ok-found.ensures.ok in
    let known = c.args.known.now.values in
    let numbered : IsNumbered known c.args.values.now.values found.new c.in_ok-found.found.codes.items = found.numbered in
    let same = c.in_ok-new.ensures.ok known found.new (sym c.len-4.ensures) (rw c.deref.ensures.value numbered) in
    rw same numbered.distinct
