use Rattle.std.proofs.Common.{◌∙◌, sym, ap, length, rules}
use Rattle.iq_bitmap.proofs.NextSet.{rows_next, rows_none}
use Rattle.iq_bitmap.proofs.rows.RowsIterator.next.Goals as goal

pub returns-in_default-clause-steps : goal.returns-in_default-clause-steps
returns-in_default-clause-steps c = let none = sym c.self.view_is ∙ rows_none c.self.inside.bitmap.now c.self.inside.from c.in_default.ensures.none in (none, none)

pub returns-clause-steps : goal.returns-clause-steps
returns-clause-steps c = sym c.self.view_is ∙ rows_next c.self.inside.bitmap.now c.self.inside.from c.in-Some.row c.in-Some.ensures.found

pub returns-clause-goes : goal.returns-clause-goes
returns-clause-goes c = let e = ap length (sym c.self.view_is ∙ rows_next c.self.inside.bitmap.now c.self.inside.from c.in-Some.row c.in-Some.ensures.found) in search rules
