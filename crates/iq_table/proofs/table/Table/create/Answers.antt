use Rattle.std.proofs.Common.{◌≡◌, ◌<◌, ◌≤◌, ◌+◌, ◌*◌, ℕ, length, arith}
use Rattle.iq_base.specs.Cells.{width}
use Rattle.iq_pages.specs.PageCalls.{view}
use Rattle.iq_table.specs.Places.{part_at}
use Rattle.iq_table.proofs.Making.{AreMade, made_stands}
use Rattle.iq_table.proofs.table.Table.create.Goals as goal

pub returns-clause-ok : goal.returns-clause-ok
returns-clause-ok g c = λ tells.
    let self = c.args.self.now in
    let columns = self.parts.columns in
    let fit : (k : ℕ) → k < length columns → (1 ≤ width (part_at k columns).kind) × (width (part_at k columns).kind ≤ 257) = rw c.as_slice.ensures at c.cells_fit_pages.ensures in
    let end : c.loop-object.object ≡ 256 * self.place + 1 + 2 * length columns = omega (arith, c.loop-object-test.false, c.loop-object.auto.object-end, c.existence_of-first.ensures, c.len.ensures) in
    let made : AreMade (256 * self.place) c.loop-object.object (view g.S.PageSource c.args.sink.now) (view g.S.PageSource c.loop-object.sink) = rw c.existence_of-first.ensures at c.loop-object.invariant.made in
    made_stands self (view g.S.PageSource c.args.sink.now) (view g.S.PageSource c.loop-object.sink) c.loop-object.object c.requires.few c.requires.unused (λ k h. (fit k h).0) (λ k h. (fit k h).1) end made tells
