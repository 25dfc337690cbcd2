use Rattle.std.proofs.Common.{◌≡◌, ◌-◌, length, arith}
use Rattle.std.proofs.lemmas.Result.{IfOk-weaker}
use Rattle.iq_cells.specs.Packed.{Column}
use Rattle.iq_fp.proofs.Growth.{new_of_rest}
use Rattle.iq_fp.proofs.plan.Plan.fresh_values.Goals as goal

pub returns-clause-ok : goal.returns-clause-ok
returns-clause-ok c =
    let codes = c.args.self.now.codes.items in
    let values = c.args.cells.now.values in
    let first = length codes - length values in
    let long : c.args.self.now.codes.len ≡ length codes = omega (arith, c.args.self.now.codes.ok) in
    IfOk-weaker c.new_values.result _ _ (λ (found : Column) new. new_of_rest c.args.self.now.column.distinct values found.values codes first (length codes - first) (omega arith) new)
    (rw (c.len.ensures, long, c.len-2.ensures, c.deref.ensures.value) at c.new_values.ensures.ok)
