use Rattle.std.proofs.Common.{◌≡◌, ◌<◌, ◌≤◌, ◌/◌, ℕ, length, ap, arith}
use Rattle.std.proofs.lemmas.Grind.{rows}
use Rattle.iq_base.specs.Cells.{width}
use Rattle.iq_pieces.specs.Counts.{per_page, CountsUpTo}
use Rattle.iq_fp.specs.Calls.{StandsForMore, pages_written, most_written}
use Rattle.iq_fp.proofs.Bounds.{up_to_more, written_within}
use Rattle.iq_fp.proofs.Growth.{plan_there, more_still}
use Rattle.iq_fp.proofs.fp.Fp.append.Goals as goal

pub carry_out-requires-clause-made_for : goal.carry_out-requires-clause-made_for
carry_out-requires-clause-made_for g c =
    let plan = c.in_ok-plan.plan in
    let kept = c.plan.ensures.reads.kept.told in
    plan_there plan (g.S.PageSource.told c.args.sink.now) (g.S.PageSource.told c.plan.new.source) c.args.cells.now.values (kept plan.column.codes) (kept plan.column.values) c.in_ok-plan.ensures.plan

pub returns-clause-ok : goal.returns-clause-ok
returns-clause-ok g c =
    let plan = c.in_ok-plan.plan in
    let told = g.S.PageSource.told c.args.sink.now in
    let between = g.S.PageSource.told c.plan.new.source in
    let cells = c.args.cells.now.values in
    let kept = c.plan.ensures.reads.kept.told in
    let more : StandsForMore plan.column plan.grown cells told (g.S.PageSource.told c.carry_out.new.sink) =
    more_still plan.column plan.grown told between (g.S.PageSource.told c.carry_out.new.sink) cells (kept plan.column.codes) (kept plan.column.values) c.in_ok-carry_out.ensures.ok in
    rw c.in_ok-plan.ensures.column at more

pub returns-in_err-carry_out-clause-unwritten : goal.returns-in_err-carry_out-clause-unwritten
returns-in_err-carry_out-clause-unwritten g c =
    let self = c.args.self.now in
    let grown = c.in_ok-plan.plan.grown in
    let more = length c.args.cells.now.values in
    let per : 1008 / c.width-width.result ≡ per_page (width self.kind) = ap (λ (n : ℕ). 1008 / n) c.width-width.ensures.value in
    let positive : 0 < 1008 / c.width-width.result = grind (arith, rows) in
    let longer = c.in_ok-plan.ensures.longer in
    let within : pages_written self grown ≤ most_written self more = written_within self grown more (omega (arith, per, positive)) longer.slots longer.distinct longer.most in
    let wrote : CountsUpTo (pages_written self grown) (g.S.PageSource.writes c.args.sink.now) (g.S.PageSource.writes c.carry_out.new.sink) = rw (c.in_ok-plan.ensures.column, c.plan.ensures.reads.writes) at c.carry_out.ensures.unwritten in
    up_to_more (pages_written self grown) (most_written self more) _ _ within wrote

pub returns-clause-unwritten : goal.returns-clause-unwritten
returns-clause-unwritten g c =
    let self = c.args.self.now in
    let grown = c.in_ok-plan.plan.grown in
    let more = length c.args.cells.now.values in
    let per : 1008 / c.width-width.result ≡ per_page (width self.kind) = ap (λ (n : ℕ). 1008 / n) c.width-width.ensures.value in
    let positive : 0 < 1008 / c.width-width.result = grind (arith, rows) in
    let longer = c.in_ok-plan.ensures.longer in
    let within : pages_written self grown ≤ most_written self more = written_within self grown more (omega (arith, per, positive)) longer.slots longer.distinct longer.most in
    let wrote : CountsUpTo (pages_written self grown) (g.S.PageSource.writes c.args.sink.now) (g.S.PageSource.writes c.carry_out.new.sink) = rw (c.in_ok-plan.ensures.column, c.plan.ensures.reads.writes) at c.carry_out.ensures.unwritten in
    up_to_more (pages_written self grown) (most_written self more) _ _ within wrote
