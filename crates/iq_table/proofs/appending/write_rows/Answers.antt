use Rattle.std.proofs.Common.{length, arith}
use Rattle.std.proofs.lemmas.Result.{IfErr-weaker}
use Rattle.iq_pages.specs.PageCalls.{view}
use Rattle.iq_table.proofs.TableGrowth.{plans_from, columns_told, columns_cause, none_first, write_cause_columns}
use Rattle.iq_table.proofs.appending.write_rows.Goals as goal

pub write_columns-requires-clause-plans : goal.write_columns-requires-clause-plans
write_columns-requires-clause-plans g c =
    plans_from c.args.place c.args.slots c.args.parts.now _ _ (view g.S.PageSource c.args.sink.now) (view g.S.PageSource c.plan_columns.new.source) (view g.S.PageSource c.append_ones.new.sink) _ c.plan_columns.ensures.reads.kept (rw c.existence_of.ensures at c.append_ones.ensures.others) c.in_ok-planned.ensures.plans

pub returns-clause-bad_first : goal.returns-clause-bad_first
returns-clause-bad_first g c = λ tells.
    let a = view g.S.PageSource c.args.sink.now in
    let b = view g.S.PageSource c.plan_columns.new.source in
    let d = view g.S.PageSource c.append_ones.new.sink in
    IfErr-weaker c.write_columns.result _ _
    (λ fault none. none_first a (view g.S.PageSource c.write_columns.new.sink) fault none)
    (c.write_columns.ensures.told (columns_told c.args.place (length c.args.parts.now) a b d c.plan_columns.ensures.reads.kept (rw c.existence_of.ensures at c.append_ones.ensures.others) tells))

pub returns-clause-cause : goal.returns-clause-cause
returns-clause-cause g c =
    let a = view g.S.PageSource c.args.sink.now in
    let b = view g.S.PageSource c.plan_columns.new.source in
    let d = view g.S.PageSource c.append_ones.new.sink in
    let f = view g.S.PageSource c.write_columns.new.sink in
    IfErr-weaker c.write_columns.result _ _
    (λ fault h. write_cause_columns c.args.place c.args.slots c.args.parts.now a f fault
    (columns_cause c.args.place c.args.slots c.args.parts.now a b d f fault c.plan_columns.ensures.reads.kept (rw c.existence_of.ensures at c.append_ones.ensures.others) (omega (arith, c.plan_columns.ensures.reads.later, c.append_ones.ensures.later)) h))
    c.write_columns.ensures.cause
