use Rattle.std.proofs.Common.{rules, arith, ◌∙◌}
use Rattle.std.proofs.lemmas.Result.{err_from_is_err_and}
use Rattle.iq_block_map.proofs.PutLemmas.{looked_then}
use Rattle.iq_descriptors.proofs.ReadLemmas.{read_fault_on, bad_stops, order_stops, tables_more, tables_end}
use Rattle.iq_descriptors.proofs.reading.tables.Goals as goal

pub returns-in_err-table-clause-cause : goal.returns-in_err-table-clause-cause
returns-in_err-table-clause-cause g c =
    let p = err_from_is_err_and c.from_residual-in_err-table.result c.from_residual-in_err-table.ensures.1 in
    rw (p.1, p.2) (read_fault_on _ _ c.in_err-table.field-0.0 _ _ _ _ _ _ c.loop-head.invariant.looked.unchanged c.loop-head.invariant.looked.later (omega arith)
    (λ b all told bad. bad_stops all c.loop-head.tables.items c.loop-head.before c.args.heads.now c.loop-head.head-index b (search rules) bad (c.loop-head.invariant.so_far all told))
    c.in_err-table.ensures.cause)

pub returns-then-not-comes_behind-clause-cause : goal.returns-then-not-comes_behind-clause-cause
returns-then-not-comes_behind-clause-cause g c = λ all told.
    order_stops all c.loop-head.tables.items c.loop-head.before c.args.heads.now c.loop-head.head-index c.in_ok-table.field-0.table (search rules)
    (c.in_ok-table.ensures.ok all (c.loop-head.invariant.looked.unchanged ∙ told)).stands (search rules) (c.loop-head.invariant.so_far all told)

pub loop-head-preserved : goal.loop-head-preserved
loop-head-preserved g c = record {
  looked = looked_then g.D.Device c.args.disk.now c.loop-head.disk c.read_in.new.disk c.loop-head.invariant.looked c.read_in.ensures.looked;
  so_far = λ all told.
      tables_more all c.loop-head.tables.items c.push.new.self.items c.loop-head.before c.again-before.result c.args.heads.now c.loop-head.head-index
      c.in_ok-table.field-0.table (search rules) (c.in_ok-table.ensures.ok all (c.loop-head.invariant.looked.unchanged ∙ told)).stands (search rules)
      (search rules) (search rules) (c.loop-head.invariant.so_far all told);
}

pub returns-clause-ok : goal.returns-clause-ok
returns-clause-ok g c = λ all told.
    tables_end all c.loop-head.tables.items c.loop-head.before c.args.heads.now c.loop-head.head-index (search rules) (c.loop-head.invariant.so_far all told)
