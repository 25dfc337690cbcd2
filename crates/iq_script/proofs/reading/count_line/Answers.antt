use Rattle.std.proofs.Common.{◌<◌, ◌≤◌, List, length, ap, ◌∙◌, arith}
use Rattle.iq_base.specs.declared.nodes.SessionSpec.{SessionSpec}
use Rattle.iq_script.specs.Putting.{counted_at}
use Rattle.iq_script.proofs.Sessions.{counted_past, counted_set}
use Rattle.iq_script.proofs.reading.count_line.Goals as goal
use Rattle.iq_script.proofs.reading.count_line.Goals.{then-place-len, else-place-len}

pub returns : goal.returns
returns c = elim c.if-place-len.branch [
  | then-place-len w ↦ (
      let less : c.args.place < length c.into_vec-items.result.items = omega (arith, w.if-place-len.true, c.len.ensures) in
      c.from_vec.ensures ∙ ap (λ v. v.items) w.items-is
      ∙ counted_set c.args.place c.into_vec-items.result.items w.index_mut.result.now w.index.result.now w.saturating_add.result less w.index_mut.ensures.value w.index.ensures w.saturating_add.ensures
      ∙ ap (λ (xs : List SessionSpec). counted_at c.args.place xs) c.into_vec-items.ensures)
  | else-place-len w ↦ (
      let past : length c.into_vec-items.result.items ≤ c.args.place = omega (arith, w.if-place-len.false, c.len.ensures) in
      c.from_vec.ensures ∙ ap (λ v. v.items) w.items-is
      ∙ counted_past c.args.place c.into_vec-items.result.items past
      ∙ ap (λ (xs : List SessionSpec). counted_at c.args.place xs) c.into_vec-items.ensures)
]
