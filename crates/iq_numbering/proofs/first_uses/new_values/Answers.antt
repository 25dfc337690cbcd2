use Rattle.std.proofs.Common.{◌≡◌, ◌≢◌, ◌<◌, ◌+◌, ◌++◌, ◌∷◌, [], length, slice_index, ap, ◌∙◌, arith}
use Rattle.std.proofs.lemmas.List.{length-append}
use Rattle.iq_cells.specs.Packed.{Column, value_at}
use Rattle.iq_numbering.proofs.Numbering.{found_next, found_same, found_all}
use Rattle.iq_numbering.proofs.first_uses.new_values.Goals as goal
use Rattle.iq_numbering.proofs.first_uses.new_values.Goals.{then-codes-i+in_ok-push_from, else-codes-i}

pub loop-i-preserved : goal.loop-i-preserved
loop-i-preserved c =
    let values = c.args.cells.now.values in
    let i = c.loop-i.i in
    let found = c.loop-i.found in
    let within : i < length values = omega arith in
    elim c.if-codes-i.branch [
      | then-codes-i+in_ok-push_from w ↦ (
          let column = w.found-is ∙ w.in_ok-push_from.ensures.ok in
          let more : c.if-codes-i.found.values ≡ found.values ++ value_at i values ∷ [] = ap (λ (column : Column). column.values) column in
          record {
            first = λ before new long n. (
                let here : slice_index c.args.codes.now i ≡ length before + length found.values = omega (arith, long, w.if-codes-i.true, c.len.ensures) in
                rw more (found_next before values new c.args.codes.now n i found.values within (c.loop-i.invariant.first before new long n) here));
            kind = ap (λ (column : Column). column.kind) column ∙ c.loop-i.invariant.kind;
            few = omega (arith, ap length more, length-append found.values (value_at i values ∷ []), c.loop-i.invariant.few);
          })
      | else-codes-i w ↦ (
          let same = ap (λ (column : Column). column.values) w.found-is in
          record {
            first = λ before new long n. (
                let other : slice_index c.args.codes.now i ≢ length before + length found.values = λ e. w.if-codes-i.false (omega (arith, long, e, c.len.ensures)) in
                rw same (found_same before values new c.args.codes.now n i found.values within (c.loop-i.invariant.first before new long n) other));
            kind = ap (λ (column : Column). column.kind) w.found-is ∙ c.loop-i.invariant.kind;
            few = omega (arith, ap length same, c.loop-i.invariant.few);
          })
    ]

pub returns-clause-ok : goal.returns-clause-ok
returns-clause-ok c = λ before new long n. found_all before _ new _ n c.loop-i.i _ (omega arith) (c.loop-i.invariant.first before new long n)
