use Rattle.std.proofs.Common.{◌≡◌, ◌+◌, ◌-◌, ◌++◌, ◌∷◌, [], ℕ, List, map, sym, ap, ◌∙◌, append_assoc, arith}
use Rattle.iq_base.specs.declared.values.Value.{Value}
use Rattle.iq_cells.specs.Packed.{Column, value_at}
use Rattle.iq_cells.specs.Codes.{code_in}
use Rattle.iq_fp.specs.Scans.{value_on_page, set_rows}
use Rattle.iq_fp.proofs.Chosen.{picked_on, picked_off}
use Rattle.iq_fp.proofs.choosing.push_set.Goals as goal
use Rattle.iq_fp.proofs.choosing.push_set.Goals.{then-get+else-code-len+in_ok-push_from, else-get}

pub loop-k-preserved : goal.loop-k-preserved
loop-k-preserved g c =
    let old = c.args.cells.now.values in
    let known = c.args.known.now.values in
    let start = c.args.start in
    let k = c.loop-k.k in
    let value = value_on_page g.row.W c.args.page.now start known in
    elim c.if-get.branch [
      | then-get+else-code-len+in_ok-push_from w ↦ (
          let pushed = w.in_ok-push_from.ensures.ok in
          let place : start + k - start ≡ k = omega arith in
          let here : value_at w.code_at-code.result known ≡ value (start + k) = ap (λ (n : ℕ). value_at n known) (w.code_at-code.ensures.value ∙ ap (code_in g.row.W c.args.page.now) (sym place)) in
          record {
            kind = ap (λ (column : Column). column.kind) (w.cells-is ∙ pushed) ∙ c.loop-k.invariant.kind;
            values = ap (λ (column : Column). column.values) (w.cells-is ∙ pushed) ∙ ap (λ (vs : List Value). vs ++ value_at w.code_at-code.result known ∷ []) c.loop-k.invariant.values
                ∙ append_assoc old (map value (set_rows c.args.rows.now start k)) (value_at w.code_at-code.result known ∷ [])
                ∙ ap (λ (v : Value). old ++ (map value (set_rows c.args.rows.now start k) ++ v ∷ [])) here
                ∙ ap (λ (vs : List Value). old ++ vs) (sym (picked_on value c.args.rows.now start k (sym c.get.ensures ∙ w.if-get.true)));
          })
      | else-get w ↦ record {
        kind = ap (λ (column : Column). column.kind) w.cells-is ∙ c.loop-k.invariant.kind;
        values = ap (λ (column : Column). column.values) w.cells-is ∙ c.loop-k.invariant.values ∙ ap (λ (vs : List Value). old ++ vs) (sym (picked_off value c.args.rows.now start k (sym c.get.ensures ∙ w.if-get.false)));
      }
    ]
