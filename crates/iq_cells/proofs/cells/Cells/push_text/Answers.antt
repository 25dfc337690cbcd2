use Rattle.std.proofs.Common.{rules, IsUtf8, ap, subst, sym, ◌∙◌}
use Rattle.iq_base.specs.declared.values.Kind.{Kind}
use Rattle.iq_base.specs.declared.values.Value.TheVariants.{Text}
use Rattle.iq_base.specs.Cells.{IsOf}
use Rattle.iq_cells.specs.Packed.{Column}
use Rattle.iq_cells.proofs.FieldLaws.{text_fits}
use Rattle.iq_cells.proofs.PackedLaws.{column_push}
use Rattle.iq_cells.proofs.cells.Cells.push_text.Goals as goal

pub invariant_of-self-2 : goal.invariant_of-self-2
invariant_of-self-2 c =
    let of : IsOf c.args.self.now.kind (Text c.args.bytes.now) = subst (λ (k : Kind). IsOf k (Text c.args.bytes.now)) (ap (λ (column : Column). column.kind) c.self.view_is) (text_fits _ _ (sym c.text_cause.ensures ∙ c.in_default.is)) in
    let utf8 : IsUtf8 c.args.bytes.now = search rules in
    (column_push _ _ _ _ c.self.invariant c.self.view_is (Text c.args.bytes.now) _ of utf8 c.in_ok-put_text_behind.ensures.ok).0

pub returns-clause-ok : goal.returns-clause-ok
returns-clause-ok c =
    let of : IsOf c.args.self.now.kind (Text c.args.bytes.now) = subst (λ (k : Kind). IsOf k (Text c.args.bytes.now)) (ap (λ (column : Column). column.kind) c.self.view_is) (text_fits _ _ (sym c.text_cause.ensures ∙ c.in_default.is)) in
    let utf8 : IsUtf8 c.args.bytes.now = search rules in
    (column_push _ _ _ _ c.self.invariant c.self.view_is (Text c.args.bytes.now) _ of utf8 c.in_ok-put_text_behind.ensures.ok).1
