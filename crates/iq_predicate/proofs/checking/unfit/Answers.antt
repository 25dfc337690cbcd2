use Rattle.std.proofs.Common.{◌≡◌, List, Bool, sym, ◌∙◌, ap}
use Rattle.iq_base.specs.declared.values.Value.{Value}
use Rattle.iq_base.specs.declared.refusals.Refusal.TheVariants as refusals
use Rattle.std.specs.Prelude.{not}
use Rattle.std.specs.List.{list_any}
use Rattle.iq_statements.specs.Checks.{found_if}
use Rattle.iq_statements.specs.Fits.{column_named, is_of_class, test_mismatch}
use Rattle.iq_predicate.proofs.Classes.{mismatch_is}
use Rattle.iq_predicate.proofs.checking.unfit.Goals as goal

pub returns-in_ok-kind-in-OneOf-clause-found : goal.returns-in_ok-kind-in-OneOf-clause-found
returns-in_ok-kind-in-OneOf-clause-found c =
    let kind = c.in_ok-kind-in-OneOf.kind in
    c.refused-in-OneOf.ensures.found
    ∙ ap (λ (b : Bool). found_if b (refusals.TypeMismatch c.in-OneOf.column))
    (c.has_other_class.ensures ∙ ap (list_any (λ (value : Value). not (is_of_class kind value))) c.as_slice.ensures)
    ∙ mismatch_is c.in-OneOf.column kind c.in-OneOf.values (column_named c.args.columns.now c.in-OneOf.column) (sym c.kind_of-in-OneOf.ensures ∙ c.in_ok-kind-in-OneOf.was)
    ∙ ap (test_mismatch c.args.columns.now) (sym c.in-OneOf.is)
