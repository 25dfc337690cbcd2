-- A column beside values of another class.
use Rattle.std.proofs.Common.{◌≡◌, List, Option, Some, None, refl, sym, ap}
use Rattle.std.specs.Prelude.{not, unwrap_or}
use Rattle.std.specs.List.{list_any}
use Rattle.std.specs.Option.{option_map}
use Rattle.iq_base.specs.Shorts.{Name}
use Rattle.iq_base.specs.declared.values.Kind.{Kind}
use Rattle.iq_base.specs.declared.values.Value.{Value}
use Rattle.iq_base.specs.declared.schemas.Column.{Column}
use Rattle.iq_base.specs.declared.refusals.Refusal.{Refusal}
use Rattle.iq_base.specs.declared.refusals.Refusal.TheVariants as refusals
use Rattle.iq_statements.specs.Checks.{found_if}
use Rattle.iq_statements.specs.Fits.{is_of_class, mismatch}

-- by what the column holds
pub mismatch_is : (name : Name) (kind : Kind) (values : List Value) (column : Option Column) → option_map (λ (c : Column). c.kind) column ≡ Some kind
    → found_if (list_any (λ (value : Value). not (is_of_class kind value)) values) (refusals.TypeMismatch name) ≡ mismatch name column values
mismatch_is name kind values None is = cc
mismatch_is name kind values (Some column) is =
    let same = ap (λ (o : Option Kind). unwrap_or o kind) is in
    ap (λ (k : Kind). found_if (list_any (λ (value : Value). not (is_of_class k value)) values) (refusals.TypeMismatch name)) (sym same)
