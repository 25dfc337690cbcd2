use Rattle.std.proofs.Common.{◌≡◌, ◌∷◌, take}
use Rattle.iq_base.specs.declared.values.Value.TheVariants.{Null}
use Rattle.iq_lf.proofs.known.with_null.Given as goal

abbrev pub invariant-loop-i : goal.invariant-loop-i
invariant-loop-i l = record {
  kind : l.all.kind ≡ l.known.kind;
  values : l.all.values ≡ Null ∷ take l.i l.known.values;
}
