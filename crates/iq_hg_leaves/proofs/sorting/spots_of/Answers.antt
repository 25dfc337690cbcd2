use Rattle.std.proofs.Common.{◌≡◌, ◌<◌, ◌∙◌, ap, sym, length, refl, arith}
use mathlib.Core.Bool.{true≢false}
use Rattle.std.proofs.lemmas.List.Elements.{All-push}
use Rattle.iq_cells.specs.Packed.{Column}
use Rattle.iq_hg_leaves.specs.declared.spots.Spot.{Spot}
use Rattle.std.specs.List.{All}
use Rattle.std.proofs.Common.{subst}
use Rattle.iq_hg_leaves.proofs.SpotLaws.{null_more, spot_pushed}
use Rattle.iq_hg_leaves.proofs.sorting.spots_of.Goals as goal

pub loop-i-preserved-then-is_null : goal.loop-i-preserved-then-is_null
loop-i-preserved-then-is_null c =
    let there : c.loop-i.i < length c.args.cells.now.values = omega (arith, c.len-i-end.ensures) in
    record { all = c.loop-i.invariant.all ∙ sym (null_more c.args.first c.args.cells.now.values c.loop-i.i there (c.if-is_null.ensures.0 refl)); same = c.loop-i.invariant.same }

pub loop-i-preserved : goal.loop-i-preserved
loop-i-preserved c =
    let there : c.loop-i.i < length c.args.cells.now.values = omega (arith, c.len-i-end.ensures) in
    let P = λ (spot : Spot). spot.cells.now.kind ≡ c.args.cells.now.kind in
    record {
      all = spot_pushed c.args.cells.now c.args.first c.loop-i.i c.loop-i.spots.items c.push.new.self.items c.of.result there (λ e. true≢false (sym (c.if-is_null.ensures.1 e))) c.in_ok-push.ensures.items c.of.ensures.cells (omega (arith, c.of.ensures.place)) (omega (arith, c.of.ensures.row)) c.loop-i.invariant.all;
      same = subst (All P) (sym c.in_ok-push.ensures.items) (All-push P c.loop-i.spots.items c.of.result c.loop-i.invariant.same (ap (λ (k : Column). k.kind) c.of.ensures.cells));
    }
