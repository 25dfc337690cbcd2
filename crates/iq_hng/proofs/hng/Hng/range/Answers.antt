use Rattle.std.proofs.Common.{◌≡◌, ◌*◌, ◌∙◌, refl, sym, ap, length, arith, rules, FitsSigned, w64}
use Rattle.std.proofs.lemmas.Int.{to_z-of_z}
use Rattle.iq_pieces.proofs.Counting.{reads_on}
use Rattle.iq_chunks.specs.Chunks.{chunks_for}
use Rattle.iq_planes.specs.Planes.{GivesPlane}
use Rattle.iq_ast.specs.declared.conditions.Op.TheVariants.{Gt, Ge}
use Rattle.iq_hng.specs.Keys.{bits_of, IsSlice}
use Rattle.iq_hng.specs.Slices.{planes_in, planes_of, plane_of, holds_of, Stands}
use Rattle.iq_hng.specs.Ranges.{ToBit}
use Rattle.iq_hng.proofs.Rows.{plane_at-planes_of, length-difference, map_alike}
use Rattle.iq_hng.proofs.Ranges.{past_none, ranged_by}
use Rattle.iq_hng.proofs.hng.Hng.range.Goals as goal

pub returns-clause-long : goal.returns-clause-long
returns-clause-long g c =
    let some = c.in_ok-below.ensures.long in
    let cut = c.in_ok-cut.ensures.long in
    record {
      below = ap length c.without.ensures ∙ length-difference _ _ (some ∙ sym cut.begin) ∙ some;
      within = ap length c.without-2.ensures ∙ length-difference _ _ (cut.begin ∙ sym cut.end) ∙ cut.begin;
      above = cut.end;
    }

pub returns-clause-rows : goal.returns-clause-rows
returns-clause-rows g c = λ values h.
    let bits = bits_of c.args.self.now.width in
    let begin = c.of-begin.result in
    let end = c.of-end.result in
    let gives : GivesPlane (g.S.PageSource.told c.args.source.now c.args.self.now.object) (planes_in c.args.self.now) c.args.self.now.slots 0 c.in_ok-below.below = rw c.planes.ensures at c.in_ok-below.ensures.bits in
    let some : c.in_ok-below.below ≡ plane_of bits values 0 = gives (planes_of bits values) h.held ∙ plane_at-planes_of bits values 0 (omega arith) in
    let mid : Stands c.args.self.now (g.S.PageSource.told c.read_plane.new.source) values = record { slots = h.slots; numbers = h.numbers; held = rw (c.read_plane.ensures.reads.kept.told c.args.self.now.object) h.held } in
    let first : ToBit bits begin end 0 values record { begin = c.in_ok-first_rows.field-0; end = c.in_ok-first_rows-2.field-0 } = record {
      begin_rows = past_none begin.also bits begin.key values c.in_ok-below.below _ some h.numbers c.in_ok-first_rows.ensures.rows;
      end_rows = past_none end.also bits end.key values c.in_ok-below.below _ some h.numbers c.in_ok-first_rows-2.ensures.rows;
    } in
    let cut = c.in_ok-cut.ensures.rows values mid first in
    let low_fits : FitsSigned w64 c.args.low = search rules in
    let high_fits : FitsSigned w64 c.args.high = search rules in
    ranged_by bits c.args.low c.args.high values c.in_ok-below.below c.in_ok-cut.cut.begin c.in_ok-cut.cut.end _ h.numbers some
    (cut.begin_rows ∙ map_alike (IsSlice bits) _ (holds_of Ge c.args.low) (rw (to_z-of_z w64 c.args.low low_fits) at c.of-begin.ensures) values h.numbers)
    (cut.end_rows ∙ map_alike (IsSlice bits) _ (holds_of Gt c.args.high) (rw (to_z-of_z w64 c.args.high high_fits) at c.of-end.ensures) values h.numbers)
    c.without.ensures c.without-2.ensures refl

pub returns-clause-reads : goal.returns-clause-reads
returns-clause-reads g c =
    let chunks = chunks_for c.args.self.now.slots in
    reads_on chunks (bits_of c.args.self.now.width * chunks) (planes_in c.args.self.now * chunks) _ _ _ (omega arith) c.read_plane.ensures.reads c.cut.ensures.reads
