use Rattle.std.proofs.Common.{◌≡◌, ◌<◌, ◌+◌, ◌*◌, ◌∙◌, refl, sym, ap, length, arith}
use Rattle.iq_pieces.proofs.Counting.{reads_on}
use Rattle.iq_chunks.specs.Chunks.{chunks_for}
use Rattle.iq_planes.specs.Planes.{GivesPlane}
use Rattle.iq_hng.specs.Keys.{bits_of}
use Rattle.iq_hng.specs.Slices.{planes_in, planes_of, plane_of}
use Rattle.iq_hng.proofs.Rows.{plane_at-planes_of, rows_more}
use Rattle.iq_hng.proofs.Ranges.{past_next, ended, length_narrowed}
use Rattle.iq_hng.proofs.hng.Hng.cut.Goals as goal

pub returns-then-is_end-2-clause-rows : goal.returns-then-is_end-2-clause-rows
returns-then-is_end-2-clause-rows g c = λ values h from. ended (bits_of c.args.self.now.width) c.args.begin c.args.end values c.args.cut h.numbers (c.if-is_end.ensures refl) (c.if-is_end-2.ensures refl) from

pub returns-in_err-plane-clause-reads : goal.returns-in_err-plane-clause-reads
returns-in_err-plane-clause-reads g c =
    let chunks = chunks_for c.args.self.now.slots in
    reads_on (c.loop-j.j * chunks) chunks (bits_of c.args.self.now.width * chunks) _ _ _ (rows_more c.loop-j.j (bits_of c.args.self.now.width) chunks (omega (arith, c.loop-j-test.true, c.bits-j-end.ensures))) c.loop-j.invariant.reads c.read_plane.ensures.reads

pub loop-j-preserved : goal.loop-j-preserved
loop-j-preserved g c =
    let chunks = chunks_for c.args.self.now.slots in
    let bits = bits_of c.args.self.now.width in
    let j = c.loop-j.j in
    let few : j < bits = omega (arith, c.loop-j-test.true, c.bits-j-end.ensures) in
    let gives : GivesPlane (g.S.PageSource.told c.args.source.now c.args.self.now.object) (planes_in c.args.self.now) c.args.self.now.slots (j + 1) c.in_ok-plane.plane =
    rw (c.loop-j.invariant.reads.kept.told c.args.self.now.object, c.planes.ensures) at c.in_ok-plane.ensures.bits in
    let before = c.loop-j.invariant in
    record {
      long = record {
        begin = ap length c.narrow.ensures ∙ length_narrowed _ _ _ (before.long.begin ∙ sym c.in_ok-plane.ensures.long) ∙ before.long.begin;
        end = ap length c.narrow-in-loop-j.ensures ∙ length_narrowed _ _ _ (before.long.end ∙ sym c.in_ok-plane.ensures.long) ∙ before.long.end;
      };
      rows = λ values h from.
          let plane : c.in_ok-plane.plane ≡ plane_of bits values (j + 1) = gives (planes_of bits values) h.held ∙ plane_at-planes_of bits values (j + 1) (omega (arith, few)) in
          let rows = before.rows values h from in
          record {
            begin_rows = past_next c.args.begin.also bits c.args.begin.key j values _ _ _ plane rows.begin_rows c.narrow.ensures;
            end_rows = past_next c.args.end.also bits c.args.end.key j values _ _ _ plane rows.end_rows c.narrow-in-loop-j.ensures;
          };
      reads = reads_on (j * chunks) chunks ((j + 1) * chunks) _ _ _ (rows_more j (j + 1) chunks (omega arith)) before.reads c.read_plane.ensures.reads;
    }
