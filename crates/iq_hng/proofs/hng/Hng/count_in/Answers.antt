use Rattle.std.proofs.Common.{◌≡◌, Bool, List, ap, ◌∙◌}
use Rattle.std.specs.List.{count_by}
use Rattle.iq_bitmap.specs.Bits.{both}
use Rattle.iq_planes.specs.Planes.{GivesPlane}
use Rattle.iq_hng.specs.Keys.{bits_of}
use Rattle.iq_hng.specs.Slices.{planes_in, planes_of, plane_of}
use Rattle.iq_hng.proofs.Rows.{plane_at-planes_of}
use Rattle.iq_hng.proofs.hng.Hng.count_in.Goals as goal

pub returns-clause-count : goal.returns-clause-count
returns-clause-count g c = λ values h.
    let bits = bits_of c.args.self.now.width in
    let gives : GivesPlane (g.S.PageSource.told c.args.source.now c.args.self.now.object) (planes_in c.args.self.now) c.args.self.now.slots c.args.j c.in_ok-plane.plane = rw c.planes.ensures at c.in_ok-plane.ensures.bits in
    let plane : c.in_ok-plane.plane ≡ plane_of bits values c.args.j = gives (planes_of bits values) h.held ∙ plane_at-planes_of bits values c.args.j c.requires.plane in
    c.count.ensures ∙ ap (count_by (λ (on : Bool). on)) (c.and_with.ensures ∙ ap (λ (ones : List Bool). both ones c.args.found.now) plane)
