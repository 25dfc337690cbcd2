use Rattle.std.proofs.Common.{◌≡◌, ◌∙◌, ◌||◌, ap, ap₂, sym, length, List, Bool}
use Rattle.std.proofs.lemmas.Simd.{length-zip2}
use Rattle.iq_bitmap.specs.Bits.{either}
use Rattle.iq_planes.specs.Planes.{GivesPlane}
use Rattle.iq_cmp.specs.Relations.{planes_of}
use Rattle.iq_cmp.proofs.cmp.Cmp.in_either.Goals as goal

pub returns-clause-rows : goal.returns-clause-rows
returns-clause-rows g c = λ vs ws h.
    let more : GivesPlane (g.S.PageSource.told c.args.source.now c.args.self.now.object) 3 c.args.self.now.slots c.args.other c.in_ok-more.more =
    rw (c.read_plane.ensures.reads.kept.told c.args.self.now.object) at c.in_ok-more.ensures.bits in
    c.or_with.ensures ∙ ap₂ (λ (xs ys : List Bool). either xs ys) (c.in_ok-bits.ensures.bits (planes_of vs ws) h.held) (more (planes_of vs ws) h.held)

pub returns-clause-long : goal.returns-clause-long
returns-clause-long g c =
    let both : length c.in_ok-bits.bits ≡ length c.in_ok-more.more = c.in_ok-bits.ensures.long ∙ sym c.in_ok-more.ensures.long in
    ap length c.or_with.ensures ∙ length-zip2 (λ (x y : Bool). x || y) c.in_ok-bits.bits c.in_ok-more.more both ∙ c.in_ok-bits.ensures.long
