use Rattle.std.proofs.Common.{◌≡◌, sym, ◌∙◌, map, length}
use Rattle.std.proofs.lemmas.List.{length-map}
use Rattle.byteorder.specs.Endian.{little_bytes}
use Rattle.iq_pieces.specs.Codes.{AreBelow}
use Rattle.iq_pieces.specs.Objects.{AreFirst}
use Rattle.iq_fp.proofs.Readings.{codes_are}
use Rattle.iq_fp.proofs.reading.codes_of_width.Goals as goal

pub returns-clause-codes : goal.returns-clause-codes
returns-clause-codes g c = λ values stands.
    let form = c.read.ensures.form in
    let bound : c.read.new.into.below ≡ c.args.fp.now.distinct = cc (c.new-list.ensures.below) in
    let long : length c.read.new.into.codes.items ≡ c.args.fp.now.slots = sym (length-map c.read.new.into.codes.items (little_bytes g.row.W)) ∙ c.in_ok-read.ensures.long in
    let low : AreBelow c.read.new.into.codes.items c.args.fp.now.distinct = rw (c.into_codes.ensures.codes, bound) at c.into_codes.ensures.low in
    let first : AreFirst (g.S.PageSource.told c.args.source.now c.args.fp.now.codes) g.row.W (map (little_bytes g.row.W) c.read.new.into.codes.items) = c.in_ok-read.ensures.first in
    c.into_codes.ensures.codes ∙ codes_are c.args.fp.now (g.S.PageSource.told c.args.source.now) values c.read.new.into.codes.items g.row.W stands c.requires.width low long first
