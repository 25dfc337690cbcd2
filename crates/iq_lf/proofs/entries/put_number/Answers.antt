use Rattle.std.proofs.Common.{◌≡◌, ◌≤◌, ◌+◌, ◌*◌, length, ap, arith}
use Rattle.byteorder.specs.Endian.{little_number}
use Rattle.iq_cells.proofs.PieceLaws.{piece_elsewhere}
use Rattle.iq_lf.proofs.entries.put_number.Goals as goal

pub returns-clause-others : goal.returns-clause-others
returns-clause-others c = λ j n.
    let within : c.args.i * 4 + 4 ≤ 1008 = omega (arith, c.requires) in
    let long : length c.write_uint.new.buf ≡ 4 = omega arith in
    ap (little_number 4) (piece_elsewhere 4 c.args.i j _ c.args.page.now c.write_uint.new.buf n (omega arith) long (omega (arith, c.fits-page)))
