use Rattle.std.proofs.Common.{◌≤◌, ◌+◌, length, map}
use Rattle.iq_numbering.proofs.Numbering.{IsNumberedTo}
use Rattle.iq_numbering.proofs.places.number_by.Given as goal

abbrev pub invariant-loop-i : goal.invariant-loop-i
invariant-loop-i g l = record {
  numbered : IsNumberedTo l.cells.kind l.known.values l.cells.values l.i l.codes.items (map g.K.OfBytes.bytes l.keys.keys);
  least : length l.known.values ≤ length l.keys.keys;
  most : length l.keys.keys ≤ length l.known.values + l.i;
}
