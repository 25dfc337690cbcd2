use Rattle.std.proofs.Common.{rules}
use Rattle.iq_block_map.proofs.MapLemmas.{places_read}
use Rattle.iq_block_map.proofs.map_bytes.places_of.Goals as goal

pub returns : goal.returns
returns c = places_read c.args.block.now c.read_u32_into.new.dst (search rules) (rw (← c.split_at.ensures.back) c.read_u32_into.ensures)
