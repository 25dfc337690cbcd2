use Rattle.std.proofs.Common.{◌∙◌}
use Rattle.iq_block_map.proofs.MapLemmas.{bytes_written}
use Rattle.iq_block_map.proofs.map_bytes.payload_of.Goals as goal

pub returns : goal.returns
returns c = c.write_u32_into.ensures ∙ bytes_written c.args.places.now
