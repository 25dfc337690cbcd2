use Rattle.iq_descriptors.proofs.LawLemmas.{stands_on}
use Rattle.iq_descriptors.proofs.laws.a_descriptor_stands_on_its_blocks.Goals as goal

pub returns : goal.returns
returns c = stands_on
