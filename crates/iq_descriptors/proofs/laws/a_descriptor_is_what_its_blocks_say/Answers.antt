use Rattle.iq_descriptors.proofs.LawLemmas.{what_it_says, may_be_there}
use Rattle.iq_descriptors.proofs.laws.a_descriptor_is_what_its_blocks_say.Goals as goal

pub returns-clause-said : goal.returns-clause-said
returns-clause-said c = what_it_says

pub returns-clause-storable : goal.returns-clause-storable
returns-clause-storable c = may_be_there
