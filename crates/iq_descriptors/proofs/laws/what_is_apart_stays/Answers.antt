use Rattle.iq_descriptors.proofs.LawLemmas.{keeps_descriptors, keeps_objects}
use Rattle.iq_descriptors.proofs.laws.what_is_apart_stays.Goals as goal

pub returns-clause-descriptors : goal.returns-clause-descriptors
returns-clause-descriptors c = keeps_descriptors

pub returns-clause-objects : goal.returns-clause-objects
returns-clause-objects c = keeps_objects
