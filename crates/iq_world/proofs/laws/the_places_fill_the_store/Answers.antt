use Rattle.iq_world.proofs.Sizes.{fills}
use Rattle.iq_world.proofs.laws.the_places_fill_the_store.Goals as goal

pub returns : goal.returns
returns c = fills
