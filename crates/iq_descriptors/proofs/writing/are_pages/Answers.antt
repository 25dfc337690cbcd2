use Rattle.std.proofs.Common.{◌≡◌, [], length}
use Rattle.std.proofs.lemmas.List.Elements.{All-from_get_or}
use Rattle.iq_descriptors.proofs.writing.are_pages.Goals as goal

pub returns : goal.returns
returns c = All-from_get_or (λ page. length page ≡ 1008) c.args.pages.now [] (λ k within. c.told-pages k within)
