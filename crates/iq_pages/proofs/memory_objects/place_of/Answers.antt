use Rattle.std.proofs.Common.{◌≡◌, arith, eq-eqb, slice_index_or}
use Rattle.std.proofs.lemmas.Grind.{common_steps}
use Rattle.iq_pages.proofs.PagesInMemory.{place_is, missing_is}
use Rattle.iq_pages.proofs.memory_objects.place_of.Goals as goal

pub returns-then-object-number-clause-found : goal.returns-then-object-number-clause-found
returns-then-object-number-clause-found c =
    place_is _ _ _ (omega arith) (λ d. let same : slice_index_or c.args.objects.now c.loop-place.place d ≡ c.index-objects-place.result = grind (arith, common_steps) in eq-eqb _ _ (rw same c.if-object-number.true)) c.loop-place.invariant

pub returns-clause-missing : goal.returns-clause-missing
returns-clause-missing c = missing_is _ _ (λ k d h. c.loop-place.invariant k d (omega arith))
