use Rattle.std.proofs.Common.{◌≡◌, ℕ, ◌<◌, false, nat_eq, slice_index_or}
use Rattle.iq_pages.specs.declared.memory_objects.Object.{Object}
use Rattle.iq_pages.proofs.memory_objects.place_of.Given as goal

abbrev pub invariant-loop-place : goal.invariant-loop-place
invariant-loop-place l = (k : ℕ) (d : Object) → k < l.place → nat_eq (slice_index_or l.objects k d).number l.number ≡ false
