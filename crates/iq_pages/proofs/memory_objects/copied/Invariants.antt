use Rattle.std.proofs.Common.{◌≡◌, ◌++◌, ℕ, drop}
use Rattle.iq_pages.specs.MemoryPages.{pages_in}
use Rattle.iq_pages.proofs.memory_objects.copied.Given as goal

abbrev pub invariant-loop-object : goal.invariant-loop-object
invariant-loop-object l = (number : ℕ) → pages_in (l.copy.items ++ drop l.object-index l.objects) number ≡ pages_in l.objects number
