use Rattle.std.proofs.Common.{◌≡◌, ◌++◌, ◌*◌, ◌-◌, length}
use Rattle.iq_catalog.specs.Pages.{joined}
use Rattle.iq_catalog.proofs.pages.cut.Given as goal

abbrev pub invariant-loop : goal.invariant-loop
invariant-loop l = record {
  whole : joined l.pages.items ++ l.rest ≡ l.bytes;
  made : length l.pages.items ≡ l.counter;
  left : length l.rest ≡ 1008 * (l.count - l.counter);
}
