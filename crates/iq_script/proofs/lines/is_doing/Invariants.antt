use Rattle.std.proofs.Common.{◌≡◌, length}
use Rattle.iq_script.specs.Lines.{is_doing}
use Rattle.iq_script.proofs.lines.is_doing.Given as goal

abbrev pub invariant-spaces : goal.invariant-spaces
invariant-spaces l = is_doing l.rest ≡ is_doing l.fn.text

abbrev pub decreases-spaces : goal.decreases-spaces
decreases-spaces l = length l.rest
