use Rattle.std.proofs.Common.{◌≡◌}
use Rattle.iq_grammar.specs.Draft.{not_times}
use Rattle.iq_grammar.proofs.draft.not_times.Given as goal

abbrev pub invariant-loop-i : goal.invariant-loop-i
invariant-loop-i l = l.cond ≡ not_times l.i l.fn.cond
