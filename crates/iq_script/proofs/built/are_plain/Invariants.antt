use Rattle.std.proofs.Common.{◌↔◌, length}
use Rattle.std.specs.List.{AllByRecursion}
use Rattle.iq_ast.specs.Built.{IsPlain}
use Rattle.iq_script.proofs.built.are_plain.Given as goal

abbrev pub invariant-items : goal.invariant-items
invariant-items l = AllByRecursion IsPlain l.items ↔ AllByRecursion IsPlain l.initial.items

abbrev pub decreases-items : goal.decreases-items
decreases-items l = length l.items
