use Rattle.std.proofs.Common.{refl}
use Rattle.iq_ast.specs.declared.statements.Statement.TheVariants as statements
use Rattle.iq_control.specs.Asked.{AsksRun}
use Rattle.iq_control.proofs.Lines.{line_at}
use Rattle.iq_control.proofs.Follows.{follows_next, follows_rollback, agrees_close}
use Rattle.iq_control.proofs.Possible.{close_possible}
use Rattle.iq_control.proofs.laws.the_control_follows_a_rollback.Goals as goal

pub returns-clause-line : goal.returns-clause-line
returns-clause-line c = λ first k place l follows some at_line. follows_rollback first k place l follows some (line_at k _ place l (AsksRun k statements.Rollback) follows.agrees at_line)

pub returns-clause-at_end : goal.returns-clause-at_end
returns-clause-at_end c = λ first k place follows runs. follows_next first k _ _ follows (close_possible k _ place follows.agrees runs) refl (agrees_close k _ place follows.agrees)
