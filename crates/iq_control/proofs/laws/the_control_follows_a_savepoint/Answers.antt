use Rattle.std.proofs.Common.{refl}
use Rattle.iq_ast.specs.declared.statements.Statement.TheVariants as statements
use Rattle.iq_control.specs.Asked.{AsksRun}
use Rattle.iq_control.proofs.Lines.{line_at}
use Rattle.iq_control.proofs.Follows.{follows_next, agrees_save, agrees_back, agrees_release}
use Rattle.iq_control.proofs.Possible.{save_possible, back_possible, release_possible}
use Rattle.iq_control.proofs.laws.the_control_follows_a_savepoint.Goals as goal

pub returns-clause-save : goal.returns-clause-save
returns-clause-save c = λ first k place l name follows at_line.
    follows_next first k _ _ follows (save_possible k _ place l name follows.agrees (line_at k _ place l (AsksRun k (statements.Savepoint name)) follows.agrees at_line)) refl (agrees_save k _ place l name follows.agrees)

pub returns-clause-back : goal.returns-clause-back
returns-clause-back c = λ first k place l name follows at_line.
    follows_next first k _ _ follows (back_possible k _ place l name follows.agrees (line_at k _ place l (AsksRun k (statements.BackTo name)) follows.agrees at_line)) refl (agrees_back k _ place l name follows.agrees)

pub returns-clause-release : goal.returns-clause-release
returns-clause-release c = λ first k place l name follows at_line.
    follows_next first k _ _ follows (release_possible k _ place l name follows.agrees (line_at k _ place l (AsksRun k (statements.Release name)) follows.agrees at_line)) refl (agrees_release k _ place l name follows.agrees)
