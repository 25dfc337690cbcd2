use Rattle.std.proofs.Common.{refl, true, false}
use Rattle.iq_control.specs.Asked.{AsksEnd}
use Rattle.iq_control.proofs.Lines.{line_at}
use Rattle.iq_control.proofs.Follows.{follows_next, follows_commit, agrees_end, agrees_halt}
use Rattle.iq_control.proofs.Possible.{end_possible, halt_possible}
use Rattle.iq_control.proofs.laws.the_control_follows_an_end.Goals as goal

pub returns-clause-commit : goal.returns-clause-commit
returns-clause-commit c = λ first k place l table follows at_line halted commit. follows_commit first k place l table follows (line_at k _ place l (AsksEnd true) follows.agrees at_line) halted commit

pub returns-clause-end : goal.returns-clause-end
returns-clause-end c = λ first k place l follows at_line.
    follows_next first k _ _ follows (end_possible k _ place l follows.agrees (line_at k _ place l (AsksEnd false) follows.agrees at_line)) refl (agrees_end k _ place l follows.agrees)

pub returns-clause-halt : goal.returns-clause-halt
returns-clause-halt c = λ first k place l before after follows at_line halted rises.
    follows_next first k _ _ follows (halt_possible k _ place l before after follows.agrees (line_at k _ place l (AsksEnd true) follows.agrees at_line) halted rises) refl (agrees_halt k _ place l before after follows.agrees)
