use Rattle.std.proofs.Common.{refl}
use Rattle.iq_control.specs.Asked.{AsksLock}
use Rattle.iq_control.proofs.Lines.{line_at}
use Rattle.iq_control.proofs.Follows.{follows_next, agrees_lock}
use Rattle.iq_control.proofs.Possible.{lock_possible}
use Rattle.iq_control.proofs.laws.the_control_follows_a_lock.Goals as goal

pub returns : goal.returns
returns c = λ first k place l names follows at_line free halted named.
    follows_next first k _ _ follows (lock_possible k _ place l names follows.agrees (line_at k _ place l (AsksLock names) follows.agrees at_line) halted free named) refl (agrees_lock k _ place l names follows.agrees)
