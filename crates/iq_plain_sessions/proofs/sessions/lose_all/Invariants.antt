use Rattle.std.proofs.Common.{◌≡◌, ◌++◌, take, drop, map}
use Rattle.iq_replay.specs.Changes.{loses}
use Rattle.iq_plain_sessions.proofs.sessions.lose_all.Given as goal

-- what is done, and what the rest is to be, are what all are to be
abbrev pub invariant-loop-session : goal.invariant-loop-session
invariant-loop-session l = take l.session-index l.sessions ++ map (loses l.node) (drop l.session-index l.sessions) ≡ map (loses l.node) l.fn.sessions
