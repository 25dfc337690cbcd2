use Rattle.std.proofs.Common.{◌≡◌, drop}
use Rattle.iq_replay.specs.Refusals.{save_named}
use Rattle.iq_plain_sessions.proofs.transactions.has_save.Given as goal

abbrev pub invariant-loop-save : goal.invariant-loop-save
invariant-loop-save l = save_named (drop l.save-index l.saves) l.name ≡ save_named l.saves l.name
