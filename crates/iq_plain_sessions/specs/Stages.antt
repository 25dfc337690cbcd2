-- How far a line is.
use Rattle.iq_replay.specs.State.{Stage, fresh, begun, locked, done}
use Rattle.iq_plain_sessions.specs.declared.sessions.PlainStage.{PlainStage}
use Rattle.iq_plain_sessions.specs.declared.sessions.PlainStage.TheVariants as stages

abbrev pub stage_of : PlainStage → Stage
stage_of stages.Fresh = fresh
stage_of stages.Begun = begun
stage_of stages.Locked = locked
stage_of stages.Done = done
