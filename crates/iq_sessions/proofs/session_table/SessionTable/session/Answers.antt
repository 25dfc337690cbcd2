use Rattle.std.proofs.Common.{rules, ◌<◌, length}
use Rattle.iq_sessions.specs.Kept.{IsKeptAs}
use Rattle.iq_sessions.proofs.Turns.{at_made, fits_at, as_many, kept_as}
use Rattle.iq_sessions.proofs.session_table.SessionTable.session.Goals as goal

pub index-requires : goal.index-requires
index-requires c =
    let kept : c.args.s < length c.self.inside.sessions.items = rw (as_many _ _) at (rw (← c.self.view_is) at c.requires) in
    search rules

pub returns : goal.returns
returns c =
    let within = rw (← c.self.view_is) at c.requires in
    rw (← c.self.view_is) (at_made _ _ c.args.s c.index.result.now (IsKeptAs c.index.result.now) c.self.invariant.fit within c.index.ensures (kept_as _ _ (fits_at _ _ c.args.s c.index.result.now c.self.invariant.fit within c.index.ensures)))
