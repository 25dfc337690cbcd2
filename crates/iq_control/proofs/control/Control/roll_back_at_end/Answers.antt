use Rattle.std.proofs.Common.{arith, refl, ◌≡◌, ap}
use Rattle.iq_replay.specs.Changes.{ends_run}
use Rattle.iq_control.specs.Control.{ControlState}
use Rattle.iq_control.proofs.Due.{runs_here, runs_due, found_in, place_within, has_room, stepped, due_close}
use Rattle.iq_control.proofs.control.Control.roll_back_at_end.Goals as goal

pub push-requires-clause-room : goal.push-requires-clause-room
push-requires-clause-room c =
    let here = runs_here c.args.self.now.table.sessions c.args.s c.requires in
    let same : c.self.inside.table ≡ c.args.self.now.table = ap (λ (k : ControlState). k.table) c.self.view_is in
    let found = found_in c.self.inside.table c.args.self.now.table c.args.s here.session same here.found in
    has_room c.self.inside.history c.self.inside.latest c.args.s c.self.inside.nodes.items c.self.inside.table here.session c.self.invariant found (runs_due here.session here.holds)

pub push-requires-clause-placed : goal.push-requires-clause-placed
push-requires-clause-placed c =
    let here = runs_here c.args.self.now.table.sessions c.args.s c.requires in
    let same : c.self.inside.table ≡ c.args.self.now.table = ap (λ (k : ControlState). k.table) c.self.view_is in
    let found = found_in c.self.inside.table c.args.self.now.table c.args.s here.session same here.found in
    rw c.self.invariant.sessions (place_within c.self.inside.table.sessions c.args.s here.session found)

pub invariant_of-self : goal.invariant_of-self
invariant_of-self c =
    let here = runs_here c.args.self.now.table.sessions c.args.s c.requires in
    let same : c.self.inside.table ≡ c.args.self.now.table = ap (λ (k : ControlState). k.table) c.self.view_is in
    let found = found_in c.self.inside.table c.args.self.now.table c.args.s here.session same here.found in
    stepped c.self.inside.history c.push.new.self _ c.self.inside.latest c.self.inside.latest c.args.s c.self.inside.nodes.items c.self.inside.nodes.items c.self.inside.table c.end_transaction.new.self ends_run here.session c.self.invariant found
    (rw c.end_transaction.ensures refl) (due_close here.session here.holds) (λ y. refl) (omega arith) refl c.push.ensures
