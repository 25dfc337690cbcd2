use Rattle.std.proofs.Common.{arith, refl, ◌≡◌, ap}
use Rattle.iq_replay.specs.Changes.{locks_more}
use Rattle.iq_control.specs.Control.{ControlState}
use Rattle.iq_control.specs.Asked.{AsksLock}
use Rattle.iq_control.proofs.Due.{line_here, found_in, place_within, some_due, has_room, stepped, due_lock}
use Rattle.iq_control.proofs.Locks.{wanted_same}
use Rattle.iq_control.proofs.control.Control.lock.Goals as goal

pub push-requires-clause-room : goal.push-requires-clause-room
push-requires-clause-room c =
    let here = line_here c.args.self.now.table.sessions c.args.s c.args.line (AsksLock c.args.names) c.requires.at.1 in
    let same : c.self.inside.table ≡ c.args.self.now.table = ap (λ (k : ControlState). k.table) c.self.view_is in
    let found = found_in c.self.inside.table c.args.self.now.table c.args.s here.session same here.found in
    has_room c.self.inside.history c.self.inside.latest c.args.s c.self.inside.nodes.items c.self.inside.table here.session c.self.invariant found (some_due here.session here.line)

pub push-requires-clause-placed : goal.push-requires-clause-placed
push-requires-clause-placed c =
    let here = line_here c.args.self.now.table.sessions c.args.s c.args.line (AsksLock c.args.names) c.requires.at.1 in
    let same : c.self.inside.table ≡ c.args.self.now.table = ap (λ (k : ControlState). k.table) c.self.view_is in
    let found = found_in c.self.inside.table c.args.self.now.table c.args.s here.session same here.found in
    rw c.self.invariant.sessions (place_within c.self.inside.table.sessions c.args.s here.session found)

pub invariant_of-self : goal.invariant_of-self
invariant_of-self c =
    let here = line_here c.args.self.now.table.sessions c.args.s c.args.line (AsksLock c.args.names) c.requires.at.1 in
    let same : c.self.inside.table ≡ c.args.self.now.table = ap (λ (k : ControlState). k.table) c.self.view_is in
    let found = found_in c.self.inside.table c.args.self.now.table c.args.s here.session same here.found in
    let ok = rw found at c.in-Ok.ensures.ok in
    stepped c.self.inside.history c.push.new.self _ c.self.inside.latest c.self.inside.latest c.args.s c.self.inside.nodes.items c.self.inside.nodes.items c.self.inside.table c.lock.new.self (locks_more c.args.names) here.session c.self.invariant found
    (rw (ok, wanted_same c.args.names here.session here.statement here.holds) refl) (due_lock c.args.names here.session here.holds.stage here.line) (λ y. refl) (omega arith) refl c.push.ensures
