use Rattle.std.proofs.Common.{arith, refl, true, ◌≡◌, ◌+◌, ap}
use Rattle.iq_sessions.specs.Changes.{ends_both}
use Rattle.iq_control.specs.Control.{ControlState}
use Rattle.iq_control.specs.Asked.{AsksEnd}
use Rattle.iq_control.proofs.Due.{line_here, found_in, place_within, some_due, has_room, has_number, stepped, due_ends}
use Rattle.iq_control.proofs.Moves.{changed_long}
use Rattle.iq_control.proofs.control.Control.commit.Goals as goal

pub overflow_add-c : goal.overflow_add-c
overflow_add-c c =
    let here = line_here c.args.self.now.table.sessions c.args.s c.args.line (AsksEnd true) c.requires.at.1 in
    let same : c.self.inside.table ≡ c.args.self.now.table = ap (λ (k : ControlState). k.table) c.self.view_is in
    let found = found_in c.self.inside.table c.args.self.now.table c.args.s here.session same here.found in
    omega (arith, has_number c.self.inside.history c.self.inside.latest c.args.s c.self.inside.nodes.items c.self.inside.table here.session c.self.invariant found (some_due here.session here.line))

pub push-requires-clause-room : goal.push-requires-clause-room
push-requires-clause-room c =
    let here = line_here c.args.self.now.table.sessions c.args.s c.args.line (AsksEnd true) c.requires.at.1 in
    let same : c.self.inside.table ≡ c.args.self.now.table = ap (λ (k : ControlState). k.table) c.self.view_is in
    let found = found_in c.self.inside.table c.args.self.now.table c.args.s here.session same here.found in
    has_room c.self.inside.history c.self.inside.latest c.args.s c.self.inside.nodes.items c.self.inside.table here.session c.self.invariant found (some_due here.session here.line)

pub push-requires-clause-placed : goal.push-requires-clause-placed
push-requires-clause-placed c =
    let here = line_here c.args.self.now.table.sessions c.args.s c.args.line (AsksEnd true) c.requires.at.1 in
    let same : c.self.inside.table ≡ c.args.self.now.table = ap (λ (k : ControlState). k.table) c.self.view_is in
    let found = found_in c.self.inside.table c.args.self.now.table c.args.s here.session same here.found in
    rw c.self.invariant.sessions (place_within c.self.inside.table.sessions c.args.s here.session found)

pub invariant_of-self : goal.invariant_of-self
invariant_of-self c =
    let here = line_here c.args.self.now.table.sessions c.args.s c.args.line (AsksEnd true) c.requires.at.1 in
    let same : c.self.inside.table ≡ c.args.self.now.table = ap (λ (k : ControlState). k.table) c.self.view_is in
    let found = found_in c.self.inside.table c.args.self.now.table c.args.s here.session same here.found in
    stepped c.self.inside.history c.push.new.self _ c.self.inside.latest (c.self.inside.latest + 1) c.args.s c.self.inside.nodes.items c.move_node.new.nodes.items c.self.inside.table c.commit.new.self ends_both here.session c.self.invariant found
    c.commit.ensures.sessions (due_ends here.session here.line) (λ y. refl) (omega arith) (rw c.move_node.ensures (changed_long _ _ c.self.inside.nodes.items)) c.push.ensures
