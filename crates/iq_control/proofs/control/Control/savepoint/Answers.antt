use Rattle.std.proofs.Common.{arith, refl, ◌≡◌, ap}
use Rattle.iq_control.specs.Control.{ControlState}
use Rattle.iq_control.specs.Asked.{AsksRun}
use Rattle.iq_sessions.specs.Changes.{saves}
use Rattle.iq_ast.specs.declared.statements.Statement.TheVariants as statements
use Rattle.iq_replay.specs.Changes.{saves_as}
use Rattle.iq_control.proofs.Due.{line_here, found_in, place_within, some_due, has_room, stepped, due_works}
use Rattle.iq_control.proofs.control.Control.savepoint.Goals as goal

pub push-requires-clause-room : goal.push-requires-clause-room
push-requires-clause-room c =
    let here = line_here c.args.self.now.table.sessions c.args.s c.args.line (AsksRun c.args.self.now (statements.Savepoint c.args.name.now)) c.requires.at.1 in
    let same : c.self.inside.table ≡ c.args.self.now.table = ap (λ (k : ControlState). k.table) c.self.view_is in
    let found = found_in c.self.inside.table c.args.self.now.table c.args.s here.session same here.found in
    has_room c.self.inside.history c.self.inside.latest c.args.s c.self.inside.nodes.items c.self.inside.table here.session c.self.invariant found (some_due here.session here.line)

pub push-requires-clause-placed : goal.push-requires-clause-placed
push-requires-clause-placed c =
    let here = line_here c.args.self.now.table.sessions c.args.s c.args.line (AsksRun c.args.self.now (statements.Savepoint c.args.name.now)) c.requires.at.1 in
    let same : c.self.inside.table ≡ c.args.self.now.table = ap (λ (k : ControlState). k.table) c.self.view_is in
    let found = found_in c.self.inside.table c.args.self.now.table c.args.s here.session same here.found in
    rw c.self.invariant.sessions (place_within c.self.inside.table.sessions c.args.s here.session found)

pub invariant_of-self : goal.invariant_of-self
invariant_of-self c =
    let here = line_here c.args.self.now.table.sessions c.args.s c.args.line (AsksRun c.args.self.now (statements.Savepoint c.args.name.now)) c.requires.at.1 in
    let same : c.self.inside.table ≡ c.args.self.now.table = ap (λ (k : ControlState). k.table) c.self.view_is in
    let found = found_in c.self.inside.table c.args.self.now.table c.args.s here.session same here.found in
    stepped c.self.inside.history c.push.new.self _ c.self.inside.latest c.self.inside.latest c.args.s c.self.inside.nodes.items c.self.inside.nodes.items c.self.inside.table c.save.new.self (saves c.args.name.now) here.session c.self.invariant found (rw c.save.ensures refl) (due_works (saves_as c.args.name.now) here.session here.line) (λ y. refl) (omega arith) refl c.push.ensures
