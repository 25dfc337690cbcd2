use Rattle.std.proofs.Common.{◌≡◌}
use Rattle.iq_turnstile.specs.Passes.{IsWaiting, parts_of, notes_of}
use Rattle.iq_turnstile.proofs.turnstile.Turnstile.enter.Given as goal

abbrev pub invariant-loop : goal.invariant-loop
invariant-loop g l =
    (goal.iterator-loop g).can_next l.iterator' × (goal.iterator-loop g).is_finite l.iterator'
    × IsWaiting l.self l.pass (notes_of l.fn.pass) l.ticket × (parts_of l.pass ≡ parts_of l.fn.pass) × (notes_of l.pass ≡ notes_of l.fn.pass)
