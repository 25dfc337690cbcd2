use Rattle.std.proofs.Common.{[], ◌∷◌}
use Rattle.iq_turnstile.proofs.turnstile.Turnstile.turn.Given as goal

abbrev pub ghosts-leave : goal.ghosts-leave
ghosts-leave g a =
    let deed = a.deed.now in
    let act = g.A.Act in
    record { told = act.after (act.expects deed.before.value) deed.before.value deed.after.value deed.taken.value deed.given.value ∷ [] }
