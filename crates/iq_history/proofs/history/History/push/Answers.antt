use Rattle.std.proofs.Common.{rules, ◌≡◌, ◌∷◌, [], ◌++◌}
use Rattle.iq_history.proofs.Placing.{ArePlaced-push}
use Rattle.iq_history.proofs.history.History.push.Goals as goal

pub invariant_of-self : goal.invariant_of-self
invariant_of-self c =
    let at_end : c.push.new.self.items ≡ c.self.inside.entries.items ++ c.args.entry ∷ [] = search rules in
    rw at_end (ArePlaced-push _ _ _ _ c.self.invariant (search rules))
