use Rattle.std.proofs.Common.{rules, sym, subst, ◌≡◌}
use Rattle.iq_objects.specs.Open.{Held, Stands, Moves, cleared}
use Rattle.iq_objects.proofs.StandLemmas.{stands_cleared}
use Rattle.iq_objects.proofs.PageLemmas.{moves_cleared}
use Rattle.iq_objects.proofs.open_object.OpenObject.clear.Goals as goal

pub returns-clause-stands : goal.returns-clause-stands
returns-clause-stands c =
    let is : record { pages = c.truncate.new.self.items; leaves = c.truncate-2.new.self.items; top = 0; lost = c.leave-3.new.lost.items } ≡ cleared c.args.self.now = search rules in
    λ left all none stands. subst (λ (o : Held). Stands left o all) (sym is) (stands_cleared left c.args.self.now all none stands)

pub returns-clause-moves : goal.returns-clause-moves
returns-clause-moves c =
    let is : record { pages = c.truncate.new.self.items; leaves = c.truncate-2.new.self.items; top = 0; lost = c.leave-3.new.lost.items } ≡ cleared c.args.self.now = search rules in
    λ left. subst (λ (o : Held). Moves left left c.args.self.now o) (sym is) (moves_cleared left c.args.self.now)
