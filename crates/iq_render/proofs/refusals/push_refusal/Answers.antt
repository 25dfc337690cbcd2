-- The words of these two are too long for the search to compare; both clauses are the callee's as they stand.
use Rattle.iq_render.proofs.refusals.push_refusal.Goals as goal

pub returns-in-TooManyDistinct : goal.returns-in-TooManyDistinct
returns-in-TooManyDistinct c = rw c.in-TooManyDistinct.is c.push_named_count-in-TooManyDistinct.ensures

pub returns-in-IsCoordinator : goal.returns-in-IsCoordinator
returns-in-IsCoordinator c = rw c.in-IsCoordinator.is c.push_named-in-IsCoordinator.ensures
