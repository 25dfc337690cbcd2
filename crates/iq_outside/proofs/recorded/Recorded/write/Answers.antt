use Rattle.std.proofs.Common.{ℕ, List, [], ◌∷◌, ◌++◌, ap, ◌∙◌}
use Rattle.iq_outside.specs.declared.recorded.Change.TheVariants.{Wrote}
use Rattle.iq_outside.proofs.ImageLemmas.{undone-set}
use Rattle.iq_outside.proofs.recorded.Recorded.write.Goals as goal

pub returns-clause-adds : goal.returns-clause-adds
returns-clause-adds c = rw (← c.self.view_is) record {
  changes = c.in_ok-push.ensures.items
      ∙ ap (λ (x : List ℕ). c.self.inside.changes.items ++ Wrote c.args.at x ∷ []) (rw (← c.self.view_is) at c.block-old.ensures);
  undone = undone-set _ _ _;
}
