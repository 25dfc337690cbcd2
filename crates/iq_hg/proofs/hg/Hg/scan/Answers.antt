use Rattle.std.proofs.Common.{refl, arith}
use Rattle.iq_hg.specs.declared.wanted.Wanted.TheVariants.{OnSide}
use Rattle.iq_hg.proofs.WalkLaws.{starts_first, no_rows}
use Rattle.iq_hg.proofs.hg.Hg.scan.Goals as goal

pub walk-requires-clause-start : goal.walk-requires-clause-start
walk-requires-clause-start g c = starts_first c.args.self.now _ _ c.pages-count.result c.pages-count.ensures.told (omega (arith, c.if-count-eq0.false)) (λ v. refl)

pub returns-then-count-eq0-clause-rows : goal.returns-then-count-eq0-clause-rows
returns-then-count-eq0-clause-rows g c = no_rows c.args.self.now _ (OnSide c.args.test c.args.side) c.pages-count.result _ c.pages-count.ensures.told c.if-count-eq0.true c.in_ok-empty.ensures
