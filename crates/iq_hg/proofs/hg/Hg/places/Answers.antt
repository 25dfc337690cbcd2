use Rattle.std.proofs.Common.{refl, inr, arith}
use Rattle.iq_hg.proofs.PageLaws.{places_given, places_refused}
use Rattle.iq_hg.proofs.hg.Hg.places.Goals as goal

pub returns-in-Some-clause-places : goal.returns-in-Some-clause-places
returns-in-Some-clause-places g c = places_given c.args.self.now _ c.args.p c.pages-count.result c.read_page.new.into _ c.pages-count.ensures.told (omega (arith, c.pages-count.ensures.count, c.requires)) c.in_ok-read_page.ensures.ok (rw c.in-Some.is at c.in_ok-read.ensures.places)

pub returns-in-None-clause-cause : goal.returns-in-None-clause-cause
returns-in-None-clause-cause g c = (inr refl, places_refused c.args.self.now _ c.args.p c.pages-count.result c.read_page.new.into c.pages-count.ensures.told (omega (arith, c.pages-count.ensures.count, c.requires)) c.in_ok-read_page.ensures.ok (rw c.in-None.is at c.in_ok-read.ensures.bad))
