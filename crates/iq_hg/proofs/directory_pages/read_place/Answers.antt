use Rattle.iq_hg.proofs.PlaceBytes.{place_read, place_bad}
use Rattle.iq_hg.proofs.directory_pages.read_place.Goals as goal

pub returns-in-Some-clause-bytes : goal.returns-in-Some-clause-bytes
returns-in-Some-clause-bytes c = place_read c.args.kind c.args.page.now c.in-Some.first c.number_at-page_number.result c.args.at c.width-cell.result c.width-cell.ensures.value c.in-Some.ensures.bytes c.number_at-page_number.ensures

pub returns-in-None-clause-bad : goal.returns-in-None-clause-bad
returns-in-None-clause-bad c = λ p is. place_bad c.args.kind c.args.page.now c.args.at p c.in-None.ensures.bad is
