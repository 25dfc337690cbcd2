use Rattle.std.proofs.Common.{sym, ap, ◌∙◌, arith}
use Rattle.std.proofs.lemmas.List.{length-map}
use Rattle.std.proofs.lemmas.Result.{on_ok_weaker}
use Rattle.iq_base.specs.Cells.{cell}
use Rattle.iq_pages.proofs.PageLaws.{counts_on}
use Rattle.iq_pieces.proofs.Counting.{counts_up}
use Rattle.iq_fp.proofs.Bounds.{up_to_more}
use Rattle.iq_fp.proofs.Growth.{plan_many, plan_few, fresh_is, fresh_many, fresh_pages, plan_stands}
use Rattle.iq_fp.proofs.plan.Plan.carry_out.Goals as goal

pub fresh_values-requires-clause-many : goal.fresh_values-requires-clause-many
fresh_values-requires-clause-many g c = plan_many c.args.self.now (g.S.PageSource.told c.args.sink.now) c.args.cells.now.values c.requires.made_for

pub fresh_values-requires-clause-few : goal.fresh_values-requires-clause-few
fresh_values-requires-clause-few g c = plan_few c.args.self.now (g.S.PageSource.told c.args.sink.now) c.args.cells.now.values c.requires.made_for

pub append_behind-requires-clause-small : goal.append_behind-requires-clause-small
append_behind-requires-clause-small g c =
    let plan = c.args.self.now in
    let many = fresh_many plan (g.S.PageSource.told c.args.sink.now) _ _ c.requires.made_for c.in_ok-fresh.ensures.ok in
    let long = length-map c.in_ok-fresh.fresh.values (cell c.in_ok-fresh.fresh.kind) in
    omega (arith, many, long, plan.fits.few)

pub append_behind-requires-clause-room : goal.append_behind-requires-clause-room
append_behind-requires-clause-room g c =
    let plan = c.args.self.now in
    let many = fresh_many plan (g.S.PageSource.told c.args.sink.now) _ _ c.requires.made_for c.in_ok-fresh.ensures.ok in
    let long = length-map c.in_ok-fresh.fresh.values (cell plan.column.kind) in
    rw (c.in_ok-fresh.ensures.kind ∙ c.requires.kind) (omega (arith, many, long, plan.fits.room))

pub returns-in_err-append_behind-clause-unwritten : goal.returns-in_err-append_behind-clause-unwritten
returns-in_err-append_behind-clause-unwritten g c =
    let plan = c.args.self.now in
    let pages = fresh_pages plan (g.S.PageSource.told c.args.sink.now) _ _ c.in_ok-fresh.fresh.kind c.requires.made_for c.in_ok-fresh.ensures.ok (c.in_ok-fresh.ensures.kind ∙ c.requires.kind) in
    up_to_more _ _ _ _ (omega (arith, pages)) c.append_behind.ensures.unwritten

pub returns-clause-written : goal.returns-clause-written
returns-clause-written g c =
    let plan = c.args.self.now in
    let pages = fresh_pages plan (g.S.PageSource.told c.args.sink.now) _ _ c.in_ok-fresh.fresh.kind c.requires.made_for c.in_ok-fresh.ensures.ok (c.in_ok-fresh.ensures.kind ∙ c.requires.kind) in
    on_ok_weaker c.write_codes.result (λ codes. rw pages (counts_on _ _ _ _ _ c.in_ok-append_behind.ensures.written codes)) c.write_codes.ensures.written

pub returns-clause-unwritten : goal.returns-clause-unwritten
returns-clause-unwritten g c =
    let plan = c.args.self.now in
    let pages = fresh_pages plan (g.S.PageSource.told c.args.sink.now) _ _ c.in_ok-fresh.fresh.kind c.requires.made_for c.in_ok-fresh.ensures.ok (c.in_ok-fresh.ensures.kind ∙ c.requires.kind) in
    counts_up _ _ _ _ _ _ (omega (arith, pages)) c.append_behind.ensures.unwritten c.write_codes.ensures.unwritten

pub returns-clause-ok : goal.returns-clause-ok
returns-clause-ok g c =
    let plan = c.args.self.now in
    let is = c.requires.made_for in
    let codes = c.append_behind.ensures.others.told plan.column.codes plan.fits.apart in
    let values = c.write_codes.ensures.others.told plan.column.values (λ e. plan.fits.apart (sym e)) in
    let fresh = fresh_is plan (g.S.PageSource.told c.args.sink.now) _ _ is c.in_ok-fresh.ensures.ok in
    on_ok_weaker c.write_codes.result
    (λ writes. plan_stands plan (g.S.PageSource.told c.args.sink.now) (g.S.PageSource.told c.write_codes.new.sink) _ _ _ is (c.in_ok-fresh.ensures.kind ∙ c.requires.kind) fresh (rw values c.in_ok-append_behind.ensures.ok) (rw codes at writes))
    c.write_codes.ensures.ok
