use Rattle.std.proofs.Common.{[], ◌∷◌}
use Rattle.iq_block_store.specs.Frames.{page_kind}
use Rattle.iq_opening.specs.Steps.{visit, visit_map, named, leaf_steps, page_steps}
use Rattle.iq_opening.proofs.Ways.{err_exit, lead_start, lead_on, lead_end, lead_stop}
use Rattle.iq_opening.proofs.Parts.{leaf_first, leaf_begins, pages_go_on, pages_end}
use Rattle.iq_opening.proofs.objects.reach_leaf.Goals as goal

pub loop-page-init : goal.loop-page-init
loop-page-init g c =
    lead_on g.D.Device (λ all. leaf_steps all c.args.holder c.args.at c.args.used) (λ all. leaf_steps all c.args.holder c.args.at c.args.used)
    (λ all. visit_map c.args.holder c.args.at 1 c.args.used ∷ []) _ _ _ _ _ _ _
    (lead_start g.D.Device _ c.args.disk.now c.args.reached.now) c.in_ok-places.ensures.ok
    (λ all told. leaf_begins all c.args.holder c.args.at c.args.used c.in_ok-places.places _ (c.in_ok-places.ensures.places all told) c.split_at.ensures.front)

pub loop-page-preserved : goal.loop-page-preserved
loop-page-preserved g c =
    lead_on g.D.Device (λ all. leaf_steps all c.args.holder c.args.at c.args.used) _
    (λ all. visit c.args.at _ page_kind ∷ []) _ _ _ _ _ _ _
    c.loop-page.invariant c.in_ok-reach.ensures.ok
    (λ all told. pages_go_on c.args.at c.loop-page.page-index _ c.loop-page-test.true)

pub returns-in_err-places-clause-err : goal.returns-in_err-places-clause-err
returns-in_err-places-clause-err g c =
    err_exit _ c.from_residual.result c.in_err-places.field-0.0 c.from_residual.ensures.1
    (lead_stop g.D.Device (λ all. leaf_steps all c.args.holder c.args.at c.args.used) (λ all. leaf_steps all c.args.holder c.args.at c.args.used)
    (λ all. visit_map c.args.holder c.args.at 1 c.args.used ∷ []) (λ all. page_steps c.args.at (named all c.args.at c.args.used)) _ _ _ _ _ _
    (lead_start g.D.Device _ c.args.disk.now c.args.reached.now) c.in_err-places.ensures.err
    (λ all told. leaf_first all c.args.holder c.args.at c.args.used))

pub returns-in_err-reach-clause-err : goal.returns-in_err-reach-clause-err
returns-in_err-reach-clause-err g c =
    err_exit _ c.from_residual-in_err-reach.result c.in_err-reach.field-0.0 c.from_residual-in_err-reach.ensures.1
    (lead_stop g.D.Device (λ all. leaf_steps all c.args.holder c.args.at c.args.used) _
    (λ all. visit c.args.at _ page_kind ∷ []) _ _ _ _ _ _ _
    c.loop-page.invariant c.in_err-reach.ensures.err
    (λ all told. pages_go_on c.args.at c.loop-page.page-index _ c.loop-page-test.true))

pub returns-clause-ok : goal.returns-clause-ok
returns-clause-ok g c =
    lead_end g.D.Device (λ all. leaf_steps all c.args.holder c.args.at c.args.used) _ _ _ _ _
    c.loop-page.invariant (λ all told. pages_end c.args.at c.loop-page.page-index _ c.loop-page-test.false)
