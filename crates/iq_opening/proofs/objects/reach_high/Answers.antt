use Rattle.std.proofs.Common.{refl, [], ◌∷◌}
use Rattle.iq_opening.specs.Steps.{visit_map, named, high_steps, leaves_steps, leaf_steps}
use Rattle.iq_block_map.specs.Objects.{leaf_count}
use Rattle.iq_opening.proofs.Ways.{err_exit, lead_start, lead_on, lead_end, lead_stop}
use Rattle.iq_opening.proofs.Parts.{high_first, high_begins, leaves_go_on, leaves_end}
use Rattle.iq_opening.proofs.objects.reach_high.Goals as goal

pub loop-leaf-init : goal.loop-leaf-init
loop-leaf-init g c =
    lead_on g.D.Device (λ all. high_steps all c.args.holder c.args.object) (λ all. high_steps all c.args.holder c.args.object)
    (λ all. visit_map c.args.holder c.args.object.root 2 _ ∷ []) _ _ _ _ _ _ _
    (lead_start g.D.Device _ c.args.disk.now c.args.reached.now) c.in_ok-places.ensures.ok
    (λ all told. high_begins all c.args.holder _ c.args.object c.in_ok-places.places _ (c.in_ok-places.ensures.places all told) c.split_at.ensures.front refl)

pub loop-leaf-preserved : goal.loop-leaf-preserved
loop-leaf-preserved g c =
    lead_on g.D.Device (λ all. high_steps all c.args.holder c.args.object) _
    (λ all. leaf_steps all c.args.object.root _ _) _ _ _ _ _ _ _
    c.loop-leaf.invariant c.in_ok-reach_leaf.ensures.ok
    (λ all told. leaves_go_on all c.args.object.root c.loop-leaf.pages _ _ c.loop-leaf.leaf-index _ c.loop-leaf-test.true c.min.ensures c.saturating_sub-pages.ensures)

pub returns-in_err-places-clause-err : goal.returns-in_err-places-clause-err
returns-in_err-places-clause-err g c =
    err_exit _ c.from_residual.result c.in_err-places.field-0.0 c.from_residual.ensures.1
    (lead_stop g.D.Device (λ all. high_steps all c.args.holder c.args.object) (λ all. high_steps all c.args.holder c.args.object)
    (λ all. visit_map c.args.holder c.args.object.root 2 _ ∷ [])
    (λ all. leaves_steps all c.args.object.root c.args.object.pages (named all c.args.object.root (leaf_count c.args.object.pages))) _ _ _ _ _ _
    (lead_start g.D.Device _ c.args.disk.now c.args.reached.now) c.in_err-places.ensures.err
    (λ all told. high_first all c.args.holder _ c.args.object refl))

pub returns-in_err-reach_leaf-clause-err : goal.returns-in_err-reach_leaf-clause-err
returns-in_err-reach_leaf-clause-err g c =
    err_exit _ c.from_residual-in_err-reach_leaf.result c.in_err-reach_leaf.field-0.0 c.from_residual-in_err-reach_leaf.ensures.1
    (lead_stop g.D.Device (λ all. high_steps all c.args.holder c.args.object) _
    (λ all. leaf_steps all c.args.object.root _ _) _ _ _ _ _ _ _
    c.loop-leaf.invariant c.in_err-reach_leaf.ensures.err
    (λ all told. leaves_go_on all c.args.object.root c.loop-leaf.pages _ _ c.loop-leaf.leaf-index _ c.loop-leaf-test.true c.min.ensures refl))

pub returns-clause-ok : goal.returns-clause-ok
returns-clause-ok g c =
    lead_end g.D.Device (λ all. high_steps all c.args.holder c.args.object) _ _ _ _ _
    c.loop-leaf.invariant (λ all told. leaves_end all c.args.object.root c.loop-leaf.pages c.loop-leaf.leaf-index _ c.loop-leaf-test.false)
