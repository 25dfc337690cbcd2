use Rattle.iq_opening.specs.Steps.{object_steps, leaf_steps, high_steps}
use Rattle.iq_opening.proofs.Ways.{lead_start, lead_end, go_same, stop_same}
use Rattle.iq_opening.proofs.Parts.{no_object, low_object, high_object}
use Rattle.iq_opening.proofs.objects.reach_object.Goals as goal

pub returns-then-object-eq0-clause-ok : goal.returns-then-object-eq0-clause-ok
returns-then-object-eq0-clause-ok g c =
    lead_end g.D.Device (λ all. object_steps all c.args.holder c.args.object) _ _ _ _ _
    (lead_start g.D.Device _ c.args.disk.now c.args.reached.now) (λ all told. no_object all c.args.holder c.args.object c.if-object-eq0.true)

pub returns-then-object-le252-clause-ok : goal.returns-then-object-le252-clause-ok
returns-then-object-le252-clause-ok g c =
    go_same g.D.Device (λ all. leaf_steps all c.args.holder c.args.object.root c.args.object.pages) (λ all. object_steps all c.args.holder c.args.object)
    _ _ _ _ c.reach_leaf.result
    (λ all. low_object all c.args.holder c.args.object c.if-object-eq0.false c.if-object-le252.true) c.reach_leaf.ensures.ok

pub returns-then-object-le252-clause-err : goal.returns-then-object-le252-clause-err
returns-then-object-le252-clause-err g c =
    stop_same g.D.Device (λ all. leaf_steps all c.args.holder c.args.object.root c.args.object.pages) (λ all. object_steps all c.args.holder c.args.object)
    _ _ _ c.reach_leaf.result
    (λ all. low_object all c.args.holder c.args.object c.if-object-eq0.false c.if-object-le252.true) c.reach_leaf.ensures.err

pub returns-clause-ok : goal.returns-clause-ok
returns-clause-ok g c =
    go_same g.D.Device (λ all. high_steps all c.args.holder c.args.object) (λ all. object_steps all c.args.holder c.args.object)
    _ _ _ _ c.reach_high.result
    (λ all. high_object all c.args.holder c.args.object c.if-object-le252.false) c.reach_high.ensures.ok

pub returns-clause-err : goal.returns-clause-err
returns-clause-err g c =
    stop_same g.D.Device (λ all. high_steps all c.args.holder c.args.object) (λ all. object_steps all c.args.holder c.args.object)
    _ _ _ c.reach_high.result
    (λ all. high_object all c.args.holder c.args.object c.if-object-le252.false) c.reach_high.ensures.err
