use Rattle.std.proofs.Common.{refl, ◌++◌, [], ◌∷◌, append-nil, flat_map}
use Rattle.iq_outside.specs.Devices.{block_of}
use Rattle.iq_block_store.specs.Frames.{descriptor_kind}
use Rattle.iq_descriptors.specs.Parts.{more_of}
use Rattle.iq_opening.specs.Steps.{visit, other_steps, block_steps}
use Rattle.iq_opening.proofs.Ways.{err_exit, lead_start, lead_on, lead_last, lead_stop}
use Rattle.iq_opening.proofs.Parts.{blocks_begin, more_are}
use Rattle.iq_opening.proofs.descriptors.reach_descriptor.Goals as goal

pub returns-in_err-reach-clause-err : goal.returns-in_err-reach-clause-err
returns-in_err-reach-clause-err g c =
    err_exit _ c.from_residual.result c.in_err-reach.field-0.0 c.from_residual.ensures.1
    (lead_stop g.D.Device (λ all. block_steps all c.args.body c.args.head) _ (λ all. visit c.args.body c.args.head descriptor_kind ∷ []) (λ all. flat_map (other_steps c.args.head) (more_of (block_of all c.args.head))) _ _ _ _ _ _
    (lead_start g.D.Device (λ all. block_steps all c.args.body c.args.head) c.args.disk.now c.args.reached.now) c.in_err-reach.ensures.err
    (λ all told. blocks_begin all c.args.body c.args.head))

pub returns-in_err-reach_other-clause-err : goal.returns-in_err-reach_other-clause-err
returns-in_err-reach_other-clause-err g c =
    err_exit _ c.from_residual-in_err-reach_other.result c.in_err-reach_other.field-0.0 c.from_residual-in_err-reach_other.ensures.1
    (lead_stop g.D.Device (λ all. block_steps all c.args.body c.args.head) _ (λ all. other_steps c.args.head c.number_at-second.result) (λ all. other_steps c.args.head c.number_at-third.result ++ (other_steps c.args.head c.number_at-fourth.result ++ [])) _ _ _ _ _ _
    (lead_on g.D.Device (λ all. block_steps all c.args.body c.args.head) (λ all. block_steps all c.args.body c.args.head) (λ all. visit c.args.body c.args.head descriptor_kind ∷ []) (λ all. flat_map (other_steps c.args.head) (more_of (block_of all c.args.head))) _ _ _ _ _ _
    (lead_start g.D.Device (λ all. block_steps all c.args.body c.args.head) c.args.disk.now c.args.reached.now) c.in_ok-reach.ensures.ok (λ all told. blocks_begin all c.args.body c.args.head)) c.in_err-reach_other.ensures.err
    (λ all told. more_are all c.args.head c.number_at-second.result c.number_at-third.result c.number_at-fourth.result _ (c.in_ok-reach.ensures.block all told)
    c.number_at-second.ensures c.number_at-third.ensures c.number_at-fourth.ensures))

pub returns-in_err-reach_other-2-clause-err : goal.returns-in_err-reach_other-2-clause-err
returns-in_err-reach_other-2-clause-err g c =
    err_exit _ c.from_residual-in_err-reach_other-2.result c.in_err-reach_other-2.field-0.0 c.from_residual-in_err-reach_other-2.ensures.1
    (lead_stop g.D.Device (λ all. block_steps all c.args.body c.args.head) _ (λ all. other_steps c.args.head c.number_at-third.result) (λ all. other_steps c.args.head c.number_at-fourth.result ++ []) _ _ _ _ _ _
    (lead_on g.D.Device (λ all. block_steps all c.args.body c.args.head) (λ all. flat_map (other_steps c.args.head) (more_of (block_of all c.args.head))) (λ all. other_steps c.args.head c.number_at-second.result) (λ all. other_steps c.args.head c.number_at-third.result ++ (other_steps c.args.head c.number_at-fourth.result ++ [])) _ _ _ _ _ _
    (lead_on g.D.Device (λ all. block_steps all c.args.body c.args.head) (λ all. block_steps all c.args.body c.args.head) (λ all. visit c.args.body c.args.head descriptor_kind ∷ []) (λ all. flat_map (other_steps c.args.head) (more_of (block_of all c.args.head))) _ _ _ _ _ _
    (lead_start g.D.Device (λ all. block_steps all c.args.body c.args.head) c.args.disk.now c.args.reached.now) c.in_ok-reach.ensures.ok (λ all told. blocks_begin all c.args.body c.args.head)) c.in_ok-reach_other.ensures.ok
    (λ all told. more_are all c.args.head c.number_at-second.result c.number_at-third.result c.number_at-fourth.result _ (c.in_ok-reach.ensures.block all told)
    c.number_at-second.ensures c.number_at-third.ensures c.number_at-fourth.ensures)) c.in_err-reach_other-2.ensures.err
    (λ all told. refl))

pub returns-in_err-reach_other-3-clause-err : goal.returns-in_err-reach_other-3-clause-err
returns-in_err-reach_other-3-clause-err g c =
    err_exit _ c.from_residual-in_err-reach_other-3.result c.in_err-reach_other-3.field-0.0 c.from_residual-in_err-reach_other-3.ensures.1
    (lead_stop g.D.Device (λ all. block_steps all c.args.body c.args.head) _ (λ all. other_steps c.args.head c.number_at-fourth.result) (λ all. []) _ _ _ _ _ _
    (lead_on g.D.Device (λ all. block_steps all c.args.body c.args.head) _ (λ all. other_steps c.args.head c.number_at-third.result) (λ all. other_steps c.args.head c.number_at-fourth.result ++ []) _ _ _ _ _ _
    (lead_on g.D.Device (λ all. block_steps all c.args.body c.args.head) (λ all. flat_map (other_steps c.args.head) (more_of (block_of all c.args.head))) (λ all. other_steps c.args.head c.number_at-second.result) (λ all. other_steps c.args.head c.number_at-third.result ++ (other_steps c.args.head c.number_at-fourth.result ++ [])) _ _ _ _ _ _
    (lead_on g.D.Device (λ all. block_steps all c.args.body c.args.head) (λ all. block_steps all c.args.body c.args.head) (λ all. visit c.args.body c.args.head descriptor_kind ∷ []) (λ all. flat_map (other_steps c.args.head) (more_of (block_of all c.args.head))) _ _ _ _ _ _
    (lead_start g.D.Device (λ all. block_steps all c.args.body c.args.head) c.args.disk.now c.args.reached.now) c.in_ok-reach.ensures.ok (λ all told. blocks_begin all c.args.body c.args.head)) c.in_ok-reach_other.ensures.ok
    (λ all told. more_are all c.args.head c.number_at-second.result c.number_at-third.result c.number_at-fourth.result _ (c.in_ok-reach.ensures.block all told)
    c.number_at-second.ensures c.number_at-third.ensures c.number_at-fourth.ensures)) c.in_ok-reach_other-2.ensures.ok (λ all told. refl)) c.in_err-reach_other-3.ensures.err
    (λ all told. refl))

pub returns-clause-ok : goal.returns-clause-ok
returns-clause-ok g c =
    lead_last g.D.Device (λ all. block_steps all c.args.body c.args.head) _ (λ all. other_steps c.args.head c.number_at-fourth.result) _ _ _ _ _ _
    (lead_on g.D.Device (λ all. block_steps all c.args.body c.args.head) _ (λ all. other_steps c.args.head c.number_at-third.result) (λ all. other_steps c.args.head c.number_at-fourth.result ++ []) _ _ _ _ _ _
    (lead_on g.D.Device (λ all. block_steps all c.args.body c.args.head) (λ all. flat_map (other_steps c.args.head) (more_of (block_of all c.args.head))) (λ all. other_steps c.args.head c.number_at-second.result) (λ all. other_steps c.args.head c.number_at-third.result ++ (other_steps c.args.head c.number_at-fourth.result ++ [])) _ _ _ _ _ _
    (lead_on g.D.Device (λ all. block_steps all c.args.body c.args.head) (λ all. block_steps all c.args.body c.args.head) (λ all. visit c.args.body c.args.head descriptor_kind ∷ []) (λ all. flat_map (other_steps c.args.head) (more_of (block_of all c.args.head))) _ _ _ _ _ _
    (lead_start g.D.Device (λ all. block_steps all c.args.body c.args.head) c.args.disk.now c.args.reached.now) c.in_ok-reach.ensures.ok (λ all told. blocks_begin all c.args.body c.args.head)) c.in_ok-reach_other.ensures.ok
    (λ all told. more_are all c.args.head c.number_at-second.result c.number_at-third.result c.number_at-fourth.result _ (c.in_ok-reach.ensures.block all told)
    c.number_at-second.ensures c.number_at-third.ensures c.number_at-fourth.ensures)) c.in_ok-reach_other-2.ensures.ok (λ all told. refl)) c.in_ok-reach_other-3.ensures.ok
    (λ all told. append-nil (other_steps c.args.head c.number_at-fourth.result))
