use Rattle.iq_root.proofs.StepLemmas.{kept_ok, no_ok}
use Rattle.iq_root.proofs.steps.keep.Goals as goal

pub returns-in_err-sync-clause-kept : goal.returns-in_err-sync-clause-kept
returns-in_err-sync-clause-kept g c = kept_ok g.D.Device _ _ _ _ _ _ _ _ (λ settled. no_ok _ _ c.from_residual-in_err-sync.ensures.0)
    c.in_ok-put.ensures.written c.in_err-sync.ensures.synced

pub returns-clause-kept : goal.returns-clause-kept
returns-clause-kept g c = kept_ok g.D.Device _ _ _ _ _ _ _ _ (λ settled. settled) c.in_ok-put.ensures.written c.in_ok-sync.ensures.synced
