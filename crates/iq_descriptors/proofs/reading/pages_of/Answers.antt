use Rattle.std.proofs.Common.{rules, arith, sym, ◌∙◌, [], ◌∷◌}
use Rattle.std.proofs.lemmas.Result.{err_from_is_err_and}
use Rattle.iq_descriptors.proofs.ReadLemmas.{read_fault_on, below_all, pages_stop}
use Rattle.iq_descriptors.proofs.reading.pages_of.Goals as goal

pub read_part-requires : goal.read_part-requires
read_part-requires g c = λ all told.
    below_all _ _ c.loop-at.at-index (c.requires all (sym c.loop-at.invariant.looked.unchanged ∙ told)) (search rules)

pub returns-in_err-read_part-clause-cause : goal.returns-in_err-read_part-clause-cause
returns-in_err-read_part-clause-cause g c =
    let p = err_from_is_err_and c.from_residual-in_err-read_part.result c.from_residual-in_err-read_part.ensures.1 in
    rw (p.1, p.2) (read_fault_on _ _ c.in_err-read_part.field-0.0 _ _ _ _ _ _ c.loop-at.invariant.looked.unchanged c.loop-at.invariant.looked.later (omega arith)
    (λ b all told bad. pages_stop all (c.args.page.now ∷ []) c.loop-at.pages.items c.args.others.now c.loop-at.at-index b (search rules) bad.0 bad.1 (c.loop-at.invariant.so_far all told))
    c.in_err-read_part.ensures.cause)
