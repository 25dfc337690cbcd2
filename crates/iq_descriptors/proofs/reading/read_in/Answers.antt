use Rattle.std.proofs.Common.{rules, ap, Ok, ◌∙◌}
use Rattle.iq_descriptors.proofs.ReadLemmas.{stored, not_stored}
use Rattle.iq_descriptors.proofs.reading.read_in.Goals as goal

pub returns-in-Ok-clause-ok : goal.returns-in-Ok-clause-ok
returns-in-Ok-clause-ok g c = λ all told.
    stored all c.args.head _ _ _ _ _ (c.in_ok-found.ensures.ok all told) (search rules)
    (c.in_ok-pages.ensures.ok all (c.in_ok-found.ensures.looked.unchanged ∙ told)) (search rules) (search rules)

pub returns-in-Err-BadCatalog-clause-cause : goal.returns-in-Err-BadCatalog-clause-cause
returns-in-Err-BadCatalog-clause-cause g c =
    let none = rw c.in-Err-BadCatalog.field-0-is at c.in-Err-BadCatalog.ensures.err in
    λ all told.
    not_stored all c.args.head _ _ _ c.deref.result.now (c.in_ok-found.ensures.ok all told) (search rules)
    (c.in_ok-pages.ensures.ok all (c.in_ok-found.ensures.looked.unchanged ∙ told) ∙ ap Ok (search rules)) none
