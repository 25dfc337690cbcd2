use Rattle.std.proofs.Common.{◌++◌, List, ℕ, ap, ◌∙◌}
use Rattle.iq_fp.proofs.Growth.{ends_in}
use Rattle.iq_fp.proofs.planning.all_codes.Goals as goal

pub returns-clause-codes : goal.returns-clause-codes
returns-clause-codes g c = λ values stands.
    rw c.deref.ensures.value at c.in_ok-extend_from_slice.ensures.items ∙ ap (λ (xs : List ℕ). xs ++ c.args.more.items) (c.in_ok-codes.ensures.codes values stands)

pub returns-clause-ends : goal.returns-clause-ends
returns-clause-ends g c = rw (c.in_ok-extend_from_slice.ensures.items, c.deref.ensures.value) (ends_in c.in_ok-codes.codes.items c.args.more.items)
