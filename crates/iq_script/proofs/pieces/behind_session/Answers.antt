use Rattle.std.proofs.Common.{Err, ap, ◌∙◌, arith}
use Rattle.std.proofs.lemmas.Int.{ints}
use Rattle.iq_grammar.specs.declared.faults.ParseFault.{ParseFault}
use Rattle.iq_script.proofs.Places.{fault_within}
use Rattle.iq_script.proofs.pieces.behind_session.Goals as goal

pub overflow_add-result : goal.overflow_add-result
overflow_add-result c =
    let within = fault_within _ _ (c.parse_bytes.ensures.place _ (c.in-Err-Syntax.is ∙ ap (λ (f : ParseFault). Err f) c.in-Err-Syntax.field-0-is)) in
    omega (arith, ints, within, c.split_at.ensures.back_len, c.requires, c.type_inv.text)
