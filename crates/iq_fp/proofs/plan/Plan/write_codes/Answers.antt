use Rattle.std.proofs.Common.{◌≡◌, sym, ◌∙◌}
use Rattle.std.proofs.lemmas.Result.{on_ok_weaker}
use Rattle.iq_fp.specs.Forms.{code_width}
use Rattle.iq_fp.proofs.plan.Plan.write_codes.Goals as goal

pub returns-then-code_bytes-clause-ok : goal.returns-then-code_bytes-clause-ok
returns-then-code_bytes-clause-ok g c =
    let plan = c.args.self.now in
    let same : code_width plan.grown.distinct ≡ code_width plan.column.distinct = sym c.code_bytes.ensures ∙ c.if-code_bytes.true ∙ c.code_bytes-2.ensures in
    on_ok_weaker c.append_codes.result
    (λ behind. record {
      behind = λ keeps. rw (c.form_of-form.ensures ∙ same, c.deref.ensures.value) at behind;
      anew = λ other. absurd (other same);
    })
    c.append_codes.ensures.ok
