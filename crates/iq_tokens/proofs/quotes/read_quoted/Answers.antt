use Rattle.std.proofs.Common.{◌≡◌, ℕ, ◌+◌, ◌≤◌, List, ◌∙◌, sym, ap, subst, length}
use Rattle.std.proofs.lemmas.Bool.{eqb-true}
use Rattle.iq_tokens.specs.Quotes.{valid}
use Rattle.iq_tokens.proofs.Quoting.{turn_byte, turn_full, turn_close, turn_open}
use Rattle.iq_tokens.proofs.quotes.read_quoted.Goals as goal

pub returns-then-bytes-eq0-clause-value : goal.returns-then-bytes-eq0-clause-value
returns-then-bytes-eq0-clause-value c =
    c.valued.ensures.value ∙ ap (λ (v : List ℕ). valid v (c.bytes.at + 1)) c.as_slice.ensures.value
    ∙ turn_close c.args.text.now c.bytes.value.items c.bytes.at c.bytes-test.true (sym c.bytes_at-bytes.ensures ∙ c.if-bytes-eq0.true) (subst (λ (v : List ℕ). length v ≤ 255) c.as_slice.ensures.value c.as_slice.ensures.fits) c.bytes.invariant.0

pub returns-then-is_full-clause-value : goal.returns-then-is_full-clause-value
returns-then-is_full-clause-value c =
    let full : length c.bytes.value.items ≡ 255 = eqb-true _ _ (sym c.is_full.ensures.value ∙ c.if-is_full.true) in
    turn_full c.args.text.now c.bytes.value.items c.bytes.at c.bytes_at-bytes.result c.bytes-test.true (sym c.bytes_at-bytes.ensures) c.if-bytes-eq0.false full c.bytes.invariant.0

pub bytes-preserved : goal.bytes-preserved
bytes-preserved c =
    rw c.push.ensures.items
    (turn_byte c.args.text.now c.bytes.value.items c.bytes.at c.bytes_at-bytes.result c.bytes-test.true (sym c.bytes_at-bytes.ensures) c.if-bytes-eq0.false c.bytes.invariant.0)

pub returns-clause-value : goal.returns-clause-value
returns-clause-value c = turn_open c.args.text.now c.bytes.value.items c.bytes.at c.bytes-test.false c.bytes.invariant.0
