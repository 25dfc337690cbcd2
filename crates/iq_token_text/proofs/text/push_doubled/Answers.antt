-- One turn writes the text before the next quote and two quotes; what is left has none.
use Rattle.std.proofs.Common.{rules, ◌≡◌, ◌∷◌, ◌++◌, arith}
use Rattle.std.proofs.lemmas.Grind.{common_steps}
use Rattle.std.proofs.lemmas.Str.Pattern.{split_parts}
use Rattle.iq_token_text.proofs.Quotes.{HasNoQuote, doubled_without, doubled_split}
use Rattle.iq_token_text.proofs.text.push_doubled.Goals as goal

pub quotes-preserved : goal.quotes-preserved
quotes-preserved c =
    let parts : (c.quotes.rest.now ≡ c.in-Some.before.now ++ 39 ∷ c.in-Some.after.now) × HasNoQuote c.in-Some.before.now
    = rw c.in-Some.is at (split_parts 39 c.quotes.rest.now c.split_once.result c.split_once.ensures.cases (omega arith)) in
    let doubled = doubled_split _ _ _ parts.0 parts.1 in
    (search rules, rw (c.in_ok-push_str-2.ensures.bytes, c.in_ok-push_str.ensures.bytes) (let was = rw doubled at c.quotes.invariant.1 in grind (arith, common_steps)))

pub returns : goal.returns
returns c =
    let none : HasNoQuote c.quotes.rest.now = rw c.in_default.is at (split_parts 39 c.quotes.rest.now c.split_once.result c.split_once.ensures.cases (omega arith)) in
    let was = rw (doubled_without c.quotes.rest.now none) at c.quotes.invariant.1 in
    rw (← was) (search rules)
