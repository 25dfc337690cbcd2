use Rattle.std.proofs.Common.{rules, ◌-◌, ◌∷◌, length, take, drop, flat_map, ap, ◌∙◌}
use Rattle.iq_ast.specs.declared.conditions.Cond.{Cond}
use Rattle.iq_spelling.specs.Lists.{word}
use Rattle.iq_token_text.specs.Texts.{Printed, with_tokens}
use Rattle.iq_print.specs.Conditions.{spelled, words_in}
use Rattle.iq_print.proofs.Pushing.{not_words, and_words, or_words, split_first, member_first}
use Rattle.iq_print.proofs.conditions.+conditions.Goals as goal

pub push_cond-returns-in_ok-mark-in-Not : goal.push_cond-returns-in_ok-mark-in-Not
push_cond-returns-in_ok-mark-in-Not t c = let step = not_words c.in-Not.inner in search (rules, step)

pub push_cond-returns-in-And : goal.push_cond-returns-in-And
push_cond-returns-in-And t c = let step = and_words c.in-And.members in search (rules, step)

pub push_cond-returns-in-Or : goal.push_cond-returns-in-Or
push_cond-returns-in-Or t c = let step = or_words c.in-Or.members in search (rules, step)

pub push_joined-loop-member-init : goal.push_joined-loop-member-init
push_joined-loop-member-init t c =
    let members = c.args.members.now in
    let rest = take (length members - 1) (drop 1 members) in
    ap (λ (p : Printed). with_tokens p (flat_map (λ (d : Cond). word c.args.mark ∷ words_in c.args.most (spelled d)) rest)) c.in_ok-push_within.ensures
    ∙ member_first c.args.mark c.args.most c.args.out.now members c.first-item.result rest (split_first members c.first-item.result c.in-len1-up.len_at_least c.first-item.is)
