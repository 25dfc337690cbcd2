-- Reading WHERE, GROUP BY and ORDER BY.
use Rattle.std.proofs.Common.{◌≡◌, ◌≤◌, ℕ, ◌+◌, true, List, [], ◌∷◌, ◌++◌, Option, Some, None, refl, sym, ap, subst, ◌∙◌, inl, inr, arith}
use Rattle.iq_ast.specs.declared.conditions.Cond.{Cond}
use Rattle.iq_ast.specs.declared.statements.Order.{Order}
use Rattle.iq_tokens.specs.declared.tokens.Mark.{Mark}
use Rattle.iq_tokens.specs.declared.tokens.Mark.TheVariants.{Where, Group, Order as OrderMark, Semicolon}
use Rattle.iq_tokens.specs.declared.tokens.Lexeme.{Lexeme}
use Rattle.iq_tokens.specs.declared.tokens.Kind.TheVariants.{Mark as the_mark}
use Rattle.iq_tokens.specs.Kinds.{same, same_mark}
use Rattle.iq_grammar.specs.declared.grammar.Part.{Part}
use Rattle.iq_grammar.specs.declared.grammar.Part.TheVariants as part
use Rattle.iq_grammar.specs.declared.grammar.Symbol.{Symbol}
use Rattle.iq_grammar.specs.declared.grammar.Symbol.TheVariants.{Go}
use Rattle.iq_grammar.specs.declared.draft.Draft.{Draft}
use Rattle.iq_grammar.specs.declared.draft.Level.{Level}
use Rattle.iq_grammar.specs.Grammar.{lines, may_lack, after}
use Rattle.iq_grammar.specs.Draft.{put, no_level, whole}
use Rattle.iq_grammar.specs.Reading.{run, next}
use Rattle.iq_grammar.specs.Statements.{where_of}
use Rattle.iq_grammar.proofs.Sound.{has, follow}
use Rattle.iq_spelling.specs.Lists.{word}
use Rattle.iq_spelling.specs.Texts.{IsWhere, IsGroup, IsOrder, IsEnd}
use Rattle.iq_spelling.proofs.Parts.{reads, Behind, skip}
use Rattle.iq_spelling.proofs.Items.{groups_read, orders_read}
use Rattle.iq_spelling.proofs.Tested.{Scratch, with_level, halfway, condition_reads, negation_reads}

-- ---- what stands behind a part

abbrev pub IsBehind : Part → Mark → Type 0
IsBehind p m = has (follow p) (the_mark m) ≡ true

pub behind_end : (p : Part) (end : List Lexeme) → IsBehind p Semicolon → IsEnd end → Behind p end
behind_end p end semicolon (inl none) = subst (Behind p) (sym none) tt
behind_end p end semicolon (inr is) = subst (Behind p) (sym is) semicolon

pub behind_order : (p : Part) (os : List Order) (ls end : List Lexeme) → IsBehind p OrderMark → IsBehind p Semicolon → IsOrder os ls → IsEnd end → Behind p (ls ++ end)
behind_order p [] ls end order semicolon none ends = subst (λ (l : List Lexeme). Behind p (l ++ end)) (sym none) (behind_end p end semicolon ends)
behind_order p (o ∷ os) ls end order semicolon (names, are, is) ends = subst (λ (l : List Lexeme). Behind p (l ++ end)) (sym is) order

pub behind_group : (p : Part) (ns : List (List ℕ)) (os : List Order) (gs ls end : List Lexeme) → IsBehind p Group → IsBehind p OrderMark → IsBehind p Semicolon → IsGroup ns gs → IsOrder os ls → IsEnd end
    → Behind p (gs ++ (ls ++ end))
behind_group p [] os gs ls end group order semicolon none is_order ends = subst (λ (l : List Lexeme). Behind p (l ++ (ls ++ end))) (sym none) (behind_order p os ls end order semicolon is_order ends)
behind_group p (n ∷ ns) os gs ls end group order semicolon (names, are, is) is_order ends = subst (λ (l : List Lexeme). Behind p (l ++ (ls ++ end))) (sym is) group

pub behind_where : (p : Part) (c : Option Cond) (ws end : List Lexeme) → IsBehind p Where → IsBehind p Semicolon → IsWhere c ws → IsEnd end → Behind p (ws ++ end)
behind_where p None ws end where_mark semicolon none ends = subst (λ (l : List Lexeme). Behind p (l ++ end)) (sym none) (behind_end p end semicolon ends)
behind_where p (Some c) ws end where_mark semicolon (cs, are, is) ends = subst (λ (l : List Lexeme). Behind p (l ++ end)) (sym is) where_mark

-- ---- WHERE

where_begins : (d : Draft) (ss : List Symbol) (ts : List Lexeme) → reads d (Go part.Where ∷ ss) (word Where ∷ ts) ≡ reads d (Go part.Condition ∷ Go part.MoreAnd ∷ Go part.MoreOr ∷ ss) ts
unfolding run next after lines may_lack same same_mark put
where_begins d ss ts = refl

pub where_some : (cs : List Cond) (l : Level) → (cs ≡ [] → ⊥) → where_of cs l ≡ Some (whole l)
where_some [] l some = absurd (some refl)
where_some (c ∷ cs) l some = refl

pub record Filtered (d : Draft) (ws : List Lexeme) (ss : List Symbol) (ts : List Lexeme) (c : Option Cond) : Type 0 where
  pub scratch : Scratch
  pub level : Level
  pub goes : reads d (Go part.Where ∷ ss) (ws ++ ts) ≡ reads (with_level d level scratch) ss ts
  pub is : where_of level.ands level ≡ c

pub where_reads : (d : Draft) (c : Option Cond) (ws : List Lexeme) (ss : List Symbol) (ts : List Lexeme) → IsWhere c ws → d.level ≡ no_level
    → Behind part.Where ts → Behind part.MoreAnd ts → Behind part.MoreOr ts → Filtered d ws ss ts c
unfolding may_lack
where_reads d None ws ss ts none empty_level behind more_and more_or =
    record {
      scratch = record { column = d.column; op = d.op; negated = d.negated; low = d.low; row = d.row };
      level = d.level;
      goes = ap (λ (l : List Lexeme). reads d (Go part.Where ∷ ss) (l ++ ts)) none ∙ skip part.Where d ss ts refl behind;
      is = ap (λ (l : Level). where_of l.ands l) empty_level;
    }
where_reads d (Some c) ws ss ts (cs, says, is) empty_level behind more_and more_or =
    let base_fits : d.level.base + 64 ≤ 64 = subst (λ (l : Level). l.base + 64 ≤ 64) (sym empty_level) (omega arith) in
    let here = condition_reads 64 (negation_reads 64) d c cs ss ts says (ap (λ (l : Level). l.ands) empty_level) (ap (λ (l : Level). l.ors) empty_level) (ap (λ (l : Level). l.nots) empty_level) base_fits in
    record {
      scratch = here.scratch;
      level = halfway d.level here.ors here.ands;
      goes = ap (λ (l : List Lexeme). reads d (Go part.Where ∷ ss) (l ++ ts)) is ∙ where_begins d ss (cs ++ ts) ∙ here.goes
          ∙ skip part.MoreAnd _ (Go part.MoreOr ∷ ss) ts refl more_and ∙ skip part.MoreOr _ ss ts refl more_or;
      is = where_some here.ands (halfway d.level here.ors here.ands) here.some ∙ ap Some here.is;
    }

-- ---- GROUP BY and ORDER BY

pub group_reads : (d : Draft) (ns : List (List ℕ)) (gs : List Lexeme) (ss : List Symbol) (ts : List Lexeme) → IsGroup ns gs → d.group ≡ [] → Behind part.GroupBy ts → Behind part.MoreGroups ts
    → reads d (Go part.GroupBy ∷ ss) (gs ++ ts) ≡ reads (record d { group = ns }) ss ts
unfolding may_lack
group_reads d [] gs ss ts none no_group behind more =
    ap (λ (l : List Lexeme). reads d (Go part.GroupBy ∷ ss) (l ++ ts)) none ∙ skip part.GroupBy d ss ts refl behind
    ∙ ap (λ (l : List (List ℕ)). reads (record d { group = l }) ss ts) no_group
group_reads d (n ∷ ns) gs ss ts (names, are, is) no_group behind more =
    ap (λ (l : List (List ℕ)). reads (record d { group = l }) (Go part.GroupBy ∷ ss) (gs ++ ts)) no_group
    ∙ ap (λ (l : List Lexeme). reads (record d { group = [] }) (Go part.GroupBy ∷ ss) (l ++ ts)) is
    ∙ groups_read d n ns names ss ts are ∙ skip part.MoreGroups _ ss ts refl more

pub order_reads : (d : Draft) (os : List Order) (ls : List Lexeme) (ss : List Symbol) (ts : List Lexeme) → IsOrder os ls → d.order ≡ [] → Behind part.OrderBy ts → Behind part.MoreOrders ts → Behind part.Way ts
    → reads d (Go part.OrderBy ∷ ss) (ls ++ ts) ≡ reads (record d { order = os }) ss ts
unfolding may_lack
order_reads d [] ls ss ts none no_order behind more way =
    ap (λ (l : List Lexeme). reads d (Go part.OrderBy ∷ ss) (l ++ ts)) none ∙ skip part.OrderBy d ss ts refl behind
    ∙ ap (λ (l : List Order). reads (record d { order = l }) ss ts) no_order
order_reads d (o ∷ os) ls ss ts (names, are, is) no_order behind more way =
    ap (λ (l : List Order). reads (record d { order = l }) (Go part.OrderBy ∷ ss) (ls ++ ts)) no_order
    ∙ ap (λ (l : List Lexeme). reads (record d { order = [] }) (Go part.OrderBy ∷ ss) (l ++ ts)) is
    ∙ orders_read d o os names ss ts are way ∙ skip part.MoreOrders _ ss ts refl more
