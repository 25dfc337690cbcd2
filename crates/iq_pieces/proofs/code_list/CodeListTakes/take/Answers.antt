use Rattle.std.proofs.Common.{◌≡◌, ◌∷◌, ◌++◌, [], ℕ, List, sym, ap, ◌∙◌, append-nil, append_assoc, rules, arith}
use Rattle.iq_cells.specs.Codes.{codes_in}
use Rattle.iq_pieces.proofs.PiecesTaken.{codes_none, codes_more, codes_taken}
use Rattle.iq_pieces.proofs.code_list.CodeListTakes.take.Goals as goal

pub loop-i-init : goal.loop-i-init
loop-i-init g c = record {
  more = sym (ap (λ (xs : List ℕ). c.args.self.now.codes.items ++ xs) (codes_none g.row.W c.args.page.now) ∙ append-nil c.args.self.now.codes.items);
  same = search rules;
}

pub loop-i-preserved : goal.loop-i-preserved
loop-i-preserved g c =
    let old = c.args.self.now.codes.items in
    let w = g.row.W in
    let i = c.loop-i.i in
    record {
      more = c.in_ok-push.ensures.ok ∙ ap (λ (xs : List ℕ). xs ++ c.code_at-code.result ∷ []) c.loop-i.invariant.more
          ∙ append_assoc old (codes_in w c.args.page.now i) (c.code_at-code.result ∷ [])
          ∙ ap (λ (n : ℕ). old ++ (codes_in w c.args.page.now i ++ n ∷ [])) c.code_at-code.ensures.value
          ∙ ap (λ (xs : List ℕ). old ++ xs) (sym (codes_more w c.args.page.now i));
      same = c.loop-i.invariant.same;
    }

pub returns-clause-ok : goal.returns-clause-ok
returns-clause-ok g c =
    let last : c.loop-i.i ≡ c.args.n = omega arith in
    let whole : c.loop-i.self.codes.items ≡ c.args.self.now.codes.items ++ codes_in g.row.W c.args.page.now c.args.n = rw last at c.loop-i.invariant.more in
    codes_taken g.row.W c.args.page.now c.args.n c.told-page c.are_bytes-bytes.ensures c.requires c.args.self.now.codes.items c.loop-i.self.codes.items whole

pub invariant_of-self : goal.invariant_of-self
invariant_of-self g c = record {
  narrow = c.loop-i.self.narrow;
  low = c.push.ensures.low c.loop-i.self.below c.loop-i.self.low c.if-code-self.false;
}
