use Rattle.std.proofs.Common.{◌+◌, length, ap, ◌∙◌, refl, inl, arith}
use Rattle.std.proofs.lemmas.List.{length-replicate}
use Rattle.std.proofs.lemmas.Result.{err_from_is_err_and}
use Rattle.iq_pages.specs.PageCalls.{view}
use Rattle.iq_pieces.proofs.Counting.{reads_none, reads_on}
use Rattle.iq_hg.proofs.WalkLaws.{leaf_on_way, way_cause, reached_start, walked_end, walked_next, rows_fit, walked_out, few_leaves, leaf_room}
use Rattle.iq_hg.proofs.hg.Hg.walk.Goals as goal
use Rattle.iq_hg.proofs.hg.Hg.walk.Goals.{then-n-len-via-then-n-len, then-n-len-via-else-n-len+then-leaf-eq0}

pub loop-k-init : goal.loop-k-init
loop-k-init g c = record {
  long = ap length c.in_ok-bits.ensures ∙ length-replicate _ _;
  reached = λ values st. reached_start c.args.wanted.now st.leaves c.args.self.now.slots c.args.start c.in_ok-bits.bits c.in_ok-bits.ensures (c.requires.start values st);
  reads = reads_none 0 (view g.S.PageSource c.args.source.now);
}

pub returns-in_err-leaf-clause-cause : goal.returns-in_err-leaf-clause-cause
returns-in_err-leaf-clause-cause g c =
    let p = err_from_is_err_and c.from_residual-in_err-leaf.result c.from_residual-in_err-leaf.ensures.1 in
    rw (p.1, p.2) (way_cause c.args.self.now (view g.S.PageSource c.args.source.now) (view g.S.PageSource c.loop-k.source) (view g.S.PageSource c.leaf.new.source) c.loop-k.page c.in_err-leaf.field-0.0 c.loop-k.invariant.reads.kept c.loop-k.invariant.reads.later (λ values st. (c.loop-k.invariant.reached values st).at) c.in_err-leaf.ensures.cause)

pub returns-in-None-clause-reads : goal.returns-in-None-clause-reads
returns-in-None-clause-reads g c = reads_on c.loop-k.k 1 (g.S.PageSource.counts c.args.source.now c.args.self.now.leaves) _ _ _ (omega (arith, c.pages-count.ensures.count, c.loop-k-test.true)) c.loop-k.invariant.reads c.leaf.ensures.reads

pub returns-in-None-clause-cause : goal.returns-in-None-clause-cause
returns-in-None-clause-cause g c = (
  inl refl,
  λ values st.
      let gives = leaf_on_way c.args.self.now (view g.S.PageSource c.args.source.now) (view g.S.PageSource c.loop-k.source) c.loop-k.page _ _ c.loop-k.invariant.reads.kept c.in_ok-leaf.ensures.leaf in
      c.in-None.ensures.bad (λ k d h. rw c.loop-k.invariant.long (rows_fit c.args.self.now _ c.loop-k.page _ _ values st (c.loop-k.invariant.reached values st).at gives k d h)),
)

pub returns-then-n-len-clause-rows : goal.returns-then-n-len-clause-rows
returns-then-n-len-clause-rows g c = λ values st.
    let gives = leaf_on_way c.args.self.now (view g.S.PageSource c.args.source.now) (view g.S.PageSource c.loop-k.source) c.loop-k.page _ _ c.loop-k.invariant.reads.kept c.in_ok-leaf.ensures.leaf in
    walked_end c.args.self.now _ c.args.wanted.now c.loop-k.k c.loop-k.page c.in-Some.n _ c.loop-k.bits _ _ values st (c.loop-k.invariant.reached values st) gives c.in-Some.ensures.ok
    (λ past. elim c.then-n-len.branch [ then-n-len-via-then-n-len w ↦ absurd (omega (arith, w.if-n-len, c.len.ensures.count, past)) | then-n-len-via-else-n-len+then-leaf-eq0 w ↦ omega (arith, w.if-leaf-eq0) ])

pub returns-then-n-len-clause-reads : goal.returns-then-n-len-clause-reads
returns-then-n-len-clause-reads g c = reads_on c.loop-k.k 1 (g.S.PageSource.counts c.args.source.now c.args.self.now.leaves) _ _ _ (omega (arith, c.pages-count.ensures.count, c.loop-k-test.true)) c.loop-k.invariant.reads c.leaf.ensures.reads

pub loop-k-preserved : goal.loop-k-preserved
loop-k-preserved g c =
    let gives = leaf_on_way c.args.self.now (view g.S.PageSource c.args.source.now) (view g.S.PageSource c.loop-k.source) c.loop-k.page _ _ c.loop-k.invariant.reads.kept c.in_ok-leaf.ensures.leaf in
    record {
      long = c.in-Some.ensures.long ∙ c.loop-k.invariant.long;
      reached = λ values st. walked_next c.args.self.now _ c.args.wanted.now c.loop-k.k c.loop-k.page c.in-Some.n c.in_ok-leaf.leaf.next c.loop-k.bits _ _ values st (leaf_room _ _ c.width-width.ensures.value c.width-width.ensures.small.1) (c.loop-k.invariant.reached values st) gives c.in-Some.ensures.ok (omega (arith, c.len.ensures.count, c.if-n-len.false)) (λ e. absurd (omega (arith, c.if-leaf-eq0.false)));
      reads = reads_on c.loop-k.k 1 (c.loop-k.k + 1) _ _ _ (omega arith) c.loop-k.invariant.reads c.leaf.ensures.reads;
    }

pub returns-clause-cause : goal.returns-clause-cause
returns-clause-cause g c = (inl refl, λ values st. walked_out c.args.self.now _ c.args.wanted.now c.loop-k.k c.loop-k.page c.pages-count.result c.loop-k.bits values st c.pages-count.ensures.told c.loop-k-test.false (c.loop-k.invariant.reached values st))

pub returns-in_err-leaf-clause-few : goal.returns-in_err-leaf-clause-few
returns-in_err-leaf-clause-few g c = λ values st. reads_on c.loop-k.k 1 _ (view g.S.PageSource c.args.source.now) (view g.S.PageSource c.loop-k.source) (view g.S.PageSource c.leaf.new.source) (few_leaves c.args.self.now _ c.args.wanted.now c.loop-k.k c.loop-k.page c.loop-k.bits values st (c.loop-k.invariant.reached values st)) c.loop-k.invariant.reads c.leaf.ensures.reads

pub returns-in-None-clause-few : goal.returns-in-None-clause-few
returns-in-None-clause-few g c = λ values st. reads_on c.loop-k.k 1 _ (view g.S.PageSource c.args.source.now) (view g.S.PageSource c.loop-k.source) (view g.S.PageSource c.leaf.new.source) (few_leaves c.args.self.now _ c.args.wanted.now c.loop-k.k c.loop-k.page c.loop-k.bits values st (c.loop-k.invariant.reached values st)) c.loop-k.invariant.reads c.leaf.ensures.reads

pub returns-then-n-len-clause-few : goal.returns-then-n-len-clause-few
returns-then-n-len-clause-few g c = λ values st. reads_on c.loop-k.k 1 _ (view g.S.PageSource c.args.source.now) (view g.S.PageSource c.loop-k.source) (view g.S.PageSource c.leaf.new.source) (few_leaves c.args.self.now _ c.args.wanted.now c.loop-k.k c.loop-k.page c.loop-k.bits values st (c.loop-k.invariant.reached values st)) c.loop-k.invariant.reads c.leaf.ensures.reads

pub returns-clause-few : goal.returns-clause-few
returns-clause-few g c = λ values st. absurd (walked_out c.args.self.now _ c.args.wanted.now c.loop-k.k c.loop-k.page c.pages-count.result c.loop-k.bits values st c.pages-count.ensures.told c.loop-k-test.false (c.loop-k.invariant.reached values st))
