use Rattle.std.proofs.Common.{rules, arith, ◌≡◌, ◌+◌, ◌∙◌, length, take, sym}
use Rattle.std.proofs.lemmas.List.{drop_all, take_all}
use Rattle.iq_txn.proofs.Takes.{IsNext, is_next_at, all_came, takes_more}
use Rattle.iq_txn.proofs.txn.Txn.take_from.Goals as goal

pub returns-in-None-clause-count : goal.returns-in-None-clause-count
returns-in-None-clause-count c =
    let all : length c.args.home.now.blocks ≡ c.loop-came.came = all_came c.args.home.now.blocks c.loop-came.came c.loop-came.invariant.2 (sym c.loop-came.invariant.1 ∙ c.in-None.ensures.least.0) in
    omega (arith, all, c.loop-came.auto.came-end, c.loop-came-test.true)

pub returns-in-None-clause-takes : goal.returns-in-None-clause-takes
returns-in-None-clause-takes c =
    let all : length c.args.home.now.blocks ≡ c.loop-came.came = all_came c.args.home.now.blocks c.loop-came.came c.loop-came.invariant.2 (sym c.loop-came.invariant.1 ∙ c.in-None.ensures.least.0) in
    rw (take_all c.args.n c.args.home.now.blocks (omega (arith, all, c.loop-came-test.true)), ← take_all c.loop-came.came c.args.home.now.blocks (omega (arith, all))) c.loop-came.invariant.3

pub returns-in-None-clause-left : goal.returns-in-None-clause-left
returns-in-None-clause-left c =
    let all : length c.args.home.now.blocks ≡ c.loop-came.came = all_came c.args.home.now.blocks c.loop-came.came c.loop-came.invariant.2 (sym c.loop-came.invariant.1 ∙ c.in-None.ensures.least.0) in
    c.in-None.ensures.least.1 ∙ sym (drop_all c.args.n c.args.home.now.blocks (omega (arith, all, c.loop-came-test.true)))

pub loop-came-preserved : goal.loop-came-preserved
loop-came-preserved c =
    let next : IsNext c.args.home.now.blocks c.loop-came.came (c.loop-came.came + 1) c.in-Some.block c.take.new.self.blocks =
    is_next_at c.args.home.now.blocks c.loop-came.came (c.loop-came.came + 1) c.in-Some.block c.take.new.self.blocks (omega arith) (sym c.loop-came.invariant.1 ∙ c.in-Some.ensures.least) in
    (search rules, next.left, next.within, rw next.more (takes_more (take c.loop-came.came c.args.home.now.blocks) c.in-Some.block c.args.self.now c.loop-came.self c.taken.new.self c.loop-came.invariant.3 c.taken.ensures))
