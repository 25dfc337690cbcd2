use Rattle.std.proofs.Common.{arith, ◌≡◌, ◌≤◌, ◌+◌, ◌-◌, ◌*◌, ◌/◌, length, refl, ap, ℕ, Some}
use Rattle.std.proofs.lemmas.Nat.{mul-le}
use Rattle.iq_pages.proofs.PageLaws.{counts_none}
use Rattle.iq_pieces.proofs.Counting.{counts_within}
use Rattle.iq_chunks.specs.Chunks.{chunks_for}
use Rattle.iq_planes.specs.Planes.{HoldsPlanes}
use Rattle.iq_planes.proofs.Growth.{appends_none, ceil_above, grown_none, grown_all}
use Rattle.iq_planes.proofs.appending.append.Goals as goal

pub returns-then-n-eq0-clause-ok : goal.returns-then-n-eq0-clause-ok
returns-then-n-eq0-clause-ok g c = appends_none (length c.args.more.now) c.args.len c.args.n c.args.more.now _ c.requires.some (omega (arith, c.if-n-eq0.true)) c.requires.planes

pub loop-page-init : goal.loop-page-init
loop-page-init g c =
    let k = length c.args.more.now in
    record {
      grown = λ planes first told h. rw told (grown_none k c.args.len c.args.n (k * (c.args.len / 8064)) planes c.args.more.now first (omega arith) c.requires.planes h c.requires.some);
      longer = λ pages e. (pages, e, omega arith);
      reached = omega (arith, c.if-have-first.false, c.pages-have.ensures.count);
      others = record { told = λ other e. refl; counts = λ other e. refl };
      reads = counts_within 0 _ _ _ (omega arith) (counts_none (g.S.PageSource.reads c.args.sink.now));
      written = (let none : k * (c.args.len / 8064) - k * (c.args.len / 8064) ≡ 0 = omega arith in rw none (counts_none (g.S.PageSource.writes c.args.sink.now)));
      later = omega arith;
    }

pub returns-clause-ok : goal.returns-clause-ok
returns-clause-ok g c = λ planes h.
    let k = length c.args.more.now in
    let first : HoldsPlanes (Some h.pages) k c.args.len planes = rw h.told_is at h in
    let all : k * c.div_ceil.result ≡ k * chunks_for (c.args.len + c.args.n) = ap (λ (chunks : ℕ). k * chunks) c.div_ceil.ensures in
    let less : c.args.len / 8064 ≤ c.div_ceil.result = ceil_above c.args.len c.args.n c.div_ceil.result c.div_ceil.ensures in
    let low : k * (c.args.len / 8064) ≤ k * c.div_ceil.result = mul-le k (c.args.len / 8064) k c.div_ceil.result (omega arith) less in
    let end : k * chunks_for (c.args.len + c.args.n) ≡ c.loop-page.page = omega (arith, all, c.loop-page-test.false, c.loop-page.auto.page-end low) in
    grown_all k c.args.len c.args.n c.loop-page.page planes c.args.more.now h.pages _ c.requires.planes end first (c.loop-page.invariant.grown planes h.pages h.told_is first)
