use Rattle.std.proofs.Common.{◌≡◌, ◌<◌, ◌+◌, ◌∙◌, List, [], Bool, true, length, get_or, set, ap, arith}
use Rattle.std.proofs.lemmas.List.{get_or_default}
use Rattle.iq_lf.specs.Gathered.{rows_at}
use Rattle.iq_lf.proofs.GatherLaws.{rows_none, rows_next, rows_all, used_here}
use Rattle.iq_lf.proofs.gathering.gather.Goals as goal

pub loop-i-init : goal.loop-i-init
loop-i-init c =
    let long = rw c.deref.ensures.value at c.in_ok-rows.ensures.long in
    let rows = rw c.deref.ensures.value at c.in_ok-rows.ensures.rows in
    rows_none c.args.codes.now c.args.from c.args.values c.in_ok-used.used.items c.in_ok-rows.rows.items (long ∙ c.in_ok-used.ensures.long) rows

pub loop-i-preserved : goal.loop-i-preserved
loop-i-preserved c =
    let codes = c.args.codes.now in
    let i = c.loop-i.i in
    let less : i < length codes = omega arith in
    let below : get_or codes i 0 < c.args.values + 1 = c.requires.below i less in
    let on = used_here codes c.args.values c.in_ok-used.used.items i less (omega (arith, below)) c.in_ok-used.ensures in
    let there : get_or codes i 0 < length c.loop-i.rows.items = omega (arith, below, c.loop-i.invariant.count) in
    let value : c.index_mut.result.now ≡ rows_at (get_or codes i 0) c.loop-i.rows.items = c.index_mut.ensures.value ∙ get_or_default c.loop-i.rows.items (get_or codes i 0) _ [] there in
    let new : c.set.new.self ≡ set (rows_at (get_or codes i 0) c.loop-i.rows.items) (c.args.from + i) true = c.set.ensures ∙ ap (λ (bits : List Bool). set bits (c.args.from + i) true) value in
    rw new (rows_next i codes c.args.from c.args.values c.in_ok-used.used.items c.loop-i.rows.items (omega (arith, less, c.requires.fits)) below on c.loop-i.invariant)

pub returns-clause-rows : goal.returns-clause-rows
returns-clause-rows c = rows_all c.loop-i.i c.args.codes.now c.args.from c.args.values c.in_ok-used.used.items c.loop-i.rows.items (omega arith) c.loop-i.invariant
