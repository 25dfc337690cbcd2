use Rattle.std.proofs.Common.{◌≡◌, ◌<◌, ◌≤◌, ◌+◌, ◌*◌, ◌/◌, ◌%◌, ◌∙◌, List, [], Bool, true, false, length, get_or, sym, ap, subst, arith}
use Rattle.std.proofs.lemmas.List.{get_or_default}
use Rattle.std.proofs.lemmas.Result.{err_from_is_err_and}
use Rattle.iq_pages.specs.PageCalls.{view}
use Rattle.iq_pieces.proofs.Counting.{others_on}
use Rattle.iq_lf.specs.Entries.{HasNone}
use Rattle.iq_lf.specs.Gathered.{AreOthers, AreGathered, rows_at}
use Rattle.iq_lf.proofs.BitmapLaws.{holds_as}
use Rattle.iq_lf.proofs.RowLaws.{mixed, mixed_used, mixed_unused, length-mixed, gathered_some}
use Rattle.iq_lf.proofs.MergeLaws.{value_cause}
use Rattle.iq_lf.proofs.merging.put_chunk.Goals as goal

pub loop-v-preserved-then-not-used-v : goal.loop-v-preserved-then-not-used-v
loop-v-preserved-then-not-used-v g c =
    let v = c.loop-v.v in
    let inv = c.loop-v.invariant in
    let off : get_or c.in_ok-gathered.gathered.used.items (v + 1) false ≡ false = ap (λ (us : List Bool). get_or us (v + 1) false) (sym c.as_slice-used.ensures.value) ∙ c.if-not-used-v.true in
    let none : AreOthers c.args.codes.now (v + 1) = c.in_ok-gathered.ensures.used.none (v + 1) (omega arith) off in
    record {
      ok = λ codes e h. holds_as (inv.ok codes e h) (mixed (v + 1) codes c.args.codes.now) (λ k less. mixed_unused codes c.args.codes.now c.args.from v e c.requires.fits none k);
      long = inv.long;
      changed = inv.changed;
      kept = inv.kept;
      others = inv.others;
      later = inv.later;
    }

pub merge-requires-clause-some : goal.merge-requires-clause-some
merge-requires-clause-some g c =
    let v = c.loop-v.v in
    let le : v + 1 ≤ c.args.values = omega arith in
    let on : get_or c.in_ok-gathered.gathered.used.items (v + 1) false ≡ true = ap (λ (us : List Bool). get_or us (v + 1) false) (sym c.as_slice-used.ensures.value) ∙ c.if-not-used-v.false in
    let there : v + 1 < length c.as_slice-rows.result.now = omega (arith, le, ap length c.as_slice-rows.ensures.value, c.in_ok-gathered.ensures.long) in
    let is : c.index-rows-v.result ≡ rows_at (v + 1) c.in_ok-gathered.gathered.rows.items = c.index-rows-v.is ∙ get_or_default c.as_slice-rows.result.now (v + 1) _ [] there ∙ ap (λ (rs : List (List Bool)). rows_at (v + 1) rs) c.as_slice-rows.ensures.value in
    subst (λ (bits : List Bool). ¬ (HasNone bits)) (sym is)
    (gathered_some c.args.codes.now (c.args.from % 8064) (v + 1) _ c.requires.fits (c.in_ok-gathered.ensures.rows (v + 1) (omega arith) le on) (c.in_ok-gathered.ensures.used.some (v + 1) le on))

pub returns-in_err-merge-clause-cause : goal.returns-in_err-merge-clause-cause
returns-in_err-merge-clause-cause g c =
    let p = err_from_is_err_and c.from_residual-in_err-merge.result c.from_residual-in_err-merge.ensures.1 in
    let less : c.loop-v.v < c.args.values = omega arith in
    rw (p.1, p.2) (value_cause c.args.object (33 * c.args.values) c.args.from c.loop-v.v (33 * c.loop-v.v + c.args.from / 8064) c.args.codes.now c.args.table.now.pages.items c.loop-v.table.pages.items (view g.S.PageSource c.args.sink.now) (view g.S.PageSource c.loop-v.sink) (view g.S.PageSource c.merge.new.sink) c.in_err-merge.field-0.0
    (omega (arith, less, c.requires.rows)) (omega (arith, c.requires.few)) c.loop-v.invariant.later c.loop-v.invariant.ok c.in_err-merge.ensures.cause)

pub loop-v-preserved : goal.loop-v-preserved
loop-v-preserved g c =
    let v = c.loop-v.v in
    let inv = c.loop-v.invariant in
    let le : v + 1 ≤ c.args.values = omega arith in
    let on : get_or c.in_ok-gathered.gathered.used.items (v + 1) false ≡ true = ap (λ (us : List Bool). get_or us (v + 1) false) (sym c.as_slice-used.ensures.value) ∙ c.if-not-used-v.false in
    let there : v + 1 < length c.as_slice-rows.result.now = omega (arith, le, ap length c.as_slice-rows.ensures.value, c.in_ok-gathered.ensures.long) in
    let is : c.index-rows-v.result ≡ rows_at (v + 1) c.in_ok-gathered.gathered.rows.items = c.index-rows-v.is ∙ get_or_default c.as_slice-rows.result.now (v + 1) _ [] there ∙ ap (λ (rs : List (List Bool)). rows_at (v + 1) rs) c.as_slice-rows.ensures.value in
    let g' : AreGathered c.args.codes.now (c.args.from % 8064) (v + 1) c.index-rows-v.result = subst (λ (bits : List Bool). AreGathered c.args.codes.now (c.args.from % 8064) (v + 1) bits) (sym is) (c.in_ok-gathered.ensures.rows (v + 1) (omega arith) le on) in
    let small : c.args.from / 8064 < 33 = omega (arith, c.requires.rows) in
    let k = 33 * v + c.args.from / 8064 in
    let within : k < 33 * c.args.values = omega (arith, le, small) in
    let few : 33 * c.args.values ≤ 33000 = omega (arith, c.requires.few) in
    record {
      ok = λ codes e h. holds_as (c.in_ok-merge.ensures.ok (33 * c.args.values) (mixed v codes c.args.codes.now) within few (length-mixed v codes c.args.codes.now k) (inv.ok codes e h)) (mixed (v + 1) codes c.args.codes.now)
          (λ j less. mixed_used codes c.args.codes.now c.args.from v c.index-rows-v.result e c.requires.fits small g' j);
      long = c.merge.ensures.long ∙ inv.long;
      changed = c.merge.ensures.changed ∙ inv.changed;
      kept = λ told h. c.merge.ensures.kept told (inv.kept told h);
      others = others_on c.args.object _ _ _ inv.others c.merge.ensures.others;
      later = omega (arith, inv.later, c.merge.ensures.later);
    }
