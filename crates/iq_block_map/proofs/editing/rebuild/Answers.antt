use Rattle.std.proofs.Common.{arith, sym, ap, subst, length-take, inl, inr, ◌≡◌, ◌∙◌, ◌≤◌, ◌+◌, ℕ, length, take, true}
use Rattle.std.specs.List.{All}
use Rattle.std.proofs.lemmas.Bool.{cases_lt}
use Rattle.std.proofs.lemmas.Result.{err_from_is_err_and}
use Rattle.std.proofs.lemmas.List.{get_or-take}
use Rattle.iq_block_map.specs.Maps.{is_address}
use Rattle.iq_block_map.specs.Objects.{leaf_count, used_in, map_at}
use Rattle.iq_block_map.specs.Editing.{edited}
use Rattle.iq_block_map.specs.Leaves.{IsOpened, IsBadPlace}
use Rattle.iq_block_map.proofs.EditLemmas.{length-edited, change_bounds}
use Rattle.iq_block_map.proofs.PutLemmas.{put_none, put_then, looked_then, spare_inside}
use Rattle.iq_block_map.proofs.ReadLemmas.{edit_fault_on, read_fault_edits, put_fault_edits}
use Rattle.iq_block_map.proofs.RewriteLemmas.{leaf_right, leaf_from}
use Rattle.iq_block_map.proofs.TopLemmas.{IsRebuilt, remap_done, lacks_top, listed_from, addresses_count, in_after}
use Rattle.iq_block_map.proofs.ReachedLemmas.{remapped}
use Rattle.iq_block_map.proofs.editing.rebuild.Goals as goal

pub rewrite_leaves-requires-clause-before : goal.rewrite_leaves-requires-clause-before
rewrite_leaves-requires-clause-before g c = record {
  may = λ all told. c.in_ok-before.ensures.places.may all (sym c.in_ok-before.ensures.looked.unchanged ∙ told);
  above = c.in_ok-before.ensures.places.above;
}

pub returns-in_err-before-clause-cause : goal.returns-in_err-before-clause-cause
returns-in_err-before-clause-cause g c =
    let p = err_from_is_err_and c.from_residual-in_err-before.result c.from_residual-in_err-before.ensures.1 in
    rw (p.1, p.2) (read_fault_edits _ _ _ c.in_err-before.field-0.0 _ _ _ _ _ (omega (arith, c.in_ok-count.ensures.looked.later)) (omega arith)
    (λ b bad all now told told_now. inl (bad all (c.in_ok-count.ensures.looked.unchanged ∙ told)))
    c.in_err-before.ensures.cause)

pub returns-in_err-leaves-clause-cause : goal.returns-in_err-leaves-clause-cause
returns-in_err-leaves-clause-cause g c =
    let p = err_from_is_err_and c.from_residual-in_err-leaves.result c.from_residual-in_err-leaves.ensures.1 in
    let lc = leaf_count c.args.old.pages in
    let ls = take lc c.in_ok-before.before in
    let size : length ls ≡ lc = length-take lc c.in_ok-before.before ∙ omega (arith, c.requires.object.few) in
    rw (p.1, p.2) (edit_fault_on _ _ _ _ c.in_err-leaves.field-0.0 _ _ _ _ (omega (arith, c.in_ok-count.ensures.looked.later, c.in_ok-before.ensures.looked.later)) (omega arith)
    (λ b bad all now told told_now.
    let here : IsBadPlace c.args.old c.in_ok-before.before c.args.changed.now c.args.added.now b now = bad now told_now in
    inr record {
      ls = ls;
      top = (c.in_ok-before.ensures.ok all (c.in_ok-count.ensures.looked.unchanged ∙ told));
      k = here.k;
      within = omega (arith, here.within, size);
      touched = here.touched;
      bad = ap (map_at now 1 (used_in c.args.old.pages here.k)) (get_or-take lc c.in_ok-before.before here.k 0 here.within) ∙ here.bad;
    })
    (λ lacks. record {
      none = lacks.none;
      room = omega (arith, lacks.room);
      needs = λ all stands.
          let need = lacks.needs all (c.in_ok-before.ensures.looked.unchanged ∙ (c.in_ok-count.ensures.looked.unchanged ∙ stands.is)) record { may = (c.in_ok-before.ensures.places.may all (c.in_ok-count.ensures.looked.unchanged ∙ stands.is)); apart = stands.apart.leaves ls (c.in_ok-before.ensures.ok all (c.in_ok-count.ensures.looked.unchanged ∙ stands.is)) } in
          record {
            ls = ls;
            top = (c.in_ok-before.ensures.ok all (c.in_ok-count.ensures.looked.unchanged ∙ stands.is));
            k = need.k;
            read = λ j within upto touched.
                let inside : j ≤ lc = omega (arith, within, size) in
                leaf_right all c.args.old c.in_ok-before.before j (omega (arith, within, size)) (need.read j (omega (arith, within, size)) (omega (arith, upto)) touched);
            needs = inl (λ xs count right. need.differs xs count (leaf_from all c.args.old c.in_ok-before.before xs need.k size count right));
          };
      fewer = λ all xs stands.
          let leaves = (c.in_ok-before.ensures.ok all (c.in_ok-count.ensures.looked.unchanged ∙ stands.is)) in
          let opened : IsOpened all c.args.old c.in_ok-before.before xs (g.T.Taker.left c.args.space.now) = record {
            may = (c.in_ok-before.ensures.places.may all (c.in_ok-count.ensures.looked.unchanged ∙ stands.is));
            listed = listed_from all c.args.old ls xs leaves stands.pages;
            apart = stands.apart.leaves ls leaves;
          } in
          let short = lacks.fewer all xs (c.in_ok-before.ensures.looked.unchanged ∙ (c.in_ok-count.ensures.looked.unchanged ∙ stands.is)) opened in
          omega (arith, short);
    })
    c.in_err-leaves.ensures.cause)

pub top-requires-clause-object : goal.top-requires-clause-object
top-requires-clause-object g c = in_after _ _ _ _ _ c.args.old c.requires.object
    (put_then _ _ _ _ _ _ _ (put_none _ _ _ _ (looked_then _ _ _ _ c.count_of.ensures.looked c.leaves_of.ensures.looked)) c.rewrite_leaves.ensures.put)

pub returns-in_err-root-clause-put : goal.returns-in_err-root-clause-put
returns-in_err-root-clause-put g c =
    put_then _ _ _ _ _ _ _ (put_then _ _ _ _ _ _ _ (put_none _ _ _ _ (looked_then _ _ _ _ c.count_of.ensures.looked c.leaves_of.ensures.looked))
    c.rewrite_leaves.ensures.put) c.top.ensures.put

pub returns-clause-put : goal.returns-clause-put
returns-clause-put g c =
    put_then _ _ _ _ _ _ _ (put_then _ _ _ _ _ _ _ (put_none _ _ _ _ (looked_then _ _ _ _ c.count_of.ensures.looked c.leaves_of.ensures.looked))
    c.rewrite_leaves.ensures.put) c.top.ensures.put

pub returns-clause-ok : goal.returns-clause-ok
returns-clause-ok g c =
    let lc = leaf_count c.args.old.pages in
    let ls = take lc c.in_ok-before.before in
    let size : length ls ≡ lc = length-take lc c.in_ok-before.before ∙ omega (arith, c.requires.object.few) in
    record {
      read = λ some all stands.
          let told_count = c.in_ok-count.ensures.looked.unchanged ∙ stands.is in
          let leaves = c.in_ok-before.ensures.ok all told_count in
          let right = c.in_ok-leaves.ensures.read all (c.in_ok-before.ensures.looked.unchanged ∙ told_count) record { may = c.in_ok-before.ensures.places.may all told_count; apart = stands.apart.leaves ls leaves } in
          record {
            ls = ls;
            top = leaves;
            leaves = λ k within touched.
                leaf_right all c.args.old c.in_ok-before.before k (omega (arith, within, size)) (right k (omega (arith, within, size)) (omega (arith, within, size)) touched);
          };
      remapped = λ all now xs stands told_now.
          let ys = edited xs c.args.changed.now c.args.added.now in
          let told_count = c.in_ok-count.ensures.looked.unchanged ∙ stands.is in
          let told_leaves = c.in_ok-before.ensures.looked.unchanged ∙ told_count in
          let leaves = c.in_ok-before.ensures.ok all told_count in
          let may = c.in_ok-before.ensures.places.may all told_count in
          let mid = c.rewrite_leaves.ensures.put.content all told_leaves in
          let opened : IsOpened all c.args.old c.in_ok-before.before xs (g.T.Taker.left c.args.space.now) = record {
            may = may;
            listed = listed_from all c.args.old ls xs leaves stands.pages;
            apart = stands.apart.leaves ls leaves;
          } in
          let spare = c.rewrite_leaves.ensures.spare in
          let count : length xs ≡ c.args.old.pages = addresses_count all c.args.old xs c.requires.object.few stands.pages in
          let pages : length ys ≡ c.args.old.pages + length c.args.added.now = length-edited xs c.args.changed.now c.args.added.now ∙ omega (arith, count) in
          let some : 1 ≤ length ys = elim (cases_lt 0 (length c.args.added.now)) [
            | inl added ↦ omega (arith, added, pages)
            | inr none ↦
                (let bounds = change_bounds 0 c.args.old.pages c.args.changed.now 0 (0, 0) c.requires.changes (omega (arith, none, c.requires.some)) in
                omega (arith, bounds.0, bounds.1, pages))
          ] in
          let rebuilt : IsRebuilt all mid.0 c.args.old c.in_ok-before.before c.in_ok-leaves.leaves xs ys (g.T.Taker.left c.args.space.now) (g.T.Taker.left c.rewrite_leaves.new.space) _ = record {
            leaves = leaves;
            may = may;
            pages = stands.pages;
            apart = stands.apart;
            has = c.in_ok-leaves.ensures.ok all xs told_leaves opened mid.0 mid.1;
            same = mid.2;
            split = c.rewrite_leaves.ensures.put.left;
            inside = subst (λ (n : ℕ). All (λ b. is_address n b ≡ true) (g.T.Taker.left c.rewrite_leaves.new.space)) mid.2.size (spare_inside _ mid.0 _ spare mid.1);
            small = omega (arith, c.in_ok-count.ensures.fits, c.in_ok-count.ensures.count all stands.is);
            count = count;
            grown = omega (arith, pages);
            some = some;
            few = omega (arith, pages, c.requires.most);
          } in
          remapped all now c.args.old _ xs ys _ _
          (remap_done all mid.0 now c.args.old _ c.in_ok-before.before c.in_ok-leaves.leaves xs ys _ _ _ _ rebuilt (sym pages)
          (rw pages (c.in_ok-root.ensures.ok mid.0 mid.1 now told_now)))
          (omega (arith, c.requires.most)) (λ some_pages. (c.in_ok-root.ensures.is_in (omega (arith, some_pages))).above) c.requires.spare.distinct stands.apart stands.pages;
    }

pub returns-in_err-root-clause-cause : goal.returns-in_err-root-clause-cause
returns-in_err-root-clause-cause g c =
    let p = err_from_is_err_and c.from_residual-in_err-root.result c.from_residual-in_err-root.ensures.1 in
    let lc = leaf_count c.args.old.pages in
    let ls = take lc c.in_ok-before.before in
    let size : length ls ≡ lc = length-take lc c.in_ok-before.before ∙ omega (arith, c.requires.object.few) in
    rw (p.1, p.2) (put_fault_edits _ _ _ c.in_err-root.field-0.0 _ _ _ _
    (omega (arith, c.in_ok-count.ensures.looked.later, c.in_ok-before.ensures.looked.later, c.rewrite_leaves.ensures.put.later)) (omega arith)
    (λ lacks. record {
      none = lacks.1;
      room = omega (arith, ap length lacks.0, c.rewrite_leaves.ensures.most);
      needs = λ all stands.
          let told_count = c.in_ok-count.ensures.looked.unchanged ∙ stands.is in
          let leaves = c.in_ok-before.ensures.ok all told_count in
          let right = c.in_ok-leaves.ensures.read all (c.in_ok-before.ensures.looked.unchanged ∙ told_count) record { may = c.in_ok-before.ensures.places.may all told_count; apart = stands.apart.leaves ls leaves } in
          record {
            ls = ls;
            top = leaves;
            k = lc;
            read = λ k within upto touched.
                leaf_right all c.args.old c.in_ok-before.before k (omega (arith, within, size)) (right k (omega (arith, within, size)) (omega (arith, within, size)) touched);
            needs = inr (omega arith, lacks.2);
          };
      fewer = λ all xs stands.
          let ys = edited xs c.args.changed.now c.args.added.now in
          let told_count = c.in_ok-count.ensures.looked.unchanged ∙ stands.is in
          let told_leaves = c.in_ok-before.ensures.looked.unchanged ∙ told_count in
          let leaves = c.in_ok-before.ensures.ok all told_count in
          let may = c.in_ok-before.ensures.places.may all told_count in
          let mid = c.rewrite_leaves.ensures.put.content all told_leaves in
          let opened : IsOpened all c.args.old c.in_ok-before.before xs (g.T.Taker.left c.args.space.now) = record {
            may = may;
            listed = listed_from all c.args.old ls xs leaves stands.pages;
            apart = stands.apart.leaves ls leaves;
          } in
          let count : length xs ≡ c.args.old.pages = addresses_count all c.args.old xs c.requires.object.few stands.pages in
          let pages : length ys ≡ c.args.old.pages + length c.args.added.now = length-edited xs c.args.changed.now c.args.added.now ∙ omega (arith, count) in
          lacks_top all mid.0 c.args.old c.in_ok-before.before c.in_ok-leaves.leaves xs ys _ _ may (c.in_ok-leaves.ensures.ok all xs told_leaves opened mid.0 mid.1)
          (omega (arith, pages, c.requires.most)) count (omega (arith, lacks.2, pages)) lacks.3 lacks.0;
    })
    c.in_err-root.ensures.cause)
