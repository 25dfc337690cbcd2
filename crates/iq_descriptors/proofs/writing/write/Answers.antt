use Rattle.std.proofs.Common.{rules, ◌≡◌, refl, arith, sym, ap, subst, ◌∙◌, ◌++◌, List, ℕ, length, nat_eq}
use Rattle.std.specs.List.{IsDistinct}
use Rattle.std.proofs.lemmas.Result.{err_from_is_err_and}
use Rattle.iq_block_map.proofs.PutLemmas.{put_none, put_then, looked_same}
use Rattle.iq_catalog.specs.Pages.{joined}
use Rattle.iq_descriptors.proofs.WriteLemmas.{write_fault_on, write_fault_after, blocks_distinct, counted_rest, made_is, head_done, first_page, first_long, few_rest}
use Rattle.iq_descriptors.proofs.writing.write.Goals as goal

pub returns-in_err-pages-clause-put : goal.returns-in_err-pages-clause-put
returns-in_err-pages-clause-put g c = put_none g.D.Device _ _ _ (looked_same g.D.Device c.args.disk.now)

pub returns-in_err-others-clause-most : goal.returns-in_err-others-clause-most
returns-in_err-others-clause-most g c =
    let n = counted_rest c.in_ok-pages.pages.items c.deref.result.now c.deref-2.result.now _ c.args.table.now c.requires.storable c.in_ok-pages.ensures.pages
    (search rules) (search rules) c.are_pages.ensures c.in_ok-pages.ensures.some c.split_at.ensures.back in
    omega (arith, n, c.put_others.ensures.most)

pub returns-in_err-others-clause-cause : goal.returns-in_err-others-clause-cause
returns-in_err-others-clause-cause g c =
    let n = counted_rest c.in_ok-pages.pages.items c.deref.result.now c.deref-2.result.now _ c.args.table.now c.requires.storable c.in_ok-pages.ensures.pages
    (search rules) (search rules) c.are_pages.ensures c.in_ok-pages.ensures.some c.split_at.ensures.back in
    let p = err_from_is_err_and c.from_residual-in_err-others.result c.from_residual-in_err-others.ensures.1 in
    rw (p.1, p.2) (write_fault_on _ _ c.in_err-others.field-0.0 _ _ _ _ _ _ (omega (arith, n)) (omega arith) (omega arith) c.in_err-others.ensures.cause)

pub returns-in_err-head-clause-put : goal.returns-in_err-head-clause-put
returns-in_err-head-clause-put g c =
    put_then g.D.Device _ _ _ c.args.disk.now c.put_others.new.disk c.put_part.new.disk c.put_others.ensures.put c.put_part.ensures.put

pub returns-in_err-head-clause-most : goal.returns-in_err-head-clause-most
returns-in_err-head-clause-most g c =
    let n = counted_rest c.in_ok-pages.pages.items c.deref.result.now c.deref-2.result.now _ c.args.table.now c.requires.storable c.in_ok-pages.ensures.pages
    (search rules) (search rules) c.are_pages.ensures c.in_ok-pages.ensures.some c.split_at.ensures.back in
    omega (arith, n, c.put_others.ensures.most, c.put_part.ensures.most)

pub returns-in_err-head-clause-cause : goal.returns-in_err-head-clause-cause
returns-in_err-head-clause-cause g c =
    let n = counted_rest c.in_ok-pages.pages.items c.deref.result.now c.deref-2.result.now _ c.args.table.now c.requires.storable c.in_ok-pages.ensures.pages
    (search rules) (search rules) c.are_pages.ensures c.in_ok-pages.ensures.some c.split_at.ensures.back in
    let p = err_from_is_err_and c.from_residual-in_err-head.result c.from_residual-in_err-head.ensures.1 in
    rw (p.1, p.2) (write_fault_after 1 _ c.in_err-head.field-0.0 _ c.in_ok-others.others _ _ _ _ _ _ c.in_ok-others.ensures.left
    (omega (arith, n, c.in_ok-others.ensures.count)) c.put_others.ensures.put.later (omega arith) c.in_err-head.ensures.cause)

pub returns-clause-put : goal.returns-clause-put
returns-clause-put g c =
    put_then g.D.Device _ _ _ c.args.disk.now c.put_others.new.disk c.put_part.new.disk c.put_others.ensures.put c.put_part.ensures.put

pub returns-clause-most : goal.returns-clause-most
returns-clause-most g c =
    let n = counted_rest c.in_ok-pages.pages.items c.deref.result.now c.deref-2.result.now _ c.args.table.now c.requires.storable c.in_ok-pages.ensures.pages
    (search rules) (search rules) c.are_pages.ensures c.in_ok-pages.ensures.some c.split_at.ensures.back in
    omega (arith, n, c.put_others.ensures.most, c.put_part.ensures.most)

pub returns-clause-ok : goal.returns-clause-ok
returns-clause-ok g c =
    let same : c.deref-2.result.now ≡ c.in_ok-pages.pages.items = search rules in
    let few = few_rest c.in_ok-pages.pages.items c.deref-2.result.now _ (search rules) c.in_ok-pages.ensures.few c.split_at.ensures.back in
    let whole = first_page c.deref-2.result.now _ _ _ _ (search rules) c.split_at.ensures.front c.split_at.ensures.back refl in
    head_done g.D.Device _ _ _ c.in_ok-others.others _ c.in_ok-head.head _ c.args.table.now c.args.disk.now c.put_others.new.disk c.put_part.new.disk
    _ _ _ _ c.as_slice.ensures.value c.addresses-numbers.ensures c.head_payload.ensures c.parts_of.ensures
    c.requires.spare c.put_others.ensures.put c.in_ok-others.ensures.left c.in_ok-head.ensures.left c.put_others.ensures.spare
    c.in_ok-head.ensures.fits c.put_part.ensures.put c.in_ok-head.ensures.block (omega (arith, c.in_ok-others.ensures.count, few))
    c.in_ok-others.ensures.fits c.in_ok-others.ensures.pages
    (first_long c.deref.result.now c.deref-2.result.now _ _ (search rules) c.are_pages.ensures whole) c.requires.storable
    (ap joined (sym whole ∙ same) ∙ c.in_ok-pages.ensures.pages)

pub returns-clause-taken : goal.returns-clause-taken
returns-clause-taken g c = record {
  others = c.in_ok-others.others;
  shape = made_is _ _ _ c.in_ok-others.others _ _ _ c.in_ok-head.head c.requires.spare c.in_ok-others.ensures.left c.as_slice.ensures.value
      c.addresses-numbers.ensures c.parts_of.ensures;
  taken = c.in_ok-others.ensures.left ∙ ap (λ (t : List ℕ). c.in_ok-others.others ++ t) c.in_ok-head.ensures.left;
}

pub returns-clause-count : goal.returns-clause-count
returns-clause-count g c =
    let n = counted_rest c.in_ok-pages.pages.items c.deref.result.now c.deref-2.result.now _ c.args.table.now c.requires.storable c.in_ok-pages.ensures.pages
    (search rules) (search rules) c.are_pages.ensures c.in_ok-pages.ensures.some c.split_at.ensures.back in
    let made = made_is _ _ _ c.in_ok-others.others _ _ _ c.in_ok-head.head c.requires.spare c.in_ok-others.ensures.left c.as_slice.ensures.value
    c.addresses-numbers.ensures c.parts_of.ensures in
    omega (arith, n, ap length made, c.in_ok-others.ensures.count)

pub returns-clause-distinct : goal.returns-clause-distinct
returns-clause-distinct g c =
    let made = made_is _ _ _ c.in_ok-others.others _ _ _ c.in_ok-head.head c.requires.spare c.in_ok-others.ensures.left c.as_slice.ensures.value
    c.addresses-numbers.ensures c.parts_of.ensures in
    subst (IsDistinct nat_eq) (sym made)
    (blocks_distinct _ c.in_ok-others.others _ c.in_ok-head.head c.requires.spare.distinct
    (c.in_ok-others.ensures.left ∙ ap (λ (t : List ℕ). c.in_ok-others.others ++ t) c.in_ok-head.ensures.left))
