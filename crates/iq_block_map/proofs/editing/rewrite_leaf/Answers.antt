use Rattle.std.proofs.Common.{rules, refl, sym, ap, arith, inl, inr, ◌≡◌, ◌∙◌, ℕ, List, Err, length, take, slice_set, length-take}
use Rattle.std.specs.List.{flat_map}
use Rattle.iq_block_store.specs.Frames.{framed, bytes_of, map_kind}
use Rattle.std.proofs.lemmas.Result.{err_from_is_err_and}
use Rattle.iq_block_map.specs.Editing.{replaced_from}
use Rattle.iq_block_map.specs.Leaves.{leaf_at, padded}
use Rattle.iq_block_map.proofs.EditLemmas.{length-replaced}
use Rattle.iq_block_map.proofs.LeafLemmas.{stays_same, some_list, other_pages}
use Rattle.iq_block_map.proofs.PutLemmas.{put_none, looked_same, told_same}
use Rattle.iq_block_map.proofs.ReadLemmas.{ok_two, err_on, is_ok_of, put_fault_edits, read_fault_edits}
use Rattle.iq_block_map.proofs.editing.rewrite_leaf.Goals as goal

pub returns-then-is_untouched-clause-put : goal.returns-then-is_untouched-clause-put
returns-then-is_untouched-clause-put g c = put_none _ _ _ _ (looked_same _ _)

pub returns-in_err-before-clause-cause : goal.returns-in_err-before-clause-cause
returns-in_err-before-clause-cause g c =
    let p = err_from_is_err_and c.from_residual.result c.from_residual.ensures.1 in
    rw (p.1, p.2) (read_fault_edits (λ b all. (b ≡ c.args.leaf.at) × (leaf_at all c.args.leaf.used c.args.leaf.at ≡ Err c.args.leaf.at)) _ _ c.in_err-before.field-0.0 _ _ _ _ _ (omega arith) (omega arith)
    (λ b bad now told. record { is = (bad now (sym c.in_err-before.ensures.looked.unchanged ∙ told)).0; some = search rules; bad = (bad now (sym c.in_err-before.ensures.looked.unchanged ∙ told)).1 })
    c.in_err-before.ensures.cause)

pub returns-then-keeps_pages-clause-ok : goal.returns-then-keeps_pages-clause-ok
returns-then-keeps_pages-clause-ok g c = λ all xs told at now is. inl record {
  pages = stays_same _ c.args.leaf.used xs (replaced_from c.args.leaf.first xs c.args.here.now) c.in_ok-before.before c.edit-places.result c.args.more.now
      (leaf_at all c.args.leaf.used c.args.leaf.at) at (c.in_ok-before.ensures.ok all told) (search rules) c.requires.room c.in_ok-before.ensures.padded
      (length-replaced c.args.leaf.first xs c.args.here.now) (c.requires.more all told) (c.edit-places.ensures xs) (search rules);
  leaf = refl;
  left = refl;
  blocks = told_same _ _ now all c.in_ok-before.ensures.looked.unchanged is told;
}

pub returns-clause-ok : goal.returns-clause-ok
returns-clause-ok g c = ok_two _ _ _ c.put.result
    (λ made left block all xs told at now told_now.
    let xs_is : xs ≡ take c.args.leaf.used c.in_ok-before.before = some_list xs (take c.args.leaf.used c.in_ok-before.before) (leaf_at all c.args.leaf.used c.args.leaf.at) at (c.in_ok-before.ensures.ok all told) in
    let long : length c.in_ok-before.before ≡ 252 = search rules in
    let size : length xs ≡ c.args.leaf.used = ap length xs_is ∙ length-take c.args.leaf.used c.in_ok-before.before ∙ omega (arith, long, c.requires.room) in
    let before_is : c.in_ok-before.before ≡ padded xs = c.in_ok-before.ensures.padded ∙ ap padded (sym xs_is) in
    let places_is = c.edit-places.ensures xs size before_is in
    inr record {
      pages = other_pages c.args.leaf.used c.args.leaf.first xs c.args.here.now c.args.more.now c.in_ok-before.before _ size (search rules) c.requires.here (search rules) before_is places_is;
      left = left;
      blocks = told_same _ _ now _ refl told_now (block all (c.in_ok-before.ensures.looked.unchanged ∙ told))
          ∙ ap (λ (t : List ℕ). slice_set all made (framed map_kind made 1 t)) (c.payload_of.ensures ∙ ap (flat_map bytes_of) places_is);
    })
    c.put.ensures.left c.put.ensures.block

pub returns-clause-cause : goal.returns-clause-cause
returns-clause-cause g c = err_on _ _ c.put.result
    (λ e cause. put_fault_edits _ _ _ e _ _ _ _ (omega (arith, c.in_ok-before.ensures.looked.later)) (omega arith)
    (λ lacks. record {
      had = lacks.0;
      none = lacks.1;
      some = search rules;
      read = λ all told. is_ok_of _ _ (c.in_ok-before.ensures.ok all told);
      differs = λ all xs told at.
          let xs_is : xs ≡ take c.args.leaf.used c.in_ok-before.before = some_list xs (take c.args.leaf.used c.in_ok-before.before) (leaf_at all c.args.leaf.used c.args.leaf.at) at (c.in_ok-before.ensures.ok all told) in
          let long : length c.in_ok-before.before ≡ 252 = search rules in
          let size : length xs ≡ c.args.leaf.used = ap length xs_is ∙ length-take c.args.leaf.used c.in_ok-before.before ∙ omega (arith, long, c.requires.room) in
          let before_is : c.in_ok-before.before ≡ padded xs = c.in_ok-before.ensures.padded ∙ ap padded (sym xs_is) in
          other_pages c.args.leaf.used c.args.leaf.first xs c.args.here.now c.args.more.now c.in_ok-before.before _ size (search rules) c.requires.here (search rules) before_is (c.edit-places.ensures xs size before_is);
    })
    cause)
    c.put.ensures.cause
