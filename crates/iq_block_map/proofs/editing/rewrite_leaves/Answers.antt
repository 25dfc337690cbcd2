use Rattle.std.proofs.Common.{rules, arith, refl, subst, length-take, length-set, ◌≡◌, ◌∙◌, ◌<◌, ◌≤◌, ◌*◌, ◌+◌, ◌++◌, ℕ, length, take, slice_index, true, ap, sym, List, is_ok}
use Rattle.std.specs.List.{All}
use Rattle.std.proofs.lemmas.Result.{err_from_is_err_and}
use Rattle.iq_block_map.specs.Maps.{is_address}
use Rattle.iq_block_map.specs.Objects.{leaf_count, used_in}
use Rattle.iq_block_map.specs.Writing.{holds}
use Rattle.iq_block_map.specs.Leaves.{leaf_at}
use Rattle.iq_block_map.specs.Editing.{edited, piece, replaced_from, is_touched}
use Rattle.iq_block_map.proofs.EditLemmas.{piece_at, edited_start, length-edited, prefix_few}
use Rattle.iq_block_map.proofs.TouchLemmas.{still_added, some_touched, touched_some, touch_drop}
use Rattle.iq_block_map.proofs.PutLemmas.{put_none, put_then, looked_same, told_same, holds-append, spare_inside}
use Rattle.iq_block_map.proofs.ReadLemmas.{below_count, edit_fault_on}
use Rattle.iq_block_map.proofs.StepLemmas.{so_far_none}
use Rattle.iq_block_map.proofs.NamedLemmas.{here_changes, all_drop, all_edited, listed_names, listed_count}
use Rattle.iq_block_map.proofs.RewriteLemmas.{put_told, spare_after, leaf_done, leaves_done, untouched_at, untouched_more, leaf_same, bad_place, lacks_leaf, old_leaf, place_after, place_before, first_more, reads_more, reads_next}
use Rattle.iq_block_map.proofs.editing.rewrite_leaves.Goals as goal

pub loop-k-init : goal.loop-k-init
loop-k-init g c = record {
  put = put_none _ _ _ _ (looked_same _ _);
  changes = c.requires.changes;
  added = c.requires.added;
  long = search rules;
  untouched = refl;
  most = omega arith;
  first = λ none. absurd (omega (arith, none));
  touch = λ j later. refl;
  reads = λ all told opened j within early. absurd (omega (arith, early));
  so_far = λ all xs told opened now told_now. rw (told_same _ _ now all refl told_now told) (so_far_none all xs _ _ _);
  rest = λ xs size. edited_start xs c.args.changed.now c.args.added.now;
}

pub split_at-requires : goal.split_at-requires
split_at-requires g c = rw c.count_below.ensures (prefix_few (252 * (c.loop-k.k + 1)) c.loop-k.to_change.now)

pub rewrite_leaf-requires-clause-leaf : goal.rewrite_leaf-requires-clause-leaf
rewrite_leaf-requires-clause-leaf g c = λ some.
    let within : c.loop-k.k < leaf_count c.args.old.pages = omega (arith, some, c.used_in.ensures) in
    let fits : leaf_count c.args.old.pages ≤ 252 = omega (arith, c.requires.most) in
    let same = untouched_at c.args.before.now c.loop-k.leaves c.loop-k.k c.loop-k.invariant.untouched in
    record {
      above = (let old_one = c.requires.before.above c.loop-k.k within in omega (arith, old_one, same));
      below = λ now told.
          let there = put_told _ _ _ _ _ now c.loop-k.invariant.put told in
          let old_one = below_count (length there.0) (leaf_count c.args.old.pages) c.loop-k.k c.args.before.now (c.requires.before.may there.0 there.1) within fits in
          omega (arith, old_one, there.2.size, same);
    }

pub rewrite_leaf-requires-clause-here : goal.rewrite_leaf-requires-clause-here
rewrite_leaf-requires-clause-here g c = rw (c.used_in.ensures, c.split_at.ensures.front, c.count_below.ensures)
    (here_changes c.loop-k.k c.args.old.pages c.loop-k.to_change.now c.loop-k.invariant.changes).0

pub rewrite_leaf-requires-clause-spare : goal.rewrite_leaf-requires-clause-spare
rewrite_leaf-requires-clause-spare g c = spare_after _ _ _ _ _ c.requires.spare c.loop-k.invariant.put

pub returns-in_err-leaves-clause-put : goal.returns-in_err-leaves-clause-put
returns-in_err-leaves-clause-put g c = put_then _ _ _ _ _ _ _ c.loop-k.invariant.put c.rewrite_leaf.ensures.put

pub returns-in_err-leaves-clause-cause : goal.returns-in_err-leaves-clause-cause
returns-in_err-leaves-clause-cause g c =
    let p = err_from_is_err_and c.from_residual.result c.from_residual.ensures.1 in
    let k = c.loop-k.k in
    let more = c.split_at-in-loop-k.result.0.now in
    let here = c.split_at.result.0.now in
    let same = untouched_at c.args.before.now c.loop-k.leaves k c.loop-k.invariant.untouched in
    let left = still_added k c.args.old.pages c.args.changed.now c.loop-k.to_change.now c.args.added.now c.loop-k.to_add.now c.loop-k.invariant.rest in
    let touch : k < leaf_count c.args.old.pages → 1 ≤ length here + length more → is_touched c.args.old.pages c.args.changed.now c.args.added.now k ≡ true
    = λ within some. some_touched k c.args.old.pages c.count_below.result c.args.changed.now c.loop-k.to_change.now c.args.added.now c.loop-k.to_add.now within
    (c.loop-k.invariant.touch k (omega arith)) c.loop-k.invariant.changes c.count_below.ensures left
    (omega (
      arith,
      some,
      ap length c.split_at.ensures.front,
      ap length c.split_at-in-loop-k.ensures.front,
      c.min.ensures,
      c.used_in.ensures,
      length-take c.min.result c.loop-k.to_add.now,
    )) in
    rw (p.1, p.2) (edit_fault_on _ _ _ _ c.in_err-leaves.field-0.0 _ _ _ _ c.loop-k.invariant.put.later (omega arith)
    (λ b bad now told. bad_place now c.args.old c.args.before.now c.args.changed.now here c.args.added.now more k _ c.used_in.result b c.used_in.ensures same touch (bad now told))
    (λ lacks. record {
      none = lacks.none;
      room = omega (arith, ap length lacks.had, c.loop-k.invariant.most, c.loop-k-test.true, c.leaf_count-k-end.ensures);
      needs = λ all told opened.
          let mid = c.loop-k.invariant.put.content all told in
          let leaf = leaf_same all mid.0 c.args.old c.args.before.now _ _ _ k _ c.used_in.result opened mid.2 c.loop-k.invariant.put.left (omega (arith, c.requires.most)) c.used_in.ensures same in
          record {
            k = k;
            read = reads_more all c.args.old c.args.before.now c.args.changed.now c.args.added.now k (c.loop-k.invariant.reads all told opened)
                (λ touched. sym (ap is_ok leaf) ∙ lacks.read mid.0 mid.1);
            differs = λ xs size right again.
                let pieces = piece_at k c.args.old.pages xs (edited xs c.args.changed.now c.args.added.now) c.loop-k.to_change.now c.loop-k.to_add.now size c.loop-k.invariant.changes (c.loop-k.invariant.rest xs size) in
                let pieced : piece k (edited xs c.args.changed.now c.args.added.now) ≡ replaced_from (252 * k) (piece k xs) here ++ more
                = rw (c.split_at.ensures.front, c.count_below.ensures, c.split_at-in-loop-k.ensures.front, c.min.ensures, c.used_in.ensures) pieces.here in
                lacks.differs mid.0 (piece k xs) mid.1 (leaf ∙ right) (sym pieced ∙ again);
          };
      fewer = λ all xs told opened.
          let ys = edited xs c.args.changed.now c.args.added.now in
          let mid = c.loop-k.invariant.put.content all told in
          let lc = leaf_count c.args.old.pages in
          let fits : lc ≤ 252 = omega (arith, c.requires.most) in
          let size : length (take lc c.args.before.now) ≡ lc = length-take lc c.args.before.now ∙ omega (arith, fits, opened.may.size) in
          let count : length xs ≡ c.args.old.pages = listed_count all c.args.old.pages (take lc c.args.before.now) xs opened.listed (omega (arith, size)) in
          let pages : length ys ≡ c.args.old.pages + length c.args.added.now = length-edited xs c.args.changed.now c.args.added.now ∙ omega (arith, count) in
          let within : k < leaf_count (length ys) = omega (arith, c.loop-k-test.true, c.leaf_count-k-end.ensures, pages) in
          let pieces = piece_at k c.args.old.pages xs ys c.loop-k.to_change.now c.loop-k.to_add.now count c.loop-k.invariant.changes (c.loop-k.invariant.rest xs count) in
          let pieced : piece k ys ≡ replaced_from (252 * k) (piece k xs) here ++ more
          = rw (c.split_at.ensures.front, c.count_below.ensures, c.split_at-in-loop-k.ensures.front, c.min.ensures, c.used_in.ensures) pieces.here in
          let so_far = c.loop-k.invariant.so_far all xs told opened mid.0 mid.1 in
          let read = old_leaf all mid.0 c.args.old xs c.args.before.now _ _ k opened count (omega (arith, c.requires.most)) so_far.size mid.2
          (λ b none. (holds-append _ _ b (ap (λ (t : List ℕ). holds t b) (sym c.loop-k.invariant.put.left) ∙ none)).0) in
          let at = ap (leaf_at mid.0 (used_in (length xs) k)) same ∙ read in
          lacks_leaf all mid.0 xs ys c.args.before.now c.loop-k.leaves _ _ k so_far lacks.had
          (λ again. lacks.differs mid.0 (piece k xs) mid.1 (rw (c.used_in.ensures, ← count) at) (sym pieced ∙ again)) within;
    })
    c.in_err-leaves.ensures.cause)

pub loop-k-preserved : goal.loop-k-preserved
loop-k-preserved g c =
    let cut = here_changes c.loop-k.k c.args.old.pages c.loop-k.to_change.now c.loop-k.invariant.changes in
    let left = still_added c.loop-k.k c.args.old.pages c.args.changed.now c.loop-k.to_change.now c.args.added.now c.loop-k.to_add.now c.loop-k.invariant.rest in
    record {
      put = put_then _ _ _ _ _ _ _ c.loop-k.invariant.put c.rewrite_leaf.ensures.put;
      changes = rw (c.split_at.ensures.back, c.count_below.ensures) cut.1;
      added = λ all told. rw c.split_at-in-loop-k.ensures.back (all_drop (λ a. is_address (length all) a ≡ true) c.min.result c.loop-k.to_add.now (c.loop-k.invariant.added all told));
      long = length-set c.loop-k.leaves c.loop-k.k c.in_ok-leaves.field-0 ∙ c.loop-k.invariant.long;
      untouched = untouched_more c.args.before.now c.loop-k.leaves c.loop-k.k c.in_ok-leaves.field-0 c.loop-k.invariant.untouched;
      most = omega (arith, c.loop-k.invariant.most, c.rewrite_leaf.ensures.most);
      first = λ some. first_more (g.D.Device.blocks c.args.disk.now) c.loop-k.leaves c.loop-k.k c.in_ok-leaves.field-0 (omega (arith, c.loop-k.invariant.long)) c.loop-k.invariant.first
          (λ none. place_before _ _ _ _ _ _
          (c.in_ok-leaves.ensures.is_in (omega (
            arith,
            none,
            left,
            c.used_in.ensures,
            c.min.ensures,
            ap length c.split_at-in-loop-k.ensures.front,
            length-take c.min.result c.loop-k.to_add.now,
            c.loop-k-test.true,
            c.leaf_count-k-end.ensures,
          )))
          (put_then _ _ _ _ _ _ _ c.loop-k.invariant.put c.rewrite_leaf.ensures.put));
      touch = λ j later. rw (c.split_at.ensures.back, c.count_below.ensures)
          (touch_drop (252 * (c.loop-k.k + 1)) j c.loop-k.to_change.now (omega (arith, later)) ∙ c.loop-k.invariant.touch j (omega (arith, later)));
      reads = λ all told opened.
          let mid = c.loop-k.invariant.put.content all told in
          let same = untouched_at c.args.before.now c.loop-k.leaves c.loop-k.k c.loop-k.invariant.untouched in
          let leaf = leaf_same all mid.0 c.args.old c.args.before.now _ _ _ c.loop-k.k _ c.used_in.result opened mid.2 c.loop-k.invariant.put.left (omega (arith, c.requires.most)) c.used_in.ensures same in
          reads_next all c.args.old c.args.before.now c.args.changed.now c.args.added.now c.loop-k.k (c.loop-k.invariant.reads all told opened)
          (λ within touched.
          let some = touched_some c.loop-k.k c.args.old.pages c.count_below.result c.args.changed.now c.loop-k.to_change.now c.args.added.now c.loop-k.to_add.now touched within
          (c.loop-k.invariant.touch c.loop-k.k (omega arith)) c.loop-k.invariant.changes c.count_below.ensures left in
          sym (ap is_ok leaf)
          ∙ c.in_ok-leaves.ensures.read (omega (
            arith,
            some,
            ap length c.split_at.ensures.front,
            ap length c.split_at-in-loop-k.ensures.front,
            c.min.ensures,
            c.used_in.ensures,
            length-take c.min.result c.loop-k.to_add.now,
          ))
          mid.0 mid.1);
      so_far = λ all xs told opened now' told'.
          let ys = edited xs c.args.changed.now c.args.added.now in
          let mid = c.loop-k.invariant.put.content all told in
          let lc = leaf_count c.args.old.pages in
          let fits : lc ≤ 252 = omega (arith, c.requires.most) in
          let size : length (take lc c.args.before.now) ≡ lc = length-take lc c.args.before.now ∙ omega (arith, fits, opened.may.size) in
          let count : length xs ≡ c.args.old.pages = listed_count all c.args.old.pages (take lc c.args.before.now) xs opened.listed (omega (arith, size)) in
          let pages : length ys ≡ c.args.old.pages + length c.args.added.now = length-edited xs c.args.changed.now c.args.added.now ∙ omega (arith, count) in
          let within : c.loop-k.k < leaf_count (c.args.old.pages + length c.args.added.now) = omega (arith, c.loop-k-test.true, c.leaf_count-k-end.ensures) in
          let spare = spare_after _ _ _ _ _ c.requires.spare c.loop-k.invariant.put in
          let pieces = piece_at c.loop-k.k c.args.old.pages xs ys c.loop-k.to_change.now c.loop-k.to_add.now count c.loop-k.invariant.changes (c.loop-k.invariant.rest xs count) in
          let pieced : piece c.loop-k.k ys ≡ replaced_from (252 * c.loop-k.k) (piece c.loop-k.k xs) c.split_at.result.0.now ++ c.split_at-in-loop-k.result.0.now
          = rw (c.split_at.ensures.front, c.count_below.ensures, c.split_at-in-loop-k.ensures.front, c.min.ensures, c.used_in.ensures) pieces.here in
          leaf_done all mid.0 now' c.args.old xs ys c.args.before.now c.loop-k.leaves _ _ _ _ c.loop-k.k (slice_index c.loop-k.leaves c.loop-k.k) c.in_ok-leaves.field-0
          (c.loop-k.invariant.so_far all xs told opened mid.0 mid.1) opened count (omega (arith, c.requires.most)) mid.2 c.loop-k.invariant.put.left
          (omega (arith, c.requires.count all told, c.ranges.count.fits)) c.loop-k.invariant.long (omega (arith, within, c.requires.most)) (omega (arith, within, pages))
          (untouched_at c.args.before.now c.loop-k.leaves c.loop-k.k c.loop-k.invariant.untouched)
          (all_edited (λ a. is_address (length all) a ≡ true) xs c.args.changed.now c.args.added.now
          (listed_names all c.args.old.pages (take lc c.args.before.now) xs opened.listed) (c.requires.changed all told) (c.requires.added all told))
          spare.distinct
          (subst (λ (n : ℕ). All (λ b. is_address n b ≡ true) (g.T.Taker.left c.loop-k.space)) mid.2.size (spare_inside _ mid.0 _ spare mid.1))
          (λ read. rw pieced (c.in_ok-leaves.ensures.ok mid.0 (piece c.loop-k.k xs) mid.1 (rw (c.used_in.ensures, ← count) read) now' told'));
      rest = λ xs size.
          rw (c.split_at.ensures.back, c.count_below.ensures, c.split_at-in-loop-k.ensures.back, c.min.ensures, c.used_in.ensures)
          (piece_at c.loop-k.k c.args.old.pages xs (edited xs c.args.changed.now c.args.added.now) c.loop-k.to_change.now c.loop-k.to_add.now size c.loop-k.invariant.changes (c.loop-k.invariant.rest xs size)).later;
    }

pub returns-clause-first : goal.returns-clause-first
returns-clause-first g c = λ some. place_after _ _ _ _ _ _
    (c.loop-k.invariant.first (omega (arith, some, c.loop-k-test.false, c.leaf_count-k-end.ensures, c.loop-k.auto.k-end))) c.loop-k.invariant.put

pub returns-clause-spare : goal.returns-clause-spare
returns-clause-spare g c = spare_after _ _ _ _ _ c.requires.spare c.loop-k.invariant.put

pub returns-clause-read : goal.returns-clause-read
returns-clause-read g c = λ all told opened j within before touched.
    c.loop-k.invariant.reads all told opened j within (omega (arith, before, c.loop-k-test.false, c.leaf_count-k-end.ensures, c.loop-k.auto.k-end)) touched

pub returns-clause-ok : goal.returns-clause-ok
returns-clause-ok g c = λ all xs told opened now told_now.
    let ys = edited xs c.args.changed.now c.args.added.now in
    let lc = leaf_count c.args.old.pages in
    let fits : lc ≤ 252 = omega (arith, c.requires.most) in
    let size : length (take lc c.args.before.now) ≡ lc = length-take lc c.args.before.now ∙ omega (arith, fits, opened.may.size) in
    let count : length xs ≡ c.args.old.pages = listed_count all c.args.old.pages (take lc c.args.before.now) xs opened.listed (omega (arith, size)) in
    let pages : length ys ≡ c.args.old.pages + length c.args.added.now = length-edited xs c.args.changed.now c.args.added.now ∙ omega (arith, count) in
    let end : c.loop-k.k ≡ leaf_count (length ys) = omega (arith, c.loop-k-test.false, c.loop-k.auto.k-end, c.leaf_count-k-end.ensures, pages) in
    leaves_done all now c.args.old xs (edited xs c.args.changed.now c.args.added.now) c.args.before.now c.loop-k.leaves _ _ c.loop-k.k
    (c.loop-k.invariant.so_far all xs told opened now told_now) opened end (omega (arith, pages)) (omega (arith, pages, c.requires.most)) c.loop-k.invariant.long c.loop-k.invariant.untouched
