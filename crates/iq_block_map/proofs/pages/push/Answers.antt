use Rattle.std.proofs.Common.{arith, sym, ap, ◌≡◌, ◌∙◌, ℕ, List, length, true, slice_index}
use Rattle.std.proofs.lemmas.Result.{err_from_is_err_and}
use Rattle.iq_block_map.specs.Maps.{is_address}
use Rattle.iq_block_map.specs.Paging.{appending}
use Rattle.iq_block_map.proofs.PutLemmas.{put_then, spare_inside}
use Rattle.iq_block_map.proofs.ReadLemmas.{ok_on, err_on, edit_fault_on, put_fault_edits}
use Rattle.iq_block_map.proofs.RewriteLemmas.{put_told}
use Rattle.iq_block_map.proofs.PageLemmas.{IsPutThere, appending_is, paged, bad_paged, lacks_paged, lacks_first}
use Rattle.iq_block_map.proofs.pages.push.Goals as goal

pub remap-requires-clause-added : goal.remap-requires-clause-added
remap-requires-clause-added g c = λ now told k d within.
    let there = put_told _ _ _ _ _ now c.put.ensures.put told in
    let first : is_address (length there.0) c.in_ok-at.at ≡ true
    = ap (λ (t : List ℕ). is_address (length there.0) (slice_index t 0)) (sym c.in_ok-at.ensures.left)
    ∙ spare_inside _ there.0 _ c.requires.spare there.1 0 0 (omega (arith, ap length c.in_ok-at.ensures.left)) in
    let zero_k : k ≡ 0 = omega (arith, within) in
    rw (zero_k, there.2.size) first

pub returns-in_err-at-clause-cause : goal.returns-in_err-at-clause-cause
returns-in_err-at-clause-cause g c =
    let p = err_from_is_err_and c.from_residual.result c.from_residual.ensures.1 in
    rw (p.1, p.2) (put_fault_edits _ _ _ c.in_err-at.field-0.0 _ _ _ _ (omega arith) (omega arith)
    (λ lacks. lacks_first appending _ c.args.object _ _ lacks.0 lacks.1) c.in_err-at.ensures.cause)

pub returns-clause-put : goal.returns-clause-put
returns-clause-put g c = put_then _ _ _ _ _ _ _ c.put.ensures.put c.remap.ensures.put

pub returns-clause-ok : goal.returns-clause-ok
returns-clause-ok g c = ok_on _ _ c.remap.result
    (λ new made. paged appending appending_is _ _ _ c.args.object new c.args.from.now _ _ _ _ _ c.in_ok-at.at record {
      few = c.requires.object.few;
      spare = c.requires.spare;
      first = c.in_ok-at.ensures.left;
      fits = c.in_ok-at.ensures.fits;
      split = c.put.ensures.put.left;
      block = c.in_ok-at.ensures.block;
      content = c.put.ensures.put.content;
    } c.remap.ensures.put.left c.remap.ensures.put.content made)
    c.remap.ensures.ok

pub returns-clause-cause : goal.returns-clause-cause
returns-clause-cause g c =
    let put : IsPutThere _ _ c.args.object c.args.from.now _ _ _ c.in_ok-at.at = record {
      few = c.requires.object.few;
      spare = c.requires.spare;
      first = c.in_ok-at.ensures.left;
      fits = c.in_ok-at.ensures.fits;
      split = c.put.ensures.put.left;
      block = c.in_ok-at.ensures.block;
      content = c.put.ensures.put.content;
    } in
    err_on _ _ c.remap.result
    (λ e cause. edit_fault_on _ _ _ _ e _ _ _ _ c.put.ensures.put.later (omega arith)
    (λ b bad. bad_paged appending _ _ _ c.args.object c.args.from.now _ _ _ c.in_ok-at.at b put bad)
    (λ lacks. lacks_paged appending appending_is _ _ c.args.object c.args.from.now _ _ _ _ c.in_ok-at.at put lacks)
    cause)
    c.remap.ensures.cause
