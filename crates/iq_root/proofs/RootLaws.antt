-- What the newest root and its next slot stand on.
use Rattle.std.specs.Prelude.{◌≡◌, ℕ, ◌+◌, ◌≤◌, ◌<◌, List, length, Option}
use Rattle.std.proofs.Common.{ap, ◌∙◌, arith}
use Rattle.iq_outside.specs.Devices.{block_of}
use Rattle.iq_root.specs.Roots.{body_place, gate_place, long_at, slot_root, newer, newest, body_block}
use Rattle.iq_root.specs.Publishing.{slot_of, with_slot, published, Follows, IsStale, SameRoots}
use Rattle.iq_root.specs.Formatting.{empty_root, formatted}
use Rattle.iq_root.specs.declared.root.Root.{Root}
use Rattle.iq_root.proofs.NewestLemmas.{slot_body, newest_slot}
use Rattle.iq_root.proofs.BodyLemmas.{body_tells}
use Rattle.iq_root.proofs.PublishLemmas.{SameSlot, same_root, other_same, both_slots, with_body, with_rest}
use Rattle.std.proofs.lemmas.Nat.{mod_below}

same_slot : (slot : ℕ) (all now : List (List ℕ)) → slot < 2 → SameRoots all now → SameSlot slot all now
same_slot slot all now two same = record {
  body = same (body_place slot) (omega (arith, two));
  gate = same (gate_place slot) (omega (arith, two));
}

pub same_newest : (all now : List (List ℕ)) → SameRoots all now → newest now ≡ newest all
same_newest all now same =
    ap (λ (r : Option Root). newer r (slot_root 1 now)) (same_root 0 all now (same_slot 0 all now (omega arith) same))
    ∙ ap (newer (slot_root 0 all)) (same_root 1 all now (same_slot 1 all now (omega arith) same))

pub same_stale : (all now : List (List ℕ)) (last root : Root) → SameRoots all now → IsStale all last root → IsStale now last root
same_stale all now last root same stale headed =
    let at : ℕ = body_place (slot_of root) in
    let body : block_of now at ≡ block_of all at = same at (omega (arith, mod_below root.generation 2 (omega arith))) in
    rw body (stale (rw body at headed))

-- the body in the slot after a root's is that of the root before
pub published_stale : (all : List (List ℕ)) (last root next : Root) → Follows all last root → next.generation ≡ root.generation + 1
    → IsStale (published root all) root next
published_stale all last root next follows more headed =
    let here : slot_of next ≡ slot_of last = omega (arith, more, follows.next) in
    let body : block_of (published root all) (body_place (slot_of last)) ≡ block_of all (body_place (slot_of last))
    = (other_same (slot_of root) (slot_of last) all (published root all) (both_slots last root follows.next)
    (with_rest (slot_of root) root.generation root all)).body in
    let tells : long_at (block_of all (body_place (slot_of last))) 16 ≡ last.generation
    = slot_body (slot_of last) all last (newest_slot all last follows.newest_is) in
    let there : long_at (block_of (published root all) (body_place (slot_of next))) 16 ≡ last.generation
    = ap (λ (s : ℕ). long_at (block_of (published root all) (body_place s)) 16) here ∙ ap (λ (x : List ℕ). long_at x 16) body ∙ tells in
    omega (arith, there, follows.next)

pub formatted_stale : (count : ℕ) (all : List (List ℕ)) (next : Root) → 4 ≤ length all → next.generation ≡ 2
    → IsStale (formatted count all) (empty_root 1 count) next
formatted_stale count all next four two headed =
    let here : slot_of next ≡ 0 = omega (arith, two) in
    let body : block_of (formatted count all) (body_place 0) ≡ body_block 0 (empty_root 0 count)
    = (with_rest 1 1 (empty_root 1 count) (with_slot 0 (empty_root 0 count) 0 all)).others (body_place 0) (omega arith) (omega arith)
    ∙ with_body 0 0 (empty_root 0 count) all (omega arith) four in
    let there : long_at (block_of (formatted count all) (body_place (slot_of next))) 16 ≡ 0
    = ap (λ (s : ℕ). long_at (block_of (formatted count all) (body_place s)) 16) here ∙ ap (λ (x : List ℕ). long_at x 16) body
    ∙ body_tells 0 (empty_root 0 count) (omega arith) in
    omega (arith, there)
