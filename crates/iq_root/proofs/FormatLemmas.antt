-- An empty store.
use Rattle.std.specs.Prelude.{◌≡◌, ℕ, ◌-◌, ◌≤◌, List, length, Option, Some, Ok, replicate, take}
use Rattle.std.proofs.Common.{refl, ap, subst, ◌∙◌, inl, arith, length-append}
use Rattle.std.proofs.lemmas.List.{length-take, length-replicate}
use Rattle.iq_outside.specs.Devices.{block_of, Cut, resized, zero_block}
use Rattle.iq_root.specs.Roots.{gate_place, long_at, gate_block, newest}
use Rattle.iq_root.specs.Pages.{RootFits}
use Rattle.iq_root.specs.Publishing.{with_slot}
use Rattle.iq_root.specs.Formatting.{empty_root, formatted}
use Rattle.iq_root.specs.declared.root.Root.{Root}
use Rattle.iq_root.proofs.NewestLemmas.{newest_over, closed_over_any}
use Rattle.iq_root.proofs.BodyLemmas.{gate_tells, root_of_body, written_valid}
use Rattle.iq_root.proofs.PublishLemmas.{with_body, with_gate, with_rest, valid_slot}

pub length-resized : (count : ℕ) (all : List (List ℕ)) → length (resized count all) ≡ count
length-resized count all = omega (
  arith,
  length-append (take count all) (replicate (count - length all) zero_block),
  length-take count all,
  length-replicate (count - length all) zero_block,
)

-- the empty root is the newest
pub formatted_newest : (count : ℕ) (all : List (List ℕ)) → 4 ≤ length all → RootFits (empty_root 1 count)
    → newest (formatted count all) ≡ Some (empty_root 1 count)
formatted_newest count all four fits =
    let closed = with_slot 0 (empty_root 0 count) 0 all in
    let long : 4 ≤ length closed = omega (arith, four, (with_rest 0 0 (empty_root 0 count) all).size) in
    let gate : block_of (formatted count all) (gate_place 0) ≡ gate_block 0 0
    = (with_rest 1 1 (empty_root 1 count) closed).others (gate_place 0) (omega arith) (omega arith)
    ∙ with_gate 0 0 (empty_root 0 count) all (omega arith) four in
    newest_over (formatted count all) 0 1 (empty_root 1 count) (inl (refl, refl))
    (valid_slot 1 (formatted count all) (empty_root 1 count)
    (with_body 1 1 (empty_root 1 count) closed (omega arith) long) (with_gate 1 1 (empty_root 1 count) closed (omega arith) long)
    (written_valid 1 (empty_root 1 count) (omega arith) fits (omega arith) (omega arith) refl (omega arith) (omega arith))
    (root_of_body 1 (empty_root 1 count) fits))
    (closed_over_any (formatted count all) 0 1 (ap (λ (g : List ℕ). long_at g 16) gate ∙ gate_tells 0 0 (omega arith)))

-- the four calls in a row
pub formats : {U E : Type 0} (count : ℕ) (first second : Root) (u : U) (old cut closed opened new : Option (List (List ℕ)))
    → first ≡ empty_root 0 count → second ≡ empty_root 1 count → Cut {T = U} {E = E} count (Ok u) old cut
    → ((all : List (List ℕ)) → cut ≡ Some all → closed ≡ Some (with_slot 0 first 0 all))
    → ((all : List (List ℕ)) → closed ≡ Some all → opened ≡ Some (with_slot 1 second 1 all)) → new ≡ opened
    → (all : List (List ℕ)) → old ≡ Some all → new ≡ Some (formatted count (resized count all))
formats count first second u old cut closed opened new is_first is_second by_cut by_first by_second same all told =
    same ∙ by_second _ (by_first _ (by_cut.ok all told))
    ∙ ap (λ (r : Root). Some (with_slot 1 second 1 (with_slot 0 r 0 (resized count all)))) is_first
    ∙ ap (λ (r : Root). Some (with_slot 1 r 1 (with_slot 0 (empty_root 0 count) 0 (resized count all)))) is_second

pub formats_newest : (count : ℕ) (second : Root) (old : Option (List (List ℕ))) → 4 ≤ count
    → second ≡ empty_root 1 count → RootFits second
    → (all : List (List ℕ)) → old ≡ Some all → newest (formatted count (resized count all)) ≡ Some (empty_root 1 count)
formats_newest count second old four is fits all told =
    formatted_newest count (resized count all) (omega (arith, four, length-resized count all)) (subst RootFits is fits)
