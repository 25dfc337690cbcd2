-- An entry that is written.
use Rattle.std.proofs.Common.{◌≡◌, ◌≢◌, ◌<◌, ◌*◌, ◌/◌, ◌%◌, ℕ, Bool, true, inl, inr, List, [], length, get_or, set, sym, ap, ◌∙◌, arith, true≢false}
use Rattle.std.proofs.lemmas.Bool.Decides.{eqb_tells}
use Rattle.std.proofs.lemmas.List.{length-set, get_or-set_same, get_or-set_other}
use Rattle.iq_pages.specs.Pages.{Pages}
use Rattle.iq_cells.specs.Codes.{code_in}
use Rattle.iq_pieces.specs.Objects.{page_at}
use Rattle.iq_lf.specs.Entries.{entry_in}
use Rattle.iq_lf.specs.Steps.{SetsEntry, KeepsUnchanged}

-- a number of a page is written, and so the entry
pub sets_entry : (k number : ℕ) (pages : Pages) (page : List ℕ) → k < 252 * length pages → code_in 4 page (k % 252) ≡ number
    → ((j : ℕ) → j ≢ k % 252 → code_in 4 page j ≡ code_in 4 (page_at (k / 252) pages) j) → SetsEntry k number pages (set pages (k / 252) page)
unfolding entry_in
sets_entry k number pages page within here others =
    let there : k / 252 < length pages = omega (arith, within) in
    record {
      long = length-set pages (k / 252) page;
      here = ap (λ (p : List ℕ). code_in 4 p (k % 252)) (get_or-set_same pages (k / 252) page [] there) ∙ here;
      others = λ j n. elim (eqb_tells (j / 252) (k / 252)) [
        | inl same ↦ (
            let differs : j % 252 ≢ k % 252 = λ e. n (omega (arith, same.1, e)) in
            ap (λ (p : List ℕ). code_in 4 p (j % 252)) (ap (λ (q : ℕ). page_at q (set pages (k / 252) page)) same.1 ∙ get_or-set_same pages (k / 252) page [] there)
            ∙ others (j % 252) differs ∙ ap (λ (q : ℕ). code_in 4 (page_at q pages) (j % 252)) (sym same.1))
        | inr other ↦ ap (λ (p : List ℕ). code_in 4 p (j % 252)) (get_or-set_other pages (k / 252) (j / 252) page [] other.1)
      ];
    }

-- the page of the entry is marked, and the others are as before
pub keeps_others : (k : ℕ) (told pages : Pages) (page : List ℕ) (changed : List Bool) → k / 252 < length changed → KeepsUnchanged told pages changed
    → KeepsUnchanged told (set pages (k / 252) page) (set changed (k / 252) true)
keeps_others k told pages page changed there kept = λ p within is. elim (eqb_tells p (k / 252)) [
  | inl same ↦ absurd (true≢false (sym (ap (λ (q : ℕ). get_or (set changed (k / 252) true) q true) same.1 ∙ get_or-set_same changed (k / 252) true true there) ∙ is))
  | inr other ↦ (
      let was = kept p (omega (arith, within, length-set pages (k / 252) page)) (sym (get_or-set_other changed (k / 252) p true true other.1) ∙ is) in
      (was.0, get_or-set_other pages (k / 252) p page [] other.1 ∙ was.1))
]
