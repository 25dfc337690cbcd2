-- The entries of an index, with those of more distinct values.
use Rattle.std.proofs.Common.{◌≡◌, ◌<◌, ◌+◌, ◌-◌, ◌/◌, ℕ, Bool, true, false, inl, inr, List, [], ◌++◌, Option, length, get_or, replicate, sym, ap, ◌∙◌, arith, true≢false}
use Rattle.std.proofs.lemmas.Bool.{cases_lt}
use Rattle.std.proofs.lemmas.List.{length-replicate, get_or_append_left, get_or-append-add, get_or-replicate, get_or_past}
use Rattle.iq_pages.specs.Pages.{Pages}
use Rattle.iq_pieces.specs.Counts.{pages_for}
use Rattle.iq_pieces.specs.Objects.{page_at}
use Rattle.iq_lf.specs.declared.lf.Lf.{Lf}
use Rattle.iq_lf.specs.Stands.{entries_in}
use Rattle.iq_lf.specs.Steps.{AreNeeded, AreEntries, ClearsEntries, KeepsEntries, Lengthens}
use Rattle.iq_lf.proofs.FindLaws.{same_entry}

-- pages behind others
page_old : (count : ℕ) (pages mid : Pages) (changed changed' : List Bool) → Lengthens count pages changed mid changed' → (p : ℕ) → p < length pages → page_at p mid ≡ page_at p pages
page_old count pages mid changed changed' l p less = ap (λ (ps : Pages). page_at p ps) l.pages_are ∙ get_or_append_left pages (replicate l.more (replicate 1008 0)) [] p less

all_true : (n p : ℕ) → get_or (replicate n true) p true ≡ true
all_true n p = elim (cases_lt p n) [
  | inl less ↦ get_or-replicate n p true true less
  | inr past ↦ get_or_past (replicate n true) p true (omega (arith, past, length-replicate n true))
]

pub grown_entries : (lf : Lf) (told : ℕ → Option Pages) (n count to : ℕ) (pages mid new : Pages) (changed changed' : List Bool) → length pages ≡ n → n ≡ pages_for 4 (entries_in lf) → AreNeeded lf told (replicate n true) pages
    → Lengthens count pages changed mid changed' → ClearsEntries (entries_in lf) to mid new → AreEntries lf to told new
grown_entries lf told n count to pages mid new changed changed' long all are l clears = record {
  old = λ values stands k less.
      let there : k / 252 < n = omega (arith, less, all) in
      let on : get_or (replicate n true) (k / 252) false ≡ true = get_or-replicate n (k / 252) true false there in
      clears.before k less ∙ same_entry k mid stands.numbers (page_old count pages mid changed changed' l (k / 252) (omega (arith, there, long)) ∙ are values stands (k / 252) on);
  new = λ k a b. clears.within k a b;
}

pub grown_kept : (lf : Lf) (told : ℕ → Option Pages) (n count : ℕ) (pages mid : Pages) (changed changed' : List Bool) → length pages ≡ n → n ≡ pages_for 4 (entries_in lf) → length changed ≡ n → AreNeeded lf told (replicate n true) pages
    → Lengthens count pages changed mid changed' → KeepsEntries lf told mid changed'
grown_kept lf told n count pages mid changed changed' long all marks are l = λ values stands p within off. elim (cases_lt p n) [
  | inl less ↦ (
    omega (arith, less, all, stands.numbers_long),
    page_old count pages mid changed changed' l p (omega (arith, less, long)) ∙ are values stands p (get_or-replicate n p true false less),
  )
  | inr past ↦ (
      let place : length changed + (p - n) ≡ p = omega (arith, past, marks) in
      let on : get_or changed' p true ≡ true = ap (λ (bs : List Bool). get_or bs p true) l.changed_are ∙ ap (λ (q : ℕ). get_or (changed ++ replicate l.more true) q true) (sym place) ∙ get_or-append-add changed (replicate l.more true) (p - n) true ∙ all_true l.more (p - n) in
      absurd (true≢false (sym on ∙ off)))
]
