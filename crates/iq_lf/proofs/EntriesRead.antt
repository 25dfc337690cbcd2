-- Pages of entries that are read.
use Rattle.std.proofs.Common.{◌≡◌, ◌<◌, ◌+◌, ℕ, Bool, true, false, inl, inr, List, [], ◌∷◌, ◌++◌, Option, length, get_or, sym, ap, ◌∙◌, arith, true≢false}
use Rattle.std.proofs.lemmas.Bool.{cases_lt}
use Rattle.std.proofs.lemmas.List.{get_or_append_left, get_or_at, get_or_past}
use Rattle.std.proofs.lemmas.Option.{get_or_from_slice_get}
use Rattle.iq_base.specs.declared.values.Value.{Value}
use Rattle.iq_pages.specs.Pages.{Pages, IsPageOf}
use Rattle.iq_pieces.specs.Objects.{page_at}
use Rattle.iq_lf.specs.declared.lf.Lf.{Lf}
use Rattle.iq_lf.specs.Stands.{Stands}
use Rattle.iq_lf.specs.Steps.{AreNeeded}

-- those of the first n that are needed
abbrev pub AreNeededBelow : ℕ → Lf → (ℕ → Option Pages) → List Bool → Pages → Type 0
AreNeededBelow n lf told needed pages =
    (values : List Value) (stands : Stands lf told values) (p : ℕ) → p < n → get_or needed p false ≡ true → page_at p pages ≡ page_at p stands.numbers

pub needed_next : (n : ℕ) (lf : Lf) (told : ℕ → Option Pages) (needed : List Bool) (pages : Pages) (page : List ℕ) → length pages ≡ n → (get_or needed n false ≡ true → IsPageOf (told lf.second) n page)
    → AreNeededBelow n lf told needed pages → AreNeededBelow (n + 1) lf told needed (pages ++ page ∷ [])
needed_next n lf told needed pages page long of a = λ values stands p less on. elim (cases_lt p n) [
  | inl before ↦ get_or_append_left pages (page ∷ []) [] p (omega (arith, before, long)) ∙ a values stands p before on
  | inr last ↦ (
      let same : p ≡ n = omega (arith, last, less) in
      let is : page_at n stands.numbers ≡ page = get_or_from_slice_get stands.numbers n page [] (rw stands.numbers_told at (of (ap (λ (k : ℕ). get_or needed k false) (sym same) ∙ on))) in
      get_or_at pages page [] [] p (long ∙ sym same) ∙ sym is ∙ ap (λ (k : ℕ). page_at k stands.numbers) (sym same))
]

pub needed_all : (n : ℕ) (lf : Lf) (told : ℕ → Option Pages) (needed : List Bool) (pages : Pages) → length needed ≡ n → AreNeededBelow n lf told needed pages → AreNeeded lf told needed pages
needed_all n lf told needed pages long a = λ values stands p on. elim (cases_lt p n) [
  | inl less ↦ a values stands p less on
  | inr past ↦ absurd (true≢false (sym on ∙ get_or_past needed p false (omega (arith, past, long))))
]
