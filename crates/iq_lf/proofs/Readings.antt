-- What was read of the objects of an index is what they stand for, and why they aren't read.
use Rattle.std.proofs.Common.{◌≡◌, ◌<◌, ◌≤◌, ℕ, ◌+◌, ◌*◌, inl, inr, List, [], map, Option, length, refl, sym, ap, subst, ◌∙◌, arith}
use Rattle.std.proofs.lemmas.Bool.{cases_lt}
use Rattle.std.proofs.lemmas.Nat.{mul-le}
use Rattle.std.proofs.lemmas.List.{ext_get_or, get_or-map, length-map}
use Rattle.iq_base.specs.declared.values.Kind.{Kind}
use Rattle.iq_base.specs.declared.values.Value.{Value}
use Rattle.iq_base.specs.declared.values.Value.TheVariants.{Null}
use Rattle.iq_base.specs.Cells.{width, cell}
use Rattle.iq_base.proofs.CellLaws.{cell_tells}
use Rattle.iq_pages.specs.declared.page_faults.PageFault.{PageFault}
use Rattle.iq_pages.specs.declared.page_faults.PageFault.TheVariants.{Failed, BadPage, NoMemory}
use Rattle.iq_pages.specs.Pages.{Pages, Seen, KeepsObjects, NamesPage}
use Rattle.iq_pages.proofs.PageLaws.{rose_since}
use Rattle.iq_cells.specs.Packed.{value_at}
use Rattle.iq_cells.proofs.CellValues.{cell_is}
use Rattle.iq_pieces.specs.Counts.{per_page, pages_for}
use Rattle.iq_pieces.specs.Objects.{piece_at, AreFirst}
use Rattle.iq_pieces.specs.Faults.{CellsOf, IsPiece, HasPageCause, HasSoundPage, HasPiecesCause}
use Rattle.iq_pieces.proofs.Counting.{begins_before}
use Rattle.iq_fp.specs.Stands.{HaveCells}
use Rattle.iq_fp.proofs.Readings.{first_are_all}
use Rattle.iq_lf.specs.declared.lf.Lf.{Lf}
use Rattle.iq_lf.specs.Stands.{Stands, entries_in}
use Rattle.iq_lf.specs.Calls.{HasLfCause}

-- lists of values whose cells are the same are the same
same_cells : (kind : Kind) (xs ys : List Value) → HaveCells kind xs → HaveCells kind ys → map (cell kind) xs ≡ map (cell kind) ys → xs ≡ ys
same_cells kind xs ys p q e =
    let long : length xs ≡ length ys = sym (length-map xs (cell kind)) ∙ ap length e ∙ length-map ys (cell kind) in
    ext_get_or Null xs ys long (λ i h.
    let less : i < length ys = omega arith in
    cell_tells kind (value_at i xs) (value_at i ys) (p i h).of_kind (q i less).of_kind
    (sym (get_or-map (cell kind) xs i Null [] h) ∙ ap (λ (ps : List (List ℕ)). piece_at i ps) e ∙ get_or-map (cell kind) ys i Null [] less))

-- the values that were read are the distinct ones
pub known_are : (lf : Lf) (told : ℕ → Option Pages) (values got : List Value) (stands : Stands lf told values) → HaveCells lf.kind got → length got ≡ lf.distinct → AreFirst (told lf.first) (width lf.kind) (map (cell lf.kind) got) → got ≡ stands.known
known_are lf told values got stands cells long first =
    same_cells lf.kind got stands.known cells stands.of_kind
    (first_are_all (told lf.first) (width lf.kind) (map (cell lf.kind) got) (map (cell lf.kind) stands.known) first stands.values_held
    (length-map got (cell lf.kind) ∙ long ∙ sym stands.distinct ∙ sym (length-map stands.known (cell lf.kind))))

-- each page that the distinct values need is there, with cells of them
sound : (lf : Lf) (told : ℕ → Option Pages) (values : List Value) (stands : Stands lf told values) (page : ℕ) → 0 < per_page (width lf.kind) → page < pages_for (width lf.kind) lf.distinct → HasSoundPage (CellsOf lf.kind) lf.distinct (told lf.first) page
sound lf told values stands page some within =
    let h = stands.values_held in
    let per = per_page (width lf.kind) in
    let pieces = map (cell lf.kind) stands.known in
    let many : length pieces ≡ lf.distinct = length-map stands.known (cell lf.kind) ∙ stands.distinct in
    let begins : per * page < lf.distinct = begins_before per lf.distinct page (pages_for (width lf.kind) lf.distinct) some refl within in
    let there : page < length h.pages = elim (cases_lt page (length h.pages)) [
      | inl less ↦ less
      | inr past ↦ (let most = mul-le per (length h.pages) per page (omega arith) past in absurd (omega (arith, most, begins, many, h.holds.enough)))
    ] in (
      h.pages,
      h.told_is,
      there,
      λ i less.
          let small : i < per = omega (arith, less) in
          let inside : per * page + i < length pieces = omega (arith, less, many, begins) in
          let n = per * page + i in
          let known : n < length stands.known = omega (arith, inside, length-map stands.known (cell lf.kind)) in
          let is : piece_at n pieces ≡ cell lf.kind (value_at n stands.known) = get_or-map (cell lf.kind) stands.known n Null [] known in
          subst (λ (bytes : List ℕ). IsPiece (CellsOf lf.kind) bytes) (sym (h.holds.held page i small inside ∙ is))
          (cell_is lf.kind (value_at n stands.known) (cell lf.kind (value_at n stands.known)) (stands.of_kind n known)),
    )

-- why the distinct values aren't read
pub values_cause : (lf : Lf) (a b : Seen) (fault : PageFault) → 0 < per_page (width lf.kind) → HasPiecesCause (CellsOf lf.kind) lf.distinct lf.first a b fault → HasLfCause lf a b fault
values_cause lf a b (Failed x y) some h = h
values_cause lf a b (BadPage named page) some h = (inl h.0, λ values stands. h.2 (sound lf a.told values stands page some h.1))
values_cause lf a b NoMemory some h = tt

-- why a page of entries isn't read
pub entries_cause : (lf : Lf) (p : ℕ) (a b c : Seen) (fault : PageFault) → KeepsObjects a b → a.faults ≤ b.faults → p < pages_for 4 (entries_in lf) → NamesPage p fault → HasPageCause lf.second b c fault → HasLfCause lf a c fault
entries_cause lf p a b c (Failed x y) kept later need names h = rose_since _ _ _ _ _ later h
entries_cause lf p a b c (BadPage named n) kept later need names h =
    (inr (inl h.0), λ values stands. h.1 (stands.numbers, kept.told lf.second ∙ stands.numbers_told, omega (arith, names, need, stands.numbers_long)))
entries_cause lf p a b c NoMemory kept later need names h = tt

-- why a bitmap isn't read
pub bitmap_cause : (lf : Lf) (p : ℕ) (a b c : Seen) (fault : PageFault) → KeepsObjects a b → a.faults ≤ b.faults → ((values : List Value) (stands : Stands lf a.told values) → p < length stands.bitmaps_held.pages) → NamesPage p fault → HasPageCause lf.third b c fault → HasLfCause lf a c fault
bitmap_cause lf p a b c (Failed x y) kept later there names h = rose_since _ _ _ _ _ later h
bitmap_cause lf p a b c (BadPage named n) kept later there names h =
    (inr (inr h.0), λ values stands. h.1 (stands.bitmaps_held.pages, kept.told lf.third ∙ stands.bitmaps_held.told_is, (let t = there values stands in omega (arith, names, t))))
bitmap_cause lf p a b c NoMemory kept later there names h = tt

-- what an index stands for depends on the pages of its objects alone
abbrev pub stands_still : (lf : Lf) (t u : ℕ → Option Pages) (values : List Value) → u lf.first ≡ t lf.first → u lf.second ≡ t lf.second → u lf.third ≡ t lf.third → Stands lf t values → Stands lf u values
stands_still lf t u values e f g s = record {
  known = s.known;
  codes = s.codes;
  numbers = s.numbers;
  slots = s.slots;
  rows = s.rows;
  distinct = s.distinct;
  few = s.few;
  numbered = s.numbered;
  of_kind = s.of_kind;
  values_held = rw e s.values_held;
  numbers_told = f ∙ s.numbers_told;
  numbers_long = s.numbers_long;
  bitmaps_held = rw g s.bitmaps_held;
}

-- a cause stands where more was read before
pub cause_since : (lf : Lf) (a b c : Seen) (fault : PageFault) → KeepsObjects a b → a.faults ≤ b.faults → HasLfCause lf b c fault → HasLfCause lf a c fault
cause_since lf a b c (Failed x y) kept later h = rose_since _ _ _ _ _ later h
cause_since lf a b c (BadPage named n) kept later h = (h.0, λ values stands. h.1 values (stands_still lf a.told b.told values (kept.told lf.first) (kept.told lf.second) (kept.told lf.third) stands))
cause_since lf a b c NoMemory kept later h = tt
