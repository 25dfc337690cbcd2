-- An append that was written: whatever values the index stood for, it stands for more.
use Rattle.std.proofs.Common.{◌≡◌, ◌<◌, ◌≤◌, ◌+◌, ◌*◌, ◌/◌, ◌%◌, ℕ, Bool, false, inl, inr, nat_eq, List, ◌∷◌, ◌++◌, map, Option, Some, length, get_or, ◌∙◌, subst, arith}
use Rattle.std.proofs.lemmas.Bool.{cases_lt}
use Rattle.std.proofs.lemmas.Bool.Decides.{nat_tests}
use Rattle.std.proofs.lemmas.List.{length-append, length-map, map-append, get_or_past}
use Rattle.iq_base.specs.declared.values.Value.{Value}
use Rattle.iq_base.specs.declared.values.Value.TheVariants.{Null}
use Rattle.iq_base.specs.Cells.{width, cell}
use Rattle.std.proofs.lemmas.Nat.{mul-le}
use Rattle.iq_pages.specs.declared.page_faults.PageFault.{PageFault}
use Rattle.iq_pages.specs.declared.page_faults.PageFault.TheVariants.{Failed, BadPage, NoMemory}
use Rattle.iq_pages.specs.Pages.{Pages, Seen}
use Rattle.iq_pages.proofs.PageLaws.{rose_since}
use Rattle.iq_numbering.specs.Numbers.{IsNumbered}
use Rattle.iq_pieces.specs.Counts.{pages_for}
use Rattle.iq_pieces.specs.Objects.{HoldsObject, BeginsAs, AppendsBehind}
use Rattle.iq_fp.proofs.Growth.{cells_on}
use Rattle.iq_lf.specs.declared.lf.Lf.{Lf}
use Rattle.iq_lf.specs.Entries.{HasNone, HoldsBitmaps}
use Rattle.iq_lf.specs.Stands.{Stands, HasRoom, due, entries_in}
use Rattle.iq_lf.specs.Calls.{AreNumbered, StandsForMore, HasLfCause}
use Rattle.iq_lf.specs.Steps.{AddsCodes, AreEntries, IsGrownBy, KeepsUnchanged, SavesTable, HasRowsCause, HasSaveCause}
use Rattle.iq_lf.proofs.Readings.{stands_still}
use Rattle.iq_lf.proofs.BitmapLaws.{holds_more}
use Rattle.iq_lf.proofs.RowLaws.{due_at, length-due}
use Rattle.iq_lf.proofs.NumberLaws.{numbered_more}

differ : (a b : ℕ) → b < a → nat_eq a b ≡ false
differ a b h = grind (arith, nat_tests)

-- nothing is due to the entries of values that aren't there
none_due : (lf : Lf) (told : ℕ → Option Pages) (values : List Value) (stands : Stands lf told values) (k : ℕ) → entries_in lf ≤ k → HasNone (due stands.codes k)
none_due lf told values stands k past = λ i h. elim (cases_lt i 8064) [
  | inl less ↦ (
      let r = k % 33 * 8064 + i in
      let most : get_or stands.codes r 0 < k / 33 + 1 = elim (cases_lt r (length stands.codes)) [
        | inl within ↦ (let a = stands.numbered.each r (omega (arith, within, stands.numbered.long)) in omega (arith, a.within, stands.distinct, past))
        | inr out ↦ (let e = get_or_past stands.codes r 0 out in omega (arith, e))
      ] in
      due_at stands.codes k i less ∙ differ (k / 33 + 1) (get_or stands.codes r 0) most)
  | inr out ↦ get_or_past (due stands.codes k) i false (omega (arith, out, length-due stands.codes k))
]

-- the entries with those of more values hold the same bitmaps
pub holds_grown : (lf : Lf) (told : ℕ → Option Pages) (count : ℕ) (numbers : Pages) → entries_in lf ≤ count → AreEntries lf count told numbers → (values : List Value) (stands : Stands lf told values) → HoldsBitmaps (told lf.third) count numbers (due stands.codes)
holds_grown lf told count numbers more are values stands = holds_more stands.bitmaps_held count numbers more (are.old values stands) (λ k a b. (are.new k a b, none_due lf told values stands k a))

-- what each step of an append did, where t is told before, u after the bitmaps, v after the entries and w after the distinct values
pub record AreWritten (old new : Lf) (t u v w : ℕ → Option Pages) (fresh : List Value) (codes last : List ℕ) (numbers0 numbers : Pages) (changed : List Bool) : Type 0 where
  pub entries : AreEntries old (entries_in new) t numbers0
  pub bitmaps : AddsCodes (entries_in new) old.slots codes (t old.third) (u old.third) numbers0 numbers
  pub kept : (values : List Value) (stands : Stands old t values) → KeepsUnchanged stands.numbers numbers changed
  pub long : length numbers ≡ pages_for 4 (entries_in new)
  pub saved : SavesTable numbers changed (u old.second) (v old.second)
  pub behind : AppendsBehind (width old.kind) old.distinct last (map (cell old.kind) fresh) (v old.first) (w old.first)
  pub first_u : v old.first ≡ t old.first
  pub second_u : u old.second ≡ t old.second
  pub second_w : w old.second ≡ v old.second
  pub third_w : w old.third ≡ u old.third

pub written_stands : (old new : Lf) (t u v w : ℕ → Option Pages) (cells fresh : List Value) (codes last : List ℕ) (numbers0 numbers : Pages) (changed : List Bool)
    → IsGrownBy old new (length fresh) (length codes) → HasRoom old (length codes) → new.distinct ≤ 1000 → AreNumbered old t cells fresh codes last
    → AreWritten old new t u v w fresh codes last numbers0 numbers changed → StandsForMore old new cells t w
written_stands old new t u v w cells fresh codes last numbers0 numbers changed grown room few n a = λ values stands.
    let same : n.known ≡ stands.known = n.known_are values stands in
    let numbered : IsNumbered (Null ∷ stands.known) cells fresh codes = subst (λ (vs : List Value). IsNumbered (Null ∷ vs) cells fresh codes) same n.numbered in
    let begins : BeginsAs (width old.kind) old.distinct last (map (cell old.kind) stands.known) = subst (λ (vs : List Value). BeginsAs (width old.kind) old.distinct last (map (cell old.kind) vs)) same n.begins in
    let wider : entries_in old ≤ entries_in new = omega (arith, grown.distinct) in
    let held : HoldsBitmaps (u old.third) (entries_in new) numbers (due (stands.codes ++ codes)) = a.bitmaps stands.codes (stands.numbered.long ∙ stands.slots) (holds_grown old t (entries_in new) numbers0 wider a.entries values stands) in
    let many : length (map (cell old.kind) stands.known) ≡ old.distinct = length-map stands.known (cell old.kind) ∙ stands.distinct in
    let before : HoldsObject (v old.first) (width old.kind) (map (cell old.kind) stands.known) = rw a.first_u stands.values_held in
    let after : HoldsObject (w old.first) (width old.kind) (map (cell old.kind) (stands.known ++ fresh)) = rw (map-append (cell old.kind) stands.known fresh) (a.behind (map (cell old.kind) stands.known) many begins before) in
    let fewer : length stands.numbers ≤ length numbers = omega (arith, stands.numbers_long, a.long, wider) in
    let saved : v old.second ≡ Some numbers = a.saved stands.numbers (a.second_u ∙ stands.numbers_told) fewer (a.kept values stands) in
    record {
      known = stands.known ++ fresh;
      codes = stands.codes ++ codes;
      numbers = numbers;
      slots = omega (arith, length-append values cells, stands.slots, grown.slots, n.numbered.long);
      rows = omega (arith, grown.slots, room.rows);
      distinct = omega (arith, length-append stands.known fresh, stands.distinct, grown.distinct);
      few = few;
      numbered = numbered_more values cells stands.known fresh stands.codes codes stands.numbered numbered;
      of_kind = rw grown.kind (cells_on old.kind stands.known fresh stands.of_kind n.of_kind);
      values_held = rw (grown.first, grown.kind) after;
      numbers_told = rw grown.second (a.second_w ∙ saved);
      numbers_long = a.long;
      bitmaps_held = rw (grown.third, a.third_w) held;
    }

-- why rows aren't put behind those of an index
pub rows_cause : (old : Lf) (count : ℕ) (numbers0 : Pages) (a b c : Seen) (fault : PageFault) → b.told old.third ≡ a.told old.third → a.faults ≤ b.faults → entries_in old ≤ count → AreEntries old count a.told numbers0
    → HasRowsCause old.third count old.slots numbers0 b c fault → HasLfCause old a c fault
rows_cause old count numbers0 a b c (Failed x y) same later more are h = rose_since _ _ _ _ _ later h
rows_cause old count numbers0 a b c (BadPage named page) same later more are h =
    (inr (inr h.0), λ values stands. h.1 stands.codes (stands.numbered.long ∙ stands.slots) (rw same (holds_grown old a.told count numbers0 more are values stands)))
rows_cause old count numbers0 a b c NoMemory same later more are h = tt

-- why its entries aren't written
pub save_cause : (old : Lf) (numbers : Pages) (changed : List Bool) (a b c : Seen) (fault : PageFault) → b.told old.second ≡ a.told old.second → a.faults ≤ b.faults → pages_for 4 (entries_in old) ≤ length numbers
    → ((values : List Value) (stands : Stands old a.told values) → KeepsUnchanged stands.numbers numbers changed) → HasSaveCause old.second numbers changed b c fault → HasLfCause old a c fault
save_cause old numbers changed a b c (Failed x y) same later more kept h = rose_since _ _ _ _ _ later h
save_cause old numbers changed a b c (BadPage named page) same later more kept h =
    (inr (inl h.0), λ values stands. h.1 stands.numbers (same ∙ stands.numbers_told) (omega (arith, more, stands.numbers_long)) (kept values stands))
save_cause old numbers changed a b c NoMemory same later more kept h = tt

-- what was numbered before more was read
pub numbered_still : (lf : Lf) (t u : ℕ → Option Pages) (cells fresh : List Value) (codes page : List ℕ) → t lf.first ≡ u lf.first → t lf.second ≡ u lf.second → t lf.third ≡ u lf.third → AreNumbered lf t cells fresh codes page → AreNumbered lf u cells fresh codes page
numbered_still lf t u cells fresh codes page e1 e2 e3 n = record {
  known = n.known;
  long = n.long;
  known_are = λ values stands. n.known_are values (stands_still lf u t values e1 e2 e3 stands);
  of_kind = n.of_kind;
  numbered = n.numbered;
  begins = n.begins;
}

-- a thousand values find room in an object
pub room_for : (per distinct : ℕ) → 0 < per → distinct ≤ 1000 → distinct ≤ per * 63504
room_for per distinct some few = (let most = mul-le 1 63504 per 63504 some (omega arith) in omega (arith, most, few))
