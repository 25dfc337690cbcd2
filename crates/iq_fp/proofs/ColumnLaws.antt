-- Laws of columns.
use Rattle.std.proofs.Common.{◌≡◌, ◌<◌, ◌≤◌, ℕ, zero, suc, ◌+◌, ◌*◌, inl, inr, Bool, List, [], ◌∷◌, map, Option, Some, length, slice_index_or, refl, sym, ap, ◌∙◌, subst, arith}
use Rattle.std.proofs.Math.Nat.{mul-le-mul_left}
use Rattle.std.proofs.lemmas.Nat.{le-div}
use Rattle.std.proofs.lemmas.Bool.{cases_lt}
use Rattle.std.proofs.lemmas.Bool.Decides.{nat_tests}
use Rattle.std.proofs.lemmas.Grind.{rows}
use Rattle.std.proofs.lemmas.List.{length-map}
use Rattle.byteorder.specs.Endian.{little_bytes}
use Rattle.iq_base.specs.declared.schemas.Column.{Column}
use Rattle.iq_base.specs.declared.sizes.TheConstants.{MOST_PAGES}
use Rattle.iq_base.specs.declared.values.Kind.{Kind}
use Rattle.iq_base.specs.declared.values.Kind.TheVariants as kinds
use Rattle.iq_base.specs.declared.values.Value.{Value}
use Rattle.iq_base.specs.Cells.{width, cell}
use Rattle.iq_base.specs.Limits.{text_length, longest, limit_for, rows_within}
use Rattle.iq_pages.specs.Pages.{Pages}
use Rattle.iq_pieces.specs.Counts.{per_page, pages_for}
use Rattle.iq_pieces.specs.Objects.{Holds, HoldsObject}
use Rattle.iq_pieces.proofs.Counting.{ends_behind}
use Rattle.iq_numbering.proofs.Numbering.{numbered_none}
use Rattle.iq_fp.specs.declared.fp.Fp.{Fp}
use Rattle.iq_fp.specs.Forms.{code_width}
use Rattle.iq_fp.specs.Stands.{Stands, HaveCells}
use Rattle.iq_fp.specs.Laws.{DependsOnPages, MovesWithPages, HasPages, BeginsEmpty, RoomWithin, NoneLonger}

-- a column that is alike stands for the same
pub moves : (fp : Fp) → MovesWithPages fp
moves fp = λ other before after values alike same s.
    let wide : code_width other.distinct ≡ code_width fp.distinct = ap code_width alike.distinct in
    record {
      known = s.known;
      codes = s.codes;
      slots = s.slots ∙ sym alike.slots;
      distinct = s.distinct ∙ sym alike.distinct;
      few = rw alike.distinct s.few;
      numbered = s.numbered;
      of_kind = subst (λ (k : Kind). HaveCells k s.known) (sym alike.kind) s.of_kind;
      codes_held = rw (same.codes, alike.distinct) s.codes_held;
      values_held = rw (same.values, alike.kind) s.values_held;
    }

pub depends : (fp : Fp) → DependsOnPages fp
depends fp = λ before after values same s. moves fp fp before after values (record { kind = refl; slots = refl; distinct = refl }) same s

-- pages that hold so many pieces are as many as these need
pages_are : (w n : ℕ) (pages : Pages) (pieces : List (List ℕ)) → 0 < per_page w → length pieces ≡ n → Holds w pages pieces → length pages ≡ pages_for w n
pages_are w n pages pieces some long h =
    let per = per_page w in
    let end = pages_for w n in
    let behind : n ≤ per * end = ends_behind per n end some refl in
    let before : per * end < n + per = grind (arith, rows) in
    elim (cases_lt (length pages) end) [
      | inl less ↦ (let up : per * (length pages + 1) ≤ per * end = mul-le-mul_left per (omega arith) in absurd (omega (arith, h.enough, long)))
      | inr there ↦ elim (cases_lt end (length pages)) [
        | inl more ↦ (let up : per * (end + 1) ≤ per * length pages = mul-le-mul_left per (omega arith) in absurd (omega (arith, h.no_more, long)))
        | inr same ↦ omega arith
      ]
    ]

-- a page has room for a code, and for a cell of each kind
some_code : (distinct : ℕ) → 0 < per_page (code_width distinct)
some_code distinct = grind (arith, nat_tests)

some_cell : (kind : Kind) → 2 ≤ width kind → width kind ≤ 257 → 0 < per_page (width kind)
some_cell kind low high = le-div 1 1008 (width kind) (omega arith) (omega arith)

-- a column that stands for values has as many pages as it needs
pub counted : (fp : Fp) (told : ℕ → Option Pages) (values : List Value) → 2 ≤ width fp.kind → width fp.kind ≤ 257 → Stands fp told values → HasPages fp told
counted fp told values low high s =
    let w = code_width fp.distinct in
    record {
      codes = λ pages is. (
          let same : s.codes_held.pages ≡ pages = cc (s.codes_held.told_is, is) in
          ap length (sym same) ∙ pages_are w fp.slots s.codes_held.pages (map (little_bytes w) s.codes) (some_code fp.distinct) (length-map s.codes (little_bytes w) ∙ s.numbered.long ∙ s.slots) s.codes_held.holds);
      values = λ pages is. (
          let same : s.values_held.pages ≡ pages = cc (s.values_held.told_is, is) in
          ap length (sym same) ∙ pages_are (width fp.kind) fp.distinct s.values_held.pages (map (cell fp.kind) s.known) (some_cell fp.kind low high) (length-map s.known (cell fp.kind) ∙ s.distinct) s.values_held.holds);
    }

-- no pages hold no pieces
holds_none : (told : Option Pages) (w : ℕ) → 0 < per_page w → told ≡ Some [] → HoldsObject told w []
holds_none told w some is = record {
  pages = [];
  told_is = is;
  holds = record { enough = omega arith; no_more = omega arith; held = λ p i small less. absurd (omega arith) };
}

-- a column without rows
pub begins : (fp : Fp) → 2 ≤ width fp.kind → width fp.kind ≤ 257 → fp.slots ≡ 0 → fp.distinct ≡ 0 → BeginsEmpty fp
begins fp low high slots distinct = λ told codes values. record {
  known = [];
  codes = [];
  slots = sym slots;
  distinct = sym distinct;
  few = omega arith;
  numbered = numbered_none [] (λ i j less within. absurd (omega arith));
  of_kind = λ i h. absurd (omega arith);
  codes_held = holds_none (told fp.codes) (code_width fp.distinct) (some_code fp.distinct) codes;
  values_held = holds_none (told fp.values) (width fp.kind) (some_cell fp.kind low high) values;
}

-- no column has longer texts than the longest
longer_at : (column : Column) (columns : List Column) → NoneLonger columns → (c : ℕ) (past : Column) → c < length (column ∷ columns) → text_length (slice_index_or (column ∷ columns) c past).kind ≤ longest (column ∷ columns)
longer_at column columns rest zero past h = omega arith
longer_at column columns rest (suc c) past h = let below = rest c past (omega arith) in omega arith

pub none_longer : (columns : List Column) → NoneLonger columns
none_longer [] = λ c past h. absurd (omega arith)
none_longer (column ∷ columns) = longer_at column columns (none_longer columns)

-- pages of cells of texts up to a length hold as many rows as go with it
limit_fits : (most q : ℕ) → (most ≤ 105 → 9 ≤ q) → (most ≤ 136 → 7 ≤ q) → (most ≤ 194 → 5 ≤ q) → 3 ≤ q → limit_for most ≤ q * 63504
limit_fits most q nine seven five three = grind (arith, nat_tests)

text_fits : (n most : ℕ) → n ≤ most → n ≤ 255 → limit_for most ≤ per_page (n + 2) * 63504
text_fits n most less short = limit_fits most (per_page (n + 2))
    (λ h. le-div 9 1008 (n + 2) (omega arith) (omega arith))
    (λ h. le-div 7 1008 (n + 2) (omega arith) (omega arith))
    (λ h. le-div 5 1008 (n + 2) (omega arith) (omega arith))
    (le-div 3 1008 (n + 2) (omega arith) (omega arith))

-- rows within the limit
most_rows : (most : ℕ) (low_fast : Bool) → rows_within most low_fast ≤ 2097152
most_rows most low_fast = grind (arith, nat_tests)

rows_fit : (most q : ℕ) (low_fast : Bool) → (most ≤ 0 → 34 ≤ q) → limit_for most ≤ q * 63504 → rows_within most low_fast ≤ q * 63504
rows_fit most q low_fast few some = grind (arith, nat_tests)

kind_rows : (kind : Kind) (most : ℕ) (low_fast : Bool) → text_length kind ≤ most → width kind ≤ 257 → rows_within most low_fast ≤ per_page (width kind) * MOST_PAGES
kind_rows kinds.Int most low_fast less high = omega (arith, most_rows most low_fast)
kind_rows kinds.Big most low_fast less high = omega (arith, most_rows most low_fast)
kind_rows (kinds.Varchar n) most low_fast less high = rows_fit most (per_page (n + 2)) low_fast (λ h. le-div 34 1008 (n + 2) (omega arith) (omega arith)) (text_fits n most less (omega arith))

-- so they find room
pub room : (fp : Fp) → width fp.kind ≤ 257 → RoomWithin fp
room fp high = λ most more low_fast s. record {
  apart = s.apart;
  fewer = s.fewer;
  codes = omega (arith, s.rows, most_rows most low_fast);
  values = omega (arith, s.rows, kind_rows fp.kind most low_fast s.text high);
}
