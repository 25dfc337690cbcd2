-- Within its limit a table's rows find room.
use Rattle.std.proofs.Common.{◌≡◌, ◌<◌, ◌≤◌, ℕ, zero, suc, ◌+◌, ◌*◌, ◌/◌, Bool, true, false, List, [], ◌∷◌, length, inl, inr, arith}
use Rattle.std.proofs.Math.Nat.{le-div_iff_mul-le, mul-le-mul_right}
use Rattle.std.proofs.lemmas.Bool.{cases_lt}
use Rattle.std.proofs.lemmas.Bool.Decides.{nat_tests}
use Rattle.iq_base.specs.declared.values.Kind.{Kind}
use Rattle.iq_base.specs.declared.values.Kind.TheVariants.{Int, Big, Varchar}
use Rattle.iq_base.specs.declared.descriptors.ColumnPart.{ColumnPart}
use Rattle.iq_base.specs.Limits.{text_length, limit_for, longest, rows_within, row_limit}
use Rattle.iq_table.specs.Places.{part_at}
use Rattle.iq_table.specs.Limits.{as_columns, FindsRoom}

-- no limit is above 2,097,152, and none of a text above 262,144
pub most_rows : (l : ℕ) (lf : Bool) → rows_within l lf ≤ 2097152
most_rows l true = grind (arith, nat_tests)
most_rows l false = grind (arith, nat_tests)

some_text : (l : ℕ) (lf : Bool) → 0 < l → rows_within l lf ≡ limit_for l
some_text zero lf h = absurd (omega arith)
some_text (suc l) true h = grind (arith, nat_tests)
some_text (suc l) false h = grind (arith, nat_tests)

-- so many pages of so many cells
pages_hold : (n per least : ℕ) → n ≤ least * 63504 → least ≤ per → n ≤ per * 63504
pages_hold n per least h l = let up : least * 63504 ≤ per * 63504 = mul-le-mul_right 63504 l in omega arith

cells_of : (m least : ℕ) → least * (m + 2) ≤ 1008 → least ≤ 1008 / (m + 2)
cells_of m least h = (le-div_iff_mul-le (omega arith)).1 h

-- rows of texts
text_room : (m l n : ℕ) → 0 < m → m ≤ l → l ≤ 255 → n ≤ limit_for l → n ≤ 1008 / (m + 2) * 63504
text_room m l n some within short few =
    elim (cases_lt l 106) [
      | inl a ↦ (let limit : limit_for l ≡ 262144 = grind (arith, nat_tests) in pages_hold n (1008 / (m + 2)) 9 (omega arith) (cells_of m 9 (omega arith)))
      | inr a ↦ elim (cases_lt l 137) [
        | inl b ↦ (let limit : limit_for l ≡ 254016 = grind (arith, nat_tests) in pages_hold n (1008 / (m + 2)) 7 (omega arith) (cells_of m 7 (omega arith)))
        | inr b ↦ elim (cases_lt l 195) [
          | inl c ↦ (let limit : limit_for l ≡ 190512 = grind (arith, nat_tests) in pages_hold n (1008 / (m + 2)) 5 (omega arith) (cells_of m 5 (omega arith)))
          | inr c ↦ (let limit : limit_for l ≡ 127008 = grind (arith, nat_tests) in pages_hold n (1008 / (m + 2)) 3 (omega arith) (cells_of m 3 (omega arith)))
        ]
      ]
    ]

-- rows of a kind
kind_room : (kind : Kind) (l n : ℕ) (lf : Bool) → text_length kind ≤ l → l ≤ 255 → n ≤ rows_within l lf → FindsRoom kind n
kind_room Int l n lf within short few = let most = most_rows l lf in record { codes = omega (arith, most); values = omega (arith, most) }
kind_room Big l n lf within short few = let most = most_rows l lf in record { codes = omega (arith, most); values = omega (arith, most) }
kind_room (Varchar zero) l n lf within short few = let most = most_rows l lf in record { codes = omega (arith, most); values = omega (arith, most) }
kind_room (Varchar (suc m)) l n lf within short few =
    let most = most_rows l lf in
    let text : n ≤ limit_for l = rw (some_text l lf (omega arith)) at few in
    record { codes = omega (arith, most); values = text_room (suc m) l n (omega arith) within short text }

-- no column's text is longer than the longest
below_longest : (parts : List ColumnPart) (c : ℕ) → c < length parts → text_length (part_at c parts).kind ≤ longest (as_columns parts)
below_longest [] c h = absurd (omega (arith, h))
below_longest (part ∷ parts) zero h = omega arith
below_longest (part ∷ parts) (suc c) h = let more = below_longest parts c (omega (arith, h)) in omega (arith, more)

pub finds_room : (parts : List ColumnPart) (lf : Bool) (rows c : ℕ) → longest (as_columns parts) ≤ 255 → rows ≤ row_limit (as_columns parts) lf → c < length parts → FindsRoom (part_at c parts).kind rows
finds_room parts lf rows c short few h = kind_room (part_at c parts).kind (longest (as_columns parts)) rows lf (below_longest parts c h) short few
