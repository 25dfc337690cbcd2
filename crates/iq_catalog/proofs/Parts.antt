-- A column and an index read as they were written.
use Rattle.std.specs.Prelude.{◌≡◌, ℕ, suc, ◌*◌, ◌^◌, ◌<◌, ◌≤◌, Bool, true, false, ◌&&◌, not, List, [], ◌∷◌, ◌++◌, length, drop, slice_index, nat_eq, nat_le, nat_lt, flat_map, if◌then◌else◌, Option, Some, None}
use Rattle.std.proofs.Common.{refl, sym, ap, ◌∙◌, arith, append_assoc, length-append}
use Rattle.std.proofs.lemmas.Bool.{and_parts, leb-true, ltb-true, eqb-true}
use Rattle.std.proofs.lemmas.List.Concat.{flat_map-cons}
use Rattle.iq_base.specs.declared.schemas.IndexKind.{IndexKind}
use Rattle.iq_base.specs.declared.schemas.IndexKind.TheVariants.{Lf, Hg, Hng, Cmp}
use Rattle.iq_base.specs.declared.descriptors.ColumnPart.{ColumnPart}
use Rattle.iq_base.specs.declared.descriptors.IndexPart.{IndexPart}
use Rattle.iq_base.specs.Limits.{text_length}
use Rattle.iq_block_store.specs.Frames.{number_at, bytes_of}
use Rattle.iq_block_store.proofs.FrameLemmas.{length-bytes_of}
use Rattle.iq_catalog.specs.Texts.{name_text, ref_text, kind_code, null_code, index_code, second_code, column_text, index_text}
use Rattle.iq_catalog.specs.Storable.{is_name, is_ref, is_kind, is_column, is_second, is_index, are_columns, are_indexes, form_for, most_number, most_distinct}
use Rattle.iq_catalog.specs.Reading.{name_of, ref_of, second_of, column_of, index_of, columns_of, indexes_of}
use Rattle.iq_catalog.proofs.Names.{name_parts, name_back, length-name_text}
use Rattle.iq_catalog.proofs.Fields.{byte_behind, rest_behind, number_behind, ref_behind, length-ref_text, kind_back, null_back, index_kind_back}

-- what a column that may be stored has
record ColumnParts (c : ColumnPart) : Type 0 where
  name : is_name c.name ≡ true
  distinct : c.distinct < 2 ^ 32
  cells : is_ref c.cells ≡ true
  values : is_ref c.values ≡ true

column_parts : (c : ColumnPart) → is_column c ≡ true → ColumnParts c
column_parts c h =
    let five = and_parts (is_name c.name && is_kind c.kind && nat_eq c.form (form_for c.distinct) && nat_le c.distinct most_number && is_ref c.cells) (is_ref c.values) h in
    let four = and_parts (is_name c.name && is_kind c.kind && nat_eq c.form (form_for c.distinct) && nat_le c.distinct most_number) (is_ref c.cells) five.0 in
    let three = and_parts (is_name c.name && is_kind c.kind && nat_eq c.form (form_for c.distinct)) (nat_le c.distinct most_number) four.0 in
    let two = and_parts (is_name c.name && is_kind c.kind) (nat_eq c.form (form_for c.distinct)) three.0 in
    let one = and_parts (is_name c.name) (is_kind c.kind) two.0 in
    record { name = one.0; distinct = omega (arith, leb-true _ _ three.1); cells = four.1; values = five.1 }

pub length-column_text : (c : ColumnPart) → is_column c ≡ true → length (column_text c) ≡ 55
unfolding column_text
length-column_text c h =
    let parts = column_parts c h in
    omega (
      arith,
      length-append (name_text c.name) (kind_code c.kind ∷ text_length c.kind ∷ null_code c.null ∷ c.form ∷ (bytes_of c.distinct ++ (ref_text c.cells ++ ref_text c.values))),
      length-append (bytes_of c.distinct) (ref_text c.cells ++ ref_text c.values),
      length-append (ref_text c.cells) (ref_text c.values),
      length-name_text c.name (name_parts c.name parts.name).short,
      length-bytes_of c.distinct,
      length-ref_text c.cells,
      length-ref_text c.values,
    )

-- where the parts of some bytes meet
four_parts : (n k d a b r : List ℕ) → (n ++ (k ++ (d ++ (a ++ b)))) ++ r ≡ n ++ (k ++ (d ++ (a ++ (b ++ r))))
four_parts n k d a b r = simp append_assoc

second_seam : (n k y : List ℕ) → n ++ (k ++ y) ≡ (n ++ k) ++ y
second_seam n k y = sym (append_assoc n k y)

third_seam : (n k d y : List ℕ) → n ++ (k ++ (d ++ y)) ≡ ((n ++ k) ++ d) ++ y
third_seam n k d y = simp append_assoc

fourth_seam : (n k d a y : List ℕ) → n ++ (k ++ (d ++ (a ++ y))) ≡ (((n ++ k) ++ d) ++ a) ++ y
fourth_seam n k d a y = simp append_assoc

-- bytes say a column where each field is its own
says_column : (x : List ℕ) (c : ColumnPart) → name_of x ≡ c.name → slice_index x 31 ≡ kind_code c.kind → slice_index x 32 ≡ text_length c.kind
    → slice_index x 33 ≡ null_code c.null → slice_index x 34 ≡ c.form → number_at x 35 ≡ c.distinct → ref_of x 39 ≡ c.cells → ref_of x 47 ≡ c.values
    → column_of x ≡ c
unfolding column_of
says_column x c name code size null form distinct cells values =
    rw (name, code, size, null, form, distinct, cells, values, kind_back c.kind, null_back c.null) refl

-- a name, some bytes, a number and references, as columns and indexes have them
reads_column : (c : ColumnPart) (rest : List ℕ) (x : List ℕ) → is_column c ≡ true
    → x ≡ name_text c.name ++ ((kind_code c.kind ∷ text_length c.kind ∷ null_code c.null ∷ c.form ∷ []) ++ (bytes_of c.distinct ++ (ref_text c.cells ++ (ref_text c.values ++ rest))))
    → column_of x ≡ c
reads_column c rest x h is =
    let parts = column_parts c h in
    let n = name_text c.name in
    let k = kind_code c.kind ∷ text_length c.kind ∷ null_code c.null ∷ c.form ∷ [] in
    let d = bytes_of c.distinct in
    let a = ref_text c.cells in
    let b = ref_text c.values in
    let n_size : length n ≡ 31 = length-name_text c.name (name_parts c.name parts.name).short in
    let k_size : length (n ++ k) ≡ 35 = omega (arith, n_size, length-append n k) in
    let d_size : length ((n ++ k) ++ d) ≡ 39 = omega (arith, k_size, length-append (n ++ k) d, length-bytes_of c.distinct) in
    let a_size : length (((n ++ k) ++ d) ++ a) ≡ 47 = omega (arith, d_size, length-append ((n ++ k) ++ d) a, length-ref_text c.cells) in
    let bytes = k ++ (d ++ (a ++ (b ++ rest))) in
    says_column x c
    (ap name_of is ∙ name_back c.name bytes parts.name)
    (ap (λ (t : List ℕ). slice_index t 31) is ∙ byte_behind n bytes 31 0 n_size)
    (ap (λ (t : List ℕ). slice_index t 32) is ∙ byte_behind n bytes 31 1 n_size)
    (ap (λ (t : List ℕ). slice_index t 33) is ∙ byte_behind n bytes 31 2 n_size)
    (ap (λ (t : List ℕ). slice_index t 34) is ∙ byte_behind n bytes 31 3 n_size)
    (ap (λ (t : List ℕ). number_at t 35) (is ∙ second_seam n k (d ++ (a ++ (b ++ rest)))) ∙ number_behind (n ++ k) (a ++ (b ++ rest)) 35 c.distinct k_size parts.distinct)
    (ap (λ (t : List ℕ). ref_of t 39) (is ∙ third_seam n k d (a ++ (b ++ rest))) ∙ ref_behind ((n ++ k) ++ d) (b ++ rest) 39 c.cells d_size parts.cells)
    (ap (λ (t : List ℕ). ref_of t 47) (is ∙ fourth_seam n k d a (b ++ rest)) ∙ ref_behind (((n ++ k) ++ d) ++ a) rest 47 c.values a_size parts.values)

pub column_back : (c : ColumnPart) (rest : List ℕ) → is_column c ≡ true → column_of (column_text c ++ rest) ≡ c
unfolding column_text
column_back c rest h =
    reads_column c rest _ h
    (four_parts (name_text c.name) (kind_code c.kind ∷ text_length c.kind ∷ null_code c.null ∷ c.form ∷ []) (bytes_of c.distinct) (ref_text c.cells) (ref_text c.values) rest)

-- what an index that may be stored has
record IndexParts (count : ℕ) (i : IndexPart) : Type 0 where
  name : is_name i.spec.name ≡ true
  second : is_second count i.spec.column i.spec.kind i.spec.second ≡ true
  distinct : i.distinct < 2 ^ 32
  first : is_ref i.first ≡ true
  middle : is_ref i.second ≡ true
  third : is_ref i.third ≡ true

few_distinct : (kind : IndexKind) → most_distinct kind ≤ 1000
few_distinct Lf = omega arith
few_distinct Hg = omega arith
few_distinct Hng = omega arith
few_distinct Cmp = omega arith

index_parts : (count : ℕ) (i : IndexPart) → is_index count i ≡ true → IndexParts count i
index_parts count i h =
    let six = and_parts (is_name i.spec.name && nat_lt i.spec.column count && is_second count i.spec.column i.spec.kind i.spec.second && nat_le i.distinct (most_distinct i.spec.kind) && is_ref i.first && is_ref i.second) (is_ref i.third) h in
    let five = and_parts (is_name i.spec.name && nat_lt i.spec.column count && is_second count i.spec.column i.spec.kind i.spec.second && nat_le i.distinct (most_distinct i.spec.kind) && is_ref i.first) (is_ref i.second) six.0 in
    let four = and_parts (is_name i.spec.name && nat_lt i.spec.column count && is_second count i.spec.column i.spec.kind i.spec.second && nat_le i.distinct (most_distinct i.spec.kind)) (is_ref i.first) five.0 in
    let three = and_parts (is_name i.spec.name && nat_lt i.spec.column count && is_second count i.spec.column i.spec.kind i.spec.second) (nat_le i.distinct (most_distinct i.spec.kind)) four.0 in
    let two = and_parts (is_name i.spec.name && nat_lt i.spec.column count) (is_second count i.spec.column i.spec.kind i.spec.second) three.0 in
    let one = and_parts (is_name i.spec.name) (nat_lt i.spec.column count) two.0 in
    record {
      name = one.0;
      second = two.1;
      distinct = omega (arith, leb-true _ _ three.1, few_distinct i.spec.kind);
      first = four.1;
      middle = five.1;
      third = six.1;
    }

-- a second column reads as it was written, since there are at most 32
second_code_back : (code : ℕ) → code < 255 → second_of code ≡ Some code
second_code_back code small = coded (nat_eq code 255) (λ e. omega (arith, eqb-true code 255 e))
  where
    coded : (b : Bool) → (b ≡ true → ⊥) → (if b then None else Some code) ≡ Some code
    coded true never = absurd (never refl)
    coded false never = refl

second_back : (count column : ℕ) (kind : IndexKind) (second : Option ℕ) → count ≤ 32 → is_second count column kind second ≡ true → second_of (second_code second) ≡ second
second_back count column Lf None few h = refl
second_back count column Lf (Some s) few h = absurd cc
second_back count column Hg None few h = refl
second_back count column Hg (Some s) few h = absurd cc
second_back count column Hng None few h = refl
second_back count column Hng (Some s) few h = absurd cc
second_back count column Cmp None few h = absurd cc
second_back count column Cmp (Some s) few h =
    let both = and_parts (nat_lt s count) (not (nat_eq s column)) h in
    second_code_back s (omega (arith, few, ltb-true s count both.0))

pub length-index_text : (count : ℕ) (i : IndexPart) → is_index count i ≡ true → length (index_text i) ≡ 62
unfolding index_text
length-index_text count i h =
    let parts = index_parts count i h in
    omega (
      arith,
      length-append (name_text i.spec.name) (index_code i.spec.kind ∷ i.spec.column ∷ second_code i.spec.second ∷ (bytes_of i.distinct ++ (ref_text i.first ++ (ref_text i.second ++ ref_text i.third)))),
      length-append (bytes_of i.distinct) (ref_text i.first ++ (ref_text i.second ++ ref_text i.third)),
      length-append (ref_text i.first) (ref_text i.second ++ ref_text i.third),
      length-append (ref_text i.second) (ref_text i.third),
      length-name_text i.spec.name (name_parts i.spec.name parts.name).short,
      length-bytes_of i.distinct,
      length-ref_text i.first,
      length-ref_text i.second,
      length-ref_text i.third,
    )

five_parts : (n k d a b e r : List ℕ) → (n ++ (k ++ (d ++ (a ++ (b ++ e))))) ++ r ≡ n ++ (k ++ (d ++ (a ++ (b ++ (e ++ r)))))
five_parts n k d a b e r = simp append_assoc

fifth_seam : (n k d a b y : List ℕ) → n ++ (k ++ (d ++ (a ++ (b ++ y)))) ≡ ((((n ++ k) ++ d) ++ a) ++ b) ++ y
fifth_seam n k d a b y = simp append_assoc

says_index : (x : List ℕ) (i : IndexPart) → name_of x ≡ i.spec.name → slice_index x 31 ≡ index_code i.spec.kind → slice_index x 32 ≡ i.spec.column
    → slice_index x 33 ≡ second_code i.spec.second → second_of (second_code i.spec.second) ≡ i.spec.second → number_at x 34 ≡ i.distinct → ref_of x 38 ≡ i.first
    → ref_of x 46 ≡ i.second → ref_of x 54 ≡ i.third → index_of x ≡ i
unfolding index_of
says_index x i name code column second back distinct first middle third =
    rw (name, code, column, second, back, distinct, first, middle, third, index_kind_back i.spec.kind) refl

reads_index : (count : ℕ) (i : IndexPart) (rest : List ℕ) (x : List ℕ) → count ≤ 32 → is_index count i ≡ true
    → x ≡ name_text i.spec.name ++ ((index_code i.spec.kind ∷ i.spec.column ∷ second_code i.spec.second ∷ []) ++ (bytes_of i.distinct ++ (ref_text i.first ++ (ref_text i.second ++ (ref_text i.third ++ rest)))))
    → index_of x ≡ i
reads_index count i rest x few h is =
    let parts = index_parts count i h in
    let n = name_text i.spec.name in
    let k = index_code i.spec.kind ∷ i.spec.column ∷ second_code i.spec.second ∷ [] in
    let d = bytes_of i.distinct in
    let a = ref_text i.first in
    let b = ref_text i.second in
    let e = ref_text i.third in
    let n_size : length n ≡ 31 = length-name_text i.spec.name (name_parts i.spec.name parts.name).short in
    let k_size : length (n ++ k) ≡ 34 = omega (arith, n_size, length-append n k) in
    let d_size : length ((n ++ k) ++ d) ≡ 38 = omega (arith, k_size, length-append (n ++ k) d, length-bytes_of i.distinct) in
    let a_size : length (((n ++ k) ++ d) ++ a) ≡ 46 = omega (arith, d_size, length-append ((n ++ k) ++ d) a, length-ref_text i.first) in
    let b_size : length ((((n ++ k) ++ d) ++ a) ++ b) ≡ 54 = omega (arith, a_size, length-append (((n ++ k) ++ d) ++ a) b, length-ref_text i.second) in
    let bytes = k ++ (d ++ (a ++ (b ++ (e ++ rest)))) in
    says_index x i
    (ap name_of is ∙ name_back i.spec.name bytes parts.name)
    (ap (λ (t : List ℕ). slice_index t 31) is ∙ byte_behind n bytes 31 0 n_size)
    (ap (λ (t : List ℕ). slice_index t 32) is ∙ byte_behind n bytes 31 1 n_size)
    (ap (λ (t : List ℕ). slice_index t 33) is ∙ byte_behind n bytes 31 2 n_size)
    (second_back count i.spec.column i.spec.kind i.spec.second few parts.second)
    (ap (λ (t : List ℕ). number_at t 34) (is ∙ second_seam n k (d ++ (a ++ (b ++ (e ++ rest))))) ∙ number_behind (n ++ k) (a ++ (b ++ (e ++ rest))) 34 i.distinct k_size parts.distinct)
    (ap (λ (t : List ℕ). ref_of t 38) (is ∙ third_seam n k d (a ++ (b ++ (e ++ rest)))) ∙ ref_behind ((n ++ k) ++ d) (b ++ (e ++ rest)) 38 i.first d_size parts.first)
    (ap (λ (t : List ℕ). ref_of t 46) (is ∙ fourth_seam n k d a (b ++ (e ++ rest))) ∙ ref_behind (((n ++ k) ++ d) ++ a) (e ++ rest) 46 i.second a_size parts.middle)
    (ap (λ (t : List ℕ). ref_of t 54) (is ∙ fifth_seam n k d a b (e ++ rest)) ∙ ref_behind ((((n ++ k) ++ d) ++ a) ++ b) rest 54 i.third b_size parts.third)

pub index_back : (count : ℕ) (i : IndexPart) (rest : List ℕ) → count ≤ 32 → is_index count i ≡ true → index_of (index_text i ++ rest) ≡ i
unfolding index_text
index_back count i rest few h =
    reads_index count i rest _ few h
    (five_parts (name_text i.spec.name) (index_code i.spec.kind ∷ i.spec.column ∷ second_code i.spec.second ∷ []) (bytes_of i.distinct) (ref_text i.first) (ref_text i.second) (ref_text i.third) rest)

-- columns, one behind the other
pub columns_back : (cs : List ColumnPart) (rest : List ℕ) → are_columns cs ≡ true → columns_of (length cs) (flat_map column_text cs ++ rest) ≡ cs
unfolding columns_of
columns_back [] rest h = refl
columns_back (c ∷ cs) rest h =
    let both = and_parts (is_column c) (are_columns cs) h in
    let behind = flat_map column_text cs ++ rest in
    let split : flat_map column_text (c ∷ cs) ++ rest ≡ column_text c ++ behind
    = ap (λ (t : List ℕ). t ++ rest) (flat_map-cons column_text c cs) ∙ append_assoc (column_text c) (flat_map column_text cs) rest in
    ap (columns_of (suc (length cs))) split
    ∙ ap (λ (d : ColumnPart). d ∷ columns_of (length cs) (drop 55 (column_text c ++ behind))) (column_back c behind both.0)
    ∙ ap (λ (t : List ℕ). c ∷ columns_of (length cs) t) (rest_behind (column_text c) behind 55 (length-column_text c both.0))
    ∙ ap (λ (ds : List ColumnPart). c ∷ ds) (columns_back cs rest both.1)

pub length-columns : (cs : List ColumnPart) → are_columns cs ≡ true → length (flat_map column_text cs) ≡ 55 * length cs
length-columns [] h = refl
length-columns (c ∷ cs) h =
    let both = and_parts (is_column c) (are_columns cs) h in
    omega (arith, ap length (flat_map-cons column_text c cs), length-append (column_text c) (flat_map column_text cs), length-column_text c both.0, length-columns cs both.1)

-- indexes, one behind the other
pub indexes_back : (count : ℕ) (is : List IndexPart) (rest : List ℕ) → count ≤ 32 → are_indexes count is ≡ true → indexes_of (length is) (flat_map index_text is ++ rest) ≡ is
unfolding indexes_of
indexes_back count [] rest few h = refl
indexes_back count (i ∷ is) rest few h =
    let both = and_parts (is_index count i) (are_indexes count is) h in
    let behind = flat_map index_text is ++ rest in
    let split : flat_map index_text (i ∷ is) ++ rest ≡ index_text i ++ behind
    = ap (λ (t : List ℕ). t ++ rest) (flat_map-cons index_text i is) ∙ append_assoc (index_text i) (flat_map index_text is) rest in
    ap (indexes_of (suc (length is))) split
    ∙ ap (λ (j : IndexPart). j ∷ indexes_of (length is) (drop 62 (index_text i ++ behind))) (index_back count i behind few both.0)
    ∙ ap (λ (t : List ℕ). i ∷ indexes_of (length is) t) (rest_behind (index_text i) behind 62 (length-index_text count i both.0))
    ∙ ap (λ (js : List IndexPart). i ∷ js) (indexes_back count is rest few both.1)

pub length-indexes : (count : ℕ) (is : List IndexPart) → are_indexes count is ≡ true → length (flat_map index_text is) ≡ 62 * length is
length-indexes count [] h = refl
length-indexes count (i ∷ is) h =
    let both = and_parts (is_index count i) (are_indexes count is) h in
    omega (arith, ap length (flat_map-cons index_text i is), length-append (index_text i) (flat_map index_text is), length-index_text count i both.0, length-indexes count is both.1)
