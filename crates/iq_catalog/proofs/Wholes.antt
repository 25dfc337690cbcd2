-- A whole descriptor reads as it was written.
use Rattle.std.specs.Prelude.{◌≡◌, ℕ, ◌+◌, ◌-◌, ◌*◌, ◌/◌, ◌^◌, ◌<◌, ◌≤◌, Bool, true, false, ◌&&◌, not, List, [], ◌∷◌, ◌++◌, length, drop, slice_index, nat_eq, nat_le, flat_map, if◌then◌else◌}
use Rattle.std.proofs.Common.{refl, sym, ap, subst, ◌∙◌, arith, append_assoc, length-append}
use Rattle.std.proofs.lemmas.List.{length-replicate}
use Rattle.std.proofs.lemmas.Bool.{iff_false, eq-eqb}
use Rattle.std.specs.Prelude.{◌↔◌, IsTrue}
use Rattle.std.specs.Cmp.Lexicographic.{pointwise, nat_list_eq_equiv}
use Rattle.iq_base.specs.Limits.{limit_for}
use Rattle.iq_base.specs.declared.descriptors.Descriptor.{Descriptor}
use Rattle.iq_block_store.specs.Frames.{number_at, bytes_of}
use Rattle.iq_block_store.proofs.FrameLemmas.{length-bytes_of}
use Rattle.iq_catalog.specs.Texts.{name_text, ref_text, column_text, index_text, head_text, descriptor_text}
use Rattle.iq_catalog.specs.Storable.{slot_limit, longest_text, has_low_fast, IsStorable}
use Rattle.iq_catalog.specs.Pages.{zeros, page_count, filled, descriptor_bytes, joined, HasPages}
use Rattle.iq_catalog.specs.Reading.{name_of, ref_of, columns_of, indexes_of, text_size, descriptor_of}
use Rattle.iq_catalog.specs.FirstFault.{has_count}
use Rattle.iq_catalog.proofs.Names.{name_parts, name_back, length-name_text}
use Rattle.iq_catalog.proofs.Fields.{byte_behind, rest_behind, number_behind, ref_behind, length-ref_text}
use Rattle.iq_catalog.proofs.Parts.{columns_back, indexes_back, length-columns, length-indexes}

if_below : (b : Bool) (m n most : ℕ) → m ≤ most → n ≤ most → (if b then m else n) ≤ most
if_below true m n most first second = first
if_below false m n most first second = second

limit_small : (n : ℕ) → limit_for n ≤ 262144
limit_small n =
    if_below (nat_le n 105) 262144 _ 262144 (omega arith)
    (if_below (nat_le n 136) 254016 _ 262144 (omega arith) (if_below (nat_le n 194) 190512 127008 262144 (omega arith) (omega arith)))

few_slots : (t : Descriptor) → slot_limit t ≤ 2097152
few_slots t =
    if_below (nat_eq (longest_text t.columns) 0 && not (has_low_fast t.indexes)) 2097152 (limit_for (longest_text t.columns)) 2097152 (omega arith)
    (omega (arith, limit_small (longest_text t.columns)))

length-head_text : (t : Descriptor) → IsStorable t → length (head_text t) ≡ 45
unfolding head_text
length-head_text t h =
    omega (
      arith,
      length-append (name_text t.name) (length t.columns ∷ length t.indexes ∷ (bytes_of t.slots ++ ref_text t.existence)),
      length-append (bytes_of t.slots) (ref_text t.existence),
      length-name_text t.name (name_parts t.name h.name).short,
      length-bytes_of t.slots,
      length-ref_text t.existence,
    )

-- how the text's parts lie
in_four : (n k s e cs is r : List ℕ) → ((n ++ (k ++ (s ++ e))) ++ (cs ++ is)) ++ r ≡ n ++ (k ++ (s ++ (e ++ (cs ++ (is ++ r)))))
in_four n k s e cs is r = simp append_assoc

in_two : (n k y : List ℕ) → n ++ (k ++ y) ≡ (n ++ k) ++ y
in_two n k y = sym (append_assoc n k y)

in_three : (n k s y : List ℕ) → n ++ (k ++ (s ++ y)) ≡ ((n ++ k) ++ s) ++ y
in_three n k s y = simp append_assoc

behind_head : (h cs is r : List ℕ) → (h ++ (cs ++ is)) ++ r ≡ h ++ (cs ++ (is ++ r))
behind_head h cs is r = simp append_assoc

behind_columns : (h cs is r : List ℕ) → (h ++ (cs ++ is)) ++ r ≡ (h ++ cs) ++ (is ++ r)
behind_columns h cs is r = simp append_assoc

says : (x : List ℕ) (t : Descriptor) → name_of x ≡ t.name → slice_index x 31 ≡ length t.columns → slice_index x 32 ≡ length t.indexes
    → number_at x 33 ≡ t.slots → ref_of x 37 ≡ t.existence → columns_of (length t.columns) (drop 45 x) ≡ t.columns
    → indexes_of (length t.indexes) (drop (45 + 55 * length t.columns) x) ≡ t.indexes → descriptor_of x ≡ t
unfolding descriptor_of
says x t name columns indexes slots existence read_columns read_indexes =
    rw (name, columns, indexes, slots, existence, read_columns, read_indexes) refl

-- what a text with any bytes behind it says in its head
record HeadReads (x : List ℕ) (t : Descriptor) : Type 0 where
  name : name_of x ≡ t.name
  columns : slice_index x 31 ≡ length t.columns
  indexes : slice_index x 32 ≡ length t.indexes
  slots : number_at x 33 ≡ t.slots
  existence : ref_of x 37 ≡ t.existence

head_reads : (t : Descriptor) (rest : List ℕ) → IsStorable t → HeadReads (descriptor_text t ++ rest) t
unfolding descriptor_text head_text
head_reads t rest h =
    let n = name_text t.name in
    let k = length t.columns ∷ length t.indexes ∷ [] in
    let s = bytes_of t.slots in
    let e = ref_text t.existence in
    let cs = flat_map column_text t.columns in
    let is = flat_map index_text t.indexes in
    let y = cs ++ (is ++ rest) in
    let split : ((n ++ (k ++ (s ++ e))) ++ (cs ++ is)) ++ rest ≡ n ++ (k ++ (s ++ (e ++ y))) = in_four n k s e cs is rest in
    let n_size : length n ≡ 31 = length-name_text t.name (name_parts t.name h.name).short in
    let k_size : length (n ++ k) ≡ 33 = omega (arith, n_size, length-append n k) in
    let s_size : length ((n ++ k) ++ s) ≡ 37 = omega (arith, k_size, length-append (n ++ k) s, length-bytes_of t.slots) in
    let fits : t.slots < 2 ^ 32 = omega (arith, h.slots, few_slots t) in
    record {
      name = ap name_of split ∙ name_back t.name (k ++ (s ++ (e ++ y))) h.name;
      columns = ap (λ (b : List ℕ). slice_index b 31) split ∙ byte_behind n (k ++ (s ++ (e ++ y))) 31 0 n_size;
      indexes = ap (λ (b : List ℕ). slice_index b 32) split ∙ byte_behind n (k ++ (s ++ (e ++ y))) 31 1 n_size;
      slots = ap (λ (b : List ℕ). number_at b 33) (split ∙ in_two n k (s ++ (e ++ y))) ∙ number_behind (n ++ k) (e ++ y) 33 t.slots k_size fits;
      existence = ap (λ (b : List ℕ). ref_of b 37) (split ∙ in_three n k s (e ++ y)) ∙ ref_behind ((n ++ k) ++ s) y 37 t.existence s_size h.existence;
    }

-- what stands behind the head, and behind the columns
tail_reads : (t : Descriptor) (rest : List ℕ) → IsStorable t → columns_of (length t.columns) (drop 45 (descriptor_text t ++ rest)) ≡ t.columns
unfolding descriptor_text
tail_reads t rest h =
    let cs = flat_map column_text t.columns in
    let is = flat_map index_text t.indexes in
    ap (λ (b : List ℕ). columns_of (length t.columns) (drop 45 b)) (behind_head (head_text t) cs is rest)
    ∙ ap (columns_of (length t.columns)) (rest_behind (head_text t) (cs ++ (is ++ rest)) 45 (length-head_text t h))
    ∙ columns_back t.columns (is ++ rest) h.columns

last_reads : (t : Descriptor) (rest : List ℕ) → IsStorable t → indexes_of (length t.indexes) (drop (45 + 55 * length t.columns) (descriptor_text t ++ rest)) ≡ t.indexes
unfolding descriptor_text
last_reads t rest h =
    let cs = flat_map column_text t.columns in
    let is = flat_map index_text t.indexes in
    let size : length (head_text t ++ cs) ≡ 45 + 55 * length t.columns
    = omega (arith, length-append (head_text t) cs, length-head_text t h, length-columns t.columns h.columns) in
    ap (λ (b : List ℕ). indexes_of (length t.indexes) (drop (45 + 55 * length t.columns) b)) (behind_columns (head_text t) cs is rest)
    ∙ ap (indexes_of (length t.indexes)) (rest_behind (head_text t ++ cs) (is ++ rest) (45 + 55 * length t.columns) size)
    ∙ indexes_back (length t.columns) t.indexes rest h.few_columns h.indexes

text_back : (t : Descriptor) (rest : List ℕ) → IsStorable t → descriptor_of (descriptor_text t ++ rest) ≡ t
text_back t rest h =
    let head = head_reads t rest h in
    says (descriptor_text t ++ rest) t head.name head.columns head.indexes head.slots head.existence (tail_reads t rest h) (last_reads t rest h)

length-text : (t : Descriptor) → IsStorable t → length (descriptor_text t) ≡ text_size (length t.columns) (length t.indexes)
unfolding descriptor_text
length-text t h =
    omega (
      arith,
      length-append (head_text t) (flat_map column_text t.columns ++ flat_map index_text t.indexes),
      length-append (flat_map column_text t.columns) (flat_map index_text t.indexes),
      length-head_text t h,
      length-columns t.columns h.columns,
      length-indexes (length t.columns) t.indexes h.indexes,
    )

length-zeros : (n : ℕ) → length (zeros n) ≡ n
unfolding zeros
length-zeros n = length-replicate n 0

-- bytes that are filled up end with a page
pub length-filled : (bytes : List ℕ) → length (filled bytes) ≡ 1008 * page_count (length bytes)
unfolding filled
length-filled bytes =
    omega (arith, length-append bytes (zeros (1008 * page_count (length bytes) - length bytes)), length-zeros (1008 * page_count (length bytes) - length bytes))

pub length-descriptor_bytes : (t : Descriptor) → length (descriptor_bytes t) ≡ 1008 * (length (descriptor_bytes t) / 1008)
unfolding descriptor_bytes
length-descriptor_bytes t = omega (arith, length-filled (zeros 12 ++ descriptor_text t))

-- a descriptor takes 1 to 4 pages
pub record FewPages (t : Descriptor) : Type 0 where
  pub some : 1 ≤ length (descriptor_bytes t) / 1008
  pub few : length (descriptor_bytes t) / 1008 ≤ 4

pub few_pages : (t : Descriptor) → IsStorable t → FewPages t
unfolding descriptor_bytes
few_pages t h =
    let bytes = zeros 12 ++ descriptor_text t in
    let size : length bytes ≡ 57 + 55 * length t.columns + 62 * length t.indexes
    = omega (arith, length-append (zeros 12) (descriptor_text t), length-zeros 12, length-text t h) in
    let filled_size = length-filled bytes in
    record {
      some = omega (arith, filled_size, size);
      few = omega (arith, filled_size, size, h.few_columns, h.few_indexes);
    }

-- behind the addresses there is the text, and something behind it
record BehindAddresses (t : Descriptor) : Type 0 where
  rest : List ℕ
  is : drop 12 (descriptor_bytes t) ≡ descriptor_text t ++ rest
  size : 12 ≤ length (descriptor_bytes t)

behind_addresses : (t : Descriptor) → BehindAddresses t
unfolding descriptor_bytes filled
behind_addresses t =
    let n = zeros 12 ++ descriptor_text t in
    let z = zeros (1008 * page_count (length n) - length n) in
    record {
      rest = z;
      is = ap (drop 12) (append_assoc (zeros 12) (descriptor_text t) z) ∙ rest_behind (zeros 12) (descriptor_text t ++ z) 12 (length-zeros 12);
      size = omega (arith, length-append n z, length-append (zeros 12) (descriptor_text t), length-zeros 12);
    }

-- bytes that are those of a storable descriptor say it, and are long enough
pub bytes_back : (t : Descriptor) (bytes : List ℕ) → IsStorable t → bytes ≡ descriptor_bytes t → descriptor_of (drop 12 bytes) ≡ t
bytes_back t bytes h is =
    let behind = behind_addresses t in
    ap (λ (b : List ℕ). descriptor_of (drop 12 b)) is ∙ ap descriptor_of behind.is ∙ text_back t behind.rest h

-- and they are of as many pages as they count
pub bytes_counted : (t : Descriptor) (bytes : List ℕ) → IsStorable t → bytes ≡ descriptor_bytes t → has_count bytes ≡ true
unfolding descriptor_bytes
bytes_counted t bytes h is =
    let behind = behind_addresses t in
    let head = head_reads t behind.rest h in
    let columns : slice_index (drop 12 bytes) 31 ≡ length t.columns = ap (λ (b : List ℕ). slice_index b 31) (ap (drop 12) is ∙ behind.is) ∙ head.columns in
    let indexes : slice_index (drop 12 bytes) 32 ≡ length t.indexes = ap (λ (b : List ℕ). slice_index b 32) (ap (drop 12) is ∙ behind.is) ∙ head.indexes in
    let size : length (zeros 12 ++ descriptor_text t) ≡ 12 + text_size (length t.columns) (length t.indexes)
    = omega (arith, length-append (zeros 12) (descriptor_text t), length-zeros 12, length-text t h) in
    let whole : length bytes ≡ 1008 * page_count (12 + text_size (length t.columns) (length t.indexes))
    = ap length is ∙ length-filled (zeros 12 ++ descriptor_text t) ∙ ap (λ (n : ℕ). 1008 * page_count n) size in
    eq-eqb _ _ (
    whole ∙ ap (λ (n : ℕ). 1008 * page_count (12 + text_size n (length t.indexes))) (sym columns)
    ∙ ap (λ (n : ℕ). 1008 * page_count (12 + text_size (slice_index (drop 12 bytes) 31) n)) (sym indexes)
    )

-- a descriptor that was read is the one whose pages these are
pub only_one : (t table : Descriptor) (pages : List (List ℕ)) (bytes text : List ℕ) → bytes ≡ joined pages → text ≡ drop 12 bytes → table ≡ descriptor_of text
    → IsStorable t → HasPages t pages → t ≡ table
only_one t table pages bytes text whole behind read h has =
    sym (read ∙ ap descriptor_of behind ∙ bytes_back t bytes h (whole ∙ has))

-- bytes of another number of pages than they count are no descriptor's
pub none_uncounted : (pages : List (List ℕ)) (bytes : List ℕ) → bytes ≡ joined pages → has_count bytes ≡ false → (t : Descriptor) → IsStorable t
    → HasPages t pages → ⊥
none_uncounted pages bytes whole not_so t h has =
    let so = bytes_counted t bytes h (whole ∙ has) in
    absurd (cc)

-- nor what reads as one that may not be stored
pub none_other : (may : Bool) (table : Descriptor) (pages : List (List ℕ)) (bytes text : List ℕ) → bytes ≡ joined pages → text ≡ drop 12 bytes
    → table ≡ descriptor_of text → (IsTrue may ↔ IsStorable table) → may ≡ false → (t : Descriptor) → IsStorable t → HasPages t pages → ⊥
none_other may table pages bytes text whole behind read tells not_so t h has =
    iff_false tells not_so (subst IsStorable (only_one t table pages bytes text whole behind read h has) h)

-- nor what reads as one with other bytes
pub none_unlike : (table : Descriptor) (pages : List (List ℕ)) (bytes text again : List ℕ) → bytes ≡ joined pages → text ≡ drop 12 bytes
    → table ≡ descriptor_of text → again ≡ descriptor_bytes table → pointwise nat_eq again bytes ≡ false → (t : Descriptor) → IsStorable t → HasPages t pages → ⊥
none_unlike table pages bytes text again whole behind read written differ t h has =
    let same : again ≡ bytes = written ∙ ap descriptor_bytes (sym (only_one t table pages bytes text whole behind read h has)) ∙ sym (whole ∙ has) in
    let equal : pointwise nat_eq again bytes ≡ true = ap (λ (b : List ℕ). pointwise nat_eq again b) (sym same) ∙ nat_list_eq_equiv.refl again in
    absurd (cc)
