-- A body and a gate read as they were written.
use Rattle.std.specs.Prelude.{◌≡◌, ℕ, ◌+◌, ◌-◌, ◌*◌, ◌%◌, ◌^◌, ◌<◌, ◌≤◌, true, List, ◌++◌, length, flat_map, nat_eq, nat_le, nat_lt}
use Rattle.std.proofs.Common.{refl, sym, ap, ◌∙◌, inr, arith, append_assoc, length-append}
use Rattle.std.proofs.lemmas.Bool.{lt-ltb, le-leb, eq-eqb, and_from}
use Rattle.byteorder.specs.Endian.{little_number, little_bytes}
use Rattle.byteorder.specs.Numbers.{little_number-reads_back, length-bytes_low_first}
use Rattle.iq_block_store.specs.Frames.{number_at, bytes_of, has_header, header, framed, payload_of, numbers_at, body_kind, gate_kind}
use Rattle.iq_block_store.proofs.FrameLemmas.{length-header, has_header-framed, length-bytes_of, number_at-bytes_of, number_at-append, number_at-framed, payload_of-framed, numbers_back}
use Rattle.iq_root.specs.Roots.{long_at, long_bytes, zeros, root_of, body_page, gate_page, body_block, gate_block, least_format, most_format, is_valid}
use Rattle.iq_root.specs.Pages.{RootFits}
use Rattle.iq_root.specs.declared.root.Root.{Root}

pub length-long_bytes : (x : ℕ) → length (long_bytes x) ≡ 8
unfolding long_bytes
length-long_bytes x = length-bytes_low_first 0 8 x

-- the generation that a body or a gate tells
long_at-framed : (kind at level x : ℕ) (rest : List ℕ) → x < 2 ^ 64 → long_at (framed kind at level (long_bytes x ++ rest)) 16 ≡ x
unfolding long_at long_bytes payload_of
long_at-framed kind at level x rest fits =
    ap (little_number 8) (payload_of-framed kind at level (little_bytes 8 x ++ rest)) ∙ little_number-reads_back 8 x rest fits

pub gate_tells : (slot generation : ℕ) → generation < 2 ^ 64 → long_at (gate_block slot generation) 16 ≡ generation
gate_tells slot generation fits = long_at-framed gate_kind (2 * slot + 1) 0 generation (zeros 1000) fits

pub body_tells : (slot : ℕ) (root : Root) → root.generation < 2 ^ 64 → long_at (body_block slot root) 16 ≡ root.generation
body_tells slot root fits = long_at-framed body_kind (2 * slot) 0 root.generation _ fits

-- the numbers of a body, behind its generation
tail_of : Root → List ℕ
unfolding zeros
tail_of root = bytes_of root.format ++ (bytes_of root.count ++ (bytes_of (length root.tables) ++ (flat_map bytes_of root.tables ++ zeros (988 - 4 * length root.tables))))

body_number : (slot : ℕ) (root : Root) (i : ℕ) → number_at (body_block slot root) (24 + i) ≡ number_at (tail_of root) i
unfolding tail_of
body_number slot root i =
    ap (number_at (body_block slot root)) (omega arith)
    ∙ number_at-framed body_kind (2 * slot) 0 (body_page root) (8 + i)
    ∙ number_at-append (long_bytes root.generation) _ 8 i (length-long_bytes root.generation)

pub body_format : (slot : ℕ) (root : Root) → root.format < 2 ^ 32 → number_at (body_block slot root) 24 ≡ root.format
unfolding tail_of
body_format slot root fits = body_number slot root 0 ∙ number_at-bytes_of root.format _ fits

pub body_count : (slot : ℕ) (root : Root) → root.count < 2 ^ 32 → number_at (body_block slot root) 28 ≡ root.count
unfolding tail_of
body_count slot root fits =
    body_number slot root 4
    ∙ number_at-append (bytes_of root.format) _ 4 0 (length-bytes_of root.format)
    ∙ number_at-bytes_of root.count _ fits

pub body_tables : (slot : ℕ) (root : Root) → length root.tables ≤ 64 → number_at (body_block slot root) 32 ≡ length root.tables
unfolding tail_of
body_tables slot root few =
    body_number slot root 8
    ∙ number_at-append (bytes_of root.format) _ 4 4 (length-bytes_of root.format)
    ∙ number_at-append (bytes_of root.count) _ 4 0 (length-bytes_of root.count)
    ∙ number_at-bytes_of (length root.tables) _ (omega (arith, few))

-- the pieces before a body's tables
body_parts : (h a b c d rest : List ℕ) → h ++ (a ++ (b ++ (c ++ (d ++ rest)))) ≡ (h ++ (a ++ (b ++ (c ++ d)))) ++ rest
body_parts h a b c d rest =
    ap (λ (t : List ℕ). h ++ (a ++ (b ++ t))) (sym (append_assoc c d rest))
    ∙ ap (λ (t : List ℕ). h ++ (a ++ t)) (sym (append_assoc b (c ++ d) rest))
    ∙ ap (λ (t : List ℕ). h ++ t) (sym (append_assoc a (b ++ (c ++ d)) rest))
    ∙ sym (append_assoc h (a ++ (b ++ (c ++ d))) rest)

body_front : (slot : ℕ) (root : Root)
    → length (header body_kind (2 * slot) 0 ++ (long_bytes root.generation ++ (bytes_of root.format ++ (bytes_of root.count ++ bytes_of (length root.tables))))) ≡ 36
body_front slot root = omega (
  arith,
  length-append (header body_kind (2 * slot) 0) (long_bytes root.generation ++ (bytes_of root.format ++ (bytes_of root.count ++ bytes_of (length root.tables)))),
  length-append (long_bytes root.generation) (bytes_of root.format ++ (bytes_of root.count ++ bytes_of (length root.tables))),
  length-append (bytes_of root.format) (bytes_of root.count ++ bytes_of (length root.tables)),
  length-append (bytes_of root.count) (bytes_of (length root.tables)),
  length-header body_kind (2 * slot) 0,
  length-long_bytes root.generation,
  length-bytes_of root.format,
  length-bytes_of root.count,
  length-bytes_of (length root.tables),
)

Root-ext : (a b : Root) → a.generation ≡ b.generation → a.format ≡ b.format → a.count ≡ b.count → a.tables ≡ b.tables → a ≡ b
Root-ext a b generation format count tables =
    ap (λ (n : ℕ). made n a.format a.count a.tables) generation ∙ ap (λ (n : ℕ). made b.generation n a.count a.tables) format
    ∙ ap (λ (n : ℕ). made b.generation b.format n a.tables) count ∙ ap (made b.generation b.format b.count) tables
  where
    made : ℕ → ℕ → ℕ → List ℕ → Root
    made generation format count tables = record { generation = generation; format = format; count = count; tables = tables }

-- a body tells its root
pub root_of_body : (slot : ℕ) (root : Root) → RootFits root → root_of (body_block slot root) ≡ root
root_of_body slot root fits =
    let few : number_at (body_block slot root) 32 ≡ length root.tables = body_tables slot root fits.few in
    let before : List ℕ = header body_kind (2 * slot) 0 ++ (long_bytes root.generation ++ (bytes_of root.format ++ (bytes_of root.count ++ bytes_of (length root.tables)))) in
    let parts : body_block slot root ≡ before ++ (flat_map bytes_of root.tables ++ zeros (988 - 4 * length root.tables))
    = body_parts (header body_kind (2 * slot) 0) (long_bytes root.generation) (bytes_of root.format) (bytes_of root.count)
    (bytes_of (length root.tables)) (flat_map bytes_of root.tables ++ zeros (988 - 4 * length root.tables)) in
    let size : length before ≡ 36 = body_front slot root in
    let tables : numbers_at (body_block slot root) 36 (number_at (body_block slot root) 32) ≡ root.tables
    = ap (numbers_at (body_block slot root) 36) few ∙ numbers_back (body_block slot root) before _ root.tables 36 fits.tables parts size in
    Root-ext _ _ (body_tells slot root fits.generation) (body_format slot root fits.format) (body_count slot root fits.count) tables

-- a slot that was written is valid
pub written_valid : (slot : ℕ) (root : Root) → slot < 2 → RootFits root → 1 ≤ root.generation → root.generation < 2 ^ 63
    → root.generation % 2 ≡ slot → least_format ≤ root.format → root.format ≤ most_format
    → is_valid slot (body_block slot root) (gate_block slot root.generation) ≡ true
written_valid slot root two fits from_one below parity from upto =
    let tells : long_at (body_block slot root) 16 ≡ root.generation = body_tells slot root fits.generation in
    let gate : long_at (gate_block slot root.generation) 16 ≡ root.generation = gate_tells slot root.generation fits.generation in
    let format : number_at (body_block slot root) 24 ≡ root.format = body_format slot root fits.format in
    let few : number_at (body_block slot root) 32 ≡ length root.tables = body_tables slot root fits.few in
    let body_header : has_header body_kind (2 * slot) (body_block slot root) ≡ true
    = has_header-framed body_kind (2 * slot) 0 (body_page root) (omega arith) (omega (arith, two)) (omega arith) (inr refl) in
    let gate_header : has_header gate_kind (2 * slot + 1) (gate_block slot root.generation) ≡ true
    = has_header-framed gate_kind (2 * slot + 1) 0 (gate_page root.generation) (omega arith) (omega (arith, two)) (omega arith) (inr refl) in
    let same : nat_eq (long_at (body_block slot root) 16) (long_at (gate_block slot root.generation) 16) ≡ true = eq-eqb _ _ (tells ∙ sym gate) in
    let at_least : nat_le 1 (long_at (body_block slot root) 16) ≡ true = le-leb 1 (long_at (body_block slot root) 16) (omega (arith, tells, from_one)) in
    let at_most : nat_lt (long_at (body_block slot root) 16) (2 ^ 63) ≡ true = lt-ltb (long_at (body_block slot root) 16) (2 ^ 63) (omega (arith, tells, below)) in
    let even : nat_eq (long_at (body_block slot root) 16 % 2) slot ≡ true = eq-eqb (long_at (body_block slot root) 16 % 2) slot (ap (λ (n : ℕ). n % 2) tells ∙ parity) in
    let least : nat_le least_format (number_at (body_block slot root) 24) ≡ true = le-leb least_format (number_at (body_block slot root) 24) (omega (arith, format, from)) in
    let most : nat_le (number_at (body_block slot root) 24) most_format ≡ true = le-leb (number_at (body_block slot root) 24) most_format (omega (arith, format, upto)) in
    let tables : nat_le (number_at (body_block slot root) 32) 64 ≡ true = le-leb (number_at (body_block slot root) 32) 64 (omega (arith, few, fits.few)) in
    and_from _ _ (and_from _ _ (and_from _ _ body_header gate_header) same)
    (and_from _ _ (and_from _ _ (and_from _ _ (and_from _ _ (and_from _ _ at_least at_most) even) least) most) tables)
