-- Rows that are found by the bitmaps of the values that are hits.
use Rattle.std.proofs.Common.{◌≡◌, ◌≢◌, ◌<◌, ◌≤◌, ◌+◌, ◌-◌, ◌*◌, ◌/◌, ◌%◌, ℕ, zero, suc, ◌||◌, ◌&&◌, Bool, true, false, nat_eq, nat_le, inl, inr, List, ◌∷◌, map, Option, length, get_or, refl, sym, ap, ap₂, ◌∙◌, arith}
use Rattle.std.proofs.lemmas.Bool.{cases_lt}
use Rattle.std.proofs.lemmas.Bool.Decides.{nat_tests, eqb_tells}
use Rattle.std.proofs.lemmas.Nat.{mul-le}
use Rattle.iq_lf.proofs.Readings.{stands_still}
use Rattle.std.proofs.lemmas.List.{ext_get_or, length-map, get_or-map, get_or_past}
use Rattle.iq_base.specs.declared.values.Value.{Value}
use Rattle.iq_base.specs.declared.values.Value.TheVariants.{Null}
use Rattle.iq_pages.specs.declared.page_faults.PageFault.{PageFault}
use Rattle.iq_pages.specs.declared.page_faults.PageFault.TheVariants.{Failed, BadPage, NoMemory}
use Rattle.iq_pages.specs.Pages.{Pages, Seen, KeepsObjects}
use Rattle.iq_pages.proofs.PageLaws.{rose_since}
use Rattle.iq_cells.specs.Codes.{code_in}
use Rattle.iq_bitmap.specs.Bits.{page_bits, chunk_of, with_chunk, either}
use Rattle.iq_bitmap.proofs.Chunks.{length-page_bits, length-chunk_of, get_or-chunk_of, length-with_chunk, get_or-with_chunk_in, get_or-with_chunk_out}
use Rattle.iq_pieces.specs.Objects.{page_at}
use Rattle.iq_lf.specs.declared.lf.Lf.{Lf}
use Rattle.iq_lf.specs.Entries.{entry_in, HasNone}
use Rattle.iq_lf.specs.Stands.{Stands, due, entries_in}
use Rattle.iq_lf.specs.Calls.{AreMarked, AreKnown, HasLfCause}
use Rattle.iq_lf.specs.Steps.{AreNeeded, CoversHits, AreHitEntries, IsMarkedChunk, AddsBitmap, AddsEntry, HasEntryCause}
use Rattle.iq_lf.proofs.BitmapLaws.{get_or-either, names_none, page_named}
use Rattle.iq_lf.proofs.RowLaws.{due_at, length-due}

-- the entries of hits are read
pub same_entry : (k : ℕ) (pages others : Pages) → page_at (k / 252) pages ≡ page_at (k / 252) others → entry_in pages k ≡ entry_in others k
unfolding entry_in
same_entry k pages others e = ap (λ (p : List ℕ). code_in 4 p (k % 252)) e

pub hit_entries : (lf : Lf) (told : ℕ → Option Pages) (hits needed : List Bool) (pages : Pages) → CoversHits hits needed → AreNeeded lf told needed pages → AreHitEntries lf told hits pages
hit_entries lf told hits needed pages covers are = λ values stands v chunk below small on.
    same_entry (33 * v + chunk) pages stands.numbers (are values stands ((33 * v + chunk) / 252) (covers v chunk on small))

-- whether a code is a hit of the first n values
abbrev pub hit_below : ℕ → List Bool → ℕ → Bool
hit_below n hits code = nat_le code n && get_or hits code false

-- the rows of a chunk whose code is one
abbrev pub AreFoundBelow : ℕ → Lf → (ℕ → Option Pages) → List Bool → ℕ → List Bool → Type 0
AreFoundBelow n lf told hits chunk rows =
    (values : List Value) (stands : Stands lf told values) (i : ℕ) → i < 8064 → get_or rows i false ≡ hit_below n hits (get_or stands.codes (chunk * 8064 + i) 0)

le_more : (code n : ℕ) → code ≢ n + 1 → nat_le code (n + 1) ≡ nat_le code n
le_more code n other = grind (arith, nat_tests)

le_next : (n : ℕ) → nat_le (n + 1) n ≡ false
le_next n = grind (arith, nat_tests)

le_self : (n : ℕ) → nat_le n n ≡ true
le_self n = grind (arith, nat_tests)

le_zero : (code : ℕ) → code ≢ 0 → nat_le code 0 ≡ false
le_zero code h = grind (arith, nat_tests)

and_false : (b : Bool) → (b && false) ≡ false
and_false true = refl
and_false false = refl

or_right : (b : Bool) → (b || false) ≡ b
or_right true = refl
or_right false = refl

eq_self : (n : ℕ) → nat_eq n n ≡ true
eq_self n = grind (arith, nat_tests)

eq_other : (n code : ℕ) → code ≢ n → nat_eq n code ≡ false
eq_other n code h = grind (arith, nat_tests)

-- no code is one of no values, where NULL is no hit
none_found : (hits : List Bool) (code : ℕ) → get_or hits 0 false ≡ false → hit_below 0 hits code ≡ false
none_found hits code null = elim (eqb_tells code 0) [
  | inl is ↦ ap (λ (c : ℕ). hit_below 0 hits c) is.1 ∙ ap (λ (b : Bool). nat_le 0 0 && b) null ∙ and_false (nat_le 0 0)
  | inr other ↦ ap (λ (b : Bool). b && get_or hits code false) (le_zero code other.1)
]

pub found_none : (lf : Lf) (told : ℕ → Option Pages) (hits : List Bool) (chunk : ℕ) (rows : List Bool) → get_or hits 0 false ≡ false → ((i : ℕ) → i < 8064 → get_or rows i false ≡ false) → AreFoundBelow 0 lf told hits chunk rows
found_none lf told hits chunk rows null empty = λ values stands i less. empty i less ∙ sym (none_found hits (get_or stands.codes (chunk * 8064 + i) 0) null)

-- a value that is no hit
no_hit : (n : ℕ) (hits : List Bool) (code : ℕ) → get_or hits (n + 1) false ≡ false → hit_below n hits code ≡ hit_below (n + 1) hits code
no_hit n hits code off = elim (eqb_tells code (n + 1)) [
  | inl is ↦ (
      ap (λ (c : ℕ). hit_below n hits c) is.1 ∙ ap (λ (b : Bool). b && get_or hits (n + 1) false) (le_next n)
      ∙ sym (ap (λ (c : ℕ). hit_below (n + 1) hits c) is.1 ∙ ap (λ (b : Bool). nat_le (n + 1) (n + 1) && b) off ∙ and_false (nat_le (n + 1) (n + 1))))
  | inr other ↦ sym (ap (λ (b : Bool). b && get_or hits code false) (le_more code n other.1))
]

pub found_beside : (n : ℕ) (lf : Lf) (told : ℕ → Option Pages) (hits : List Bool) (chunk : ℕ) (rows : List Bool) → get_or hits (n + 1) false ≡ false → AreFoundBelow n lf told hits chunk rows → AreFoundBelow (n + 1) lf told hits chunk rows
found_beside n lf told hits chunk rows off f = λ values stands i less. f values stands i less ∙ no_hit n hits (get_or stands.codes (chunk * 8064 + i) 0) off

-- a value that is one
is_hit_now : (n : ℕ) (hits : List Bool) (code : ℕ) → get_or hits (n + 1) false ≡ true → (hit_below n hits code || nat_eq (n + 1) code) ≡ hit_below (n + 1) hits code
is_hit_now n hits code on = elim (eqb_tells code (n + 1)) [
  | inl is ↦ (
      ap (λ (c : ℕ). hit_below n hits c || nat_eq (n + 1) c) is.1 ∙ ap₂ (λ (a b : Bool). (a && get_or hits (n + 1) false) || b) (le_next n) (eq_self (n + 1))
      ∙ sym (ap (λ (c : ℕ). hit_below (n + 1) hits c) is.1 ∙ ap₂ (λ (a b : Bool). a && b) (le_self (n + 1)) on))
  | inr other ↦ (
      ap (λ (b : Bool). hit_below n hits code || b) (eq_other (n + 1) code other.1) ∙ or_right (hit_below n hits code)
      ∙ sym (ap (λ (b : Bool). b && get_or hits code false) (le_more code n other.1)))
]

-- the entry's bitmap, or none, has the rows due
rows_due : (lf : Lf) (told : ℕ → Option Pages) (values : List Value) (stands : Stands lf told values) (k e : ℕ) (old new : List Bool) → length old ≡ 8064 → k < entries_in lf → entry_in stands.numbers k ≡ e → AddsEntry e (told lf.third) old new
    → (i : ℕ) → i < 8064 → get_or new i false ≡ (get_or old i false || get_or (due stands.codes k) i false)
rows_due lf told values stands k zero old new long within is adds i less =
    let none : HasNone (due stands.codes k) = names_none stands.bitmaps_held.pages (due stands.codes k) (entry_in stands.numbers k) is (stands.bitmaps_held.named k within) in
    ap (λ (bits : List Bool). get_or bits i false) adds ∙ sym (ap (λ (b : Bool). get_or old i false || b) (none i (omega arith)) ∙ or_right (get_or old i false))
rows_due lf told values stands k (suc n) old new long within is adds i less =
    let b = page_named stands.bitmaps_held.pages (due stands.codes k) (entry_in stands.numbers k) n (omega (arith, is)) (stands.bitmaps_held.named k within) in
    let merged = adds stands.bitmaps_held.pages stands.bitmaps_held.told_is in
    ap (λ (bits : List Bool). get_or bits i false) (merged ∙ ap (λ (bits : List Bool). either old bits) b.bits_are)
    ∙ get_or-either old (due stands.codes k) i (long ∙ sym (length-due stands.codes k)) (omega (arith, less, long))

pub found_hit : (n : ℕ) (lf : Lf) (told : ℕ → Option Pages) (hits : List Bool) (chunk e : ℕ) (pages : Pages) (old new : List Bool) → n < lf.distinct → chunk < 33 → get_or hits (n + 1) false ≡ true → length old ≡ 8064
    → entry_in pages (33 * n + chunk) ≡ e → AreHitEntries lf told hits pages → AddsEntry e (told lf.third) old new → AreFoundBelow n lf told hits chunk old → AreFoundBelow (n + 1) lf told hits chunk new
found_hit n lf told hits chunk e pages old new below small on long is are adds f = λ values stands i less.
    let k = 33 * n + chunk in
    let value : k / 33 ≡ n = omega (arith, small) in
    let at : k % 33 ≡ chunk = omega (arith, small) in
    let within : k < entries_in lf = omega (arith, below, small) in
    let code = get_or stands.codes (chunk * 8064 + i) 0 in
    let bit : get_or (due stands.codes k) i false ≡ nat_eq (n + 1) code = due_at stands.codes k i less ∙ ap₂ (λ (v c : ℕ). nat_eq (v + 1) (get_or stands.codes (c * 8064 + i) 0)) value at in
    rows_due lf told values stands k e old new long within (sym (are values stands n chunk below small on) ∙ is) adds i less
    ∙ ap₂ (λ (a b : Bool). a || b) (f values stands i less) bit ∙ is_hit_now n hits code on

-- a code is at most the number of distinct values
code_most : (lf : Lf) (told : ℕ → Option Pages) (values : List Value) (stands : Stands lf told values) (r : ℕ) → get_or stands.codes r 0 ≤ lf.distinct
code_most lf told values stands r = elim (cases_lt r (length stands.codes)) [
  | inl less ↦ (let a = stands.numbered.each r (omega (arith, less, stands.numbered.long)) in omega (arith, a.within, stands.distinct))
  | inr past ↦ (let e = get_or_past stands.codes r 0 past in omega (arith, e))
]

le_yes : (a b : ℕ) → a ≤ b → nat_le a b ≡ true
le_yes a b h = grind (arith, nat_tests)

map_at : (hits : List Bool) (codes : List ℕ) (r : ℕ) → get_or hits 0 false ≡ false → get_or (map (λ (code : ℕ). get_or hits code false) codes) r false ≡ get_or hits (get_or codes r 0) false
map_at hits codes r null = elim (cases_lt r (length codes)) [
  | inl less ↦ get_or-map (λ (code : ℕ). get_or hits code false) codes r 0 false less
  | inr past ↦ (
      get_or_past (map (λ (code : ℕ). get_or hits code false) codes) r false (omega (arith, past, length-map codes (λ (code : ℕ). get_or hits code false)))
      ∙ sym (ap (λ (c : ℕ). get_or hits c false) (get_or_past codes r 0 past) ∙ null))
]

-- once all values were looked at, the page has the rows that are hits
pub found_all : (lf : Lf) (told : ℕ → Option Pages) (hits : List Bool) (chunk n : ℕ) (rows : List Bool) (page : List ℕ) → get_or hits 0 false ≡ false → length rows ≡ 8064 → lf.distinct ≤ n → page_bits page ≡ rows → AreFoundBelow n lf told hits chunk rows → IsMarkedChunk lf told hits chunk page
found_all lf told hits chunk n rows page null long all is f = λ values stands.
    let marks = map (λ (code : ℕ). get_or hits code false) stands.codes in
    is ∙ ext_get_or false rows (chunk_of chunk marks) (long ∙ sym (length-chunk_of chunk marks)) (λ i h.
    let less : i < 8064 = omega (arith, h, long) in
    let r = chunk * 8064 + i in
    let most = code_most lf told values stands r in
    f values stands i less ∙ ap (λ (b : Bool). b && get_or hits (get_or stands.codes r 0) false) (le_yes (get_or stands.codes r 0) n (omega (arith, most, all)))
    ∙ sym (get_or-chunk_of chunk marks i less ∙ map_at hits stands.codes r null))

-- CHUNKS ONE AFTER THE OTHER

abbrev pub AreMarkedTo : ℕ → Lf → (ℕ → Option Pages) → List Bool → List Bool → Type 0
AreMarkedTo done lf told hits rows =
    (values : List Value) (stands : Stands lf told values) (i : ℕ) → i < done → i < length rows → get_or rows i false ≡ get_or hits (get_or stands.codes i 0) false

pub marks_next : (lf : Lf) (told : ℕ → Option Pages) (hits : List Bool) (chunk : ℕ) (rows : List Bool) (page : List ℕ) → get_or hits 0 false ≡ false → IsMarkedChunk lf told hits chunk page → AreMarkedTo (chunk * 8064) lf told hits rows → AreMarkedTo ((chunk + 1) * 8064) lf told hits (with_chunk chunk rows (page_bits page))
marks_next lf told hits chunk rows page null is done = λ values stands i below within.
    let long = length-page_bits page in
    let inside : i < length rows = omega (arith, within, length-with_chunk chunk rows (page_bits page)) in
    elim (cases_lt i (chunk * 8064)) [
      | inl low ↦ get_or-with_chunk_out chunk rows (page_bits page) i long (inl low) ∙ done values stands i low inside
      | inr on ↦ (
          let place : chunk * 8064 + (i - chunk * 8064) ≡ i = omega (arith, on) in
          let marks = map (λ (code : ℕ). get_or hits code false) stands.codes in
          get_or-with_chunk_in chunk rows (page_bits page) i long on (omega (arith, below)) inside
          ∙ ap (λ (bits : List Bool). get_or bits (i - chunk * 8064) false) (is values stands)
          ∙ get_or-chunk_of chunk marks (i - chunk * 8064) (omega (arith, below, on)) ∙ ap (λ (r : ℕ). get_or marks r false) place ∙ map_at hits stands.codes i null)
    ]

pub marks_all : (lf : Lf) (told : ℕ → Option Pages) (hits : List Bool) (done : ℕ) (rows : List Bool) → get_or hits 0 false ≡ false → length rows ≡ lf.slots → lf.slots ≤ done → AreMarkedTo done lf told hits rows → AreMarked lf told hits rows
marks_all lf told hits done rows null long all m = λ values stands.
    let marks = map (λ (code : ℕ). get_or hits code false) stands.codes in
    let many : length marks ≡ lf.slots = length-map stands.codes (λ (code : ℕ). get_or hits code false) ∙ stands.numbered.long ∙ stands.slots in
    ext_get_or false rows marks (long ∙ sym many) (λ i less. m values stands i (omega (arith, less, long, all)) less ∙ sym (map_at hits stands.codes i null))

-- VALUES

-- the rows whose code is a hit are those whose value is
pub hits_are : (lf : Lf) (told told' : ℕ → Option Pages) (f : Value → Bool) (read known : List Value) (hits bits : List Bool) → told' lf.first ≡ told lf.first → told' lf.second ≡ told lf.second → told' lf.third ≡ told lf.third
    → AreKnown lf told read → known ≡ Null ∷ read → hits ≡ map f known → AreMarked lf told' hits bits → (values : List Value) → Stands lf told values → bits ≡ map f values
hits_are lf told told' f read known hits bits e1 e2 e3 known_are all are marked values stands =
    let still = stands_still lf told told' values e1 e2 e3 stands in
    let each : hits ≡ map f (Null ∷ stands.known) = are ∙ ap (map f) (all ∙ ap (λ (vs : List Value). Null ∷ vs) (known_are values stands)) in
    let marks = map (λ (code : ℕ). get_or hits code false) stands.codes in
    let long : length marks ≡ length values = length-map stands.codes (λ (code : ℕ). get_or hits code false) ∙ stands.numbered.long in
    marked values still ∙ ext_get_or false marks (map f values) (long ∙ sym (length-map values f)) (λ i less.
    let within : i < length values = omega (arith, less, long) in
    let row : i < length stands.codes = omega (arith, within, stands.numbered.long) in
    let code = get_or stands.codes i 0 in
    let a = stands.numbered.each i within in
    get_or-map (λ (c : ℕ). get_or hits c false) stands.codes i 0 false row
    ∙ ap (λ (hs : List Bool). get_or hs code false) each ∙ get_or-map f (Null ∷ stands.known) code Null false a.within ∙ ap f a.there
    ∙ sym (get_or-map f values i Null false within))

-- what was found before more was read
pub entries_still : (lf : Lf) (t u : ℕ → Option Pages) (hits : List Bool) (pages : Pages) → t lf.first ≡ u lf.first → t lf.second ≡ u lf.second → t lf.third ≡ u lf.third → AreHitEntries lf t hits pages → AreHitEntries lf u hits pages
entries_still lf t u hits pages e1 e2 e3 are = λ values stands. are values (stands_still lf u t values e1 e2 e3 stands)

pub chunk_still : (lf : Lf) (t u : ℕ → Option Pages) (hits : List Bool) (chunk : ℕ) (page : List ℕ) → u lf.first ≡ t lf.first → u lf.second ≡ t lf.second → u lf.third ≡ t lf.third → IsMarkedChunk lf u hits chunk page → IsMarkedChunk lf t hits chunk page
chunk_still lf t u hits chunk page e1 e2 e3 is = λ values stands. is values (stands_still lf t u values e1 e2 e3 stands)

pub reads_within : (p d chunk chunks : ℕ) → chunk < chunks → p + d * chunk + d ≤ p + d * chunks
reads_within p d chunk chunks less =
    let most = mul-le d (chunk + 1) d chunks (omega arith) (omega (arith, less)) in
    let next : d * (chunk + 1) ≡ d * chunk + d = omega arith in
    omega (arith, most, next)

pub adds_named : (e : ℕ) (told : Option Pages) (old new : List Bool) → e ≢ 0 → AddsBitmap (e - 1) told old new → AddsEntry e told old new
adds_named zero told old new some adds = absurd (some refl)
adds_named (suc n) told old new some adds = (let same : suc n - 1 ≡ n = omega arith in rw same at adds)

-- why an entry's bitmap isn't read
pub entry_cause : (lf : Lf) (k e : ℕ) (a b c : Seen) (fault : PageFault) → KeepsObjects a b → a.faults ≤ b.faults → k < entries_in lf → ((values : List Value) (stands : Stands lf a.told values) → entry_in stands.numbers k ≡ e) → HasEntryCause lf.third e b c fault → HasLfCause lf a c fault
entry_cause lf k e a b c (Failed x y) kept later within are h = rose_since _ _ _ _ _ later h
entry_cause lf k e a b c (BadPage named n) kept later within are h = (
  inr (inr h.0),
  λ values stands. (
      let is = page_named stands.bitmaps_held.pages (due stands.codes k) (entry_in stands.numbers k) n (are values stands ∙ h.1) (stands.bitmaps_held.named k within) in
      h.2 (stands.bitmaps_held.pages, kept.told lf.third ∙ stands.bitmaps_held.told_is, is.there)),
)
entry_cause lf k e a b c NoMemory kept later within are h = tt
