-- Rows that are put to those of an entry.
use Rattle.std.proofs.Common.{◌≡◌, ◌≢◌, ◌<◌, ◌≤◌, ◌+◌, ◌-◌, ℕ, Bool, false, List, [], ◌∷◌, ◌++◌, append-nil, take, drop, Option, Some, None, length, set, sym, ap, ◌∙◌, subst, arith, IfSome}
use Rattle.std.specs.Option.{option_map}
use Rattle.std.proofs.lemmas.List.{append_assoc, ext_get_or, length-append, length-take, take_all}
use Rattle.std.proofs.Math.Seq.{take-add}
use Rattle.std.proofs.lemmas.Option.{get_or_from_slice_get}
use Rattle.iq_pages.specs.declared.page_faults.PageFault.{PageFault}
use Rattle.iq_pages.specs.declared.page_faults.PageFault.TheVariants.{Failed, BadPage, NoMemory}
use Rattle.iq_pages.specs.Pages.{Pages, Seen, IsPageOf, NamesPage, HasCause}
use Rattle.iq_pages.proofs.PageLaws.{rose_since}
use Rattle.iq_bitmap.specs.Bits.{page_bits, either}
use Rattle.iq_pieces.specs.Objects.{page_at}
use Rattle.iq_pieces.specs.Faults.{HasPageCause}
use Rattle.iq_lf.specs.Entries.{entry_in, HasNone, HoldsBitmaps}
use Rattle.iq_lf.specs.Stands.{due}
use Rattle.iq_lf.specs.Steps.{SetsEntry, AddsRows, AddsCodes, Widens, HoldNothing, HasMergeCause, HasRowsCause}
use Rattle.iq_lf.proofs.RowLaws.{mixed}
use Rattle.iq_lf.proofs.BitmapLaws.{names_none, length-either, either_none, adds_new, adds_to, entry_most, pages_most}

-- a page of bitmaps is read, gets rows and is written
pub widens_page : (told told' : Option Pages) (n : ℕ) (rows : List Bool) (loaded page : List ℕ) → IsPageOf told n loaded → page_bits page ≡ either (page_bits loaded) rows
    → told' ≡ option_map (λ (pages : Pages). set pages n page) told → Widens n rows told told'
widens_page told told' n rows loaded page of filled is = λ pages e.
    let here : page_at n pages ≡ loaded = get_or_from_slice_get pages n loaded [] (rw e at of) in
    (page, rw e at is, filled ∙ ap (λ (p : List ℕ). either (page_bits p) rows) (sym here))

pub merges_to : (told told' : Option Pages) (k n : ℕ) (rows : List Bool) (numbers : Pages) → length rows ≡ 8064 → ¬ (HasNone rows) → entry_in numbers k ≡ n + 1 → Widens n rows told told' → AddsRows k rows told told' numbers numbers
merges_to told told' k n rows numbers long some named widens = λ count bits within few long' h.
    let w = widens h.pages h.told_is in
    adds_to h told' k n rows w.0 within long' long some named w.2 w.1

pub merges_new : (told told' : Option Pages) (k have : ℕ) (rows : List Bool) (numbers numbers' : Pages) (page : List ℕ) → length rows ≡ 8064 → ¬ (HasNone rows) → entry_in numbers k ≡ 0
    → IfSome told (λ pages. length pages ≡ have) → page_bits page ≡ rows → told' ≡ option_map (λ (pages : Pages). pages ++ page ∷ []) told → SetsEntry k (have + 1) numbers numbers' → AddsRows k rows told told' numbers numbers'
merges_new told told' k have rows numbers numbers' page long some none many filled is sets = λ count bits within few long' h.
    let size : length h.pages ≡ have = rw h.told_is at many in
    let empty : HasNone (bits k) = names_none h.pages (bits k) (entry_in numbers k) none (h.named k within) in
    let even : length (bits k) ≡ length rows = long' ∙ sym long in
    let whole : length (either (bits k) rows) ≡ 8064 = length-either (bits k) rows even ∙ long' in
    let same : either (bits k) rows ≡ rows = ext_get_or false (either (bits k) rows) rows (whole ∙ sym long) (λ i less. either_none (bits k) rows even empty i (omega (arith, less, whole, long'))) in
    adds_new h told' k rows numbers' page within long' long some none (filled ∙ sym same) (subst (λ (n : ℕ). SetsEntry k (n + 1) numbers numbers') (sym size) sets) (rw h.told_is at is)

-- why a bitmap isn't widened
pub widen_cause : (object k n : ℕ) (numbers : Pages) (a b : Seen) (fault : PageFault) → entry_in numbers k ≡ n + 1 → NamesPage n fault → HasPageCause object a b fault → HasMergeCause object numbers k a b fault
widen_cause object k n numbers a b (Failed x y) named names h = h
widen_cause object k n numbers a b (BadPage o p) named names h =
    (h.0, λ count bits within few held. h.1 (held.pages, held.told_is, (let most = entry_most held k within in omega (arith, names, named, most))))
widen_cause object k n numbers a b NoMemory named names h = tt

-- why a new bitmap isn't written
pub push_cause : (object k : ℕ) (numbers : Pages) (a b : Seen) (fault : PageFault) → HasCause object a b fault → HasMergeCause object numbers k a b fault
push_cause object k numbers a b (Failed x y) h = h
push_cause object k numbers a b (BadPage o p) h = (h.0, λ count bits within few held. none_some (a.told object) held.pages h.1 held.told_is)
  where
    none_some : (o : Option Pages) (pages : Pages) → o ≡ None → o ≡ Some pages → ⊥
    none_some o pages e f = cc
push_cause object k numbers a b NoMemory h = tt

-- an object with as many pages as it may have holds no bitmaps of so few entries
pub full_holds_nothing : (told : Option Pages) (numbers : Pages) (k have : ℕ) → IfSome told (λ pages. length pages ≡ have) → 63504 ≤ have → HoldNothing told numbers k
full_holds_nothing told numbers k have many full = λ count bits within few held.
    let size : length held.pages ≡ have = rw held.told_is at many in
    let most = pages_most held in
    absurd (omega (arith, size, most, few, full))

pub one_less : (e r : ℕ) → r ≡ e → r ≢ 0 → e ≡ r - 1 + 1
one_less e r is some = omega (arith, is, some)

-- rows behind rows, piece by piece
pub adds_none : (count slots : ℕ) (codes : List ℕ) (told : Option Pages) (numbers : Pages) → AddsCodes count slots (take 0 codes) told told numbers numbers
adds_none count slots codes told numbers = λ cs long h. rw (append-nil cs) h

pub adds_step : (count slots done more : ℕ) (codes : List ℕ) (a b d : Option Pages) (m n o : Pages) → done ≤ length codes
    → AddsCodes count slots (take done codes) a b m n → AddsCodes count (slots + done) (take more (drop done codes)) b d n o → AddsCodes count slots (take (done + more) codes) a d m o
adds_step count slots done more codes a b d m n o within first second = λ cs long h.
    let size : length (cs ++ take done codes) ≡ slots + done = omega (arith, length-append cs (take done codes), length-take done codes, long, within) in
    let joined : (cs ++ take done codes) ++ take more (drop done codes) ≡ cs ++ take (done + more) codes = append_assoc cs (take done codes) (take more (drop done codes)) ∙ ap (λ (xs : List ℕ). cs ++ xs) (sym (take-add done more codes)) in
    rw (← joined) (second (cs ++ take done codes) size (first cs long h))

pub adds_all : (count slots done : ℕ) (codes : List ℕ) (a b : Option Pages) (m n : Pages) → length codes ≤ done → AddsCodes count slots (take done codes) a b m n → AddsCodes count slots codes a b m n
adds_all count slots done codes a b m n all adds = rw (take_all) at adds

-- why a piece isn't put behind
pub piece_cause : (object count slots done : ℕ) (codes : List ℕ) (m n : Pages) (a b c : Seen) (fault : PageFault) → done ≤ length codes → a.faults ≤ b.faults
    → AddsCodes count slots (take done codes) (a.told object) (b.told object) m n → HasRowsCause object count (slots + done) n b c fault → HasRowsCause object count slots m a c fault
piece_cause object count slots done codes m n a b c (Failed x y) within later adds h = rose_since _ _ _ _ _ later h
piece_cause object count slots done codes m n a b c (BadPage o p) within later adds h =
    (h.0, λ cs long held. h.1 (cs ++ take done codes) (omega (arith, length-append cs (take done codes), length-take done codes, long, within)) (adds cs long held))
piece_cause object count slots done codes m n a b c NoMemory within later adds h = tt

-- why a value's rows aren't put to its entry
pub value_cause : (object count from v k : ℕ) (more : List ℕ) (m n : Pages) (a b c : Seen) (fault : PageFault) → k < count → count ≤ 33000 → a.faults ≤ b.faults
    → ((codes : List ℕ) → length codes ≡ from → HoldsBitmaps (a.told object) count m (due codes) → HoldsBitmaps (b.told object) count n (mixed v codes more)) → HasMergeCause object n k b c fault → HasRowsCause object count from m a c fault
value_cause object count from v k more m n a b c (Failed x y) within few later adds h = rose_since _ _ _ _ _ later h
value_cause object count from v k more m n a b c (BadPage o p) within few later adds h = (h.0, λ cs long held. h.1 count (mixed v cs more) within few (adds cs long held))
value_cause object count from v k more m n a b c NoMemory within few later adds h = tt
