-- Reading the chunks of an object.
use Rattle.std.proofs.Common.{◌≡◌, ◌<◌, ◌≤◌, ℕ, ◌+◌, ◌-◌, ◌*◌, ◌/◌, ◌%◌, inl, inr, Bool, false, List, [], Option, Some, None, length, get_or, refl, sym, ap, ap₂, ◌∙◌, arith}
use Rattle.std.proofs.lemmas.Bool.{cases_lt}
use Rattle.std.proofs.lemmas.List.{ext_get_or}
use Rattle.std.proofs.lemmas.Option.{get_or_from_slice_get}
use Rattle.iq_pages.specs.Pages.{Pages, Seen, IsPageOf, NamesPage, KeepsObjects, HasCause}
use Rattle.iq_pages.specs.declared.page_faults.PageFault.{PageFault}
use Rattle.iq_pages.specs.declared.page_faults.PageFault.TheVariants.{Failed, BadPage, NoMemory}
use Rattle.iq_pages.proofs.PageLaws.{rose_since}
use Rattle.iq_bitmap.specs.Bits.{page_bits, with_chunk}
use Rattle.iq_bitmap.proofs.Chunks.{length-page_bits, length-with_chunk, get_or-with_chunk_in, get_or-with_chunk_out, get_or-chunk_of}
use Rattle.iq_pieces.specs.Objects.{page_at}
use Rattle.iq_pieces.specs.Faults.{HasPage, HasPageCause}
use Rattle.iq_chunks.specs.Chunks.{chunks_for, GivesBits, LacksPage, HasBitsCause}

-- where the pages are told, the rows below a number are theirs
abbrev pub AreLoaded : Option Pages → ℕ → List Bool → Type 0
AreLoaded told done bits = (pages : Pages) → told ≡ Some pages → (i : ℕ) → i < done → i < length bits → get_or bits i false ≡ get_or (page_bits (page_at (i / 8064) pages)) (i % 8064) false

-- one page more
pub loads_next : (told : Option Pages) (chunk : ℕ) (bits : List Bool) (page : List ℕ) → IsPageOf told chunk page → AreLoaded told (chunk * 8064) bits → AreLoaded told ((chunk + 1) * 8064) (with_chunk chunk bits (page_bits page))
loads_next told chunk bits page of done = λ pages is i below within.
    let long = length-page_bits page in
    let inside : i < length bits = omega (arith, length-with_chunk chunk bits (page_bits page)) in
    elim (cases_lt i (chunk * 8064)) [
      | inl low ↦ get_or-with_chunk_out chunk bits (page_bits page) i long (inl low) ∙ done pages is i low inside
      | inr on ↦ (
          let here : page_at chunk pages ≡ page = get_or_from_slice_get pages chunk page [] (rw is at of) in
          let which : i / 8064 ≡ chunk = omega arith in
          let place : i - chunk * 8064 ≡ i % 8064 = omega arith in
          get_or-with_chunk_in chunk bits (page_bits page) i long on (omega arith) inside
          ∙ ap₂ (λ (p : List ℕ) (k : ℕ). get_or (page_bits p) k false) (sym (ap (λ (c : ℕ). page_at c pages) which ∙ here)) place)
    ]

-- once all are loaded, these are the bits
pub gives_bits : (told : Option Pages) (len done : ℕ) (bits : List Bool) → length bits ≡ len → len ≤ done → AreLoaded told done bits → GivesBits told len bits
gives_bits told len done got long all loaded = λ bits e h.
    ext_get_or false got bits (long ∙ sym e)
    (λ i less.
    let chunk = i / 8064 in
    let within : chunk < chunks_for (length bits) = omega arith in
    let place : chunk * 8064 + i % 8064 ≡ i = omega arith in
    loaded h.pages h.told_is i (omega arith) less
    ∙ ap (λ (bs : List Bool). get_or bs (i % 8064) false) (h.held chunk within).bits_are
    ∙ get_or-chunk_of chunk bits (i % 8064) (omega arith) ∙ ap (λ (k : ℕ). get_or bits k false) place)

-- an object that has no such page lacks it
pub lacks : (told : Option Pages) (len page : ℕ) → page < chunks_for len → ¬ (HasPage told page) → LacksPage told len page
lacks None len page h none = tt
lacks (Some pages) len page h none = elim (cases_lt page (length pages)) [
  | inl there ↦ absurd (none (pages, refl, there))
  | inr past ↦ (past, h)
]

-- why a page isn't read that so many rows need
pub read_cause : (object len page : ℕ) (a b c : Seen) (fault : PageFault) → KeepsObjects a b → a.faults ≤ b.faults → page < chunks_for len → NamesPage page fault → HasPageCause object b c fault → HasBitsCause object len a c fault
read_cause object len page a b c (Failed x y) kept later need names h = rose_since _ _ _ _ _ later h
read_cause object len page a b c (BadPage named n) kept later need names h =
    (h.0, lacks (a.told object) len n (rw names need) (λ has. h.1 (has.0, kept.told object ∙ has.1, has.2)))
read_cause object len page a b c NoMemory kept later need names h = tt

-- why a page isn't written: the store failed, or the object isn't told and wasn't
pub dark_bits_cause : (object len : ℕ) (a b c : Seen) (fault : PageFault) → (b.told object ≡ None → a.told object ≡ None) → a.faults ≤ b.faults → HasCause object b c fault → HasBitsCause object len a c fault
dark_bits_cause object len a b c (Failed x y) dark later h = rose_since _ _ _ _ _ later h
dark_bits_cause object len a b c (BadPage named n) dark later h = (h.0, rw (dark h.1) tt)
dark_bits_cause object len a b c NoMemory dark later h = tt
