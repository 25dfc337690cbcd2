-- Reading one plane of an object.
use Rattle.std.proofs.Common.{◌≡◌, ◌<◌, ◌≤◌, ℕ, ◌+◌, ◌-◌, ◌*◌, ◌/◌, ◌%◌, inl, inr, Bool, false, List, [], Option, Some, None, length, get_or, refl, sym, ap, ap₂, ◌∙◌, arith}
use Rattle.std.proofs.lemmas.Bool.{cases_lt}
use Rattle.std.proofs.lemmas.Nat.{mul-add-lt, div-mul-add, mod-mul-add}
use Rattle.std.proofs.lemmas.List.{ext_get_or}
use Rattle.std.proofs.lemmas.Option.{get_or_from_slice_get}
use Rattle.iq_pages.specs.Pages.{Pages, Seen, IsPageOf, NamesPage, KeepsObjects}
use Rattle.iq_pages.specs.declared.page_faults.PageFault.{PageFault}
use Rattle.iq_pages.specs.declared.page_faults.PageFault.TheVariants.{Failed, BadPage, NoMemory}
use Rattle.iq_pages.proofs.PageLaws.{rose_since}
use Rattle.iq_bitmap.specs.Bits.{page_bits, chunk_of, with_chunk}
use Rattle.iq_bitmap.proofs.Chunks.{length-page_bits, length-with_chunk, get_or-with_chunk_in, get_or-with_chunk_out, get_or-chunk_of}
use Rattle.iq_pieces.specs.Objects.{page_at}
use Rattle.iq_pieces.specs.Faults.{HasPage, HasPageCause}
use Rattle.iq_chunks.specs.Chunks.{chunks_for}
use Rattle.iq_planes.specs.Planes.{plane_at, bits_at, GivesPlane, LacksPage, HasPlanesCause}

-- where the pages are told, the rows below a number are those of plane j
abbrev pub AreLoaded : Option Pages → ℕ → ℕ → ℕ → List Bool → Type 0
AreLoaded told k j done bits = (pages : Pages) → told ≡ Some pages → (i : ℕ) → i < done → i < length bits → get_or bits i false ≡ get_or (page_bits (page_at (i / 8064 * k + j) pages)) (i % 8064) false

-- one page more
pub loads_next : (told : Option Pages) (k j chunk : ℕ) (bits : List Bool) (page : List ℕ) → IsPageOf told (chunk * k + j) page → AreLoaded told k j (chunk * 8064) bits → AreLoaded told k j ((chunk + 1) * 8064) (with_chunk chunk bits (page_bits page))
loads_next told k j chunk bits page of done = λ pages is i below within.
    let long = length-page_bits page in
    let inside : i < length bits = omega (arith, length-with_chunk chunk bits (page_bits page)) in
    elim (cases_lt i (chunk * 8064)) [
      | inl low ↦ get_or-with_chunk_out chunk bits (page_bits page) i long (inl low) ∙ done pages is i low inside
      | inr on ↦ (
          let here : page_at (chunk * k + j) pages ≡ page = get_or_from_slice_get pages (chunk * k + j) page [] (rw is at of) in
          let which : i / 8064 ≡ chunk = omega arith in
          let place : i - chunk * 8064 ≡ i % 8064 = omega arith in
          get_or-with_chunk_in chunk bits (page_bits page) i long on (omega arith) inside
          ∙ ap₂ (λ (p : List ℕ) (r : ℕ). get_or (page_bits p) r false) (sym (ap (λ (c : ℕ). page_at (c * k + j) pages) which ∙ here)) place)
    ]

-- the bits of a page of plane j
pub bits_of_plane : (k j chunk : ℕ) (planes : List (List Bool)) → j < k → bits_at k planes (chunk * k + j) ≡ chunk_of chunk (plane_at j planes)
bits_of_plane k j chunk planes less = ap₂ (λ (c i : ℕ). chunk_of c (plane_at i planes)) (div-mul-add chunk k j less) (mod-mul-add chunk k j less)

-- once all are loaded, these are the bits of the plane
pub gives_plane : (told : Option Pages) (k len j done : ℕ) (bits : List Bool) → j < k → length bits ≡ len → len ≤ done → AreLoaded told k j done bits → GivesPlane told k len j bits
gives_plane told k len j done got less long all loaded = λ planes h.
    ext_get_or false got (plane_at j planes) (long ∙ sym (h.are.long j less))
    (λ i there.
    let chunk = i / 8064 in
    let within : chunk < chunks_for len = omega arith in
    let place : chunk * 8064 + i % 8064 ≡ i = omega arith in
    loaded h.pages h.told_is i (omega arith) there
    ∙ ap (λ (bs : List Bool). get_or bs (i % 8064) false) (h.held (chunk * k + j) (mul-add-lt chunk k j (chunks_for len) within less) ∙ bits_of_plane k j chunk planes less)
    ∙ get_or-chunk_of chunk (plane_at j planes) (i % 8064) (omega arith) ∙ ap (λ (r : ℕ). get_or (plane_at j planes) r false) place)

-- an object that has no such page lacks it
pub lacks : (told : Option Pages) (k len page : ℕ) → page < k * chunks_for len → ¬ (HasPage told page) → LacksPage told k len page
lacks None k len page h none = tt
lacks (Some pages) k len page h none = elim (cases_lt page (length pages)) [
  | inl there ↦ absurd (none (pages, refl, there))
  | inr past ↦ (past, h)
]

-- why a page isn't read that the planes need
pub read_cause : (object k len page : ℕ) (a b c : Seen) (fault : PageFault) → KeepsObjects a b → a.faults ≤ b.faults → page < k * chunks_for len → NamesPage page fault → HasPageCause object b c fault → HasPlanesCause object k len a c fault
read_cause object k len page a b c (Failed x y) kept later need names h = rose_since _ _ _ _ _ later h
read_cause object k len page a b c (BadPage named n) kept later need names h =
    (h.0, lacks (a.told object) k len n (rw names need) (λ has. h.1 (has.0, kept.told object ∙ has.1, has.2)))
read_cause object k len page a b c NoMemory kept later need names h = tt
