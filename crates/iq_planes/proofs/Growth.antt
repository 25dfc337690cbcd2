-- More rows behind those of an object of planes.
use Rattle.std.proofs.Common.{◌≡◌, ◌<◌, ◌≤◌, ℕ, ◌+◌, ◌-◌, ◌*◌, ◌/◌, ◌%◌, min, max, inl, inr, Bool, false, List, [], ◌∷◌, ◌++◌, append-nil, take, drop, Option, Some, length, get_or, replicate, refl, sym, ap, ap₂, ◌∙◌, arith}
use Rattle.std.proofs.lemmas.Bool.{cases_lt}
use Rattle.std.proofs.lemmas.Grind.{common_steps}
use Rattle.std.proofs.lemmas.Nat.{mul-le, mul-add-lt, div-add-mod', div_below, le-div, mod_below}
use Rattle.std.proofs.lemmas.List.{ext_get_or, length-append, length-take, length-drop, get_or_append_left, get_or-append-add, get_or-replicate, get_or_past}
use Rattle.std.proofs.lemmas.Simd.{length-zip2, get_or-zip2}
use Rattle.std.proofs.lemmas.Option.{get_or_from_slice_get}
use Rattle.iq_pages.specs.Pages.{Pages, IsPageOf}
use Rattle.iq_bitmap.specs.Bits.{page_bits, chunk_of}
use Rattle.iq_bitmap.proofs.Chunks.{length-page_bits, length-chunk_of, get_or-chunk_of}
use Rattle.iq_pieces.specs.Objects.{page_at, put_page, SavesPage}
use Rattle.iq_pieces.proofs.PutPage.{put_here, put_before, put_length}
use Rattle.iq_chunks.specs.Chunks.{chunks_for}
use Rattle.iq_chunks.proofs.PageRows.{page_bits-zeros}
use Rattle.iq_planes.specs.Planes.{plane_at, ArePlanes, bits_at, HoldsPlanes, grown, AppendsRows, PutsRows}
use Rattle.iq_planes.specs.Growing.{GrownTo, SavesNext, Lengthens}

-- NUMBERS OF PAGES

-- a page whose chunk begins before the last row is one that the rows need
pub old_page : (k len at : ℕ) → 0 < k → at / k * 8064 < len → at < k * chunks_for len
old_page k len at some begins =
    let within : at / k < chunks_for len = omega arith in
    let whole : at / k * k + at % k ≡ at = div-add-mod' at k in
    let less : at / k * k + at % k < k * chunks_for len = mul-add-lt (at / k) k (at % k) (chunks_for len) within (mod_below at k some) in
    omega (arith, whole, less)

-- and one whose chunk doesn't is none
pub new_page : (k len at : ℕ) → 0 < k → at < k * chunks_for len → at / k * 8064 < len
new_page k len at some less =
    let within : at / k < chunks_for len = div_below at k (chunks_for len) some (let e : chunks_for len * k ≡ k * chunks_for len = omega arith in omega (arith, e, less)) in
    omega (arith, within)

-- THE BITS OF ONE PAGE

-- the bits of a chunk in which rows were put behind those that it has
pub chunk_put : (bits more : List Bool) (c len n : ℕ) (loaded page : List ℕ) → length bits ≡ len → length more ≡ n
    → page_bits loaded ≡ chunk_of c bits
    → PutsRows (max len (c * 8064) - c * 8064) (min (len + n) (c * 8064 + 8064) - c * 8064) (max len (c * 8064) - len) more (page_bits loaded) (page_bits page)
    → len / 8064 ≤ c → c * 8064 < len + n
    → page_bits page ≡ chunk_of c (bits ++ more)
chunk_put bits more c len n loaded page long rows begins puts from to =
    ext_get_or false (page_bits page) (chunk_of c (bits ++ more)) (length-page_bits page ∙ sym (length-chunk_of c (bits ++ more)))
    (λ i h. let less : i < 8064 = omega (arith, length-page_bits page) in
    let was : get_or (page_bits loaded) i false ≡ get_or bits (c * 8064 + i) false = ap (λ (bs : List Bool). get_or bs i false) begins ∙ get_or-chunk_of c bits i less in
    let is : get_or (chunk_of c (bits ++ more)) i false ≡ get_or (bits ++ more) (c * 8064 + i) false = get_or-chunk_of c (bits ++ more) i less in
    elim (cases_lt (c * 8064 + i) len) [
      | inl early ↦ puts.others i (inl (omega arith)) ∙ was ∙ sym (is ∙ get_or_append_left bits more false (c * 8064 + i) (omega (arith, long)))
      | inr late ↦ elim (cases_lt (c * 8064 + i) (len + n)) [
        | inl inside ↦ (
            let place : max len (c * 8064) - len + (i - (max len (c * 8064) - c * 8064)) ≡ c * 8064 + i - len = omega arith in
            let behind : length bits + (c * 8064 + i - len) ≡ c * 8064 + i = omega (arith, long) in
            puts.within i (omega arith) (omega arith) ∙ ap (λ (r : ℕ). get_or more r false) place
            ∙ sym (is ∙ ap (λ (r : ℕ). get_or (bits ++ more) r false) (sym behind) ∙ get_or-append-add bits more (c * 8064 + i - len) false))
        | inr past ↦ puts.others i (inr (omega arith)) ∙ was ∙ get_or_past bits (c * 8064 + i) false (omega (arith, long))
            ∙ sym (is ∙ get_or_past (bits ++ more) (c * 8064 + i) false (omega (arith, long, rows, length-append bits more)))
      ]
    ])

-- a page of zeros has the bits of a chunk past the rows
pub empty_chunk : (bits : List Bool) (c : ℕ) → length bits ≤ c * 8064 → page_bits (replicate 1008 0) ≡ chunk_of c bits
empty_chunk bits c past =
    ext_get_or false (page_bits (replicate 1008 0)) (chunk_of c bits) (length-page_bits (replicate 1008 0) ∙ sym (length-chunk_of c bits))
    (λ i h. let less : i < 8064 = omega (arith, length-page_bits (replicate 1008 0)) in
    ap (λ (bs : List Bool). get_or bs i false) page_bits-zeros ∙ get_or-replicate 8064 i false false less
    ∙ sym (get_or-chunk_of c bits i less ∙ get_or_past bits (c * 8064 + i) false (omega arith)))

-- PLANES THAT GROW

-- a plane with its rows behind
pub plane-grown : (k len n j : ℕ) (planes more : List (List Bool)) → ArePlanes k len planes → ArePlanes k n more → j < k
    → plane_at j (grown planes more) ≡ plane_at j planes ++ plane_at j more
plane-grown k len n j planes more are rows less =
    get_or-zip2 (λ (bits ones : List Bool). bits ++ ones) planes more j [] [] [] (omega (arith, are.count)) (omega (arith, rows.count))

pub are-grown : (k len n : ℕ) (planes more : List (List Bool)) → ArePlanes k len planes → ArePlanes k n more → ArePlanes k (len + n) (grown planes more)
are-grown k len n planes more are rows = record {
  count = length-zip2 (λ (bits ones : List Bool). bits ++ ones) planes more (are.count ∙ sym rows.count) ∙ are.count;
  long = λ j less. ap length (plane-grown k len n j planes more are rows less) ∙ length-append (plane_at j planes) (plane_at j more)
      ∙ ap₂ (λ (a b : ℕ). a + b) (are.long j less) (rows.long j less);
}

-- a chunk that is full stays
pub full_chunk : (bits more : List Bool) (c : ℕ) → c * 8064 + 8064 ≤ length bits → chunk_of c (bits ++ more) ≡ chunk_of c bits
full_chunk bits more c full =
    ext_get_or false (chunk_of c (bits ++ more)) (chunk_of c bits) (length-chunk_of c (bits ++ more) ∙ sym (length-chunk_of c bits))
    (λ i h. let less : i < 8064 = omega (arith, length-chunk_of c (bits ++ more)) in
    get_or-chunk_of c (bits ++ more) i less ∙ get_or_append_left bits more false (c * 8064 + i) (omega arith) ∙ sym (get_or-chunk_of c bits i less))

-- THE NEXT PAGE

-- the pages behind one that was put stay
put_behind : (pages : Pages) (n p : ℕ) (page : List ℕ) → n ≤ length pages → n < p → page_at p (put_page n page pages) ≡ page_at p pages
put_behind pages n p page h l = grind (arith, common_steps)

-- whatever planes the pages held, and have grown up to this page, the page begins as theirs
abbrev pub BeginsPage : ℕ → ℕ → ℕ → ℕ → List (List Bool) → Option Pages → List ℕ → Type 0
BeginsPage k len n at more told loaded =
    (planes : List (List Bool)) (first : Pages) → HoldsPlanes (Some first) k len planes → GrownTo k len n at planes more first told → page_bits loaded ≡ bits_at k planes at

pub begins_read : (k len n at : ℕ) (more : List (List Bool)) (told : Option Pages) (loaded : List ℕ) → at < k * chunks_for len → IsPageOf told at loaded → BeginsPage k len n at more told loaded
begins_read k len n at more told loaded within of = λ planes first h so_far.
    let here : page_at at so_far.pages ≡ loaded = get_or_from_slice_get so_far.pages at loaded [] (rw so_far.told_is at of) in
    let same : h.pages ≡ first = cc in
    let was : page_at at first ≡ page_at at h.pages = ap (λ (ps : Pages). page_at at ps) (sym same) in
    let there : at < length first = omega (arith, h.count, ap length same) in
    ap page_bits (sym here ∙ so_far.old at (omega arith) there ∙ was) ∙ h.held at within

pub begins_empty : (k len n at : ℕ) (more : List (List Bool)) (told : Option Pages) (loaded : List ℕ) → 0 < k → len ≤ at / k * 8064 → loaded ≡ replicate 1008 0 → BeginsPage k len n at more told loaded
begins_empty k len n at more told loaded some past is = λ planes first h so_far.
    ap page_bits is ∙ empty_chunk (plane_at (at % k) planes) (at / k) (omega (arith, past, h.are.long (at % k) (mod_below at k some)))

-- the page, with its rows, is saved
pub saves_next : (k len n at : ℕ) (more : List (List Bool)) (a b : Option Pages) (loaded page : List ℕ) → 0 < k → ArePlanes k n more
    → k * (len / 8064) ≤ at → at < k * chunks_for (len + n)
    → BeginsPage k len n at more a loaded
    → PutsRows (max len (at / k * 8064) - at / k * 8064) (min (len + n) (at / k * 8064 + 8064) - at / k * 8064) (max len (at / k * 8064) - len) (plane_at (at % k) more) (page_bits loaded) (page_bits page)
    → SavesPage at page a b
    → SavesNext k len n at more a b
saves_next k len n at more a b loaded page some rows from to begins puts saves = λ planes first h so_far.
    let c = at / k in
    let j = at % k in
    let less : j < k = mod_below at k some in
    let reached : at ≤ length so_far.pages = omega (arith, so_far.count) in
    let size = put_length so_far.pages at page reached in
    let low : len / 8064 ≤ c = le-div (len / 8064) at k some (omega (arith, from)) in
    let high : c * 8064 < len + n = new_page k (len + n) at some to in
    let filled : page_bits page ≡ chunk_of c (plane_at j planes ++ plane_at j more) =
    chunk_put (plane_at j planes) (plane_at j more) c len n loaded page (h.are.long j less) (rows.long j less) (begins planes first h so_far) puts low high in
    let bits : page_bits page ≡ bits_at k (grown planes more) at = filled ∙ ap (λ (bs : List Bool). chunk_of c bs) (sym (plane-grown k len n j planes more h.are rows less)) in
    record {
      pages = put_page at page so_far.pages;
      told_is = saves so_far.pages so_far.told_is;
      count = omega (arith, size, so_far.count);
      new = λ p before. elim (cases_lt p at) [
        | inl earlier ↦ ap page_bits (put_before so_far.pages at p page reached earlier) ∙ so_far.new p earlier
        | inr on ↦ (
            let same : p ≡ at = omega arith in
            ap (λ (q : ℕ). page_bits (page_at q (put_page at page so_far.pages))) same ∙ ap page_bits (put_here so_far.pages at page reached) ∙ bits
            ∙ ap (λ (q : ℕ). bits_at k (grown planes more) q) (sym same))
      ];
      old = λ p behind there. put_behind so_far.pages at p page reached (omega arith) ∙ so_far.old p (omega arith) there;
    }

-- and no page is lost
pub saves_longer : (n : ℕ) (page : List ℕ) (a b : Option Pages) → SavesPage n page a b → Lengthens a b
saves_longer n page a b saves = λ pages e. (
  put_page n page pages,
  saves pages e,
  omega (arith, length-append (take n pages) (page ∷ drop (n + 1) pages), length-take n pages, length-drop (n + 1) pages),
)

-- ALL PAGES

-- once all pages were written, the object holds the planes with the rows behind
pub grown_all : (k len n end : ℕ) (planes more : List (List Bool)) (first : Pages) (told : Option Pages) → ArePlanes k n more → k * chunks_for (len + n) ≡ end
    → HoldsPlanes (Some first) k len planes → GrownTo k len n end planes more first told → HoldsPlanes told k (len + n) (grown planes more)
grown_all k len n end planes more first told rows e h all =
    let same : h.pages ≡ first = cc in
    let fewer : k * chunks_for len ≤ k * chunks_for (len + n) = mul-le k (chunks_for len) k (chunks_for (len + n)) (omega arith) (omega arith) in
    record {
      pages = all.pages;
      told_is = all.told_is;
      are = are-grown k len n planes more h.are rows;
      count = omega (arith, all.count, h.count, ap length same, fewer, e);
      held = λ p less. all.new p (omega (arith, e));
    }

-- before the first page nothing has grown
pub grown_none : (k len n at : ℕ) (planes more : List (List Bool)) (first : Pages) → at ≤ k * (len / 8064) → ArePlanes k n more → HoldsPlanes (Some first) k len planes → 0 < k → GrownTo k len n at planes more first (Some first)
grown_none k len n at planes more first low rows h some =
    let same : h.pages ≡ first = cc in
    let fewer : k * (len / 8064) ≤ k * chunks_for len = mul-le k (len / 8064) k (chunks_for len) (omega arith) (omega arith) in
    record {
      pages = first;
      told_is = refl;
      count = omega (arith, low, fewer, h.count, ap length same);
      new = λ p before.
          let c = p / k in
          let j = p % k in
          let less : j < k = mod_below p k some in
          let full : c < len / 8064 = div_below p k (len / 8064) some (omega (arith, low, before)) in
          let within : p < k * chunks_for len = omega (arith, low, fewer, before) in
          ap (λ (ps : Pages). page_bits (page_at p ps)) (sym same) ∙ h.held p within
          ∙ sym (ap (λ (bs : List Bool). chunk_of c bs) (plane-grown k len n j planes more h.are rows less)
          ∙ full_chunk (plane_at j planes) (plane_at j more) c (omega (arith, full, h.are.long j less)));
      old = λ p behind there. refl;
    }

-- without rows nothing comes behind
pub appends_none : (k len n : ℕ) (more : List (List Bool)) (told : Option Pages) → 0 < k → n ≡ 0 → ArePlanes k n more → AppendsRows k len n more told told
appends_none k len n more told some none rows = λ planes h.
    let long : len + n ≡ len = omega (arith, none) in
    record {
      pages = h.pages;
      told_is = h.told_is;
      are = are-grown k len n planes more h.are rows;
      count = rw long h.count;
      held = λ p within.
          let j = p % k in
          let less : j < k = mod_below p k some in
          let inside : p < k * chunks_for len = rw long at within in
          let same : plane_at j (grown planes more) ≡ plane_at j planes =
          plane-grown k len n j planes more h.are rows less
          ∙ ap (λ (bits : List Bool). plane_at j planes ++ bits) (no_rows (plane_at j more) (omega (arith, rows.long j less, none)))
          ∙ append-nil (plane_at j planes) in
          h.held p inside ∙ sym (ap (λ (bits : List Bool). chunk_of (p / k) bits) same);
    }
  where
    no_rows : (bits : List Bool) → length bits ≡ 0 → bits ≡ []
    no_rows [] e = refl
    no_rows (bit ∷ bits) e = cc

-- NUMBERS OF CHUNKS

-- the chunk of the first new row is one of all
pub ceil_above : (len n chunks : ℕ) → chunks ≡ chunks_for (len + n) → len / 8064 ≤ chunks
ceil_above len n chunks e = omega (arith, e)
