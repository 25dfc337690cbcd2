-- Rows that are removed.
use Rattle.std.proofs.Common.{◌≡◌, ◌≢◌, ◌<◌, ℕ, zero, suc, ◌+◌, ◌*◌, Bool, false, ◌&&◌, not, List, Option, length, map, get_or, replicate, inl, inr, refl, sym, ap, ◌∙◌, subst, arith}
use Rattle.std.specs.List.{range_with_len, sum_by}
use Rattle.std.proofs.lemmas.List.{ext_get_or, length-replicate, get_or-replicate, get_or_past}
use Rattle.std.proofs.lemmas.Bool.{cases_lt}
use Rattle.std.proofs.lemmas.Simd.{length-zip2}
use Rattle.iq_pages.specs.Pages.{Pages}
use Rattle.iq_bitmap.specs.Bits.{chunk_of, difference}
use Rattle.iq_bitmap.proofs.Chunks.{length-chunk_of, get_or-chunk_of}
use Rattle.iq_cells.specs.Tables.{column_of}
use Rattle.iq_chunks.specs.Chunks.{chunks_for, hit_in, chunks_hit, ClearsBits}
use Rattle.iq_chunks.proofs.ChunkClears.{difference_none, hit_none, hits_next}
use Rattle.iq_fp.proofs.Growth.{stands_there}
use Rattle.iq_table.specs.declared.table.Table.{Table}
use Rattle.iq_table.specs.Places.{existence_of, codes_of, values_of, fp_at}
use Rattle.iq_table.specs.Table.{StandsWithout}

no_row : (n i : ℕ) → get_or (replicate n false) i false ≡ false
no_row n i = elim (cases_lt i n) [
  | inl less ↦ get_or-replicate n i false false less
  | inr past ↦ get_or_past (replicate n false) i false (omega (arith, length-replicate n false))
]

-- where no row was found, no page is hit
none_hit : (n chunk : ℕ) → hit_in (replicate n false) chunk ≡ 0
none_hit n chunk =
    let none : chunk_of chunk (replicate n false) ≡ replicate 8064 false =
    ext_get_or false (chunk_of chunk (replicate n false)) (replicate 8064 false) (length-chunk_of chunk (replicate n false) ∙ sym (length-replicate 8064 false))
    (λ i h. let less : i < 8064 = omega (arith, length-chunk_of chunk (replicate n false)) in
    get_or-chunk_of chunk (replicate n false) i less ∙ no_row n (chunk * 8064 + i) ∙ sym (get_or-replicate 8064 i false false less)) in
    hit_none (replicate n false) chunk 8064 none

hits_zero : (n k : ℕ) → sum_by (λ (pages : ℕ). pages) (map (hit_in (replicate n false)) (range_with_len 0 k)) ≡ 0
hits_zero n zero = refl
hits_zero n (suc k) =
    let e : k + 1 ≡ suc k = omega arith in
    subst (λ (m : ℕ). sum_by (λ (pages : ℕ). pages) (map (hit_in (replicate n false)) (range_with_len 0 m)) ≡ 0) e
    (hits_next (replicate n false) k ∙ (let so_far = hits_zero n k in let none = none_hit n k in omega (arith, so_far, none)))

pub chunks_none : (found : List Bool) (n : ℕ) → found ≡ replicate n false → chunks_hit found ≡ 0
chunks_none found n none = ap chunks_hit none ∙ hits_zero n (chunks_for (length (replicate n false)))

-- the rows stand on without those that were found
pub without_stands : (table : Table) (found : List Bool) (before after : ℕ → Option Pages) → length found ≡ table.parts.slots → ((other : ℕ) → other ≢ existence_of table.place → after other ≡ before other) → ClearsBits found (before (existence_of table.place)) (after (existence_of table.place)) → StandsWithout table found before after
without_stands table found before after long others clears = λ rows alive s. record {
  few = s.few;
  slots = s.slots;
  bits = length-zip2 (λ a b. a && not b) alive found (s.bits ∙ sym long) ∙ s.bits;
  shapes = s.shapes;
  existence = clears alive (s.bits ∙ sym long) s.existence;
  columns = λ c h. stands_there (fp_at table.place table.parts c) before after (column_of c rows)
      (others (codes_of table.place c) (λ e. absurd (omega (arith, e)))) (others (values_of table.place c) (λ e. absurd (omega (arith, e)))) (s.columns c h);
  forms = s.forms;
}

-- where none was found they stand as they did
pub without_none : (table : Table) (found : List Bool) (n : ℕ) (told : ℕ → Option Pages) → length found ≡ table.parts.slots → found ≡ replicate n false → StandsWithout table found told told
without_none table found n told long none = λ rows alive s.
    let count : length alive ≡ n = s.bits ∙ sym long ∙ ap length none ∙ length-replicate n false in
    let same : difference alive found ≡ alive = ap (difference alive) none ∙ difference_none alive n count in
    rw same s
