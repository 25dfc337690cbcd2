-- A page that is written from its front on.
use Rattle.std.specs.Prelude.{◌≡◌, ℕ, suc, ◌+◌, ◌-◌, ◌*◌, ◌<◌, List, [], ◌∷◌, ◌++◌, length, take, drop, flat_map, get_or}
use Rattle.std.proofs.Common.{refl, sym, ap, ◌∙◌, arith, append_assoc, length-append}
use Rattle.std.proofs.Math.Seq.{take-append_seam, drop-append_seam}
use Rattle.std.proofs.lemmas.List.{drop-replicate, take_more, flat_map_more}
use borrow.Rule.Slice.PartMut.{put_mid}
use Rattle.iq_block_store.specs.Frames.{number_at, bytes_of, numbers_at}
use Rattle.iq_root.specs.Roots.{zeros, long_bytes, body_page}
use Rattle.iq_root.specs.Pages.{IsDone}
use Rattle.iq_root.specs.declared.root.Root.{Root}

-- the front is what is done
front_done : (done rest : List ℕ) (at : ℕ) → length done ≡ at → take at (done ++ rest) ≡ done
front_done done rest at size = ap (λ (n : ℕ). take n (done ++ rest)) (sym size) ∙ take-append_seam done rest

-- the zeros behind more bytes
zeros_behind : (done : List ℕ) (at n k : ℕ) → length done ≡ at → drop k (drop at (done ++ zeros (n - at))) ≡ zeros (n - (at + k))
unfolding zeros
zeros_behind done at n k size =
    ap (λ (m : ℕ). drop k (drop m (done ++ zeros (n - at)))) (sym size) ∙ ap (drop k) (drop-append_seam done (zeros (n - at)))
    ∙ drop-replicate k (n - at) 0 ∙ ap zeros (omega arith)

put_behind : (done bytes : List ℕ) (at n k : ℕ) → length done ≡ at → k ≡ length bytes
    → put_mid at k (done ++ zeros (n - at)) bytes ≡ (done ++ bytes) ++ zeros (n - (at + length bytes))
put_behind done bytes at n k size is =
    ap (λ (f : List ℕ). f ++ (bytes ++ drop k (drop at (done ++ zeros (n - at))))) (front_done done (zeros (n - at)) at size)
    ∙ ap (λ (z : List ℕ). done ++ (bytes ++ z)) (zeros_behind done at n k size)
    ∙ sym (append_assoc done bytes (zeros (n - (at + k))))
    ∙ ap (λ (m : ℕ). (done ++ bytes) ++ zeros (n - (at + m))) is

-- more bytes
pub IsDone-put : (at k : ℕ) (done page bytes written : List ℕ) → IsDone at done page → written ≡ bytes → k ≡ length bytes
    → IsDone (at + length bytes) (done ++ bytes) (put_mid at k page written)
IsDone-put at k done page bytes written start is width = record {
  size = omega (arith, start.size, length-append done bytes);
  page_is = rw (is, start.page_is) (put_behind done bytes at 1008 k start.size width);
}

pub IsDone-at : (at at' : ℕ) (done done' page : List ℕ) → at ≡ at' → done ≡ done' → IsDone at done page → IsDone at' done' page
IsDone-at at at' done done' page e f start = rw (← e, ← f) start

-- four pieces, a fifth and zeros, joined from the left and from the right
pub joined : (a b c d a' b' c' d' e z : List ℕ) → a ≡ a' → b ≡ b' → c ≡ c' → d ≡ d'
    → ((((([] ++ a) ++ b) ++ c) ++ d) ++ e) ++ z ≡ a' ++ (b' ++ (c' ++ (d' ++ (e ++ z))))
joined a b c d a' b' c' d' e z ea eb ec ed =
    append_assoc (((a ++ b) ++ c) ++ d) e z ∙ append_assoc ((a ++ b) ++ c) d (e ++ z)
    ∙ append_assoc (a ++ b) c (d ++ (e ++ z)) ∙ append_assoc a b (c ++ (d ++ (e ++ z)))
    ∙ rw (ea, eb, ec, ed) refl

-- numbers that are read one after the other
numbers_step : (block : List ℕ) (i j m n : ℕ) → m ≡ suc n → j ≡ i + 4 → numbers_at block i m ≡ number_at block i ∷ numbers_at block j n
numbers_step block i j m n more next =
    ap (numbers_at block i) more ∙ ap (λ (k : ℕ). number_at block i ∷ numbers_at block k n) (sym next)

pub numbers_go_on : (block old new whole : List ℕ) (x n k : ℕ) → new ≡ old ++ x ∷ [] → x ≡ number_at block (36 + 4 * k) → k < n
    → old ++ numbers_at block (36 + 4 * k) (n - k) ≡ whole → new ++ numbers_at block (36 + 4 * (k + 1)) (n - (k + 1)) ≡ whole
numbers_go_on block old new whole x n k pushed is within so_far =
    let rest = numbers_at block (36 + 4 * (k + 1)) (n - (k + 1)) in
    ap (λ (l : List ℕ). l ++ rest) pushed ∙ append_assoc old (x ∷ []) rest ∙ ap (λ (y : ℕ). old ++ y ∷ rest) is
    ∙ ap (λ (l : List ℕ). old ++ l) (sym (numbers_step block (36 + 4 * k) (36 + 4 * (k + 1)) (n - k) (n - (k + 1)) (omega arith) (omega arith)))
    ∙ so_far

-- the bytes of one number more
pub one_more : (done bytes xs : List ℕ) (k : ℕ) → k < length xs → bytes ≡ bytes_of (get_or xs k 0)
    → (done ++ flat_map bytes_of (take k xs)) ++ bytes ≡ done ++ flat_map bytes_of (take (k + 1) xs)
one_more done bytes xs k within is =
    ap (λ (b : List ℕ). (done ++ flat_map bytes_of (take k xs)) ++ b) is ∙ flat_map_more bytes_of done (take k xs) (get_or xs k 0)
    ∙ ap (λ (ys : List ℕ). done ++ flat_map bytes_of ys) (sym (take_more xs k 0 within))

-- a body's page, by its tables
pub body_of_tables : (root : Root) (ts : List ℕ) → ts ≡ root.tables
    → long_bytes root.generation ++ (bytes_of root.format ++ (bytes_of root.count ++ (bytes_of (length ts)
    ++ (flat_map bytes_of ts ++ zeros (1008 - (20 + 4 * length ts)))))) ≡ body_page root
body_of_tables root ts is =
    rw is
    (ap (λ (n : ℕ). long_bytes root.generation ++ (bytes_of root.format ++ (bytes_of root.count ++ (bytes_of (length root.tables)
    ++ (flat_map bytes_of root.tables ++ zeros n))))) (omega arith))
