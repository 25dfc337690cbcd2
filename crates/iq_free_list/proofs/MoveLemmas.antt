-- Moving the first numbers of one list into another, one after the other.
use Rattle.std.specs.Prelude.{◌≡◌, ℕ, suc, ◌+◌, ◌-◌, ◌<◌, List, ◌∷◌, take, drop}
use Rattle.std.proofs.Common.{ap, ◌∙◌, arith}
use Rattle.iq_free_list.specs.FreeList.{put, put_all}

-- what is left after the first
pub drop_next : (n m block : ℕ) (blocks rest : List ℕ) → m < n → blocks ≡ block ∷ rest → drop (n - m) blocks ≡ drop (n - (m + 1)) rest
drop_next n m block blocks rest more first =
    let one : n - m ≡ suc (n - (m + 1)) = omega (arith, more) in
    ap (drop (n - m)) first ∙ ap (λ (k : ℕ). drop k (block ∷ rest)) one

-- what is gained by the first and the others
pub put_next : (n m block : ℕ) (blocks rest into : List ℕ) → m < n → blocks ≡ block ∷ rest
    → put_all (take (n - m) blocks) into ≡ put_all (take (n - (m + 1)) rest) (put block into)
put_next n m block blocks rest into more first =
    let one : n - m ≡ suc (n - (m + 1)) = omega (arith, more) in
    ap (λ (xs : List ℕ). put_all (take (n - m) xs) into) first ∙ ap (λ (k : ℕ). put_all (take k (block ∷ rest)) into) one
