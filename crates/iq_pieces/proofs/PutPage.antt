-- A page of a list is written, or one is put behind the last.
use Rattle.std.proofs.Common.{◌≡◌, ◌<◌, ◌≤◌, ℕ, zero, suc, ◌+◌, max, List, [], ◌∷◌, ◌++◌, Option, Some, None, IfSome, length, slice_set, take, drop, refl, ap, ap₂, sym, ◌∙◌, arith}
use Rattle.std.specs.Option.{option_map}
use Rattle.std.proofs.lemmas.Grind.{common_steps}
use Rattle.std.proofs.lemmas.List.{take_all, drop_all}
use Rattle.iq_pages.specs.Pages.{Pages}
use Rattle.iq_pieces.specs.Objects.{page_at, put_page, SavesPage}

-- setting a page is putting it in its place
set_is_put : (pages : Pages) (n : ℕ) (page : List ℕ) → n < length pages → slice_set pages n page ≡ put_page n page pages
set_is_put [] n page h = absurd (omega arith)
set_is_put (p ∷ ps) zero page h = refl
set_is_put (p ∷ ps) (suc n) page h =
    let more : suc n + 1 ≡ suc (n + 1) = omega arith in rw more (ap (λ (qs : Pages). p ∷ qs) (set_is_put ps n page (omega arith)))

-- so is putting it behind the last
push_is_put : (pages : Pages) (n : ℕ) (page : List ℕ) → n ≡ length pages → pages ++ page ∷ [] ≡ put_page n page pages
push_is_put pages n page e =
    let front : take n pages ≡ pages = take_all n pages (omega arith) in
    let rest : drop (n + 1) pages ≡ [] = drop_all (n + 1) pages (omega arith) in
    sym (ap₂ (λ (a : Pages) (b : Pages). a ++ page ∷ b) front rest)

-- where a page of the object was set, it is saved
pub set_saves : (told told' : Option Pages) (n count : ℕ) (page : List ℕ) → IfSome told (λ pages. length pages ≡ count) → n < count → told' ≡ option_map (λ (pages : Pages). slice_set pages n page) told → SavesPage n page told told'
set_saves None told' n count page long less is = λ pages e. absurd (cc)
set_saves (Some ps) told' n count page long less is = λ pages e.
    let same : ps ≡ pages = cc in
    is ∙ ap Some (set_is_put ps n page (omega arith)) ∙ ap (λ (qs : Pages). Some (put_page n page qs)) same

-- and where it was put behind the last
pub push_saves : (told told' : Option Pages) (n count : ℕ) (page : List ℕ) → IfSome told (λ pages. length pages ≡ count) → n ≡ count → told' ≡ option_map (λ (pages : Pages). pages ++ page ∷ []) told → SavesPage n page told told'
push_saves None told' n count page long same is = λ pages e. absurd (cc)
push_saves (Some ps) told' n count page long at is = λ pages e.
    let same : ps ≡ pages = cc in
    is ∙ ap Some (push_is_put ps n page (omega arith)) ∙ ap (λ (qs : Pages). Some (put_page n page qs)) same

-- the page that was put is there
pub put_here : (pages : Pages) (n : ℕ) (page : List ℕ) → n ≤ length pages → page_at n (put_page n page pages) ≡ page
put_here pages n page h = grind (arith, common_steps)

-- the pages before it stay
pub put_before : (pages : Pages) (n p : ℕ) (page : List ℕ) → n ≤ length pages → p < n → page_at p (put_page n page pages) ≡ page_at p pages
put_before pages n p page h l = grind (arith, common_steps)

-- how many pages there are then
pub put_length : (pages : Pages) (n : ℕ) (page : List ℕ) → n ≤ length pages → length (put_page n page pages) ≡ max (n + 1) (length pages)
put_length pages n page h = grind (arith, common_steps)
