-- Searching the directory for the leaf from which on a range may have values.
use Rattle.std.proofs.Common.{◌≡◌, ◌<◌, ◌≤◌, ℕ, zero, suc, ◌+◌, ◌-◌, ◌*◌, ◌/◌, ◌^◌, Bool, List, [], Option, IfSome, length, map, take, drop, sym, ap, ◌∙◌, subst, arith}
use Rattle.std.proofs.lemmas.Grind.{common_steps}
use Rattle.std.proofs.lemmas.List.{length-take, length-drop, get_or-take, get_or-drop}
use Rattle.iq_ast.specs.declared.conditions.Bound.{Bound}
use Rattle.iq_pages.specs.Pages.{Pages, Seen, KeepsObjects}
use Rattle.iq_pieces.specs.Counts.{OnlyReads}
use Rattle.iq_pieces.proofs.Counting.{reads_on, begins_before}
use Rattle.iq_hg_leaves.specs.Entries.{entry_at}
use Rattle.iq_hg.specs.declared.hg.Hg.{Hg}
use Rattle.iq_hg.specs.declared.places.Place.{Place}
use Rattle.iq_hg.specs.Bounds.{is_under}
use Rattle.iq_hg.specs.Places.{place_of, place_at, most_places}
use Rattle.iq_hg.specs.Stands.{StandsForNone, GivesPlaces}
use Rattle.iq_hg.specs.Search.{BeginsUnder, HalvedBy}
use Rattle.iq_hg.proofs.WalkLaws.{stands_kept}

no_place : Place
no_place = record { first = entry_at 0 []; page = 0 }

-- a place of a page of the directory is one of all
pub place_on : (per p n : ℕ) (places : List Place) → n < length (take per (drop (p * per) places)) → place_at n (take per (drop (p * per) places)) ≡ place_at (p * per + n) places
place_on per p n places h =
    get_or-take per (drop (p * per) places) n _ (omega (arith, length-take per (drop (p * per) places))) ∙ get_or-drop (p * per) places n _

pub on_way : (hg : Hg) (a b : Seen) (low : Bound) (p : ℕ) (u : Bool) → KeepsObjects a b → BeginsUnder hg b.told low p u → BeginsUnder hg a.told low p u
unfolding stands_kept
on_way hg a b low p u kept g = λ values st. g values (stands_kept hg a b values kept st)

pub places_on_way : (hg : Hg) (a b : Seen) (p : ℕ) (places : List Place) → KeepsObjects a b → GivesPlaces hg b.told p places → GivesPlaces hg a.told p places
unfolding stands_kept
places_on_way hg a b p places kept g = λ values st. g values (stands_kept hg a b values kept st)

pub none_on_way : (hg : Hg) (a b : Seen) → KeepsObjects a b → StandsForNone hg b.told → StandsForNone hg a.told
none_on_way hg a b kept none = λ values st. none values (stands_kept hg a b values kept st)

-- the first place of a page was read
pub begins : (hg : Hg) (told : ℕ → Option Pages) (low : Bound) (p : ℕ) (places : List Place) (u : Bool) → GivesPlaces hg told p places → 0 < length places → u ≡ is_under low (place_at 0 places).first.value → BeginsUnder hg told low p u
begins hg told low p places u gives some is = λ values st.
    let per = most_places hg.kind in
    let all = map place_of st.leaves in
    let same = gives values st in
    let here : place_at 0 places ≡ place_at (p * per) all = ap (place_at 0) same ∙ place_on per p 0 all (subst (λ (ps : List Place). 0 < length ps) same some) ∙ ap (λ n. place_at n all) (omega arith) in
    sym (is ∙ ap (λ (q : Place). is_under low q.first.value) here)

-- no page of the directory is without places
pub page_some : (hg : Hg) (told : ℕ → Option Pages) (p count : ℕ) (places : List Place) → 0 < most_places hg.kind → IfSome (told hg.directory) (λ pages. length pages ≡ count) → p < count → GivesPlaces hg told p places → length places ≡ 0 → StandsForNone hg told
page_some hg told p count places room long h gives none = λ values st.
    let per = most_places hg.kind in
    let all = map place_of st.leaves in
    let many : length st.directory ≡ count = subst (λ (o : Option Pages). IfSome o (λ pages. length pages ≡ count)) st.directory_told long in
    let within : per * p < length all = begins_before per (length all) p (length st.directory) room st.named.count (omega arith) in
    let size = length-take per (drop (p * per) all) in
    omega (arith, ap length (gives values st), size, length-drop (p * per) all)

-- one read more halves what is left
pub halved : (all left left' : ℕ) (a b c : Seen) → 0 < left → left' ≤ left / 2 → HalvedBy all left a b → OnlyReads 1 b c → HalvedBy all left' a c
halved all left left' a b c some less h one = λ k fits. step k (h k fits)
  where
    step : (k : ℕ) → (j : ℕ) × (j ≤ k) × (left < 2 ^ j) × OnlyReads (k - j) a b → (j : ℕ) × (j ≤ k) × (left' < 2 ^ j) × OnlyReads (k - j) a c
    step k (zero, most, small, reads) = absurd (omega arith)
    step k (suc j, most, small, reads) =
        let twice : 2 ^ suc j ≡ 2 * 2 ^ j = grind (arith, common_steps) in
        (j, omega arith, omega arith, reads_on (k - suc j) 1 (k - j) a b c (omega arith) reads one)
