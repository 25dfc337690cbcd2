-- Leaves and places that are on the pages of an index.
use Rattle.std.proofs.Common.{◌≡◌, ◌≢◌, ◌<◌, ℕ, zero, suc, List, [], ◌∷◌, ◌++◌, Option, Some, IfSome, length, map, slice_get, ap, ◌∙◌, subst, inr, arith}
use Rattle.std.proofs.lemmas.List.Elements.{All-head}
use Rattle.iq_base.specs.declared.values.Kind.{Kind}
use Rattle.iq_base.specs.declared.values.Value.{Value}
use Rattle.iq_pages.specs.declared.page_faults.PageFault.{PageFault}
use Rattle.iq_pages.specs.declared.page_faults.PageFault.TheVariants.{Failed, BadPage, NoMemory}
use Rattle.iq_pages.specs.Pages.{Pages, Seen, IsPageOf, NamesPage}
use Rattle.iq_pieces.specs.Objects.{page_at}
use Rattle.iq_pieces.specs.Faults.{HasPageCause}
use Rattle.iq_hg_leaves.specs.declared.entries.Entry.{Entry}
use Rattle.iq_hg_leaves.specs.Leaves.{Leaf, link_to, AreLinked}
use Rattle.iq_hg_leaves.specs.Bytes.{BeginsAsLeaf}
use Rattle.iq_hg_leaves.proofs.SortedLaws.{All-right}
use Rattle.iq_hg_leaves.proofs.LeafLaws.{linked-right}
use Rattle.iq_hg_leaves.proofs.OnlyLeaf.{only_leaf}
use Rattle.iq_hg.specs.declared.hg.Hg.{Hg}
use Rattle.iq_hg.specs.declared.places.Place.{Place}
use Rattle.iq_hg.specs.Places.{leaf_on, AreLeaves, BeginsAsPlaces, places_on, place_of}
use Rattle.iq_hg.specs.Stands.{Stands, StandsForNone, IsAt, GivesLeaf, GivesPlaces, HasLeafCause, HasHgCause}
use Rattle.iq_hg.proofs.PlaceBytes.{only_places}

page_there : (pages : Pages) (n : ℕ) (page : List ℕ) → slice_get pages n ≡ Some page → page_at n pages ≡ page
page_there [] n page e = absurd (cc)
page_there (p ∷ ps) zero page e = (cc)
page_there (p ∷ ps) (suc n) page e = page_there ps n page e

-- a page that was read, where the object's pages are told
told_page : (told : Option Pages) (pages : Pages) (n : ℕ) (page : List ℕ) → told ≡ Some pages → IsPageOf told n page → page_at n pages ≡ page
told_page told pages n page is there = page_there pages n page (subst (λ (o : Option Pages). IfSome o (λ pages. slice_get pages n ≡ Some page)) is there)

-- a leaf among others lies on its page, and names the first of those behind it
pub leaf_there : (kind : Kind) (pages : Pages) (xs : List Leaf) (leaf : Leaf) (ys : List Leaf) → AreLeaves kind pages (xs ++ (leaf ∷ ys)) → leaf_on kind pages leaf.page (link_to ys 0) leaf.entries
unfolding AreLinked
leaf_there kind pages xs leaf ys h = (linked-right (leaf_on kind pages) (leaf_on kind pages) xs (leaf ∷ ys) 0 h.linked).0

pub page_below : (kind : Kind) (pages : Pages) (xs : List Leaf) (leaf : Leaf) (ys : List Leaf) → AreLeaves kind pages (xs ++ (leaf ∷ ys)) → leaf.page < length pages
page_below kind pages xs leaf ys h = All-head (λ (x : Leaf). x.page < length pages) leaf ys (All-right (λ (a b : Leaf). a.page ≢ b.page) (λ (x : Leaf). x.page < length pages) xs (leaf ∷ ys) h.have.below)

-- the bytes of the page of a leaf begin as that leaf
leaf_begins : (hg : Hg) (told : ℕ → Option Pages) (page : ℕ) (bytes : List ℕ) (values : List Value) (st : Stands hg told values) (at : IsAt st.leaves page) → IsPageOf (told hg.leaves) page bytes → BeginsAsLeaf hg.kind bytes (link_to at.ys 0) at.leaf.entries
leaf_begins hg told page bytes values st at there =
    let held : AreLeaves hg.kind st.pages (at.xs ++ (at.leaf ∷ at.ys)) = subst (AreLeaves hg.kind st.pages) at.split st.held in
    let got : page_at page st.pages ≡ bytes = told_page (told hg.leaves) st.pages page bytes st.leaves_told there in
    let on = leaf_there hg.kind st.pages at.xs at.leaf at.ys held in
    subst (λ (bs : List ℕ). BeginsAsLeaf hg.kind bs (link_to at.ys 0) at.leaf.entries) (ap (λ n. page_at n st.pages) at.page_is ∙ got) on.begins

pub leaf_given : (hg : Hg) (told : ℕ → Option Pages) (page : ℕ) (bytes : List ℕ) (next : ℕ) (entries : List Entry) → IsPageOf (told hg.leaves) page bytes → BeginsAsLeaf hg.kind bytes next entries → GivesLeaf hg told page next entries
leaf_given hg told page bytes next entries there begins = λ values st at. only_leaf hg.kind bytes next (link_to at.ys 0) entries at.leaf.entries begins (leaf_begins hg told page bytes values st at there)

pub leaf_refused : (hg : Hg) (told : ℕ → Option Pages) (page : ℕ) (bytes : List ℕ) → IsPageOf (told hg.leaves) page bytes → ((next : ℕ) (entries : List Entry) → ¬ (BeginsAsLeaf hg.kind bytes next entries)) → (values : List Value) (st : Stands hg told values) → ¬ (IsAt st.leaves page)
leaf_refused hg told page bytes there bad = λ values st at. bad (link_to at.ys 0) at.leaf.entries (leaf_begins hg told page bytes values st at there)

-- a page that isn't read
pub leaf_unread : (hg : Hg) (page : ℕ) (before after : Seen) (fault : PageFault) → HasPageCause hg.leaves before after fault → NamesPage page fault → HasLeafCause hg page before after fault
leaf_unread hg page before after (Failed x y) cause names = cause
leaf_unread hg page before after (BadPage named p) cause names = (
  cause.0,
  λ values st at.
      let held : AreLeaves hg.kind st.pages (at.xs ++ (at.leaf ∷ at.ys)) = subst (AreLeaves hg.kind st.pages) at.split st.held in
      cause.1 (st.pages, st.leaves_told, omega (arith, page_below hg.kind st.pages at.xs at.leaf at.ys held, at.page_is, names)),
)
leaf_unread hg page before after NoMemory cause names = tt

-- PLACES

places_begin : (hg : Hg) (told : ℕ → Option Pages) (p : ℕ) (bytes : List ℕ) (values : List Value) (st : Stands hg told values) → p < length st.directory → IsPageOf (told hg.directory) p bytes → BeginsAsPlaces hg.kind bytes (places_on hg.kind p (map place_of st.leaves))
places_begin hg told p bytes values st h there =
    let got : page_at p st.directory ≡ bytes = told_page (told hg.directory) st.directory p bytes st.directory_told there in
    subst (λ (bs : List ℕ). BeginsAsPlaces hg.kind bs (places_on hg.kind p (map place_of st.leaves))) got (st.named.held p h).begins

-- how many pages the directory has
directory_long : (hg : Hg) (told : ℕ → Option Pages) (count : ℕ) (values : List Value) (st : Stands hg told values) → IfSome (told hg.directory) (λ pages. length pages ≡ count) → length st.directory ≡ count
directory_long hg told count values st long = subst (λ (o : Option Pages). IfSome o (λ pages. length pages ≡ count)) st.directory_told long

pub places_given : (hg : Hg) (told : ℕ → Option Pages) (p count : ℕ) (bytes : List ℕ) (places : List Place) → IfSome (told hg.directory) (λ pages. length pages ≡ count) → p < count → IsPageOf (told hg.directory) p bytes → BeginsAsPlaces hg.kind bytes places → GivesPlaces hg told p places
places_given hg told p count bytes places long h there begins = λ values st.
    only_places hg.kind bytes places (places_on hg.kind p (map place_of st.leaves)) begins (places_begin hg told p bytes values st (omega (arith, directory_long hg told count values st long)) there)

pub places_refused : (hg : Hg) (told : ℕ → Option Pages) (p count : ℕ) (bytes : List ℕ) → IfSome (told hg.directory) (λ pages. length pages ≡ count) → p < count → IsPageOf (told hg.directory) p bytes → ((places : List Place) → ¬ (BeginsAsPlaces hg.kind bytes places)) → StandsForNone hg told
places_refused hg told p count bytes long h there bad = λ values st. bad (places_on hg.kind p (map place_of st.leaves)) (places_begin hg told p bytes values st (omega (arith, directory_long hg told count values st long)) there)

pub places_unread : (hg : Hg) (p count : ℕ) (before after : Seen) (fault : PageFault) → IfSome (before.told hg.directory) (λ pages. length pages ≡ count) → p < count → HasPageCause hg.directory before after fault → NamesPage p fault → HasHgCause hg before after fault
places_unread hg p count before after (Failed x y) long h cause names = cause
places_unread hg p count before after (BadPage named q) long h cause names = (inr cause.0, λ values st. cause.1 (st.directory, st.directory_told, omega (arith, directory_long hg before.told count values st long, names)))
places_unread hg p count before after NoMemory long h cause names = tt
