-- One page written: what a put and an edit after it did together.
use Rattle.std.specs.Prelude.{◌≡◌, ℕ, zero, suc, ◌+◌, ◌-◌, ◌^◌, ◌<◌, ◌≤◌, Bool, false, List, [], ◌∷◌, ◌++◌, length, nat_eq, slice_index, slice_index_or, slice_set, Ok, is_ok, Option, Some}
use Rattle.std.specs.List.{All, IsDistinct}
use Rattle.std.proofs.Common.{refl, sym, ap, subst, ◌∙◌, inl, inr, arith, append-nil, get_or-set_same}
use Rattle.iq_outside.specs.Devices.{block_of}
use Rattle.iq_outside.specs.declared.device.Device.{Ghosts}
use Rattle.iq_block_store.specs.Frames.{page_kind, framed, has_header, payload_of}
use Rattle.iq_block_store.proofs.FrameLemmas.{has_header-framed, payload_of-framed}
use Rattle.iq_base.specs.declared.refs.Ref.{Ref}
use Rattle.iq_block_map.specs.Objects.{leaf_count, used_in, map_at, leaves_of, addresses_of, HoldsPage}
use Rattle.iq_block_map.specs.Takers.{AreSpare}
use Rattle.iq_block_map.specs.Writing.{holds, SameBeside, HasPut}
use Rattle.iq_block_map.specs.Editing.{edited, maps_needed, AreApart, StandsApart, StandsWhole, ReadsRight, IsBadMap, TellsBadMap, NeedsMap, LacksMaps, HasEdited}
use Rattle.iq_block_map.specs.Paging.{Paging, replacing, appending, HasPaged, TellsBadPaged, LacksPaging}
use Rattle.iq_block_map.proofs.PutLemmas.{first_inside, told_same, holds-append}
use Rattle.iq_block_map.proofs.NextLemmas.{distinct_parts}
use Rattle.iq_block_map.proofs.NamedLemmas.{all_set, all_append}
use Rattle.iq_block_map.proofs.TopLemmas.{addresses_count}
use Rattle.iq_block_map.proofs.RewriteLemmas.{put_told}
use Rattle.iq_block_map.proofs.StepLemmas.{map_same}
use Rattle.iq_block_map.proofs.ReachLemmas.{address_at, IsFree, IsPaged, HoldsIn, ArePages, new_page, old_pages, pages_held, pages_hold, pages_set, pages_push, addresses_same, apart_after, leaves_same, free_of, remapped_before}

-- what a page written does to lists of blocks and pages belongs together
pub record IsPaging (w : Paging) : Type 0 where
  pub shape : (xs : List ℕ) (at : ℕ) → edited xs (w.changed at) (w.added at) ≡ w.blocks xs at
  pub some : (at : ℕ) → 1 ≤ length (w.changed at) + length (w.added at)
  pub hold : (all : List (List ℕ)) (xs : List ℕ) (ps : List (List ℕ)) (at : ℕ) (page : List ℕ) → ArePages all xs ps → HoldsIn all at page
      → ArePages all (w.blocks xs at) (w.pages ps page)
  pub each : (p : ℕ → Bool) (xs : List ℕ) (at : ℕ) → All (λ b. p b ≡ false) xs → p at ≡ false → All (λ b. p b ≡ false) (w.blocks xs at)

pub replacing_is : (n : ℕ) → IsPaging (replacing n)
replacing_is n =
    let place : n - 0 ≡ n = omega arith in
    record {
      shape = λ xs at. append-nil (slice_set xs (n - 0) at) ∙ ap (λ (i : ℕ). slice_set xs i at) place;
      some = λ at. omega arith;
      hold = λ all xs ps at page are here. pages_set all xs ps n at page are here;
      each = λ p xs at free here. all_set (λ b. p b ≡ false) xs n at free here;
    }

pub appending_is : IsPaging appending
appending_is = record {
  shape = λ xs at. refl;
  some = λ at. omega arith;
  hold = λ all xs ps at page are here. pages_push all xs ps at page are here;
  each = λ p xs at free here. all_append (λ b. p b ≡ false) xs (at ∷ []) free
      (λ k d within. (let first : k ≡ 0 = omega (arith, within) in rw first here));
}

-- a page was put and the object edited to have it
pub record IsPutThere (told told_mid : Option (List (List ℕ))) (object : Ref) (page before left taken : List ℕ) (at : ℕ) : Type 0 where
  pub few : object.pages ≤ 63504
  pub spare : AreSpare told before
  pub first : before ≡ at ∷ left
  pub fits : at < 2 ^ 32
  pub split : before ≡ taken ++ left
  pub block : (all : List (List ℕ)) → told ≡ Some all → told_mid ≡ Some (slice_set all at (framed page_kind at 0 page))
  pub content : (all : List (List ℕ)) → told ≡ Some all → (mid : List (List ℕ)) × (told_mid ≡ Some mid) × SameBeside taken all mid

first_at : (told told_mid : Option (List (List ℕ))) (object : Ref) (page before left taken : List ℕ) (at : ℕ)
    → IsPutThere told told_mid object page before left taken at → slice_index before 0 ≡ at
first_at told told_mid object page before left taken at put = ap (λ (t : List ℕ). slice_index t 0) put.first

free_there : (told told_mid : Option (List (List ℕ))) (object : Ref) (page before left taken : List ℕ) (at : ℕ)
    → (put : IsPutThere told told_mid object page before left taken at) → (all : List (List ℕ)) → (is : told ≡ Some all) → AreApart all object before
    → IsFree all (put.content all is).0 object before taken left
free_there told told_mid object page before left taken at put all is apart = record {
  few = put.few;
  same = (put.content all is).2;
  split = put.split;
  apart = apart;
}

stands_mid : (told told_mid : Option (List (List ℕ))) (object : Ref) (page before left taken : List ℕ) (at : ℕ)
    → (put : IsPutThere told told_mid object page before left taken at) → (all : List (List ℕ)) → (stands : StandsApart told object before all)
    → StandsApart told_mid object left (put.content all stands.is).0
stands_mid told told_mid object page before left taken at put all stands = record {
  is = (put.content all stands.is).1;
  apart = apart_after all (put.content all stands.is).0 object before taken left
      (free_there told told_mid object page before left taken at put all stands.is stands.apart);
}

whole_mid : (told told_mid : Option (List (List ℕ))) (object : Ref) (page before left taken : List ℕ) (at : ℕ)
    → (put : IsPutThere told told_mid object page before left taken at) → (all : List (List ℕ)) (xs : List ℕ) → (stands : StandsWhole told object before all xs)
    → StandsWhole told_mid object left (put.content all stands.is).0 xs
whole_mid told told_mid object page before left taken at put all xs stands =
    let free = free_there told told_mid object page before left taken at put all stands.is stands.apart in
    record {
      is = (put.content all stands.is).1;
      apart = apart_after all (put.content all stands.is).0 object before taken left free;
      pages = addresses_same all (put.content all stands.is).0 object before taken left xs free stands.pages;
    }

-- a leaf of the object reads the same once the page was put
leaf_there : (all mid : List (List ℕ)) (object : Ref) (before taken left ls : List ℕ) (k : ℕ) → IsFree all mid object before taken left
    → leaves_of all object ≡ Ok ls → k < length ls
    → map_at mid 1 (used_in object.pages k) (slice_index ls k) ≡ map_at all 1 (used_in object.pages k) (slice_index ls k)
leaf_there all mid object before taken left ls k free leaves within =
    map_same all mid 1 (used_in object.pages k) (slice_index ls k) free.same.size
    (free.same.others (slice_index ls k) (free_of all mid object before taken left free (slice_index ls k) (free.apart.leaves ls leaves k 0 within)).0)

-- what was read right after the page was put was right before
reads_before : (all mid : List (List ℕ)) (object : Ref) (before taken left : List ℕ) (changed : List (ℕ × ℕ)) (added : List ℕ)
    → IsFree all mid object before taken left → ReadsRight object changed added mid → ReadsRight object changed added all
reads_before all mid object before taken left changed added free right =
    let top : leaves_of all object ≡ Ok right.ls = sym (leaves_same all mid object before taken left free) ∙ right.top in
    record {
      ls = right.ls;
      top = top;
      leaves = λ k within touched. sym (ap is_ok (leaf_there all mid object before taken left right.ls k free top within)) ∙ right.leaves k within touched;
    }

needs_before : (all mid : List (List ℕ)) (object : Ref) (before taken left : List ℕ) (changed : List (ℕ × ℕ)) (added : List ℕ)
    → IsFree all mid object before taken left → NeedsMap object changed added mid → NeedsMap object changed added all
needs_before all mid object before taken left changed added free need =
    let top : leaves_of all object ≡ Ok need.ls = sym (leaves_same all mid object before taken left free) ∙ need.top in
    record {
      ls = need.ls;
      top = top;
      k = need.k;
      read = λ j within upto touched. sym (ap is_ok (leaf_there all mid object before taken left need.ls j free top within)) ∙ need.read j within upto touched;
      needs = elim need.needs [
        | inl changes ↦ inl (λ xs size right. changes xs size (λ within. leaf_there all mid object before taken left need.ls need.k free top within ∙ right within))
        | inr above ↦ inr above
      ];
    }

get_or_any : (xs : List ℕ) (k d e : ℕ) → k < length xs → slice_index_or xs k d ≡ slice_index_or xs k e
get_or_any [] k d e within = absurd (omega (arith, within))
get_or_any (x ∷ xs) zero d e within = refl
get_or_any (x ∷ xs) (suc k) d e within = get_or_any xs k d e (omega (arith, within))

-- pages that aren't among what was left aren't among what is
pages_free : (all : List (List ℕ)) (object : Ref) (before left taken taken' after xs : List ℕ) → object.pages ≤ 63504 → AreApart all object before
    → addresses_of all object ≡ Ok xs → before ≡ taken ++ left → left ≡ taken' ++ after → All (λ b. holds after b ≡ false) xs
pages_free all object before left taken taken' after xs few apart named first second k d within =
    let inside : k < object.pages = omega (arith, within, addresses_count all object xs few named) in
    let at = address_at all object xs k few named inside in
    let none : holds before (slice_index xs k) ≡ false = apart.pages k (slice_index xs k) inside at in
    let later = (holds-append taken left (slice_index xs k) (ap (λ (t : List ℕ). holds t (slice_index xs k)) (sym first) ∙ none)).1 in
    let last = (holds-append taken' after (slice_index xs k) (ap (λ (t : List ℕ). holds t (slice_index xs k)) (sym second) ∙ later)).1 in
    subst (λ (b : ℕ). holds after b ≡ false) (get_or_any xs k 0 d within) last

-- the block that was taken first isn't taken again
put_free : (before left taken' after : List ℕ) (at : ℕ) → IsDistinct nat_eq before → before ≡ at ∷ left → left ≡ taken' ++ after → holds after at ≡ false
put_free before left taken' after at distinct first second =
    let parts = distinct_parts at left (subst (IsDistinct nat_eq) first distinct) in
    (holds-append taken' after at (ap (λ (t : List ℕ). holds t at) (sym second) ∙ parts.0)).1

-- the page is in the new object
pub paged : (w : Paging) → IsPaging w → (told told_mid told_now : Option (List (List ℕ))) (object new : Ref) (page before left taken taken' after : List ℕ) (at : ℕ)
    → IsPutThere told told_mid object page before left taken at → left ≡ taken' ++ after
    → ((mid : List (List ℕ)) → told_mid ≡ Some mid → (now : List (List ℕ)) × (told_now ≡ Some now) × SameBeside taken' mid now)
    → HasEdited told_mid told_now object (w.changed at) (w.added at) left after new → HasPaged told told_now object w page before after new
paged w is_w told told_mid told_now object new page before left taken taken' after at put split content made =
    let at_is = first_at told told_mid object page before left taken at put in
    record {
      read = λ all stands.
          let mid = put.content all stands.is in
          let right = made.read (is_w.some at) mid.0 (stands_mid told told_mid object page before left taken at put all stands) in
          subst (λ (a : ℕ). ReadsRight object (w.changed a) (w.added a) all) (sym at_is)
          (reads_before all mid.0 object before taken left (w.changed at) (w.added at) (free_there told told_mid object page before left taken at put all stands.is stands.apart) right);
      pages = λ all now ps stands is told_is.
          let mid = put.content all stands.is in
          let held = pages_held all object ps is in
          let free = free_there told told_mid object page before left taken at put all stands.is stands.apart in
          let inside : at < length all = first_inside told all at before left put.spare stands.is put.first in
          let mid_is = told_same _ _ mid.0 _ refl mid.1 (put.block all stands.is) in
          let block : block_of mid.0 at ≡ framed page_kind at 0 page
          = ap (λ (b : List (List ℕ)). block_of b at) mid_is ∙ get_or-set_same all at (framed page_kind at 0 page) [] inside in
          let next = content mid.0 mid.1 in
          let now_is = told_same _ _ now next.0 refl told_is next.1 in
          let paged : IsPaged all mid.0 next.0 object before taken left taken' after at page = record {
            free = free;
            first = put.first;
            distinct = put.spare.distinct;
            fits = put.fits;
            block = block;
            same = next.2;
            split = split;
          } in
          let remapped = made.remapped mid.0 next.0 held.0
          (whole_mid told told_mid object page before left taken at put all held.0 record { is = stands.is; apart = stands.apart; pages = held.1 }) next.1 in
          let pages = is_w.hold next.0 held.0 ps at page
          (old_pages all mid.0 next.0 object before taken left taken' after at page held.0 ps paged held.1 held.2)
          (new_page all mid.0 next.0 object before taken left taken' after at page paged) in
          rw now_is (pages_hold next.0 new (w.blocks held.0 at) (w.pages ps page) (remapped.addresses ∙ ap Ok (is_w.shape held.0 at)) pages);
      maps = λ all now xs stands told_is. record {
        at = at;
        left = left;
        first = put.first;
        apart = (made.remapped (put.content all stands.is).0 now xs (whole_mid told told_mid object page before left taken at put all xs stands) told_is).apart
            (subst (All (λ b. holds after b ≡ false)) (sym (is_w.shape xs at))
            (is_w.each (holds after) xs at (pages_free all object before left taken taken' after xs put.few stands.apart stands.pages put.split split)
            (put_free before left taken' after at put.spare.distinct put.first split)));
        remapped = remapped_before all (put.content all stands.is).0 now object new before taken left xs (w.blocks xs at) (edited xs (w.changed at) (w.added at)) left after
            (free_there told told_mid object page before left taken at put all stands.is stands.apart)
            (made.remapped (put.content all stands.is).0 now xs (whole_mid told told_mid object page before left taken at put all xs stands) told_is)
            (is_w.shape xs at);
      };
    }

-- a map that isn't right
pub bad_paged : (w : Paging) (told told_mid told_now : Option (List (List ℕ))) (object : Ref) (page before left taken : List ℕ) (at b : ℕ)
    → IsPutThere told told_mid object page before left taken at → TellsBadMap told_mid told_now object (w.changed at) (w.added at) b
    → TellsBadPaged told told_now object w page before b
bad_paged w told told_mid told_now object page before left taken at b put bad all now is told_is =
    let at_is = first_at told told_mid object page before left taken at put in
    subst (λ (a : ℕ). IsBadMap object (w.changed a) (w.added a) b (slice_set all a (framed page_kind a 0 page)) now) (sym at_is)
    (bad (slice_set all at (framed page_kind at 0 page)) now (put.block all is) told_is)

-- too few blocks were left
pub lacks_paged : (w : Paging) → IsPaging w → (told told_mid : Option (List (List ℕ))) (object : Ref) (page before left taken after : List ℕ) (at : ℕ)
    → IsPutThere told told_mid object page before left taken at → LacksMaps told_mid object (w.changed at) (w.added at) left after
    → LacksPaging told object w before after
lacks_paged w is_w told told_mid object page before left taken after at put lacks =
    let at_is = first_at told told_mid object page before left taken at put in
    record {
      none = lacks.none;
      room = subst (λ (a : ℕ). length before ≤ leaf_count (object.pages + length (w.added a)) + 1) (sym at_is) (omega (arith, ap length put.first, lacks.room));
      needs = inr (λ all stands.
          let mid = put.content all stands.is in
          subst (λ (a : ℕ). NeedsMap object (w.changed a) (w.added a) all) (sym at_is)
          (needs_before all mid.0 object before taken left (w.changed at) (w.added at) (free_there told told_mid object page before left taken at put all stands.is stands.apart)
          (lacks.needs mid.0 (stands_mid told told_mid object page before left taken at put all stands))));
      fewer = λ all xs stands.
          let short = lacks.fewer (put.content all stands.is).0 xs (whole_mid told told_mid object page before left taken at put all xs stands) in
          subst (λ (a : ℕ). length before < 1 + maps_needed xs (w.blocks xs a)) (sym at_is)
          (omega (arith, short, ap length put.first, ap (maps_needed xs) (is_w.shape xs at)));
    }

-- not one was left
pub lacks_first : (w : Paging) (told : Option (List (List ℕ))) (object : Ref) (before after : List ℕ) → before ≡ [] → after ≡ []
    → LacksPaging told object w before after
lacks_first w told object before after none_before none_after = record {
  none = none_after;
  room = omega (arith, ap length none_before);
  needs = inl none_before;
  fewer = λ all xs stands. omega (arith, ap length none_before);
}

-- a page that was put is in its block
pub page_there : {D : Type 0} (g : Ghosts D) (before after : List ℕ) (old new : D) (at : ℕ) (page : List ℕ) (now : List (List ℕ))
    → AreSpare (g.blocks old) before → HasPut g before after old new → before ≡ at ∷ after → at < 2 ^ 32
    → ((all : List (List ℕ)) → g.blocks old ≡ Some all → g.blocks new ≡ Some (slice_set all at (framed page_kind at 0 page)))
    → g.blocks new ≡ Some now → HoldsPage page at now
page_there g before after old new at page now spare put left fits block is =
    let there = put_told g before after old new now put is in
    let inside : at < length there.0 = first_inside (g.blocks old) there.0 at before after spare there.1 left in
    let now_is = told_same _ _ now _ refl is (block there.0 there.1) in
    let here : block_of now at ≡ framed page_kind at 0 page
    = ap (λ (b : List (List ℕ)). block_of b at) now_is ∙ get_or-set_same there.0 at (framed page_kind at 0 page) [] inside in
    record {
      header = ap (has_header page_kind at) here ∙ has_header-framed page_kind at 0 page (omega arith) fits (omega arith) (inr refl);
      content = sym (ap payload_of here ∙ payload_of-framed page_kind at 0 page);
    }
