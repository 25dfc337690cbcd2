-- Objects that are closed one after the other, each beside the others.
use Rattle.iq_base.specs.declared.sizes.TheConstants.{MOST_PAGES}
use Rattle.std.specs.Prelude.{◌≡◌, ℕ, ◌+◌, ◌<◌, ◌≤◌, false, List, [], ◌∷◌, ◌++◌, length, take, drop, slice_index_or, slice_set, Option, Some, None, Result, Ok, Err, OnOk}
use Rattle.std.specs.List.{All}
use Rattle.std.proofs.Common.{refl, sym, ap, subst, ◌∙◌, inl, inr, arith, length-set, get_or-set_same, get_or-set_other}
use Rattle.std.proofs.lemmas.Bool.{cases_eq}
use Rattle.std.proofs.lemmas.List.{get_or_default}
use Rattle.std.proofs.lemmas.List.Elements.{All-set}
use Rattle.iq_base.specs.declared.refs.Ref.{Ref}
use Rattle.iq_outside.specs.declared.device.Device.{Ghosts}
use Rattle.iq_pages.specs.Pages.{Pages}
use Rattle.iq_block_map.specs.declared.faults.MapFault.{MapFault}
use Rattle.iq_block_map.specs.Objects.{blocks_of, addresses_of, pages_of, contents}
use Rattle.iq_block_map.specs.Refs.{IsIn, WhereTold}
use Rattle.iq_block_map.specs.Takers.{taken_of}
use Rattle.iq_block_map.specs.Writing.{holds, HasPut}
use Rattle.iq_block_map.specs.Laws.{SameObject}
use Rattle.iq_block_map.proofs.FrameLaws.{frame_law}
use Rattle.iq_block_map.proofs.RewriteLemmas.{put_told}
use Rattle.iq_objects.specs.Open.{Held, Stands}
use Rattle.iq_objects.specs.Opened.{IsClosed}
use Rattle.iq_objects.proofs.StandLemmas.{stands_put}
use Rattle.iq_objects.proofs.PageLemmas.{same_blocks, contents_stay}
use Rattle.iq_table_objects.specs.declared.table_objects.Slot.{Slot}
use Rattle.iq_table_objects.specs.Tables.{AreSound, if_right, told_of, told_at, count_at, seen_of}
use Rattle.iq_table_objects.specs.Opening.{IsSettled, IsSlotClosed, AreStanding, AreSettled, SamePages, ReadsAsTold}
use Rattle.iq_table_objects.specs.Views.{ReadAsTold}
use Rattle.iq_table_objects.proofs.TableLemmas.{free_part, slot_at}

-- an object that reaches nothing that may be taken stays
object_same : {D : Type 0} (g : Ghosts D) (before after : List ℕ) (old new : D) (object : Ref) (blocks : List ℕ) (all now : List (List ℕ)) → HasPut g before after old new
    → g.blocks old ≡ Some all → g.blocks new ≡ Some now → object.pages ≤ MOST_PAGES → blocks_of all object ≡ Ok blocks → All (λ b. holds before b ≡ false) blocks
    → SameObject all now object
object_same g before after old new object blocks all now put told told_now few reached free =
    let same = same_blocks g before after old new all now put told told_now in
    frame_law all now object blocks few reached record {
      size = same.size;
      blocks = λ k d within. same.others (slice_index_or blocks k d) (free_part before after (slice_index_or blocks k d) put.left (free k d within)).0;
    }

-- what is closed stays so where another object is closed
settled_put : {D : Type 0} (g : Ghosts D) (before after : List ℕ) (old new : D) (s : Slot) → HasPut g before after old new
    → WhereTold (g.blocks old) (IsSettled before s) → WhereTold (g.blocks new) (IsSettled after s)
settled_put g before after old new s put settled now told_now =
    let there = put_told g before after old new now put told_now in
    let all = there.0 in
    let had = settled all there.1 in
    let same = object_same g before after old new s.reference had.blocks all now put there.1 told_now had.few had.reached had.free in
    record {
      few = had.few;
      pages = same.addresses ∙ had.pages;
      blocks = had.blocks;
      reached = same.blocks ∙ had.reached;
      each = had.each;
      free = λ k d within. (free_part before after (slice_index_or had.blocks k d) put.left (had.free k d within)).1;
    }

is_in_put : {D : Type 0} (g : Ghosts D) (before after : List ℕ) (old new : D) (object : Ref) → HasPut g before after old new → IsIn (g.blocks old) object
    → IsIn (g.blocks new) object
is_in_put g before after old new object put had = record {
  few = had.few;
  above = had.above;
  below = λ some now told_now.
      (let there = put_told g before after old new now put told_now in
      let below : object.root < length there.0 = had.below some there.0 there.1 in
      omega (arith, below, there.2.size));
}

closed_put : {D : Type 0} (g : Ghosts D) (before after : List ℕ) (old new : D) (s : Slot) → HasPut g before after old new
    → IsSlotClosed (g.blocks old) before s → IsSlotClosed (g.blocks new) after s
closed_put g before after old new s put closed = record {
  size = closed.size;
  settled = settled_put g before after old new s put closed.settled;
  is_in = is_in_put g before after old new s.reference put closed.is_in;
}

-- an object that was closed
pub settled_is : (left : List ℕ) (s : Slot) (all : List (List ℕ)) → s.reference.pages ≤ MOST_PAGES → IsClosed s.reference s.object all → Stands left s.object all
    → IsSettled left s all
settled_is left s all few closed stands = record {
  few = few;
  pages = closed.pages;
  blocks = closed.blocks;
  reached = closed.reached;
  each = closed.each;
  free = closed.apart left stands;
}

pub standing_put : {D : Type 0} (g : Ghosts D) (before after : List ℕ) (old new : D) (slots : List Slot) → HasPut g before after old new
    → AreStanding (g.blocks old) before slots → AreStanding (g.blocks new) after slots
standing_put g before after old new slots put stands k d within =
    stands_put g before after old new (slice_index_or slots k d).object put (stands k d within)

-- all stand after one was closed
pub standing_set : {D : Type 0} (g : Ghosts D) (before after : List ℕ) (old new : D) (slots : List Slot) (k : ℕ) (t : Slot) → HasPut g before after old new
    → AreStanding (g.blocks old) before slots → WhereTold (g.blocks new) (Stands after t.object) → AreStanding (g.blocks new) after (slice_set slots k t)
standing_set g before after old new slots k t put stands mine =
    All-set (λ (s : Slot). WhereTold (g.blocks new) (Stands after s.object)) slots k t mine (standing_put g before after old new slots put stands)

-- the first so many are closed
abbrev pub FirstClosed : Option (List (List ℕ)) → List ℕ → ℕ → List Slot → Type 0
FirstClosed told left n slots = (j : ℕ) (d : Slot) → j < n → j < length slots → IsSlotClosed told left (slice_index_or slots j d)

pub closed_next : {D : Type 0} (g : Ghosts D) (before after : List ℕ) (old new : D) (slots : List Slot) (k : ℕ) (t : Slot) → HasPut g before after old new
    → k < length slots → FirstClosed (g.blocks old) before k slots → IsSlotClosed (g.blocks new) after t
    → FirstClosed (g.blocks new) after (k + 1) (slice_set slots k t)
closed_next g before after old new slots k t put within first mine j d less inside = elim (cases_eq j k) [
  | inl here ↦
      subst (IsSlotClosed (g.blocks new) after) (sym (ap (λ (i : ℕ). slice_index_or (slice_set slots k t) i d) here ∙ get_or-set_same slots k t d within)) mine
  | inr other ↦
      (let size = length-set slots k t in
      subst (IsSlotClosed (g.blocks new) after) (sym (get_or-set_other slots k j t d other))
      (closed_put g before after old new (slice_index_or slots j d) put (first j d (omega (arith, less, λ (is : j ≡ k). other is)) (omega (arith, inside, size)))))
]

pub same_pages_refl : (slots : List Slot) → SamePages slots slots
same_pages_refl slots = record { size = refl; each = λ k d within. refl }

pub same_pages_set : (start slots : List Slot) (k : ℕ) (s t : Slot) → SamePages start slots → k < length slots → s ≡ slice_index_or slots k s
    → t.object.pages ≡ s.object.pages → SamePages start (slice_set slots k t)
same_pages_set start slots k s t same within is pages = record {
  size = length-set slots k t ∙ same.size;
  each = λ j d inside. elim (cases_eq j k) [
    | inl here ↦
        (let at : slice_index_or slots k d ≡ s = get_or_default slots k d s within ∙ sym is in
        ap (λ (i : ℕ). (slice_index_or (slice_set slots k t) i d).object.pages) here
        ∙ ap (λ (u : Slot). u.object.pages) (get_or-set_same slots k t d within) ∙ pages ∙ ap (λ (u : Slot). u.object.pages) (sym at)
        ∙ ap (λ (i : ℕ). (slice_index_or slots i d).object.pages) (sym here) ∙ same.each j d inside)
    | inr other ↦ ap (λ (u : Slot). u.object.pages) (get_or-set_other slots k j t d other) ∙ same.each j d inside
  ];
}

-- the pages that were told of an object are those that its new reference names
pub reads_as_told : {D : Type 0} (g : Ghosts D) (before after : List ℕ) (old new : D) (s t : Slot) → HasPut g before after old new
    → WhereTold (g.blocks old) (Stands before s.object) → t.object.pages ≡ s.object.pages → WhereTold (g.blocks new) (IsSettled after t)
    → WhereTold (g.blocks new) (ReadsAsTold (g.blocks old) s t)
reads_as_told g before after old new s t put stands pages settled now told_now ps is =
    let there = put_told g before after old new now put told_now in
    let all = there.0 in
    let right : if_right (pages_of all s.reference) (contents all (Ok s.object.pages)) ≡ Some ps
    = subst (λ (told : Option (List (List ℕ))). told_of told s ≡ Some ps) there.1 is in
    ap (contents now) ((settled now told_now).pages ∙ ap (λ (xs : List ℕ). Ok xs) pages)
    ∙ contents_stay g before after old new s.object.pages all now put there.1 told_now (stands all there.1).free_pages
    ∙ right_is (pages_of all s.reference) (contents all (Ok s.object.pages)) ps right
  where
    right_is : (r now : Option Pages) (ps : Pages) → if_right r now ≡ Some ps → now ≡ Some ps
    right_is None now ps is = cc
    right_is (Some qs) now ps is = is

-- what is sound stands
pub standing_is : (told : Option (List (List ℕ))) (left : List ℕ) (slots : List Slot) → AreSound told left slots → AreStanding told left slots
standing_is told left slots sound k d within all told_all = (sound k d within all told_all).stands

-- the references of objects that were closed
pub closed_are : {D : Type 0} (g : Ghosts D) (before after : List ℕ) (old new : D) (slots now : List Slot) (first faults refused : ℕ) → HasPut g before after old new
    → AreStanding (g.blocks old) before slots → SamePages slots now → AreSettled (g.blocks new) after now
    → ReadAsTold (g.blocks new) first now (seen_of (g.blocks old) slots first faults refused)
closed_are g before after old new slots now first faults refused put stands same settled = record {
  told = λ k d ps inside is.
      (let within : k < length slots = omega (arith, inside, same.size) in
      let here = slot_at slots first (first + k) k d refl within in
      λ all told_now.
      reads_as_told g before after old new (slice_index_or slots k d) (slice_index_or now k d) put (stands k d within) (same.each k d within) (settled k d inside).settled
      all told_now ps (sym (ap (told_at (g.blocks old)) here) ∙ is));
  counts = λ k d inside.
      (let within : k < length slots = omega (arith, inside, same.size) in
      (settled k d inside).size ∙ ap length (same.each k d within) ∙ sym (ap count_at (slot_at slots first (first + k) k d refl within)));
}

-- a list of slots that was lent as a slice
pub whole_again : (slots now : List Slot) (n : ℕ) → length now ≡ length slots → n ≡ length slots → take n (now ++ drop (length now) slots) ≡ now
whole_again slots now n same size =
    ap (λ (m : ℕ). take m (now ++ drop (length now) slots)) (size ∙ sym same) ∙ front now (drop (length now) slots)
  where
    front : (xs ys : List Slot) → take (length xs) (xs ++ ys) ≡ xs
    front [] ys = refl
    front (x ∷ xs) ys = ap (λ (zs : List Slot). x ∷ zs) (front xs ys)
