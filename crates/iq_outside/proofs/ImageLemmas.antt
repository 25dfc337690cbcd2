-- What a record of changes says of each moment.
use Rattle.std.specs.Prelude.{◌≡◌, ◌≢◌, ◌⊎◌, ℕ, ◌+◌, ◌<◌, ◌≤◌, Bool, true, false, List, [], ◌∷◌, ◌++◌, length, take, drop, nat_eq, slice_set, Some, if◌then◌else◌}
use Rattle.std.specs.List.{list_any}
use Rattle.std.proofs.Common.{refl, sym, ap, ◌∙◌, inl, inr, arith, length-append, length-set, get_or-set_same, get_or-set_other}
use Rattle.std.proofs.lemmas.List.{take-append-le, drop-append-le, take_all, drop_all, set-set, set-get_or, ext_get_or}
use Rattle.std.proofs.lemmas.List.Sums.{fold-append}
use Rattle.std.proofs.lemmas.Bool.{cases_lt, cases_order, ne_eqb, eqb-true}
use Rattle.iq_outside.specs.Devices.{block_of, SameBut, GoesOn, StopsSame, StopsBut, WholeSame, WholeBut, Settled}
use Rattle.iq_outside.specs.Changes.{Recording, undone, undone_all, waiting_after, waiting, IsTorn, recorded_image, overwritten_after, overwritten, IsAmong, recorded_whole, recording_seen, Adds}
use Rattle.iq_outside.specs.declared.recorded.Change.{Change}
use Rattle.iq_outside.specs.declared.recorded.Change.TheVariants.{Wrote, Synced}

pub SameBut-refl : (at : ℕ) (b : List (List ℕ)) → SameBut at b b
SameBut-refl at b = record { size = refl; others = λ i other. refl }

-- a list of blocks and the same with another block in one place
pub SameBut-set : (at : ℕ) (b : List (List ℕ)) (x : List ℕ) → SameBut at b (slice_set b at x)
SameBut-set at b x = record { size = length-set b at x; others = λ i other. get_or-set_other b at i x [] other }

pub SameBut-sym : (at : ℕ) (b c : List (List ℕ)) → SameBut at b c → SameBut at c b
SameBut-sym at b c same = record { size = sym same.size; others = λ i other. sym (same.others i other) }

-- a block that was written is undone
pub undone-set : (blocks : List (List ℕ)) (at : ℕ) (x : List ℕ) → slice_set (slice_set blocks at x) at (block_of blocks at) ≡ blocks
undone-set blocks at x = set-set blocks at x (block_of blocks at) ∙ set-get_or blocks at []

undone_all-append : (changes : List Change) (change : Change) (blocks : List (List ℕ))
    → undone_all (changes ++ change ∷ []) blocks ≡ undone_all changes (undone change blocks)
undone_all-append [] change blocks = refl
undone_all-append (c ∷ changes) change blocks = ap (undone c) (undone_all-append changes change blocks)

-- the blocks at an earlier moment stay the same
blocks_past : (change : Change) (old new : Recording) → Adds change old new → (t : ℕ) → t ≤ length old.changes
    → undone_all (drop t new.changes) new.blocks ≡ undone_all (drop t old.changes) old.blocks
blocks_past change old new adds t early =
    ap (λ (cs : List Change). undone_all (drop t cs) new.blocks) adds.changes
    ∙ ap (λ (cs : List Change). undone_all cs new.blocks) (drop-append-le t old.changes (change ∷ []) early)
    ∙ undone_all-append (drop t old.changes) change new.blocks
    ∙ ap (undone_all (drop t old.changes)) adds.undone

-- so do those that waited then
waiting_past : (change : Change) (old new : Recording) → Adds change old new → (t : ℕ) → t ≤ length old.changes
    → waiting (take t new.changes) ≡ waiting (take t old.changes)
waiting_past change old new adds t early =
    ap (λ (cs : List Change). waiting (take t cs)) adds.changes
    ∙ ap waiting (take-append-le t old.changes (change ∷ []) early)

IsTorn-along : (blocks blocks' : List (List ℕ)) (w w' : List ℕ) (b : List (List ℕ)) → blocks ≡ blocks' → w ≡ w' → IsTorn blocks w b → IsTorn blocks' w' b
IsTorn-along blocks blocks' w w' b e f torn = rw (← e, ← f) torn

-- what a stop at an earlier moment may leave stays the same
image_keeps : (change : Change) (old new : Recording) → Adds change old new → (t : ℕ) (b : List (List ℕ)) → t ≤ length old.changes
    → recorded_image old t b → recorded_image new t b
image_keeps change old new adds t b early image =
    IsTorn-along _ _ _ _ b (sym (blocks_past change old new adds t early)) (sym (waiting_past change old new adds t early)) image

image_no_more : (change : Change) (old new : Recording) → Adds change old new → (t : ℕ) (b : List (List ℕ)) → t ≤ length old.changes
    → recorded_image new t b → recorded_image old t b
image_no_more change old new adds t b early image =
    IsTorn-along _ _ _ _ b (blocks_past change old new adds t early) (waiting_past change old new adds t early) image

-- what a stop now may leave
pub image_now : (now : Recording) (t : ℕ) (b : List (List ℕ)) → length now.changes ≤ t → IsTorn now.blocks (waiting now.changes) b → recorded_image now t b
image_now now t b late torn =
    IsTorn-along _ _ _ _ b
    (ap (λ (cs : List Change). undone_all cs now.blocks) (sym (drop_all t now.changes late)))
    (ap waiting (sym (take_all t now.changes late))) torn

pub torn_now : (now : Recording) (t : ℕ) (b : List (List ℕ)) → length now.changes ≤ t → recorded_image now t b → IsTorn now.blocks (waiting now.changes) b
torn_now now t b late image =
    IsTorn-along _ _ _ _ b
    (ap (λ (cs : List Change). undone_all cs now.blocks) (drop_all t now.changes late))
    (ap waiting (take_all t now.changes late)) image

length_added : (change : Change) (old new : Recording) → Adds change old new → length new.changes ≡ length old.changes + 1
length_added change old new adds = ap length adds.changes ∙ length-append old.changes (change ∷ [])

-- the bytes that were whole at an earlier moment stay the same
overwritten_past : (change : Change) (old new : Recording) → Adds change old new → (t i : ℕ) → t ≤ length old.changes
    → overwritten i (take t new.changes) ≡ overwritten i (take t old.changes)
overwritten_past change old new adds t i early =
    ap (λ (cs : List Change). overwritten i (take t cs)) adds.changes
    ∙ ap (overwritten i) (take-append-le t old.changes (change ∷ []) early)

whole_along : (blocks blocks' olds olds' : List (List ℕ)) (i : ℕ) (x : List ℕ) → blocks ≡ blocks' → olds ≡ olds'
    → (x ≡ block_of blocks i) ⊎ IsAmong x olds → (x ≡ block_of blocks' i) ⊎ IsAmong x olds'
whole_along blocks blocks' olds olds' i x e f whole = rw (← e, ← f) whole

whole_keeps : (change : Change) (old new : Recording) → Adds change old new → (t i : ℕ) (x : List ℕ) → t ≤ length old.changes
    → recorded_whole old t i x → recorded_whole new t i x
whole_keeps change old new adds t i x early whole =
    whole_along _ _ _ _ i x (sym (blocks_past change old new adds t early)) (sym (overwritten_past change old new adds t i early)) whole

whole_no_more : (change : Change) (old new : Recording) → Adds change old new → (t i : ℕ) (x : List ℕ) → t ≤ length old.changes
    → recorded_whole new t i x → recorded_whole old t i x
whole_no_more change old new adds t i x early whole =
    whole_along _ _ _ _ i x (blocks_past change old new adds t early) (overwritten_past change old new adds t i early) whole

-- what is whole now
abbrev WholeNow : Recording → ℕ → List ℕ → Type 0
WholeNow now i x = (x ≡ block_of now.blocks i) ⊎ IsAmong x (overwritten i now.changes)

whole_at : (now : Recording) (t i : ℕ) (x : List ℕ) → length now.changes ≤ t → WholeNow now i x → recorded_whole now t i x
whole_at now t i x late whole =
    whole_along _ _ _ _ i x
    (ap (λ (cs : List Change). undone_all cs now.blocks) (sym (drop_all t now.changes late)))
    (ap (overwritten i) (sym (take_all t now.changes late))) whole

whole_now : (now : Recording) (t i : ℕ) (x : List ℕ) → length now.changes ≤ t → recorded_whole now t i x → WholeNow now i x
whole_now now t i x late whole =
    whole_along _ _ _ _ i x
    (ap (λ (cs : List Change). undone_all cs now.blocks) (drop_all t now.changes late))
    (ap (overwritten i) (take_all t now.changes late)) whole

-- one more change keeps the past
pub adds_keeps : (f g : ℕ) (change : Change) (old new : Recording) → Adds change old new → GoesOn (recording_seen f old) (recording_seen g new)
adds_keeps f g change old new adds = record {
  same = refl;
  later = omega (arith, length_added change old new adds);
  keeps = image_keeps change old new adds;
  no_more = image_no_more change old new adds;
  keeps_whole = whole_keeps change old new adds;
  whole_before = whole_no_more change old new adds;
}

-- it raises the clock
pub adds_raises : (change : Change) (old new : Recording) → Adds change old new → length old.changes < length new.changes
adds_raises change old new adds = omega (arith, length_added change old new adds)

-- no change keeps all
pub unmoved_keeps : (f g : ℕ) (old new : Recording) → new ≡ old → GoesOn (recording_seen f old) (recording_seen g new)
unmoved_keeps f g old new same = record {
  same = refl;
  later = omega (arith, ap (λ (r : Recording). length r.changes) same);
  keeps = λ t b early image. rw same image;
  no_more = λ t b early image. rw (← same) image;
  keeps_whole = λ t i x early whole. rw same whole;
  whole_before = λ t i x early whole. rw (← same) whole;
}

-- the moments of a call that changed nothing are one
unmoved_moment : (old new : Recording) (t : ℕ) → new ≡ old → length old.changes ≤ t → t ≤ length new.changes → t ≡ length old.changes
unmoved_moment old new t same since until = omega (arith, ap (λ (r : Recording). length r.changes) same, since, until)

pub unmoved_same : (f g : ℕ) (old new : Recording) → new ≡ old → StopsSame (recording_seen f old) (recording_seen g new)
unmoved_same f g old new same t b since until image =
    let before : recorded_image old t b = rw (← same) image in
    rw (← unmoved_moment old new t same since until) before

pub unmoved_but : (f g at : ℕ) (old new : Recording) → new ≡ old → StopsBut at (recording_seen f old) (recording_seen g new)
unmoved_but f g at old new same t b since until image =
    (b, unmoved_same f g old new same t b since until image, SameBut-refl at b)

pub unmoved_whole : (f g : ℕ) (old new : Recording) → new ≡ old → WholeSame (recording_seen f old) (recording_seen g new)
unmoved_whole f g old new same t i x since until whole =
    let before : recorded_whole old t i x = rw (← same) whole in
    rw (← unmoved_moment old new t same since until) before

-- what a write may leave is, but for its place, what could be left before
torn_before : (blocks b : List (List ℕ)) (w : List ℕ) (at : ℕ) (block : List ℕ) → at < length blocks → IsTorn (slice_set blocks at block) (at ∷ w) b
    → IsTorn blocks w (slice_set b at (block_of blocks at))
torn_before blocks b w at block within torn =
    let size : length b ≡ length blocks = torn.size ∙ length-set blocks at block in
    record {
      size = length-set b at (block_of blocks at) ∙ size;
      others = λ i free. elim (cases_order i at) [
        | inl here ↦ rw here (get_or-set_same b at (block_of blocks at) [] (omega (arith, within, size)))
        | inr apart ↦ (
            let other : i ≢ at = omega (arith, apart) in
            let passed : list_any (nat_eq i) (at ∷ w) ≡ false = rw (ne_eqb i at other) free in
            get_or-set_other b at i (block_of blocks at) [] other ∙ torn.others i passed ∙ get_or-set_other blocks at i block [] other)
      ];
    }

-- a change at a moment of the call: it was made, or it is yet to come
pub write_but : (f g at : ℕ) (block : List ℕ) (old new : Recording)
    → Adds (Wrote at (block_of old.blocks at)) old new → new.blocks ≡ slice_set old.blocks at block → at < length old.blocks
    → StopsBut at (recording_seen f old) (recording_seen g new)
write_but f g at block old new adds set within t b since until image =
    let change = Wrote at (block_of old.blocks at) in
    elim (cases_lt (length old.changes) t) [
      | inl after ↦ (
          let late : length new.changes ≤ t = omega (arith, after, length_added change old new adds) in
          let waits : waiting new.changes ≡ at ∷ waiting old.changes
          = ap waiting adds.changes ∙ fold-append waiting_after [] old.changes (change ∷ []) in
          let torn : IsTorn (slice_set old.blocks at block) (at ∷ waiting old.changes) b
          = IsTorn-along _ _ _ _ b set waits (torn_now new t b late image) in (
            slice_set b at (block_of old.blocks at),
            image_now old (length old.changes) _ (omega arith) (torn_before old.blocks b (waiting old.changes) at block within torn),
            SameBut-sym at _ _ (SameBut-set at b (block_of old.blocks at)),
          ))
      | inr early ↦ (
          let now : t ≡ length old.changes = omega (arith, since, early) in
          let before : recorded_image old t b = image_no_more change old new adds t b early image in
          (b, rw (← now) before, SameBut-refl at b))
    ]

-- what is whole after a write was whole before, or is the block
among_more : (v : Bool) (x block : List ℕ) (olds : List (List ℕ)) → IsAmong x (if v then block ∷ olds else olds) → ((v ≡ true) × (x ≡ block)) ⊎ IsAmong x olds
among_more true x block olds (inl is) = inl (refl, is)
among_more true x block olds (inr rest) = inr rest
among_more false x block olds rest = inr rest

wrote_whole : (at : ℕ) (block : List ℕ) (old : Recording) (i : ℕ) (x : List ℕ) → at < length old.blocks
    → (x ≡ block_of (slice_set old.blocks at block) i) ⊎ IsAmong x (overwritten_after i (overwritten i old.changes) (Wrote at (block_of old.blocks at)))
    → WholeNow old i x ⊎ ((i ≡ at) × (x ≡ block))
wrote_whole at block old i x within (inl is) = elim (cases_order i at) [
  | inl here ↦ inr (here, is ∙ ap (block_of (slice_set old.blocks at block)) here ∙ get_or-set_same old.blocks at block [] within)
  | inr apart ↦ inl (inl (is ∙ get_or-set_other old.blocks at i block [] (omega (arith, apart))))
]
wrote_whole at block old i x within (inr among) = elim (among_more (nat_eq i at) x (block_of old.blocks at) (overwritten i old.changes) among) [
  | inl here ↦ inl (inl (here.1 ∙ ap (block_of old.blocks) (sym (eqb-true i at here.0))))
  | inr rest ↦ inl (inr rest)
]

whole_later : (now : Recording) (at : ℕ) (block : List ℕ) (i : ℕ) (x : List ℕ) → WholeNow now i x ⊎ ((i ≡ at) × (x ≡ block))
    → recorded_whole now (length now.changes) i x ⊎ ((i ≡ at) × (x ≡ block))
whole_later now at block i x (inl before) = inl (whole_at now (length now.changes) i x (omega arith) before)
whole_later now at block i x (inr written) = inr written

pub write_whole : (f g at : ℕ) (block : List ℕ) (old new : Recording)
    → Adds (Wrote at (block_of old.blocks at)) old new → new.blocks ≡ slice_set old.blocks at block → at < length old.blocks
    → WholeBut at block (recording_seen f old) (recording_seen g new)
write_whole f g at block old new adds set within t i x since until whole =
    let change = Wrote at (block_of old.blocks at) in
    elim (cases_lt (length old.changes) t) [
      | inl after ↦ (
          let late : length new.changes ≤ t = omega (arith, after, length_added change old new adds) in
          let olds : overwritten i new.changes ≡ overwritten_after i (overwritten i old.changes) change
          = ap (overwritten i) adds.changes ∙ fold-append (overwritten_after i) [] old.changes (change ∷ []) in
          whole_later old at block i x (wrote_whole at block old i x within (whole_along _ _ _ _ i x set olds (whole_now new t i x late whole))))
      | inr early ↦ (
          let now : t ≡ length old.changes = omega (arith, since, early) in
          let before : recorded_whole old t i x = whole_no_more change old new adds t i x early whole in
          inl (rw (← now) before))
    ]

-- after a sync nothing waits
synced_waits : (old new : Recording) → Adds Synced old new → waiting new.changes ≡ []
synced_waits old new adds = ap waiting adds.changes ∙ fold-append waiting_after [] old.changes (Synced ∷ [])

pub sync_same : (f g : ℕ) (old new : Recording) → Adds Synced old new → StopsSame (recording_seen f old) (recording_seen g new)
sync_same f g old new adds t b since until image =
    elim (cases_lt (length old.changes) t) [
      | inl after ↦ (
          let late : length new.changes ≤ t = omega (arith, after, length_added Synced old new adds) in
          let torn : IsTorn old.blocks [] b
          = IsTorn-along _ _ _ _ b adds.undone (synced_waits old new adds) (torn_now new t b late image) in
          image_now old (length old.changes) b (omega arith) (record { size = torn.size; others = λ i free. torn.others i refl }))
      | inr early ↦ (
          let now : t ≡ length old.changes = omega (arith, since, early) in
          let before : recorded_image old t b = image_no_more Synced old new adds t b early image in
          rw (← now) before)
    ]

-- and the bytes that are read are the only whole ones
synced_whole : (blocks : List (List ℕ)) (i : ℕ) (x : List ℕ) → (x ≡ block_of blocks i) ⊎ IsAmong x [] → x ≡ block_of blocks i
synced_whole blocks i x (inl is) = is
synced_whole blocks i x (inr none) = absurd none

pub sync_whole : (f g : ℕ) (old new : Recording) → Adds Synced old new → WholeSame (recording_seen f old) (recording_seen g new)
sync_whole f g old new adds t i x since until whole =
    elim (cases_lt (length old.changes) t) [
      | inl after ↦ (
          let late : length new.changes ≤ t = omega (arith, after, length_added Synced old new adds) in
          let olds : overwritten i new.changes ≡ [] = ap (overwritten i) adds.changes ∙ fold-append (overwritten_after i) [] old.changes (Synced ∷ []) in
          whole_at old (length old.changes) i x (omega arith)
          (inl (synced_whole old.blocks i x (whole_along _ _ _ _ i x adds.undone olds (whole_now new t i x late whole)))))
      | inr early ↦ (
          let now : t ≡ length old.changes = omega (arith, since, early) in
          let before : recorded_whole old t i x = whole_no_more Synced old new adds t i x early whole in
          rw (← now) before)
    ]

pub sync_settles : (g : ℕ) (old new : Recording) → Adds Synced old new → Settled (recording_seen g new)
sync_settles g old new adds b image =
    let torn : IsTorn new.blocks [] b
    = IsTorn-along _ _ _ _ b refl (synced_waits old new adds) (torn_now new (length new.changes) b (omega arith) image) in
    ap Some (sym (ext_get_or [] b new.blocks torn.size (λ i within. torn.others i refl)))
