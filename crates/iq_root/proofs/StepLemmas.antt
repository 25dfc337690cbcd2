-- What a block that is written and synced leaves of a device.
use Rattle.std.specs.Prelude.{◌≡◌, ◌⊎◌, ℕ, ◌≤◌, List, length, Option, Some, None, Result, Ok, Err, OnOk, OnErr, IsErr, slice_set}
use Rattle.std.proofs.Common.{refl, ap, subst, ◌∙◌, inl, inr, arith, length-set}
use Rattle.std.proofs.lemmas.Bool.{cases_lt}
use Rattle.iq_outside.specs.Devices.{Seen, GoesOn, WholeSame, WholeBut, SameBut, Stored, Cut, resized}
use Rattle.iq_outside.specs.DeviceCalls.{view, KeepsPast, IsSettled, HasWritten, HasSynced}
use Rattle.iq_outside.specs.declared.device.Device.{Ghosts}
use Rattle.iq_outside.proofs.ImageLemmas.{SameBut-set}
use Rattle.iq_root.specs.Roots.{body_place, gate_place, body_block, gate_block}
use Rattle.iq_root.specs.Stops.{LeavesOnly, LeftButSlot}
use Rattle.iq_root.specs.Publishing.{HasKept, with_slot}
use Rattle.iq_root.specs.declared.root.Root.{Root}
use Rattle.iq_root.proofs.FormatLemmas.{length-resized}
use Rattle.iq_root.proofs.MomentLemmas.{past_on, leaves_on}
use Rattle.iq_root.proofs.SlotLemmas.{slot_refl, slot_trans, in_slot}

on_ok : {T E : Type 0} {P : Type 0} (result : Result T E) → P → OnOk result P
on_ok (Ok x) p = p
on_ok (Err e) p = tt

on_err : {T E : Type 0} {P : Type 0} (result : Result T E) → P → OnErr result P
on_err (Ok x) p = tt
on_err (Err e) p = p

-- an error promises nothing of Ok
pub no_ok : {T E : Type 0} (P : Type 0) (result : Result T E) → IsErr result → OnOk result P
no_ok P (Ok x) failed = cc
no_ok P (Err e) failed = tt

-- the blocks that are told are one list
pub told_once : (told : Option (List (List ℕ))) (a b : List (List ℕ)) → told ≡ Some a → told ≡ Some b → a ≡ b
told_once told a b first second = cc

none_or_some : (told : Option (List (List ℕ))) (a : List (List ℕ)) → told ≡ None → told ≡ Some a → ⊥
none_or_some told a none some = cc

-- a write keeps the number of blocks
stored_long_by : {U E : Type 0} (at : ℕ) (block : List ℕ) (u : U) (before old new : Option (List (List ℕ))) → old ≡ before
    → Stored {T = U} {E = E} at block (Ok u) old new
    → ((all : List (List ℕ)) → old ≡ Some all → 4 ≤ length all) → (after : List (List ℕ)) → new ≡ Some after → 4 ≤ length after
stored_long_by at block u None old new is stored four after now = absurd (none_or_some new after (stored.untold is) now)
stored_long_by at block u (Some all) old new is stored four after now =
    omega (arith, four all is, length-set all at block, ap length (told_once new (slice_set all at block) after (stored.ok all is) now))

pub stored_long : {U E : Type 0} (at : ℕ) (block : List ℕ) (u : U) (old new : Option (List (List ℕ))) → Stored {T = U} {E = E} at block (Ok u) old new
    → ((all : List (List ℕ)) → old ≡ Some all → 4 ≤ length all) → (after : List (List ℕ)) → new ≡ Some after → 4 ≤ length after
stored_long at block u old new stored four = stored_long_by at block u old old new refl stored four

pub stored_long_ok : {T E : Type 0} (at : ℕ) (block : List ℕ) (result : Result T E) (old new : Option (List (List ℕ))) → Stored at block result old new
    → ((all : List (List ℕ)) → old ≡ Some all → 4 ≤ length all) → OnOk result ((after : List (List ℕ)) → new ≡ Some after → 4 ≤ length after)
stored_long_ok at block (Ok x) old new stored four = stored_long at block x old new stored four
stored_long_ok at block (Err e) old new stored four = tt

-- a change of the number of blocks makes it that
cut_long_by : {U E : Type 0} (n : ℕ) (u : U) (before old new : Option (List (List ℕ))) → old ≡ before → Cut {T = U} {E = E} n (Ok u) old new → 4 ≤ n
    → (after : List (List ℕ)) → new ≡ Some after → 4 ≤ length after
cut_long_by n u None old new is cut four after now = absurd (none_or_some new after (cut.untold is) now)
cut_long_by n u (Some all) old new is cut four after now =
    omega (arith, four, length-resized n all, ap length (told_once new (resized n all) after (cut.ok all is) now))

pub cut_long : {U E : Type 0} (n : ℕ) (u : U) (old new : Option (List (List ℕ))) → Cut {T = U} {E = E} n (Ok u) old new → 4 ≤ n
    → (after : List (List ℕ)) → new ≡ Some after → 4 ≤ length after
cut_long n u old new cut four = cut_long_by n u old old new refl cut four

-- two writes into a slot
pub slot_put : {U E T E' : Type 0} (slot generation : ℕ) (root : Root) (body gate : List ℕ) (u : U) (result : Result T E') (old mid new : Option (List (List ℕ)))
    → body ≡ body_block slot root → gate ≡ gate_block slot generation
    → Stored {T = U} {E = E} (body_place slot) body (Ok u) old mid → Stored (gate_place slot) gate result mid new
    → OnOk result ((all : List (List ℕ)) → old ≡ Some all → new ≡ Some (with_slot slot root generation all))
slot_put slot generation root body gate u (Ok x) old mid new is_body is_gate first second = λ all told.
    second.ok _ (first.ok all told)
    ∙ ap (λ (b : List ℕ). Some (slice_set (slice_set all (body_place slot) b) (gate_place slot) gate)) is_body
    ∙ ap (λ (g : List ℕ). Some (slice_set (slice_set all (body_place slot) (body_block slot root)) (gate_place slot) g)) is_gate
slot_put slot generation root body gate u (Err e) old mid new is_body is_gate first second = tt

-- a write, and then a call that adds no whole bytes
whole_on : (old mid new : Seen) (at : ℕ) (block : List ℕ) → GoesOn mid new → old.clock ≤ mid.clock → WholeBut at block old mid → WholeSame mid new
    → WholeBut at block old new
whole_on old mid new at block past later first second t i x since until whole = elim (cases_lt mid.clock t) [
  | inl after ↦ first mid.clock i x later (omega arith) (second t i x (omega (arith, after)) until whole)
  | inr early ↦ first t i x since early (past.whole_before t i x early whole)
]

module _ {D : Type 0} (g : Ghosts D) where
  pub kept_ok : {T E U F V G : Type 0} (at : ℕ) (block : List ℕ) (u : U) (inner : Result V G) (result : Result T E) (old mid new : D) → (OnOk inner (IsSettled g new) → OnOk result (IsSettled g new))
      → HasWritten {D = D} {T = U} {E = F} g at block (Ok u) old mid → HasSynced g inner mid new → HasKept g at block result old new
  kept_ok at block u inner result old mid new carries wrote synced = record {
    content = record {
      ok = λ all told. on_ok result (synced.content ∙ wrote.content.ok all told);
      err = λ all told. on_err result (slice_set all at block, synced.content ∙ wrote.content.ok all told, SameBut-set at all block);
      untold = λ none. synced.content ∙ wrote.content.untold none;
    };
    past = past_on g old mid new wrote.past synced.past;
    since = leaves_on g old mid new (λ b. (c : List (List ℕ)) × g.image old (g.clock old) c × SameBut at c b) synced.past wrote.since
        (λ t b since until left. wrote.since (g.clock mid) b wrote.past.later (omega arith) (synced.since t b since until left));
    whole = whole_on (view g old) (view g mid) (view g new) at block synced.past wrote.past.later wrote.whole synced.whole;
    settled = carries synced.settled;
  }

  -- what was written where it is Ok doesn't depend on the type of errors
  pub written_ok : {U F U' F' : Type 0} (at : ℕ) (block : List ℕ) (u : U) (u' : U') (old new : D)
      → HasWritten {D = D} {T = U} {E = F} g at block (Ok u) old new
      → HasWritten {D = D} {T = U'} {E = F'} g at block (Ok u') old new
  written_ok at block u u' old new wrote = record {
    content = record { ok = wrote.content.ok; err = λ all told. tt; untold = wrote.content.untold };
    counts = record { later = wrote.counts.later; failed = tt };
    past = wrote.past;
    since = wrote.since;
    whole = wrote.whole;
    raises = λ telling. record { ok = (wrote.raises telling).ok; err = tt };
  }

  -- where nothing waited, only this block differs
  pub kept_images : {T E : Type 0} (at : ℕ) (block : List ℕ) (result : Result T E) (old new : D) (all : List (List ℕ))
      → HasKept g at block result old new → IsSettled g old → g.blocks old ≡ Some all
      → LeavesOnly g old new (SameBut at all)
  kept_images at block result old new all kept settled told t b since until left =
      let from = kept.since t b since until left in
      subst (λ (c : List (List ℕ)). SameBut at c b) (told_once (g.blocks old) from.0 all (settled from.0 from.1) told) from.2

  pub past_stays : (now : D) → KeepsPast g now now
  past_stays now = record { same = refl; later = omega arith; keeps = λ t b early left. left; no_more = λ t b early left. left; keeps_whole = λ t i x early here. here; whole_before = λ t i x early here. here }

  -- outside a slot, a stop leaves what one before could have left
  pub rest_starts : (slot : ℕ) (now : D) → LeavesOnly g now now (LeftButSlot g slot now)
  rest_starts slot now t b since until left =
      let here : t ≡ g.clock now = omega (arith, since, until) in
      (b, subst (λ (m : ℕ). g.image now m b) here left, slot_refl slot b)

  pub rest_goes_on : {T E : Type 0} (slot at : ℕ) (block : List ℕ) (result : Result T E) (old mid new : D)
      → (at ≡ body_place slot) ⊎ (at ≡ gate_place slot) → KeepsPast g old mid → LeavesOnly g old mid (LeftButSlot g slot old)
      → HasKept g at block result mid new → LeavesOnly g old new (LeftButSlot g slot old)
  rest_goes_on slot at block result old mid new within past first kept =
      leaves_on g old mid new (LeftButSlot g slot old) kept.past first
      (λ t b since until left.
      let from = kept.since t b since until left in
      let before = first (g.clock mid) from.0 past.later (omega arith) from.1 in
      (before.0, before.1, slot_trans slot before.0 from.0 b before.2 (in_slot slot at from.0 b within from.2)))
