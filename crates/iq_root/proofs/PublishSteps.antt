-- The three steps of publishing: the gate is closed, the body is written, the gate is opened.
use Rattle.std.specs.Prelude.{◌≡◌, ◌⊎◌, ℕ, ◌<◌, ◌≤◌, List, length, Some, Result, Ok, Err, OnOk, slice_set}
use Rattle.std.proofs.Common.{refl, sym, ap, subst, ◌∙◌, inl, inr, arith}
use Rattle.iq_outside.specs.Devices.{block_of, SameBut, WholeMayStay}
use Rattle.iq_outside.specs.DeviceCalls.{view, KeepsPast}
use Rattle.iq_outside.specs.declared.device.Device.{Ghosts}
use Rattle.iq_outside.proofs.ImageLemmas.{SameBut-set}
use Rattle.iq_root.specs.Roots.{long_at, body_place, gate_place, body_block, gate_block, newest}
use Rattle.iq_root.specs.Pages.{RootFits}
use Rattle.iq_root.specs.Stops.{SameButSlot, LeavesOnly, LeftButSlot}
use Rattle.iq_root.specs.Publishing.{slot_of, published, Follows, HasLastOrNew, SameRoots, IsStale, ReadsAs, IsGateWhole, as_before, closed, headless, GatesUntorn, IsUntorn, unheaded, as_whole, RootsAreSafe, HasKept}
use Rattle.std.proofs.lemmas.Nat.{mod_below}
use Rattle.iq_root.proofs.BodyLemmas.{gate_tells}
use Rattle.iq_root.proofs.MomentLemmas.{past_on, leaves_on}
use Rattle.iq_root.proofs.SlotLemmas.{slot_trans, in_slot}
use Rattle.iq_root.proofs.PublishLemmas.{closed_blocks, body_blocks, closing, writing, opening, opened, published_newest, published_leaves}
use Rattle.iq_root.proofs.StepLemmas.{told_once, kept_images, past_stays, rest_starts, rest_goes_on}
use Rattle.iq_root.specs.declared.root.Root.{Root}

module _ {D : Type 0} (g : Ghosts D) where
  pub kept_as : {T E : Type 0} (at : ℕ) (block other : List ℕ) (result : Result T E) (old new : D) → block ≡ other
      → HasKept g at block result old new → HasKept g at other result old new
  kept_as at block other result old new is kept = subst (λ (b : List ℕ). HasKept g at b result old new) is kept

  -- the other blocks stay
  pub kept_others : {T E : Type 0} (slot at : ℕ) (block : List ℕ) (result : Result T E) (old new : D) (all : List (List ℕ))
      → (at ≡ body_place slot) ⊎ (at ≡ gate_place slot) → HasKept g at block result old new
      → (before : List (List ℕ)) × (g.blocks old ≡ Some before) × SameButSlot slot all before
      → (after : List (List ℕ)) × (g.blocks new ≡ Some after) × SameButSlot slot all after
  kept_others slot at block (Ok x) old new all within kept from = (
    slice_set from.0 at block,
    kept.content.ok from.0 from.1,
    slot_trans slot all from.0 (slice_set from.0 at block) from.2 (in_slot slot at from.0 (slice_set from.0 at block) within (SameBut-set at from.0 block)),
  )
  kept_others slot at block (Err e) old new all within kept from =
      let later = kept.content.err from.0 from.1 in
      (later.0, later.1, slot_trans slot all from.0 later.0 from.2 (in_slot slot at from.0 later.0 within later.2))

  module _ (root : Root) (fits : RootFits root) where
    abbrev pub Closes : {T E : Type 0} → Result T E → D → D → Type 0
    Closes result old new = HasKept g (gate_place (slot_of root)) (gate_block (slot_of root) 0) result old new

    abbrev pub Writes : {T E : Type 0} → Result T E → D → D → Type 0
    Writes result old new = HasKept g (body_place (slot_of root)) (body_block (slot_of root) root) result old new

    abbrev pub Opens : {T E : Type 0} → Result T E → D → D → Type 0
    Opens result old new = HasKept g (gate_place (slot_of root)) (gate_block (slot_of root) root.generation) result old new

    -- outside the slot, a stop leaves what one before could have left
    pub left_first : {T E : Type 0} (r : Result T E) (old new : D) → Closes r old new
        → LeavesOnly g old new (LeftButSlot g (slot_of root) old)
    left_first r old new closes =
        rest_goes_on g (slot_of root) (gate_place (slot_of root)) _ r old old new (inr refl)
        (past_stays g old) (rest_starts g (slot_of root) old) closes

    pub left_second : {T E T' E' : Type 0} (r : Result T E) (r' : Result T' E') (old mid new : D) → Closes r old mid → Writes r' mid new
        → LeavesOnly g old new (LeftButSlot g (slot_of root) old)
    left_second r r' old mid new closes writes =
        rest_goes_on g (slot_of root) (body_place (slot_of root)) _ r' old mid new (inl refl)
        closes.past (left_first r old mid closes) writes

    pub left_third : {T E T' E' T'' E'' : Type 0} (r : Result T E) (r' : Result T' E') (r'' : Result T'' E'') (old mid next new : D)
        → Closes r old mid → Writes r' mid next → Opens r'' next new
        → LeavesOnly g old new (LeftButSlot g (slot_of root) old)
    left_third r r' r'' old mid next new closes writes opens =
        rest_goes_on g (slot_of root) (gate_place (slot_of root)) _ r'' old next new (inr refl)
        (past_on g old mid next closes.past writes.past) (left_second r r' old mid next closes writes) opens

    module _ (all : List (List ℕ)) (last : Root) (follows : Follows all last root) (four : 4 ≤ length all) where
      -- bytes that were whole in the gate's place before are those that are read there
      whole_before : (old : D) → WholeMayStay (view g old) → g.blocks old ≡ Some all
          → ((b : List (List ℕ)) → g.image old (g.clock old) b → SameRoots all b) → (y : List ℕ) → g.whole old (g.clock old) (gate_place (slot_of root)) y
          → y ≡ block_of all (gate_place (slot_of root))
      whole_before old may told settled y whole =
          let two : slot_of root < 2 = mod_below root.generation 2 (omega arith) in
          let from = may all (gate_place (slot_of root)) y told (omega (arith, two, four)) whole in
          sym from.2 ∙ settled from.0 from.1 (gate_place (slot_of root)) (omega (arith, two))

      -- so a gate that isn't torn while it is closed reads as before, or as a closed one
      gate_of : (old : D) (b : List (List ℕ)) (y : List ℕ) → ReadsAs (gate_place (slot_of root)) (block_of b (gate_place (slot_of root))) y
          → (y ≡ block_of all (gate_place (slot_of root))) ⊎ (y ≡ gate_block (slot_of root) 0) → IsGateWhole all root b
      gate_of old b y reads (inl before) = as_before (subst (ReadsAs (gate_place (slot_of root)) (block_of b (gate_place (slot_of root)))) before reads)
      gate_of old b y reads (inr shut) = closed (reads.generation ∙ ap (λ (x : List ℕ). long_at x 16) shut ∙ gate_tells (slot_of root) 0 (omega arith))

      untorn_gate : {T E : Type 0} (r : Result T E) (old mid new : D) (t : ℕ) (b : List (List ℕ)) → Closes r old mid → KeepsPast g mid new → WholeMayStay (view g old)
          → g.blocks old ≡ Some all → ((b : List (List ℕ)) → g.image old (g.clock old) b → SameRoots all b) → g.clock old ≤ t → t ≤ g.clock mid
          → IsUntorn (g.whole new t (gate_place (slot_of root))) (gate_place (slot_of root)) (block_of b (gate_place (slot_of root)))
          → IsGateWhole all root b
      untorn_gate r old mid new t b closes past may told settled since until (unheaded missing) = headless missing
      untorn_gate r old mid new t b closes past may told settled since until (as_whole y whole reads) =
          gate_of old b y reads (was_or_closed (closes.whole t (gate_place (slot_of root)) y since until (past.whole_before t (gate_place (slot_of root)) y until whole)))
        where
          was_or_closed : g.whole old (g.clock old) (gate_place (slot_of root)) y ⊎ ((gate_place (slot_of root) ≡ gate_place (slot_of root)) × (y ≡ gate_block (slot_of root) 0))
              → (y ≡ block_of all (gate_place (slot_of root))) ⊎ (y ≡ gate_block (slot_of root) 0)
          was_or_closed (inl was) = inl (whole_before old may told settled y was)
          was_or_closed (inr shut) = inr shut.1

      -- what a stop may leave while the gate is closed
      first_moments : {T E : Type 0} (r : Result T E) (old mid new : D) → WholeMayStay (view g old) → g.blocks old ≡ Some all → Closes r old mid → KeepsPast g mid new
          → RootsAreSafe g all last root old new → LeavesOnly g old mid (HasLastOrNew all last root)
      first_moments r old mid new may told closes past safe t b since until left =
          let from = closes.since t b since until left in
          closing all last root follows four fits from.0 b (safe.settled from.0 from.1) from.2 (torn_of safe.torn)
        where
          torn_of : (IsStale all last root ⊎ GatesUntorn g new (g.clock old) (g.clock new)) → IsStale all last root ⊎ IsGateWhole all root b
          torn_of (inl stale) = inl stale
          torn_of (inr untorn) =
              inr (untorn_gate r old mid new t b closes past may told safe.settled since until
              (untorn t b since (omega (arith, until, past.later)) (past.keeps t b until left) (slot_of root) (mod_below root.generation 2 (omega arith))))

      pub any_first : {T E : Type 0} (r : Result T E) (old new : D) → WholeMayStay (view g old) → g.blocks old ≡ Some all → Closes r old new
          → RootsAreSafe g all last root old new → LeavesOnly g old new (HasLastOrNew all last root)
      any_first r old new may told closes safe = first_moments r old new new may told closes (past_stays g new) safe

      second_moments : {U E T E' : Type 0} (u : U) (r : Result T E') (old mid new : D) → g.blocks old ≡ Some all → Closes {T = U} {E = E} (Ok u) old mid → Writes r mid new
          → LeavesOnly g mid new (HasLastOrNew all last root)
      second_moments u r old mid new told closes writes t b since until left =
          writing all last root follows four fits b
          (kept_images g _ _ r mid new (closed_blocks root all) writes closes.settled
          (closes.content.ok all told) t b since until left)

      pub any_second : {U E T E' : Type 0} (u : U) (r : Result T E') (old mid new : D) → WholeMayStay (view g old) → g.blocks old ≡ Some all → Closes {T = U} {E = E} (Ok u) old mid → Writes r mid new
          → RootsAreSafe g all last root old new → LeavesOnly g old new (HasLastOrNew all last root)
      any_second u r old mid new may told closes writes safe =
          leaves_on g old mid new (HasLastOrNew all last root) writes.past
          (first_moments (Ok u) old mid new may told closes writes.past safe) (second_moments u r old mid new told closes writes)

      third_moments : {U E U' E' T E'' : Type 0} (u : U) (u' : U') (r : Result T E'') (old mid next new : D) → g.blocks old ≡ Some all
          → Closes {T = U} {E = E} (Ok u) old mid → Writes {T = U'} {E = E'} (Ok u') mid next → Opens r next new → LeavesOnly g next new (HasLastOrNew all last root)
      third_moments u u' r old mid next new told closes writes opens t b since until left =
          opening all last root follows four fits b
          (kept_images g _ _ r next new (body_blocks root all) opens writes.settled
          (writes.content.ok _ (closes.content.ok all told)) t b since until left)

      pub any_third : {U E U' E' T E'' : Type 0} (u : U) (u' : U') (r : Result T E'') (old mid next new : D) → WholeMayStay (view g old) → g.blocks old ≡ Some all
          → Closes {T = U} {E = E} (Ok u) old mid → Writes {T = U'} {E = E'} (Ok u') mid next → Opens r next new
          → RootsAreSafe g all last root old new → LeavesOnly g old new (HasLastOrNew all last root)
      any_third u u' r old mid next new may told closes writes opens safe =
          leaves_on g old next new (HasLastOrNew all last root) opens.past
          (leaves_on g old mid next (HasLastOrNew all last root) writes.past
          (first_moments (Ok u) old mid new may told closes (past_on g mid next new writes.past opens.past) safe)
          (second_moments u (Ok u') old mid next told closes writes))
          (third_moments u u' r old mid next new told closes writes opens)

      -- what is read after an error
      pub halted_first : {T E : Type 0} (e : E) (old new : D) (after : List (List ℕ)) → g.blocks old ≡ Some all → Closes {T = T} {E = E} (Err e) old new → g.blocks new ≡ Some after
          → IsStale all last root ⊎ IsGateWhole all root after → HasLastOrNew all last root after
      halted_first e old new after told closes now safe =
          let from = closes.content.err all told in
          closing all last root follows four fits all after (λ i low. refl)
          (subst (λ (b : List (List ℕ)). SameBut (gate_place (slot_of root)) all b) (told_once (g.blocks new) from.0 after from.1 now) from.2) safe

      pub halted_second : {U E T E' : Type 0} (u : U) (e : E') (old mid new : D) (after : List (List ℕ)) → g.blocks old ≡ Some all
          → Closes {T = U} {E = E} (Ok u) old mid → Writes {T = T} {E = E'} (Err e) mid new → g.blocks new ≡ Some after → HasLastOrNew all last root after
      halted_second u e old mid new after told closes writes now =
          let from = writes.content.err _ (closes.content.ok all told) in
          subst (HasLastOrNew all last root) (told_once (g.blocks new) from.0 after from.1 now) (writing all last root follows four fits from.0 from.2)

      pub halted_third : {U E U' E' T E'' : Type 0} (u : U) (u' : U') (r : Result T E'') (old mid next new : D) (after : List (List ℕ)) → g.blocks old ≡ Some all
          → Closes {T = U} {E = E} (Ok u) old mid → Writes {T = U'} {E = E'} (Ok u') mid next → Opens r next new → g.blocks new ≡ Some after → HasLastOrNew all last root after
      halted_third u u' (Ok x) old mid next new after told closes writes opens now =
          let all_open = opens.content.ok _ (writes.content.ok _ (closes.content.ok all told)) in
          subst (HasLastOrNew all last root) (sym (opened root all) ∙ told_once (g.blocks new) _ after all_open now)
          (published_leaves all last root follows four fits)
      halted_third u u' (Err e) old mid next new after told closes writes opens now =
          let from = opens.content.err _ (writes.content.ok _ (closes.content.ok all told)) in
          subst (HasLastOrNew all last root) (told_once (g.blocks new) from.0 after from.1 now) (opening all last root follows four fits from.0 from.2)

    -- what is read at the end
    pub ends : {U E U' E' T E'' : Type 0} (u : U) (u' : U') (r : Result T E'') (old mid next new : D)
        → Closes {T = U} {E = E} (Ok u) old mid → Writes {T = U'} {E = E'} (Ok u') mid next → Opens r next new
        → OnOk r ((all : List (List ℕ)) → g.blocks old ≡ Some all → g.blocks new ≡ Some (published root all))
    ends u u' (Ok x) old mid next new closes writes opens = λ all told.
        opens.content.ok _ (writes.content.ok _ (closes.content.ok all told)) ∙ ap Some (opened root all)
    ends u u' (Err e) old mid next new closes writes opens = tt

    -- and the root is the newest then
    pub comes : {T E : Type 0} (r : Result T E) (old : D) → ((all : List (List ℕ)) → g.blocks old ≡ Some all → 4 ≤ length all)
        → OnOk r ((all : List (List ℕ)) (last : Root) → g.blocks old ≡ Some all → Follows all last root → newest (published root all) ≡ Some root)
    comes (Ok x) old four = λ all last told follows. published_newest all last root follows (four all told) fits
    comes (Err e) old four = tt
