-- Which root is the newest while another is published.
use Rattle.std.specs.Prelude.{◌≡◌, ◌≢◌, ◌⊎◌, ℕ, ◌+◌, ◌%◌, ◌<◌, ◌≤◌, Bool, true, false, List, [], length, Option, Some, None, slice_set, nat_lt, if◌then◌else◌}
use Rattle.std.proofs.Common.{refl, sym, ap, subst, ◌∙◌, inl, inr, arith, length-set, get_or-set_same, get_or-set_other}
use Rattle.std.proofs.lemmas.Bool.{cases_lt, cases_Bool, ltb-true, lt-ltb}
use Rattle.std.proofs.lemmas.List.{set-set, set_comm}
use Rattle.std.proofs.lemmas.Nat.{mod_below}
use Rattle.iq_outside.specs.Devices.{block_of, SameBut}
use Rattle.iq_block_store.specs.Frames.{has_header, gate_kind}
use Rattle.iq_root.specs.Roots.{body_place, gate_place, long_at, root_of, is_valid, slot_root, newer, newest, body_block, gate_block}
use Rattle.iq_outside.proofs.ImageLemmas.{SameBut-set}
use Rattle.iq_root.proofs.SlotLemmas.{in_slot, slot_trans}
use Rattle.iq_root.specs.Pages.{RootFits}
use Rattle.iq_root.specs.Stops.{SameButSlot}
use Rattle.iq_root.specs.Publishing.{slot_of, with_slot, published, Follows, HasLastOrNew, stays, comes, IsStale, HasBody, ReadsAs, IsGateWhole, as_before, closed, headless, behind_body, SameRoots}
use Rattle.iq_root.proofs.NewestLemmas.{valid_parts, IsOlder, AreBoth, slot_parity, newest_slot, newest_over, if_older, torn_over_old, closed_over_any, torn_over_new}
use Rattle.iq_root.proofs.BodyLemmas.{gate_tells, root_of_body, written_valid}
use Rattle.iq_root.specs.declared.root.Root.{Root}

-- the blocks with the gate closed, and then with the body behind it
abbrev pub closed_blocks : Root → List (List ℕ) → List (List ℕ)
closed_blocks root all = slice_set all (gate_place (slot_of root)) (gate_block (slot_of root) 0)

abbrev pub body_blocks : Root → List (List ℕ) → List (List ℕ)
body_blocks root all = slice_set (closed_blocks root all) (body_place (slot_of root)) (body_block (slot_of root) root)

-- once the gate is open
pub opened : (root : Root) (all : List (List ℕ))
    → slice_set (body_blocks root all) (gate_place (slot_of root)) (gate_block (slot_of root) root.generation) ≡ published root all
opened root all =
    ap (λ (bs : List (List ℕ)). slice_set bs (gate_place (slot_of root)) (gate_block (slot_of root) root.generation))
    (set_comm all (gate_place (slot_of root)) (body_place (slot_of root)) (gate_block (slot_of root) 0) (body_block (slot_of root) root) (omega arith))
    ∙ set-set (slice_set all (body_place (slot_of root)) (body_block (slot_of root) root)) (gate_place (slot_of root))
    (gate_block (slot_of root) 0) (gate_block (slot_of root) root.generation)

-- a slot once it is written
pub with_body : (slot generation : ℕ) (root : Root) (all : List (List ℕ)) → slot < 2 → 4 ≤ length all
    → block_of (with_slot slot root generation all) (body_place slot) ≡ body_block slot root
with_body slot generation root all two four =
    get_or-set_other (slice_set all (body_place slot) (body_block slot root)) (gate_place slot) (body_place slot) (gate_block slot generation) [] (omega arith)
    ∙ get_or-set_same all (body_place slot) (body_block slot root) [] (omega (arith, two, four))

pub with_gate : (slot generation : ℕ) (root : Root) (all : List (List ℕ)) → slot < 2 → 4 ≤ length all
    → block_of (with_slot slot root generation all) (gate_place slot) ≡ gate_block slot generation
with_gate slot generation root all two four =
    get_or-set_same (slice_set all (body_place slot) (body_block slot root)) (gate_place slot) (gate_block slot generation) []
    (omega (arith, two, four, length-set all (body_place slot) (body_block slot root)))

pub with_rest : (slot generation : ℕ) (root : Root) (all : List (List ℕ)) → SameButSlot slot all (with_slot slot root generation all)
with_rest slot generation root all =
    let with_body = slice_set all (body_place slot) (body_block slot root) in
    slot_trans slot all with_body (with_slot slot root generation all)
    (in_slot slot (body_place slot) all with_body (inl refl) (SameBut-set (body_place slot) all (body_block slot root)))
    (in_slot slot (gate_place slot) with_body (with_slot slot root generation all) (inr refl) (SameBut-set (gate_place slot) with_body (gate_block slot generation)))

-- the slots of two roots in a row
pub both_slots : (last root : Root) → root.generation ≡ last.generation + 1 → AreBoth (slot_of root) (slot_of last)
both_slots last root next = elim (cases_lt (last.generation % 2) 1) [
  | inl even ↦ inr (omega (arith, even, next), omega (arith, even))
  | inr odd ↦ inl (omega (arith, odd, next), omega (arith, odd, mod_below last.generation 2 (omega arith)))
]

-- the blocks of a slot are the same
pub record SameSlot (slot : ℕ) (all b : List (List ℕ)) : Type 0 where
  pub body : block_of b (body_place slot) ≡ block_of all (body_place slot)
  pub gate : block_of b (gate_place slot) ≡ block_of all (gate_place slot)

pub same_root : (slot : ℕ) (all b : List (List ℕ)) → SameSlot slot all b → slot_root slot b ≡ slot_root slot all
same_root slot all b same =
    ap (λ (body : List ℕ). if is_valid slot body (block_of b (gate_place slot)) then Some (root_of body) else None) same.body
    ∙ ap (λ (gate : List ℕ). if is_valid slot (block_of all (body_place slot)) gate then Some (root_of (block_of all (body_place slot))) else None) same.gate

-- a slot of the same body whose gate reads the same
same_read : (slot : ℕ) (all b : List (List ℕ)) → block_of b (body_place slot) ≡ block_of all (body_place slot)
    → ReadsAs (gate_place slot) (block_of b (gate_place slot)) (block_of all (gate_place slot)) → slot_root slot b ≡ slot_root slot all
same_read slot all b body gate =
    ap (λ (x : List ℕ). if is_valid slot x (block_of b (gate_place slot)) then Some (root_of x) else None) body
    ∙ rw (gate.header, gate.generation) refl

pub other_same : (s o : ℕ) (all b : List (List ℕ)) → AreBoth s o → SameButSlot s all b → SameSlot o all b
other_same s o all b (inl is) same = record {
  body = same.others (body_place o) (omega (arith, is.0, is.1)) (omega (arith, is.0, is.1));
  gate = same.others (gate_place o) (omega (arith, is.0, is.1)) (omega (arith, is.0, is.1));
}
other_same s o all b (inr is) same = record {
  body = same.others (body_place o) (omega (arith, is.0, is.1)) (omega (arith, is.0, is.1));
  gate = same.others (gate_place o) (omega (arith, is.0, is.1)) (omega (arith, is.0, is.1));
}

-- beside the newest root, the other slot has none or an older one
beside_first : (a : Option Root) (last : Root) → newer a (Some last) ≡ Some last → ((r : Root) → a ≡ Some r → r.generation ≢ last.generation) → IsOlder a last.generation
beside_first None last is apart = tt
beside_first (Some r) last is apart = elim (cases_Bool (nat_lt r.generation last.generation)) [
  | inl less ↦ ltb-true r.generation last.generation less
  | inr not ↦ absurd (apart r refl (ap (λ (o : Option Root). generation_of o) (sym (kept not) ∙ is)))
]
  where
    generation_of : Option Root → ℕ
    generation_of None = 0
    generation_of (Some x) = x.generation

    kept : nat_lt r.generation last.generation ≡ false → newer (Some r) (Some last) ≡ Some r
    kept not = rw not refl

beside_second : (b : Option Root) (last : Root) → newer (Some last) b ≡ Some last → ((r : Root) → b ≡ Some r → r.generation ≢ last.generation) → IsOlder b last.generation
beside_second None last is apart = tt
beside_second (Some r) last is apart = elim (cases_lt r.generation last.generation) [
  | inl less ↦ less
  | inr no_less ↦ (let more : last.generation < r.generation = omega (arith, no_less, apart r refl) in
      absurd (apart r refl (ap (λ (o : Option Root). generation_of o) (sym (taken more) ∙ is))))
]
  where
    generation_of : Option Root → ℕ
    generation_of None = 0
    generation_of (Some x) = x.generation

    taken : last.generation < r.generation → newer (Some last) (Some r) ≡ Some r
    taken more = rw (lt-ltb last.generation r.generation more) refl

older_beside : (s o : ℕ) (all : List (List ℕ)) (last : Root) → AreBoth s o → newest all ≡ Some last → slot_root o all ≡ Some last
    → IsOlder (slot_root s all) last.generation
older_beside s o all last (inl is) newest_is there =
    let here : slot_root 1 all ≡ Some last = ap (λ (i : ℕ). slot_root i all) (sym is.1) ∙ there in
    let odd = slot_parity 1 all last here in
    subst (λ (i : ℕ). IsOlder (slot_root i all) last.generation) (sym is.0)
    (beside_first (slot_root 0 all) last (ap (newer (slot_root 0 all)) (sym here) ∙ newest_is)
    (λ r at. omega (arith, odd, slot_parity 0 all r at)))
older_beside s o all last (inr is) newest_is there =
    let here : slot_root 0 all ≡ Some last = ap (λ (i : ℕ). slot_root i all) (sym is.1) ∙ there in
    let even = slot_parity 0 all last here in
    subst (λ (i : ℕ). IsOlder (slot_root i all) last.generation) (sym is.0)
    (beside_second (slot_root 1 all) last (ap (λ (x : Option Root). newer x (slot_root 1 all)) (sym here) ∙ newest_is)
    (λ r at. omega (arith, even, slot_parity 1 all r at)))

other_torn : (s o : ℕ) (all c b : List (List ℕ)) → AreBoth s o → SameRoots all c → SameBut (gate_place s) c b → SameSlot o all b
other_torn s o all c b (inl is) roots torn = record {
  body = torn.others (body_place o) (omega (arith, is.0, is.1)) ∙ roots (body_place o) (omega (arith, is.1));
  gate = torn.others (gate_place o) (omega (arith, is.0, is.1)) ∙ roots (gate_place o) (omega (arith, is.1));
}
other_torn s o all c b (inr is) roots torn = record {
  body = torn.others (body_place o) (omega (arith, is.0, is.1)) ∙ roots (body_place o) (omega (arith, is.1));
  gate = torn.others (gate_place o) (omega (arith, is.0, is.1)) ∙ roots (gate_place o) (omega (arith, is.1));
}

true_false : (v : Bool) → v ≡ true → v ≡ false → ⊥
true_false v set unset = cc

-- a slot of these two blocks, which are valid
pub valid_slot : (slot : ℕ) (b : List (List ℕ)) (root : Root) → block_of b (body_place slot) ≡ body_block slot root
    → block_of b (gate_place slot) ≡ gate_block slot root.generation → is_valid slot (body_block slot root) (gate_block slot root.generation) ≡ true
    → root_of (body_block slot root) ≡ root → slot_root slot b ≡ Some root
valid_slot slot b root body gate valid tells =
    ap (λ (x : List ℕ). if is_valid slot x (block_of b (gate_place slot)) then Some (root_of x) else None) body
    ∙ ap (λ (x : List ℕ). if is_valid slot (body_block slot root) x then Some (root_of (body_block slot root)) else None) gate
    ∙ ap (λ (v : Bool). if v then Some (root_of (body_block slot root)) else None) valid
    ∙ ap (λ (r : Root). Some r) tells

module _ (all : List (List ℕ)) (last root : Root) (follows : Follows all last root) (four : 4 ≤ length all) (fits : RootFits root) where
  both : AreBoth (slot_of root) (slot_of last)
  both = both_slots last root follows.next

  two : slot_of root < 2
  two = mod_below root.generation 2 (omega arith)

  -- the last root stays the newest while the new root's slot has none or an older one
  last_stays : (b : List (List ℕ)) → SameSlot (slot_of last) all b → IsOlder (slot_root (slot_of root) b) last.generation → newest b ≡ Some last
  last_stays b same older =
      newest_over b (slot_of root) (slot_of last) last both
      (same_root (slot_of last) all b same ∙ newest_slot all last follows.newest_is) older

  -- the new root is the newest once its slot has it
  root_comes : (b : List (List ℕ)) → SameSlot (slot_of last) all b → slot_root (slot_of root) b ≡ Some root → newest b ≡ Some root
  root_comes b same there =
      newest_over b (slot_of last) (slot_of root) root (swapped both) there
      (older_last (slot_root (slot_of last) b) (same_root (slot_of last) all b same ∙ newest_slot all last follows.newest_is))
    where
      swapped : AreBoth (slot_of root) (slot_of last) → AreBoth (slot_of last) (slot_of root)
      swapped (inl is) = inr (is.1, is.0)
      swapped (inr is) = inl (is.1, is.0)

      older_last : (o : Option Root) → o ≡ Some last → IsOlder o root.generation
      older_last o is = subst (λ (x : Option Root). IsOlder x root.generation) (sym is) (omega (arith, follows.next))

  -- behind a body of the new root, its slot has none or the new root
  last_or_new : (b : List (List ℕ)) → HasBody all root b → HasLastOrNew all last root b
  last_or_new b there =
      let same = other_same (slot_of root) (slot_of last) all b both there.rest in
      elim (torn_over_new b (slot_of root) root (ap root_of there.body ∙ root_of_body (slot_of root) root fits)) [
        | inl none ↦ stays (last_stays b same (subst (λ (x : Option Root). IsOlder x last.generation) (sym none) tt))
        | inr some ↦ comes (root_comes b same some) there.rest
      ]

  -- a gate without a right header
  no_gate : (b : List (List ℕ)) → has_header gate_kind (gate_place (slot_of root)) (block_of b (gate_place (slot_of root))) ≡ false
      → IsOlder (slot_root (slot_of root) b) last.generation
  no_gate b missing =
      if_older _ (root_of (block_of b (body_place (slot_of root)))) last.generation
      (λ valid. absurd (true_false _ (valid_parts (slot_of root) (block_of b (body_place (slot_of root))) (block_of b (gate_place (slot_of root))) valid).gate_header missing))

  -- under a gate that a write may leave
  under_gate : (b : List (List ℕ)) → block_of b (body_place (slot_of root)) ≡ block_of all (body_place (slot_of root))
      → SameSlot (slot_of last) all b → IsGateWhole all root b → HasLastOrNew all last root b
  under_gate b body same (as_before gate) = stays (last_stays b same
      (subst (λ (x : Option Root). IsOlder x last.generation) (sym (same_read (slot_of root) all b body gate))
      (older_beside (slot_of root) (slot_of last) all last both follows.newest_is (newest_slot all last follows.newest_is))))
  under_gate b body same (closed gate) = stays (last_stays b same (closed_over_any b (slot_of root) last.generation gate))
  under_gate b body same (headless missing) = stays (last_stays b same (no_gate b missing))
  under_gate b body same (behind_body there) = last_or_new b there

  -- while the gate is closed
  pub closing : (c b : List (List ℕ)) → SameRoots all c → SameBut (gate_place (slot_of root)) c b
      → IsStale all last root ⊎ IsGateWhole all root b → HasLastOrNew all last root b
  closing c b roots torn safe =
      let body : block_of b (body_place (slot_of root)) ≡ block_of all (body_place (slot_of root))
      = torn.others (body_place (slot_of root)) (omega arith) ∙ roots (body_place (slot_of root)) (omega (arith, two)) in
      let same : SameSlot (slot_of last) all b = other_torn (slot_of root) (slot_of last) all c b both roots torn in
      elim safe [
        | inl stale ↦ stays (last_stays b same (torn_over_old b (slot_of root) last.generation (block_of all (body_place (slot_of root))) body stale))
        | inr whole ↦ under_gate b body same whole
      ]

  closed_rest : SameButSlot (slot_of root) all (closed_blocks root all)
  closed_rest = in_slot (slot_of root) (gate_place (slot_of root)) all (closed_blocks root all) (inr refl) (SameBut-set (gate_place (slot_of root)) all (gate_block (slot_of root) 0))

  body_rest : SameButSlot (slot_of root) all (body_blocks root all)
  body_rest = slot_trans (slot_of root) all (closed_blocks root all) (body_blocks root all) closed_rest
      (in_slot (slot_of root) (body_place (slot_of root)) (closed_blocks root all) (body_blocks root all) (inl refl) (SameBut-set (body_place (slot_of root)) (closed_blocks root all) (body_block (slot_of root) root)))

  -- while the body is written
  pub writing : (b : List (List ℕ)) → SameBut (body_place (slot_of root)) (closed_blocks root all) b → HasLastOrNew all last root b
  writing b torn =
      let rest : SameButSlot (slot_of root) all b = slot_trans (slot_of root) all (closed_blocks root all) b closed_rest (in_slot (slot_of root) (body_place (slot_of root)) (closed_blocks root all) b (inl refl) torn) in
      let same = other_same (slot_of root) (slot_of last) all b both rest in
      let gate : block_of b (gate_place (slot_of root)) ≡ gate_block (slot_of root) 0
      = torn.others (gate_place (slot_of root)) (omega arith)
      ∙ get_or-set_same all (gate_place (slot_of root)) (gate_block (slot_of root) 0) [] (omega (arith, two, four)) in
      stays (last_stays b same
      (closed_over_any b (slot_of root) last.generation (ap (λ (g : List ℕ). long_at g 16) gate ∙ gate_tells (slot_of root) 0 (omega arith))))

  -- while the gate is opened
  pub opening : (b : List (List ℕ)) → SameBut (gate_place (slot_of root)) (body_blocks root all) b → HasLastOrNew all last root b
  opening b torn = last_or_new b (record {
    body = torn.others (body_place (slot_of root)) (omega arith)
        ∙ get_or-set_same (closed_blocks root all) (body_place (slot_of root)) (body_block (slot_of root) root) []
        (omega (arith, two, four, length-set all (gate_place (slot_of root)) (gate_block (slot_of root) 0)));
    rest = slot_trans (slot_of root) all (body_blocks root all) b body_rest (in_slot (slot_of root) (gate_place (slot_of root)) (body_blocks root all) b (inr refl) torn);
  })

  pub published_newest : newest (published root all) ≡ Some root
  published_newest =
      root_comes (published root all)
      (other_same (slot_of root) (slot_of last) all (published root all) both (with_rest (slot_of root) root.generation root all))
      (valid_slot (slot_of root) (published root all) root
      (with_body (slot_of root) root.generation root all two four) (with_gate (slot_of root) root.generation root all two four)
      (written_valid (slot_of root) root two fits (omega (arith, follows.next)) follows.fits refl follows.from follows.upto)
      (root_of_body (slot_of root) root fits))

  pub published_leaves : HasLastOrNew all last root (published root all)
  published_leaves = comes published_newest (with_rest (slot_of root) root.generation root all)
