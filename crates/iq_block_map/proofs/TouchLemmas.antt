-- Which leaves an edit touches.
use Rattle.std.specs.Prelude.{◌≡◌, ◌⊎◌, ℕ, ◌+◌, ◌-◌, ◌*◌, ◌/◌, ◌<◌, ◌≤◌, min, Bool, true, false, ◌||◌, ◌&&◌, List, [], ◌∷◌, ◌++◌, length, take, drop, replicate, nat_eq, nat_lt}
use Rattle.std.specs.List.{prefix_len}
use Rattle.std.proofs.Common.{refl, sym, ap, ◌∙◌, inl, inr, arith, length-append}
use Rattle.std.proofs.lemmas.List.{length-drop, length-take, length-replicate}
use Rattle.std.proofs.lemmas.Bool.{cases_lt, lt-ltb, le-ltb, ltb-true, eq-eqb, ne_eqb, and_parts}
use Rattle.iq_block_map.specs.Objects.{leaf_count, used_in}
use Rattle.iq_block_map.specs.Editing.{replaced_from, edited, touches, is_touched, AreChanges}
use Rattle.iq_block_map.specs.Leaves.{below}
use Rattle.iq_block_map.proofs.EditLemmas.{prefix_hit, prefix_miss, length-edited, length-replaced, prefix_few}

-- the changes behind those of a leaf's pages touch what all of them do
pub touch_drop : (m k : ℕ) (cs : List (ℕ × ℕ)) → m ≤ 252 * k → touches k (drop (prefix_len (below m) cs) cs) ≡ touches k cs
touch_drop m k [] early = refl
touch_drop m k ((n, a) ∷ cs) early = elim (cases_lt n m) [
  | inl before ↦
      (let differ : nat_eq (n / 252) k ≡ false = ne_eqb (n / 252) k (omega (arith, before, early)) in
      ap (λ (p : ℕ). touches k (drop p ((n, a) ∷ cs))) (prefix_hit m (n, a) cs (lt-ltb n m before))
      ∙ touch_drop m k cs early ∙ ap (λ (b : Bool). b || touches k cs) (sym differ))
  | inr past ↦ ap (λ (p : ℕ). touches k (drop p ((n, a) ∷ cs))) (prefix_miss m (n, a) cs (le-ltb n m (omega (arith, past))))
]

-- changes past a leaf don't touch it
touch_past : (first end k : ℕ) (cs : List (ℕ × ℕ)) → 252 * (k + 1) ≤ first → AreChanges first end cs → touches k cs ≡ false
touch_past first end k [] past are = refl
touch_past first end k ((n, a) ∷ cs) past are =
    let differ : nat_eq (n / 252) k ≡ false = ne_eqb (n / 252) k (omega (arith, past, are.0)) in
    ap (λ (b : Bool). b || touches k cs) differ ∙ touch_past (n + 1) end k cs (omega (arith, past, are.0)) are.2

-- a leaf with changes among the next is touched by them
pub touch_some : (k end : ℕ) (cs : List (ℕ × ℕ)) → AreChanges (252 * k) end cs → 1 ≤ prefix_len (below (252 * (k + 1))) cs → touches k cs ≡ true
touch_some k end [] are some = absurd (omega (arith, some))
touch_some k end ((n, a) ∷ cs) are some = elim (cases_lt n (252 * (k + 1))) [
  | inl before ↦
      (let same : nat_eq (n / 252) k ≡ true = eq-eqb (n / 252) k (omega (arith, before, are.0)) in
      ap (λ (b : Bool). b || touches k cs) same)
  | inr past ↦ absurd (omega (arith, some, prefix_miss (252 * (k + 1)) (n, a) cs (le-ltb n (252 * (k + 1)) (omega (arith, past)))))
]

-- and a leaf that changes touch has some of them
pub some_touch : (k end : ℕ) (cs : List (ℕ × ℕ)) → AreChanges (252 * k) end cs → touches k cs ≡ true → 1 ≤ prefix_len (below (252 * (k + 1))) cs
some_touch k end [] are touched = cc
some_touch k end ((n, a) ∷ cs) are touched = elim (cases_lt n (252 * (k + 1))) [
  | inl before ↦ omega (arith, prefix_hit (252 * (k + 1)) (n, a) cs (lt-ltb n (252 * (k + 1)) before))
  | inr past ↦ absurd (never (touch_past n end k ((n, a) ∷ cs) (omega (arith, past)) (omega arith, are.1, are.2)) touched)
]
  where
    never : {b : Bool} → b ≡ false → b ≡ true → ⊥
    never unset was_set = cc

or_true : (a b : Bool) → (a || b) ≡ true → (a ≡ true) ⊎ (b ≡ true)
or_true true b is = inl refl
or_true false b is = inr is

-- why an edit touches a leaf
pub touched_cases : (pages : ℕ) (cs : List (ℕ × ℕ)) (added : List ℕ) (k : ℕ) → is_touched pages cs added k ≡ true
    → (touches k cs ≡ true) ⊎ ((1 ≤ length added) × (used_in pages k < 252))
touched_cases pages cs added k is = elim (or_true (touches k cs) (nat_lt 0 (length added) && nat_lt (used_in pages k) 252) is) [
  | inl changed ↦ inl changed
  | inr adds ↦
      (let parts = and_parts (nat_lt 0 (length added)) (nat_lt (used_in pages k) 252) adds in
      let some = ltb-true 0 (length added) parts.0 in
      inr (omega (arith, some), ltb-true (used_in pages k) 252 parts.1))
]

pub touched_by : (pages : ℕ) (cs : List (ℕ × ℕ)) (added : List ℕ) (k : ℕ) → touches k cs ≡ true → is_touched pages cs added k ≡ true
touched_by pages cs added k is = ap (λ (b : Bool). b || (nat_lt 0 (length added) && nat_lt (used_in pages k) 252)) is

pub touched_adding : (pages : ℕ) (cs : List (ℕ × ℕ)) (added : List ℕ) (k : ℕ) → 1 ≤ length added → used_in pages k < 252
    → is_touched pages cs added k ≡ true
touched_adding pages cs added k some room =
    ap (λ (b : Bool). touches k cs || (b && nat_lt (used_in pages k) 252)) (lt-ltb 0 (length added) (omega (arith, some)))
    ∙ ap (λ (b : Bool). touches k cs || b) (lt-ltb (used_in pages k) 252 room) ∙ or_last (touches k cs)
  where
    or_last : (b : Bool) → (b || true) ≡ true
    or_last true = refl
    or_last false = refl

-- how many pages are still to be added, once the leaves before one are done
pub still_added : (k pages : ℕ) (cs later : List (ℕ × ℕ)) (added rest : List ℕ)
    → ((xs : List ℕ) → length xs ≡ pages → drop (252 * k) (edited xs cs added) ≡ replaced_from (252 * k) (drop (252 * k) xs) later ++ rest)
    → pages + length added - 252 * k ≡ (pages - 252 * k) + length rest
still_added k pages cs later added rest is =
    let xs : List ℕ = replicate pages 0 in
    let size : length xs ≡ pages = length-replicate {A = ℕ} pages 0 in
    let behind = drop (252 * k) xs in
    let whole = ap length (is xs size) in
    let one = length-drop (252 * k) (edited xs cs added) in
    let two = length-edited xs cs added in
    let three = length-append (replaced_from (252 * k) behind later) rest in
    let four = length-replaced (252 * k) behind later in
    let five = length-drop (252 * k) xs in
    omega (arith, size, whole, one, two, three, four, five)

-- a leaf that an edit touches has changes or pages more
pub touched_some : (k pages p : ℕ) (cs later : List (ℕ × ℕ)) (added rest : List ℕ) → is_touched pages cs added k ≡ true → k < leaf_count pages
    → touches k later ≡ touches k cs → AreChanges (252 * k) pages later → p ≡ prefix_len (below (252 * (k + 1))) later
    → pages + length added - 252 * k ≡ (pages - 252 * k) + length rest
    → 1 ≤ length (take p later) + min (length rest) (252 - used_in pages k)
touched_some k pages p cs later added rest touched within same are p_is left = elim (touched_cases pages cs added k touched) [
  | inl changed ↦
      (let some = some_touch k pages later are (same ∙ changed) in
      omega (arith, some, p_is, length-take p later, prefix_few (252 * (k + 1)) later))
  | inr adds ↦ omega (arith, adds.0, adds.1, left, within)
]

-- and one that has some is touched
pub some_touched : (k pages p : ℕ) (cs later : List (ℕ × ℕ)) (added rest : List ℕ) → k < leaf_count pages
    → touches k later ≡ touches k cs → AreChanges (252 * k) pages later → p ≡ prefix_len (below (252 * (k + 1))) later
    → pages + length added - 252 * k ≡ (pages - 252 * k) + length rest
    → 1 ≤ length (take p later) + min (length rest) (252 - used_in pages k) → is_touched pages cs added k ≡ true
some_touched k pages p cs later added rest within same are p_is left some = elim (cases_lt 0 (length (take p later))) [
  | inl changed ↦
      (let one = touch_some k pages later are (omega (arith, changed, p_is, length-take p later)) in
      touched_by pages cs added k (sym same ∙ one))
  | inr none ↦ touched_adding pages cs added k (omega (arith, some, none, left, within)) (omega (arith, some, none))
]
