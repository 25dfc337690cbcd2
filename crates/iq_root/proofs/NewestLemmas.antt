-- Which root is the newest while another is published.
use Rattle.std.specs.Prelude.{◌≡◌, ◌⊎◌, ℕ, ◌+◌, ◌*◌, ◌%◌, ◌<◌, ◌≤◌, Bool, true, false, List, [], length, Option, Some, None, nat_lt, if◌then◌else◌}
use Rattle.std.proofs.Common.{refl, sym, ap, subst, ◌∙◌, inl, inr, arith}
use Rattle.std.proofs.lemmas.Bool.{lt-ltb, le-ltb, leb-true, eqb-true, and_parts}
use Rattle.iq_outside.specs.Devices.{block_of}
use Rattle.std.proofs.lemmas.List.{get_or_past}
use Rattle.iq_block_store.specs.Frames.{number_at, has_header, mark, body_kind, gate_kind}
use Rattle.iq_root.specs.Roots.{long_at, root_of, is_valid, newer, newest, slot_root}
use Rattle.iq_root.specs.declared.root.Root.{Root}

-- past the end there is no block
no_header : (kind at : ℕ) → has_header kind at [] ≡ false
unfolding number_at mark
no_header kind at = refl

pub no_header_past : (kind at : ℕ) (all : List (List ℕ)) → length all ≤ at → has_header kind at (block_of all at) ≡ false
no_header_past kind at all past = ap (has_header kind at) (get_or_past all at [] past) ∙ no_header kind at

-- what a valid slot has
pub record IsValid (slot : ℕ) (body gate : List ℕ) : Type 0 where
  pub body_header : has_header body_kind (2 * slot) body ≡ true
  pub gate_header : has_header gate_kind (2 * slot + 1) gate ≡ true
  pub same : long_at body 16 ≡ long_at gate 16
  pub from_one : 1 ≤ long_at body 16
  pub parity : long_at body 16 % 2 ≡ slot

pub valid_parts : (slot : ℕ) (body gate : List ℕ) → is_valid slot body gate ≡ true → IsValid slot body gate
valid_parts slot body gate valid =
    let all = and_parts _ _ valid in
    let heads_and_same = and_parts _ _ all.0 in
    let heads = and_parts _ _ heads_and_same.0 in
    let upto_most = and_parts _ _ all.1 in
    let upto_format = and_parts _ _ upto_most.0 in
    let upto_least = and_parts _ _ upto_format.0 in
    let upto_parity = and_parts _ _ upto_least.0 in
    let bounds = and_parts _ _ upto_parity.0 in
    record {
      body_header = heads.0;
      gate_header = heads.1;
      same = eqb-true _ _ heads_and_same.1;
      from_one = leb-true _ _ bounds.0;
      parity = eqb-true _ _ upto_parity.1;
    }

-- a slot has no root, or an older one
abbrev pub IsOlder : Option Root → ℕ → Type 0
IsOlder None generation = Unit {0}
IsOlder (Some root) generation = root.generation < generation

if_some : (v : Bool) (x root : Root) → (if v then Some x else None) ≡ Some root → (v ≡ true) × (root ≡ x)
if_some true x root is = (refl, cc)
if_some false x root is = cc

pub if_older : (v : Bool) (x : Root) (n : ℕ) → (v ≡ true → x.generation < n) → IsOlder (if v then Some x else None) n
if_older true x n older = older refl
if_older false x n older = tt

if_one : (v : Bool) (x root : Root) → x ≡ root → ((if v then Some x else None) ≡ None) ⊎ ((if v then Some x else None) ≡ Some root)
if_one true x root is = inr (ap Some is)
if_one false x root is = inl refl

-- a root has the parity of its slot
pub slot_parity : (slot : ℕ) (blocks : List (List ℕ)) (root : Root) → slot_root slot blocks ≡ Some root → root.generation % 2 ≡ slot
slot_parity slot blocks root is =
    let parts = if_some (is_valid slot (block_of blocks (2 * slot)) (block_of blocks (2 * slot + 1))) (root_of (block_of blocks (2 * slot))) root is in
    let valid : IsValid slot (block_of blocks (2 * slot)) (block_of blocks (2 * slot + 1)) = valid_parts slot _ _ parts.0 in
    ap (λ (r : Root). r.generation % 2) parts.1 ∙ valid.parity

-- the body in a slot tells its root's generation
pub slot_body : (slot : ℕ) (blocks : List (List ℕ)) (root : Root) → slot_root slot blocks ≡ Some root → long_at (block_of blocks (2 * slot)) 16 ≡ root.generation
slot_body slot blocks root is =
    sym (ap (λ (r : Root). r.generation) (if_some (is_valid slot (block_of blocks (2 * slot)) (block_of blocks (2 * slot + 1))) (root_of (block_of blocks (2 * slot))) root is).1)

newer_is : (a b : Option Root) (root : Root) → newer a b ≡ Some root → (a ≡ Some root) ⊎ (b ≡ Some root)
newer_is None b root is = inr is
newer_is (Some x) None root is = inl is
newer_is (Some x) (Some y) root is = newer_of (nat_lt x.generation y.generation) x y root is
  where
    newer_of : (v : Bool) (x y root : Root) → (if v then Some y else Some x) ≡ Some root → (Some x ≡ Some root) ⊎ (Some y ≡ Some root)
    newer_of true x y root is = inr is
    newer_of false x y root is = inl is

-- the newest root stands in the slot of its parity
pub newest_slot : (blocks : List (List ℕ)) (root : Root) → newest blocks ≡ Some root
    → slot_root (root.generation % 2) blocks ≡ Some root
newest_slot blocks root is = elim (newer_is (slot_root 0 blocks) (slot_root 1 blocks) root is) [
  | inl first ↦ ap (λ (s : ℕ). slot_root s blocks) (slot_parity 0 blocks root first) ∙ first
  | inr second ↦ ap (λ (s : ℕ). slot_root s blocks) (slot_parity 1 blocks root second) ∙ second
]

newer_last : (o : Option Root) (last : Root) → IsOlder o last.generation → newer o (Some last) ≡ Some last
newer_last None last older = refl
newer_last (Some root) last older = rw (lt-ltb root.generation last.generation older) refl

newer_first : (o : Option Root) (last : Root) → IsOlder o last.generation → newer (Some last) o ≡ Some last
newer_first None last older = refl
newer_first (Some root) last older =
    let no_less : root.generation ≤ last.generation = omega (arith, older) in
    rw (le-ltb last.generation root.generation no_less) refl

-- slots 0 and 1 in either order
abbrev pub AreBoth : ℕ → ℕ → Type 0
AreBoth s o = ((s ≡ 0) × (o ≡ 1)) ⊎ ((s ≡ 1) × (o ≡ 0))

-- a root in one slot is the newest while the other has none or an older one
pub newest_over : (b : List (List ℕ)) (s o : ℕ) (root : Root) → AreBoth s o → slot_root o b ≡ Some root
    → IsOlder (slot_root s b) root.generation → newest b ≡ Some root
newest_over b s o root (inl is) there older =
    let here : slot_root 1 b ≡ Some root = ap (λ (i : ℕ). slot_root i b) (sym is.1) ∙ there in
    let other : IsOlder (slot_root 0 b) root.generation = subst (λ (i : ℕ). IsOlder (slot_root i b) root.generation) is.0 older in
    ap (newer (slot_root 0 b)) here ∙ newer_last (slot_root 0 b) root other
newest_over b s o root (inr is) there older =
    let here : slot_root 0 b ≡ Some root = ap (λ (i : ℕ). slot_root i b) (sym is.1) ∙ there in
    let other : IsOlder (slot_root 1 b) root.generation = subst (λ (i : ℕ). IsOlder (slot_root i b) root.generation) is.0 older in
    ap (λ (x : Option Root). newer x (slot_root 1 b)) here ∙ newer_first (slot_root 1 b) root other

-- a torn gate over an old body: the slot has no root or an older one
pub torn_over_old : (b : List (List ℕ)) (s n : ℕ) (body : List ℕ) → block_of b (2 * s) ≡ body
    → (has_header body_kind (2 * s) body ≡ true → long_at body 16 < n) → IsOlder (slot_root s b) n
torn_over_old b s n body is stale =
    if_older _ (root_of (block_of b (2 * s))) n
    (λ valid. rw is (stale (rw (← is) (valid_parts s (block_of b (2 * s)) (block_of b (2 * s + 1)) valid).body_header)))

-- any body under a closed gate: the slot has no root
pub closed_over_any : (b : List (List ℕ)) (s n : ℕ) → long_at (block_of b (2 * s + 1)) 16 ≡ 0 → IsOlder (slot_root s b) n
closed_over_any b s n closed =
    if_older _ (root_of (block_of b (2 * s))) n
    (λ valid.
    let parts : IsValid s (block_of b (2 * s)) (block_of b (2 * s + 1)) = valid_parts s _ _ valid in
    absurd (omega (arith, closed, parts.same, parts.from_one)))

-- a torn gate over the new body: the slot has no root or the new one
pub torn_over_new : (b : List (List ℕ)) (s : ℕ) (root : Root) → root_of (block_of b (2 * s)) ≡ root
    → (slot_root s b ≡ None) ⊎ (slot_root s b ≡ Some root)
torn_over_new b s root is = if_one _ (root_of (block_of b (2 * s))) root is
