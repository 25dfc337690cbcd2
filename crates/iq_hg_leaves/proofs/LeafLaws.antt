-- A leaf of many is written anew.
use Rattle.std.proofs.Common.{◌≡◌, ◌≢◌, ◌<◌, ◌≤◌, ℕ, ◌+◌, List, [], ◌∷◌, ◌++◌, length, sym, ap, ◌∙◌, subst, refl, inl, inr, ◌⊎◌, arith}
use Rattle.std.specs.List.{All}
use Rattle.std.proofs.lemmas.Bool.{cases_lt}
use Rattle.std.proofs.lemmas.List.{length-append, append-nil}
use Rattle.std.proofs.lemmas.List.Elements.{All-nil, All-cons, All-head, All-tail, All-append, All-weaker}
use Rattle.iq_hg_leaves.specs.declared.entries.Entry.{Entry}
use Rattle.iq_hg_leaves.specs.Sorted.{Ascends}
use Rattle.iq_hg_leaves.specs.Leaves.{Leaf, entries_of, link_to, AreLinked, AreFilled, HavePages, Becomes, half}
use Rattle.iq_hg_leaves.proofs.SortedLaws.{All-left, All-right, ascends-right, ascends-across, ascends-replace}

pub link-append : (xs ys : List Leaf) (end : ℕ) → link_to (xs ++ ys) end ≡ link_to xs (link_to ys end)
link-append [] ys end = refl
link-append (x ∷ xs) ys end = refl

module _ (on on' : ℕ → ℕ → List Entry → Type 0) where
  pub linked-left : (xs ys : List Leaf) (end : ℕ) → AreLinked on (xs ++ ys) end → AreLinked on xs (link_to ys end)
  unfolding AreLinked
  linked-left [] ys end p = tt
  linked-left (x ∷ xs) ys end p = (subst (λ (n : ℕ). on x.page n x.entries) (link-append xs ys end) p.0, linked-left xs ys end p.1)

  pub linked-right : (xs ys : List Leaf) (end : ℕ) → AreLinked on (xs ++ ys) end → AreLinked on ys end
  unfolding AreLinked
  linked-right [] ys end p = p
  linked-right (x ∷ xs) ys end p = linked-right xs ys end p.1

  pub linked-append : (xs ys : List Leaf) (end : ℕ) → AreLinked on xs (link_to ys end) → AreLinked on ys end → AreLinked on (xs ++ ys) end
  unfolding AreLinked
  linked-append [] ys end p q = q
  linked-append (x ∷ xs) ys end p q = (subst (λ (n : ℕ). on x.page n x.entries) (sym (link-append xs ys end)) p.0, linked-append xs ys end p.1 q)

  -- leaves whose pages stay are linked as before
  pub linked-kept : (xs : List Leaf) (end : ℕ) → All (λ (x : Leaf). (next : ℕ) (es : List Entry) → on x.page next es → on' x.page next es) xs → AreLinked on xs end → AreLinked on' xs end
  unfolding AreLinked
  linked-kept [] end keeps p = tt
  linked-kept (x ∷ xs) end keeps p =
      (All-head (λ (x : Leaf). (next : ℕ) (es : List Entry) → on x.page next es → on' x.page next es) x xs keeps (link_to xs end) x.entries p.0, linked-kept xs end (All-tail (λ (x : Leaf). (next : ℕ) (es : List Entry) → on x.page next es → on' x.page next es) x xs keeps) p.1)

-- a leaf in the middle is written anew, and the pages of the others stay
pub linked-replace : (on on' : ℕ → ℕ → List Entry → Type 0) (xs : List Leaf) (leaf : Leaf) (parts ys : List Leaf) (end : ℕ) →
    AreLinked on (xs ++ (leaf ∷ ys)) end → ((p next : ℕ) (es : List Entry) → p ≢ leaf.page → on p next es → on' p next es) →
    All (λ (x : Leaf). x.page ≢ leaf.page) xs → All (λ (x : Leaf). x.page ≢ leaf.page) ys →
    link_to parts (link_to ys end) ≡ leaf.page + 1 → AreLinked on' parts (link_to ys end) → AreLinked on' (xs ++ (parts ++ ys)) end
unfolding AreLinked
linked-replace on on' xs leaf parts ys end p keeps xs_differ ys_differ front linked =
    let keep : (zs : List Leaf) → All (λ (x : Leaf). x.page ≢ leaf.page) zs → All (λ (x : Leaf). (next : ℕ) (es : List Entry) → on x.page next es → on' x.page next es) zs = λ zs d. All-weaker (λ (x : Leaf). x.page ≢ leaf.page) (λ (x : Leaf). (next : ℕ) (es : List Entry) → on x.page next es → on' x.page next es) (λ x n next es o. keeps x.page next es n o) zs d in
    let before : AreLinked on xs (leaf.page + 1) = linked-left on on' xs (leaf ∷ ys) end p in
    let after : AreLinked on ys end = (linked-right on on' xs (leaf ∷ ys) end p).1 in
    let seam : leaf.page + 1 ≡ link_to (parts ++ ys) end = sym (link-append parts ys end ∙ front) in
    let before' : AreLinked on' xs (link_to (parts ++ ys) end) = subst (λ (n : ℕ). AreLinked on' xs n) seam (linked-kept on on' xs (leaf.page + 1) (keep xs xs_differ) before) in
    linked-append on' on' xs (parts ++ ys) end before'
    (linked-append on' on' parts ys end linked (linked-kept on on' ys end (keep ys ys_differ) after))

-- the other leaves lie on other pages
pub others_differ : (xs : List Leaf) (leaf : Leaf) (ys : List Leaf) (count : ℕ) → HavePages count (xs ++ (leaf ∷ ys)) → All (λ (x : Leaf). x.page ≢ leaf.page) xs × All (λ (x : Leaf). x.page ≢ leaf.page) ys
unfolding Ascends
others_differ xs leaf ys count h =
    let R = λ (a b : Leaf). a.page ≢ b.page in (
      All-weaker (λ (x : Leaf). All (R x) (leaf ∷ ys)) (λ (x : Leaf). x.page ≢ leaf.page) (λ x a. All-head (R x) leaf ys a) xs (ascends-across R xs (leaf ∷ ys) h.apart),
      All-weaker (R leaf) (λ (x : Leaf). x.page ≢ leaf.page) (λ x n e. n (sym e)) ys (ascends-right R xs (leaf ∷ ys) h.apart).0,
    )

-- the leaves have pages of their own again
pub pages-replace : (q : ℕ) (xs : List Leaf) (leaf : Leaf) (parts ys : List Leaf) (count count' : ℕ) → HavePages count (xs ++ (leaf ∷ ys)) → leaf.page < count → Becomes q leaf count count' parts → HavePages count' (xs ++ (parts ++ ys))
pages-replace q xs leaf parts ys count count' h here b =
    let R = λ (a b : Leaf). a.page ≢ b.page in
    let low = λ (x : Leaf). x.page < count in
    let high = λ (x : Leaf). x.page < count' in
    let part_at = λ (part : Leaf). (part.page ≡ leaf.page) ⊎ (count ≤ part.page) in
    let differ = others_differ xs leaf ys count h in
    let below_xs : All low xs = All-left R low xs (leaf ∷ ys) h.below in
    let below_ys : All low ys = All-tail low leaf ys (All-right R low xs (leaf ∷ ys) h.below) in
    let up : (zs : List Leaf) → All low zs → All high zs = λ zs a. All-weaker low high (λ x l. omega (arith, b.more)) zs a in
    let apart_from : (p r : ℕ) → p < count → p ≢ leaf.page → (r ≡ leaf.page) ⊎ (count ≤ r) → p ≢ r = λ p r l n at e. (elim at [ inl same ↦ n (e ∙ same) | inr new ↦ absurd (omega arith) ]) in
    record {
      below = All-append high xs (parts ++ ys) (up xs below_xs) (All-append high parts ys b.below (up ys below_ys));
      apart = ascends-replace R xs (leaf ∷ []) parts ys h.apart b.apart
          (λ k d i. λ k' d' i'. apart_from _ _ (below_xs k d i) (differ.0 k d i) (b.fresh k' d' i'))
          (λ k d i. λ k' d' i' e. apart_from _ _ (below_ys k' d' i') (differ.1 k' d' i') (b.fresh k d i) (sym e));
    }

-- a leaf alone has all entries of the list
single : (parts : List Leaf) → length parts ≡ 1 → (n : ℕ) → n ≤ length (entries_of parts) → All (λ (part : Leaf). n ≤ length part.entries) parts
single [] e n h = absurd (omega arith)
single (part ∷ []) e n h =
    let P = λ (part : Leaf). n ≤ length part.entries in
    All-cons P part [] (omega (arith, ap length (append-nil part.entries))) (All-nil P)
single (part ∷ (other ∷ rest)) e n h = absurd (omega arith)

-- a leaf is at least half full
abbrev IsHalfFull : ℕ → Leaf → Type 0
IsHalfFull q leaf = half q ≤ length leaf.entries

-- the leaves are filled again
pub filled-replace : (q : ℕ) (xs : List Leaf) (leaf : Leaf) (parts ys : List Leaf) (count count' : ℕ) → AreFilled q (xs ++ (leaf ∷ ys)) → Becomes q leaf count count' parts → AreFilled q (xs ++ (parts ++ ys))
filled-replace q xs leaf parts ys count count' f b =
    let R = λ (a b : Leaf). a.page ≢ b.page in
    let P0 = λ (leaf : Leaf). 0 < length leaf.entries in
    let P1 = λ (leaf : Leaf). length leaf.entries ≤ q in
    let middle : (P : Leaf → Type 0) → All P (xs ++ (leaf ∷ ys)) → All P parts → All P (xs ++ (parts ++ ys)) = λ P a m.
    All-append P xs (parts ++ ys) (All-left R P xs (leaf ∷ ys) a) (All-append P parts ys m (All-tail P leaf ys (All-right R P xs (leaf ∷ ys) a))) in
    record {
      some = middle P0 f.some b.filled.some;
      most = middle P1 f.most b.filled.most;
      least = λ many. least_of many;
    }
  where
    alone : (zs ws : List Leaf) → length zs ≡ 0 → length ws ≡ 0 → All (IsHalfFull q) parts → All (IsHalfFull q) (zs ++ (parts ++ ws))
    alone [] [] e e' a = subst (All (IsHalfFull q)) (sym (append-nil parts)) a
    alone (z ∷ zs) ws e e' a = absurd (omega arith)
    alone [] (w ∷ ws) e e' a = absurd (omega arith)

    whole : 2 ≤ length (xs ++ (parts ++ ys)) → length (xs ++ (parts ++ ys)) ≡ length xs + (length parts + length ys)
    whole many = length-append xs (parts ++ ys) ∙ ap (λ n. length xs + n) (length-append parts ys)

    of_parts : All (IsHalfFull q) (xs ++ (leaf ∷ ys)) → All (IsHalfFull q) parts
    of_parts all =
        let here : half q ≤ length leaf.entries = All-head (IsHalfFull q) leaf ys (All-right (λ (a b : Leaf). a.page ≢ b.page) (IsHalfFull q) xs (leaf ∷ ys) all) in
        elim (cases_lt (length parts) 2) [
          | inl few ↦ single parts (omega (arith, b.some)) (half q) (omega (arith, b.kept))
          | inr many ↦ b.filled.least many
        ]

    least_of : 2 ≤ length (xs ++ (parts ++ ys)) → All (IsHalfFull q) (xs ++ (parts ++ ys))
    least_of many = elim (cases_lt (length xs + length ys) 1) [
      | inl none ↦ alone xs ys (omega arith) (omega arith) (b.filled.least (omega (arith, whole many)))
      | inr others ↦ (
          let all : All (IsHalfFull q) (xs ++ (leaf ∷ ys)) = f.least (omega (arith, length-append xs (leaf ∷ ys))) in
          let R = λ (a b : Leaf). a.page ≢ b.page in
          All-append (IsHalfFull q) xs (parts ++ ys) (All-left R (IsHalfFull q) xs (leaf ∷ ys) all) (All-append (IsHalfFull q) parts ys (of_parts all) (All-tail (IsHalfFull q) leaf ys (All-right R (IsHalfFull q) xs (leaf ∷ ys) all))))
    ]
