-- Look-ups among descriptors are look-ups among the tables with which they go.
use Rattle.std.proofs.Common.{◌≡◌, ◌≢◌, ℕ, zero, suc, ◌+◌, ◌≤◌, ◌<◌, Bool, true, false, List, [], ◌∷◌, length, refl, sym, ◌∙◌, ap, subst, arith, Some, None, cond}
use Rattle.std.proofs.Math.ListN.{set}
use Rattle.std.specs.Prelude.{insert, remove}
use Rattle.std.specs.List.{slice_get}
use Rattle.std.specs.Ordering.{nat_cmp, is_gt}
use Rattle.std.specs.Cmp.Lexicographic.{slice_cmp}
use Rattle.iq_base.specs.Shorts.{Name}
use Rattle.iq_base.specs.declared.descriptors.Descriptor.{Descriptor}
use Rattle.iq_conditions.specs.Servers.{same_name}
use Rattle.iq_statements.specs.Tables.{Table, Database, table_of, replaced, placed, without_table}
use Rattle.iq_database.specs.Standing.{Match, HasNone, AreDistinct}
use Rattle.iq_database.specs.LookUps.{place_from, before_from}
use Rattle.iq_database.proofs.Names.{same_name-true}

-- what goes with a table has its name
abbrev pub GoesByName : (ℕ → Descriptor → Table → Type 0) → Type 0
GoesByName R = (place : ℕ) (d : Descriptor) (t : Table) → R place d t → d.name ≡ t.name

-- as many descriptors as tables
pub length-match : (R : ℕ → Descriptor → Table → Type 0) (p : ℕ) (ds : List Descriptor) (db : Database) → Match R p ds db → length ds ≡ length db
length-match R p [] [] h = refl
length-match R p [] (t ∷ ts) h = absurd h
length-match R p (d ∷ ds) [] h = absurd h
length-match R p (d ∷ ds) (t ∷ ts) h = ap suc (length-match R (p + 1) ds ts h.1)

-- what goes one way goes another where each does
pub match_as : (R Q : ℕ → Descriptor → Table → Type 0) (p : ℕ) (ds : List Descriptor) (db : Database) → ((q : ℕ) (d : Descriptor) (t : Table) → q < p + length ds → R q d t → Q q d t) → Match R p ds db → Match Q p ds db
match_as R Q p [] [] f h = tt
match_as R Q p [] (t ∷ ts) f h = absurd h
match_as R Q p (d ∷ ds) [] f h = absurd h
match_as R Q p (d ∷ ds) (t ∷ ts) f h =
    (f p d t (omega arith) h.0, match_as R Q (p + 1) ds ts (λ q e u less. f q e u (omega (arith, less))) h.1)

-- the descriptor and the table at a place
pub record Found (R : ℕ → Descriptor → Table → Type 0) (place : ℕ) (ds : List Descriptor) (name : Name) (db : Database) (i : ℕ) : Type 0 where
  pub descriptor : Descriptor
  pub table : Table
  pub descriptor_is : slice_get ds i ≡ Some descriptor
  pub table_is : table_of name db ≡ Some table
  pub goes : R place descriptor table

-- what a look-up from place n on finds is past n
past_place : (n i : ℕ) (name : Name) (ds : List Descriptor) → place_from n name ds ≡ Some i → n ≤ i
past_place n i name [] h = cc
past_place n i name (d ∷ ds) h = either n i name ds (same_name d.name name) h (past_place (n + 1) i name ds)
  where
    either : (n i : ℕ) (name : Name) (ds : List Descriptor) (b : Bool) → cond b (Some n) (place_from (n + 1) name ds) ≡ Some i → (place_from (n + 1) name ds ≡ Some i → n + 1 ≤ i) → n ≤ i
    either n i name ds true h further = let same : n ≡ i = cc in omega arith
    either n i name ds false h further = let past = further h in omega arith

-- no descriptor of the name, no table
pub none_found : (R : ℕ → Descriptor → Table → Type 0) (by : GoesByName R) (p n : ℕ) (name : Name) (ds : List Descriptor) (db : Database) → place_from n name ds ≡ None → Match R p ds db → table_of name db ≡ None
none_found R by p n name [] [] h m = refl
none_found R by p n name [] (t ∷ ts) h m = absurd m
none_found R by p n name (d ∷ ds) [] h m = absurd m
none_found R by p n name (d ∷ ds) (t ∷ ts) h m =
    either (same_name d.name name) (same_name t.name name) (ap (λ (m : Name). same_name m name) (sym (by p d t m.0))) h (λ more. none_found R by (p + 1) (n + 1) name ds ts more m.1)
  where
    either : (b c : Bool) → c ≡ b → cond b (Some n) (place_from (n + 1) name ds) ≡ None → (place_from (n + 1) name ds ≡ None → table_of name ts ≡ None) → cond c (Some t) (table_of name ts) ≡ None
    either true c is h further = cc
    either false true is h further = cc
    either false false is h further = further h

-- the descriptor of the name goes with the table
pub found : (R : ℕ → Descriptor → Table → Type 0) (by : GoesByName R) (p : ℕ) (name : Name) (ds : List Descriptor) (db : Database) (i n : ℕ) → place_from n name ds ≡ Some (n + i) → Match R p ds db → Found R (p + i) ds name db i
found R by p name [] [] i n h m = cc
found R by p name [] (t ∷ ts) i n h m = absurd m
found R by p name (d ∷ ds) [] i n h m = absurd m
found R by p name (d ∷ ds) (t ∷ ts) zero n h m =
    either (same_name d.name name) (same_name t.name name) refl (ap (λ (m : Name). same_name m name) (sym (by p d t m.0))) h
  where
    either : (b c : Bool) → same_name t.name name ≡ c → c ≡ b → cond b (Some n) (place_from (n + 1) name ds) ≡ Some (n + 0) → Found R (p + 0) (d ∷ ds) name (t ∷ ts) 0
    either true true own is h =
        record { descriptor = d; table = t; descriptor_is = refl; table_is = rw own refl; goes = subst (λ (q : ℕ). R q d t) (omega arith) m.0 }
    either true false own is h = cc
    either false c own is h = let past : n + 1 ≤ n + 0 = past_place (n + 1) (n + 0) name ds h in absurd (omega arith)
found R by p name (d ∷ ds) (t ∷ ts) (suc i) n h m =
    either (same_name d.name name) (same_name t.name name) refl (ap (λ (m : Name). same_name m name) (sym (by p d t m.0))) h (λ more. found R by (p + 1) name ds ts i (n + 1) more m.1)
  where
    either : (b c : Bool) → same_name t.name name ≡ c → c ≡ b → cond b (Some n) (place_from (n + 1) name ds) ≡ Some (n + suc i)
        → (place_from (n + 1) name ds ≡ Some (n + 1 + i) → Found R (p + 1 + i) ds name ts i) → Found R (p + suc i) (d ∷ ds) name (t ∷ ts) (suc i)
    either true c own is h more = let same : n ≡ n + suc i = cc in absurd (omega arith)
    either false true own is h more = cc
    either false false own is h more =
        let num : n + suc i ≡ n + 1 + i = omega arith in
        let f = more (h ∙ ap Some num) in
        record {
          descriptor = f.descriptor;
          table = f.table;
          descriptor_is = f.descriptor_is;
          table_is = rw own f.table_is;
          goes = subst (λ (q : ℕ). R q f.descriptor f.table) (omega arith) f.goes;
        }

-- one descriptor in place of that of a name goes with the table in place of that of the name, where the others go as they went
pub replaced_match : (R Q : ℕ → Descriptor → Table → Type 0) (by : GoesByName R) (p : ℕ) (name : Name) (ds : List Descriptor) (db : Database) (i n : ℕ) (new : Descriptor) (t' : Table)
    → place_from n name ds ≡ Some (n + i) → t'.name ≡ name → Q (p + i) new t' → ((q : ℕ) (d : Descriptor) (t : Table) → q ≢ p + i → R q d t → Q q d t)
    → Match R p ds db → Match Q p (set ds i new) (replaced t' db)
replaced_match R Q by p name [] [] i n new t' h is goes keep m = cc
replaced_match R Q by p name [] (t ∷ ts) i n new t' h is goes keep m = absurd m
replaced_match R Q by p name (d ∷ ds) [] i n new t' h is goes keep m = absurd m
replaced_match R Q by p name (d ∷ ds) (t ∷ ts) zero n new t' h is goes keep m =
    either (same_name d.name name) (same_name t.name t'.name) refl (ap (same_name t.name) is ∙ ap (λ (m : Name). same_name m name) (sym (by p d t m.0))) h
  where
    either : (b c : Bool) → same_name t.name t'.name ≡ c → c ≡ b → cond b (Some n) (place_from (n + 1) name ds) ≡ Some (n + 0) → Match Q p (new ∷ ds) (replaced t' (t ∷ ts))
    either true true own is' h =
        rw own (subst (λ (q : ℕ). Q q new t') (omega arith) goes, match_past (p + 1) ds ts (omega arith) m.1)
      where
        match_past : (r : ℕ) (es : List Descriptor) (us : Database) → p < r → Match R r es us → Match Q r es us
        match_past r [] [] less h = tt
        match_past r [] (u ∷ us) less h = absurd h
        match_past r (e ∷ es) [] less h = absurd h
        match_past r (e ∷ es) (u ∷ us) less h = (keep r e u (λ same. absurd (omega (arith, same, less))) h.0, match_past (r + 1) es us (omega (arith, less)) h.1)
    either true false own is' h = cc
    either false c own is' h = let past : n + 1 ≤ n + 0 = past_place (n + 1) (n + 0) name ds h in absurd (omega arith)
replaced_match R Q by p name (d ∷ ds) (t ∷ ts) (suc i) n new t' h is goes keep m =
    either (same_name d.name name) (same_name t.name t'.name) refl (ap (same_name t.name) is ∙ ap (λ (m : Name). same_name m name) (sym (by p d t m.0))) h
    (λ more. replaced_match R Q by (p + 1) name ds ts i (n + 1) new t' more is (subst (λ (q : ℕ). Q q new t') (omega arith) goes) (λ q e u other. keep q e u (λ same. other (omega (arith, same)))) m.1)
  where
    either : (b c : Bool) → same_name t.name t'.name ≡ c → c ≡ b → cond b (Some n) (place_from (n + 1) name ds) ≡ Some (n + suc i)
        → (place_from (n + 1) name ds ≡ Some (n + 1 + i) → Match Q (p + 1) (set ds i new) (replaced t' ts)) → Match Q p (d ∷ set ds i new) (replaced t' (t ∷ ts))
    either true c own is' h more = let same : n ≡ n + suc i = cc in absurd (omega arith)
    either false true own is' h more = cc
    either false false own is' h more =
        let num : n + suc i ≡ n + 1 + i = omega arith in
        rw own (keep p d t (λ same. absurd (omega (arith, same))) m.0, more (h ∙ ap Some num))

-- how many tables stand before, where places are counted from n on
before-suc : (n : ℕ) (name : Name) (ds : List Descriptor) → before_from (n + 1) name ds ≡ before_from n name ds + 1
before-suc n name [] = refl
before-suc n name (d ∷ ds) = either (is_gt (slice_cmp nat_cmp name d.name)) (before-suc (n + 1) name ds)
  where
    either : (b : Bool) → before_from (n + 1 + 1) name ds ≡ before_from (n + 1) name ds + 1 → cond b (before_from (n + 1 + 1) name ds) (n + 1) ≡ cond b (before_from (n + 1) name ds) n + 1
    either true h = h
    either false h = refl

-- a descriptor that comes in before the first whose name isn't below its own goes with the table that comes in so, where those before
-- it go as they went, and those behind it one place further
pub placed_match : (R Q : ℕ → Descriptor → Table → Type 0) (by : GoesByName R) (p : ℕ) (ds : List Descriptor) (db : Database) (new : Descriptor) (t' : Table)
    → Q (p + before_from 0 t'.name ds) new t'
    → ((q : ℕ) (d : Descriptor) (t : Table) → q < p + before_from 0 t'.name ds → R q d t → Q q d t)
    → ((q : ℕ) (d : Descriptor) (t : Table) → p + before_from 0 t'.name ds ≤ q → R q d t → Q (q + 1) d t)
    → Match R p ds db → Match Q p (insert ds (before_from 0 t'.name ds) new) (placed t' db)
placed_match R Q by p [] [] new t' goes low high m = (subst (λ (q : ℕ). Q q new t') (omega arith) goes, tt)
placed_match R Q by p [] (t ∷ ts) new t' goes low high m = absurd m
placed_match R Q by p (d ∷ ds) [] new t' goes low high m = absurd m
placed_match R Q by p (d ∷ ds) (t ∷ ts) new t' goes low high m =
    either (is_gt (slice_cmp nat_cmp t'.name d.name)) (is_gt (slice_cmp nat_cmp t'.name t.name)) refl refl (ap (λ (m : Name). is_gt (slice_cmp nat_cmp t'.name m)) (sym (by p d t m.0)))
    (λ goes' low' high'. placed_match R Q by (p + 1) ds ts new t' goes' low' high' m.1)
  where
    shifted : (r : ℕ) (es : List Descriptor) (us : Database) → ((q : ℕ) (e : Descriptor) (u : Table) → r ≤ q → R q e u → Q (q + 1) e u) → Match R r es us → Match Q (r + 1) es us
    shifted r [] [] f h = tt
    shifted r [] (u ∷ us) f h = absurd h
    shifted r (e ∷ es) [] f h = absurd h
    shifted r (e ∷ es) (u ∷ us) f h = (f r e u (omega arith) h.0, shifted (r + 1) es us (λ q x y less. f q x y (omega (arith, less))) h.1)

    either : (b c : Bool) → is_gt (slice_cmp nat_cmp t'.name d.name) ≡ b → is_gt (slice_cmp nat_cmp t'.name t.name) ≡ c → c ≡ b
        → (Q (p + 1 + before_from 0 t'.name ds) new t' → ((q : ℕ) (d : Descriptor) (t : Table) → q < p + 1 + before_from 0 t'.name ds → R q d t → Q q d t)
        → ((q : ℕ) (d : Descriptor) (t : Table) → p + 1 + before_from 0 t'.name ds ≤ q → R q d t → Q (q + 1) d t) → Match Q (p + 1) (insert ds (before_from 0 t'.name ds) new) (placed t' ts))
        → Match Q p (insert (d ∷ ds) (before_from 0 t'.name (d ∷ ds)) new) (placed t' (t ∷ ts))
    either true true at own is further =
        let next : before_from 1 t'.name ds ≡ suc (before_from 0 t'.name ds) = before-suc 0 t'.name ds ∙ omega arith in
        let place : before_from 0 t'.name (d ∷ ds) ≡ suc (before_from 0 t'.name ds) = rw at next in
        rw (at, own, next) (
          low p d t (omega (arith, place)) m.0,
          further
              (subst (λ (q : ℕ). Q q new t') (omega (arith, place)) goes)
              (λ q e u less. low q e u (omega (arith, place, less)))
              (λ q e u more. high q e u (omega (arith, place, more))),
        )
    either false false at own is further =
        let place : before_from 0 t'.name (d ∷ ds) ≡ 0 = rw at refl in
        rw (at, own)
        (subst (λ (q : ℕ). Q q new t') (omega (arith, place)) goes, shifted p (d ∷ ds) (t ∷ ts) (λ q e u less. high q e u (omega (arith, place, less))) m)
    either true false at own is further = cc
    either false true at own is further = cc

-- a table that a look-up found bears the name
pub table_of-named : (name : Name) (db : Database) (t : Table) → table_of name db ≡ Some t → t.name ≡ name
table_of-named name [] t h = cc
table_of-named name (u ∷ us) t h = either (same_name u.name name) refl h (table_of-named name us t)
  where
    either : (b : Bool) → same_name u.name name ≡ b → cond b (Some u) (table_of name us) ≡ Some t → (table_of name us ≡ Some t → t.name ≡ name) → t.name ≡ name
    either true is h further = let same : u ≡ t = cc in subst (λ (x : Table). x.name ≡ name) same (same_name-true u.name name is)
    either false is h further = further h

-- no descriptor of a name, so none of the tables has it
pub none_without : (R : ℕ → Descriptor → Table → Type 0) (by : GoesByName R) (p : ℕ) (name : Name) (ds : List Descriptor) (db : Database) → HasNone name ds → Match R p ds db → without_table name db ≡ db
none_without R by p name [] [] none m = refl
none_without R by p name [] (t ∷ ts) none m = absurd m
none_without R by p name (d ∷ ds) [] none m = absurd m
none_without R by p name (d ∷ ds) (t ∷ ts) none m =
    let own : same_name t.name name ≡ false = ap (λ (m : Name). same_name m name) (sym (by p d t m.0)) ∙ none.0 in
    rw own (ap (λ (us : Database). t ∷ us) (none_without R by (p + 1) name ds ts none.1 m.1))

-- the descriptor of a name goes, and the table of the name with it, where those before it go as they went, and those behind it one
-- place before
pub removed_match : (R Q : ℕ → Descriptor → Table → Type 0) (by : GoesByName R) (p : ℕ) (name : Name) (ds : List Descriptor) (db : Database) (i n : ℕ) → place_from n name ds ≡ Some (n + i) → AreDistinct ds
    → ((q : ℕ) (d : Descriptor) (t : Table) → q < p + i → R q d t → Q q d t)
    → ((q : ℕ) (d : Descriptor) (t : Table) → p + i ≤ q → R (q + 1) d t → Q q d t)
    → Match R p ds db → Match Q p (remove ds i) (without_table name db)
removed_match R Q by p name [] [] i n h distinct low high m = cc
removed_match R Q by p name [] (t ∷ ts) i n h distinct low high m = absurd m
removed_match R Q by p name (d ∷ ds) [] i n h distinct low high m = absurd m
removed_match R Q by p name (d ∷ ds) (t ∷ ts) zero n h distinct low high m =
    either (same_name d.name name) (same_name t.name name) refl refl (ap (λ (m : Name). same_name m name) (sym (by p d t m.0))) h
  where
    back : (r : ℕ) (es : List Descriptor) (us : Database) → p ≤ r → Match R (r + 1) es us → Match Q r es us
    back r [] [] less h = tt
    back r [] (u ∷ us) less h = absurd h
    back r (e ∷ es) [] less h = absurd h
    back r (e ∷ es) (u ∷ us) less h = (high r e u (omega (arith, less)) h.0, back (r + 1) es us (omega (arith, less)) h.1)

    either : (b c : Bool) → same_name d.name name ≡ b → same_name t.name name ≡ c → c ≡ b → cond b (Some n) (place_from (n + 1) name ds) ≡ Some (n + 0) → Match Q p ds (without_table name (t ∷ ts))
    either true true at own is h =
        let same : d.name ≡ name = same_name-true d.name name at in
        let none : HasNone name ds = subst (λ (m : Name). HasNone m ds) same distinct.0 in
        let rest : without_table name ts ≡ ts = none_without R by (p + 1) name ds ts none m.1 in
        rw (own, rest) (back p ds ts (omega arith) m.1)
    either true false at own is h = cc
    either false c at own is h = let past : n + 1 ≤ n + 0 = past_place (n + 1) (n + 0) name ds h in absurd (omega arith)
removed_match R Q by p name (d ∷ ds) (t ∷ ts) (suc i) n h distinct low high m =
    either (same_name d.name name) (same_name t.name name) refl (ap (λ (m : Name). same_name m name) (sym (by p d t m.0))) h
    (λ more. removed_match R Q by (p + 1) name ds ts i (n + 1) more distinct.1 (λ q e u less. low q e u (omega (arith, less))) (λ q e u less. high q e u (omega (arith, less))) m.1)
  where
    either : (b c : Bool) → same_name t.name name ≡ c → c ≡ b → cond b (Some n) (place_from (n + 1) name ds) ≡ Some (n + suc i)
        → (place_from (n + 1) name ds ≡ Some (n + 1 + i) → Match Q (p + 1) (remove ds i) (without_table name ts)) → Match Q p (d ∷ remove ds i) (without_table name (t ∷ ts))
    either true c own is h more = let same : n ≡ n + suc i = cc in absurd (omega arith)
    either false true own is h more = cc
    either false false own is h more =
        let num : n + suc i ≡ n + 1 + i = omega arith in
        rw own (low p d t (omega arith) m.0, more (h ∙ ap Some num))

-- no look-up finds a name that none has
pub none_of : (n : ℕ) (name : Name) (ds : List Descriptor) → place_from n name ds ≡ None → HasNone name ds
none_of n name [] h = tt
none_of n name (d ∷ ds) h = either (same_name d.name name) refl h (none_of (n + 1) name ds)
  where
    either : (b : Bool) → same_name d.name name ≡ b → cond b (Some n) (place_from (n + 1) name ds) ≡ None → (place_from (n + 1) name ds ≡ None → HasNone name ds) → HasNone name (d ∷ ds)
    either true is h more = cc
    either false is h more = (is, more h)
