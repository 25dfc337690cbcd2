-- Laws of the table of locks.
use Rattle.std.proofs.Common.{arith, take_all, zero, suc, take, drop, ◌++◌, ◌≡◌, ◌≤◌, ◌+◌, [], ◌∷◌, ℕ, Bool, true, false, cond, List, Some, None, length, map, slice_index_or, slice_set, ◌<◌, refl, ap, sym, ◌∙◌, if◌then◌else◌}
use Rattle.std.specs.List.{find}
use Rattle.std.specs.Cmp.Lexicographic.{nat_list_eq_equiv, bytes_decides}
use Rattle.std.proofs.lemmas.List.{map-set, get_or-map, drop_all}
use Rattle.iq_base.specs.Shorts.{Name}
use Rattle.iq_roomed.specs.Rooms.{Room}
use Rattle.iq_locks.specs.Locked.{Written, LockState, holding, held_at, same_name, commit_of, latest_of, with_latest}

abbrev pub names_in : Room Name → List Name
names_in r = r.items

abbrev pub state_of : List (List Name) → List Written → ℕ → LockState
state_of held ws room = record { held = held; wrote = ws; room = room }

abbrev pub holding_in : List (Room Name) → List Written → ℕ → LockState
holding_in rs ws room = state_of (map names_in rs) ws room

pub same_name-refl : (n : Name) → same_name n n ≡ true
same_name-refl n = nat_list_eq_equiv.refl n

-- two names that are the same are equal
pub same_name-true : (a b : Name) → same_name a b ≡ true → a ≡ b
same_name-true a b = (bytes_decides a b).0

-- the latest commit of a name, and of another, where a name's is put
pub latest-with_latest : (n name : Name) (c : ℕ) (ws : List Written) → latest_of n (with_latest name c ws) ≡ (if same_name name n then c else latest_of n ws)
latest-with_latest n name c [] = at (same_name name n)
  where
    at : (this : Bool) → commit_of (cond this (Some (record { name = name; commit = c })) None) ≡ cond this c 0
    at true = refl
    at false = refl
latest-with_latest n name c (w ∷ ws) = beside (same_name w.name name) (same_name name n) (same_name w.name n) refl refl refl (latest-with_latest n name c ws)
  where
    row : Written
    row = record { name = name; commit = c }

    is_of : Written → Bool
    is_of v = same_name v.name n

    beside : (same this that : Bool) → same_name w.name name ≡ same → same_name name n ≡ this → same_name w.name n ≡ that
        → latest_of n (with_latest name c ws) ≡ cond this c (latest_of n ws)
        → latest_of n (cond same (row ∷ ws) (w ∷ with_latest name c ws)) ≡ cond this c (commit_of (cond that (Some w) (find is_of ws)))
    beside true true that e1 e2 e3 ih = ap (λ (b : Bool). commit_of (cond b (Some row) (find is_of ws))) e2
    beside true false true e1 e2 e3 ih =
        let one : same_name w.name n ≡ same_name name n = ap (λ (m : Name). same_name m n) (same_name-true w.name name e1) in cc
    beside true false false e1 e2 e3 ih = ap (λ (b : Bool). commit_of (cond b (Some row) (find is_of ws))) e2
    beside false true true e1 e2 e3 ih =
        let one : w.name ≡ n = same_name-true w.name n e3 in
        let two : name ≡ n = same_name-true name n e2 in
        let three : same_name w.name name ≡ true = ap (λ (m : Name). same_name m name) (one ∙ sym two) ∙ same_name-refl name in cc
    beside false false true e1 e2 e3 ih = ap (λ (b : Bool). commit_of (cond b (Some w) (find is_of (with_latest name c ws)))) e3
    beside false this false e1 e2 e3 ih = ap (λ (b : Bool). commit_of (cond b (Some w) (find is_of (with_latest name c ws)))) e3 ∙ ih

-- at most one row more
pub length-with_latest : (name : Name) (c : ℕ) (ws : List Written) → length (with_latest name c ws) ≤ length ws + 1
length-with_latest name c [] = omega arith
length-with_latest name c (w ∷ ws) = beside (same_name w.name name) (length-with_latest name c ws)
  where
    beside : (same : Bool) → length (with_latest name c ws) ≤ length ws + 1
        → length (cond same ((record { name = name; commit = c }) ∷ ws) (w ∷ with_latest name c ws)) ≤ length (w ∷ ws) + 1
    beside true ih = omega arith
    beside false ih = omega (arith, ih)

-- the names of one session become others
pub holding-is : (rs : List (Room Name)) (ws : List Written) (room i : ℕ) (d r : Room Name) (f : List Name → List Name) → i < length rs
    → r.items ≡ f (slice_index_or rs i d).items
    → holding_in (slice_set rs i r) ws room ≡ holding i (f (held_at i (map names_in rs))) (holding_in rs ws room)
holding-is rs ws room i d r f lt e =
    ap (λ (held : List (List Name)). state_of held ws room)
    (map-set names_in rs i r ∙ ap (λ (names : List Name). slice_set (map names_in rs) i names) (e ∙ ap f (sym (get_or-map names_in rs i d [] lt))))

-- a row in place of the one of its name
pub set-at : (row : Written) (ws : List Written) (i : ℕ) (d : Written) → i < length ws → same_name (slice_index_or ws i d).name row.name ≡ true
    → take i ws ++ with_latest row.name row.commit (drop i ws) ≡ slice_set ws i row
set-at row [] i d lt same = absurd (lt-zero lt)
  where
    lt-zero : i < 0 → ⊥
    lt-zero e = omega (arith, e)
set-at row (w ∷ ws) zero d lt same = ap (λ (b : Bool). cond b (row ∷ ws) (w ∷ with_latest row.name row.commit ws)) same
set-at row (w ∷ ws) (suc i) d lt same = ap (λ (more : List Written). w ∷ more) (set-at row ws i d (omega (arith, lt)) same)

-- a row behind all rows
pub latest-end : (row : Written) (ws : List Written) (i : ℕ) → length ws ≤ i
    → take i ws ++ with_latest row.name row.commit (drop i ws) ≡ ws ++ row ∷ []
latest-end row ws i past = rw (take_all i ws past, drop_all i ws past) refl
