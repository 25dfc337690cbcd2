-- The slots of a plain table as two lists: their rows, and for which of them the row is there.
use Rattle.std.proofs.Common.{◌≡◌, ℕ, suc, ◌+◌, Bool, true, false, List, [], ◌∷◌, ◌++◌, length, map, filter, refl, sym, ap, ◌∙◌, append_assoc, length-append, cond, replicate}
use Rattle.std.specs.Prelude.{count_by, ◌&&◌}
use Rattle.std.proofs.lemmas.List.Sums.{length-filter}
use Rattle.iq_base.specs.declared.values.Value.{Value}
use Rattle.iq_bitmap.specs.Bits.{rows_from}
use Rattle.iq_cells.specs.Tables.{row_at}
use Rattle.iq_statements.specs.Tables.{Slot, Table, content, live_slot, with_rows}
use Rattle.iq_database.specs.Standing.{slot_rows, slot_bits}

-- ROWS PUT AT THE END

more_rows : (ss : List Slot) (rows : List (List Value)) → map (λ (s : Slot). s.row) (ss ++ map live_slot rows) ≡ map (λ (s : Slot). s.row) ss ++ rows
more_rows [] [] = refl
more_rows [] (row ∷ rows) = ap (λ rs. row ∷ rs) (more_rows [] rows)
more_rows (s ∷ ss) rows = ap (λ rs. s.row ∷ rs) (more_rows ss rows)

more_bits : (ss : List Slot) (rows : List (List Value)) → map (λ (s : Slot). s.alive) (ss ++ map live_slot rows) ≡ map (λ (s : Slot). s.alive) ss ++ replicate (length rows) true
more_bits [] [] = refl
more_bits [] (row ∷ rows) = ap (λ bs. true ∷ bs) (more_bits [] rows)
more_bits (s ∷ ss) rows = ap (λ bs. s.alive ∷ bs) (more_bits ss rows)

pub rows_more : (t : Table) (rows : List (List Value)) → slot_rows (with_rows rows t) ≡ slot_rows t ++ rows
rows_more t rows = more_rows t.slots rows

pub bits_more : (t : Table) (rows : List (List Value)) → slot_bits (with_rows rows t) ≡ slot_bits t ++ replicate (length rows) true
bits_more t rows = more_bits t.slots rows

-- ROWS THAT ARE CHOSEN

-- the row behind some
row_behind : (before : List (List Value)) (row : List Value) (rows : List (List Value)) → row_at (length before) (before ++ row ∷ rows) ≡ row
row_behind [] row rows = refl
row_behind (b ∷ before) row rows = row_behind before row rows

-- what a function gives of the rows of chosen slots, read by their places, of one slot more
one_behind : {Y : Type 0} (f : List Value → Y) (q : Slot → Bool) (before : List (List Value)) (s : Slot) (ss : List Slot) (b : Bool)
    → map (λ (r : ℕ). f (row_at r ((before ++ s.row ∷ []) ++ map (λ (x : Slot). x.row) ss))) (rows_from (length (before ++ s.row ∷ [])) (map q ss))
    ≡ map f (map (λ (x : Slot). x.row) (filter q ss))
    → map (λ (r : ℕ). f (row_at r (before ++ s.row ∷ map (λ (x : Slot). x.row) ss))) (rows_from (length before) (b ∷ map q ss))
    ≡ map f (map (λ (x : Slot). x.row) (cond b (s ∷ filter q ss) (filter q ss)))
one_behind {Y} f q before s ss b later = either b
  where
    rest : List (List Value)
    rest = map (λ (x : Slot). x.row) ss

    bits : List Bool
    bits = map q ss

    F : ℕ → Y
    F r = f (row_at r (before ++ s.row ∷ rest))

    behind : map F (rows_from (length before + 1) bits) ≡ map f (map (λ (x : Slot). x.row) (filter q ss))
    behind =
        ap (λ (rs : List (List Value)). map (λ (r : ℕ). f (row_at r rs)) (rows_from (length before + 1) bits)) (sym (append_assoc before (s.row ∷ []) rest))
        ∙ ap (λ (n : ℕ). map (λ (r : ℕ). f (row_at r ((before ++ s.row ∷ []) ++ rest))) (rows_from n bits)) (sym (length-append before (s.row ∷ [])))
        ∙ later

    either : (c : Bool) → map F (rows_from (length before) (c ∷ bits)) ≡ map f (map (λ (x : Slot). x.row) (cond c (s ∷ filter q ss) (filter q ss)))
    either true = ap (λ (row : List Value). f row ∷ map F (rows_from (length before + 1) bits)) (row_behind before s.row rest) ∙ ap (λ (ys : List Y). f s.row ∷ ys) behind
    either false = behind

rows_behind : {Y : Type 0} (f : List Value → Y) (q : Slot → Bool) (before : List (List Value)) (ss : List Slot)
    → map (λ (r : ℕ). f (row_at r (before ++ map (λ (s : Slot). s.row) ss))) (rows_from (length before) (map q ss))
    ≡ map f (map (λ (s : Slot). s.row) (filter q ss))
rows_behind f q before [] = refl
rows_behind f q before (s ∷ ss) = one_behind f q before s ss (q s) (rows_behind f q (before ++ s.row ∷ []) ss)

-- how many slots are chosen
one_counted : (q : Slot → Bool) (s : Slot) (ss : List Slot) (b : Bool) → length (filter (λ (on : Bool). on) (map q ss)) ≡ length (map (λ (x : Slot). x.row) (filter q ss))
    → length (filter (λ (on : Bool). on) (b ∷ map q ss)) ≡ length (map (λ (x : Slot). x.row) (cond b (s ∷ filter q ss) (filter q ss)))
one_counted q s ss true h = ap suc h
one_counted q s ss false h = h

count_there : (q : Slot → Bool) (ss : List Slot) → length (filter (λ (on : Bool). on) (map q ss)) ≡ length (map (λ (s : Slot). s.row) (filter q ss))
count_there q [] = refl
count_there q (s ∷ ss) = one_counted q s ss (q s) (count_there q ss)

-- the rows that are there and that a test keeps are those kept of the content
one_kept : (k : List Value → Bool) (s : Slot) (ss : List Slot) (here alive : Bool) → map (λ (x : Slot). x.row) (filter (λ (x : Slot). k x.row && x.alive) ss) ≡ filter k (map (λ (x : Slot). x.row) (filter (λ (x : Slot). x.alive) ss))
    → k s.row ≡ here → map (λ (x : Slot). x.row) (cond (here && alive) (s ∷ filter (λ (x : Slot). k x.row && x.alive) ss) (filter (λ (x : Slot). k x.row && x.alive) ss))
    ≡ filter k (map (λ (x : Slot). x.row) (cond alive (s ∷ filter (λ (x : Slot). x.alive) ss) (filter (λ (x : Slot). x.alive) ss)))
one_kept k s ss true true h is = rw is (ap (λ (rows : List (List Value)). s.row ∷ rows) h)
one_kept k s ss true false h is = h
one_kept k s ss false true h is = rw is h
one_kept k s ss false false h is = h

pub kept_there : (k : List Value → Bool) (ss : List Slot) → map (λ (s : Slot). s.row) (filter (λ (s : Slot). k s.row && s.alive) ss) ≡ filter k (map (λ (s : Slot). s.row) (filter (λ (s : Slot). s.alive) ss))
kept_there k [] = refl
kept_there k (s ∷ ss) = one_kept k s ss (k s.row) s.alive (kept_there k ss) refl

-- read by their places, and counted
pub kept_by_place : {Y : Type 0} (f : List Value → Y) (k : List Value → Bool) (t : Table) → map (λ (r : ℕ). f (row_at r (slot_rows t))) (rows_from 0 (map (λ (s : Slot). k s.row && s.alive) t.slots)) ≡ map f (filter k (content t))
kept_by_place f k t = rows_behind f (λ (s : Slot). k s.row && s.alive) [] t.slots ∙ ap (map f) (kept_there k t.slots)

pub kept_counted : (k : List Value → Bool) (t : Table) → count_by (λ on. on) (map (λ (s : Slot). k s.row && s.alive) t.slots) ≡ length (filter k (content t))
kept_counted k t = sym (length-filter (λ (on : Bool). on) (map (λ (s : Slot). k s.row && s.alive) t.slots)) ∙ count_there (λ (s : Slot). k s.row && s.alive) t.slots ∙ ap length (kept_there k t.slots)
