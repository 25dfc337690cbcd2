-- Columns that grow, one after the other.
use Rattle.std.proofs.Common.{◌≡◌, ◌<◌, ◌≤◌, ℕ, ◌+◌, ◌*◌, ◌/◌, inl, inr, true, true≢false, List, [], ◌∷◌, ◌++◌, take, drop, Option, length, refl, sym, ap, ap₂, ◌∙◌, subst, arith}
use Rattle.std.specs.Prelude.{◌⊎◌, Some, None, IsSome, slice_get, slice_index_or}
use Rattle.std.proofs.lemmas.Grind.{rows as page_rows}
use Rattle.std.proofs.lemmas.Bool.{cases_lt}
use Rattle.std.proofs.lemmas.List.{length-append, length-take, get_or_at, get_or_append_left, get_or-append-add, take_more, take-append-drop}
use Rattle.std.proofs.lemmas.Option.{slice_get-get_or, slice_get_within, get_or_from_slice_get}
use Rattle.std.proofs.lemmas.List.Sums.{sum_by-append}
use Rattle.iq_base.specs.declared.values.Kind.{Kind}
use Rattle.iq_base.specs.declared.values.Kind.TheVariants.{Int}
use Rattle.iq_base.specs.declared.values.Value.{Value}
use Rattle.iq_base.specs.declared.descriptors.ColumnPart.{ColumnPart}
use Rattle.iq_pages.specs.declared.page_faults.PageFault.{PageFault}
use Rattle.iq_pages.specs.declared.page_faults.PageFault.TheVariants.{Failed, BadPage, NoMemory}
use Rattle.iq_base.specs.Cells.{width}
use Rattle.iq_pages.specs.Pages.{Pages, Seen, KeepsObjects, CountsMore}
use Rattle.iq_pieces.specs.Counts.{per_page, OnlyReads}
use Rattle.iq_pieces.proofs.Counting.{reads_on, reads_none}
use Rattle.iq_pages.proofs.PageLaws.{rose_since, counts_on}
use Rattle.iq_pieces.specs.Faults.{HasSoundPage, CodesBelow, CellsOf}
use Rattle.iq_cells.specs.Tables.{column_of}
use Rattle.iq_fp.specs.declared.fp.Fp.{Fp}
use Rattle.iq_fp.specs.Forms.{code_width}
use Rattle.iq_fp.specs.Calls as fps
use Rattle.iq_fp.specs.declared.plan.Plan.{Plan}
use Rattle.iq_fp.specs.Plans.{IsPlanFor, IsReached}
use Rattle.iq_fp.proofs.Growth.{stands_there, more_still, plan_there}
use Rattle.iq_fp.proofs.Bounds.{written_within}
use Rattle.iq_table.specs.Places.{codes_of, values_of, new_part, part_at, fp_of}
use Rattle.iq_table.specs.Calls.{IsPartGrown, ColumnsStandForMore, KeepsButColumns, TellsColumns, IsNoBadPage, HasColumnsCause, columns_read, columns_written, columns_most}
use Rattle.iq_table.specs.Plans.{IsColumnPlan}

-- no column has changed yet
pub keeps_none : (place : ℕ) (a : Seen) → KeepsButColumns place 0 a a
keeps_none place a = record { told = λ object out. refl; counts = λ object out. refl }

-- what is kept but for some columns is kept but for more
pub keeps_wider : (place n m : ℕ) (a b : Seen) → n ≤ m → KeepsButColumns place n a b → KeepsButColumns place m a b
keeps_wider place n m a b l k = record {
  told = λ object out. k.told object (outer out);
  counts = λ object out. k.counts object (outer out);
}
  where
    outer : {object : ℕ} → (object ≤ 256 * place) ⊎ (256 * place + 2 * m < object) → (object ≤ 256 * place) ⊎ (256 * place + 2 * n < object)
    outer (inl low) = inl low
    outer (inr high) = inr (omega arith)

-- one column more has changed
pub keeps_next : (place slots c : ℕ) (part : ColumnPart) (a b d : Seen) → KeepsButColumns place c a b → fps.KeepsOtherObjects (fp_of place slots c part) b d → KeepsButColumns place (c + 1) a d
keeps_next place slots c part a b d k o = record {
  told = λ object out. elim out [
    | inl low ↦ o.told object (λ e. absurd (omega arith)) (λ e. absurd (omega arith)) ∙ k.told object (inl low)
    | inr high ↦ o.told object (λ e. absurd (omega arith)) (λ e. absurd (omega arith)) ∙ k.told object (inr (omega arith))
  ];
  counts = λ object out. elim out [
    | inl low ↦ o.counts object (λ e. absurd (omega arith)) (λ e. absurd (omega arith)) ∙ k.counts object (inl low)
    | inr high ↦ o.counts object (λ e. absurd (omega arith)) (λ e. absurd (omega arith)) ∙ k.counts object (inr (omega arith))
  ];
}

-- the next column hasn't changed yet
pub next_codes : (place c : ℕ) (a b : Seen) → KeepsButColumns place c a b → b.told (codes_of place c) ≡ a.told (codes_of place c)
next_codes place c a b k = k.told (codes_of place c) (inr (omega arith))

pub next_values : (place c : ℕ) (a b : Seen) → KeepsButColumns place c a b → b.told (values_of place c) ≡ a.told (values_of place c)
next_values place c a b k = k.told (values_of place c) (inr (omega arith))

-- a column of a list to which one was put
part_before : (parts : List ColumnPart) (part : ColumnPart) (j : ℕ) → j < length parts → part_at j (parts ++ part ∷ []) ≡ part_at j parts
part_before parts part j h = get_or_append_left parts (part ∷ []) (new_part (record { name = []; kind = Int; null = true })) j h

part_last : (parts : List ColumnPart) (part : ColumnPart) (j : ℕ) → j ≡ length parts → part_at j (parts ++ part ∷ []) ≡ part
part_last parts part j e =
    let place : j ≡ length parts + 0 = omega arith in
    ap (λ (k : ℕ). part_at k (parts ++ part ∷ [])) place ∙ get_or-append-add parts (part ∷ []) 0 (new_part (record { name = []; kind = Int; null = true }))

-- each column that was put is grown
pub grown_next : (more c : ℕ) (parts made : List ColumnPart) (part : ColumnPart) → length made ≡ c → ((j : ℕ) → j < c → IsPartGrown more (part_at j parts) (part_at j made)) → IsPartGrown more (part_at c parts) part → (j : ℕ) → j < c + 1 → IsPartGrown more (part_at j parts) (part_at j (made ++ part ∷ []))
grown_next more c parts made part long each here j h = elim (cases_lt j c) [
  | inl less ↦ subst (λ (p : ColumnPart). IsPartGrown more (part_at j parts) p) (sym (part_before made part j (omega arith))) (each j less)
  | inr on ↦ (
      let same : j ≡ c = omega arith in
      subst (λ (p : ColumnPart). IsPartGrown more (part_at j parts) p) (sym (part_last made part j (omega arith))) (subst (λ (k : ℕ). IsPartGrown more (part_at k parts) part) (sym same) here))
]

-- a column whose distinct values are more, in the form that they need
pub part_grown : (more : ℕ) (part : ColumnPart) (distinct : ℕ) → part.distinct ≤ distinct → distinct ≤ part.distinct + more → IsPartGrown more part (record part { form = code_width distinct; distinct = distinct })
part_grown more part distinct l m = record { rest = refl; distinct = l; most = m; form = λ e. refl }

-- a column by its numbers
fp_is : (fp : Fp) (codes values : ℕ) (kind : Kind) (slots : ℕ) → fp.codes ≡ codes → fp.values ≡ values → fp.kind ≡ kind → fp.slots ≡ slots → fp ≡ record { codes = codes; values = values; kind = kind; slots = slots; distinct = fp.distinct }
fp_is fp codes values kind slots ec ev ek es =
    ap (λ (n : ℕ). record fp { codes = n }) ec ∙ ap (λ (n : ℕ). record fp { codes = codes; values = n }) ev
    ∙ ap (λ (k : Kind). record fp { codes = codes; values = values; kind = k }) ek ∙ ap (λ (n : ℕ). record fp { codes = codes; values = values; kind = kind; slots = n }) es

-- the objects of a plan's column
plan_codes : (place slots c : ℕ) (old new : ColumnPart) (rows : List (List Value)) (seen : Seen) (plan : Plan) → IsColumnPlan place slots c old new rows seen plan → plan.column.codes ≡ codes_of place c
plan_codes place slots c old new rows seen plan is = ap (λ (fp : Fp). fp.codes) is.column

plan_values : (place slots c : ℕ) (old new : ColumnPart) (rows : List (List Value)) (seen : Seen) (plan : Plan) → IsColumnPlan place slots c old new rows seen plan → plan.column.values ≡ values_of place c
plan_values place slots c old new rows seen plan is = ap (λ (fp : Fp). fp.values) is.column

-- a plan holds on where the objects of its column are as they were seen
pub plan_still : (place slots c : ℕ) (old new : ColumnPart) (rows : List (List Value)) (a b : Seen) (plan : Plan) → b.told (codes_of place c) ≡ a.told (codes_of place c) → b.told (values_of place c) ≡ a.told (values_of place c) → b.counts (codes_of place c) ≡ a.counts (codes_of place c) → b.counts (values_of place c) ≡ a.counts (values_of place c) → IsColumnPlan place slots c old new rows a plan → IsColumnPlan place slots c old new rows b plan
plan_still place slots c old new rows a b plan tc tv nc nv is =
    let codes = plan_codes place slots c old new rows a plan is in
    let values = plan_values place slots c old new rows a plan is in
    record {
      column = is.column;
      longer = is.longer;
      grown = is.grown;
      made_for = plan_there plan a.told b.told (column_of c rows) (ap b.told codes ∙ tc ∙ sym (ap a.told codes)) (ap b.told values ∙ tv ∙ sym (ap a.told values)) is.made_for;
      reached = record {
        values = subst (λ (n : ℕ). plan.column.distinct / per_page (width plan.column.kind) ≤ n) (sym (ap b.counts values ∙ nv ∙ sym (ap a.counts values))) is.reached.values;
        codes = λ keeps. subst (λ (n : ℕ). plan.column.slots / per_page (code_width plan.column.distinct) ≤ n) (sym (ap b.counts codes ∙ nc ∙ sym (ap a.counts codes))) (is.reached.codes keeps);
      };
    }

-- a column's plan is one of the table's
pub plan_made : (place slots k : ℕ) (parts : List ColumnPart) (rows : List (List Value)) (cells : List Value) (fp : Fp) (a b : Seen) (plan : Plan) → fp ≡ fp_of place slots k (part_at k parts) → cells ≡ column_of k rows → length cells ≡ length rows → KeepsObjects a b → plan.column ≡ fp → fps.IsLonger fp plan.grown (length cells) → IsPlanFor b.told cells plan → IsReached b.counts plan → IsColumnPlan place slots k (part_at k parts) (record (part_at k parts) { form = code_width plan.grown.distinct; distinct = plan.grown.distinct }) rows a plan
plan_made place slots k parts rows cells fp a b plan fp_is cells_are many kept column longer made reached =
    plan_still place slots k (part_at k parts) (record (part_at k parts) { form = code_width plan.grown.distinct; distinct = plan.grown.distinct }) rows b a plan
    (sym (kept.told (codes_of place k))) (sym (kept.told (values_of place k))) (sym (kept.counts (codes_of place k))) (sym (kept.counts (values_of place k)))
    (record {
      column = column ∙ fp_is;
      longer = subst (λ (f : Fp). fps.IsLonger f plan.grown (length rows)) (sym column) (subst (λ (n : ℕ). fps.IsLonger fp plan.grown n) many longer);
      grown = refl;
      made_for = subst (λ (vs : List Value). IsPlanFor b.told vs plan) cells_are made;
      reached = reached;
    })

-- the last of plans
plan_last : (plans more : List Plan) (plan : Plan) (k : ℕ) → length plans ≡ k → slice_get (plans ++ plan ∷ more) k ≡ Some plan
plan_last plans more plan k long = slice_get-get_or (plans ++ plan ∷ more) k plan (omega (arith, length-append plans (plan ∷ more))) ∙ ap Some (get_or_at plans plan more plan k long)

-- plans and one more
pub plans_next : (place slots k : ℕ) (parts made : List ColumnPart) (part : ColumnPart) (rows : List (List Value)) (seen : Seen) (plans : List Plan) (plan : Plan) → length made ≡ k → length plans ≡ k → ((j : ℕ) (p : Plan) → slice_get plans j ≡ Some p → IsColumnPlan place slots j (part_at j parts) (part_at j made) rows seen p) → IsColumnPlan place slots k (part_at k parts) part rows seen plan → (j : ℕ) (p : Plan) → slice_get (plans ++ plan ∷ []) j ≡ Some p → IsColumnPlan place slots j (part_at j parts) (part_at j (made ++ part ∷ [])) rows seen p
plans_next place slots k parts made part rows seen plans plan long_made long each is j p here =
    elim (cases_lt j k) [
      | inl less ↦ (
          let at : slice_get plans j ≡ Some p = slice_get-get_or plans j p (omega arith) ∙ ap Some (sym (get_or_append_left plans (plan ∷ []) p j (omega arith)) ∙ get_or_from_slice_get (plans ++ plan ∷ []) j p p here) in
          subst (λ (part : ColumnPart). IsColumnPlan place slots j (part_at j parts) part rows seen p) (sym (part_before made part j (omega arith))) (each j p at))
      | inr on ↦ (
          let within = slice_get_within (plans ++ plan ∷ []) j p here in
          let same : j ≡ k = omega (arith, within, length-append plans (plan ∷ [])) in
          let at : p ≡ plan = sym (get_or_from_slice_get (plans ++ plan ∷ []) j p p here) ∙ ap (λ (n : ℕ). slice_index_or (plans ++ plan ∷ []) n p) same ∙ get_or_at plans plan [] p k long in
          rw (at, same, part_last made part k (sym long_made)) is)
    ]

-- the next of plans
pub plan_next : (plans done more : List Plan) (plan : Plan) → done ++ plan ∷ more ≡ plans → slice_get plans (length done) ≡ Some plan
plan_next plans done more plan e = ap (λ (ps : List Plan). slice_get ps (length done)) (sym e) ∙ plan_last done more plan (length done) refl

-- which holds where the columns before its own were written
pub plan_now : (place slots k : ℕ) (old new : ColumnPart) (rows : List (List Value)) (a b : Seen) (plan : Plan) → KeepsButColumns place k a b → IsColumnPlan place slots k old new rows a plan → IsColumnPlan place slots k old new rows b plan
plan_now place slots k old new rows a b plan kept is = plan_still place slots k old new rows a b plan (next_codes place k a b kept) (next_values place k a b kept) (kept.counts (codes_of place k) (inr (omega arith))) (kept.counts (values_of place k) (inr (omega arith))) is

-- the columns that were written before stand on, and so does the next one
pub stand_next : (place slots slots' k : ℕ) (parts made : List ColumnPart) (rows : List (List Value)) (plan : Plan) (a b d : Seen) → slots' ≡ slots + length rows → IsColumnPlan place slots k (part_at k parts) (part_at k made) rows b plan → KeepsButColumns place k a b → fps.KeepsOtherObjects (fp_of place slots k (part_at k parts)) b d → ColumnsStandForMore k place slots slots' parts made rows a.told b.told → fps.StandsForMore (fp_of place slots k (part_at k parts)) plan.grown (column_of k rows) b.told d.told → ColumnsStandForMore (k + 1) place slots slots' parts made rows a.told d.told
stand_next place slots slots' k parts made rows plan a b d count plan_is kept others before here = λ j h. elim (cases_lt j k) [
  | inl less ↦ λ values stands. (
      let was = before j less values stands in
      stands_there (fp_of place slots' j (part_at j made)) b.told d.told (values ++ column_of j rows)
      (others.told (codes_of place j) (λ e. absurd (omega arith)) (λ e. absurd (omega arith)))
      (others.told (values_of place j) (λ e. absurd (omega arith)) (λ e. absurd (omega arith))) was)
  | inr on ↦ (
      let at : j ≡ k = omega arith in
      let part = part_at k made in
      let same : fps.SameObjects (fp_of place slots k (part_at k parts)) plan.grown = subst (λ (fp : Fp). fps.SameObjects fp plan.grown) plan_is.column plan.fits.objects in
      let kind : part.kind ≡ (part_at k parts).kind = ap (λ (p : ColumnPart). p.kind) plan_is.grown in
      let distinct : part.distinct ≡ plan.grown.distinct = ap (λ (p : ColumnPart). p.distinct) plan_is.grown in
      let slots_is : plan.grown.slots ≡ slots' = plan_is.longer.slots ∙ ap (λ (fp : Fp). fp.slots + length rows) plan_is.column ∙ sym count in
      let is : plan.grown ≡ fp_of place slots' k part =
      fp_is plan.grown (codes_of place k) (values_of place k) part.kind slots' same.codes same.values (same.kind ∙ sym kind) slots_is
      ∙ ap (λ (n : ℕ). record (fp_of place slots' k part) { distinct = n }) (sym distinct) in
      let more : fps.StandsForMore (fp_of place slots k (part_at k parts)) plan.grown (column_of k rows) a.told d.told =
      more_still (fp_of place slots k (part_at k parts)) plan.grown a.told b.told d.told (column_of k rows) (next_codes place k a b kept) (next_values place k a b kept) here in
      let moved : fps.StandsForMore (fp_of place slots k (part_at k parts)) (fp_of place slots' k part) (column_of k rows) a.told d.told = rw is at more in
      subst (λ (i : ℕ). fps.StandsForMore (fp_of place slots i (part_at i parts)) (fp_of place slots' i (part_at i made)) (column_of i rows) a.told d.told) (sym at) moved)
]

-- how many pages one column more takes to write
written_on : (slots slots' : ℕ) (olds news : List ColumnPart) (old new : ColumnPart) → length news ≡ length olds → columns_written slots slots' (olds ++ old ∷ []) (news ++ new ∷ []) ≡ columns_written slots slots' olds news + fps.pages_written (fp_of 0 slots 0 old) (fp_of 0 slots' 0 new)
written_on slots slots' [] [] old new e = omega arith
written_on slots slots' [] (n ∷ ns) old new e = absurd (omega (arith, e))
written_on slots slots' (o ∷ os) [] old new e = absurd (omega (arith, e))
written_on slots slots' (o ∷ os) (n ∷ ns) old new e = let on = written_on slots slots' os ns old new (omega (arith, e)) in omega (arith, on)

pub written_next : (place slots slots' k : ℕ) (parts made : List ColumnPart) (fp : Fp) (x y z : Option ℕ) → k < length parts → length made ≡ length parts → (part_at k made).distinct ≡ fp.distinct → fp.slots ≡ slots' → CountsMore (columns_written slots slots' (take k parts) (take k made)) x y → CountsMore (fps.pages_written (fp_of place slots k (part_at k parts)) fp) y z → CountsMore (columns_written slots slots' (take (k + 1) parts) (take (k + 1) made)) x z
written_next place slots slots' k parts made fp x y z within long distinct count p q =
    let none = new_part (record { name = []; kind = Int; null = true }) in
    let part = part_at k made in
    let first : take (k + 1) parts ≡ take k parts ++ part_at k parts ∷ [] = take_more parts k none within in
    let second : take (k + 1) made ≡ take k made ++ part ∷ [] = take_more made k none (omega (arith, long)) in
    let size : length (take k made) ≡ length (take k parts) = omega (arith, long, length-take k parts, length-take k made) in
    let here : fps.pages_written (fp_of place slots k (part_at k parts)) fp ≡ fps.pages_written (fp_of 0 slots 0 (part_at k parts)) (fp_of 0 slots' 0 part) =
    ap (λ (n : ℕ). fps.pages_written (fp_of 0 slots 0 (part_at k parts)) (record fp { slots = n })) count
    ∙ ap (λ (n : ℕ). fps.pages_written (fp_of 0 slots 0 (part_at k parts)) (record (fp_of 0 slots' 0 part) { distinct = n })) (sym distinct) in
    let all = ap₂ (λ (ps : List ColumnPart) (qs : List ColumnPart). columns_written slots slots' ps qs) first second ∙ written_on slots slots' (take k parts) (take k made) (part_at k parts) part size in
    rw all (counts_on _ _ x y z p (rw here at q))

-- how many it takes to read
pub read_next : (slots c : ℕ) (parts : List ColumnPart) → c < length parts → columns_read slots (take (c + 1) parts) ≡ columns_read slots (take c parts) + fps.pages_read (fp_of 0 slots 0 (part_at c parts))
read_next slots c parts within =
    let first : take (c + 1) parts ≡ take c parts ++ part_at c parts ∷ [] = take_more parts c (new_part (record { name = []; kind = Int; null = true })) within in
    let f : ColumnPart → ℕ = λ part. fps.pages_read (fp_of 0 slots 0 part) in
    ap (λ (ps : List ColumnPart). columns_read slots ps) first ∙ sum_by-append f (take c parts) (part_at c parts ∷ []) ∙ (omega arith)

pub read_first : (slots c : ℕ) (parts : List ColumnPart) → columns_read slots (take c parts) ≤ columns_read slots parts
read_first slots c parts =
    let f : ColumnPart → ℕ = λ part. fps.pages_read (fp_of 0 slots 0 part) in
    let whole : columns_read slots (take c parts ++ drop c parts) ≡ columns_read slots (take c parts) + columns_read slots (drop c parts) = sum_by-append f (take c parts) (drop c parts) in
    let same : columns_read slots (take c parts ++ drop c parts) ≡ columns_read slots parts = ap (λ (ps : List ColumnPart). columns_read slots ps) (take-append-drop c parts) in
    omega (arith, whole, same)

-- so a column more was read
pub reads_next : (place slots k : ℕ) (parts : List ColumnPart) (fp : Fp) (a b d : Seen) → k < length parts → fp ≡ fp_of place slots k (part_at k parts) → OnlyReads (columns_read slots (take k parts)) a b → OnlyReads (fps.pages_read fp) b d → OnlyReads (columns_read slots (take (k + 1) parts)) a d
reads_next place slots k parts fp a b d within is p q =
    let here : OnlyReads (fps.pages_read (fp_of place slots k (part_at k parts))) b d = rw is at q in
    reads_on (columns_read slots (take k parts)) (fps.pages_read (fp_of 0 slots 0 (part_at k parts))) (columns_read slots (take (k + 1) parts)) a b d (omega (arith, read_next slots k parts within)) p here

-- and some columns are no more than all
pub reads_first : (slots k : ℕ) (parts : List ColumnPart) (a b : Seen) → OnlyReads (columns_read slots (take k parts)) a b → OnlyReads (columns_read slots parts) a b
reads_first slots k parts a b p = reads_on (columns_read slots (take k parts)) 0 (columns_read slots parts) a b b (omega (arith, read_first slots k parts)) p (reads_none 0 b)

-- the most pages of one column more
pub most_next : (slots more c : ℕ) (parts : List ColumnPart) → c < length parts → columns_most slots more (take (c + 1) parts) ≡ columns_most slots more (take c parts) + fps.most_written (fp_of 0 slots 0 (part_at c parts)) more
most_next slots more c parts within =
    let first : take (c + 1) parts ≡ take c parts ++ part_at c parts ∷ [] = take_more parts c (new_part (record { name = []; kind = Int; null = true })) within in
    let f : ColumnPart → ℕ = λ part. fps.most_written (fp_of 0 slots 0 part) more in
    ap (λ (ps : List ColumnPart). columns_most slots more ps) first ∙ sum_by-append f (take c parts) (part_at c parts ∷ []) ∙ (omega arith)

pub most_first : (slots more c : ℕ) (parts : List ColumnPart) → columns_most slots more (take c parts) ≤ columns_most slots more parts
most_first slots more c parts =
    let f : ColumnPart → ℕ = λ part. fps.most_written (fp_of 0 slots 0 part) more in
    let whole : columns_most slots more (take c parts ++ drop c parts) ≡ columns_most slots more (take c parts) + columns_most slots more (drop c parts) = sum_by-append f (take c parts) (drop c parts) in
    let same : columns_most slots more (take c parts ++ drop c parts) ≡ columns_most slots more parts = ap (λ (ps : List ColumnPart). columns_most slots more ps) (take-append-drop c parts) in
    omega (arith, whole, same)

-- a column's cause, where its objects were kept before
pub column_cause : (place slots c : ℕ) (parts : List ColumnPart) (a b d : Seen) (fault : PageFault) → c < length parts → b.told (codes_of place c) ≡ a.told (codes_of place c) → b.told (values_of place c) ≡ a.told (values_of place c) → a.faults ≤ b.faults → fps.HasAppendCause (fp_of place slots c (part_at c parts)) b d fault → HasColumnsCause place slots parts a d fault
column_cause place slots c parts a b d (Failed x y) within ec ev later h = rose_since _ _ _ _ _ later h
column_cause place slots c parts a b d (BadPage named page) within ec ev later h =
    let part = part_at c parts in (
      c,
      within,
      elim h [
        | inl planned ↦ inl (elim planned [
          | inl read ↦ inl (elim read [
            | inl codes ↦ inl (codes.0, codes.1, subst (λ (o : Option Pages). ¬ (HasSoundPage (CodesBelow (code_width part.distinct) part.distinct) slots o page)) ec codes.2)
            | inr values ↦ inr (values.0, values.1, subst (λ (o : Option Pages). ¬ (HasSoundPage (CellsOf part.kind) part.distinct o page)) ev values.2)
          ])
          | inr none ↦ inr (none.0, none.1, λ values stands. none.2 values (stands_there (fp_of place slots c part) a.told b.told values ec ev stands))
        ])
        | inr dark ↦ inr (elim dark.0 [
          | inl codes ↦ (inl codes, ap a.told codes ∙ sym ec ∙ ap b.told (sym codes) ∙ dark.1)
          | inr values ↦ (inr values, ap a.told values ∙ sym ev ∙ ap b.told (sym values) ∙ dark.1)
        ])
      ],
    )
column_cause place slots c parts a b d NoMemory within ec ev later h = tt

-- of a plan, and of writing it
pub planned_cause : (fp : Fp) (a b : Seen) (fault : PageFault) → fps.HasPlanCause fp a b fault → fps.HasAppendCause fp a b fault
planned_cause fp a b (Failed x y) h = h
planned_cause fp a b (BadPage named page) h = inl h
planned_cause fp a b NoMemory h = tt

pub sink_cause : (fp : Fp) (a b : Seen) (fault : PageFault) → fps.HasSinkCause fp a b fault → fps.HasAppendCause fp a b fault
sink_cause fp a b (Failed x y) h = h
sink_cause fp a b (BadPage named page) h = inr h
sink_cause fp a b NoMemory h = tt

-- writing a plan finds no bad page where the objects are told
pub told_sink : (place slots c n : ℕ) (part : ColumnPart) (a b d : Seen) (fault : PageFault) → c < n → KeepsButColumns place c a b → TellsColumns a.told place n → fps.HasSinkCause (fp_of place slots c part) b d fault → IsNoBadPage fault
told_sink place slots c n part a b d (Failed x y) within kept tells h = tt
told_sink place slots c n part a b d (BadPage named page) within kept tells h = elim h.0 [
  | inl codes ↦ (
      let none : a.told (codes_of place c) ≡ None = sym (next_codes place c a b kept) ∙ ap b.told (sym codes) ∙ h.1 in
      let dark : IsSome {T = Pages} None = subst IsSome none (tells c within).0 in absurd (true≢false (sym dark)))
  | inr values ↦ (
      let none : a.told (values_of place c) ≡ None = sym (next_values place c a b kept) ∙ ap b.told (sym values) ∙ h.1 in
      let dark : IsSome {T = Pages} None = subst IsSome none (tells c within).1 in absurd (true≢false (sym dark)))
]
told_sink place slots c n part a b d NoMemory within kept tells h = tt

-- what a plan writes is at most what an append of so many rows may
pub most_written_within : (place slots c : ℕ) (old new : ColumnPart) (rows : List (List Value)) (seen : Seen) (plan : Plan) → 1 ≤ width old.kind → width old.kind ≤ 257 → IsColumnPlan place slots c old new rows seen plan → fps.pages_written plan.column plan.grown ≤ fps.most_written (fp_of 0 slots 0 old) (length rows)
most_written_within place slots c old new rows seen plan low high is =
    let some : 0 < per_page (width old.kind) = grind (arith, page_rows) in
    let longer : fps.IsLonger (fp_of place slots c old) plan.grown (length rows) = subst (λ (fp : Fp). fps.IsLonger fp plan.grown (length rows)) is.column is.longer in
    let within : fps.pages_written (fp_of place slots c old) plan.grown ≤ fps.most_written (fp_of place slots c old) (length rows) = written_within (fp_of place slots c old) plan.grown (length rows) some longer.slots longer.distinct longer.most in
    rw is.column within
