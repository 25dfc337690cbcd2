-- Rows that come behind those of a table.
use Rattle.std.proofs.Common.{◌≡◌, ◌≢◌, ◌<◌, ◌≤◌, ℕ, zero, suc, ◌+◌, ◌-◌, ◌*◌, ◌/◌, inl, inr, true, List, [], ◌++◌, Option, length, replicate, refl, sym, ap, ◌∙◌, subst, arith}
use Rattle.std.specs.Prelude.{◌⊎◌, IsSome}
use Rattle.std.proofs.lemmas.Bool.{cases_lt}
use Rattle.std.proofs.lemmas.List.{length-append, length-replicate, get_or_append_left, get_or-append-add, map-append}
use Rattle.iq_base.specs.declared.values.Value.{Value}
use Rattle.iq_base.specs.declared.descriptors.ColumnPart.{ColumnPart}
use Rattle.iq_pages.specs.declared.page_faults.PageFault.{PageFault}
use Rattle.iq_pages.specs.declared.page_faults.PageFault.TheVariants.{Failed, BadPage, NoMemory}
use Rattle.iq_pages.specs.Pages.{Pages, Seen, KeepsObjects}
use Rattle.iq_pages.proofs.PageLaws.{rose_since}
use Rattle.iq_pieces.specs.Counts.{KeepsOthers}
use Rattle.iq_cells.specs.Packed.{value_at}
use Rattle.iq_cells.specs.Tables.{row_at, column_of}
use Rattle.iq_chunks.specs.Chunks.{HoldsBits, AppendsOnes, LacksPage, HasBitsCause, chunks_changed}
use Rattle.iq_fp.specs.Stands.{Stands}
use Rattle.iq_fp.proofs.Growth.{more_still}
use Rattle.iq_table.proofs.Growth.{column_cause, plan_still}
use Rattle.iq_fp.specs.declared.plan.Plan.{Plan}
use Rattle.iq_pieces.specs.Faults as pieces
use Rattle.iq_table.specs.Plans.{ArePlans}
use Rattle.iq_table.specs.declared.table.Table.{Table}
use Rattle.iq_table.specs.Faults.{table_fault}
use Rattle.iq_table.specs.Places.{existence_of, codes_of, values_of, part_at, fp_of}
use Rattle.iq_table.specs.Table.{StandsForMore}
use Rattle.iq_table.specs.Calls.{HasGrown, ColumnsStandForMore, KeepsButColumns, KeepsButRows, KeepsOtherTables, TellsPlace, TellsColumns, IsNoBadPage, HasColumnsCause, HasWriteCause, HasAppendCause, columns_written, append_writes}

-- columns are as they were where only existence changed
pub codes_kept : (place c : ℕ) (a b d : Seen) → KeepsObjects a b → KeepsOthers (existence_of place) b d → d.told (codes_of place c) ≡ a.told (codes_of place c)
codes_kept place c a b d k o = o.told (codes_of place c) (λ e. absurd (omega (arith, e))) ∙ k.told (codes_of place c)

pub values_kept : (place c : ℕ) (a b d : Seen) → KeepsObjects a b → KeepsOthers (existence_of place) b d → d.told (values_of place c) ≡ a.told (values_of place c)
values_kept place c a b d k o = o.told (values_of place c) (λ e. absurd (omega (arith, e))) ∙ k.told (values_of place c)

-- and their plans hold on
pub plans_from : (place slots : ℕ) (old new : List ColumnPart) (rows : List (List Value)) (a b d : Seen) (plans : List Plan) → KeepsObjects a b → KeepsOthers (existence_of place) b d → ArePlans place slots old new rows a plans → ArePlans place slots old new rows d plans
plans_from place slots old new rows a b d plans k o are = record {
  long = are.long;
  each = λ c plan here. plan_still place slots c (part_at c old) (part_at c new) rows a d plan
      (codes_kept place c a b d k o) (values_kept place c a b d k o)
      (o.counts (codes_of place c) (λ e. absurd (omega (arith, e))) ∙ k.counts (codes_of place c))
      (o.counts (values_of place c) (λ e. absurd (omega (arith, e))) ∙ k.counts (values_of place c)) (are.each c plan here);
}

-- and they are told where they were
pub columns_told : (place n : ℕ) (a b d : Seen) → KeepsObjects a b → KeepsOthers (existence_of place) b d → TellsPlace a.told place n → TellsColumns d.told place n
columns_told place n a b d k o tells = λ c h. (
  subst IsSome (sym (codes_kept place c a b d k o)) (tells (codes_of place c) (omega arith, omega arith)),
  subst IsSome (sym (values_kept place c a b d k o)) (tells (values_of place c) (omega arith, omega arith)),
)

-- a fault that is no bad page finds none after the first page was written
pub none_first : (a b : Seen) (fault : PageFault) → IsNoBadPage fault → pieces.FindsBadFirst a b fault
none_first a b (Failed x y) h = tt
none_first a b (BadPage object page) h = absurd h
none_first a b NoMemory h = tt

-- so they stand for more than what they stood for before
pub columns_from : (n place slots slots' : ℕ) (old new : List ColumnPart) (rows : List (List Value)) (a b d : Seen) (after : ℕ → Option Pages) → KeepsObjects a b → KeepsOthers (existence_of place) b d → ColumnsStandForMore n place slots slots' old new rows d.told after → ColumnsStandForMore n place slots slots' old new rows a.told after
columns_from n place slots slots' old new rows a b d after k o p = λ c h.
    more_still (fp_of place slots c (part_at c old)) (fp_of place slots' c (part_at c new)) a.told d.told after (column_of c rows) (codes_kept place c a b d k o) (values_kept place c a b d k o) (p c h)

-- and a cause of theirs is one from before
pub columns_cause : (place slots : ℕ) (parts : List ColumnPart) (a b d f : Seen) (fault : PageFault) → KeepsObjects a b → KeepsOthers (existence_of place) b d → a.faults ≤ d.faults → HasColumnsCause place slots parts d f fault → HasColumnsCause place slots parts a f fault
columns_cause place slots parts a b d f (Failed x y) k o later h = rose_since _ _ _ _ _ later h
columns_cause place slots parts a b d f (BadPage object page) k o later h = column_cause place slots h.0 parts a d f (BadPage object page) h.1 (codes_kept place h.0 a b d k o) (values_kept place h.0 a b d k o) later h.2
columns_cause place slots parts a b d f NoMemory k o later h = tt

-- what existence and columns change
pub rows_keep : (place n : ℕ) (a b c : Seen) → KeepsOthers (existence_of place) a b → KeepsButColumns place n b c → KeepsButRows place n a c
rows_keep place n a b c o k = record {
  told = λ object out. elim out [
    | inl low ↦ k.told object (inl (omega arith)) ∙ o.told object (λ e. absurd (omega (arith, e)))
    | inr high ↦ k.told object (inr high) ∙ o.told object (λ e. absurd (omega (arith, e)))
  ];
  counts = λ object out. elim out [
    | inl low ↦ k.counts object (inl (omega arith)) ∙ o.counts object (λ e. absurd (omega (arith, e)))
    | inr high ↦ k.counts object (inr high) ∙ o.counts object (λ e. absurd (omega (arith, e)))
  ];
}

-- existence alone
pub existence_alone : (place n : ℕ) (a b : Seen) → KeepsOthers (existence_of place) a b → KeepsButRows place n a b
existence_alone place n a b o = record {
  told = λ object out. elim out [ inl low ↦ o.told object (λ e. absurd (omega (arith, e))) | inr high ↦ o.told object (λ e. absurd (omega (arith, e))) ];
  counts = λ object out. elim out [ inl low ↦ o.counts object (λ e. absurd (omega (arith, e))) | inr high ↦ o.counts object (λ e. absurd (omega (arith, e))) ];
}

-- what is kept where all was before
pub kept_before : (place n : ℕ) (a b c : Seen) → KeepsObjects a b → KeepsButRows place n b c → KeepsButRows place n a c
kept_before place n a b c k r = record { told = λ object out. r.told object out ∙ k.told object; counts = λ object out. r.counts object out ∙ k.counts object }

-- an object of another place is outside
outside : (place n object : ℕ) → n ≤ 32 → object / 256 ≢ place → (object < 256 * place) ⊎ (256 * place + 2 * n < object)
outside place n object few other = elim (cases_lt object (256 * place)) [
  | inl low ↦ inl low
  | inr on ↦ elim (cases_lt (256 * place + 2 * n) object) [
    | inl past ↦ inr past
    | inr inside ↦ absurd (other (omega arith))
  ]
]

pub others_keep : (place n : ℕ) (a b : Seen) → n ≤ 32 → KeepsButRows place n a b → KeepsOtherTables place a b
others_keep place n a b few k = record {
  told = λ object other. k.told object (outside place n object few other);
  counts = λ object other. k.counts object (outside place n object few other);
}

-- causes of the two parts of an append
pub write_cause_columns : (place slots : ℕ) (parts : List ColumnPart) (a b : Seen) (fault : PageFault) → HasColumnsCause place slots parts a b fault → HasWriteCause place slots parts a b fault
write_cause_columns place slots parts a b (Failed x y) h = h
write_cause_columns place slots parts a b (BadPage object page) h = inr h
write_cause_columns place slots parts a b NoMemory h = tt

pub write_cause_bits : (place slots : ℕ) (parts : List ColumnPart) (a b c : Seen) (fault : PageFault) → b.told (existence_of place) ≡ a.told (existence_of place) → a.faults ≤ b.faults → HasBitsCause (existence_of place) slots b c fault → HasWriteCause place slots parts a c fault
write_cause_bits place slots parts a b c (Failed x y) same later h = rose_since _ _ _ _ _ later h
write_cause_bits place slots parts a b c (BadPage object page) same later h = inl (h.0, subst (λ (o : Option Pages). LacksPage o slots page) same h.1)
write_cause_bits place slots parts a b c NoMemory same later h = tt

-- as a fault of the table
pub append_cause : (table : Table) (more : ℕ) (a b : Seen) (fault : PageFault) → HasWriteCause table.place table.parts.slots table.parts.columns a b fault → HasAppendCause table more a b (table_fault fault)
append_cause table more a b (Failed x y) h = h
append_cause table more a b (BadPage object page) h = h
append_cause table more a b NoMemory h = tt

-- how many pages are written where there are rows
pub writes_some : (old new : Table) (more : ℕ) → 0 < more → append_writes old new more ≡ columns_written old.parts.slots new.parts.slots old.parts.columns new.parts.columns + chunks_changed old.parts.slots more
writes_some old new zero h = absurd (omega arith)
writes_some old new (suc more) h = refl

-- a row among rows and more
row_before : (rows more : List (List Value)) (r : ℕ) → r < length rows → row_at r (rows ++ more) ≡ row_at r rows
row_before rows more r h = get_or_append_left rows more [] r h

row_behind : (rows more : List (List Value)) (r : ℕ) → length rows ≤ r → row_at r (rows ++ more) ≡ row_at (r - length rows) more
row_behind rows more r h =
    let place : length rows + (r - length rows) ≡ r = omega arith in
    ap (λ (k : ℕ). row_at k (rows ++ more)) (sym place) ∙ get_or-append-add rows more (r - length rows) []

-- so the table stands for more rows
pub table_more : (old new : Table) (more : List (List Value)) (before after : ℕ → Option Pages) → HasGrown old new (length more) → ((r : ℕ) → r < length more → length (row_at r more) ≡ length old.parts.columns) → ColumnsStandForMore (length old.parts.columns) old.place old.parts.slots new.parts.slots old.parts.columns new.parts.columns more before after → AppendsOnes old.parts.slots (length more) (before (existence_of old.place)) (after (existence_of old.place)) → StandsForMore old new more before after
table_more old new more before after grown wide columns bits = λ rows alive s.
    let n = length more in
    let place : new.place ≡ old.place = ap (λ (t : Table). t.place) grown.rest in
    let long : length new.parts.columns ≡ length old.parts.columns = grown.columns.long in
    record {
      few = omega (arith, long, s.few);
      slots = length-append rows more ∙ (omega (arith, s.slots, grown.slots));
      bits = length-append alive (replicate n true) ∙ (omega (arith, s.bits, grown.slots, length-replicate n true));
      shapes = λ r h. elim (cases_lt r (length rows)) [
        | inl less ↦ ap length (row_before rows more r less) ∙ s.shapes r less ∙ sym long
        | inr from ↦ ap length (row_behind rows more r from) ∙ wide (r - length rows) (omega (arith, length-append rows more)) ∙ sym long
      ];
      existence = subst (λ (p : ℕ). HoldsBits (after (existence_of p)) (alive ++ replicate n true)) (sym place) (bits alive s.bits s.existence);
      columns = λ c h. (
          let within : c < length old.parts.columns = omega (arith, long) in
          let stands : Stands (fp_of old.place new.parts.slots c (part_at c new.parts.columns)) after (column_of c rows ++ column_of c more) = columns c within (column_of c rows) (s.columns c within) in
          let joined : Stands (fp_of old.place new.parts.slots c (part_at c new.parts.columns)) after (column_of c (rows ++ more)) = subst (λ (vs : List Value). Stands (fp_of old.place new.parts.slots c (part_at c new.parts.columns)) after vs) (sym (map-append (value_at c) rows more)) stands in
          subst (λ (p : ℕ). Stands (fp_of p new.parts.slots c (part_at c new.parts.columns)) after (column_of c (rows ++ more))) (sym place) joined);
      forms = λ c h. (let within : c < length old.parts.columns = omega (arith, long) in (grown.columns.each c within).form (s.forms c within));
    }
