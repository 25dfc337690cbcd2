-- A table whose objects were made stands for no rows.
use Rattle.std.proofs.Common.{◌≡◌, ◌≢◌, ◌<◌, ◌≤◌, ℕ, ◌+◌, ◌*◌, ◌/◌, inl, inr, true, List, [], map, slice_index_or, Option, Some, None, IsSome, length, refl, sym, ap, ◌∙◌, arith}
use Rattle.std.specs.Prelude.{◌⊎◌}
use Rattle.std.specs.Option.{option_map}
use Rattle.std.proofs.lemmas.Bool.{cases_lt}
use Rattle.std.proofs.Math.Nat.{le-div_iff_mul-le}
use Rattle.iq_base.specs.Cells.{width}
use Rattle.iq_pages.specs.declared.page_faults.PageFault.{PageFault}
use Rattle.iq_pages.specs.declared.page_faults.PageFault.TheVariants.{Failed, BadPage, NoMemory}
use Rattle.iq_pages.specs.Pages.{Pages, Seen, HasCause}
use Rattle.iq_pages.proofs.PageLaws.{rose_since}
use Rattle.iq_pieces.specs.Counts.{per_page}
use Rattle.iq_pieces.specs.Objects.{HoldsObject}
use Rattle.iq_fp.specs.declared.fp.Fp.{Fp}
use Rattle.iq_fp.specs.Forms.{code_width}
use Rattle.iq_fp.specs.Stands.{Stands}
use Rattle.iq_table.specs.declared.table.Table.{Table}
use Rattle.iq_table.specs.Places.{new_part, existence_of, codes_of, values_of, part_at, fp_at}
use Rattle.iq_table.specs.Table.{TableStands}
use Rattle.std.proofs.lemmas.List.{length-map, get_or-map}
use Rattle.iq_base.specs.declared.values.Kind.TheVariants.{Int}
use Rattle.iq_base.specs.declared.schemas.Column.{Column}
use Rattle.iq_base.specs.declared.descriptors.ColumnPart.{ColumnPart}
use Rattle.iq_table.specs.Calls.{new_parts, IsUnused, TellsObjects, KeepsOtherTables, HasMakeCause}

-- the objects from one number on up to another have no pages, where they are told, and each other is as before
pub record AreMade (first behind : ℕ) (before after : Seen) : Type 0 where
  pub made : (object : ℕ) → first ≤ object → object < behind → after.told object ≡ option_map (λ (pages : Pages). []) (before.told object)
  pub told : (object : ℕ) → (object < first) ⊎ (behind ≤ object) → after.told object ≡ before.told object
  pub counts : (object : ℕ) → (object < first) ⊎ (behind ≤ object) → after.counts object ≡ before.counts object

pub made_none : (first : ℕ) (a : Seen) → AreMade first first a a
made_none first a = record {
  made = λ object l h. absurd (omega arith);
  told = λ object out. refl;
  counts = λ object out. refl;
}

-- one more
pub made_next : (first object : ℕ) (a b c : Seen) → first ≤ object → AreMade first object a b → c.told object ≡ option_map (λ (pages : Pages). []) (b.told object) → ((other : ℕ) → other ≢ object → c.told other ≡ b.told other) → ((other : ℕ) → other ≢ object → c.counts other ≡ b.counts other) → AreMade first (object + 1) a c
made_next first object a b c order m here told counts = record {
  made = λ other l h. elim (cases_lt other object) [
    | inl less ↦ told other (λ e. absurd (omega arith)) ∙ m.made other l less
    | inr on ↦ (
        let same : other ≡ object = omega arith in
        ap c.told same ∙ here ∙ ap (option_map (λ (pages : Pages). [])) (m.told object (inr (omega arith)) ∙ ap a.told (sym same)))
  ];
  told = λ other out. elim out [
    | inl low ↦ told other (λ e. absurd (omega arith)) ∙ m.told other (inl low)
    | inr high ↦ told other (λ e. absurd (omega arith)) ∙ m.told other (inr (omega arith))
  ];
  counts = λ other out. elim out [
    | inl low ↦ counts other (λ e. absurd (omega arith)) ∙ m.counts other (inl low)
    | inr high ↦ counts other (λ e. absurd (omega arith)) ∙ m.counts other (inr (omega arith))
  ];
}

-- an object of another place is outside
outside : (place n behind object : ℕ) → n ≤ 32 → behind ≤ 256 * place + 2 * n + 1 → object / 256 ≢ place → (object < 256 * place) ⊎ (behind ≤ object)
outside place n behind object few within other = elim (cases_lt object (256 * place)) [
  | inl low ↦ inl low
  | inr on ↦ elim (cases_lt object behind) [
    | inl inside ↦ absurd (other (omega arith))
    | inr past ↦ inr past
  ]
]

-- objects of other places are as before
pub made_others : (place n behind : ℕ) (a b : Seen) → n ≤ 32 → behind ≤ 256 * place + 2 * n + 1 → AreMade (256 * place) behind a b → KeepsOtherTables place a b
made_others place n behind a b few within m = record {
  told = λ object other. m.told object (outside place n behind object few within other);
  counts = λ object other. m.counts object (outside place n behind object few within other);
}

-- an object that was told has no pages once it was made
told_empty : (told told' : Option Pages) → told' ≡ option_map (λ (pages : Pages). []) told → IsSome told → told' ≡ Some []
told_empty None told' is some = absurd (cc)
told_empty (Some pages) told' is some = is

-- pieces that are none
none_held : (told : Option Pages) (w : ℕ) → told ≡ Some [] → 1 ≤ w → w ≤ 1008 → HoldsObject told w []
none_held told w is low high =
    let some : 1 ≤ per_page w = (le-div_iff_mul-le (omega arith)).1 (omega arith) in
    record {
      pages = [];
      told_is = is;
      holds = record { enough = omega arith; no_more = omega arith; held = λ p i h l. absurd (omega arith) };
    }

-- a column without values
none_stand : (fp : Fp) (told : ℕ → Option Pages) → fp.slots ≡ 0 → fp.distinct ≡ 0 → 1 ≤ width fp.kind → width fp.kind ≤ 257 → told fp.codes ≡ Some [] → told fp.values ≡ Some [] → Stands fp told []
none_stand fp told slots distinct low high codes values =
    let narrow : code_width fp.distinct ≡ 1 = ap code_width distinct in
    record {
      known = [];
      codes = [];
      slots = sym slots;
      distinct = sym distinct;
      few = omega (arith, distinct);
      numbered = record { long = refl; each = λ i h. absurd (omega (arith, h)); distinct = λ i j h l. absurd (omega (arith, l)); first = λ j h. absurd (omega (arith, h)) };
      of_kind = λ i h. absurd (omega (arith, h));
      codes_held = none_held (told fp.codes) (code_width fp.distinct) codes (omega (arith, narrow)) (omega (arith, narrow));
      values_held = none_held (told fp.values) (width fp.kind) values low (omega arith);
    }

-- so the table stands for no rows
pub made_stands : (table : Table) (a b : Seen) (behind : ℕ) → length table.parts.columns ≤ 32 → IsUnused table.parts → ((c : ℕ) → c < length table.parts.columns → 1 ≤ width (part_at c table.parts.columns).kind) → ((c : ℕ) → c < length table.parts.columns → width (part_at c table.parts.columns).kind ≤ 257) → behind ≡ 256 * table.place + 1 + 2 * length table.parts.columns → AreMade (256 * table.place) behind a b → TellsObjects a.told table → TableStands b.told table.place table.parts [] []
made_stands table a b behind few unused low high end m tells =
    let n = length table.parts.columns in
    let empty : (object : ℕ) → 256 * table.place ≤ object → object ≤ 256 * table.place + 2 * n → b.told object ≡ Some [] =
    λ object from to. told_empty (a.told object) (b.told object) (m.made object from (omega arith)) (tells object (from, to)) in
    record {
      few = few;
      slots = sym unused.slots;
      bits = sym unused.slots;
      shapes = λ r h. absurd (omega (arith, h));
      existence = record { pages = []; told_is = empty (existence_of table.place) (omega arith) (omega arith); count = refl; held = λ chunk h. absurd (omega (arith, h)) };
      columns = λ c h. none_stand (fp_at table.place table.parts c) b.told unused.slots (unused.distinct c h) (low c h) (high c h)
          (empty (codes_of table.place c) (omega arith) (omega arith)) (empty (values_of table.place c) (omega arith) (omega arith));
      forms = λ c h. unused.forms c h ∙ sym (ap code_width (unused.distinct c h));
    }

-- why an object isn't made
pub make_cause : (table : Table) (a b c : Seen) (object : ℕ) (fault : PageFault) → 256 * table.place ≤ object → object ≤ 256 * table.place + 2 * length table.parts.columns → b.told object ≡ a.told object → a.faults ≤ b.faults → HasCause object b c fault → HasMakeCause table a c fault
make_cause table a b c object (Failed x y) from to same later h = rose_since _ _ _ _ _ later h
make_cause table a b c object (BadPage named page) from to same later h = ((omega (arith, h.0), omega (arith, h.0)), ap a.told h.0 ∙ sym same ∙ h.1)
make_cause table a b c object NoMemory from to same later h = tt

-- a table that is new has no rows
pub unused_new : (name : List ℕ) (columns : List Column) → IsUnused (new_parts name columns)
unused_new name columns =
    let none : Column = record { name = []; kind = Int; null = true } in
    let at : (c : ℕ) → c < length (map new_part columns) → part_at c (map new_part columns) ≡ new_part (slice_index_or columns c none) =
    λ c h. get_or-map new_part columns c none (new_part none) (omega (arith, length-map columns new_part)) in
    record {
      slots = refl;
      distinct = λ c h. ap (λ (part : ColumnPart). part.distinct) (at c h);
      forms = λ c h. ap (λ (part : ColumnPart). part.form) (at c h);
    }
