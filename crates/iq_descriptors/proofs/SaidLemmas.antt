-- Descriptors that may be stored, as a test and as a record.
use Rattle.std.specs.Prelude.{◌≡◌, ℕ, Bool, true, false, List, length, nat_eq}
use Rattle.std.specs.Cmp.Lexicographic.{pointwise, same_text, other_text}
use Rattle.std.proofs.Common.{refl, sym}
use Rattle.std.proofs.lemmas.Bool.{and_parts, leb-true, le-leb}
use Rattle.iq_base.specs.declared.descriptors.Descriptor.{Descriptor}
use Rattle.iq_catalog.specs.Pages.{joined, descriptor_bytes, HasPages}
use Rattle.iq_catalog.specs.Storable.{slot_limit, IsStorable}
use Rattle.iq_catalog.proofs.Wholes.{bytes_back}
use Rattle.iq_descriptors.specs.Parts.{said_by, may_be_stored, is_descriptor}

pub test_of : (t : Descriptor) → IsStorable t → may_be_stored t ≡ true
unfolding may_be_stored
test_of t s =
    let name = s.name in
    let existence = s.existence in
    let columns = s.columns in
    let indexes = s.indexes in
    let column_names = s.column_names in
    let index_names = s.index_names in
    rw (
      name,
      le-leb t.slots (slot_limit t) s.slots,
      existence,
      le-leb 1 (length t.columns) s.some_column,
      le-leb (length t.columns) 32 s.few_columns,
      le-leb (length t.indexes) 32 s.few_indexes,
      columns,
      indexes,
      column_names,
      index_names,
    )
    refl

pub storable_of : (t : Descriptor) → may_be_stored t ≡ true → IsStorable t
unfolding may_be_stored
storable_of t may =
    let p9 = and_parts _ _ may in
    let p8 = and_parts _ _ p9.0 in
    let p7 = and_parts _ _ p8.0 in
    let p6 = and_parts _ _ p7.0 in
    let p5 = and_parts _ _ p6.0 in
    let p4 = and_parts _ _ p5.0 in
    let p3 = and_parts _ _ p4.0 in
    let p2 = and_parts _ _ p3.0 in
    let p1 = and_parts _ _ p2.0 in
    record {
      name = p1.0;
      slots = leb-true _ _ p1.1;
      existence = p2.1;
      some_column = leb-true _ _ p3.1;
      few_columns = leb-true _ _ p4.1;
      few_indexes = leb-true _ _ p5.1;
      columns = p6.1;
      indexes = p7.1;
      column_names = p8.1;
      index_names = p9.1;
    }

pub said_back : (t : Descriptor) (pages : List (List ℕ)) → IsStorable t → HasPages t pages → said_by pages ≡ t
unfolding said_by
said_back t pages s has = bytes_back t (joined pages) s has

same_bytes : (xs ys : List ℕ) → xs ≡ ys → pointwise nat_eq xs ys ≡ true
same_bytes xs ys same = is_true (pointwise nat_eq xs ys) (λ e. other_text xs ys e same)
  where
    is_true : (b : Bool) → ((false ≡ b) → ⊥) → b ≡ true
    is_true true never = refl
    is_true false never = absurd (never refl)

pub descriptor_pages : (t : Descriptor) (pages : List (List ℕ)) → IsStorable t → HasPages t pages → is_descriptor pages ≡ true
descriptor_pages t pages s has =
    let said : said_by pages ≡ t = said_back t pages s has in
    rw (said, test_of t s, same_bytes (joined pages) (descriptor_bytes t) has) refl

-- pages of no descriptor
pub no_descriptor_pages : (pages : List (List ℕ)) → ((t : Descriptor) → IsStorable t → ¬ (HasPages t pages)) → is_descriptor pages ≡ false
no_descriptor_pages pages none = by_tests (may_be_stored (said_by pages)) (pointwise nat_eq (joined pages) (descriptor_bytes (said_by pages))) refl refl
  where
    by_tests : (a b : Bool) → may_be_stored (said_by pages) ≡ a → pointwise nat_eq (joined pages) (descriptor_bytes (said_by pages)) ≡ b
        → is_descriptor pages ≡ false
    by_tests false b first second = rw first refl
    by_tests true false first second = rw (first, second) refl
    by_tests true true first second = absurd (none (said_by pages) (storable_of (said_by pages) first) (same_text (joined pages) (descriptor_bytes (said_by pages)) (sym second)))
