-- Values that are numbered behind NULL and the distinct ones.
use Rattle.std.proofs.Common.{◌≡◌, ◌<◌, ◌≤◌, ◌+◌, ◌-◌, ◌*◌, ◌/◌, ℕ, inl, inr, List, [], ◌∷◌, ◌++◌, Option, IfSome, length, slice_index, sym, ap, ◌∙◌, subst, arith}
use Rattle.std.proofs.lemmas.Bool.{cases_lt}
use Rattle.std.proofs.lemmas.Nat.{div_below}
use Rattle.std.proofs.lemmas.List.{length-append, length-map, get_or_append_left, get_or-append-add}
use Rattle.iq_base.specs.declared.values.Value.{Value}
use Rattle.iq_base.specs.declared.values.Value.TheVariants.{Null}
use Rattle.iq_base.specs.Cells.{width, cell}
use Rattle.iq_pages.specs.declared.page_faults.PageFault.{PageFault}
use Rattle.iq_pages.specs.declared.page_faults.PageFault.TheVariants.{Failed, BadPage, NoMemory}
use Rattle.iq_pages.specs.Pages.{Pages, Seen}
use Rattle.iq_cells.specs.Packed.{value_at}
use Rattle.iq_numbering.specs.Numbers.{AreDistinct, IsAt, IsNumbered, HasNumbered, AreNew}
use Rattle.iq_pieces.specs.Counts.{per_page}
use Rattle.iq_pieces.specs.Codes.{AreBelow}
use Rattle.iq_lf.specs.declared.lf.Lf.{Lf}
use Rattle.iq_lf.specs.Stands.{Stands}
use Rattle.iq_lf.specs.Calls.{AreKnown, HasLfCause, HasRepeatCause, HasTooMany, StandsForNone}

-- what stands among values stands there too where more come
at_more : (vs more : List Value) (place : ℕ) (v : Value) → IsAt vs place v → IsAt (vs ++ more) place v
at_more vs more place v a = record {
  within = omega (arith, a.within, length-append vs more);
  there = get_or_append_left vs more Null place a.within ∙ a.there;
}

-- a list of values and one behind it are numbered as one
pub numbered_more : (values cells known new : List Value) (codes more : List ℕ) → IsNumbered (Null ∷ []) values known codes → IsNumbered (Null ∷ known) cells new more → IsNumbered (Null ∷ []) (values ++ cells) (known ++ new) (codes ++ more)
numbered_more values cells known new codes more p q = record {
  long = omega (arith, p.long, q.long, length-append codes more, length-append values cells);
  each = λ i h. elim (cases_lt i (length values)) [
    | inl less ↦ (
        let code : slice_index (codes ++ more) i ≡ slice_index codes i = get_or_append_left codes more 0 i (omega (arith, p.long)) in
        let value : value_at i (values ++ cells) ≡ value_at i values = get_or_append_left values cells Null i less in
        rw (code, value) (at_more (Null ∷ known) new (slice_index codes i) (value_at i values) (p.each i less)))
    | inr from ↦ (
        let k : length values + (i - length values) ≡ i = omega arith in
        let within : i - length values < length cells = omega (arith, length-append values cells) in
        let code : slice_index (codes ++ more) i ≡ slice_index more (i - length values) =
        ap (slice_index (codes ++ more)) (sym k ∙ ap (λ (n : ℕ). n + (i - length values)) (sym p.long)) ∙ get_or-append-add codes more (i - length values) 0 in
        let value : value_at i (values ++ cells) ≡ value_at (i - length values) cells =
        ap (λ (n : ℕ). value_at n (values ++ cells)) (sym k) ∙ get_or-append-add values cells (i - length values) Null in
        rw (code, value) (q.each (i - length values) within))
  ];
  distinct = q.distinct;
  first = λ j h. elim (cases_lt j (length known)) [
    | inl less ↦ (
        let f = p.first j less in
        record {
          at = f.at;
          within = omega (arith, f.within, length-append codes more);
          here = get_or_append_left codes more 0 f.at f.within ∙ f.here;
          before = λ k l. (let e = get_or_append_left codes more 0 k (omega (arith, f.within)) in rw e (f.before k l));
        })
    | inr from ↦ (
        let f = q.first (j - length known) (omega (arith, length-append known new)) in
        record {
          at = length codes + f.at;
          within = omega (arith, f.within, length-append codes more);
          here = get_or-append-add codes more f.at 0 ∙ f.here ∙ (omega arith);
          before = λ k l. elim (cases_lt k (length codes)) [
            | inl early ↦ (let e = get_or_append_left codes more 0 k early in let a = p.each k (omega (arith, p.long)) in rw e (omega (arith, a.within)))
            | inr late ↦ (
                let m : length codes + (k - length codes) ≡ k = omega arith in
                let e : slice_index (codes ++ more) k ≡ slice_index more (k - length codes) = ap (slice_index (codes ++ more)) (sym m) ∙ get_or-append-add codes more (k - length codes) 0 in
                let b = f.before (k - length codes) (omega arith) in
                rw e (omega arith))
          ];
        })
  ];
}

-- the new values are those that the numbering found
pub found_are : (all cells found : List Value) (known count : ℕ) (codes : List ℕ) → length all ≡ known → HasNumbered all cells count codes → AreNew known cells codes found → (IsNumbered all cells found codes) × (length found ≡ count)
found_are all cells found known count codes long n new =
    let e : found ≡ n.new = new all n.new long n.numbered in
    (subst (λ (vs : List Value). IsNumbered all cells vs codes) (sym e) n.numbered, ap length e ∙ n.many)

-- their codes are below the number of all, with NULL
pub codes_below : (known cells found : List Value) (codes : List ℕ) → IsNumbered (Null ∷ known) cells found codes → AreBelow codes (length known + length found + 1)
codes_below known cells found codes n = λ k h. let a = n.each k (omega (arith, n.long, h)) in omega (arith, a.within, length-append known found)

-- too many
pub too_many : (lf : Lf) (told : ℕ → Option Pages) (read cells : List Value) (count : ℕ) (codes : List ℕ) → length read ≡ lf.distinct → AreKnown lf told read → HasNumbered (Null ∷ read) cells count codes → 1000 < length read + count
    → (values : List Value) → Stands lf told values → HasTooMany (values ++ cells)
too_many lf told read cells count codes long known n many = λ values stands.
    let same : read ≡ stands.known = known values stands in
    let numbered : IsNumbered (Null ∷ stands.known) cells n.new codes = subst (λ (vs : List Value). IsNumbered (Null ∷ vs) cells n.new codes) same n.numbered in
    record {
      known = stands.known ++ n.new;
      codes = stands.codes ++ codes;
      numbered = numbered_more values cells stands.known n.new stands.codes codes stands.numbered numbered;
      many = omega (arith, many, n.many, length-append stands.known n.new, ap length same);
    }

-- values of which one stands twice are none of an index
pub repeat_cause : (lf : Lf) (a b : Seen) (read : List Value) (fault : PageFault) → AreKnown lf a.told read → HasRepeatCause lf.first read fault → HasLfCause lf a b fault
repeat_cause lf a b read (Failed x y) known h = absurd h
repeat_cause lf a b read (BadPage named page) known h = (inl h.0, λ values stands. h.1 (subst (λ (vs : List Value). AreDistinct (Null ∷ vs)) (sym (known values stands)) stands.numbered.distinct))
repeat_cause lf a b read NoMemory known h = tt

-- nor are those of an object that lacks a page of them
pub short_cause : (lf : Lf) (told : ℕ → Option Pages) (have : ℕ) → 0 < per_page (width lf.kind) → IfSome (told lf.first) (λ pages. length pages ≡ have) → have < lf.distinct / per_page (width lf.kind) → StandsForNone lf told
short_cause lf told have some many less = λ values stands.
    let h = stands.values_held in
    let per = per_page (width lf.kind) in
    let size : length h.pages ≡ have = rw h.told_is at many in
    let pieces = length-map stands.known (cell lf.kind) in
    let enough : lf.distinct ≤ per * length h.pages = omega (arith, h.holds.enough, pieces, stands.distinct) in
    let room : lf.distinct ≤ per * have = rw size at enough in
    let next : (have + 1) * per ≡ per * have + per = omega arith in
    let below = div_below lf.distinct per (have + 1) some (omega (arith, room, next, some)) in
    omega (arith, below, less)
