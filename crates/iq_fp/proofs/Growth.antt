-- A column goes on with more values.
use Rattle.std.proofs.Common.{◌≡◌, ◌≢◌, ◌<◌, ◌≤◌, ◌^◌, ℕ, ◌+◌, ◌-◌, ◌*◌, ◌/◌, ◌%◌, inl, inr, List, [], ◌++◌, map, take, drop, Option, length, slice_index, zero-add, Bool, true, false, nat_eq, eq-eqb, if◌then◌else◌, refl, sym, ap, ap₂, ◌∙◌, subst, arith}
use Rattle.iq_pages.specs.declared.page_faults.PageFault.{PageFault}
use Rattle.std.proofs.lemmas.Bool.{cases_lt}
use Rattle.std.proofs.Math.Seq.{drop-append_seam}
use Rattle.std.proofs.lemmas.List.{length-append, length-drop, take_all, length-map, map-append, get_or_append_left, get_or-append-add, get_or-map, ext_get_or}
use Rattle.byteorder.specs.Endian.{little_bytes}
use Rattle.iq_base.specs.declared.values.Kind.{Kind}
use Rattle.iq_base.specs.declared.values.Value.{Value}
use Rattle.iq_base.specs.declared.values.Value.TheVariants.{Null}
use Rattle.iq_base.specs.Cells.{width, cell, IsCell}
use Rattle.iq_pages.specs.declared.page_faults.PageFault.TheVariants.{Failed, BadPage, NoMemory}
use Rattle.iq_pages.specs.Pages.{Pages, Seen}
use Rattle.iq_pieces.specs.Faults.{HasBehindCause}
use Rattle.std.proofs.lemmas.Bool.Decides.{nat_tests, eqb_tells}
use Rattle.iq_cells.specs.Pieces.{piece_in}
use Rattle.iq_cells.specs.Packed.{value_at}
use Rattle.iq_numbering.specs.Numbers.{AreDistinct, IsAt, IsNumbered, HasNumbered, AreNew}
use Rattle.iq_pieces.specs.Counts.{per_page, pages_changed}
use Rattle.iq_pieces.specs.Codes.{AreBelow}
use Rattle.iq_pieces.specs.Objects.{piece_at, HoldsObject, BeginsAs, LoadsLast, AppendsBehind}
use Rattle.iq_fp.specs.declared.fp.Fp.{Fp}
use Rattle.iq_fp.specs.Forms.{code_width}
use Rattle.iq_fp.specs.Stands.{Stands, HaveCells}
use Rattle.iq_fp.specs.declared.plan.Plan.{Plan}
use Rattle.iq_fp.specs.Calls.{HasReadCause, AreKnown, StandsForMore, StandsForNone, AreCodesOf, AreValuesOf, pages_written, codes_written}
use Rattle.iq_fp.specs.Plans.{KeepsForm, EndsIn, AreNumbered, ArePlanned, IsPlanFor, WritesCodes}

-- what stands among values stands there too where more come
at_more : (vs more : List Value) (place : ℕ) (v : Value) → IsAt vs place v → IsAt (vs ++ more) place v
at_more vs more place v a = record {
  within = omega (arith, a.within, length-append vs more);
  there = get_or_append_left vs more Null place a.within ∙ a.there;
}

-- a list of values and one behind it are numbered as one
pub numbered_on : (values cells known new : List Value) (codes more : List ℕ) → IsNumbered [] values known codes → IsNumbered known cells new more → IsNumbered [] (values ++ cells) (known ++ new) (codes ++ more)
numbered_on values cells known new codes more p q = record {
  long = omega (arith, p.long, q.long, length-append codes more, length-append values cells);
  each = λ i h. elim (cases_lt i (length values)) [
    | inl less ↦ (
        let code : slice_index (codes ++ more) i ≡ slice_index codes i = get_or_append_left codes more 0 i (omega (arith, p.long)) in
        let value : value_at i (values ++ cells) ≡ value_at i values = get_or_append_left values cells Null i less in
        rw (code, value) (at_more known new (slice_index codes i) (value_at i values) (p.each i less)))
    | inr from ↦ (
        let k : length values + (i - length values) ≡ i = omega arith in
        let within : i - length values < length cells = omega (arith, length-append values cells) in
        let code : slice_index (codes ++ more) i ≡ slice_index more (i - length values) =
        ap (slice_index (codes ++ more)) (sym k ∙ ap (λ (n : ℕ). n + (i - length values)) (sym p.long)) ∙ get_or-append-add codes more (i - length values) 0 in
        let value : value_at i (values ++ cells) ≡ value_at (i - length values) cells =
        ap (λ (n : ℕ). value_at n (values ++ cells)) (sym k) ∙ get_or-append-add values cells (i - length values) Null in
        rw (code, value) (q.each (i - length values) within))
  ];
  distinct = q.distinct;
  first = λ j h. elim (cases_lt j (length known)) [
    | inl less ↦ (
        let f = p.first j less in
        record {
          at = f.at;
          within = omega (arith, f.within, length-append codes more);
          here = get_or_append_left codes more 0 f.at f.within ∙ f.here;
          before = λ k l. (let e = get_or_append_left codes more 0 k (omega (arith, f.within)) in rw e (f.before k l));
        })
    | inr from ↦ (
        let f = q.first (j - length known) (omega (arith, length-append known new)) in
        record {
          at = length codes + f.at;
          within = omega (arith, f.within, length-append codes more);
          here = get_or-append-add codes more f.at 0 ∙ f.here ∙ (omega arith);
          before = λ k l. elim (cases_lt k (length codes)) [
            | inl early ↦ (let e = get_or_append_left codes more 0 k early in let a = p.each k (omega (arith, p.long)) in rw e (omega (arith, a.within)))
            | inr late ↦ (
                let m : length codes + (k - length codes) ≡ k = omega arith in
                let e : slice_index (codes ++ more) k ≡ slice_index more (k - length codes) = ap (slice_index (codes ++ more)) (sym m) ∙ get_or-append-add codes more (k - length codes) 0 in
                let b = f.before (k - length codes) (omega arith) in
                rw e (omega arith))
          ];
        })
  ];
}

-- codes of rows and of more are below the greater number of distinct values
more_below : (known cells new : List Value) (more : List ℕ) → IsNumbered known cells new more → AreBelow more (length known + length new)
more_below known cells new more q = λ k h. let a = q.each k (omega (arith, q.long)) in omega (arith, a.within, length-append known new)

-- values with cells, and more of them
pub cells_on : (kind : Kind) (xs ys : List Value) → HaveCells kind xs → HaveCells kind ys → HaveCells kind (xs ++ ys)
cells_on kind xs ys p q = λ i h. elim (cases_lt i (length xs)) [
  | inl less ↦ (let e = get_or_append_left xs ys Null i less in rw e (p i less))
  | inr from ↦ (
      let k : length xs + (i - length xs) ≡ i = omega arith in
      let e : value_at i (xs ++ ys) ≡ value_at (i - length xs) ys = ap (λ (n : ℕ). value_at n (xs ++ ys)) (sym k) ∙ get_or-append-add xs ys (i - length xs) Null in
      rw e (q (i - length xs) (omega (arith, length-append xs ys))))
]

-- a page that was filled with the last values begins as the last page does
pub last_begins : (kind : Kind) (vs : List Value) (page : List ℕ) (count first : ℕ) → 0 < per_page (width kind) → length vs ≡ count → first ≡ count % per_page (width kind) → ((k : ℕ) → k < first → IsCell kind (value_at (count - first + k) vs) (piece_in (width kind) page (0 + k))) → BeginsAs (width kind) count page (map (cell kind) vs)
last_begins kind vs page count first some long is here = λ j h.
    let per = per_page (width kind) in
    let whole : per * (count / per) + count % per ≡ count = omega arith in
    let place : count - first + j ≡ per * (count / per) + j = omega arith in
    let within : count - first + j < length vs = omega arith in
    let early : j < first = omega arith in
    ap (piece_in (width kind) page) (sym (zero-add j)) ∙ sym (here j early).bytes_are
    ∙ sym (get_or-map (cell kind) vs (count - first + j) Null [] within) ∙ ap (λ (i : ℕ). piece_at i (map (cell kind) vs)) place

-- codes behind those of the rows, in one form
codes_behind : (plan : Plan) (before after : ℕ → Option Pages) (more : List ℕ) → KeepsForm plan.column plan.grown → ArePlanned plan.column plan.grown before more plan.codes.items plan.last_codes → WritesCodes plan (before plan.column.codes) (after plan.column.codes) → (values : List Value) (stands : Stands plan.column before values) → HoldsObject (after plan.column.codes) (code_width plan.grown.distinct) (map (little_bytes (code_width plan.grown.distinct)) (stands.codes ++ more))
codes_behind plan before after more same planned writes values stands =
    let w = code_width plan.column.distinct in
    let pieces = map (little_bytes w) stands.codes in
    let long : length pieces ≡ plan.column.slots = length-map stands.codes (little_bytes w) ∙ stands.numbered.long ∙ stands.slots in
    let whole : HoldsObject (after plan.column.codes) w (pieces ++ map (little_bytes w) plan.codes.items) = writes.behind same pieces long (planned.last same pieces long stands.codes_held) stands.codes_held in
    let put : HoldsObject (after plan.column.codes) w (pieces ++ map (little_bytes w) more) = rw (planned.same same) at whole in
    let joined : HoldsObject (after plan.column.codes) w (map (little_bytes w) (stands.codes ++ more)) = rw (map-append (little_bytes w) stands.codes more) put in
    rw same joined

-- all codes anew, in a wider form
codes_anew : (plan : Plan) (before after : ℕ → Option Pages) (more : List ℕ) → code_width plan.grown.distinct ≢ code_width plan.column.distinct → ArePlanned plan.column plan.grown before more plan.codes.items plan.last_codes → WritesCodes plan (before plan.column.codes) (after plan.column.codes) → (values : List Value) (stands : Stands plan.column before values) → HoldsObject (after plan.column.codes) (code_width plan.grown.distinct) (map (little_bytes (code_width plan.grown.distinct)) (stands.codes ++ more))
codes_anew plan before after more other planned writes values stands =
    let w = code_width plan.grown.distinct in
    let whole : HoldsObject (after plan.column.codes) w (map (little_bytes w) plan.codes.items) = writes.anew other stands.codes_held.pages stands.codes_held.told_is in
    rw (planned.all other values stands) at whole

codes_hold : (plan : Plan) (before after : ℕ → Option Pages) (more : List ℕ) → ArePlanned plan.column plan.grown before more plan.codes.items plan.last_codes → WritesCodes plan (before plan.column.codes) (after plan.column.codes) → (values : List Value) (stands : Stands plan.column before values) → HoldsObject (after plan.column.codes) (code_width plan.grown.distinct) (map (little_bytes (code_width plan.grown.distinct)) (stands.codes ++ more))
codes_hold plan before after more planned writes values stands = elim (eqb_tells (code_width plan.grown.distinct) (code_width plan.column.distinct)) [
  | inl same ↦ codes_behind plan before after more same.1 planned writes values stands
  | inr other ↦ codes_anew plan before after more other.1 planned writes values stands
]

-- the new ones of values with cells have cells
cells_new : (kind : Kind) (known cells new : List Value) (more : List ℕ) → HaveCells kind cells → IsNumbered known cells new more → HaveCells kind new
cells_new kind known cells new more h n = λ j l.
    let first = n.first j l in
    let within : first.at < length cells = omega (arith, first.within, n.long) in
    let at = n.each first.at within in
    let same : value_at first.at cells ≡ value_at j new =
    sym at.there ∙ ap (λ (p : ℕ). value_at p (known ++ new)) first.here ∙ get_or-append-add known new j Null in
    subst (λ (v : Value). IsCell kind v (cell kind v)) same (h first.at within)

-- values that were numbered behind the known ones, which were read
pub are_numbered : (old : Fp) (told : ℕ → Option Pages) (known cells : List Value) (kind kind' : Kind) (count : ℕ) (more page : List ℕ) → kind ≡ old.kind → kind' ≡ old.kind → length known ≡ old.distinct → AreKnown old told known → HaveCells kind' cells → HasNumbered known cells count more → BeginsAs (width kind) (length known) page (map (cell kind) known) → AreNumbered old told cells (old.distinct + count) more page
are_numbered old told known cells kind kind' count more page same same' long are have n begins = record {
  known = known;
  fresh = n.new;
  many = ap (λ (m : ℕ). old.distinct + m) (sym n.many);
  long = long;
  known_are = are;
  of_kind = subst (λ (k : Kind). HaveCells k n.new) same' (cells_new kind' known cells n.new more have n.numbered);
  numbered = n.numbered;
  last = rw (same, long) at begins;
}

-- their codes are below the number of all of them
pub numbered_below : (distinct count : ℕ) (known cells : List Value) (more : List ℕ) → length known ≡ distinct → HasNumbered known cells count more → AreBelow more (distinct + count)
numbered_below distinct count known cells more long n = rw (← long, ← n.many) (more_below known cells n.new more n.numbered)

-- what is put behind a list stands last
pub ends_in : (codes more : List ℕ) → EndsIn more (codes ++ more)
ends_in codes more =
    let count : length (codes ++ more) - length more ≡ length codes = omega (arith, length-append codes more) in
    rw (count, drop-append_seam) refl

-- the codes of the values that a plan was made for stand last among its codes
pub plan_ends : (plan : Plan) (told : ℕ → Option Pages) (cells : List Value) (is : IsPlanFor told cells plan) → drop (length plan.codes.items - length cells) plan.codes.items ≡ is.more
plan_ends plan told cells is = ap (λ (n : ℕ). drop (length plan.codes.items - n) plan.codes.items) (sym is.numbered.numbered.long) ∙ is.codes.ends

-- so there are no fewer codes than values
pub plan_many : (plan : Plan) (told : ℕ → Option Pages) (cells : List Value) → IsPlanFor told cells plan → length cells ≤ length plan.codes.items
plan_many plan told cells is =
    let left = length-drop (length plan.codes.items - length cells) plan.codes.items in
    let ends = ap (λ (codes : List ℕ). length codes) (plan_ends plan told cells is) in
    omega (arith, left, ends, is.numbered.numbered.long)

-- and no more values than a column may have
pub plan_few : (plan : Plan) (told : ℕ → Option Pages) (cells : List Value) → IsPlanFor told cells plan → length cells ≤ 256 ^ 3
plan_few plan told cells is = omega (arith, is.slots, plan.fits.rows)

-- the new values that these codes tell are those of the plan
pub fresh_is : (plan : Plan) (told : ℕ → Option Pages) (cells found : List Value) (is : IsPlanFor told cells plan) → AreNew plan.column.distinct cells (drop (length plan.codes.items - length cells) plan.codes.items) found → found ≡ is.numbered.fresh
fresh_is plan told cells found is new = new is.numbered.known is.numbered.fresh is.numbered.long (rw (plan_ends plan told cells is) is.numbered.numbered)

-- so they are as many as the column grows by
pub fresh_many : (plan : Plan) (told : ℕ → Option Pages) (cells found : List Value) → IsPlanFor told cells plan → AreNew plan.column.distinct cells (drop (length plan.codes.items - length cells) plan.codes.items) found → plan.grown.distinct ≡ plan.column.distinct + length found
fresh_many plan told cells found is new = is.numbered.many ∙ ap (λ (vs : List Value). plan.column.distinct + length vs) (sym (fresh_is plan told cells found is new))

-- how many of values, and so of both
pages_both : (old new : Fp) (kind : Kind) (f : ℕ) → kind ≡ old.kind → new.distinct ≡ old.distinct + f → pages_written old new ≡ pages_changed (width kind) old.distinct f + codes_written old new
pages_both old new kind f ek ed =
    let fresh : new.distinct - old.distinct ≡ f = omega arith in
    ap₂ (λ (k : Kind) (n : ℕ). pages_changed (width k) old.distinct n + codes_written old new) (sym ek) fresh

-- so the pages of values that are written are those of the new ones
pub fresh_pages : (plan : Plan) (told : ℕ → Option Pages) (cells found : List Value) (kind : Kind) → IsPlanFor told cells plan → AreNew plan.column.distinct cells (drop (length plan.codes.items - length cells) plan.codes.items) found → kind ≡ plan.column.kind → pages_written plan.column plan.grown ≡ pages_changed (width kind) plan.column.distinct (length (map (cell kind) found)) + codes_written plan.column plan.grown
fresh_pages plan told cells found kind is new same =
    pages_both plan.column plan.grown kind (length (map (cell kind) found)) same
    (fresh_many plan told cells found is new ∙ ap (λ (n : ℕ). plan.column.distinct + n) (sym (length-map found (cell kind))))

-- a list that is cut behind its last element stays
pub new_of_rest : (known : ℕ) (values found : List Value) (codes : List ℕ) (first n : ℕ) → length codes ≤ n + first → AreNew known values (take n (drop first codes)) found → AreNew known values (drop first codes) found
new_of_rest known values found codes first n h new = subst (λ (xs : List ℕ). AreNew known values xs found) (take_all n (drop first codes) (omega (arith, length-drop first codes))) new

-- a plan that was written makes its column stand for more values
pub plan_stands : (plan : Plan) (before after : ℕ → Option Pages) (cells fresh : List Value) (kind : Kind) (is : IsPlanFor before cells plan) → kind ≡ plan.column.kind → fresh ≡ is.numbered.fresh → AppendsBehind (width kind) plan.column.distinct plan.last_values (map (cell kind) fresh) (before plan.column.values) (after plan.column.values) → WritesCodes plan (before plan.column.codes) (after plan.column.codes) → StandsForMore plan.column plan.grown cells before after
plan_stands plan before after cells fresh kind is kind_is fresh_are wrote writes = λ values stands.
    let old = plan.column in
    let fits = plan.fits in
    let numbered = is.numbered in
    let new = numbered.fresh in
    let known : numbered.known ≡ stands.known = numbered.known_are values stands in
    let behind : AppendsBehind (width old.kind) old.distinct plan.last_values (map (cell old.kind) new) (before old.values) (after old.values) = rw (kind_is, fresh_are) at wrote in
    let begins : BeginsAs (width old.kind) old.distinct plan.last_values (map (cell old.kind) stands.known) = rw known at numbered.last in
    let held : HoldsObject (after old.values) (width old.kind) (map (cell old.kind) stands.known ++ map (cell old.kind) new) =
    behind (map (cell old.kind) stands.known) (length-map stands.known (cell old.kind) ∙ stands.distinct) begins stands.values_held in
    let joined : HoldsObject (after old.values) (width old.kind) (map (cell old.kind) (stands.known ++ new)) = rw (map-append (cell old.kind) stands.known new) held in
    let numbers : IsNumbered stands.known cells new is.more = rw known at numbered.numbered in
    record {
      known = stands.known ++ new;
      codes = stands.codes ++ is.more;
      slots = length-append values cells ∙ (omega (arith, stands.slots, is.slots));
      distinct = length-append stands.known new ∙ (omega (arith, stands.distinct, numbered.many));
      few = fits.few;
      numbered = numbered_on values cells stands.known new stands.codes is.more stands.numbered numbers;
      of_kind = rw fits.objects.kind (cells_on old.kind stands.known new stands.of_kind numbered.of_kind);
      codes_held = rw fits.objects.codes (codes_hold plan before after is.more is.codes writes values stands);
      values_held = rw (fits.objects.values, fits.objects.kind) joined;
    }

-- why the last page of codes isn't read
pub behind_cause : (fp : Fp) (a b : Seen) (fault : PageFault) → HasBehindCause (code_width fp.distinct) fp.slots fp.codes a b fault → HasReadCause fp a b fault
behind_cause fp a b (Failed x y) h = h
behind_cause fp a b (BadPage named page) h = inl (h.0, h.1, λ sound. h.2 (sound.0, sound.1, sound.2))
behind_cause fp a b NoMemory h = tt

-- distinct values that repeat one stand for nothing
pub none_stands : (fp : Fp) (told : ℕ → Option Pages) (known : List Value) → AreKnown fp told known → ¬ (AreDistinct known) → StandsForNone fp told
none_stands fp told known are repeats = λ values stands. repeats (rw (are values stands) stands.numbered.distinct)

-- each value is the distinct one at its code
pub values_are : (fp : Fp) (told : ℕ → Option Pages) (values : List Value) (stands : Stands fp told values) → map (λ (code : ℕ). value_at code stands.known) stands.codes ≡ values
values_are fp told values stands =
    let long : length (map (λ (code : ℕ). value_at code stands.known) stands.codes) ≡ length values = length-map stands.codes (λ (code : ℕ). value_at code stands.known) ∙ stands.numbered.long in
    ext_get_or Null (map (λ (code : ℕ). value_at code stands.known) stands.codes) values long
    (λ i h. get_or-map (λ (code : ℕ). value_at code stands.known) stands.codes i 0 Null (omega (arith, long, stands.numbered.long)) ∙ (stands.numbered.each i (omega (arith, long))).there)

-- so the distinct value at the code of a row is the row's
pub value_of_row : (fp : Fp) (told : ℕ → Option Pages) (values : List Value) (stands : Stands fp told values) (row code : ℕ) (v : Value) → row < fp.slots → code ≡ slice_index stands.codes row → v ≡ value_at code stands.known → v ≡ value_at row values
value_of_row fp told values stands row code v less is there =
    there ∙ ap (λ (n : ℕ). value_at n stands.known) is ∙ (stands.numbered.each row (omega (arith, stands.slots))).there

-- what a column stands for depends only on the pages of its two objects
abbrev pub stands_there : (fp : Fp) (told told' : ℕ → Option Pages) (values : List Value) → told' fp.codes ≡ told fp.codes → told' fp.values ≡ told fp.values → Stands fp told values → Stands fp told' values
stands_there fp told told' values ec ev s = record {
  known = s.known;
  codes = s.codes;
  slots = s.slots;
  distinct = s.distinct;
  few = s.few;
  numbered = s.numbered;
  of_kind = s.of_kind;
  codes_held = subst (λ (o : Option Pages). HoldsObject o (code_width fp.distinct) (map (little_bytes (code_width fp.distinct)) s.codes)) (sym ec) s.codes_held;
  values_held = subst (λ (o : Option Pages). HoldsObject o (width fp.kind) (map (cell fp.kind) s.known)) (sym ev) s.values_held;
}

-- the values that were put together are those of the rows
pub all_are : (fp : Fp) (told told' : ℕ → Option Pages) (known got : List Value) (codes : List ℕ) → told' fp.codes ≡ told fp.codes → told' fp.values ≡ told fp.values → AreKnown fp told known → AreCodesOf fp told' codes → got ≡ map (λ (code : ℕ). value_at code known) codes → AreValuesOf fp told got
all_are fp told told' known got codes ec ev known_are codes_are is = λ values stands.
    let k : known ≡ stands.known = known_are values stands in
    let c : codes ≡ stands.codes = codes_are values (stands_there fp told told' values ec ev stands) in
    is ∙ ap (λ (vs : List Value). map (λ (code : ℕ). value_at code vs) codes) k ∙ ap (map (λ (code : ℕ). value_at code stands.known)) c ∙ values_are fp told values stands

-- what is known before a read is known after it
pub known_still : (fp : Fp) (told told' : ℕ → Option Pages) (known : List Value) → told fp.codes ≡ told' fp.codes → told fp.values ≡ told' fp.values → AreKnown fp told known → AreKnown fp told' known
known_still fp told told' known ec ev are = λ values stands. are values (stands_there fp told' told values ec ev stands)

pub numbered_there : (old : Fp) (told told' : ℕ → Option Pages) (cells : List Value) (distinct : ℕ) (more last : List ℕ) → told' old.codes ≡ told old.codes → told' old.values ≡ told old.values → AreNumbered old told cells distinct more last → AreNumbered old told' cells distinct more last
numbered_there old told told' cells distinct more last ec ev is = record {
  known = is.known;
  fresh = is.fresh;
  many = is.many;
  long = is.long;
  known_are = known_still old told told' is.known (sym ec) (sym ev) is.known_are;
  of_kind = is.of_kind;
  numbered = is.numbered;
  last = is.last;
}

pub planned_there : (old new : Fp) (told told' : ℕ → Option Pages) (more codes last : List ℕ) → told' old.codes ≡ told old.codes → told' old.values ≡ told old.values → ArePlanned old new told more codes last → ArePlanned old new told' more codes last
planned_there old new told told' more codes last ec ev is = record {
  same = is.same;
  last = λ keeps. subst (λ (o : Option Pages). LoadsLast (code_width old.distinct) old.slots o last) (sym ec) (is.last keeps);
  all = λ other values stands. is.all other values (stands_there old told' told values (sym ec) (sym ev) stands);
  ends = is.ends;
}

-- and what the column stands for after more were put behind, it stands for behind what it stood for before
pub more_still : (old new : Fp) (told told' after : ℕ → Option Pages) (more : List Value) → told' old.codes ≡ told old.codes → told' old.values ≡ told old.values → StandsForMore old new more told' after → StandsForMore old new more told after
more_still old new told told' after more ec ev p = λ values stands. p values (stands_there old told told' values ec ev stands)

-- what a plan was made for depends on the pages of its column's two objects alone
pub plan_there : (plan : Plan) (told told' : ℕ → Option Pages) (cells : List Value) → told' plan.column.codes ≡ told plan.column.codes → told' plan.column.values ≡ told plan.column.values → IsPlanFor told cells plan → IsPlanFor told' cells plan
plan_there plan told told' cells ec ev is = record {
  more = is.more;
  slots = is.slots;
  numbered = numbered_there plan.column told told' cells plan.grown.distinct is.more plan.last_values ec ev is.numbered;
  codes = planned_there plan.column plan.grown told told' is.more plan.codes.items plan.last_codes ec ev is.codes;
}

-- how many pages of codes are written in one form
pub codes_same : (old new : Fp) (w s : ℕ) → new.slots ≡ old.slots + s → KeepsForm old new → w ≡ code_width new.distinct → codes_written old new ≡ pages_changed w old.slots s
codes_same old new w s es same ew =
    let test : nat_eq (code_width old.distinct) (code_width new.distinct) ≡ true = eq-eqb _ _ (sym same) in
    let rows : new.slots - old.slots ≡ s = omega arith in
    ap (λ (t : Bool). if t then pages_changed (code_width old.distinct) old.slots (new.slots - old.slots) else pages_changed (code_width new.distinct) 0 new.slots) test
    ∙ ap₂ (λ (x : ℕ) (y : ℕ). pages_changed x old.slots y) (sym (ew ∙ same)) rows

-- and how many in a wider form
pub codes_wider : (old new : Fp) (w s : ℕ) → new.slots ≡ s → code_width new.distinct ≢ code_width old.distinct → w ≡ code_width new.distinct → codes_written old new ≡ pages_changed w 0 s
codes_wider old new w s es other ew =
    let differ : code_width old.distinct ≢ code_width new.distinct = λ e. other (sym e) in
    let test : nat_eq (code_width old.distinct) (code_width new.distinct) ≡ false = grind (arith, nat_tests) in
    ap (λ (t : Bool). if t then pages_changed (code_width old.distinct) old.slots (new.slots - old.slots) else pages_changed (code_width new.distinct) 0 new.slots) test
    ∙ ap₂ (λ (x : ℕ) (y : ℕ). pages_changed x 0 y) (sym ew) es
