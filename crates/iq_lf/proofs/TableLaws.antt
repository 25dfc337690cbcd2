-- The pages of entries, lengthened, cleared and saved.
use Rattle.std.proofs.Common.{◌≡◌, ◌<◌, ◌≤◌, ◌+◌, ◌*◌, ◌/◌, max, ℕ, Bool, true, false, inl, inr, List, [], ◌∷◌, ◌++◌, Option, Some, None, length, get_or, set, replicate, refl, sym, ap, ◌∙◌, arith, true≢false}
use Rattle.std.proofs.lemmas.Bool.{cases_lt}
use Rattle.std.proofs.lemmas.Bool.Decides.{eqb_tells}
use Rattle.std.proofs.lemmas.Grind.{common_steps}
use Rattle.std.proofs.lemmas.List.{append_assoc, ext_get_or, length-set, replicate-append-replicate, get_or-set_same, get_or-set_other, get_or_past}
use Rattle.iq_pages.specs.declared.page_faults.PageFault.{PageFault}
use Rattle.iq_pages.specs.declared.page_faults.PageFault.TheVariants.{Failed, BadPage, NoMemory}
use Rattle.iq_pages.specs.Pages.{Pages, Seen, HasCause}
use Rattle.iq_pages.proofs.PageLaws.{rose_since}
use Rattle.iq_pieces.specs.Objects.{page_at, put_page, SavesPage}
use Rattle.iq_pieces.proofs.PutPage.{put_here, put_before, put_length}
use Rattle.iq_lf.specs.Entries.{entry_in}
use Rattle.iq_lf.specs.Steps.{SetsEntry, ClearsEntries, Lengthens, KeepsUnchanged, SavesTable, SavesWhere, HasSaveCause, HasShortCause, CoversHits}

-- LENGTHENED

pub lengthens_next : (n : ℕ) (old : Pages) (changed : List Bool) (new : Pages) (changed' : List Bool) → Lengthens n old changed new changed'
    → Lengthens (n + 1) old changed (new ++ replicate 1008 0 ∷ []) (changed' ++ true ∷ [])
lengthens_next n old changed new changed' l = record {
  more = l.more + 1;
  count_is = omega (arith, l.count_is);
  pages_are = ap (λ (ps : Pages). ps ++ replicate 1008 0 ∷ []) l.pages_are ∙ append_assoc old (replicate l.more (replicate 1008 0)) (replicate 1008 0 ∷ [])
      ∙ ap (λ (ps : Pages). old ++ ps) (replicate-append-replicate l.more 1 (replicate 1008 0));
  changed_are = ap (λ (bs : List Bool). bs ++ true ∷ []) l.changed_are ∙ append_assoc changed (replicate l.more true) (true ∷ [])
      ∙ ap (λ (bs : List Bool). changed ++ bs) (replicate-append-replicate l.more 1 true);
}

-- CLEARED

pub clears_next : (from k : ℕ) (old mid new : Pages) → from ≤ k → ClearsEntries from k old mid → SetsEntry k 0 mid new → ClearsEntries from (k + 1) old new
clears_next from k old mid new order c s = record {
  long = s.long ∙ c.long;
  within = λ j a b. elim (eqb_tells j k) [
    | inl same ↦ ap (λ (i : ℕ). entry_in new i) same.1 ∙ s.here
    | inr other ↦ s.others j other.1 ∙ c.within j a (omega (arith, b, other.1))
  ];
  before = λ j l. s.others j (λ e. absurd (omega (arith, e, l, order))) ∙ c.before j l;
}

-- SAVED

-- the pages before this one are those, and those from it on are as they were
pub record SavedTo (p : ℕ) (pages first : Pages) (told : Option Pages) : Type 0 where
  pub now : Pages
  pub told_is : told ≡ Some now
  pub count : length now ≡ max p (length first)
  pub new : (q : ℕ) → q < p → page_at q now ≡ page_at q pages
  pub old : (q : ℕ) → p ≤ q → q < length first → page_at q now ≡ page_at q first

abbrev pub SavesTo : ℕ → Pages → List Bool → Option Pages → Option Pages → Type 0
SavesTo p pages changed before after = (first : Pages) → before ≡ Some first → length first ≤ length pages → KeepsUnchanged first pages changed → SavedTo p pages first after

pub saves_none : (pages : Pages) (changed : List Bool) (told : Option Pages) → SavesTo 0 pages changed told told
saves_none pages changed told = λ first e h k. record {
  now = first;
  told_is = e;
  count = omega arith;
  new = λ q l. absurd (omega (arith, l));
  old = λ q l m. refl;
}

put_behind : (pages : Pages) (n p : ℕ) (page : List ℕ) → n ≤ length pages → n < p → page_at p (put_page n page pages) ≡ page_at p pages
put_behind pages n p page h l = grind (arith, common_steps)

pub saves_changed : (p : ℕ) (pages : Pages) (changed : List Bool) (before between after : Option Pages) → SavesTo p pages changed before between → SavesPage p (page_at p pages) between after → SavesTo (p + 1) pages changed before after
saves_changed p pages changed before between after s saves = λ first e h k.
    let t = s first e h k in
    let reached : p ≤ length t.now = omega (arith, t.count) in
    record {
      now = put_page p (page_at p pages) t.now;
      told_is = saves t.now t.told_is;
      count = omega (arith, put_length t.now p (page_at p pages) reached, t.count);
      new = λ q l. elim (cases_lt q p) [
        | inl early ↦ put_before t.now p q (page_at p pages) reached early ∙ t.new q early
        | inr on ↦ (let same : q ≡ p = omega (arith, l, on) in ap (λ (r : ℕ). page_at r (put_page p (page_at p pages) t.now)) same ∙ put_here t.now p (page_at p pages) reached ∙ ap (λ (r : ℕ). page_at r pages) (sym same))
      ];
      old = λ q l m. put_behind t.now p q (page_at p pages) reached (omega (arith, l)) ∙ t.old q (omega (arith, l)) m;
    }

pub saves_unchanged : (p : ℕ) (pages : Pages) (changed : List Bool) (before between : Option Pages) → p < length pages → get_or changed p true ≡ false → SavesTo p pages changed before between → SavesTo (p + 1) pages changed before between
saves_unchanged p pages changed before between less off s = λ first e h k.
    let t = s first e h k in
    let kept = k p less off in
    record {
      now = t.now;
      told_is = t.told_is;
      count = omega (arith, kept.0, t.count);
      new = λ q l. elim (cases_lt q p) [
        | inl early ↦ t.new q early
        | inr on ↦ (let same : q ≡ p = omega (arith, l, on) in ap (λ (r : ℕ). page_at r t.now) same ∙ t.old p (omega arith) kept.0 ∙ sym kept.1 ∙ ap (λ (r : ℕ). page_at r pages) (sym same))
      ];
      old = λ q l m. t.old q (omega (arith, l)) m;
    }

-- a page that is written where it changed
pub saves_step : (p : ℕ) (pages : Pages) (changed : List Bool) (b : Bool) (page : List ℕ) (before between after : Option Pages) → p < length pages → get_or changed p true ≡ b → page_at p pages ≡ page
    → SavesTo p pages changed before between → SavesWhere b p page between after → SavesTo (p + 1) pages changed before after
saves_step p pages changed true page before between after less is same s w = saves_changed p pages changed before between after s (rw same w)
saves_step p pages changed false page before between after less is same s w = rw w (saves_unchanged p pages changed before between less is s)

pub saves_all : (p : ℕ) (pages : Pages) (changed : List Bool) (before after : Option Pages) → length pages ≡ p → SavesTo p pages changed before after → SavesTable pages changed before after
saves_all p pages changed before after all s = λ first e h k.
    let t = s first e h k in
    let same : t.now ≡ pages = ext_get_or [] t.now pages (omega (arith, t.count, h, all)) (λ q l. t.new q (omega (arith, l, t.count, h, all))) in
    t.told_is ∙ ap Some same

-- why a page isn't written
pub short_cause : (object n : ℕ) (a b : Seen) (fault : PageFault) → HasCause object a b fault → HasShortCause object n a b fault
short_cause object n a b (Failed x y) h = h
short_cause object n a b (BadPage named page) h = (h.0, λ pages e. absurd (none_some (a.told object) pages h.1 e))
  where
    none_some : (o : Option Pages) (pages : Pages) → o ≡ None → o ≡ Some pages → ⊥
    none_some o pages e f = cc
short_cause object n a b NoMemory h = tt

pub save_cause : (object p : ℕ) (pages : Pages) (changed : List Bool) (a b c : Seen) (fault : PageFault) → a.faults ≤ b.faults → SavesTo p pages changed (a.told object) (b.told object) → HasShortCause object p b c fault → HasSaveCause object pages changed a c fault
save_cause object p pages changed a b c (Failed x y) later s h = rose_since _ _ _ _ _ later h
save_cause object p pages changed a b c (BadPage named page) later s h = (h.0, λ first e l k. (let t = s first e l k in let less = h.1 t.now t.told_is in absurd (omega (arith, less, t.count))))
save_cause object p pages changed a b c NoMemory later s h = tt

-- PAGES OF HITS

stays : (xs : List Bool) (i j : ℕ) → j < length xs → get_or xs i false ≡ true → get_or (set xs j true) i false ≡ true
stays xs i j there on = elim (eqb_tells i j) [
  | inl same ↦ ap (λ (k : ℕ). get_or (set xs j true) k false) same.1 ∙ get_or-set_same xs j true false there
  | inr other ↦ get_or-set_other xs j i true false other.1 ∙ on
]

-- those of the first n values
abbrev pub CoversBelow : ℕ → List Bool → List Bool → Type 0
CoversBelow n hits needed = (v chunk : ℕ) → v < n → get_or hits (v + 1) false ≡ true → chunk < 33 → get_or needed ((33 * v + chunk) / 252) false ≡ true

pub covers_hit : (n : ℕ) (hits needed : List Bool) → (33 * n + 32) / 252 < length needed → CoversBelow n hits needed → CoversBelow (n + 1) hits (set (set needed (33 * n / 252) true) ((33 * n + 32) / 252) true)
covers_hit n hits needed there c = λ v chunk l on small.
    let a = 33 * n / 252 in
    let b = (33 * n + 32) / 252 in
    let first : a < length needed = omega (arith, there) in
    let second : b < length (set needed a true) = omega (arith, there, length-set needed a true) in
    elim (cases_lt v n) [
      | inl before ↦ stays (set needed a true) ((33 * v + chunk) / 252) b second (stays needed ((33 * v + chunk) / 252) a first (c v chunk before on small))
      | inr last ↦ (
          let same : v ≡ n = omega (arith, last, l) in
          elim (eqb_tells ((33 * v + chunk) / 252) b) [
            | inl here ↦ ap (λ (k : ℕ). get_or (set (set needed a true) b true) k false) here.1 ∙ get_or-set_same (set needed a true) b true false second
            | inr other ↦ (
                let at : (33 * v + chunk) / 252 ≡ a = omega (arith, same, small, other.1) in
                stays (set needed a true) ((33 * v + chunk) / 252) b second (ap (λ (k : ℕ). get_or (set needed a true) k false) at ∙ get_or-set_same needed a true false first))
          ])
    ]

pub covers_none : (n : ℕ) (hits needed : List Bool) → get_or hits (n + 1) false ≡ false → CoversBelow n hits needed → CoversBelow (n + 1) hits needed
covers_none n hits needed off c = λ v chunk l on small. elim (cases_lt v n) [
  | inl before ↦ c v chunk before on small
  | inr last ↦ (let same : v ≡ n = omega (arith, last, l) in absurd (true≢false (sym on ∙ ap (λ (k : ℕ). get_or hits (k + 1) false) same ∙ off)))
]

pub covers_all : (n : ℕ) (hits needed : List Bool) → length hits ≡ n + 1 → CoversBelow n hits needed → CoversHits hits needed
covers_all n hits needed long c = λ v chunk on small. elim (cases_lt v n) [
  | inl less ↦ c v chunk less on small
  | inr past ↦ absurd (true≢false (sym on ∙ get_or_past hits (v + 1) false (omega (arith, past, long))))
]
