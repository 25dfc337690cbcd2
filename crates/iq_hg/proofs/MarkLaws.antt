-- Rows that are set one after the other.
use Rattle.std.proofs.Common.{◌≡◌, ◌<◌, ℕ, ◌+◌, Bool, true, false, if◌then◌else◌, List, [], ◌∷◌, ◌++◌, length, take, set, sym, ap, ap₂, ◌∙◌, refl, subst}
use Rattle.std.specs.List.{All}
use Rattle.std.proofs.lemmas.List.{take_more, length-set}
use Rattle.std.proofs.lemmas.List.Elements.{All-push}
use Rattle.iq_base.specs.declared.values.Value.{Value}
use Rattle.iq_hg_leaves.specs.declared.entries.Entry.{Entry}
use Rattle.iq_hg_leaves.specs.Entries.{entry_at}
use Rattle.iq_hg.specs.declared.wanted.Wanted.{Wanted}
use Rattle.iq_hg.specs.Bounds.{is_wanted, is_past}
use Rattle.iq_hg.specs.Stands.{mark_one, marked}

pub marked-append : (wanted : Wanted) (bits : List Bool) (xs ys : List Entry) → marked wanted bits (xs ++ ys) ≡ marked wanted (marked wanted bits xs) ys
marked-append wanted bits [] ys = refl
marked-append wanted bits (x ∷ xs) ys = marked-append wanted (mark_one wanted bits x) xs ys

-- one entry more
pub mark_next : (wanted : Wanted) (es : List Entry) (i : ℕ) (old bits bits' : List Bool) (on : Bool) (row : ℕ) (v : Value) → i < length es → bits ≡ marked wanted old (take i es) → v ≡ (entry_at i es).value → on ≡ is_wanted wanted v → row ≡ (entry_at i es).row → bits' ≡ (if on then set bits row true else bits) → bits' ≡ marked wanted old (take (i + 1) es)
mark_next wanted es i old bits bits' on row v h was v_is on_is row_is is =
    let e = entry_at i es in
    let here : on ≡ is_wanted wanted e.value = on_is ∙ ap (is_wanted wanted) v_is in
    is ∙ ap₂ (λ (b : Bool) (r : ℕ). if b then set bits r true else bits) here row_is
    ∙ ap (λ (bs : List Bool). mark_one wanted bs e) was
    ∙ sym (ap (marked wanted old) (take_more es i _ h) ∙ marked-append wanted old (take i es) (e ∷ []))

-- one entry more that isn't behind what is wanted
pub live_next : (wanted : Wanted) (es : List Entry) (i : ℕ) (v : Value) (past : Bool) → i < length es → v ≡ (entry_at i es).value → past ≡ is_past wanted v → past ≡ false → All (λ (e : Entry). is_past wanted e.value ≡ false) (take i es) → All (λ (e : Entry). is_past wanted e.value ≡ false) (take (i + 1) es)
live_next wanted es i v past h v_is is not all =
    subst (All (λ (e : Entry). is_past wanted e.value ≡ false)) (sym (take_more es i _ h)) (All-push (λ (e : Entry). is_past wanted e.value ≡ false) (take i es) (entry_at i es) all (sym (ap (is_past wanted) v_is) ∙ sym is ∙ not))

pub set_long : (on : Bool) (row : ℕ) (bits bits' : List Bool) → bits' ≡ (if on then set bits row true else bits) → length bits' ≡ length bits
set_long true row bits bits' is = ap length is ∙ length-set bits row true
set_long false row bits bits' is = ap length is
