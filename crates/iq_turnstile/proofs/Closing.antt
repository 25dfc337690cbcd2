-- The seat that has all parts finds the state at home.
use Rattle.std.proofs.Common.{◌≡◌, ℕ, ◌+◌, List, [], ◌∷◌, ◌++◌, length, set, append_assoc, append-nil, All, AllPairs, Option, Some, sym, refl, ap, ◌∙◌, subst, arith}
use mathlib.Core.Option.{Option as Slot, some, some-injective}
use lib.ListN.{get_elem?}
use Rattle.atomic_table.specs.Table.{State, Me, rest, Seen, Final}
use Rattle.std.proofs.lemmas.List.Elements.{All-pop}
use Rattle.std.proofs.lemmas.Grind.{flat_map-append}
use Rattle.atomic_table.specs.declared.shared.Seat.{Seat}
use Rattle.atomic_table.proofs.Lists.{set_else}
use Rattle.iq_turnstile.specs.declared.turnstile.Turnstile.{Turnstile}
use Rattle.iq_turnstile.specs.declared.turnstile.Pass.{Pass}
use Rattle.iq_turnstile.specs.declared.view.View.{View}
use Rattle.iq_turnstile.specs.Rule.{HoldsState, IsRuled, idle_view}
use Rattle.iq_turnstile.specs.Passes.{IsOf, HasJoined, AllAgree, parts_of, notes_of, sum_of_parts, all_notes}
use Rattle.iq_turnstile.specs.Steps.{joined, spent}
use Rattle.iq_turnstile.proofs.Views.{sum_set, sum_snoc, one_below}
use Rattle.iq_turnstile.proofs.Seats.{every}

-- the one slot that a seat has
pub slot_out : {S V : Type 0} (me : Me S V) (v : V) (x : S) → me ≡ (v, (0, x) ∷ []) → me.1 ≡ (0, x) ∷ rest me.1
slot_out {S} me v x is = subst (λ (m : Me S _). m.1 ≡ (0, x) ∷ rest m.1) (sym is) refl

module _ {S N : Type 0} (agrees : N → S → Type 0) (apart : N → N → Type 0) (both_ways : (n m : N) → apart n m → apart m n) (parts : ℕ) where
  home_of_all : (st : State (Option S) (View S N)) (id : ℕ) (ns : List N) (law : IsRuled agrees apart parts st) → get_elem? st.views id ≡ some (idle_view parts ns) → st.homes ≡ some (Some law.state) ∷ []
  home_of_all st id ns law at =
      let v : View S N = idle_view parts ns in
      law.home (every agrees apart both_ways (λ (u : View S N). HoldsState u.stage → ⊥) st.views id v at (λ h. h) (λ j u ne e h.
      let without = sum_set (λ (u : View S N). u.parts) st.views id v spent at in
      let one = one_below (λ (u : View S N). u.parts) (set st.views id spent) j u (set_else st.views id j spent ne ∙ e) in
      let whole = law.whole in
      let nothing : u.parts ≡ 0 = omega arith in
      subst HoldsState ((law.each j u e).spent nothing).0 h))

  -- the slot of a closed table, where the seat has all parts
  pub finds_state : (id : ℕ) (ns : List N) (v : View S N) (ws : List ℕ) (xs : List (Option S)) (slot : Option S) → v ≡ idle_view parts ns → Final (Seen (IsRuled agrees apart parts) id v) ws xs → get_elem? xs 0 ≡ some slot
      → (s : S) × (slot ≡ Some s) × All (λ n. agrees n s) ns × AllPairs apart ns
  finds_state id ns v ws xs slot is (st, (law, at), words, size, there) found =
      let at_v : get_elem? st.views id ≡ some (idle_view parts ns) = at ∙ ap (λ (u : View S N). some u) is in
      let home = home_of_all st id ns law at_v in
      let seat = law.each id (idle_view parts ns) at_v in
      let out : get_elem? xs 0 ≡ some (Some law.state) = there 0 (Some law.state) (ap (λ (hs : List (Slot (Option S))). get_elem? hs 0) home) in
      (law.state, some-injective slot (Some law.state) (sym found ∙ out), seat.agree, seat.within)

-- Passes that are joined to a seat, one after another.
module _ {S N : Type 0} (door : Turnstile S N) (passes : List (Pass S N)) where
  none_left : {A : Type 0} (xs : List A) → length xs ≡ 0 → xs ≡ []
  none_left [] e = refl
  none_left (x ∷ xs) e = absurd (omega arith)

  pub last_of : (before left : List (Pass S N)) (p : Pass S N) → before ≡ left ++ p ∷ [] → All (IsOf door) before → IsOf door p
  last_of before left p is all = let cut : All (IsOf door) left × IsOf door p = All-pop (IsOf door) before left (Some p) is all in cut.1

  pub joined_first : (left : List (Pass S N)) (p : Pass S N) → passes ≡ left ++ p ∷ [] → All (IsOf door) passes → HasJoined door passes left p.seat
  joined_first left p is all =
      let cut : All (IsOf door) left × IsOf door p = All-pop (IsOf door) passes left (Some p) is all in
      let one = cut.1 in
      let notes_are : notes_of p ≡ one.note ∷ [] = ap (λ (m : Me (Option S) (View S N)). m.0.notes) one.at.knows in
      record {
        parts = p.parts;
        notes = one.note ∷ [];
        place = one.at.place;
        knows = one.at.knows;
        some_part = one.at.some_part;
        others = cut.0;
        whole = sym (ap sum_of_parts is ∙ sum_snoc parts_of left p);
        noted = sym (ap all_notes is ∙ flat_map-append notes_of left (p ∷ []) ∙ ap (λ (ns : List N). all_notes left ++ ns) (append-nil (notes_of p) ∙ notes_are));
      }

  pub joined_more : (before left : List (Pass S N)) (p : Pass S N) (seat new : Seat (Option S) (View S N)) → HasJoined door passes before seat → before ≡ left ++ p ∷ [] → new.table_id ≡ seat.table_id
      → new.me ≡ (joined seat.me.0 p.seat.me.0, seat.me.1) → HasJoined door passes left new
  joined_more before left p seat new old is place me =
      let cut : All (IsOf door) left × IsOf door p = All-pop (IsOf door) before left (Some p) is old.others in
      let one = cut.1 in
      let notes_are : notes_of p ≡ one.note ∷ [] = ap (λ (m : Me (Option S) (View S N)). m.0.notes) one.at.knows in
      let some = old.some_part in
      record {
        parts = old.parts + p.parts;
        notes = one.note ∷ old.notes;
        place = place ∙ old.place;
        knows = me ∙ (λ i. (joined (old.knows i).0 (one.at.knows i).0, (old.knows i).1));
        some_part = omega arith;
        others = cut.0;
        whole = let a = ap sum_of_parts is in let b = sum_snoc parts_of left p in let c = old.whole in omega arith;
        noted = sym (append_assoc (all_notes left) (one.note ∷ []) old.notes)
            ∙ ap (λ (ns : List N). ns ++ old.notes) (sym (ap all_notes is ∙ flat_map-append notes_of left (p ∷ []) ∙ ap (λ (ns : List N). all_notes left ++ ns) (append-nil (notes_of p) ∙ notes_are)))
            ∙ old.noted;
      }

  pub closes : (agrees : N → S → Type 0) (apart : N → N → Type 0) (both_ways : (n m : N) → apart n m → apart m n) (k : ℕ) (left : List (Pass S N)) (seat : Seat (Option S) (View S N)) (ws : List ℕ) (xs : List (Option S)) (slot : Option S)
      → HasJoined door passes left seat → length left ≡ 0 → sum_of_parts passes ≡ k → Final (Seen (IsRuled agrees apart k) seat.id seat.me.0) ws xs → get_elem? xs 0 ≡ some slot → (s : S) × (slot ≡ Some s) × AllAgree agrees apart passes s
  closes agrees apart both_ways k left seat ws xs slot old empty whole end found =
      let nothing : left ≡ [] = none_left left empty in
      let parts_are : old.parts ≡ k = let none_is : sum_of_parts left ≡ 0 = ap sum_of_parts nothing in let a = old.whole in omega arith in
      let notes_are : old.notes ≡ all_notes passes = ap (λ (ps : List (Pass S N)). all_notes ps ++ old.notes) (sym nothing) ∙ old.noted in
      let got = finds_state agrees apart both_ways k seat.id old.notes seat.me.0 ws xs slot (ap (λ (m : Me (Option S) (View S N)). m.0) old.knows ∙ ap (λ (n : ℕ). idle_view n old.notes) parts_are) end found in
      let agree : All (λ n. agrees n got.0) old.notes = got.2 in
      (got.0, got.1, record { agree = subst (λ (ns : List N). All (λ n. agrees n got.0) ns) notes_are got.2; apart_all = subst (λ (ns : List N). AllPairs apart ns) notes_are got.3 })
