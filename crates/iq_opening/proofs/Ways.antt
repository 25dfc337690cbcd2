-- Steps made one after the other.
use Rattle.std.specs.Prelude.{◌≡◌, ℕ, ◌≤◌, Bool, List, [], ◌∷◌, ◌++◌, Option, Some, None, Result, Ok, Err, IsErrAnd, IfErr, OnOk}
use Rattle.std.proofs.Common.{refl, sym, ap, subst, ◌∙◌, arith, append-nil}
use Rattle.iq_outside.specs.declared.device.Device.{Ghosts}
use Rattle.iq_block_map.proofs.PutLemmas.{looked_same, looked_then}
use Rattle.iq_opening.specs.declared.faults.OpenFault.{OpenFault}
use Rattle.iq_opening.specs.declared.faults.OpenFault.TheVariants.{StoreFault, NotAStore, NoMemory}
use Rattle.iq_opening.specs.Steps.{Step}
use Rattle.iq_opening.specs.Walk.{Fault, fault, fault_at, reached_after, unless_fault, walked}
use Rattle.iq_opening.specs.Calls.{Way, IsOpenFault, Goes, Stops, Leads, IsUnreachable}

on_step : (o : Option Fault) (first whole rest : Result (List Bool) Fault) (after : List Bool) → (first ≡ Ok after → whole ≡ rest)
    → unless_fault o first ≡ Ok after → unless_fault o whole ≡ rest
on_step (Some f) first whole rest after more is = cc
on_step None first whole rest after more is = more is

off_step : (o : Option Fault) (first whole : Result (List Bool) Fault) (f : Fault) → (first ≡ Err f → whole ≡ Err f)
    → unless_fault o first ≡ Err f → unless_fault o whole ≡ Err f
off_step (Some g) first whole f more is = is
off_step None first whole f more is = more is

-- after steps without a fault the others go on from where these led
pub walked_on : (all : List (List ℕ)) (before after : List Bool) (xs ys : List Step) → walked all before xs ≡ Ok after
    → walked all before (xs ++ ys) ≡ walked all after ys
unfolding walked
walked_on all before after [] ys is = ap (λ (r : List Bool). walked all r ys) cc
walked_on all before after (x ∷ xs) ys is =
    on_step (fault_at all before x) _ _ _ after (walked_on all (reached_after before x) after xs ys) is

-- a fault among the first steps is the first of all
pub walked_off : (all : List (List ℕ)) (before : List Bool) (f : Fault) (xs ys : List Step) → walked all before xs ≡ Err f
    → walked all before (xs ++ ys) ≡ Err f
unfolding walked
walked_off all before f [] ys is = cc
walked_off all before f (x ∷ xs) ys is =
    off_step (fault_at all before x) _ _ f (walked_off all (reached_after before x) f xs ys) is

-- a cause is handed on by whoever looked before
pub open_fault_on : (f h : List (List ℕ) → Result (List Bool) Fault) (e : OpenFault) (told told' : Option (List (List ℕ)))
    (first first' last last' : ℕ) → told' ≡ told → first ≤ first' → last' ≤ last
    → ((all : List (List ℕ)) (b : Fault) → told ≡ Some all → f all ≡ Err b → h all ≡ Err b)
    → IsOpenFault f e told' first' last' → IsOpenFault h e told first last
open_fault_on f h (StoreFault before after) told told' first first' last last' same early late pass rose =
    record { since = omega (arith, early, rose.since); risen = rose.risen; until = omega (arith, late, rose.until) }
open_fault_on f h (NotAStore block cause) told told' first first' last last' same early late pass bad =
    λ all is. pass all (fault block cause) is (bad all (same ∙ is))
open_fault_on f h NoMemory told told' first first' last last' same early late pass bad = tt

-- no step is made yet
pub lead_start : {D : Type 0} (g : Ghosts D) (whole : Way) (now : D) (reached : List Bool) → Leads g whole whole now now reached reached
lead_start g whole now reached = record {
  looked = looked_same g now;
  size = refl;
  same = λ all told. refl;
}

-- some more steps are made
pub lead_on : {D : Type 0} (g : Ghosts D) (whole left steps rest : Way) (old between new : D) (before mid after : List Bool)
    → Leads g whole left old between before mid → Goes g steps between new mid after
    → ((all : List (List ℕ)) → g.blocks old ≡ Some all → left all ≡ steps all ++ rest all)
    → Leads g whole rest old new before after
lead_on g whole left steps rest old between new before mid after lead go is = record {
  looked = looked_then g old between new lead.looked go.looked;
  size = go.size ∙ lead.size;
  same = λ all told.
      lead.same all told ∙ ap (walked all mid) (is all told)
      ∙ walked_on all mid after (steps all) (rest all) (go.walked all (lead.looked.unchanged ∙ told));
}

-- no step is left
pub lead_end : {D : Type 0} (g : Ghosts D) (whole left : Way) (old new : D) (before after : List Bool)
    → Leads g whole left old new before after → ((all : List (List ℕ)) → g.blocks old ≡ Some all → left all ≡ [])
    → Goes g whole old new before after
unfolding walked
lead_end g whole left old new before after lead is = record {
  looked = lead.looked;
  size = lead.size;
  walked = λ all told. lead.same all told ∙ ap (walked all after) (is all told);
}

-- the last steps are made
pub lead_last : {D : Type 0} (g : Ghosts D) (whole left steps : Way) (old between new : D) (before mid after : List Bool)
    → Leads g whole left old between before mid → Goes g steps between new mid after
    → ((all : List (List ℕ)) → g.blocks old ≡ Some all → left all ≡ steps all)
    → Goes g whole old new before after
lead_last g whole left steps old between new before mid after lead go is = record {
  looked = looked_then g old between new lead.looked go.looked;
  size = go.size ∙ lead.size;
  walked = λ all told.
      lead.same all told ∙ ap (walked all mid) (is all told) ∙ go.walked all (lead.looked.unchanged ∙ told);
}

-- one of the next steps is at fault
pub lead_stop : {D : Type 0} (g : Ghosts D) (whole left steps rest : Way) (old between new : D) (before mid : List Bool) (e : OpenFault)
    → Leads g whole left old between before mid → Stops g steps between new mid e
    → ((all : List (List ℕ)) → g.blocks old ≡ Some all → left all ≡ steps all ++ rest all)
    → Stops g whole old new before e
lead_stop g whole left steps rest old between new before mid e lead stop is = record {
  looked = looked_then g old between new lead.looked stop.looked;
  cause = open_fault_on (λ all. walked all mid (steps all)) (λ all. walked all before (whole all)) e (g.blocks old) (g.blocks between)
      (g.faults old) (g.faults between) (g.faults new) (g.faults new) lead.looked.unchanged lead.looked.later (omega arith)
      (λ all b told bad.
      lead.same all told ∙ ap (walked all mid) (is all told) ∙ walked_off all mid b (steps all) (rest all) bad)
      stop.cause;
}

-- memory was wanting
pub lead_no_memory : {D : Type 0} (g : Ghosts D) (whole left : Way) (old new : D) (before mid : List Bool)
    → Leads g whole left old new before mid → Stops g whole old new before NoMemory
lead_no_memory g whole left old new before mid lead = record { looked = lead.looked; cause = tt }

-- what an early return by `?` answers
pub err_exit : {T : Type 0} (P : OpenFault → Type 0) (r : Result T OpenFault) (e : OpenFault) → IsErrAnd r (λ y. y ≡ e) → P e → IfErr r P
err_exit P (Ok x) e is holds = tt
err_exit P (Err y) e is holds = subst P (sym is) holds

-- an address that may not be reached stops the way
pub stop_unreachable : {D : Type 0} (g : Ghosts D) (way : Way) (now : D) (reached : List Bool) (e : OpenFault) (found : Option Fault)
    → IsUnreachable e found
    → ((all : List (List ℕ)) (f : Fault) → g.blocks now ≡ Some all → found ≡ Some f → walked all reached (way all) ≡ Err f)
    → Stops g way now now reached e
stop_unreachable g way now reached (StoreFault before after) found is pass = absurd is
stop_unreachable g way now reached (NotAStore block cause) found is pass = record {
  looked = looked_same g now;
  cause = λ all told. pass all (fault block cause) told is;
}
stop_unreachable g way now reached NoMemory found is pass = absurd is

-- steps that are the same
pub go_same : {D T : Type 0} (g : Ghosts D) (steps whole : Way) (old new : D) (before after : List Bool) (r : Result T OpenFault)
    → ((all : List (List ℕ)) → whole all ≡ steps all) → OnOk r (Goes g steps old new before after) → OnOk r (Goes g whole old new before after)
go_same g steps whole old new before after (Ok x) is go = record {
  looked = go.looked;
  size = go.size;
  walked = λ all told. ap (walked all before) (is all) ∙ go.walked all told;
}
go_same g steps whole old new before after (Err e) is go = tt

pub stop_same : {D T : Type 0} (g : Ghosts D) (steps whole : Way) (old new : D) (before : List Bool) (r : Result T OpenFault)
    → ((all : List (List ℕ)) → whole all ≡ steps all) → IfErr r (Stops g steps old new before) → IfErr r (Stops g whole old new before)
stop_same g steps whole old new before (Ok x) is stop = tt
stop_same g steps whole old new before (Err e) is stop = record {
  looked = stop.looked;
  cause = open_fault_on (λ all. walked all before (steps all)) (λ all. walked all before (whole all)) e (g.blocks old) (g.blocks old)
      (g.faults old) (g.faults old) (g.faults new) (g.faults new) refl (omega arith) (omega arith)
      (λ all b told bad. ap (walked all before) (is all) ∙ bad) stop.cause;
}

-- the last steps are made, or one of them is at fault
pub last_ok : {D T : Type 0} (g : Ghosts D) (whole left steps : Way) (old between new : D) (before mid after : List Bool) (r : Result T OpenFault)
    → Leads g whole left old between before mid → ((all : List (List ℕ)) → g.blocks old ≡ Some all → left all ≡ steps all)
    → OnOk r (Goes g steps between new mid after) → OnOk r (Goes g whole old new before after)
last_ok g whole left steps old between new before mid after (Ok x) lead is go =
    lead_last g whole left steps old between new before mid after lead go is
last_ok g whole left steps old between new before mid after (Err e) lead is go = tt

pub last_err : {D T : Type 0} (g : Ghosts D) (whole left steps : Way) (old between new : D) (before mid : List Bool) (r : Result T OpenFault)
    → Leads g whole left old between before mid → ((all : List (List ℕ)) → g.blocks old ≡ Some all → left all ≡ steps all)
    → IfErr r (Stops g steps between new mid) → IfErr r (Stops g whole old new before)
last_err g whole left steps old between new before mid (Ok x) lead is stop = tt
last_err g whole left steps old between new before mid (Err e) lead is stop =
    lead_stop g whole left steps (λ all. []) old between new before mid e lead stop (λ all told. is all told ∙ sym (append-nil (steps all)))
