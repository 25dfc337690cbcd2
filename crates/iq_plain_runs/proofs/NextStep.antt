-- Entries of a step that may come next.
use Rattle.std.specs.Prelude.{◌≡◌, ◌<◌, refl, ℕ, zero, suc, ◌+◌, Bool, true, false, List, [], ◌∷◌, Option, Some, None, nat_lt, IsSomeAnd, if◌then◌else◌}
use Rattle.std.specs.List.{slice_get}
use Rattle.std.proofs.Common.{inl, ap, sym, arith}
use Rattle.iq_base.specs.Shorts.{Name}
use Rattle.iq_base.specs.declared.refusals.Refusal.{Refusal}
use Rattle.iq_history.specs.declared.entries.Entry.TheVariants as entries
use Rattle.iq_model.specs.declared.scripts.Line.{Line}
use Rattle.iq_model.specs.declared.scripts.Deed.TheVariants as deeds
use Rattle.iq_model.specs.declared.scripts.Step.{Step}
use Rattle.iq_model.specs.declared.scripts.Step.TheVariants as steps
use Rattle.iq_floors.specs.Floors.{horizon}
use Rattle.iq_replay.specs.State.{State, Node, Report, is_writing, changed_at}
use Rattle.iq_replay.specs.Nodes.{is_coordinator, node_position, floor_of, taken_of, bounds_from, horizon_of, report_of}
use Rattle.iq_replay.specs.Refusals.{step_refusal}
use Rattle.iq_replay.specs.Asked.{FirstIs, StepIs, OfStep, OfTurn, OfNode, OfNodeStep, IsZeroUnless}
use Rattle.iq_replay.specs.Changes.{taken_up}
use Rattle.iq_replay.specs.Entries.{IsPossible}
use Rattle.iq_script_order.specs.Fixed.{IsCertain}
use Rattle.iq_plain_runs.specs.Courses.{IsStepOf, IsNextOf}

-- STEPS

first_step : (left : List Line) (l : ℕ) (step : Step) (P : Step → Type 0) → FirstIs left l (λ deed. deed ≡ deeds.Step step) → P step → FirstIs left l (λ deed. StepIs deed P)
first_step [] l step P h p = h
first_step (line ∷ lines) l step P h p = (h.0, rw (h.1) p)

-- what holds of a step holds of the first that is left
of_step : (s : State) (l : ℕ) (step : Step) (P : Step → Type 0) → IsStepOf s l step → P step → OfStep s l P
of_step s l step P h p = (h.open_still, first_step s.steps l step P h.under_way p)

of_turn : (s : State) (l : ℕ) (P : Step → Type 0) → OfStep s l P → OfTurn s l P
of_turn s zero P h = h.0
of_turn s (suc l) P h = h

-- what holds of a node holds of the node that the step names
of_node : (s : State) (n l : ℕ) (node : Node) (name : Name) (named : Name → Step) (P : Node → Type 0) → IsStepOf s l (named name)
    → slice_get s.nodes n ≡ Some node → node.name ≡ name → P node → OfNode s n l named P
of_node s n l node name named P at found is p =
    rw (found) (p, of_turn s l (λ step. step ≡ named node.name) (of_step s l (named name) (λ step. step ≡ named node.name) at (ap named (sym is))))

of_node_step : (s : State) (n l : ℕ) (node : Node) (name : Name) (named : Name → Step) (P : Node → Type 0) → IsStepOf s l (named name)
    → slice_get s.nodes n ≡ Some node → node.name ≡ name → P node → OfNodeStep s n l named P
of_node_step s n l node name named P at found is p =
    rw (found) (p, of_step s l (named name) (λ step. step ≡ named node.name) at (ap named (sym is)))

-- a node that is found at a place has the name that is known of the place
pub name_at : (o : Option Node) (node : Node) (name : Name) → o ≡ Some node → IsSomeAnd o (λ node. node.name ≡ name) → node.name ≡ name
name_at o node name found h = rw found at h

-- ENTRIES

pub refused_step : (s : State) (l : ℕ) (step : Step) (cause : Refusal) → IsStepOf s l step → step_refusal s step ≡ Some cause → IsCertain cause → IsNextOf s l (entries.Refused None l cause)
unfolding IsPossible
refused_step s l step cause at first certain =
    record { possible = inl (of_step s l step (λ step. step_refusal s step ≡ Some cause) at first); undisturbed = certain; line = refl }

pub apply_next : (s : State) (n l : ℕ) (node : Node) (name : Name) → IsStepOf s l (steps.Apply name) → slice_get s.nodes n ≡ Some node → node.name ≡ name
    → node.excluded ≡ false → node_position s.latest node < s.latest → IsNextOf s l (entries.Apply n l (node_position s.latest node + 1))
unfolding IsPossible
apply_next s n l node name at found is here below =
    record { possible = of_node s n l node name steps.Apply _ at found is (here, refl, below); undisturbed = tt; line = refl }

pub send_next : (s : State) (n l : ℕ) (node : Node) (name : Name) → IsStepOf s l (steps.Report name) → slice_get s.nodes n ≡ Some node → node.name ≡ name
    → is_coordinator node.kind ≡ false → node.excluded ≡ false → IsNextOf s l (entries.Send n l s.next (floor_of s n node))
unfolding IsPossible
send_next s n l node name at found is kind here =
    record { possible = of_node s n l node name steps.Report _ at found is (record { kind = kind; included = here }, refl, refl); undisturbed = tt; line = refl }

pub own_next : (s : State) (n l : ℕ) (node : Node) (name : Name) → IsStepOf s l (steps.Report name) → slice_get s.nodes n ≡ Some node → node.name ≡ name
    → is_coordinator node.kind ≡ true → IsNextOf s l (entries.Own n l (horizon_of s) 0)
unfolding IsPossible
own_next s n l node name at found is kind =
    record { possible = of_node s n l node name steps.Report _ at found is (kind, refl); undisturbed = tt; line = refl }

pub lose_next : (s : State) (l number : ℕ) (report : Report) → IsStepOf s l (steps.Lose number) → report_of number s.bag ≡ Some report → IsNextOf s l (entries.Lose l number)
unfolding IsPossible
lose_next s l number report at found =
    record { possible = (of_turn s l _ (of_step s l (steps.Lose number) (λ step. step ≡ steps.Lose number) at refl), rw (found) tt); undisturbed = tt; line = refl }

-- the bounds of the horizon don't look at the nodes of the state
bounds_over : (s : State) (over : List Node) (n : ℕ) (nodes : List Node) → bounds_from (record s { nodes = over }) n nodes ≡ bounds_from s n nodes
bounds_over s over n [] = refl
bounds_over s over n (node ∷ nodes) = ap (λ (rest : List ℕ). if node.excluded then rest else taken_of s n node ∷ rest) (bounds_over s over (n + 1) nodes)

pub take_next : (s : State) (l number : ℕ) (report : Report) → IsStepOf s l (steps.Take number) → report_of number s.bag ≡ Some report
    → IsNextOf s l (entries.Take l number (horizon s.latest (bounds_from s 0 (changed_at report.node (taken_up report.floor) s.nodes))) 0)
unfolding IsPossible
take_next s l number report at found =
    record {
      possible = (
        of_turn s l _ (of_step s l (steps.Take number) (λ step. step ≡ steps.Take number) at refl),
        rw (found) (ap (horizon s.latest) (sym (bounds_over s (changed_at report.node (taken_up report.floor) s.nodes) 0 (changed_at report.node (taken_up report.floor) s.nodes)))),
      );
      undisturbed = tt;
      line = refl;
    }

pub restart_next : (s : State) (n l : ℕ) (node : Node) (name : Name) → IsStepOf s l (steps.Restart name) → slice_get s.nodes n ≡ Some node → node.name ≡ name
    → is_coordinator node.kind ≡ false → node.excluded ≡ false → IsNextOf s l (entries.Restart n l (node.incarnation + 1))
unfolding IsPossible
restart_next s n l node name at found is kind here =
    record { possible = of_node_step s n l node name steps.Restart _ at found is (record { kind = kind; included = here }, refl); undisturbed = tt; line = refl }

pub exclude_next : (s : State) (n l : ℕ) (node : Node) (name : Name) → IsStepOf s l (steps.Exclude name) → slice_get s.nodes n ≡ Some node → node.name ≡ name
    → is_coordinator node.kind ≡ false → node.excluded ≡ false → IsNextOf s l (entries.Exclude n l (node.incarnation + 1))
unfolding IsPossible
exclude_next s n l node name at found is kind here =
    record { possible = of_node_step s n l node name steps.Exclude _ at found is (record { kind = kind; included = here }, refl); undisturbed = tt; line = refl }

pub include_next : (s : State) (n l : ℕ) (node : Node) (name : Name) → IsStepOf s l (steps.Include name) → slice_get s.nodes n ≡ Some node → node.name ≡ name
    → node.excluded ≡ true → IsNextOf s l (entries.Include n l s.latest)
unfolding IsPossible
include_next s n l node name at found is out =
    record { possible = of_node_step s n l node name steps.Include _ at found is (out, refl); undisturbed = tt; line = refl }

zero_unless : (b : Bool) → IsZeroUnless b 0
zero_unless true = tt
zero_unless false = refl

pub space_next : (s : State) (l free : ℕ) → IsStepOf s l steps.Space → free + 4 ≡ s.blocks
    → IsNextOf s l (entries.Space l (record { free = free; reserved = 0; private = 0; reached = 0; waiting = 0 }))
unfolding IsPossible
space_next s l free at all =
    record {
      possible = (of_step s l steps.Space (λ step. step ≡ steps.Space) at refl, omega (arith, all), zero_unless (nat_lt s.base s.latest), zero_unless (is_writing s.sessions));
      undisturbed = tt;
      line = refl;
    }

pub versions_next : (s : State) (l : ℕ) → IsStepOf s l steps.Versions → IsNextOf s l (entries.Versions l)
unfolding IsPossible
versions_next s l at = record { possible = of_step s l steps.Versions (λ step. step ≡ steps.Versions) at refl; undisturbed = tt; line = refl }
