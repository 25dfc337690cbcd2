-- The entry with which a step goes on, where nothing disturbs it, but for numbers of blocks.
use Rattle.std.specs.Prelude.{◌≡◌, ◌≢◌, ◌<◌, ◌⊎◌, refl, ℕ, zero, suc, ◌+◌, ⊤, Bool, true, false, ◌&&◌, ◌||◌, List, [], ◌∷◌, Option, Some, None, nat_eq, find, map, if◌then◌else◌, IsSomeAnd}
use Rattle.std.specs.List.{slice_get}
use Rattle.std.specs.Cmp.Lexicographic.{pointwise}
use Rattle.std.proofs.Common.{◌∙◌, arith, ap, sym, inl, inr}
use Rattle.std.proofs.lemmas.Bool.{ne_eqb}
use Rattle.std.proofs.lemmas.Bool.Decides.{eqb_tells}
use Rattle.iq_base.specs.Shorts.{Name}
use Rattle.iq_base.specs.declared.refusals.Refusal.{Refusal}
use Rattle.iq_history.specs.declared.entries.Entry.{Entry}
use Rattle.iq_history.specs.declared.entries.Entry.TheVariants as entries
use Rattle.iq_model.specs.declared.scripts.Step.{Step}
use Rattle.iq_model.specs.declared.scripts.Step.TheVariants as steps
use Rattle.iq_conditions.specs.Servers.{same_name}
use Rattle.iq_replay.specs.State.{State, Node, Report}
use Rattle.iq_replay.specs.Nodes.{is_coordinator, node_named, node_position, floor_of, horizon_of, report_of}
use Rattle.iq_replay.specs.Refusals.{step_refusal}
use Rattle.iq_replay.specs.Asked.{IsSecondary}
use Rattle.iq_replay.specs.Changes.{with_taken}
use Rattle.iq_script_order.specs.Fixed.{no_census, is_among, AreDistinct}

-- NAMES OF NODES

pub same_name-refl : (name : Name) → same_name name name ≡ true
same_name-refl [] = refl
same_name-refl (b ∷ bs) = at_tell (eqb_tells b b) (same_name-refl bs)
  where
    at_tell : ((nat_eq b b ≡ true) × (b ≡ b)) ⊎ ((nat_eq b b ≡ false) × (b ≢ b)) → pointwise nat_eq bs bs ≡ true → (nat_eq b b && pointwise nat_eq bs bs) ≡ true
    at_tell (inl k) more = rw (k.0, more) refl
    at_tell (inr k) more = absurd (k.1 refl)

abbrev pub names_in : List Node → List Name
names_in nodes = map (λ (node : Node). node.name) nodes

-- the first node of a name from a place on, with its place
pub record Placed : Type 0 where
  pub place : ℕ
  pub node : Node

abbrev pub placed_from : ℕ → List Node → Name → Option Placed
placed_from k [] name = None
placed_from k (node ∷ nodes) name = if same_name node.name name then Some (record { place = k; node = node }) else placed_from (k + 1) nodes name

not_among : (name : Name) (nodes : List Node) (n : ℕ) (node : Node) → slice_get nodes n ≡ Some node → is_among name (names_in nodes) ≡ false → same_name name node.name ≡ false
not_among name [] n node is h = cc is
not_among name (first ∷ nodes) zero node is h = at_first (same_name name first.name) refl h
  where
    first_is : first ≡ node
    first_is = cc is

    at_first : (b : Bool) → same_name name first.name ≡ b → (b || is_among name (names_in nodes)) ≡ false → same_name name node.name ≡ false
    at_first true q k = cc k
    at_first false q k = rw (← first_is) q
not_among name (first ∷ nodes) (suc n) node is h = not_among name nodes n node is (at_first (same_name name first.name) h)
  where
    at_first : (b : Bool) → (b || is_among name (names_in nodes)) ≡ false → is_among name (names_in nodes) ≡ false
    at_first true k = cc k
    at_first false k = k

placed-is : (k : ℕ) (nodes : List Node) (n : ℕ) (node : Node) → slice_get nodes n ≡ Some node → AreDistinct (names_in nodes) → placed_from k nodes node.name ≡ Some (record { place = k + n; node = node })
placed-is k [] n node is h = cc is
placed-is k (first ∷ nodes) zero node is h = rw (first_is, same_name-refl node.name) (ap (λ (p : ℕ). Some (record { place = p; node = node })) (omega arith))
  where
    first_is : first ≡ node
    first_is = cc is
placed-is k (first ∷ nodes) (suc n) node is h =
    rw (not_among first.name nodes n node is h.0) (placed-is (k + 1) nodes n node is h.1 ∙ ap (λ (p : ℕ). Some (record { place = p; node = node })) (omega arith))

found-is : (nodes : List Node) (n : ℕ) (node : Node) → slice_get nodes n ≡ Some node → AreDistinct (names_in nodes) → find (λ (other : Node). same_name other.name node.name) nodes ≡ Some node
found-is [] n node is h = cc is
found-is (first ∷ nodes) zero node is h = rw (first_is, same_name-refl node.name) refl
  where
    first_is : first ≡ node
    first_is = cc is
found-is (first ∷ nodes) (suc n) node is h = rw (not_among first.name nodes n node is h.0) (found-is nodes n node is h.1)

-- STEPS

-- an entry but for its numbers of blocks
abbrev pub entry_uncounted : Entry → Entry
entry_uncounted (entries.Take l number horizon freed) = entries.Take l number horizon 0
entry_uncounted (entries.Own n l horizon freed) = entries.Own n l horizon 0
entry_uncounted (entries.Space l census) = entries.Space l no_census
entry_uncounted other = other

abbrev pub at_placed : ℕ → (ℕ → Node → Entry) → Option Placed → Entry
at_placed l go None = entries.Versions l
at_placed l go (Some placed) = go placed.place placed.node

abbrev pub report_by : State → ℕ → ℕ → Node → Bool → Entry
report_by s l n node true = entries.Own n l (horizon_of s) 0
report_by s l n node false = entries.Send n l s.next (floor_of s n node)

abbrev pub go_step : State → ℕ → Step → Entry
go_step s l (steps.Apply name) = at_placed l (λ n node. entries.Apply n l (node_position s.latest node + 1)) (placed_from 0 s.nodes name)
go_step s l (steps.Report name) = at_placed l (λ n node. report_by s l n node (is_coordinator node.kind)) (placed_from 0 s.nodes name)
go_step s l (steps.Lose number) = entries.Lose l number
go_step s l (steps.Take number) = entries.Take l number (horizon_of (with_taken (report_of number s.bag) s)) 0
go_step s l (steps.Restart name) = at_placed l (λ n node. entries.Restart n l (node.incarnation + 1)) (placed_from 0 s.nodes name)
go_step s l (steps.Exclude name) = at_placed l (λ n node. entries.Exclude n l (node.incarnation + 1)) (placed_from 0 s.nodes name)
go_step s l (steps.Include name) = at_placed l (λ n node. entries.Include n l s.latest) (placed_from 0 s.nodes name)
go_step s l steps.Space = entries.Space l no_census
go_step s l steps.Versions = entries.Versions l

abbrev pub step_by : ℕ → Option Refusal → Entry → Entry
step_by l None go = go
step_by l (Some cause) go = entries.Refused None l cause

abbrev pub next_step : State → ℕ → Step → Entry
next_step s l step = step_by l (step_refusal s step) (go_step s l step)

-- a node's step goes on with its entry, where no test refuses it
at_node_step : (s : State) (l n : ℕ) (node : Node) (go : ℕ → Node → Entry) → slice_get s.nodes n ≡ Some node → AreDistinct (names_in s.nodes) → at_placed l go (placed_from 0 s.nodes node.name) ≡ go n node
at_node_step s l n node go is distinct = ap (at_placed l go) (placed-is 0 s.nodes n node is distinct) ∙ ap (λ (k : ℕ). go k node) (omega arith)

named-is : (s : State) (n : ℕ) (node : Node) → slice_get s.nodes n ≡ Some node → AreDistinct (names_in s.nodes) → node_named s node.name ≡ Some node
named-is s n node is distinct = found-is s.nodes n node is distinct

pub step_apply : (s : State) (l n c : ℕ) (node : Node) → slice_get s.nodes n ≡ Some node → AreDistinct (names_in s.nodes) → node.excluded ≡ false → c ≡ node_position s.latest node + 1 → node_position s.latest node < s.latest
    → next_step s l (steps.Apply node.name) ≡ entries.Apply n l c
step_apply s l n c node is distinct included number behind =
    ap (λ (o : Option Refusal). step_by l o (go_step s l (steps.Apply node.name))) granted
    ∙ at_node_step s l n node _ is distinct ∙ ap (λ (k : ℕ). entries.Apply n l k) (sym number)
  where
    granted : step_refusal s (steps.Apply node.name) ≡ None
    granted = rw (named-is s n node is distinct, included, ne_eqb (node_position s.latest node) s.latest (omega (arith, behind))) refl

pub step_send : (s : State) (l n number floor : ℕ) (node : Node) → slice_get s.nodes n ≡ Some node → AreDistinct (names_in s.nodes) → IsSecondary node → number ≡ s.next → floor ≡ floor_of s n node
    → next_step s l (steps.Report node.name) ≡ entries.Send n l number floor
step_send s l n number floor node is distinct secondary next floor_is =
    ap (λ (o : Option Refusal). step_by l o (go_step s l (steps.Report node.name))) granted
    ∙ at_node_step s l n node _ is distinct ∙ ap (report_by s l n node) secondary.kind
    ∙ ap (λ (k : ℕ). entries.Send n l k (floor_of s n node)) (sym next) ∙ ap (λ (k : ℕ). entries.Send n l number k) (sym floor_is)
  where
    granted : step_refusal s (steps.Report node.name) ≡ None
    granted = rw (named-is s n node is distinct, secondary.included) refl

pub step_own : (s : State) (l n horizon : ℕ) (node : Node) → slice_get s.nodes n ≡ Some node → AreDistinct (names_in s.nodes) → node.excluded ≡ false → is_coordinator node.kind ≡ true → horizon ≡ horizon_of s
    → next_step s l (steps.Report node.name) ≡ entries.Own n l horizon 0
step_own s l n horizon node is distinct included kind horizon_is =
    ap (λ (o : Option Refusal). step_by l o (go_step s l (steps.Report node.name))) granted
    ∙ at_node_step s l n node _ is distinct ∙ ap (report_by s l n node) kind ∙ ap (λ (k : ℕ). entries.Own n l k 0) (sym horizon_is)
  where
    granted : step_refusal s (steps.Report node.name) ≡ None
    granted = rw (named-is s n node is distinct, included) refl

pub step_lose : (s : State) (l number : ℕ) → IsSomeAnd (report_of number s.bag) (λ report. ⊤) → next_step s l (steps.Lose number) ≡ entries.Lose l number
step_lose s l number h = at_report (report_of number s.bag) refl h
  where
    at_report : (o : Option Report) → report_of number s.bag ≡ o → IsSomeAnd o (λ report. ⊤) → next_step s l (steps.Lose number) ≡ entries.Lose l number
    at_report None is q = absurd q
    at_report (Some report) is q = rw is refl

pub step_take : (s : State) (l number horizon : ℕ) → IsSomeAnd (report_of number s.bag) (λ report. horizon ≡ horizon_of (with_taken (Some report) s)) → next_step s l (steps.Take number) ≡ entries.Take l number horizon 0
step_take s l number horizon h = at_report (report_of number s.bag) refl h
  where
    at_report : (o : Option Report) → report_of number s.bag ≡ o → IsSomeAnd o (λ report. horizon ≡ horizon_of (with_taken (Some report) s)) → next_step s l (steps.Take number) ≡ entries.Take l number horizon 0
    at_report None is q = absurd q
    at_report (Some report) is q = rw is (ap (λ (k : ℕ). entries.Take l number k 0) (sym q))

pub step_restart : (s : State) (l n incarnation : ℕ) (node : Node) → slice_get s.nodes n ≡ Some node → AreDistinct (names_in s.nodes) → IsSecondary node → incarnation ≡ node.incarnation + 1
    → next_step s l (steps.Restart node.name) ≡ entries.Restart n l incarnation
step_restart s l n incarnation node is distinct secondary number =
    ap (λ (o : Option Refusal). step_by l o (go_step s l (steps.Restart node.name))) granted
    ∙ at_node_step s l n node _ is distinct ∙ ap (λ (k : ℕ). entries.Restart n l k) (sym number)
  where
    granted : step_refusal s (steps.Restart node.name) ≡ None
    granted = rw (named-is s n node is distinct, secondary.kind, secondary.included) refl

pub step_exclude : (s : State) (l n incarnation : ℕ) (node : Node) → slice_get s.nodes n ≡ Some node → AreDistinct (names_in s.nodes) → IsSecondary node → incarnation ≡ node.incarnation + 1
    → next_step s l (steps.Exclude node.name) ≡ entries.Exclude n l incarnation
step_exclude s l n incarnation node is distinct secondary number =
    ap (λ (o : Option Refusal). step_by l o (go_step s l (steps.Exclude node.name))) granted
    ∙ at_node_step s l n node _ is distinct ∙ ap (λ (k : ℕ). entries.Exclude n l k) (sym number)
  where
    granted : step_refusal s (steps.Exclude node.name) ≡ None
    granted = rw (named-is s n node is distinct, secondary.kind, secondary.included) refl

pub step_include : (s : State) (l n c : ℕ) (node : Node) → slice_get s.nodes n ≡ Some node → AreDistinct (names_in s.nodes) → is_coordinator node.kind ≡ false → node.excluded ≡ true → c ≡ s.latest
    → next_step s l (steps.Include node.name) ≡ entries.Include n l c
step_include s l n c node is distinct kind excluded number =
    ap (λ (o : Option Refusal). step_by l o (go_step s l (steps.Include node.name))) granted
    ∙ at_node_step s l n node _ is distinct ∙ ap (λ (k : ℕ). entries.Include n l k) (sym number)
  where
    granted : step_refusal s (steps.Include node.name) ≡ None
    granted = rw (named-is s n node is distinct, kind, excluded) refl

pub step_refused : (s : State) (l : ℕ) (step : Step) (cause : Refusal) → step_refusal s step ≡ Some cause → next_step s l step ≡ entries.Refused None l cause
step_refused s l step cause h = ap (λ (o : Option Refusal). step_by l o (go_step s l step)) h
