-- A session's node moves to a commit.
use Rattle.std.specs.Prelude.{◌≡◌, ◌<◌, refl, ℕ, zero, suc, List, [], ◌∷◌, Some, length, slice_index_or, slice_set}
use Rattle.std.specs.List.{slice_get, AllByRecursion}
use Rattle.std.proofs.Common.{arith, ap}
use Rattle.iq_replay.specs.State.{Session, Node, changed_at, moved_to}
use Rattle.iq_replay.specs.Changes.{nodes_at}
use Rattle.iq_sessions.specs.Bare.{At}

pub set_is_changed : {X : Type 0} (n : ℕ) (f : X → X) (xs : List X) (x y : X) → n < length xs → x ≡ slice_index_or xs n x → y ≡ f x → slice_set xs n y ≡ changed_at n f xs
set_is_changed n f [] x y h was is = absurd (omega (arith, h))
set_is_changed zero f (z ∷ xs) x y h was is = rw (is, was) refl
set_is_changed (suc n) f (z ∷ xs) x y h was is = ap (λ ys. z ∷ ys) (set_is_changed n f xs x y (omega (arith, h)) was is)

pub nodes_moved : (ss : List Session) (n m c : ℕ) (x : Session) (nodes : List Node) → slice_get ss n ≡ Some x → At n ss (λ session. m ≡ session.node) → nodes_at (slice_get ss n) c nodes ≡ changed_at m (moved_to c) nodes
nodes_moved ss n m c x nodes found node = rw (found, rw found at node) refl

pub node_within : (limit : ℕ) (ss : List Session) (n m : ℕ) (x : Session) → AllByRecursion (λ (session : Session). session.node < limit) ss → slice_get ss n ≡ Some x → At n ss (λ session. m ≡ session.node) → m < limit
node_within limit [] n m x all found node = absurd node
node_within limit (s ∷ ss) zero m x all found node = rw node all.0
node_within limit (s ∷ ss) (suc n) m x all found node = node_within limit ss n m x all.1 found node

pub changed_long : {X : Type 0} (n : ℕ) (f : X → X) (xs : List X) → length (changed_at n f xs) ≡ length xs
changed_long n f [] = refl
changed_long zero f (x ∷ xs) = refl
changed_long (suc n) f (x ∷ xs) = ap suc (changed_long n f xs)
