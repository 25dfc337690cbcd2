-- Equal kinds are one.
use Rattle.std.proofs.Common.{◌≡◌, true, refl, ap}
use denote.Enum.Bare.{same_true, true_same}
use Rattle.iq_tokens.specs.contracts.tokens.Mark.{the_type}
use Rattle.iq_tokens.specs.declared.tokens.Mark.{Mark}
use Rattle.iq_tokens.specs.declared.tokens.Kind.{Kind}
use Rattle.iq_tokens.specs.declared.tokens.Kind.TheVariants as kind
use Rattle.iq_tokens.specs.Kinds.{same_mark, same}

pub same_mark_is : (j k : Mark) → same_mark j k ≡ true → j ≡ k
unfolding same_mark
same_mark_is j k h = same_true the_type tt j k h

pub is_same_mark : (k : Mark) → same_mark k k ≡ true
unfolding same_mark
is_same_mark k = true_same the_type k k refl

pub same_is : (j k : Kind) → same j k ≡ true → j ≡ k
unfolding same
same_is (kind.Mark a) (kind.Mark b) h = ap (λ (m : Mark). kind.Mark m) (same_mark_is a b h)
same_is (kind.Mark a) kind.Name h = absurd cc
same_is (kind.Mark a) kind.Number h = absurd cc
same_is (kind.Mark a) kind.Text h = absurd cc
same_is kind.Name (kind.Mark b) h = absurd cc
same_is kind.Name kind.Name h = refl
same_is kind.Name kind.Number h = absurd cc
same_is kind.Name kind.Text h = absurd cc
same_is kind.Number (kind.Mark b) h = absurd cc
same_is kind.Number kind.Name h = absurd cc
same_is kind.Number kind.Number h = refl
same_is kind.Number kind.Text h = absurd cc
same_is kind.Text (kind.Mark b) h = absurd cc
same_is kind.Text kind.Name h = absurd cc
same_is kind.Text kind.Number h = absurd cc
same_is kind.Text kind.Text h = refl

pub is_same : (k : Kind) → same k k ≡ true
unfolding same
is_same (kind.Mark m) = is_same_mark m
is_same kind.Name = refl
is_same kind.Number = refl
is_same kind.Text = refl
