-- States that are the same but for numbers of blocks that steps were answered.
use Rattle.std.specs.Prelude.{◌≡◌, refl, ℕ, zero, suc, List, [], ◌∷◌, ◌++◌, Some, None, map}
use Rattle.std.proofs.Common.{◌∙◌, ap, sym}
use Rattle.iq_history.specs.declared.entries.Entry.{Entry}
use Rattle.iq_history.specs.declared.entries.Entry.TheVariants as entries
use Rattle.iq_model.specs.declared.replies.Reply.{Reply}
use Rattle.iq_model.specs.declared.replies.Said.{Said}
use Rattle.iq_replay.specs.State.{State}
use Rattle.iq_replay.specs.Changes.{replies_with}
use Rattle.iq_replay.specs.Entries.{change}
use Rattle.iq_script_order.specs.Fixed.{uncounted, reply_uncounted}
use Rattle.iq_script_order.proofs.Steps.{entry_uncounted}

abbrev pub with_replies : List Reply → State → State
with_replies replies s = record s { replies = replies }

abbrev pub plain : List Reply → List Reply
plain replies = map reply_uncounted replies

pub record Same (s t : State) : Type 0 where
  pub rest : t ≡ with_replies t.replies s
  pub replies : plain t.replies ≡ plain s.replies

pub Same-refl : (s : State) → Same s s
Same-refl s = record { rest = refl; replies = refl }

pub Same-sym : (s t : State) → Same s t → Same t s
Same-sym s t h = record { rest = sym (ap (with_replies s.replies) h.rest); replies = sym h.replies }

pub Same-trans : (s t u : State) → Same s t → Same t u → Same s u
Same-trans s t u h k = record { rest = k.rest ∙ ap (with_replies u.replies) h.rest; replies = k.replies ∙ h.replies }

plain-append : (rs qs : List Reply) → plain (rs ++ qs) ≡ plain rs ++ plain qs
plain-append [] qs = refl
plain-append (r ∷ rs) qs = ap (λ (more : List Reply). reply_uncounted r ∷ more) (plain-append rs qs)

-- a step is answered the same but for numbers of blocks
plain_with : (l : ℕ) (what other : Said) (rs qs : List Reply) → uncounted what ≡ uncounted other → plain rs ≡ plain qs → plain (replies_with l what rs) ≡ plain (replies_with l other qs)
plain_with zero what other rs qs same before = before
plain_with (suc l) what other rs qs same before =
    plain-append rs _ ∙ ap (λ (front : List Reply). front ++ plain (record { line = suc l; said = what } ∷ [])) before
    ∙ ap (λ (told : Said). plain qs ++ record { line = suc l; said = told } ∷ []) same ∙ sym (plain-append qs _)

pub change_uncounted : (s : State) (e : Entry) → Same (change s e) (change s (entry_uncounted e))
unfolding change
change_uncounted s (entries.Take l number horizon freed) = record { rest = refl; replies = plain_with l _ _ s.replies s.replies refl refl }
change_uncounted s (entries.Own n l horizon freed) = record { rest = refl; replies = plain_with l _ _ s.replies s.replies refl refl }
change_uncounted s (entries.Space l census) = record { rest = refl; replies = plain_with l _ _ s.replies s.replies refl refl }
change_uncounted s other = Same-refl _

change_with : (s : State) (replies : List Reply) (e : Entry) → plain replies ≡ plain s.replies → Same (change s e) (change (with_replies replies s) e)
unfolding change
change_with s replies (entries.Refused None l cause) same = record { rest = refl; replies = plain_with l _ _ replies s.replies refl same }
change_with s replies (entries.Refused (Some q) l cause) same = record { rest = refl; replies = same }
change_with s replies (entries.Apply n l c) same = record { rest = refl; replies = plain_with l _ _ replies s.replies refl same }
change_with s replies (entries.Send n l number floor) same = record { rest = refl; replies = plain_with l _ _ replies s.replies refl same }
change_with s replies (entries.Lose l number) same = record { rest = refl; replies = plain_with l _ _ replies s.replies refl same }
change_with s replies (entries.Take l number horizon freed) same = record { rest = refl; replies = plain_with l _ _ replies s.replies refl same }
change_with s replies (entries.Own n l horizon freed) same = record { rest = refl; replies = plain_with l _ _ replies s.replies refl same }
change_with s replies (entries.Restart n l incarnation) same = record { rest = refl; replies = plain_with l _ _ replies s.replies refl same }
change_with s replies (entries.Exclude n l incarnation) same = record { rest = refl; replies = plain_with l _ _ replies s.replies refl same }
change_with s replies (entries.Include n l c) same = record { rest = refl; replies = plain_with l _ _ replies s.replies refl same }
change_with s replies (entries.Space l census) same = record { rest = refl; replies = plain_with l _ _ replies s.replies refl same }
change_with s replies (entries.Versions l) same = record { rest = refl; replies = plain_with l _ _ replies s.replies refl same }
change_with s replies other same = record { rest = refl; replies = same }

pub change_same : (s t : State) (e : Entry) → Same s t → Same (change s e) (change t e)
change_same s t e h = rw h.rest (change_with s t.replies e h.replies)

-- entries that are the same but for numbers of blocks change states that are the same to such
pub change_both : (s t : State) (e f : Entry) → Same s t → entry_uncounted e ≡ entry_uncounted f → Same (change s e) (change t f)
change_both s t e f h same =
    Same-trans _ _ _ (change_uncounted s e)
    (Same-trans _ _ _ (rw same (Same-refl _))
    (Same-trans _ _ _ (Same-sym _ _ (change_uncounted s f)) (change_same s t f h)))
