-- Where a run starts: each number is left at one place.
use Rattle.std.specs.Prelude.{◌≡◌, ◌≢◌, ◌⊎◌, ◌<◌, refl, ℕ, zero, suc, ◌+◌, Bool, true, false, ◌||◌, List, [], ◌∷◌, Option, Some, None, filter, map, nat_eq, is_none, if◌then◌else◌}
use Rattle.std.specs.List.{slice_get}
use Rattle.std.specs.Option.{option_map}
use Rattle.std.proofs.Common.{◌∙◌, arith, ap, sym, inl, inr}
use Rattle.std.proofs.lemmas.Bool.{ne_eqb}
use Rattle.std.proofs.lemmas.Bool.Decides.{eqb_tells}
use Rattle.iq_base.specs.declared.nodes.NodeSpec.{NodeSpec}
use Rattle.iq_base.specs.declared.nodes.SessionSpec.{SessionSpec}
use Rattle.iq_model.specs.declared.replies.Reply.{Reply}
use Rattle.iq_model.specs.declared.scripts.Line.{Line}
use Rattle.iq_model.specs.declared.scripts.Script.{Script}
use Rattle.iq_statements.specs.Tables.{Database}
use Rattle.iq_replay.specs.State.{State, Session, Node}
use Rattle.iq_replay.specs.Start.{start, node_start, is_place, is_of, is_step, session_start, sessions_from}
use Rattle.iq_replay.specs.Histories.{reply_in, session_replies, replies_of, replies}
use Rattle.iq_script_order.specs.Fixed.{Ascend, IsNumberedScript, reply_uncounted, replies_uncounted}
use Rattle.iq_script_order.proofs.Left.{has_number, left_in}
use Rattle.iq_script_order.proofs.Steps.{names_in}
use Rattle.iq_script_order.proofs.Sound.{IsNumbered, IsSoundSession, IsSound}
use Rattle.iq_script_order.proofs.Same.{plain, Same}

-- NUMBERS OF A SCRIPT

-- numbers that ascend above one don't have it
above_none : (n low : ℕ) (lines : List Line) → Ascend low lines → (n < low) ⊎ (n ≡ low) → has_number n lines ≡ false
above_none n low [] h k = refl
above_none n low (line ∷ lines) h k = rw (ne_eqb line.number n (not_same k)) (above_none n line.number lines h.1 (inl (below k)))
  where
    below : (n < low) ⊎ (n ≡ low) → n < line.number
    below (inl q) = omega (arith, q, h.0)
    below (inr q) = omega (arith, q, h.0)

    not_same : (n < low) ⊎ (n ≡ low) → line.number ≢ n
    not_same q r = absurd (omega (arith, below q, r))

-- what some lines have, all have
has_filter : (n : ℕ) (P : Line → Bool) (lines : List Line) → has_number n (filter P lines) ≡ true → has_number n lines ≡ true
has_filter n P [] h = h
has_filter n P (line ∷ lines) h = at_kept (has_filter n P lines) (P line) refl
  where
    or_right : (a b : Bool) → b ≡ true → (a || b) ≡ true
    or_right true b k = refl
    or_right false b k = k

    at_first : (b : Bool) → nat_eq line.number n ≡ b → (b || has_number n (filter P lines)) ≡ true → (has_number n (filter P lines) ≡ true → has_number n lines ≡ true) → (b || has_number n lines) ≡ true
    at_first true q k more = refl
    at_first false q k more = more k

    at_kept : (has_number n (filter P lines) ≡ true → has_number n lines ≡ true) → (b : Bool) → P line ≡ b → has_number n (line ∷ lines) ≡ true
    at_kept more true q = at_first (nat_eq line.number n) refl (rw q at h) more
    at_kept more false q = or_right (nat_eq line.number n) (has_number n lines) (more (rw q at h))

-- two selections of lines that have one number have its line
pub record Both (P Q : Line → Bool) : Type 0 where
  pub line : Line
  pub first : P line ≡ true
  pub second : Q line ≡ true

one_line : (n low : ℕ) (P Q : Line → Bool) (lines : List Line) → Ascend low lines → has_number n (filter P lines) ≡ true → has_number n (filter Q lines) ≡ true → Both P Q
one_line n low P Q [] ascend h k = cc h
one_line n low P Q (line ∷ lines) ascend h k = at_number (one_line n line.number P Q lines ascend.1) (eqb_tells line.number n)
  where
    -- the line itself is kept, since none behind it has its number
    kept : (R : Line → Bool) → line.number ≡ n → has_number n (filter R (line ∷ lines)) ≡ true → R line ≡ true
    kept R same has = at_kept (R line) refl
      where
        none : has_number n (filter R lines) ≡ true → ⊥
        none q = cc (has_filter n R lines q, above_none n line.number lines ascend.1 (inr (sym same)))

        at_kept : (b : Bool) → R line ≡ b → R line ≡ true
        at_kept true q = q
        at_kept false q = absurd (none (rw q at has))

    -- a number that isn't the line's is one of those behind it
    behind : (R : Line → Bool) → nat_eq line.number n ≡ false → has_number n (filter R (line ∷ lines)) ≡ true → has_number n (filter R lines) ≡ true
    behind R other has = at_kept (R line) refl
      where
        at_kept : (b : Bool) → R line ≡ b → has_number n (filter R lines) ≡ true
        at_kept true q = rw (q, other) at has
        at_kept false q = rw q at has

    at_number : (has_number n (filter P lines) ≡ true → has_number n (filter Q lines) ≡ true → Both P Q) → ((nat_eq line.number n ≡ true) × (line.number ≡ n)) ⊎ ((nat_eq line.number n ≡ false) × (line.number ≢ n)) → Both P Q
    at_number more (inl e) = record { line = line; first = kept P e.1 h; second = kept Q e.1 k }
    at_number more (inr e) = more (behind P e.0 h) (behind Q e.0 k)

-- the lines of one session aren't another's, nor steps
one_place : (p q : ℕ) (o : Option ℕ) → is_place p o ≡ true → is_place q o ≡ true → p ≡ q
one_place p q None h k = cc h
one_place p q (Some s) h k = at_tell (eqb_tells s p) (eqb_tells s q)
  where
    at_tell : ((nat_eq s p ≡ true) × (s ≡ p)) ⊎ ((nat_eq s p ≡ false) × (s ≢ p)) → ((nat_eq s q ≡ true) × (s ≡ q)) ⊎ ((nat_eq s q ≡ false) × (s ≢ q)) → p ≡ q
    at_tell (inl a) (inl b) = sym a.1 ∙ b.1
    at_tell (inl a) (inr b) = cc (b.0, k)
    at_tell (inr a) b = cc (a.0, h)

no_step : (p : ℕ) (o : Option ℕ) → is_place p o ≡ true → is_none o ≡ true → ⊥
no_step p None h k = cc h
no_step p (Some s) h k = cc k

-- the lines left to a session at the start: its own, or none where there is no such session
left_start : (n k p : ℕ) (lines : List Line) (specs : List SessionSpec) → has_number n (left_in (slice_get (sessions_from k lines specs) p)) ≡ true → has_number n (filter (is_of (k + p)) lines) ≡ true
left_start n k p lines [] h = cc h
left_start n k zero lines (spec ∷ specs) h = ap (λ (m : ℕ). has_number n (filter (is_of m) lines)) (at_sum k) ∙ h
  where
    at_sum : (k : ℕ) → k + 0 ≡ k
    at_sum k = omega arith
left_start n k (suc p) lines (spec ∷ specs) h = ap (λ (m : ℕ). has_number n (filter (is_of m) lines)) (at_sum k p) ∙ left_start n (k + 1) p lines specs h
  where
    at_sum : (k p : ℕ) → k + suc p ≡ k + 1 + p
    at_sum k p = omega arith

numbered_start : (blocks : ℕ) (told : Bool) (script : Script) (opening : Database) → Ascend 0 script.lines → IsNumbered (start blocks told script opening)
numbered_start blocks told script opening ascend = record {
  once = λ p q n h k. at_both p q (one_line n 0 (is_of (0 + p)) (is_of (0 + q)) script.lines ascend (left_start n 0 p script.lines script.sessions h) (left_start n 0 q script.lines script.sessions k));
  apart = λ p n h k. at_step p (one_line n 0 (is_of (0 + p)) is_step script.lines ascend (left_start n 0 p script.lines script.sessions h) k);
}
  where
    at_both : (p q : ℕ) → Both (is_of (0 + p)) (is_of (0 + q)) → p ≡ q
    at_both p q b = omega (arith, one_place (0 + p) (0 + q) b.line.session b.first b.second)

    at_step : (p : ℕ) → Both (is_of (0 + p)) is_step → ⊥
    at_step p b = no_step (0 + p) b.line.session b.first b.second

-- NODES AND SESSIONS AT THE START

names_start : (specs : List NodeSpec) → names_in (map node_start specs) ≡ map (λ (node : NodeSpec). node.name) specs
names_start [] = refl
names_start (spec ∷ specs) = rw (names_start specs) refl

included_start : (specs : List NodeSpec) (n : ℕ) (node : Node) → slice_get (map node_start specs) n ≡ Some node → node.excluded ≡ false
included_start [] n node is = cc is
included_start (spec ∷ specs) zero node is = at_same (node_start spec) refl (cc is)
  where
    at_same : (this : Node) → this.excluded ≡ false → this ≡ node → node.excluded ≡ false
    at_same this q same = rw (← same) q
included_start (spec ∷ specs) (suc n) node is = included_start specs n node is

sessions_start : (nodes : List Node) (k p : ℕ) (lines : List Line) (specs : List SessionSpec) (session : Session) → slice_get (sessions_from k lines specs) p ≡ Some session → IsSoundSession nodes session
sessions_start nodes k p lines [] session is = cc is
sessions_start nodes k zero lines (spec ∷ specs) session is = at_same (session_start k lines spec) (record { included = tt; head = tt }) (cc is)
  where
    at_same : (this : Session) → IsSoundSession nodes this → this ≡ session → IsSoundSession nodes session
    at_same this q same = rw (← same) q
sessions_start nodes k (suc p) lines (spec ∷ specs) session is = sessions_start nodes (k + 1) p lines specs session is

pub sound_start : (blocks : ℕ) (told : Bool) (script : Script) (opening : Database) → IsNumberedScript script → IsSound (start blocks told script opening)
sound_start blocks told script opening h = record {
  halted = refl;
  numbers = numbered_start blocks told script opening h.numbers;
  nodes = record { distinct = rw (names_start script.nodes) h.names; coordinators = λ n node is kind. included_start script.nodes n node is };
  sessions = λ p session is. sessions_start (map node_start script.nodes) 0 p script.lines script.sessions session is;
}

-- REPLIES

reply_plain : (n : ℕ) (rs : List Reply) → option_map reply_uncounted (reply_in n rs) ≡ reply_in n (plain rs)
reply_plain n [] = refl
reply_plain n (r ∷ rs) = at_line (nat_eq r.line n) (reply_plain n rs)
  where
    at_line : (b : Bool) → option_map reply_uncounted (reply_in n rs) ≡ reply_in n (plain rs) → option_map reply_uncounted (if b then Some r else reply_in n rs) ≡ (if b then Some (reply_uncounted r) else reply_in n (plain rs))
    at_line true more = refl
    at_line false more = more

reply_same : (s t : State) (n : ℕ) (o : Option ℕ) → Same s t → option_map reply_uncounted (reply_in n (replies_of t o)) ≡ option_map reply_uncounted (reply_in n (replies_of s o))
reply_same s t n None h = reply_plain n t.replies ∙ ap (reply_in n) h.replies ∙ sym (reply_plain n s.replies)
reply_same s t n (Some place) h = ap (λ (sessions : List Session). option_map reply_uncounted (reply_in n (session_replies (slice_get sessions place)))) (ap (λ (u : State). u.sessions) h.rest)

pub replies_same : (s t : State) (lines : List Line) → Same s t → replies_uncounted (replies t lines) ≡ replies_uncounted (replies s lines)
unfolding replies
replies_same s t [] h = refl
replies_same s t (line ∷ lines) h =
    ap (λ (o : Option Reply). o ∷ replies_uncounted (replies t lines)) (reply_same s t line.number line.session h)
    ∙ ap (λ (more : List (Option Reply)). option_map reply_uncounted (reply_in line.number (replies_of s line.session)) ∷ more) (replies_same s t lines h)
