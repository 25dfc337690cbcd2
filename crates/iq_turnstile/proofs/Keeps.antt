-- Each kind of step keeps the rule.
use Rattle.std.proofs.Common.{◌≡◌, ◌≢◌, ℕ, suc, ◌+◌, ◌-◌, ◌%◌, ◌^◌, ◌<◌, List, [], ◌∷◌, ◌++◌, get_or, set, All, Option, Some, sym, refl, ap, ◌∙◌, subst, ⊎_elim, arith}
use mathlib.Core.Option.{Option as Slot, some, none}
use mathlib.Core.Logic.{dite}
use native.Mathlib.Decide.{ℕ_discrete}
use native.Mathlib.Nat.{mod-add-mod}
use lib.ListN.{get_elem?}
use Rattle.std.proofs.lemmas.List.Elements.{All-append, All-cons, All-nil}
use Rattle.atomic_table.specs.Table.{State, Me, step, keeps, takes, gives, Allows, Splits, Joins}
use Rattle.atomic_table.proofs.Lists.{at_set, set_here, set_else, set_again, at_longer, one_turn}
use Rattle.iq_turnstile.specs.declared.view.Stage.TheVariants.{Waiting, Holding}
use Rattle.iq_turnstile.specs.declared.view.View.{View}
use Rattle.iq_turnstile.specs.Notes.{IsDivided, IsTurn}
use Rattle.iq_turnstile.specs.Rule.{HasTicket, HoldsState, busy, FitsSeat, AreApart, IsRuled, view, idle_view}
use Rattle.iq_turnstile.specs.Steps.{draws, looks, advances, kept_half, given_half, joined, spent}
use Rattle.iq_turnstile.proofs.Views.{place, at_end, set_swap, sum_set, sum_snoc, sums_below, pairs_one, pairs_append}
use Rattle.iq_turnstile.proofs.Seats.{busy_has_part, ticket_below, holder_ticket, after_draw, after_take, after_advance, Pairs, swapped, none_apart, each_set, pairs_set, every, nobody_before}

module _ {S N : Type 0} (agrees : N → S → Type 0) (apart : N → N → Type 0) (both_ways : (n m : N) → apart n m → apart m n) (parts : ℕ) where
  abbrev pub Rule : State (Option S) (View S N) → Type 0
  Rule = IsRuled agrees apart parts

  abbrev pub table : List ℕ → List (Slot (Option S)) → List (View S N) → State (Option S) (View S N)
  table ws hs vs = record { words = ws; homes = hs; views = vs }

  -- fewer tickets are out than the words can tell apart
  few_out : (st : State (Option S) (View S N)) (law : Rule st) → law.drawn < law.served + 2 ^ 32
  few_out st law =
      let b = sums_below (λ (v : View S N). busy v.stage) (λ (v : View S N). v.parts) st.views (λ i v e. busy_has_part v.stage v.parts (λ z. ((law.each i v e).spent z).0)) in
      let o = law.out in let w = law.whole in let f = law.few in omega arith

  drawn_rule : (st : State (Option S) (View S N)) (id p : ℕ) (ns : List N) (law : Rule st) → 0 < p → get_elem? st.views id ≡ some (idle_view p ns)
      → Rule (table (set st.words 0 ((get_or st.words 0 0 + 1) % 2 ^ 64)) st.homes (set st.views id (view (Waiting law.drawn) p ns)))
  drawn_rule st id p ns law has at =
      let v : View S N = idle_view p ns in
      let w : View S N = view (Waiting law.drawn) p ns in
      let fits = law.each id v at in
      record {
        drawn = suc law.drawn;
        served = law.served;
        state = law.state;
        words = subst (λ (ws : List ℕ). set ws 0 ((get_or ws 0 0 + 1) % 2 ^ 64) ≡ suc law.drawn % 2 ^ 64 ∷ law.served % 2 ^ 64 ∷ []) (sym law.words)
            (ap (λ (n : ℕ). n ∷ law.served % 2 ^ 64 ∷ []) (mod-add-mod law.drawn (2 ^ 64) 1 ∙ ap (λ (n : ℕ). n % 2 ^ 64) (omega arith)));
        few = law.few;
        whole = let t = sum_set (λ (u : View S N). u.parts) st.views id v w at in let h = law.whole in omega arith;
        ahead = let a = law.ahead in omega arith;
        out = let t = sum_set (λ (u : View S N). busy u.stage) st.views id v w at in let h = law.out in omega arith;
        each = each_set agrees apart both_ways (λ (u : View S N). FitsSeat agrees apart (suc law.drawn) law.served law.state st.homes u) st.views id w
            (record { agree = fits.agree; within = fits.within; spent = λ z. absurd (omega arith); stage = (law.ahead, omega arith) })
            (λ j u ne e. let old = law.each j u e in record { agree = old.agree; within = old.within; spent = old.spent; stage = after_draw _ _ _ _ u.stage old.stage });
        pairs = pairs_set agrees apart both_ways st.views id w law.pairs (λ j u ne e.
            let old = law.pairs id j v u (λ same. ne (sym same)) at e in
            record { notes = old.notes; tickets = λ t a b. let below = ticket_below _ _ _ _ t u.stage (law.each j u e).stage b in absurd (omega arith) });
        home = λ nobody. law.home (nobody_before agrees apart both_ways st.views id v w at (λ h. h) nobody);
      }

  pub draws_allowed : (slots id p : ℕ) (ns : List N) (me : Me (Option S) (View S N)) → me ≡ (idle_view p ns, []) → 0 < p
      → Allows Rule slots id me 0 (λ n. (n + 1) % 2 ^ 64) (draws (step slots 0 1 0 none) me)
  draws_allowed slots id p ns me is has =
      subst (λ (m : Me (Option S) (View S N)). Allows Rule slots id m 0 (λ n. (n + 1) % 2 ^ 64) (draws (step slots 0 1 0 none) m)) (sym is) (λ st law size at fits. (
        view (Waiting law.drawn) p ns,
        keeps,
        tt,
        drawn_rule st id p ns law has at,
        (law.drawn, ap (λ (ws : List ℕ). get_or ws 0 0) law.words, refl),
      ))

  -- where nothing changes
  same_rule : (st : State (Option S) (View S N)) (id : ℕ) (v : View S N) (law : Rule st) → get_elem? st.views id ≡ some v → Rule (table (set st.words 1 (get_or st.words 1 0)) st.homes (set st.views id v))
  same_rule st id v law at =
      let words_again : set st.words 1 (get_or st.words 1 0) ≡ st.words = subst (λ (ws : List ℕ). set ws 1 (get_or ws 1 0) ≡ ws) (sym law.words) refl in
      let views_again : set st.views id v ≡ st.views = set_again st.views id v at in
      subst (λ (z : List ℕ × List (View S N)). Rule (table z.0 st.homes z.1)) (λ i. (sym words_again i, sym views_again i)) law

  -- where a seat has the ticket that is served, no other has the slot
  others_free : (st : State (Option S) (View S N)) (id : ℕ) (v : View S N) (law : Rule st) → get_elem? st.views id ≡ some v → HasTicket law.served v.stage
      → (j : ℕ) (u : View S N) → j ≢ id → get_elem? st.views j ≡ some u → HoldsState u.stage → ⊥
  others_free st id v law at mine j u ne e h = (law.pairs id j v u (λ same. ne (sym same)) at e).tickets law.served mine (holder_ticket _ _ _ _ u.stage (law.each j u e).stage h)

  at_home : (st : State (Option S) (View S N)) (id p t : ℕ) (ns : List N) (law : Rule st) → get_elem? st.views id ≡ some (view (Waiting t) p ns) → t ≡ law.served → st.homes ≡ some (Some law.state) ∷ []
  at_home st id p t ns law at mine = law.home (every agrees apart both_ways (λ (u : View S N). HoldsState u.stage → ⊥) st.views id (view (Waiting t) p ns) at (λ h. h) (others_free st id (view (Waiting t) p ns) law at mine))

  taken_rule : (st : State (Option S) (View S N)) (id p t : ℕ) (ns : List N) (law : Rule st) → 0 < p → get_elem? st.views id ≡ some (view (Waiting t) p ns) → t ≡ law.served
      → Rule (table (set st.words 1 (get_or st.words 1 0)) (set st.homes 0 none) (set st.views id (view (Holding t law.state) p ns)))
  taken_rule st id p t ns law has at mine =
      let v : View S N = view (Waiting t) p ns in
      let w : View S N = view (Holding t law.state) p ns in
      let fits = law.each id v at in
      let away : set st.homes 0 none ≡ none ∷ [] = subst (λ (hs : List (Slot (Option S))). set hs 0 none ≡ none ∷ []) (sym (at_home st id p t ns law at mine)) refl in
      record {
        drawn = law.drawn;
        served = law.served;
        state = law.state;
        words = subst (λ (ws : List ℕ). set ws 1 (get_or ws 1 0) ≡ law.drawn % 2 ^ 64 ∷ law.served % 2 ^ 64 ∷ []) (sym law.words) refl;
        few = law.few;
        whole = let t = sum_set (λ (u : View S N). u.parts) st.views id v w at in let h = law.whole in omega arith;
        ahead = law.ahead;
        out = let t = sum_set (λ (u : View S N). busy u.stage) st.views id v w at in let h = law.out in omega arith;
        each = each_set agrees apart both_ways (λ (u : View S N). FitsSeat agrees apart law.drawn law.served law.state (set st.homes 0 none) u) st.views id w
            (record { agree = fits.agree; within = fits.within; spent = λ z. absurd (omega arith); stage = (mine, (let b = fits.stage.1 in omega arith), refl, away) })
            (λ j u ne e. let old = law.each j u e in record { agree = old.agree; within = old.within; spent = old.spent; stage = after_take _ _ _ _ _ u.stage old.stage (others_free st id v law at mine j u ne e) });
        pairs = pairs_set agrees apart both_ways st.views id w law.pairs (λ j u ne e.
            let old = law.pairs id j v u (λ same. ne (sym same)) at e in
            record { notes = old.notes; tickets = old.tickets });
        home = λ nobody. absurd (nobody id w (set_here st.views id w (place st.views id v at)) tt);
      }

  pub looks_allowed : (slots id p t : ℕ) (ns : List N) (me : Me (Option S) (View S N)) → me ≡ (view (Waiting t) p ns, []) → 0 < p
      → Allows Rule slots id me 1 (λ n. n) (looks agrees (step slots 1 0 0 none) me)
  looks_allowed slots id p t ns me is has =
      subst (λ (m : Me (Option S) (View S N)). Allows Rule slots id m 1 (λ n. n) (looks agrees (step slots 1 0 0 none) m)) (sym is) (λ st law size at fits.
      let v : View S N = view (Waiting t) p ns in
      dite (ℕ_discrete (get_or st.words 1 0) (t % 2 ^ 64))
      (λ found.
      let seat = law.each id v at in
      let few = few_out st law in
      let word : law.served % 2 ^ 64 ≡ t % 2 ^ 64 = sym (ap (λ (ws : List ℕ). get_or ws 1 0) law.words) ∙ found in
      let same : law.served ≡ t = one_turn law.served t (2 ^ 64) seat.stage.0 (let b = seat.stage.1 in omega arith) word in
      let home = at_home st id p t ns law at (sym same) in (
        view (Holding t law.state) p ns,
        takes 0 (Some law.state),
        subst (λ (hs : List (Slot (Option S))). get_elem? hs 0 ≡ some (some (Some law.state))) (sym home) refl,
        taken_rule st id p t ns law has at (sym same),
        (λ u is_u. let t_is : t ≡ u = cc in (
          (λ _. (law.state, (λ i. (view (Holding (t_is i) law.state) p ns, (0, Some law.state) ∷ [])), seat.agree)),
          (λ ne. absurd (ne (found ∙ ap (λ (n : ℕ). n % 2 ^ 64) t_is))),
        )),
      ))
      (λ vain. (
        v,
        keeps,
        tt,
        same_rule st id v law at,
        (λ u is_u. let t_is : t ≡ u = cc in (
          (λ e. absurd (vain (e ∙ ap (λ (n : ℕ). n % 2 ^ 64) (sym t_is)))),
          (λ _. refl),
        )),
      )))

  advanced_rule : (may : N → S → S → N → Type 0) (st : State (Option S) (View S N)) (id p t : ℕ) (s y : S) (n m : N) (law : Rule st) → 0 < p → get_elem? st.views id ≡ some (view (Holding t s) p (n ∷ []))
      → IsTurn agrees apart may n m s y
      → Rule (table (set st.words 1 ((get_or st.words 1 0 + 1) % 2 ^ 64)) (set st.homes 0 (some (Some y))) (set st.views id (idle_view p (m ∷ []))))
  advanced_rule may st id p t s y n m law has at turn =
      let v : View S N = view (Holding t s) p (n ∷ []) in
      let w : View S N = idle_view p (m ∷ []) in
      let fits = law.each id v at in
      let mine = fits.stage.0 in
      let below = fits.stage.1 in
      let pair : (j : ℕ) (u : View S N) → j ≢ id → get_elem? st.views j ≡ some u → AreApart apart v u = λ j u ne e. law.pairs id j v u (λ same. ne (sym same)) at e in
      record {
        drawn = law.drawn;
        served = suc law.served;
        state = y;
        words = subst (λ (ws : List ℕ). set ws 1 ((get_or ws 1 0 + 1) % 2 ^ 64) ≡ law.drawn % 2 ^ 64 ∷ suc law.served % 2 ^ 64 ∷ []) (sym law.words)
            (ap (λ (k : ℕ). law.drawn % 2 ^ 64 ∷ k ∷ []) (mod-add-mod law.served (2 ^ 64) 1 ∙ ap (λ (k : ℕ). k % 2 ^ 64) (omega arith)));
        few = law.few;
        whole = let t = sum_set (λ (u : View S N). u.parts) st.views id v w at in let h = law.whole in omega arith;
        ahead = omega arith;
        out = let t = sum_set (λ (u : View S N). busy u.stage) st.views id v w at in let h = law.out in omega arith;
        each = each_set agrees apart both_ways (λ (u : View S N). FitsSeat agrees apart law.drawn (suc law.served) y (set st.homes 0 (some (Some y))) u) st.views id w
            (record { agree = All-cons (λ (k : N). agrees k y) m [] turn.agree (All-nil (λ (k : N). agrees k y)); within = pairs_one apart m; spent = λ z. absurd (omega arith); stage = tt })
            (λ j u ne e. let old = law.each j u e in record {
              agree = λ k d lt. turn.others_agree (get_or u.notes k d) ((pair j u ne e).notes 0 n (omega arith) k d lt) (subst (λ (x : S). agrees (get_or u.notes k d) x) (sym fits.stage.2) (old.agree k d lt));
              within = old.within;
              spent = old.spent;
              stage = after_advance _ _ _ _ _ _ u.stage old.stage ((pair j u ne e).tickets law.served mine);
            });
        pairs = pairs_set agrees apart both_ways st.views id w law.pairs (λ j u ne e. record {
          notes = All-cons (λ (x : N). All (apart x) u.notes) m [] (λ k d lt. turn.others_apart (get_or u.notes k d) ((pair j u ne e).notes 0 n (omega arith) k d lt)) (All-nil (λ (x : N). All (apart x) u.notes));
          tickets = λ t a b. a;
        });
        home = λ nobody. subst (λ (hs : List (Slot (Option S))). set hs 0 (some (Some y)) ≡ some (Some y) ∷ []) (sym fits.stage.3) refl;
      }

  pub advances_allowed : (may : N → S → S → N → Type 0) (slots id p t : ℕ) (s y : S) (n m : N) (told : List N) (me : Me (Option S) (View S N)) → me ≡ (view (Holding t s) p (n ∷ []), (0, Some y) ∷ []) → told ≡ m ∷ [] → 0 < p
      → IsTurn agrees apart may n m s y → Allows Rule slots id me 1 (λ k. (k + 1) % 2 ^ 64) (advances told (step slots 1 1 0 none) me)
  advances_allowed may slots id p t s y n m told me is told_is has turn =
      subst (λ (z : Me (Option S) (View S N) × List N). Allows Rule slots id z.0 1 (λ k. (k + 1) % 2 ^ 64) (advances z.1 (step slots 1 1 0 none) z.0)) (λ i. (sym is i, sym told_is i))
      (λ st law size at fits. (idle_view p (m ∷ []), gives, tt, advanced_rule may st id p t s y n m law has at turn, refl))

  split_rule : (st : State (Option S) (View S N)) (id p : ℕ) (n l r : N) (law : Rule st) → 1 < p → get_elem? st.views id ≡ some (idle_view p (n ∷ [])) → IsDivided agrees apart n l r law.state
      → Rule (table st.words st.homes (set st.views id (idle_view (p - 1) (l ∷ [])) ++ idle_view 1 (r ∷ []) ∷ []))
  split_rule st id p n l r law has at cut =
      let v : View S N = idle_view p (n ∷ []) in
      let w : View S N = idle_view (p - 1) (l ∷ []) in
      let x : View S N = idle_view 1 (r ∷ []) in
      let vs : List (View S N) = set st.views id w in
      let P : View S N → Type 0 = λ u. FitsSeat agrees apart law.drawn law.served law.state st.homes u in
      let agree_one : (k : N) → agrees k law.state → All (λ (z : N). agrees z law.state) (k ∷ []) = λ k h. All-cons (λ (z : N). agrees z law.state) k [] h (All-nil (λ (z : N). agrees z law.state)) in
      let pair : (j : ℕ) (u : View S N) → j ≢ id → get_elem? st.views j ≡ some u → AreApart apart v u = λ j u ne e. law.pairs id j v u (λ same. ne (sym same)) at e in
      let one_apart : (k : N) (q : ℕ) (u : View S N) → All (apart k) u.notes → AreApart apart (idle_view q (k ∷ [])) u =
      λ k q u h. record { notes = All-cons (λ (z : N). All (apart z) u.notes) k [] h (All-nil (λ (z : N). All (apart z) u.notes)); tickets = λ t a b. a } in
      let all_l : (j : ℕ) (u : View S N) → get_elem? vs j ≡ some u → P u = each_set agrees apart both_ways P st.views id w
      (record { agree = agree_one l cut.left_agrees; within = pairs_one apart l; spent = λ z. absurd (omega arith); stage = tt }) (λ j u ne e. law.each j u e) in
      let pairs_l : Pairs agrees apart both_ways vs = pairs_set agrees apart both_ways st.views id w law.pairs (λ j u ne e. one_apart l (p - 1) u (λ k d lt. cut.left_apart _ ((pair j u ne e).notes 0 n (omega arith) k d lt))) in
      let beside : (j : ℕ) (u : View S N) → get_elem? vs j ≡ some u → AreApart apart u x = each_set agrees apart both_ways (λ (u : View S N). AreApart apart u x) st.views id w
      (one_apart l (p - 1) x (All-cons (apart l) r [] cut.halves (All-nil (apart l))))
      (λ j u ne e. swapped agrees apart both_ways x u (one_apart r 1 u (λ k d lt. cut.right_apart _ ((pair j u ne e).notes 0 n (omega arith) k d lt)))) in
      record {
        drawn = law.drawn;
        served = law.served;
        state = law.state;
        words = law.words;
        few = law.few;
        whole = let t = sum_set (λ (u : View S N). u.parts) st.views id v w at in let k = sum_snoc (λ (u : View S N). u.parts) vs x in let h = law.whole in omega arith;
        ahead = law.ahead;
        out = let t = sum_set (λ (u : View S N). busy u.stage) st.views id v w at in let k = sum_snoc (λ (u : View S N). busy u.stage) vs x in let h = law.out in omega arith;
        each = λ i u e. ⊎_elim (λ h. all_l i u h) (λ h. subst P h.1 (record { agree = agree_one r cut.right_agrees; within = pairs_one apart r; spent = λ z. absurd (omega arith); stage = tt })) (at_end vs x u i e);
        pairs = λ i j a b ne ei ej. ⊎_elim
            (λ hi. ⊎_elim (λ hj. pairs_l i j a b ne hi hj) (λ hj. subst (λ (z : View S N). AreApart apart a z) hj.1 (beside i a hi)) (at_end vs x b j ej))
            (λ hi. ⊎_elim (λ hj. subst (λ (z : View S N). AreApart apart z b) hi.1 (swapped agrees apart both_ways b x (beside j b hj))) (λ hj. absurd (ne (hi.0 ∙ sym hj.0))) (at_end vs x b j ej))
            (at_end vs x a i ei);
        home = λ nobody. law.home (nobody_before agrees apart both_ways st.views id v w at (λ h. h) (λ i u e. nobody i u (at_longer vs (x ∷ []) i u e)));
      }

  pub splits_allowed : (left right : N → N) (divides : (n : N) (s : S) → agrees n s → IsDivided agrees apart n (left n) (right n) s) (id p : ℕ) (n : N) (me : Me (Option S) (View S N)) → me ≡ (idle_view p (n ∷ []), []) → 1 < p
      → Splits Rule id me.0 (kept_half left me.0) (given_half right me.0)
  splits_allowed left right divides id p n me is has =
      subst (λ (m : Me (Option S) (View S N)). Splits Rule id m.0 (kept_half left m.0) (given_half right m.0)) (sym is)
      (λ st law at. split_rule st id p n (left n) (right n) law has at (divides n law.state ((law.each id (idle_view p (n ∷ [])) at).agree 0 n (omega arith))))

  join_rule : (st : State (Option S) (View S N)) (id other p q : ℕ) (ns ms : List N) (law : Rule st) → other ≢ id → 0 < p → get_elem? st.views id ≡ some (idle_view p ns) → get_elem? st.views other ≡ some (idle_view q ms)
      → Rule (table st.words st.homes (set (set st.views other spent) id (idle_view (p + q) (ms ++ ns))))
  join_rule st id other p q ns ms law apart_ids has at_v at_w =
      let v : View S N = idle_view p ns in
      let w : View S N = idle_view q ms in
      let x : View S N = idle_view (p + q) (ms ++ ns) in
      let vs : List (View S N) = set st.views other spent in
      let at : get_elem? vs id ≡ some v = set_else st.views other id spent (λ e. apart_ids (sym e)) ∙ at_v in
      let P : View S N → Type 0 = λ u. FitsSeat agrees apart law.drawn law.served law.state st.homes u in
      let fits_v = law.each id v at_v in
      let fits_w = law.each other w at_w in
      let all_s : (j : ℕ) (u : View S N) → get_elem? vs j ≡ some u → P u = each_set agrees apart both_ways P st.views other spent
      (record { agree = All-nil (λ (z : N). agrees z law.state); within = λ i j d lt l. absurd (omega arith); spent = λ z. (refl, refl); stage = tt }) (λ j u ne e. law.each j u e) in
      let pairs_s : Pairs agrees apart both_ways vs = pairs_set agrees apart both_ways st.views other spent law.pairs (λ j u ne e. none_apart agrees apart both_ways 0 u) in
      record {
        drawn = law.drawn;
        served = law.served;
        state = law.state;
        words = law.words;
        few = law.few;
        whole =
            let t = sum_set (λ (u : View S N). u.parts) st.views other w spent at_w in
            let k = sum_set (λ (u : View S N). u.parts) vs id v x at in let h = law.whole in omega arith;
        ahead = law.ahead;
        out =
            let t = sum_set (λ (u : View S N). busy u.stage) st.views other w spent at_w in
            let k = sum_set (λ (u : View S N). busy u.stage) vs id v x at in let h = law.out in omega arith;
        each = each_set agrees apart both_ways P vs id x
            (record {
              agree = All-append (λ (z : N). agrees z law.state) ms ns fits_w.agree fits_v.agree;
              within = pairs_append apart ms ns fits_w.within fits_v.within (law.pairs other id w v apart_ids at_w at_v).notes;
              spent = λ z. absurd (omega arith);
              stage = tt;
            })
            (λ j u ne e. all_s j u e);
        pairs = pairs_set agrees apart both_ways vs id x pairs_s (λ j u ne e. ⊎_elim
            (λ h. subst (λ (z : View S N). AreApart apart x z) h.1 (swapped agrees apart both_ways spent x (none_apart agrees apart both_ways 0 x)))
            (λ h.
            let by_v = law.pairs id j v u (λ same. ne (sym same)) at_v h.1 in
            let by_w = law.pairs other j w u (λ same. h.0 (sym same)) at_w h.1 in
            record { notes = All-append (λ (z : N). All (apart z) u.notes) ms ns by_w.notes by_v.notes; tickets = λ t a b. a })
            (at_set st.views other j spent u e));
        home = λ nobody. law.home (nobody_before agrees apart both_ways st.views other w spent at_w (λ h. h) (nobody_before agrees apart both_ways vs id v x at (λ h. h) nobody));
      }

  pub joins_allowed : (id other p q : ℕ) (ns ms : List N) (me you : Me (Option S) (View S N)) → me ≡ (idle_view p ns, []) → you ≡ (idle_view q ms, []) → 0 < p → Joins Rule id me.0 other you.0 (joined me.0 you.0) spent
  joins_allowed id other p q ns ms me you is_me is_you has =
      subst (λ (z : Me (Option S) (View S N) × Me (Option S) (View S N)). Joins Rule id z.0.0 other z.1.0 (joined z.0.0 z.1.0) spent) (λ i. (sym is_me i, sym is_you i))
      (λ st law at_v differ at_w.
      let x : View S N = idle_view (p + q) (ms ++ ns) in
      let there : get_elem? st.views other ≡ some (idle_view q ms) = sym (set_else st.views id other x differ) ∙ at_w in
      subst (λ (vs : List (View S N)). Rule (table st.words st.homes vs)) (set_swap st.views other id spent x differ) (join_rule st id other p q ns ms law differ has at_v there))
