-- The calls of a function in a context have as many copies as the function's sites in the game.
use Rattle.std.proofs.Common.{◌≡◌, ℕ, suc, ◌+◌, ◌≤◌, ◌==◌, Bool, true, false, cond, List, [], ◌∷◌, ◌++◌, filter, length, map, Option, Some, None, refl, sym, ap, ap₂, subst, ◌∙◌, arith}
use Rattle.std.proofs.lemmas.Bool.{and_parts, both_ways}
use Rattle.std.proofs.lemmas.List.Sums.{sum_by-cons}
use Rattle.std.specs.List.{sum_by}
use Rattle.std.specs.Prelude.{slice_get}
use Rattle.cv_syntax_trees.specs.declared.head.Head.{Head}
use Rattle.cv_syntax_trees.specs.declared.head.Head.TheVariants.{Call as CallHead, Event, If, Let, New, Out}
use Rattle.cv_syntax_trees.specs.Tree.{Tree, Empty, Node, first_place, second_place}
use Rattle.cv_syntax_trees.proofs.lists.Options.{slice_get_map}
use Rattle.cv_syntax_trees.proofs.lists.Places.{slice_get_append_left, slice_get_append_right}
use Rattle.cv_meaning.specs.Interpretation.{Interpretation}
use Rattle.cv_scope_rules.specs.Context.{cell_of, first_position, replications_below, second_position}
use Rattle.cv_scope_rules.specs.Phrases.{Body, Inputs, Message, Phrase, Term, Terms, is_oracle_phrase, is_phrase, parts}
use Rattle.cv_scope_rules.specs.declared.position.Position.{Position}
use Rattle.cv_scope_runs.proofs.Rows.{placed, position_of}
use Rattle.cv_scene.specs.Apt.{inside}
use Rattle.cv_scene.specs.Contexts.{after_calls, calls_of, context_in, in_context, is_statement, parameters_of}
use Rattle.cv_scene.specs.Instances.{Call, call_at}
use Rattle.cv_scene.specs.Reductions.{Reduction, context_of_game, is_coin, matching, sites}
use Rattle.cv_scene.specs.Sites.{Site, is_guard, sites_in}
use Rattle.cv_match_laws.proofs.values.Numbers.{context}
use Rattle.cv_rule_fresh.specs.collisions.Chances.{copies}
use Rattle.cv_context_runs.proofs.instances.Statements.{AreSame, below_message, below_term, below_terms}
use Rattle.cv_context_laws.proofs.calls.Games.{inside_length, no_row}
use Rattle.cv_context_laws.proofs.shape.Terms.{children, same_parts}
use Rattle.cv_context_files.specs.counts.Counts.{calls_function, is_position}
use Rattle.cv_context_files.proofs.counts.Copies.{AreAmongOracles, copies_in, guard_terms, is_terms, terms_none}
use Rattle.cv_context_files.proofs.counts.Nodes.{behind, calls_worth, cell_none, inner, key_worth}

-- a statement has terms of its own alone
statement_terms : (σ : Phrase) (h : Head) (q : Phrase × Phrase) → parts σ h ≡ Some q → is_statement h ≡ true → is_terms q.0 ≡ true
statement_terms Body (Let x T) q e s = let z : (Term, Body) ≡ q = cc in subst (λ (p : Phrase × Phrase). is_terms p.0 ≡ true) z refl
statement_terms Body If q e s = let z : q.0 ≡ Term = cc in subst (λ p. is_terms p ≡ true) (sym z) refl
statement_terms Body (Event v) q e s = let z : (Terms, Body) ≡ q = cc in subst (λ (p : Phrase × Phrase). is_terms p.0 ≡ true) z refl
statement_terms Body (Out c) q e s = let z : (Message, Inputs) ≡ q = cc in subst (λ (p : Phrase × Phrase). is_terms p.0 ≡ true) z refl
statement_terms σ (Let x T) q e s = no_row q e
statement_terms σ If q e s = no_row q e
statement_terms σ (Event v) q e s = no_row q e
statement_terms σ (Out c) q e s = no_row q e
statement_terms σ h q e s = absurd (both_ways _ refl s)

module _ (r : Reduction) (i : Interpretation) (k : ℕ) where
  abbrev pub functions : List ℕ
  functions = map (λ (c : Site). c.call.position) (sites r)

  abbrev P : Head → Bool
  P = calls_function functions k

  pub among : AreAmongOracles P
  among (CallHead x l) e = refl
  among h e = absurd (both_ways _ refl e)

  -- how many copies the function's sites have among these

  abbrev here_worth : Site → ℕ
  here_worth s = cond (s.call.position == k) (copies i (parameters_of s.replications)) 0

  abbrev worth : List Site → ℕ
  worth [] = 0
  worth (s ∷ ss) = here_worth s + worth ss

  worth_append : (xs ys : List Site) → worth (xs ++ ys) ≡ worth xs + worth ys
  worth_append [] ys = let z : worth ys ≡ 0 + worth ys = omega arith in z
  worth_append (x ∷ xs) ys = let e = worth_append xs ys in let z : here_worth x + worth (xs ++ ys) ≡ here_worth x + worth xs + worth ys = omega (arith, e) in z

  pub worth_is : (ss : List Site) → worth ss ≡ sum_by (copies i) (calls_of ss k)
  worth_is [] = refl
  worth_is (s ∷ ss) = go (s.call.position == k) (worth_is ss)
    where
      rest : List Site
      rest = filter (λ (c : Site). c.call.position == k) ss

      go : (b : Bool) → worth ss ≡ sum_by (copies i) (map (λ (c : Site). parameters_of c.replications) rest) → cond b (copies i (parameters_of s.replications)) 0 + worth ss ≡ sum_by (copies i) (map (λ (c : Site). parameters_of c.replications) (cond b (s ∷ rest) rest))
      go true e = ap (λ n. copies i (parameters_of s.replications) + n) e ∙ sym (sum_by-cons (copies i) (parameters_of s.replications) (map (λ (c : Site). parameters_of c.replications) rest))
      go false e = let z : 0 + worth ss ≡ worth ss = omega arith in z ∙ e

  -- sites that are those of the game from a number on

  abbrev AreFrom : ℕ → List Site → Type 0
  AreFrom j ss = (n : ℕ) (s : Site) → slice_get ss n ≡ Some s → slice_get (sites r) (j + n) ≡ Some s

  left_from : (j : ℕ) (xs ys : List Site) → AreFrom j (xs ++ ys) → AreFrom j xs
  left_from j xs ys f n s e = f n s (slice_get_append_left xs ys n s e)

  right_from : (j m : ℕ) (xs ys : List Site) → m ≡ length xs → AreFrom j (xs ++ ys) → AreFrom (j + m) ys
  right_from j m xs ys e f n s h =
      let z : j + (n + length xs) ≡ (j + m) + n = omega (arith, e) in
      ap (slice_get (sites r)) (sym z) ∙ f (n + length xs) s (slice_get_append_right xs ys (n + length xs) n refl ∙ h)

  calls_same : (rs : List (ℕ × ℕ)) (cs ds : List Site) (j : ℕ) → AreSame rs cs ds → AreFrom j ds → calls_worth r i P among rs j cs ≡ worth ds
  calls_same rs [] [] j s f = refl
  calls_same rs (c ∷ cs) (d ∷ ds) j s f =
      let z : j + 0 ≡ j = omega arith in
      let found : slice_get (sites r) j ≡ Some d = ap (slice_get (sites r)) (sym z) ∙ f 0 d refl in
      let called = slice_get_map (λ (x : Site). x.call.position) (sites r) j d found in
      ap₂ ◌+◌
      (ap (λ o. cond (is_position k o) (copies i (parameters_of rs)) 0) called ∙ ap (λ qs. cond (d.call.position == k) (copies i (parameters_of qs)) 0) (sym s.0.2))
      (calls_same rs cs ds (suc j) s.1 (λ n e h. let y : j + suc n ≡ suc j + n = omega arith in ap (slice_get (sites r)) (sym y) ∙ f (suc n) e h))
  calls_same rs [] (d ∷ ds) j s f = absurd s
  calls_same rs (c ∷ cs) [] j s f = absurd s

  -- the calls before a node are those of its statement's sites

  abbrev sites_first : Phrase → List (ℕ × ℕ) → ℕ → Head → Tree → List Site
  sites_first σ rs p h a = cond (is_guard (position_of σ)) [] (sites_in (matching r) (first_position (position_of σ) h) rs p a)

  statement : (h : Head) (σ : Phrase) (a b : Tree) (rs : List (ℕ × ℕ)) (j p : ℕ) → is_phrase σ (Node h a b) ≡ true → AreFrom j (sites_first σ rs p h a)
      → calls_worth r i P among rs j (cond (is_statement h) (inside r (position_of σ) rs h a) []) ≤ cond (is_statement h) (worth (sites_first σ rs p h a)) 0
  unfolding is_phrase
  statement (Let x T) Body a b rs j p e f = same (calls_same rs _ _ j (below_term (matching r) rs a (and_parts (is_phrase Term a) _ e).0 0 p) f)
    where
      same : {m n : ℕ} → m ≡ n → m ≤ n
      same e = omega (arith, e)
  statement (Let x T) σ a b rs j p e f = absurd (both_ways _ refl e)
  statement If Body a b rs j p e f = same (calls_same rs _ _ j (below_term (matching r) rs a (and_parts (is_phrase Term a) _ e).0 0 p) f)
    where
      same : {m n : ℕ} → m ≡ n → m ≤ n
      same e = omega (arith, e)
  statement If σ a b rs j p e f = absurd (both_ways _ refl e)
  statement (Event v) Body a b rs j p e f = same (calls_same rs _ _ j (below_terms (matching r) rs a (and_parts (is_phrase Terms a) _ e).0 0 p) f)
    where
      same : {m n : ℕ} → m ≡ n → m ≤ n
      same e = omega (arith, e)
  statement (Event v) σ a b rs j p e f = absurd (both_ways _ refl e)
  statement (Out c) Body a b rs j p e f = same (calls_same rs _ _ j (below_message (matching r) rs a (and_parts (is_phrase Message a) _ e).0 0 p) f)
    where
      same : {m n : ℕ} → m ≡ n → m ≤ n
      same e = omega (arith, e)
  statement (Out c) σ a b rs j p e f = absurd (both_ways _ refl e)
  statement h σ a b rs j p e f = omega arith

  no_key : (rs : List (ℕ × ℕ)) (h : Head) → key_worth r i P among rs h ≡ 0
  no_key rs (New x T) = go (x == r.key)
    where
      go : (b : Bool) → ◌≡◌ {A = ℕ} (cond b 0 0) 0
      go true = refl
      go false = refl
  no_key rs h = refl

  -- a node's bound, from those of its children
  whole : (c d m n z x y total : ℕ) → c ≤ d → z ≡ 0 → total ≤ z + (m + n) → d + m ≤ x → n ≤ y → c + total ≤ x + y
  whole c d m n z x y total f g h k l = omega (arith, f, g, h, k, l)

  pub within : (t : Tree) (σ : Phrase) (rs : List (ℕ × ℕ)) (j p : ℕ) → is_phrase σ t ≡ true → is_oracle_phrase σ (context r (position_of σ) rs j t) ≡ true → AreFrom j (sites_in (matching r) (position_of σ) rs p t)
      → copies_in i P rs (context r (position_of σ) rs j t) ≤ worth (sites_in (matching r) (position_of σ) rs p t)
  unfolding context_in sites_in
  within Empty σ rs j p e o f = omega arith
  within (Node h a b) σ rs j p e o f =
      let c = children σ h a b e in
      let at = placed σ c.first c.second h (same_parts σ h (c.first, c.second) c.row) in
      go c.first c.second c.row (call_at (matching r) (Node h a b)) o f
      (λ u v. subst (λ x. copies_in i P rs (context r x rs j a) ≤ worth (sites_in (matching r) x rs (first_place p h) a)) (sym at.0)
      (within a c.first rs j (first_place p h) c.in_first (subst (λ x. is_oracle_phrase c.first (context r x rs j a) ≡ true) at.0 u) (subst (λ x. AreFrom j (sites_in (matching r) x rs (first_place p h) a)) at.0 v)))
      (λ u v. subst (λ x. copies_in i P (replications_below h rs) (context r x (replications_below h rs) N b) ≤ worth (sites_in (matching r) x (replications_below h rs) (second_place p h a) b)) (sym at.1)
      (within b c.second (replications_below h rs) N (second_place p h a) c.in_second
      (subst (λ x. is_oracle_phrase c.second (context r x (replications_below h rs) N b) ≡ true) at.1 u) (subst (λ x. AreFrom N (sites_in (matching r) x (replications_below h rs) (second_place p h a) b)) at.1 v)))
    where
      w : Position
      w = position_of σ

      XA : List Site
      XA = sites_in (matching r) (first_position w h) rs (first_place p h) a

      XB : List Site
      XB = sites_in (matching r) (second_position w h) (replications_below h rs) (second_place p h a) b

      N : ℕ
      N = j + length (inside r w rs h a)

      A : Tree
      A = context r (first_position w h) rs j a

      B : Tree
      B = context r (second_position w h) (replications_below h rs) N b

      before : List Site
      before = cond (is_statement h) (inside r w rs h a) []

      -- the first child is worth its sites, but for those of a statement, whose calls stand before it
      split : (τ ρ : Phrase) → parts σ h ≡ Some (τ, ρ) → AreFrom j (cond (is_guard w) [] XA) → (is_oracle_phrase τ A ≡ true → AreFrom j XA → copies_in i P rs A ≤ worth XA)
          → (m : ℕ) × (is_oracle_phrase τ (cond (is_guard w) a A) ≡ true → copies_in i P rs (cond (is_guard w) a A) ≤ m) × (cond (is_statement h) (worth (cond (is_guard w) [] XA)) 0 + m ≤ worth (cond (is_guard w) [] XA))
      split τ ρ row f k = at_phrase (is_terms τ) refl
        where
          zero_bound : (n x : ℕ) (z : Bool) → n ≡ 0 → cond z x 0 + n ≤ x
          zero_bound n x true e = omega (arith, e)
          zero_bound n x false e = omega (arith, e)

          none : {m : ℕ} → m ≡ 0 → m ≤ 0
          none e = omega (arith, e)

          at_phrase : (z : Bool) → is_terms τ ≡ z → (m : ℕ) × (is_oracle_phrase τ (cond (is_guard w) a A) ≡ true → copies_in i P rs (cond (is_guard w) a A) ≤ m) × (cond (is_statement h) (worth (cond (is_guard w) [] XA)) 0 + m ≤ worth (cond (is_guard w) [] XA))
          at_phrase true q = (0, (λ u. none (terms_none i P among (cond (is_guard w) a A) τ rs q u)), zero_bound 0 (worth (cond (is_guard w) [] XA)) (is_statement h) refl)
          at_phrase false q = at_guard (is_guard w) (is_statement h) refl refl f
            where
              at_guard : (g s : Bool) → is_guard w ≡ g → is_statement h ≡ s → AreFrom j (cond g [] XA)
                  → (m : ℕ) × (is_oracle_phrase τ (cond g a A) ≡ true → copies_in i P rs (cond g a A) ≤ m) × (cond s (worth (cond g [] XA)) 0 + m ≤ worth (cond g [] XA))
              at_guard true s x y v = absurd (both_ways _ q (guard_terms σ h (τ, ρ) row x))
              at_guard false true x y v = absurd (both_ways _ q (statement_terms σ h (τ, ρ) row y))
              at_guard false false x y v = (worth XA, (λ u. k u v), let z : 0 + worth XA ≤ worth XA = omega arith in z)

      go : (τ ρ : Phrase) → parts σ h ≡ Some (τ, ρ) → (o : Option Call)
          → is_oracle_phrase σ (elim o as (λ _. Tree) [
            | Some c ↦ cell_of rs (r.answer j)
            | None ↦ after_calls r.answer j before (in_context (matching r) (is_coin r) h (cond (is_guard w) a A) B)
          ]) ≡ true
          → AreFrom j (elim o as (λ _. List Site) [ Some c ↦ record { place = p; term = Node h a b; replications = rs; call = c } ∷ [] | None ↦ cond (is_guard w) [] XA ++ XB ])
          → (is_oracle_phrase τ A ≡ true → AreFrom j XA → copies_in i P rs A ≤ worth XA) → (is_oracle_phrase ρ B ≡ true → AreFrom N XB → copies_in i P (replications_below h rs) B ≤ worth XB)
          → copies_in i P rs (elim o as (λ _. Tree) [
            | Some c ↦ cell_of rs (r.answer j)
            | None ↦ after_calls r.answer j before (in_context (matching r) (is_coin r) h (cond (is_guard w) a A) B)
          ])
          ≤ worth (elim o as (λ _. List Site) [ Some c ↦ record { place = p; term = Node h a b; replications = rs; call = c } ∷ [] | None ↦ cond (is_guard w) [] XA ++ XB ])
      go τ ρ row (Some c) u f k l = let z = cell_none r i P among rs rs (r.answer j) in omega (arith, z)
      go τ ρ row None u f k l =
          let first = left_from j (cond (is_guard w) [] XA) XB f in
          let second = right_from j (length (inside r w rs h a)) (cond (is_guard w) [] XA) XB (inside_length (matching r) w rs h a (first_place p h) (is_guard w)) f in
          let put = behind r i P among σ rs before j (in_context (matching r) (is_coin r) h (cond (is_guard w) a A) B) u in
          let part = split τ ρ row first k in
          let calls = statement h σ a b rs j (first_place p h) e first in
          let node = inner r i P among h σ τ ρ rs (cond (is_guard w) a A) B part.0 (worth XB) row put.phrase part.1 (λ v. l v second) in
          subst (λ n. copies_in i P rs (after_calls r.answer j before (in_context (matching r) (is_coin r) h (cond (is_guard w) a A) B)) ≤ n) (sym (worth_append (cond (is_guard w) [] XA) XB))
          (subst (λ n. n ≤ worth (cond (is_guard w) [] XA) + worth XB) (sym put.worth)
          (whole _ _ part.0 (worth XB) _ _ _ _ calls (no_key rs h) node part.2 (omega arith)))

  pub few_calls : is_phrase Inputs r.scene.game ≡ true → is_oracle_phrase Inputs (context_of_game r).game ≡ true → copies_in i P [] (context_of_game r).game ≤ sum_by (copies i) (calls_of (sites r) k)
  few_calls e o = subst (λ n. copies_in i P [] (context_of_game r).game ≤ n) (worth_is (sites r)) (within r.scene.game Inputs [] 0 0 e o (λ n s h. let z : 0 + n ≡ n = omega arith in ap (slice_get (sites r)) z ∙ h))
