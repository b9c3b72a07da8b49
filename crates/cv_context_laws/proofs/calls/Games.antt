-- The calls of a game's context stand where the sites of the game stand.
use Rattle.std.proofs.Common.{◌≡◌, ℕ, suc, ◌+◌, Bool, true, false, cond, ◌==◌, List, [], ◌∷◌, ◌++◌, length, Option, Some, None, refl, sym, ap, subst, ◌∙◌, arith}
use Rattle.std.proofs.lemmas.Bool.{and_parts, both_ways}
use Rattle.std.specs.Prelude.{slice_get}
use Rattle.cv_syntax_trees.proofs.lists.Places.{slice_get_append_left, slice_get_append_right}
use Rattle.cv_syntax_trees.specs.declared.head.Head.{Head}
use Rattle.cv_syntax_trees.specs.declared.head.Head.TheVariants.{Repl, New, Let, If, Event, Out, Key, Call as CallHead}
use Rattle.cv_syntax_trees.specs.Tree.{Tree, Empty, Node, first_place, second_place}
use Rattle.cv_scope_rules.specs.Context.{cell_of, first_position, index_terms, replications_below, second_position}
use Rattle.cv_scope_rules.specs.Phrases.{Body, Inputs, Message, Nil, Phrase, Term, Terms, is_phrase, parts}
use Rattle.cv_scope_rules.specs.declared.position.Position.{Position}
use Rattle.cv_scope_rules.specs.declared.position.Position.TheVariants.{Anywhere}
use Rattle.cv_scope_runs.proofs.Rows.{placed, position_of}
use Rattle.cv_scene.specs.Instances.{Call, Matching, call_at}
use Rattle.cv_scene.specs.Sites.{Site, is_guard, sites_in}
use Rattle.cv_scene.specs.Contexts.{after_calls, call_terms, context_in, in_context, is_statement}
use Rattle.cv_scene.specs.Reductions.{Reduction, context_of_game, is_coin, matching, sites}
use Rattle.cv_scene.specs.Apt.{inside}
use Rattle.cv_match_laws.proofs.values.Numbers.{context, count_sites}
use Rattle.cv_context_runs.proofs.instances.Statements.{AreSame, below_message, below_term, below_terms}
use Rattle.cv_context_laws.proofs.shape.Terms.{children, same_parts}
use Rattle.cv_context_laws.specs.calls.Calls.{AreCallsOf}

pub no_row : {A : Type 0} (q : Phrase × Phrase) → ◌≡◌ {A = Option (Phrase × Phrase)} None (Some q) → A
no_row q e = absurd (clash e)
  where
    clash : ◌≡◌ {A = Option (Phrase × Phrase)} None (Some q) → ⊥
    clash e = cc

pub nil_is_empty : (a : Tree) → is_phrase Nil a ≡ true → a ≡ Empty
unfolding is_phrase
nil_is_empty Empty e = refl
nil_is_empty (Node h a b) e = absurd (both_ways false refl e)

row_first : (p q : Phrase × Phrase) → ◌≡◌ {A = Option (Phrase × Phrase)} (Some p) (Some q) → p.0 ≡ q.0
row_first p q e = cc

-- as many sites in a first child at one place as at another
pub inside_length : (M : Matching) (w : Position) (rs : List (ℕ × ℕ)) (h : Head) (a : Tree) (p : ℕ) (z : Bool) → length (cond z [] (sites_in M (first_position w h) rs 0 a)) ≡ length (cond z [] (sites_in M (first_position w h) rs p a))
inside_length M w rs h a p true = refl
inside_length M w rs h a p false = count_sites M (first_position w h) rs a 0 p

module _ (r : Reduction) where
  -- a node of a phrase of a game is no call
  node_calls : (σ : Phrase) (h : Head) (q : Phrase × Phrase) → parts σ h ≡ Some q → (rs : List (ℕ × ℕ)) (A B : Tree) → (q.0 ≡ Nil → A ≡ Empty) → AreCallsOf r rs A → AreCallsOf r (replications_below h rs) B → AreCallsOf r rs (Node h A B)
  unfolding AreCallsOf
  node_calls Body (CallHead x l) q e rs A B n f g = no_row q e
  node_calls Inputs (CallHead x l) q e rs A B n f g = no_row q e
  node_calls σ (CallHead x l) q e rs A B n f g = no_row q e
  node_calls Inputs (Repl i m) q e rs A B n f g = (n (sym (row_first (Nil, Inputs) q e)), g)
  node_calls σ (Repl i m) q e rs A B n f g = no_row q e
  node_calls σ h q e rs A B n f g = (f, g)

  -- a game has no calls
  no_calls : (t : Tree) (σ : Phrase) (rs : List (ℕ × ℕ)) → is_phrase σ t ≡ true → AreCallsOf r rs t
  unfolding AreCallsOf
  no_calls Empty σ rs e = tt
  no_calls (Node h a b) σ rs e =
      let c = children σ h a b e in
      node_calls σ h (c.first, c.second) c.row rs a b (λ q. nil_is_empty a (subst (λ τ. is_phrase τ a ≡ true) q c.in_first)) (no_calls a c.first rs c.in_first) (no_calls b c.second (replications_below h rs) c.in_second)

  index_calls : (rs qs : List (ℕ × ℕ)) → AreCallsOf r rs (index_terms qs)
  unfolding AreCallsOf
  index_calls rs [] = tt
  index_calls rs (q ∷ qs) = ((tt, tt), index_calls rs qs)

  cell_calls : (rs qs : List (ℕ × ℕ)) (x : ℕ) → AreCallsOf r rs (cell_of qs x)
  unfolding AreCallsOf
  cell_calls rs [] x = (tt, tt)
  cell_calls rs (q ∷ qs) x = (index_calls rs (q ∷ qs), tt)

  -- sites that are those of the game from a number on
  abbrev AreFrom : ℕ → List Site → Type 0
  AreFrom j ss = (k : ℕ) (s : Site) → slice_get ss k ≡ Some s → slice_get (sites r) (j + k) ≡ Some s

  left_from : (j : ℕ) (xs ys : List Site) → AreFrom j (xs ++ ys) → AreFrom j xs
  left_from j xs ys f k s e = f k s (slice_get_append_left xs ys k s e)

  right_from : (j n : ℕ) (xs ys : List Site) → n ≡ length xs → AreFrom j (xs ++ ys) → AreFrom (j + n) ys
  right_from j n xs ys i f k s e =
      let z : j + (k + length xs) ≡ (j + n) + k = omega arith in
      ap (slice_get (sites r)) (sym z) ∙ f (k + length xs) s (slice_get_append_right xs ys (k + length xs) k refl ∙ e)

  behind_calls : (rs : List (ℕ × ℕ)) (cs ds : List Site) (j : ℕ) (t : Tree) → AreSame rs cs ds → AreFrom j ds → AreCallsOf r rs t → AreCallsOf r rs (after_calls r.answer j cs t)
  unfolding AreCallsOf
  behind_calls rs [] [] j t s f p = p
  behind_calls rs (c ∷ cs) (d ∷ ds) j t s f p = (
    record {
      site = d;
      listed = let z : j + 0 ≡ j = omega arith in ap (slice_get (sites r)) (sym z) ∙ f 0 d refl;
      replications = s.0.2;
      answer = refl;
      instance = ap (λ (k : Call). call_terms k.instance) s.0.1;
    },
    behind_calls rs cs ds (suc j) t s.1 (λ k e i. let z : j + suc k ≡ suc j + k = omega arith in ap (slice_get (sites r)) (sym z) ∙ f (suc k) e i) p,
  )
  behind_calls rs [] (d ∷ ds) j t s f p = absurd s
  behind_calls rs (c ∷ cs) [] j t s f p = absurd s

  -- the calls before a statement
  statement : (h : Head) (σ : Phrase) (a b t : Tree) (rs : List (ℕ × ℕ)) (j p : ℕ) → is_phrase σ (Node h a b) ≡ true → AreFrom j (cond (is_guard (position_of σ)) [] (sites_in (matching r) (first_position (position_of σ) h) rs p a)) → AreCallsOf r rs t
      → AreCallsOf r rs (after_calls r.answer j (cond (is_statement h) (inside r (position_of σ) rs h a) []) t)
  unfolding is_phrase
  statement (Let x T) Body a b t rs j p e f k = behind_calls rs (sites_in (matching r) Anywhere rs 0 a) (sites_in (matching r) Anywhere rs p a) j t (below_term (matching r) rs a (and_parts (is_phrase Term a) _ e).0 0 p) f k
  statement (Let x T) σ a b t rs j p e f k = absurd (both_ways _ refl e)
  statement If Body a b t rs j p e f k = behind_calls rs (sites_in (matching r) Anywhere rs 0 a) (sites_in (matching r) Anywhere rs p a) j t (below_term (matching r) rs a (and_parts (is_phrase Term a) _ e).0 0 p) f k
  statement If σ a b t rs j p e f k = absurd (both_ways _ refl e)
  statement (Event v) Body a b t rs j p e f k = behind_calls rs (sites_in (matching r) Anywhere rs 0 a) (sites_in (matching r) Anywhere rs p a) j t (below_terms (matching r) rs a (and_parts (is_phrase Terms a) _ e).0 0 p) f k
  statement (Event v) σ a b t rs j p e f k = absurd (both_ways _ refl e)
  statement (Out c) Body a b t rs j p e f k = behind_calls rs (sites_in (matching r) Anywhere rs 0 a) (sites_in (matching r) Anywhere rs p a) j t (below_message (matching r) rs a (and_parts (is_phrase Message a) _ e).0 0 p) f k
  statement (Out c) σ a b t rs j p e f k = absurd (both_ways _ refl e)
  statement h σ a b t rs j p e f k = k

  -- a node with its children in the context
  inner : (h : Head) (σ : Phrase) (q : Phrase × Phrase) (rs : List (ℕ × ℕ)) (A B : Tree) → parts σ h ≡ Some q → (q.0 ≡ Nil → A ≡ Empty) → AreCallsOf r rs A → AreCallsOf r (replications_below h rs) B → AreCallsOf r rs (in_context (matching r) (is_coin r) h A B)
  unfolding AreCallsOf
  inner (New x T) σ q rs A B e n f g = go (x == r.key) (is_coin r x)
    where
      go : (b c : Bool) → AreCallsOf r rs (cond b (Node (Key x) Empty B) (cond c B (Node (New x T) A B)))
      go true c = (tt, g)
      go false true = g
      go false false = (f, g)
  inner h σ q rs A B e n f g = node_calls σ h q e rs A B n f g

  guarded : (τ : Phrase) (rs : List (ℕ × ℕ)) (a A : Tree) (z : Bool) → is_phrase τ a ≡ true → (z ≡ false → AreCallsOf r rs A) → AreCallsOf r rs (cond z a A)
  guarded τ rs a A true e f = no_calls a τ rs e
  guarded τ rs a A false e f = f refl

  guarded_empty : (a A : Tree) (z : Bool) → a ≡ Empty → A ≡ Empty → cond z a A ≡ Empty
  guarded_empty a A true e f = e
  guarded_empty a A false e f = f

  empty_in : (w : Position) (rs : List (ℕ × ℕ)) (j : ℕ) (a : Tree) → a ≡ Empty → context r w rs j a ≡ Empty
  unfolding context_in
  empty_in w rs j a e = ap (context r w rs j) e ∙ refl

  unguarded : (j : ℕ) (xs : List Site) (z : Bool) → z ≡ false → AreFrom j (cond z [] xs) → AreFrom j xs
  unguarded j xs z e f = subst (λ b. AreFrom j (cond b [] xs)) e f

  calls : (t : Tree) (σ : Phrase) (rs : List (ℕ × ℕ)) (j p : ℕ) → is_phrase σ t ≡ true → AreFrom j (sites_in (matching r) (position_of σ) rs p t) → AreCallsOf r rs (context r (position_of σ) rs j t)
  unfolding context_in sites_in AreCallsOf
  calls Empty σ rs j p e f = tt
  calls (Node h a b) σ rs j p e f =
      let w : Position = position_of σ in
      let c = children σ h a b e in
      let at = placed σ c.first c.second h (same_parts σ h (c.first, c.second) c.row) in
      go c.first c.second c.row c.in_first (call_at (matching r) (Node h a b)) f
      (λ i. subst (λ x. AreCallsOf r rs (context r x rs j a)) (sym at.0) (calls a c.first rs j (first_place p h) c.in_first (subst (λ x. AreFrom j (sites_in (matching r) x rs (first_place p h) a)) at.0 i)))
      (λ i. subst (λ x. AreCallsOf r (replications_below h rs) (context r x (replications_below h rs) (j + length (inside r w rs h a)) b)) (sym at.1)
      (calls b c.second (replications_below h rs) (j + length (inside r w rs h a)) (second_place p h a) c.in_second
      (subst (λ x. AreFrom (j + length (inside r w rs h a)) (sites_in (matching r) x (replications_below h rs) (second_place p h a) b)) at.1 i)))
    where
      w : Position
      w = position_of σ

      XA : List Site
      XA = sites_in (matching r) (first_position w h) rs (first_place p h) a

      XB : List Site
      XB = sites_in (matching r) (second_position w h) (replications_below h rs) (second_place p h a) b

      N : ℕ
      N = j + length (inside r w rs h a)

      go : (τ ρ : Phrase) → parts σ h ≡ Some (τ, ρ) → is_phrase τ a ≡ true → (o : Option Call)
          → AreFrom j (elim o as (λ _. List Site) [ Some c ↦ record { place = p; term = Node h a b; replications = rs; call = c } ∷ [] | None ↦ cond (is_guard w) [] XA ++ XB ])
          → (AreFrom j XA → AreCallsOf r rs (context r (first_position w h) rs j a)) → (AreFrom N XB → AreCallsOf r (replications_below h rs) (context r (second_position w h) (replications_below h rs) N b))
          → AreCallsOf r rs (elim o as (λ _. Tree) [
            | Some c ↦ cell_of rs (r.answer j)
            | None ↦ after_calls r.answer j (cond (is_statement h) (inside r w rs h a) []) (in_context (matching r) (is_coin r) h (cond (is_guard w) a (context r (first_position w h) rs j a)) (context r (second_position w h) (replications_below h rs) N b))
          ])
      go τ ρ row e₁ (Some c) f A B = cell_calls rs rs (r.answer j)
      go τ ρ row e₁ None f A B =
          let first = left_from j (cond (is_guard w) [] XA) XB f in
          statement h σ a b _ rs j (first_place p h) e first
          (inner h σ (τ, ρ) rs _ _ row (λ q. let i = nil_is_empty a (subst (λ x. is_phrase x a ≡ true) q e₁) in guarded_empty a (context r (first_position w h) rs j a) (is_guard w) i (empty_in (first_position w h) rs j a i))
          (guarded τ rs a (context r (first_position w h) rs j a) (is_guard w) e₁ (λ z. A (unguarded j XA (is_guard w) z first)))
          (B (right_from j (length (inside r w rs h a)) (cond (is_guard w) [] XA) XB (inside_length (matching r) w rs h a (first_place p h) (is_guard w)) f)))

  pub game_calls : is_phrase Inputs r.scene.game ≡ true → AreCallsOf r [] (context_of_game r).game
  game_calls e = calls r.scene.game Inputs [] 0 0 e (λ k s i. let z : 0 + k ≡ k = omega arith in ap (slice_get (sites r)) z ∙ i)
