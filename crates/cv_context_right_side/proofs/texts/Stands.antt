-- What a typed game says of each site in it, and of what stands for the names of the site's function.
use Rattle.std.proofs.Common.{◌≡◌, ℕ, ◌+◌, ◌<◌, Bool, true, false, cond, ◌&&◌, ◌||◌, not, ◌==◌, List, [], ◌∷◌, ◌++◌, ◌⊎◌, inl, inr, Option, Some, None, is_some, refl, sym, ap, subst, ◌∙◌, eqb-true, arith}
use Rattle.std.proofs.lemmas.Bool.{and_parts, both_ways, or_left, or_right}
use Rattle.std.proofs.lemmas.List.Folds.{list_any-append}
use Rattle.std.specs.List.{AllByRecursion}
use Rattle.cv_syntax_trees.specs.declared.head.Head.{Head}
use Rattle.cv_syntax_trees.specs.declared.head.Head.TheVariants.{And, Apply, Cons, Eq, Leaf, No, Not, Or, Read, Repl, Yes}
use Rattle.cv_syntax_trees.specs.Declarations.{Declaration}
use Rattle.cv_syntax_trees.specs.Tree.{Tree, Empty, Node, first_place, second_place}
use Rattle.cv_meaning_laws.specs.adequacy.Typed.{Scope}
use Rattle.cv_syntax_trees.specs.sites.Sites.{first_index, first_of, index_here}
use Rattle.cv_scene.specs.lines.Given.{or_node, term_for, with_given}
use Rattle.cv_scope_rules.specs.Context.{first_position, replications_below, second_position}
use Rattle.cv_scope_rules.specs.Phrases.{Phrase, Nil, Term, Terms, is_phrase}
use Rattle.cv_scope_rules.specs.Rules.{is_index}
use Rattle.cv_scope_rules.specs.declared.position.Position.{Position}
use Rattle.cv_scene.specs.Scenes.{head_names, names}
use Rattle.cv_scene.specs.Terms.{has_index}
use Rattle.cv_scene.specs.Instances.{Call, Matching, call_at}
use Rattle.cv_scene.specs.LeftTerms.{reads_no_array}
use Rattle.cv_scene.specs.Refusals.{uses}
use Rattle.cv_scene.specs.Sites.{Site, is_guard, sites_in}
use Rattle.cv_typing_runs.specs.Games.{context_of}
use Rattle.cv_typing_runs.proofs.SameSites.{phrase_open}
use Rattle.cv_typing_runs.proofs.Terms.{nil_empty}
use Rattle.cv_context.specs.indices.Indices.{indices_use_none, reads_name}
use Rattle.cv_context.proofs.indices.Typed.{leaf_unused}
use Rattle.cv_context_runs.proofs.instances.Arguments.{either}
use Rattle.cv_context_right_side.proofs.texts.Typed.{IsTypedAs, typed_below}
use Rattle.cv_scope_runs.proofs.Games.{first_some, second_some}
use Rattle.cv_context_laws.proofs.shape.Terms.{one_of}
use Rattle.cv_syntax_trees.proofs.lists.Each.{AllByRecursion_append}
use Rattle.cv_syntax_trees.proofs.lists.Tests.{or_cases}

-- an index of the replications below a node is one of those above it, or the node binds it
below_index : (x : ℕ) (rs : Scope) (h : Head) → is_index (replications_below h rs) x ≡ true → (is_index rs x ≡ true) ⊎ (is_some (index_here x h) ≡ true)
below_index x rs (Repl i n) e = go (or_cases (is_index rs x) _ (sym (list_any-append (λ (r : ℕ × ℕ). r.0 == x) rs ((i, n) ∷ [])) ∙ e))
  where
    here : (b : Bool) → (b || false) ≡ true → is_some (cond b (Some n) None) ≡ true
    here true f = refl
    here false f = absurd (both_ways false refl f)

    go : (is_index rs x ≡ true) ⊎ (((i == x) || false) ≡ true) → (is_index rs x ≡ true) ⊎ (is_some (index_here x (Repl i n)) ≡ true)
    go (inl f) = inl f
    go (inr f) = inr (here (i == x) f)
below_index x rs h e = inl e

-- sums of uses

only_zero : (n : ℕ) → n ≡ 0 → 0 < 0 + n → ⊥
only_zero n e l = omega arith

none_used : (n : ℕ) → n ≡ 0 → 0 < n → ⊥
none_used n e l = omega arith

module _ (ds : List Declaration) (game : Tree) (key : ℕ) where
  -- a phrase of the game below replications: it is typed, the game has its names and the indices above and in it, and no name is read at
  -- indices that use the key
  pub record Stands (σ : Phrase) (rs : Scope) (t : Tree) : Type 0 where
    pub phrase : is_phrase σ t ≡ true
    pub typed : IsTypedAs (context_of ds game) σ rs t
    pub named : (x : ℕ) → names x t ≡ true → names x game ≡ true
    pub indices : (x : ℕ) → is_some (first_index x t) ≡ true → has_index game x ≡ true
    pub above : (x : ℕ) → is_index rs x ≡ true → has_index game x ≡ true
    pub unused : indices_use_none key t ≡ true

  pub record Below (rs : Scope) (h : Head) (a b : Tree) : Type 0 where
    pub phrases : Phrase × Phrase
    pub first : Stands phrases.0 rs a
    pub second : Stands phrases.1 (replications_below h rs) b

  pub below : (σ : Phrase) (rs : Scope) (h : Head) (a b : Tree) → Stands σ rs (Node h a b) → Below rs h a b
  unfolding names first_index indices_use_none
  below σ rs h a b s =
      let p = phrase_open σ h a b s.phrase in
      let t = typed_below (context_of ds game) σ rs h a b s.phrase s.typed p.0 p.1 in
      let u = and_parts (indices_use_none key a) (indices_use_none key b) (and_parts (not (reads_name h) || (uses key a == 0)) (indices_use_none key a && indices_use_none key b) s.unused).1 in
      record {
        phrases = p.0;
        first = record {
          phrase = p.2;
          typed = t.0;
          named = λ x e. s.named x (or_right (head_names x h) (names x a || names x b) (or_left (names x a) (names x b) e));
          indices = λ x e. s.indices x (second_some (index_here x h) (first_of (first_index x a) (first_index x b)) (first_some (first_index x a) (first_index x b) e));
          above = s.above;
          unused = u.0;
        };
        second = record {
          phrase = p.3;
          typed = t.1;
          named = λ x e. s.named x (or_right (head_names x h) (names x a || names x b) (or_right (names x a) (names x b) e));
          indices = λ x e. s.indices x (second_some (index_here x h) (first_of (first_index x a) (first_index x b)) (second_some (first_index x a) (first_index x b) e));
          above = λ x e. elim (below_index x rs h e) as (λ _. has_index game x ≡ true) [
            | inl i ↦ s.above x i
            | inr i ↦ s.indices x (first_some (index_here x h) (first_of (first_index x a) (first_index x b)) i)
          ];
          unused = u.1;
        };
      }

  -- some phrase of the game stands there
  abbrev pub IsThere : Scope → Tree → Type 0
  IsThere rs t = (σ : Phrase) × Stands σ rs t

  -- the sites in it

  pub sites_there : (M : Matching) (w : Position) (rs : Scope) (p : ℕ) (t : Tree) → IsThere rs t → AllByRecursion (λ (s : Site). IsThere s.replications s.term) (sites_in M w rs p t)
  unfolding sites_in
  sites_there M w rs p Empty s = tt
  sites_there M w rs p (Node h a b) s =
      let d = below s.0 rs h a b s.1 in
      go (call_at M (Node h a b)) (is_guard w) (sites_there M (first_position w h) rs (first_place p h) a (d.phrases.0, d.first)) (sites_there M (second_position w h) (replications_below h rs) (second_place p h a) b (d.phrases.1, d.second))
    where
      go : (o : Option Call) (z : Bool) → AllByRecursion (λ (s : Site). IsThere s.replications s.term) (sites_in M (first_position w h) rs (first_place p h) a) → AllByRecursion (λ (s : Site). IsThere s.replications s.term) (sites_in M (second_position w h) (replications_below h rs) (second_place p h a) b)
          → AllByRecursion (λ (s : Site). IsThere s.replications s.term) (elim o as (λ _. List Site) [
            | Some c ↦ record { place = p; term = Node h a b; replications = rs; call = c } ∷ []
            | None ↦ cond z [] (sites_in M (first_position w h) rs (first_place p h) a) ++ sites_in M (second_position w h) (replications_below h rs) (second_place p h a) b
          ])
      go (Some c) z f g = (s, tt)
      go None true f g = g
      go None false f g = AllByRecursion_append (λ (s : Site). IsThere s.replications s.term) (sites_in M (first_position w h) rs (first_place p h) a) (sites_in M (second_position w h) (replications_below h rs) (second_place p h a) b) f g

  -- what stands for a name that the body reads is a part of the filled body

  parts_there : (rs : Scope) (h : Head) (a b : Tree) → replications_below h rs ≡ rs → IsThere rs (Node h a b) → IsThere rs a × IsThere rs b
  parts_there rs h a b same s = let d = below s.0 rs h a b s.1 in ((d.phrases.0, d.first), (d.phrases.1, subst (λ qs. Stands d.phrases.1 qs b) same d.second))

  module _ (xs : List ℕ) (ts : Tree) (z : ℕ) (given : Tree) (found : term_for xs ts z ≡ Some given) (rs : Scope) where
    leaf_there : (q u : ℕ) (c d : Tree) → u ≡ 0 → 0 < cond (q == z) 1 0 + u → IsThere rs (or_node (term_for xs ts q) (Leaf q) c d) → IsThere rs given
    leaf_there q u c d n l s = go (q == z) refl l
      where
        go : (i : Bool) → (q == z) ≡ i → 0 < cond i 1 0 + u → IsThere rs given
        go true i l = subst (λ o. IsThere rs (or_node o (Leaf q) c d)) (ap (term_for xs ts) (eqb-true q z i) ∙ found) s
        go false i l = absurd (only_zero u n l)

    nil_unused : (a : Tree) → is_phrase Nil a ≡ true → uses z a ≡ 0
    unfolding uses
    nil_unused a p = ap (uses z) (nil_empty a p)

    abbrev Given : Tree → Type 0
    Given b = 0 < uses z b → IsThere rs (with_given xs ts b) → IsThere rs given

    either_there : (a b : Tree) → Given a → Given b → 0 < 0 + (uses z a + uses z b) → IsThere rs (with_given xs ts a) × IsThere rs (with_given xs ts b) → IsThere rs given
    either_there a b f g l t = go (one_of (uses z a) (uses z b) l)
      where
        go : (0 < uses z a) ⊎ (0 < uses z b) → IsThere rs given
        go (inl k) = f k t.0
        go (inr k) = g k t.1

    nil_given : (a : Tree) → is_phrase Nil a ≡ true → Given a
    nil_given a p l s = absurd (none_used (uses z a) (nil_unused a p) l)

    mutual
      unfolding uses with_given is_phrase reads_no_array

      pub term_there : (b : Tree) → is_phrase Term b ≡ true → reads_no_array b ≡ true → Given b
      term_there (Node (Leaf q) a b) p n l s = leaf_there q (uses z a + uses z b) _ _ (leaf_unused z Term q a b p) l s
      term_there (Node (Read q) a b) p n l s = absurd (both_ways false refl n)
      term_there (Node (Apply f) a b) p n l s =
          let q = and_parts (is_phrase Terms a) _ p in let m = and_parts (reads_no_array a) _ n in
          either_there a b (terms_there a q.0 m.0) (nil_given b q.1) l (parts_there rs (Apply f) (with_given xs ts a) (with_given xs ts b) refl s)
      term_there (Node Eq a b) p n l s =
          let q = and_parts (is_phrase Term a) _ p in let m = and_parts (reads_no_array a) _ n in
          either_there a b (term_there a q.0 m.0) (term_there b q.1 m.1) l (parts_there rs Eq (with_given xs ts a) (with_given xs ts b) refl s)
      term_there (Node And a b) p n l s =
          let q = and_parts (is_phrase Term a) _ p in let m = and_parts (reads_no_array a) _ n in
          either_there a b (term_there a q.0 m.0) (term_there b q.1 m.1) l (parts_there rs And (with_given xs ts a) (with_given xs ts b) refl s)
      term_there (Node Or a b) p n l s =
          let q = and_parts (is_phrase Term a) _ p in let m = and_parts (reads_no_array a) _ n in
          either_there a b (term_there a q.0 m.0) (term_there b q.1 m.1) l (parts_there rs Or (with_given xs ts a) (with_given xs ts b) refl s)
      term_there (Node Not a b) p n l s =
          let q = and_parts (is_phrase Term a) _ p in let m = and_parts (reads_no_array a) _ n in
          either_there a b (term_there a q.0 m.0) (nil_given b q.1) l (parts_there rs Not (with_given xs ts a) (with_given xs ts b) refl s)
      term_there (Node Yes a b) p n l s = let q = and_parts (is_phrase Nil a) _ p in either_there a b (nil_given a q.0) (nil_given b q.1) l (parts_there rs Yes (with_given xs ts a) (with_given xs ts b) refl s)
      term_there (Node No a b) p n l s = let q = and_parts (is_phrase Nil a) _ p in either_there a b (nil_given a q.0) (nil_given b q.1) l (parts_there rs No (with_given xs ts a) (with_given xs ts b) refl s)
      term_there t p n l s = absurd (both_ways false refl p)

      terms_there : (b : Tree) → is_phrase Terms b ≡ true → reads_no_array b ≡ true → Given b
      terms_there Empty p n l s = absurd (none_used 0 refl l)
      terms_there (Node Cons a b) p n l s =
          let q = and_parts (is_phrase Term a) _ p in let m = and_parts (reads_no_array a) _ n in
          either_there a b (term_there a q.0 m.0) (terms_there b q.1 m.1) l (parts_there rs Cons (with_given xs ts a) (with_given xs ts b) refl s)
      terms_there t p n l s = absurd (both_ways false refl p)
