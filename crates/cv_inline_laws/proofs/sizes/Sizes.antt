-- What a next game has doesn't depend on the drawn names.
use Rattle.std.proofs.Common.{◌≡◌, ℕ, suc, cond, ◌==◌, List, [], ◌∷◌, flat_map, Option, Some, None, refl, sym, ap, ap₂, ◌∙◌}
use Rattle.cv_syntax_trees.specs.declared.head.Head.TheVariants.{In, Out, Event, New, Let, If, Find, Branch, Leaf, Read, Cons, Binder, Key, Call}
use Rattle.cv_syntax_trees.specs.Head.{weight}
use Rattle.cv_syntax_trees.specs.Tree.{Tree, Empty, Node, depth, size, second, first_place, second_place}
use Rattle.cv_meaning.specs.contexts.Bodies.{body_place}
use Rattle.cv_meaning.specs.contexts.Groups.{Group, Right, side_group}
use Rattle.cv_meaning.specs.contexts.Sides.{Context}
use Rattle.cv_meaning.specs.contexts.Inlined.{Drawn, Caller, Scope, TheKey, Own, in_game, index_terms, with_call_of}
use Rattle.cv_inline.specs.NextGame.{Calling, InlinedCalls, callers_of, callings_of, inlined_calls_of, next_of, numbered}
use Rattle.cv_inline_laws.specs.extents.Extents.{Measure, Extent, Answers, all_along, all_nodes, beside, copies_of, extent, of_body, of_branches, of_call, of_call_at, of_find, longest_path, of_game, over_node, under, with_answers}
use Rattle.cv_inline_laws.proofs.extents.Games.{next_measured}
use Rattle.cv_inline_laws.proofs.extents.Measures.{IsMeasure, nodes_are_size, nodes_measure, path_is_depth, path_measure}
use Rattle.cv_inline_laws.proofs.sizes.Shapes.{ScopesAlike, call_scopes, extents_same, fronts_same, scope_same, terms_alike}

module _ (μ : Measure) (d e : Drawn) where
  module _ (ss : List Caller) (c : Caller) where
    term_same : (Σ Τ : Scope) (m : Tree) → ScopesAlike Σ Τ → extent μ (in_game d c Σ m) ≡ extent μ (in_game e c Τ m)
    term_same Σ Τ m h = extents_same μ (in_game d c Σ m) (in_game e c Τ m) (terms_alike d e c Σ Τ m h)

    mutual
      unfolding of_body of_branches

      pub body_same : (Σ Τ : Scope) (p : ℕ) (t : Tree) → ScopesAlike Σ Τ → of_body μ d ss c Σ p t ≡ of_body μ e ss c Τ p t
      body_same Σ Τ p (Node (New z T) a b) h = ap (under μ 1 0) (body_same ((z, Own) ∷ Σ) ((z, Own) ∷ Τ) (second_place p (New z T) a) b (refl, tt, h))
      body_same Σ Τ p (Node (Let z T) a b) h = ap₂ (under μ 1) (term_same Σ Τ a h) (body_same ((z, Own) ∷ Σ) ((z, Own) ∷ Τ) (second_place p (Let z T) a) b (refl, tt, h))
      body_same Σ Τ p (Node If a (Node k b (Node j m n))) h =
          ap₂ (under μ 1) (term_same Σ Τ a h)
          (ap₂ (beside μ) (body_same Σ Τ (first_place (second_place p If a) k) b h) (body_same Σ Τ (first_place (second_place (second_place p If a) k b) j) m h))
      body_same Σ Τ p (Node (Find l) a b) h =
          λ i. of_find μ (flat_map (λ s. branches_same Σ Τ p s 0 (first_place p (Find l)) a h i) ss) (body_same Σ Τ (second_place p (Find l) a) b h i)
      body_same Σ Τ p m h = ap (λ n. record { own = 0; places = μ.one_copy; results = n }) (term_same Σ Τ m h)

      branches_same : (Σ Τ : Scope) (p : ℕ) (s : Caller) (k r : ℕ) (t : Tree) → ScopesAlike Σ Τ → of_branches μ d ss c Σ p s k r t ≡ of_branches μ e ss c Τ p s k r t
      branches_same Σ Τ p s k r (Node Cons (Node Branch (Node (Binder u n) x y) (Node Cons cells (Node Cons m body))) more) h =
          let f : ℕ → ℕ = d.index c.number p s.number k in
          let g : ℕ → ℕ = e.index c.number p s.number k in
          let place : ℕ = body_place r Cons Branch (Node (Binder u n) x y) Cons cells Cons m in
          let within = call_scopes d e c Σ Τ u f g s h in
          let head = fronts_same d e c μ (with_call_of Σ u (index_terms c.replications) f s) (with_call_of Τ u (index_terms c.replications) g s) f g s cells m within in
          let inner = body_same (with_call_of Σ u (index_terms c.replications) f s) (with_call_of Τ u (index_terms c.replications) g s) place body within in
          let rest = branches_same Σ Τ p s (suc k) (second_place r Cons (Node Branch (Node (Binder u n) x y) (Node Cons cells (Node Cons m body)))) more h in
          λ i. cond (s.bound == n) (under μ 1 (head i) (inner i) ∷ rest i) (rest i)
      branches_same Σ Τ p s k r _ h = refl

    pub call_same : (Σ Τ : Scope) (xs : List (ℕ × ℕ)) (ms body : Tree) → ScopesAlike Σ Τ → of_call μ d ss c Σ xs ms body ≡ of_call μ e ss c Τ xs ms body
    unfolding of_call
    call_same Σ Τ (x ∷ xs) (Node k m more) body h = ap (under μ 1 (extent μ m)) (call_same ((x.0, Own) ∷ Σ) ((x.0, Own) ∷ Τ) xs more body (refl, tt, h))
    call_same Σ Τ [] ms body h = body_same Σ Τ 0 body h
    call_same Σ Τ (x ∷ xs) Empty body h = body_same Σ Τ 0 body h

  module _ (key : ℕ) (group : Group) (cs : List Calling) where
    abbrev by : Drawn → InlinedCalls
    by drawn = record { drawn = drawn; key = key; group = group; callings = cs }

    site_same : (o : Option Calling) (ms : Tree) → of_call_at μ (by d) o ms ≡ of_call_at μ (by e) o ms
    site_same None ms = refl
    site_same (Some k) ms = call_same (callers_of cs) k.caller ((group.key.0, TheKey) ∷ []) ((group.key.0, TheKey) ∷ []) k.function.arguments ms k.function.body (scope_same ((group.key.0, TheKey) ∷ []))

    pub game_same : (copies : ℕ) (rs : Answers) (t : Tree) → of_game μ (by d) copies rs t ≡ of_game μ (by e) copies rs t
    unfolding of_game
    game_same n rs Empty = refl
    game_same n rs (Node (Key x) a b) = ap (over_node μ n 1 (μ.along 0 n)) (game_same n [] b)
    game_same n rs (Node (Call x l) a b) =
        let one : of_call_at μ (by d) (numbered l cs) (second a) ≡ of_call_at μ (by e) (numbered l cs) (second a) = site_same (numbered l cs) (second a) in
        let g : Extent = of_call_at μ (by d) (numbered l cs) (second a) in
        ap (μ.join (μ.along g.own n)) (game_same (μ.along g.places n) ((x, μ.along g.results n) ∷ all_along μ g.places rs) b)
        ∙ ap (λ (k : Extent). μ.join (μ.along k.own n) (of_game μ (by e) (μ.along k.places n) ((x, μ.along k.results n) ∷ all_along μ k.places rs) b)) one
    game_same n rs (Node (Let x T) a b) = ap (over_node μ n 1 (with_answers μ n rs a)) (game_same n [] b)
    game_same n rs (Node If a b) = ap (over_node μ n 1 (with_answers μ n rs a)) (game_same n [] b)
    game_same n rs (Node (Event o) a b) = ap (over_node μ n 1 (with_answers μ n rs a)) (game_same n [] b)
    game_same n rs (Node (Out o) a b) = ap (over_node μ n 1 (with_answers μ n rs a)) (game_same n [] b)
    game_same n rs (Node (In o) a b) = ap (over_node μ n 1 (copies_of μ n a)) (game_same n [] b)
    game_same n rs (Node Branch a b) = ap (over_node μ n 1 (copies_of μ n a)) (game_same n [] b)
    game_same n rs (Node (Leaf x) a b) = refl
    game_same n rs (Node (Read x) a b) = refl
    game_same n rs (Node h a b) = ap₂ (over_node μ n (weight h)) (game_same n [] a) (game_same n [] b)

-- so a next game has one size and one depth

measured : (k : Context) (x : ℕ) (d e : Drawn) (μ : Measure) (ok : IsMeasure μ) → extent μ (next_of k x d) ≡ extent μ (next_of k x e)
measured k x d e μ ok =
    next_measured μ ok (inlined_calls_of k x d) [] k.game
    ∙ (game_same μ d e x (side_group Right k.equivalence) (callings_of k) μ.one_copy [] k.game ∙ sym (next_measured μ ok (inlined_calls_of k x e) [] k.game))

pub one_size : (k : Context) (x : ℕ) (d e : Drawn) → size (next_of k x d) ≡ size (next_of k x e)
one_size k x d e = sym (nodes_are_size (next_of k x d)) ∙ (measured k x d e all_nodes nodes_measure ∙ nodes_are_size (next_of k x e))

pub one_depth : (k : Context) (x : ℕ) (d e : Drawn) → depth (next_of k x d) ≡ depth (next_of k x e)
one_depth k x d e = sym (path_is_depth (next_of k x d)) ∙ (measured k x d e longest_path path_measure ∙ path_is_depth (next_of k x e))
