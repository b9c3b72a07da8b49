-- What a body adds to a game, where in each place of a result stands what a continuation makes of it.
use Rattle.std.proofs.Common.{◌≡◌, ℕ, suc, Bool, true, false, cond, ◌==◌, List, [], ◌∷◌, ◌++◌, flat_map, map, sym, ap, ap₂, ◌∙◌}
use Rattle.cv_syntax_trees.specs.declared.head.Head.TheVariants.{Cons, Binder, Branch, New, Let, If, Find}
use Rattle.cv_syntax_trees.specs.Tree.{Tree, Empty, Node, binders, first_place, second_place}
use Rattle.cv_meaning.specs.contexts.Bodies.{body_place}
use Rattle.cv_meaning.specs.contexts.Inlined.{Drawn, Caller, Scope, Own, all_equal, branch_for, branch_indices, cells_in_game, cells_then, each_once, expanded, expanded_at, find_or_else, in_game, index_moves, index_terms, inlined_body, inlined_branch, inlined_call, is_index_of, moved, needed, with_call_of}
use Rattle.cv_inline_laws.specs.extents.Extents.{Measure, Extent, all_beside, beside, extent, front, of_body, of_branches, of_call, of_find, of_result, over_node, under}
use Rattle.cv_inline_laws.proofs.extents.Measures.{IsMeasure, over_item, join_swap, zero_join}

-- what a continuation has over all places, by the places and the results
pub record IsLinear (μ : Measure) (over : ℕ → ℕ → ℕ) : Type 0 where
  pub joined : (a b c d : ℕ) → over (μ.join a b) (μ.join c d) ≡ μ.join (over a c) (over b d)
  pub scaled : (k a c : ℕ) → over (μ.along k a) (μ.along k c) ≡ μ.along k (over a c)

module _ (μ : Measure) (ok : IsMeasure μ) where
  module _ (k : Tree → Tree) (over : ℕ → ℕ → ℕ) (linear : IsLinear μ over) (each : (m : Tree) → extent μ (k m) ≡ over μ.one_copy (extent μ m)) where
    abbrev pub Has : ℕ → Extent → Type 0
    Has n e = n ≡ μ.join e.own (over e.places e.results)

    has_beside : (m n : ℕ) (e f : Extent) → Has m e → Has n f → Has (μ.join m n) (beside μ e f)
    has_beside m n e f p q =
        ap₂ μ.join p q
        ∙ (join_swap μ ok e.own (over e.places e.results) f.own (over f.places f.results)
        ∙ ap (μ.join (μ.join e.own f.own)) (sym (linear.joined e.places f.places e.results f.results)))

    has_under : (w l n : ℕ) (e : Extent) → Has n e → Has (over_node μ μ.one_copy w l n) (under μ w l e)
    has_under w l n e p =
        let o : ℕ = over e.places e.results in
        let b : ℕ = μ.below w in
        ap (λ x. over_node μ μ.one_copy w l x) p
        ∙ (ap (μ.join (μ.along w μ.one_copy)) (ap (μ.along b) (sym (ok.join_assoc l e.own o)) ∙ ok.along_join b (μ.join l e.own) o)
        ∙ (sym (ok.join_assoc (μ.along w μ.one_copy) (μ.along b (μ.join l e.own)) (μ.along b o))
        ∙ ap (μ.join (over_node μ μ.one_copy w l e.own)) (sym (linear.scaled b e.places e.results))))

    pub has_result : (m : Tree) → Has (extent μ (k m)) (of_result μ m)
    has_result m = each m ∙ sym (ok.join_zero (over μ.one_copy (extent μ m)))

    has_test : (m s t : Tree) (e f : Extent) → Has (extent μ s) e → Has (extent μ t) f → Has (extent μ (Node If m (Node Cons s (Node Cons t Empty)))) (under μ 1 (extent μ m) (beside μ e f))
    unfolding extent
    has_test m s t e f p q =
        let x : ℕ = extent μ s in
        let y : ℕ = extent μ t in
        ap (over_node μ μ.one_copy 1 (extent μ m)) (over_item μ ok x (over_node μ μ.one_copy 0 y 0) ∙ ap (μ.join x) (over_item μ ok y 0 ∙ zero_join μ ok y))
        ∙ has_under 1 (extent μ m) (μ.join x y) (beside μ e f) (has_beside x y e f p q)

    -- finds

    abbrev AreBranches : Tree → List Extent → Type 0
    AreBranches Empty [] = Unit {0}
    AreBranches (Node Cons t more) (e ∷ es) = Has (extent μ t) e × AreBranches more es
    AreBranches _ _ = ⊥

    all_branches : (t : Tree) (es : List Extent) (n : ℕ) (e : Extent) → AreBranches t es → Has n e → Has (μ.join (extent μ t) n) (all_beside μ es e)
    unfolding extent
    all_branches Empty [] n e r h = ok.join_zero n ∙ h
    all_branches (Node Cons t more) (f ∷ es) n e r h =
        let x : ℕ = extent μ t in
        let y : ℕ = extent μ more in
        ap (λ z. μ.join z n) (over_item μ ok x y ∙ ok.join_comm x y)
        ∙ (ok.join_assoc y x n ∙ all_branches more es (μ.join x n) (beside μ f e) r.1 (has_beside x n f e r.0 h))
    all_branches _ _ n e r h = absurd r

    has_find : (l : ℕ) (t o : Tree) (es : List Extent) (e : Extent) → AreBranches t es → Has (extent μ o) e → Has (extent μ (find_or_else l t o)) (of_find μ es e)
    unfolding extent
    has_find l Empty o [] e r h = h
    has_find l (Node Cons t more) o (f ∷ es) e r h =
        let n : ℕ = μ.join (extent μ (Node Cons t more)) (extent μ o) in
        sym (ap (λ x. μ.join (μ.along 1 μ.one_copy) (μ.along (μ.below 1) x)) (ok.join_zero n))
        ∙ has_under 1 0 n (all_beside μ (f ∷ es) e) (all_branches (Node Cons t more) (f ∷ es) (extent μ o) e r h)
    has_find l _ o _ e r h = absurd r

    in_front : (l x y : ℕ) → over_node μ μ.one_copy 0 l (over_node μ μ.one_copy 0 x (over_node μ μ.one_copy 0 y 0)) ≡ μ.join l (μ.join x y)
    in_front l x y =
        over_item μ ok l (over_node μ μ.one_copy 0 x (over_node μ μ.one_copy 0 y 0))
        ∙ ap (μ.join l) (over_item μ ok x (over_node μ μ.one_copy 0 y 0) ∙ ap (μ.join x) (over_item μ ok y 0 ∙ zero_join μ ok y))

    in_branch : (l x y z : ℕ) → μ.join l (over_node μ μ.one_copy 0 x (over_node μ μ.one_copy 0 y z)) ≡ μ.join (over_node μ μ.one_copy 0 l (over_node μ μ.one_copy 0 x (over_node μ μ.one_copy 0 y 0))) z
    in_branch l x y z =
        ap (μ.join l) (over_item μ ok x (over_node μ μ.one_copy 0 y z) ∙ (ap (μ.join x) (over_item μ ok y z) ∙ sym (ok.join_assoc x y z)))
        ∙ (sym (ok.join_assoc l (μ.join x y) z) ∙ ap (λ n. μ.join n z) (sym (in_front l x y)))

    has_branch : (d : Drawn) (c : Caller) (Σ : Scope) (name : ℕ → ℕ) (s : Caller) (cells m body : Tree) (e : Extent) → Has (extent μ body) e → Has (extent μ (branch_for d c Σ name s cells m body)) (under μ 1 (front μ d c Σ name s cells m) e)
    unfolding extent
    has_branch d c Σ name s cells m body e h =
        let ms : List (ℕ × Tree) = index_moves (index_terms c.replications) name 0 s.replications in
        let l : ℕ = extent μ (binders (branch_indices name 0 s.replications)) in
        let x : ℕ = extent μ (cells_then (map (moved ms) (each_once (needed (is_index_of s.replications) s.key))) (cells_in_game d c Σ cells)) in
        let y : ℕ = extent μ (all_equal (moved ms s.key) c.key (in_game d c Σ m)) in
        let z : ℕ = extent μ body in
        let n : ℕ = over_node μ μ.one_copy 0 l (over_node μ μ.one_copy 0 x (over_node μ μ.one_copy 0 y 0)) in
        ap (μ.join (μ.along 1 μ.one_copy)) (ap (μ.along (μ.below 1)) (in_branch l x y z))
        ∙ has_under 1 n z e h

    -- where branches stand so, and their bodies add so much
    module _ (d : Drawn) (ss : List Caller) (c : Caller) where
      abbrev AreBodies : (ℕ → Scope → Tree) → (j r : ℕ) → Tree → Type 0
      AreBodies inner j r (Node Cons (Node Branch (Node (Binder u n) x y) (Node Cons cells (Node Cons m body))) more) =
          ((Τ : Scope) → Has (extent μ (inner j Τ)) (of_body μ d ss c Τ (body_place r Cons Branch (Node (Binder u n) x y) Cons cells Cons m) body))
          × AreBodies inner (suc j) (second_place r Cons (Node Branch (Node (Binder u n) x y) (Node Cons cells (Node Cons m body)))) more
      AreBodies inner j r _ = Unit {0}

      bodies_behind : (inner : ℕ → Scope → Tree) (j r : ℕ) (t : Tree) → AreBodies (λ n. inner (suc n)) j r t → AreBodies inner (suc j) r t
      bodies_behind inner j r (Node Cons (Node Branch (Node (Binder u n) x y) (Node Cons cells (Node Cons m body))) more) h =
          (h.0, bodies_behind inner (suc j) _ more h.1)
      bodies_behind inner j r _ h = tt

      has_branches : (Σ : Scope) (p : ℕ) (inner : ℕ → Scope → Tree) (s : Caller) (j r : ℕ) (t rest : Tree) (es : List Extent) → AreBodies inner j r t → AreBranches rest es
          → AreBranches (expanded_at d c Σ (d.index c.number p s.number) inner s j t rest) (of_branches μ d ss c Σ p s j r t ++ es)
      unfolding expanded_at of_branches
      has_branches Σ p inner s j r (Node Cons (Node Branch (Node (Binder u n) x y) (Node Cons cells (Node Cons m body))) more) rest es h i =
          go (s.bound == n) _ _ (has_branches Σ p inner s (suc j) _ more rest es h.1 i)
        where
          Τ : Scope
          Τ = with_call_of Σ u (index_terms c.replications) (d.index c.number p s.number j) s

          place : ℕ
          place = body_place r Cons Branch (Node (Binder u n) x y) Cons cells Cons m

          t : Tree
          t = branch_for d c Τ (d.index c.number p s.number j) s cells m (inner j Τ)

          e : Extent
          e = under μ 1 (front μ d c Τ (d.index c.number p s.number j) s cells m) (of_body μ d ss c Τ place body)

          go : (b : Bool) (ts : Tree) (fs : List Extent) → AreBranches ts (fs ++ es) → AreBranches (cond b (Node Cons t ts) ts) (cond b (e ∷ fs) fs ++ es)
          go true ts fs k = (has_branch d c Τ (d.index c.number p s.number j) s cells m (inner j Τ) (of_body μ d ss c Τ place body) (h.0 Τ), k)
          go false ts fs k = k
      has_branches Σ p inner s j r t rest es h i = i

      has_sites : (Σ : Scope) (p r : ℕ) (inner : ℕ → Scope → Tree) (t : Tree) → AreBodies inner 0 r t → (sites : List Caller)
          → AreBranches (expanded d c Σ (d.index c.number p) inner sites t) (flat_map (λ s. of_branches μ d ss c Σ p s 0 r t) sites)
      unfolding expanded
      has_sites Σ p r inner t h [] = tt
      has_sites Σ p r inner t h (s ∷ sites) =
          has_branches Σ p inner s 0 r t (expanded d c Σ (d.index c.number p) inner sites t) _ h (has_sites Σ p r inner t h sites)

      mutual
        unfolding inlined_body inlined_branch of_body extent

        pub has_body : (Σ : Scope) (p : ℕ) (t : Tree) → Has (extent μ (inlined_body d ss c Σ p t k)) (of_body μ d ss c Σ p t)
        has_body Σ p (Node (New z T) a b) = has_under 1 0 _ _ (has_body ((z, Own) ∷ Σ) (second_place p (New z T) a) b)
        has_body Σ p (Node (Let z T) a b) = has_under 1 (extent μ (in_game d c Σ a)) _ _ (has_body ((z, Own) ∷ Σ) (second_place p (Let z T) a) b)
        has_body Σ p (Node If a (Node h b (Node j e f))) =
            let q : ℕ = first_place (second_place p If a) h in
            let r : ℕ = first_place (second_place (second_place p If a) h b) j in
            has_test (in_game d c Σ a) (inlined_body d ss c Σ q b k) (inlined_body d ss c Σ r e k) (of_body μ d ss c Σ q b) (of_body μ d ss c Σ r e) (has_body Σ q b) (has_body Σ r e)
        has_body Σ p (Node (Find l) a b) =
            has_find (d.label c.number p) _ _ _ _
            (has_sites Σ p (first_place p (Find l)) (λ j Τ. inlined_branch d ss c Τ (first_place p (Find l)) a k j) a (has_bodies (first_place p (Find l)) a) ss)
            (has_body Σ (second_place p (Find l) a) b)
        has_body Σ p m = has_result (in_game d c Σ m)

        has_bodies : (r : ℕ) (t : Tree) → AreBodies (λ j Τ. inlined_branch d ss c Τ r t k j) 0 r t
        has_bodies r (Node Cons (Node Branch (Node (Binder u n) x y) (Node Cons cells (Node Cons m body))) more) =
            let branch : Tree = Node Branch (Node (Binder u n) x y) (Node Cons cells (Node Cons m body)) in (
              λ Τ. has_body Τ (body_place r Cons Branch (Node (Binder u n) x y) Cons cells Cons m) body,
              bodies_behind (λ j Τ. inlined_branch d ss c Τ r (Node Cons branch more) k j) 0 (second_place r Cons branch) more (has_bodies (second_place r Cons branch) more),
            )
        has_bodies r _ = tt

      pub has_call : (Σ : Scope) (xs : List (ℕ × ℕ)) (ms body : Tree) → Has (extent μ (inlined_call d ss c Σ xs ms body k)) (of_call μ d ss c Σ xs ms body)
      unfolding inlined_call of_call extent
      has_call Σ (x ∷ xs) (Node h m more) body = has_under 1 (extent μ m) _ _ (has_call ((x.0, Own) ∷ Σ) xs more body)
      has_call Σ [] ms body = has_body Σ 0 body
      has_call Σ (x ∷ xs) Empty body = has_body Σ 0 body
