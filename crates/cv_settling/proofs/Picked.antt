-- The item at a number, list by list, and the rewritings of a term, equation by equation.
use Rattle.std.proofs.Common.{◌≡◌, ℕ, suc, ◌+◌, ◌<◌, ◌≤◌, Bool, true, false, List, [], ◌∷◌, ◌++◌, map, drop, length, Option, Some, None, refl, sym, ap, subst, ◌∙◌, arith, add-one, drop-cons, length-append}
use Rattle.std.specs.Prelude.{zero, if◌then◌else◌, slice_get, slice_index_or, option_and_then, option_map}
use Rattle.std.specs.List.{filter, flat_map}
use Rattle.std.proofs.lemmas.List.{drop_all, map-append}
use Rattle.std.proofs.lemmas.List.Elements.{filter-append}
use Rattle.cv_pool.specs.KindTree.{KindTree}
use Rattle.cv_syntax_trees.specs.declared.head.Head.TheVariants.{Eq}
use Rattle.cv_syntax_trees.specs.Tree.{Tree, Node, bound_names, first, second}
use Rattle.cv_syntax.specs.PoolTrees.{tree_at}
use Rattle.cv_scene.specs.Reasons.{equations_in}
use Rattle.cv_scene.specs.Scenes.{Scene}
use Rattle.cv_settling_rules.specs.Candidates.{Candidate, Rewrite, when}
use Rattle.cv_settling_rules.specs.Equations.{by_equations, by_sides, is_left_side, right_side, terms_for}
use Rattle.cv_settling.specs.Instances.{Numbered, lower_instance_of, numbered_from, right_with, seen_in, sides_by, with_sides}
use Rattle.cv_settling.specs.Measured.{is_lower}
use Rattle.cv_settling.specs.Picking.{IsPicked}
use Rattle.cv_settling.specs.Rewritings.{AreMeasurable, IsMeasurable, listed, lower_rewritings, lower_sides, placed_in}
use Rattle.cv_settling.specs.Truths.{truth_of}
use Rattle.cv_settling.specs.declared.equations.Equation.{Equation}
use Rattle.cv_settling_overview.specs.declared.walk.Placed.{Placed}

-- lists

pub picked_behind : {A : Type 0} (x : A) (xs : List A) (old less new : ℕ) (o : Option A) → old ≡ less + 1 → IsPicked xs less new o → IsPicked (x ∷ xs) old new o
picked_behind x xs old less new (Some y) e p = ap (slice_get (x ∷ xs)) (e ∙ add-one less) ∙ p
picked_behind x xs old less new None e p = let q : less ≡ new + length xs = p in let r : old ≡ new + length (x ∷ xs) = omega arith in r

pub picked_first : {A : Type 0} (x : A) (xs : List A) (old new : ℕ) → old ≡ 0 → IsPicked (x ∷ xs) old new (Some x)
picked_first x xs old new e = ap (slice_get (x ∷ xs)) e

slice_get_front : {A : Type 0} (xs ys : List A) (n : ℕ) (y : A) → slice_get xs n ≡ Some y → slice_get (xs ++ ys) n ≡ Some y
slice_get_front [] ys n y e = absurd (cc)
slice_get_front (x ∷ xs) ys zero y e = e
slice_get_front (x ∷ xs) ys (suc n) y e = slice_get_front xs ys n y e

slice_get_back : {A : Type 0} (xs ys : List A) (n k : ℕ) → k ≡ n + length xs → slice_get (xs ++ ys) k ≡ slice_get ys n
slice_get_back [] ys n k e = ap (slice_get ys) (let f : k ≡ n = omega arith in f)
slice_get_back (x ∷ xs) ys n k e = ap (slice_get ((x ∷ xs) ++ ys)) (let f : k ≡ suc (n + length xs) = omega arith in f) ∙ slice_get_back xs ys n (n + length xs) refl

pub picked_front : {A : Type 0} (xs ys : List A) (old new : ℕ) (x : A) → IsPicked xs old new (Some x) → IsPicked (xs ++ ys) old new (Some x)
picked_front xs ys old new x p = slice_get_front xs ys old x p

pub picked_back : {A : Type 0} (xs ys : List A) (old less new : ℕ) (o : Option A) → IsPicked xs old less None → IsPicked ys less new o → IsPicked (xs ++ ys) old new o
picked_back xs ys old less new (Some y) p q = slice_get_back xs ys less old p ∙ q
picked_back xs ys old less new None p q =
    let r : old ≡ less + length xs = p in
    let w : less ≡ new + length ys = q in
    let v : old ≡ new + length (xs ++ ys) = omega (arith, length-append xs ys) in
    v

-- one equation

module _ (s : Scene) (t : Tree) (e : Numbered) where
  by_test : (ms : List Tree) (b : Bool) → b ≡ is_lower s t (right_with e ms) → filter (is_lower s t) (right_with e ms ∷ []) ≡ listed (option_map (right_with e) (if b then Some ms else None))
  by_test ms true f = ap (λ (c : Bool). if c then right_with e ms ∷ [] else []) (sym f)
  by_test ms false f = ap (λ (c : Bool). if c then right_with e ms ∷ [] else []) (sym f)

  by_left : (ms : List Tree) (b : Bool) → filter (is_lower s t) (when b (right_with e ms)) ≡ listed (option_map (right_with e) (option_and_then (λ ns. if is_lower s t (right_with e ns) then Some ns else None) (if b then Some ms else None)))
  by_left ms true = by_test ms (is_lower s t (right_with e ms)) refl
  by_left ms false = refl

  by_terms : (o : Option (List Tree)) → filter (is_lower s t) (right_side s e.binders e.left e.right t o)
      ≡ listed (option_map (right_with e) (option_and_then (λ ns. if is_lower s t (right_with e ns) then Some ns else None) (option_and_then (λ ms. if is_left_side s e.binders e.left t ms then Some ms else None) o)))
  by_terms None = refl
  by_terms (Some ms) = by_left ms (is_left_side s e.binders e.left t ms)

  lower_side : filter (is_lower s t) (sides_by s t e) ≡ listed (option_map (right_with e) (lower_instance_of s e t))
  lower_side = by_terms (terms_for (bound_names e.binders) e.left t)

-- the equations of a list
module _ (s : Scene) (t : Tree) (place : ℕ) where
  split : (e : Numbered) (es : List Numbered) → map (Rewrite place) (filter (is_lower s t) (flat_map (sides_by s t) (e ∷ es)))
      ≡ map (Rewrite place) (listed (option_map (right_with e) (lower_instance_of s e t))) ++ map (Rewrite place) (filter (is_lower s t) (flat_map (sides_by s t) es))
  split e es =
      ap (map (Rewrite place)) (filter-append (is_lower s t) (sides_by s t e) (flat_map (sides_by s t) es))
      ∙ (map-append (Rewrite place) (filter (is_lower s t) (sides_by s t e)) (filter (is_lower s t) (flat_map (sides_by s t) es))
      ∙ ap (λ us. map (Rewrite place) us ++ map (Rewrite place) (filter (is_lower s t) (flat_map (sides_by s t) es))) (lower_side s t e))

  module _ (e : Numbered) (es : List Numbered) where
    pub passed_over : (old new : ℕ) (o : Option Candidate) → None ≡ lower_instance_of s e t
        → IsPicked (map (Rewrite place) (filter (is_lower s t) (flat_map (sides_by s t) es))) old new o
        → IsPicked (map (Rewrite place) (filter (is_lower s t) (flat_map (sides_by s t) (e ∷ es)))) old new o
    passed_over old new o f p =
        subst (λ (cs : List Candidate). IsPicked cs old new o)
        (sym (split e es ∙ ap (λ i. map (Rewrite place) (listed (option_map (right_with e) i)) ++ map (Rewrite place) (filter (is_lower s t) (flat_map (sides_by s t) es))) (sym f))) p

    module _ (ms : List Tree) (f : Some ms ≡ lower_instance_of s e t) where
      one : map (Rewrite place) (filter (is_lower s t) (flat_map (sides_by s t) (e ∷ es)))
          ≡ Rewrite place (right_with e ms) ∷ map (Rewrite place) (filter (is_lower s t) (flat_map (sides_by s t) es))
      one = split e es ∙ ap (λ i. map (Rewrite place) (listed (option_map (right_with e) i)) ++ map (Rewrite place) (filter (is_lower s t) (flat_map (sides_by s t) es))) (sym f)

      pub picked_here : (old new : ℕ) → old ≡ 0 → IsPicked (map (Rewrite place) (filter (is_lower s t) (flat_map (sides_by s t) (e ∷ es)))) old new (Some (Rewrite place (right_with e ms)))
      picked_here old new z = subst (λ (cs : List Candidate). IsPicked cs old new (Some (Rewrite place (right_with e ms)))) (sym one) (picked_first _ _ old new z)

      pub picked_later : (old less new : ℕ) (o : Option Candidate) → old ≡ less + 1
          → IsPicked (map (Rewrite place) (filter (is_lower s t) (flat_map (sides_by s t) es))) less new o
          → IsPicked (map (Rewrite place) (filter (is_lower s t) (flat_map (sides_by s t) (e ∷ es)))) old new o
      picked_later old less new o z p = subst (λ (cs : List Candidate). IsPicked cs old new o) (sym one) (picked_behind _ _ old less new o z p)

-- the equations of a scene
module _ (s : Scene) (t : Tree) where
  one_more : (k : ℕ) (bs body : Tree) (more : List Numbered) (rest : List Tree) → flat_map (sides_by s t) more ≡ rest → flat_map (sides_by s t) (with_sides k bs body more) ≡ by_sides s bs body t ++ rest
  one_more k bs (Node Eq l r) more rest e = ap (λ us. right_side s bs l r t (terms_for (bound_names bs) l t) ++ us) e
  one_more k bs body more rest e = e

  all_sides : (k : ℕ) (es : List Tree) → flat_map (sides_by s t) (numbered_from k es) ≡ flat_map (λ e. by_sides s (first e) (second e) t) es
  all_sides k [] = refl
  all_sides k (e ∷ es) = one_more k (first e) (second e) (numbered_from (suc k) es) _ (all_sides (suc k) es)

  sides_of_scene : (es : List Numbered) → es ≡ numbered_from 1 (equations_in s.declarations) → flat_map (sides_by s t) es ≡ by_equations s t
  sides_of_scene es e = ap (flat_map (sides_by s t)) e ∙ all_sides 1 (equations_in s.declarations)

-- those of truth values come first
module _ (s : Scene) (t : Tree) (place : ℕ) (es : List Numbered) (e : es ≡ numbered_from 1 (equations_in s.declarations)) where
  behind_truth : map (Rewrite place) (lower_sides s t) ≡ map (Rewrite place) (listed (truth_of t)) ++ map (Rewrite place) (filter (is_lower s t) (flat_map (sides_by s t) es))
  behind_truth =
      map-append (Rewrite place) (listed (truth_of t)) (filter (is_lower s t) (by_equations s t))
      ∙ ap (λ us. map (Rewrite place) (listed (truth_of t)) ++ map (Rewrite place) (filter (is_lower s t) us)) (sym (sides_of_scene s t es e))

  pub no_truth_first : (old new : ℕ) (o : Option Candidate) → None ≡ truth_of t
      → IsPicked (map (Rewrite place) (filter (is_lower s t) (flat_map (sides_by s t) es))) old new o → IsPicked (map (Rewrite place) (lower_sides s t)) old new o
  no_truth_first old new o f p =
      subst (λ (cs : List Candidate). IsPicked cs old new o)
      (sym (behind_truth ∙ ap (λ u. map (Rewrite place) (listed u) ++ map (Rewrite place) (filter (is_lower s t) (flat_map (sides_by s t) es))) (sym f))) p

  module _ (u : Tree) (f : Some u ≡ truth_of t) where
    with_truth : map (Rewrite place) (lower_sides s t) ≡ Rewrite place u ∷ map (Rewrite place) (filter (is_lower s t) (flat_map (sides_by s t) es))
    with_truth = behind_truth ∙ ap (λ q. map (Rewrite place) (listed q) ++ map (Rewrite place) (filter (is_lower s t) (flat_map (sides_by s t) es))) (sym f)

    pub truth_first : (old new : ℕ) → old ≡ 0 → IsPicked (map (Rewrite place) (lower_sides s t)) old new (Some (Rewrite place u))
    truth_first old new z = subst (λ (cs : List Candidate). IsPicked cs old new (Some (Rewrite place u))) (sym with_truth) (picked_first _ _ old new z)

    pub truth_passed : (old less new : ℕ) (o : Option Candidate) → old ≡ less + 1
        → IsPicked (map (Rewrite place) (filter (is_lower s t) (flat_map (sides_by s t) es))) less new o → IsPicked (map (Rewrite place) (lower_sides s t)) old new o
    truth_passed old less new o z p = subst (λ (cs : List Candidate). IsPicked cs old new o) (sym with_truth) (picked_behind _ _ old less new o z p)

-- Equations and terms as the code has them, one by one.

module _ (s : Scene) (t : Tree) (place : ℕ) (trees : List KindTree) (equation : Equation) (es fs : List Equation) (d : fs ≡ equation ∷ es) where
  passed_at : (old new : ℕ) (o : Option Candidate) → None ≡ lower_instance_of s (seen_in trees equation) t
      → IsPicked (map (Rewrite place) (filter (is_lower s t) (flat_map (sides_by s t) (map (seen_in trees) es)))) old new o
      → IsPicked (map (Rewrite place) (filter (is_lower s t) (flat_map (sides_by s t) (map (seen_in trees) fs)))) old new o
  passed_at old new o f p =
      subst (λ (gs : List Equation). IsPicked (map (Rewrite place) (filter (is_lower s t) (flat_map (sides_by s t) (map (seen_in trees) gs)))) old new o) (sym d)
      (passed_over s t place (seen_in trees equation) (map (seen_in trees) es) old new o f p)

  pub passed_as : (old less new : ℕ) (o : Option Candidate) → less ≡ old → None ≡ lower_instance_of s (seen_in trees equation) t
      → IsPicked (map (Rewrite place) (filter (is_lower s t) (flat_map (sides_by s t) (map (seen_in trees) es)))) less new o
      → IsPicked (map (Rewrite place) (filter (is_lower s t) (flat_map (sides_by s t) (map (seen_in trees) fs)))) old new o
  passed_as old less new o e f p =
      passed_at old new o f (subst (λ (n : ℕ). IsPicked (map (Rewrite place) (filter (is_lower s t) (flat_map (sides_by s t) (map (seen_in trees) es)))) n new o) e p)

  module _ (ms : List Tree) (f : Some ms ≡ lower_instance_of s (seen_in trees equation) t) where
    pub picked_at : (old new : ℕ) → old ≡ 0
        → IsPicked (map (Rewrite place) (filter (is_lower s t) (flat_map (sides_by s t) (map (seen_in trees) fs)))) old new (Some (Rewrite place (right_with (seen_in trees equation) ms)))
    picked_at old new z =
        subst (λ (gs : List Equation). IsPicked (map (Rewrite place) (filter (is_lower s t) (flat_map (sides_by s t) (map (seen_in trees) gs)))) old new (Some (Rewrite place (right_with (seen_in trees equation) ms)))) (sym d)
        (picked_here s t place (seen_in trees equation) (map (seen_in trees) es) ms f old new z)

    pub counted_at : (old less new : ℕ) (o : Option Candidate) → old ≡ less + 1
        → IsPicked (map (Rewrite place) (filter (is_lower s t) (flat_map (sides_by s t) (map (seen_in trees) es)))) less new o
        → IsPicked (map (Rewrite place) (filter (is_lower s t) (flat_map (sides_by s t) (map (seen_in trees) fs)))) old new o
    counted_at old less new o z p =
        subst (λ (gs : List Equation). IsPicked (map (Rewrite place) (filter (is_lower s t) (flat_map (sides_by s t) (map (seen_in trees) gs)))) old new o) (sym d)
        (picked_later s t place (seen_in trees equation) (map (seen_in trees) es) ms f old less new o z p)

module _ (s : Scene) (trees : List KindTree) (at : Placed) (vs ws : List Placed) (d : ws ≡ at ∷ vs) where
  pub measurable_at : AreMeasurable (placed_in trees ws) → IsMeasurable (tree_at trees (Some at.node)) × AreMeasurable (placed_in trees vs)
  measurable_at m = subst (λ (us : List Placed). AreMeasurable (placed_in trees us)) d m

  pub found_at : (old new : ℕ) (c : Candidate) → IsPicked (map (Rewrite at.place) (lower_sides s (tree_at trees (Some at.node)))) old new (Some c) → IsPicked (lower_rewritings s (placed_in trees ws)) old new (Some c)
  found_at old new c p =
      subst (λ (us : List Placed). IsPicked (lower_rewritings s (placed_in trees us)) old new (Some c)) (sym d)
      (picked_front (map (Rewrite at.place) (lower_sides s (tree_at trees (Some at.node)))) (lower_rewritings s (placed_in trees vs)) old new c p)

  pub none_at : (old less new : ℕ) (o : Option Candidate) → IsPicked (map (Rewrite at.place) (lower_sides s (tree_at trees (Some at.node)))) old less None
      → IsPicked (lower_rewritings s (placed_in trees vs)) less new o → IsPicked (lower_rewritings s (placed_in trees ws)) old new o
  none_at old less new o p q =
      subst (λ (us : List Placed). IsPicked (lower_rewritings s (placed_in trees us)) old new o) (sym d)
      (picked_back (map (Rewrite at.place) (lower_sides s (tree_at trees (Some at.node)))) (lower_rewritings s (placed_in trees vs)) old less new o p q)

-- at the end of a list

nothing_left : (left : ℕ) → left ≡ left + 0
nothing_left left = omega arith

pub no_equation_left : (s : Scene) (t : Tree) (place : ℕ) (trees : List KindTree) (equations : List Equation) (i left : ℕ) → length equations ≤ i
    → IsPicked (map (Rewrite place) (filter (is_lower s t) (flat_map (sides_by s t) (map (seen_in trees) (drop i equations))))) left left None
no_equation_left s t place trees equations i left l =
    subst (λ (gs : List Equation). IsPicked (map (Rewrite place) (filter (is_lower s t) (flat_map (sides_by s t) (map (seen_in trees) gs)))) left left None) (sym (drop_all i equations l)) (nothing_left left)

pub no_term_left : (s : Scene) (trees : List KindTree) (terms : List Placed) (i left : ℕ) → length terms ≤ i → IsPicked (lower_rewritings s (placed_in trees (drop i terms))) left left None
no_term_left s trees terms i left l =
    subst (λ (us : List Placed). IsPicked (lower_rewritings s (placed_in trees us)) left left None) (sym (drop_all i terms l)) (nothing_left left)

pub from_next : {A : Type 0} (xs : List A) (i : ℕ) (d : A) → i < length xs → drop i xs ≡ slice_index_or xs i d ∷ drop (i + 1) xs
from_next xs i d l = drop-cons xs i d l ∙ ap (λ k. slice_index_or xs i d ∷ drop k xs) (sym (add-one i))
