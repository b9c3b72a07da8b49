-- What stands where a body has its names, in the body with terms for them.
use Rattle.std.proofs.Common.{◌≡◌, ℕ, Bool, true, false, ◌&&◌, List, [], ◌∷◌, length, map, Option, Some, None, refl, ap, ap₂, ◌∙◌, eqb-true, eq-eqb}
use Rattle.std.specs.Prelude.{◌||◌, ◌==◌, if◌then◌else◌}
use Rattle.cv_syntax_trees.specs.declared.head.Head.TheVariants.{Cons, Leaf}
use Rattle.cv_syntax_trees.specs.Tree.{Tree, Empty, Node, chain}
use Rattle.cv_syntax_trees.specs.sites.Sites.{first_of}
use Rattle.cv_scene.specs.lines.Given.{or_node, term_for, with_given}
use Rattle.cv_scene.specs.Scenes.{or_empty}
use Rattle.cv_scene.specs.Instances.{standing_for}
use Rattle.cv_match_laws.specs.Named.{AreApart, Each, has_bare_leaves, has_leaf}
use Rattle.cv_syntax_trees.proofs.lists.Tests.{and_first, and_second}

by_parts : (u : Tree) (o p : Option Tree) (c d : Bool) → o ≡ (if c then Some u else None) → p ≡ (if d then Some u else None) → first_of o p ≡ (if c || d then Some u else None)
by_parts u o p true d e f = ap (λ q. first_of q p) e
by_parts u o p false d e f = ap (λ q. first_of q p) e ∙ f

-- where a name is given a term, this term stands for it in the body with the terms
module _ (ns : List ℕ) (ts : Tree) (x : ℕ) (u : Tree) (given : term_for ns ts x ≡ Some u) where
  at_leaf : (y : ℕ) (c : Bool) → (y == x) ≡ c → first_of (if c then Some (or_node (term_for ns ts y) (Leaf y) Empty Empty) else None) (first_of None None) ≡ (if c || (false || false) then Some u else None)
  at_leaf y true e = ap (λ o. Some (or_node o (Leaf y) Empty Empty)) (ap (term_for ns ts) (eqb-true y x e) ∙ given)
  at_leaf y false e = refl

  pub standing_filled : (t : Tree) → has_bare_leaves t ≡ true → standing_for x t (with_given ns ts t) ≡ (if has_leaf x t then Some u else None)
  unfolding standing_for with_given has_leaf has_bare_leaves
  standing_filled Empty e = refl
  standing_filled (Node (Leaf y) Empty Empty) e = at_leaf y (y == x) refl
  standing_filled (Node (Leaf y) Empty (Node k c d)) e = absurd (cc)
  standing_filled (Node (Leaf y) (Node k c d) b) e = absurd (cc)
  standing_filled (Node h a b) e =
      by_parts u (standing_for x a (with_given ns ts a)) (standing_for x b (with_given ns ts b)) (has_leaf x a) (has_leaf x b)
      (standing_filled a (and_first (has_bare_leaves a) (has_bare_leaves b) e)) (standing_filled b (and_second (has_bare_leaves a) (has_bare_leaves b) e))

-- names and terms in one order

abbrev pub Pairs : (ℕ → Option Tree) → List ℕ → List Tree → Type 0
Pairs F [] [] = Unit {0}
Pairs F (x ∷ xs) (u ∷ us) = (F x ≡ Some u) × Pairs F xs us
Pairs F xs us = ⊥

skip : (x : ℕ) (u : Tree) (ns : List ℕ) (ts : Tree) (xs : List ℕ) (us : List Tree) → Each (λ y. (x == y) ≡ false) xs → Pairs (term_for ns ts) xs us → Pairs (term_for (x ∷ ns) (Node Cons u ts)) xs us
skip x u ns ts [] [] a p = tt
skip x u ns ts [] (v ∷ us) a p = p
skip x u ns ts (y ∷ xs) [] a p = p
skip x u ns ts (y ∷ xs) (v ∷ us) a p = (ap (λ b. if b then Some u else term_for ns ts y) a.0 ∙ p.0, skip x u ns ts xs us a.1 p.1)

pub pairs : (xs : List ℕ) (us : List Tree) → length xs ≡ length us → AreApart xs → Pairs (term_for xs (chain us)) xs us
pairs [] [] e a = tt
pairs [] (u ∷ us) e a = absurd (cc)
pairs (x ∷ xs) [] e a = absurd (cc)
pairs (x ∷ xs) (u ∷ us) e a =
    let f : length xs ≡ length us = cc in
    (ap (λ b. if b then Some u else term_for xs (chain us) x) (eq-eqb x x refl), skip x u xs (chain us) xs us a.0 (pairs xs us f a.1))

pub standing_terms : (ns : List ℕ) (ts body : Tree) → has_bare_leaves body ≡ true → (xs : List ℕ) (us : List Tree) → Pairs (term_for ns ts) xs us → Each (λ x. has_leaf x body ≡ true) xs → map (λ x. or_empty (standing_for x body (with_given ns ts body))) xs ≡ us
standing_terms ns ts body bare [] [] p a = refl
standing_terms ns ts body bare [] (u ∷ us) p a = absurd p
standing_terms ns ts body bare (x ∷ xs) [] p a = absurd p
standing_terms ns ts body bare (x ∷ xs) (u ∷ us) p a =
    ap₂ (λ v vs. v ∷ vs)
    (ap or_empty (standing_filled ns ts x u p.0 body bare ∙ ap (λ b. if b then Some u else None) a.0))
    (standing_terms ns ts body bare xs us p.1 a.1)
