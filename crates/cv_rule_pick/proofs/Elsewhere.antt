-- Where index variables are named otherwise, as the code goes through a game.
use Rattle.std.proofs.Common.{◌≡◌, ℕ, ◌+◌, ◌<◌, ◌==◌, ◌&&◌, ◌||◌, not, Bool, true, false, cond, List, Option, Some, None, refl, sym, ap, ap₂, ◌∙◌, arith}
use Rattle.std.proofs.lemmas.Bool.{both_ways}
use Rattle.std.specs.List.{list_any}
use Rattle.cv_syntax_trees.specs.declared.head.Head.{Head}
use Rattle.cv_syntax_trees.specs.declared.head.Head.TheVariants.{Branch, Call, In, Key, Leaf, Let, New, Read}
use Rattle.cv_syntax_trees.specs.Head.{weight}
use Rattle.cv_syntax_trees.specs.Tree.{Tree, Empty, Node, first_place, same_tree, second_place, size, subtree}
use Rattle.cv_syntax_trees.specs.sites.Sites.{first_of}
use Rattle.cv_path.proofs.Going.{subtree_behind, subtree_here, subtree_within}
use Rattle.cv_scene.specs.Scenes.{or_empty, part_at}
use Rattle.cv_costs.specs.names.Naming.{first_naming, is_between, names_one}
use Rattle.cv_rule_pick.specs.Looks.{first_elsewhere}
use Rattle.cv_rule_pick.specs.Picking.{is_inside}

-- a tree stands at a place of a game: so do its places
abbrev IsPart : Tree → ℕ → Tree → Type 0
IsPart game p t = (q : ℕ) → q < size t → subtree game (p + q) ≡ subtree t q

module _ (game : Tree) (p : ℕ) (h : Head) (a b : Tree) (k : IsPart game p (Node h a b)) where
  first_part : IsPart game (first_place p h) a
  unfolding size
  first_part q l =
      ap (subtree game) (let e : p + weight h + q ≡ p + (weight h + q) = omega arith in e)
      ∙ (k (weight h + q) (omega arith) ∙ subtree_within (Node h a b) h a b (weight h + q) q refl (refl, l))

  second_part : IsPart game (second_place p h a) b
  unfolding size
  second_part q l =
      ap (subtree game) (let e : p + weight h + size a + q ≡ p + (weight h + size a + q) = omega arith in e)
      ∙ (k (weight h + size a + q) (omega arith) ∙ subtree_behind (Node h a b) h a b (weight h + size a + q) q refl refl)

  here : weight h ≡ 1 → part_at game p ≡ Node h a b
  unfolding size
  here w =
      ap or_empty
      (ap (subtree game) (let e : p ≡ p + 0 = omega arith in e)
      ∙ (k 0 (omega arith) ∙ subtree_here (Node h a b) h a b 0 0 refl (omega arith)))

names_weigh : (xs : ℕ → Bool) (h : Head) (a : Tree) → names_one xs h a ≡ true → weight h ≡ 1
names_weigh xs (Leaf x) a e = refl
names_weigh xs (Read x) a e = refl
names_weigh xs (New x T) a e = refl
names_weigh xs (Let x T) a e = refl
names_weigh xs (Key x) a e = refl
names_weigh xs (Call x l) a e = refl
names_weigh xs (In c) a e = refl
names_weigh xs Branch a e = refl
names_weigh xs h a e = absurd (both_ways false refl e)

module _ (xs : ℕ → Bool) (game : Tree) (cs : List Tree) (q r : ℕ) where
  abbrev skip : ℕ → Tree → Bool
  skip p t = (p == q) || (is_between q r p && list_any (same_tree t) cs)

  same_here : (p : ℕ) (h : Head) (a b : Tree) → IsPart game p (Node h a b) → (names_one xs h a && not (skip p (Node h a b))) ≡ (names_one xs h a && not (is_inside game cs q r p))
  same_here p h a b k = go (names_one xs h a) refl
    where
      go : (v : Bool) → names_one xs h a ≡ v → (v && not (skip p (Node h a b))) ≡ (v && not (is_inside game cs q r p))
      go false e = refl
      go true e = ap (λ t. not (skip p t)) (sym (here game p h a b k (names_weigh xs h a e)))

  same_places : (p : ℕ) (t : Tree) → IsPart game p t → first_elsewhere xs skip p t ≡ first_naming xs (is_inside game cs q r) p t
  unfolding first_elsewhere first_naming
  same_places p Empty k = refl
  same_places p (Node h a b) k =
      ap₂ (λ (v : Bool) (o : Option ℕ). cond v (Some p) o) (same_here p h a b k)
      (ap₂ first_of (same_places (first_place p h) a (first_part game p h a b k)) (same_places (second_place p h a) b (second_part game p h a b k)))

  pub elsewhere_is : first_elsewhere xs skip 0 game ≡ first_naming xs (is_inside game cs q r) 0 game
  elsewhere_is = same_places 0 game (λ i l. ap (subtree game) (let e : 0 + i ≡ i = omega arith in e))

-- one node, as the code looks at it

pub elsewhere_node : (xs : ℕ → Bool) (skip : ℕ → Tree → Bool) (p : ℕ) (t : Tree) (h : Head) (a b : Tree) → t ≡ Node h a b
    → first_elsewhere xs skip p t ≡ cond (names_one xs h a && not (skip p t)) (Some p) (first_of (first_elsewhere xs skip (first_place p h) a) (first_elsewhere xs skip (second_place p h a) b))
unfolding first_elsewhere
elsewhere_node xs skip p t h a b e =
    ap (first_elsewhere xs skip p) e
    ∙ ap (λ u. cond (names_one xs h a && not (skip p u)) (Some p) (first_of (first_elsewhere xs skip (first_place p h) a) (first_elsewhere xs skip (second_place p h a) b))) (sym e)

pub elsewhere_end : (xs : ℕ → Bool) (skip : ℕ → Tree → Bool) (p : ℕ) (t : Tree) → t ≡ Empty → first_elsewhere xs skip p t ≡ None
unfolding first_elsewhere
elsewhere_end xs skip p t e = ap (first_elsewhere xs skip p) e
