-- Equations between two lists of indices, and the comparison of them, by the trees that list them.
use Rattle.std.proofs.Common.{◌≡◌, ◌+◌, ◌&&◌, Bool, true, false, [], ◌∷◌, refl, sym, ap, ◌∙◌}
use Rattle.cv_syntax_trees.specs.Children.{is_empty}
use Rattle.cv_syntax_trees.specs.declared.head.Head.{Head}
use Rattle.cv_syntax_trees.specs.declared.head.Head.TheVariants.{And, Eq}
use Rattle.cv_syntax_trees.specs.Tree.{Tree, Empty, Node}
use Rattle.cv_scene.specs.lines.Inferences.{equations_of}
use Rattle.cv_scene.specs.lines.Truths.{yes}
use Rattle.cv_scope_rules.specs.Context.{items}
use Rattle.cv_rule_birthday.specs.Comparing.{same_indices}
use Rattle.cv_rule_birthday.specs.Needs.{made_of_equations, made_of_indices}

pub nothing_left : (s t : Tree) → s ≡ Empty → equations_of (items s) (items t) ≡ Empty
nothing_left s t e = ap (λ u. equations_of (items u) (items t)) e

pub made_left : (s t : Tree) → s ≡ Empty → made_of_equations (items s) (items t) ≡ 0
made_left s t e = ap (λ u. made_of_equations (items u) (items t)) e

right_empty : (s : Tree) → equations_of (items s) [] ≡ Empty
right_empty Empty = refl
right_empty (Node h m Empty) = refl
right_empty (Node h m (Node k n b)) = refl

made_empty : (s : Tree) → made_of_equations (items s) [] ≡ 0
made_empty Empty = refl
made_empty (Node h m Empty) = refl
made_empty (Node h m (Node k n b)) = refl

pub nothing_right : (s t : Tree) → t ≡ Empty → equations_of (items s) (items t) ≡ Empty
nothing_right s t e = ap (λ u. equations_of (items s) (items u)) e ∙ right_empty s

pub made_right : (s t : Tree) → t ≡ Empty → made_of_equations (items s) (items t) ≡ 0
made_right s t e = ap (λ u. made_of_equations (items s) (items u)) e ∙ made_empty s

-- the last indices, and those before them

last : (m n a b : Tree) → (is_empty a && is_empty b) ≡ true → equations_of (m ∷ items a) (n ∷ items b) ≡ Node Eq m n
last m n Empty Empty e = refl
last m n Empty (Node k d b) e = absurd (cc)
last m n (Node h c a) b e = absurd (cc)

made_last : (m n a b : Tree) → (is_empty a && is_empty b) ≡ true → made_of_equations (m ∷ items a) (n ∷ items b) ≡ 1
made_last m n Empty Empty e = refl
made_last m n Empty (Node k d b) e = absurd (cc)
made_last m n (Node h c a) b e = absurd (cc)

later : (m n a b : Tree) → (is_empty a && is_empty b) ≡ false → equations_of (m ∷ items a) (n ∷ items b) ≡ Node And (Node Eq m n) (equations_of (items a) (items b))
later m n Empty Empty e = absurd (cc)
later m n Empty (Node k d b) e = refl
later m n (Node h c a) b e = refl

made_before : (m n a b : Tree) → (is_empty a && is_empty b) ≡ false → made_of_equations (m ∷ items a) (n ∷ items b) ≡ made_of_equations (items a) (items b) + 2
made_before m n Empty Empty e = absurd (cc)
made_before m n Empty (Node k d b) e = refl
made_before m n (Node h c a) b e = refl

module _ (s t : Tree) (h : Head) (m a : Tree) (k : Head) (n b : Tree) (e : s ≡ Node h m a) (f : t ≡ Node k n b) (v : Bool) (g : v ≡ (is_empty a && is_empty b)) where
  pub equations_ended : v ≡ true → equations_of (items s) (items t) ≡ Node Eq m n
  equations_ended o = (λ i. equations_of (items (e i)) (items (f i))) ∙ last m n a b (sym g ∙ o)

  pub made_ended : v ≡ true → made_of_equations (items s) (items t) ≡ 1
  made_ended o = (λ i. made_of_equations (items (e i)) (items (f i))) ∙ made_last m n a b (sym g ∙ o)

  pub equations_later : v ≡ false → equations_of (items s) (items t) ≡ Node And (Node Eq m n) (equations_of (items a) (items b))
  equations_later o = (λ i. equations_of (items (e i)) (items (f i))) ∙ later m n a b (sym g ∙ o)

  pub made_later : v ≡ false → made_of_equations (items s) (items t) ≡ made_of_equations (items a) (items b) + 2
  made_later o = (λ i. made_of_equations (items (e i)) (items (f i))) ∙ made_before m n a b (sym g ∙ o)

-- the comparison

module _ (s t : Tree) (v : Bool) (g : v ≡ is_empty s) where
  pub same_none : v ≡ true → same_indices (items s) (items t) ≡ yes
  same_none o = none s (sym g ∙ o)
    where
      none : (r : Tree) → is_empty r ≡ true → same_indices (items r) (items t) ≡ yes
      none Empty e = refl
      none (Node h m a) e = absurd (cc)

  pub made_none : v ≡ true → made_of_indices (items s) (items t) ≡ 1
  made_none o = none s (sym g ∙ o)
    where
      none : (r : Tree) → is_empty r ≡ true → made_of_indices (items r) (items t) ≡ 1
      none Empty e = refl
      none (Node h m a) e = absurd (cc)

  pub same_some : v ≡ false → same_indices (items s) (items t) ≡ equations_of (items s) (items t)
  same_some o = some s (sym g ∙ o)
    where
      some : (r : Tree) → is_empty r ≡ false → same_indices (items r) (items t) ≡ equations_of (items r) (items t)
      some Empty e = absurd (cc)
      some (Node h m a) e = refl

  pub made_some : v ≡ false → made_of_indices (items s) (items t) ≡ made_of_equations (items s) (items t)
  made_some o = some s (sym g ∙ o)
    where
      some : (r : Tree) → is_empty r ≡ false → made_of_indices (items r) (items t) ≡ made_of_equations (items r) (items t)
      some Empty e = absurd (cc)
      some (Node h m a) e = refl
