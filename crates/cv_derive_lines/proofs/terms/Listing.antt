-- Lists of terms that lines say are equal, item by item.
use Rattle.std.proofs.Common.{◌≡◌, ◌&&◌, Bool, true, false, [], ◌∷◌, refl, sym, ap, ap₂, ◌∙◌}
use Rattle.std.proofs.lemmas.Bool.{both_ways}
use Rattle.cv_syntax_trees.specs.declared.head.Head.{Head}
use Rattle.cv_syntax_trees.specs.declared.head.Head.TheVariants.{Eq}
use Rattle.cv_syntax_trees.specs.Children.{is_empty}
use Rattle.cv_syntax_trees.specs.Tree.{Tree, Empty, Node, same_tree}
use Rattle.cv_scope_rules.specs.Context.{items}
use Rattle.cv_scene.specs.lines.Inferences.{Visible, are_equal_by, cited_term}

module _ (v : Visible) where
  abbrev equal : Tree → Tree → Tree → Bool
  equal l m n = are_equal_by v (items l) (items m) (items n)

  pub no_left : (l m n : Tree) (h : Head) (a b : Tree) → l ≡ Node h a b → m ≡ Empty → equal l m n ≡ false
  no_left l m n h a b e f = ap₂ (λ x y. equal x y n) e f

  pub no_right : (l m n : Tree) (h k : Head) (a b c d : Tree) → l ≡ Node h a b → m ≡ Node k c d → n ≡ Empty → equal l m n ≡ false
  no_right l m n h k a b c d e f g = ap₂ (λ x y. equal x y n) e f ∙ ap (λ z. equal (Node h a b) (Node k c d) z) g

  module _ (l m n : Tree) (h k j : Head) (a b c d x y : Tree) (e : l ≡ Node h a b) (f : m ≡ Node k c d) (g : n ≡ Node j x y) where
    open_items : equal l m n ≡ (same_tree (cited_term v a) (Node Eq c x) && equal b d y)
    open_items = ap₂ (λ p q. equal p q n) e f ∙ ap (λ z. equal (Node h a b) (Node k c d) z) g

    pub differ : (r : Bool) → r ≡ same_tree (cited_term v a) (Node Eq c x) → r ≡ false → equal l m n ≡ false
    differ r i o = open_items ∙ ap (λ z. z && equal b d y) (sym i ∙ o)

    pub further : (r : Bool) → r ≡ same_tree (cited_term v a) (Node Eq c x) → r ≡ true → equal b d y ≡ equal l m n
    further r i o = sym (open_items ∙ ap (λ z. z && equal b d y) (sym i ∙ o))

  pub more_left : (l m n : Tree) → l ≡ Empty → is_empty m ≡ false → equal l m n ≡ false
  more_left l Empty n e f = absurd (both_ways _ f refl)
  more_left l (Node h a b) n e f = ap (λ x. equal x (Node h a b) n) e

  pub ends_right : (l m n : Tree) → l ≡ Empty → is_empty m ≡ true → equal l m n ≡ is_empty n
  ends_right l Empty Empty e f = ap (λ x. equal x Empty Empty) e
  ends_right l Empty (Node h a b) e f = ap (λ x. equal x Empty (Node h a b)) e
  ends_right l (Node h a b) n e f = absurd (both_ways _ refl f)

  pub no_more : (b : Tree) → are_equal_by v (items b) [] [] ≡ is_empty b
  no_more Empty = refl
  no_more (Node k c d) = refl

  -- one line

  pub only_none : (l m n : Tree) → l ≡ Empty → are_equal_by v (items l) (m ∷ []) (n ∷ []) ≡ false
  only_none l m n e = ap (λ x. are_equal_by v (items x) (m ∷ []) (n ∷ [])) e

  module _ (l m n : Tree) (h : Head) (a b : Tree) (e : l ≡ Node h a b) (r : Bool) (i : r ≡ same_tree (cited_term v a) (Node Eq m n)) where
    pub only_differs : r ≡ false → are_equal_by v (items l) (m ∷ []) (n ∷ []) ≡ false
    only_differs o = ap (λ x. are_equal_by v (items x) (m ∷ []) (n ∷ [])) e ∙ ap (λ z. z && are_equal_by v (items b) [] []) (sym i ∙ o)

    pub only_ends : r ≡ true → are_equal_by v (items l) (m ∷ []) (n ∷ []) ≡ is_empty b
    only_ends o = ap (λ x. are_equal_by v (items x) (m ∷ []) (n ∷ [])) e ∙ (ap (λ z. z && are_equal_by v (items b) [] []) (sym i ∙ o) ∙ no_more b)

  -- two lines

  pub two_none : (l m n c d : Tree) → l ≡ Empty → false ≡ are_equal_by v (items l) (m ∷ c ∷ []) (n ∷ d ∷ [])
  two_none l m n c d e = sym (ap (λ x. are_equal_by v (items x) (m ∷ c ∷ []) (n ∷ d ∷ [])) e)

  module _ (l m n c d : Tree) (h : Head) (a b : Tree) (e : l ≡ Node h a b) (r : Bool) (i : r ≡ same_tree (cited_term v a) (Node Eq m n)) where
    by_two : are_equal_by v (items l) (m ∷ c ∷ []) (n ∷ d ∷ []) ≡ (r && are_equal_by v (items b) (c ∷ []) (d ∷ []))
    by_two = ap (λ x. are_equal_by v (items x) (m ∷ c ∷ []) (n ∷ d ∷ [])) e ∙ ap (λ z. z && are_equal_by v (items b) (c ∷ []) (d ∷ [])) (sym i)

    pub two_differ : r ≡ false → false ≡ are_equal_by v (items l) (m ∷ c ∷ []) (n ∷ d ∷ [])
    two_differ o = sym (by_two ∙ ap (λ z. z && are_equal_by v (items b) (c ∷ []) (d ∷ [])) o)

    pub two_further : r ≡ true → are_equal_by v (items b) (c ∷ []) (d ∷ []) ≡ are_equal_by v (items l) (m ∷ c ∷ []) (n ∷ d ∷ [])
    two_further o = sym (by_two ∙ ap (λ z. z && are_equal_by v (items b) (c ∷ []) (d ∷ [])) o)
