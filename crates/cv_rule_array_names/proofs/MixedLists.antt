-- Branches whose lists have cells of a variable at different indices, node by node.
use Rattle.std.proofs.Common.{◌≡◌, ℕ, ◌+◌, Bool, true, false, ◌&&◌, ◌||◌, not, List, [], ◌∷◌, Option, Some, None, refl, sym, ap, ◌∙◌}
use Rattle.std.specs.Prelude.{if◌then◌else◌}
use Rattle.cv_syntax_trees.specs.declared.head.Head.{Head}
use Rattle.cv_syntax_trees.specs.declared.head.Head.TheVariants.{Branch}
use Rattle.cv_syntax_trees.specs.Tree.{Tree, Empty, Node, first_place, same_tree, second_place}
use Rattle.cv_syntax_trees.specs.sites.Sites.{first_of}
use Rattle.cv_edit_names.specs.Cells.{are_mixed, cells_in, first_mixed, is_cell_of}
use Rattle.cv_rule_array_names.specs.Mixed.{has_other, mixes}

mixed_by : (x p : ℕ) (h : Head) (a b : Tree) → first_mixed x p (Node h a b) ≡ (if mixes x h b then Some p else first_of (first_mixed x (first_place p h) a) (first_mixed x (second_place p h a) b))
unfolding first_mixed
mixed_by x p Branch a b = refl
mixed_by x p h a b = refl

pub mixed_node : (x p : ℕ) (t : Tree) (h : Head) (a b : Tree) → t ≡ Node h a b → first_mixed x p t ≡ (if mixes x h b then Some p else first_of (first_mixed x (first_place p h) a) (first_mixed x (second_place p h a) b))
mixed_node x p t h a b e = ap (first_mixed x p) e ∙ mixed_by x p h a b

pub mixed_end : (x p : ℕ) (t : Tree) → t ≡ Empty → first_mixed x p t ≡ None
unfolding first_mixed
mixed_end x p t e = ap (first_mixed x p) e

-- where the test holds, where the first child has one, and where the rest is asked
pub mixes_here : (l r : Option ℕ) (p : ℕ) (o : Option ℕ) (v w : Bool) → o ≡ (if w then Some p else first_of l r) → v ≡ w → v ≡ true → o ≡ Some p
mixes_here l r p o v w e f t = e ∙ ap (λ b. if b then Some p else first_of l r) (sym f ∙ t)

pub mixes_first : (l r : Option ℕ) (p q : ℕ) (o : Option ℕ) (v w : Bool) → o ≡ (if w then Some p else first_of l r) → v ≡ w → v ≡ false → l ≡ Some q → o ≡ Some q
mixes_first l r p q o v w e f t m = e ∙ (ap (λ b. if b then Some p else first_of l r) (sym f ∙ t) ∙ ap (λ u. first_of u r) m)

pub mixes_rest : (l r : Option ℕ) (p : ℕ) (o : Option ℕ) (v w : Bool) → o ≡ (if w then Some p else first_of l r) → v ≡ w → v ≡ false → l ≡ None → o ≡ r
mixes_rest l r p o v w e f t m = e ∙ (ap (λ b. if b then Some p else first_of l r) (sym f ∙ t) ∙ ap (λ u. first_of u r) m)

-- lists of cells, link by link

module _ (x : ℕ) where
  cells_link : (h : Head) (c more : Tree) (v : Bool) → is_cell_of x c ≡ v → cells_in x (Node h c more) ≡ (if v then c ∷ cells_in x more else cells_in x more)
  cells_link h c more v e = ap (λ b. if b then c ∷ cells_in x more else cells_in x more) e

  pub cells_here : (t : Tree) (h : Head) (c more : Tree) → t ≡ Node h c more → is_cell_of x c ≡ true → cells_in x t ≡ c ∷ cells_in x more
  cells_here t h c more e f = ap (cells_in x) e ∙ cells_link h c more true f

  pub cells_later : (t : Tree) (h : Head) (c more : Tree) → t ≡ Node h c more → is_cell_of x c ≡ false → cells_in x t ≡ cells_in x more
  cells_later t h c more e f = ap (cells_in x) e ∙ cells_link h c more false f

  pub cells_end : (t : Tree) → t ≡ Empty → cells_in x t ≡ []
  cells_end t e = ap (cells_in x) e

  -- a cell that differs, and one that doesn't
  module _ (d : Tree) (t : Tree) (h : Head) (c more : Tree) (e : t ≡ Node h c more) where
    other_by : (v w : Bool) → is_cell_of x c ≡ v → same_tree d c ≡ w → has_other d (cells_in x t) ≡ (if v && not w then true else has_other d (cells_in x more))
    other_by true true f g = ap (has_other d) (cells_here t h c more e f) ∙ ap (λ u. not u || has_other d (cells_in x more)) g
    other_by true false f g = ap (has_other d) (cells_here t h c more e f) ∙ ap (λ u. not u || has_other d (cells_in x more)) g
    other_by false w f g = ap (has_other d) (cells_later t h c more e f)

    pub other_link : has_other d (cells_in x t) ≡ (if is_cell_of x c && not (same_tree d c) then true else has_other d (cells_in x more))
    other_link = other_by (is_cell_of x c) (same_tree d c) refl refl

    pub other_here : (is_cell_of x c && not (same_tree d c)) ≡ true → has_other d (cells_in x t) ≡ true
    other_here f = other_link ∙ ap (λ v. if v then true else has_other d (cells_in x more)) f

    pub other_later : (is_cell_of x c && not (same_tree d c)) ≡ false → has_other d (cells_in x t) ≡ has_other d (cells_in x more)
    other_later f = other_link ∙ ap (λ v. if v then true else has_other d (cells_in x more)) f
