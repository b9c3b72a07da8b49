-- The rules on cells, from node to node.
use Rattle.std.proofs.Common.{◌≡◌, ℕ, Bool, true, false, ◌&&◌, ◌||◌, List, refl, ap, sym, ◌∙◌}
use Rattle.cv_syntax_trees.specs.declared.head.Head.{Head}
use Rattle.cv_syntax_trees.specs.declared.head.Head.TheVariants.{Read, Leaf}
use Rattle.cv_syntax_trees.specs.Tree.{Tree, Empty, Node}
use Rattle.cv_meaning.specs.contexts.Made.{has_cell_at}
use Rattle.cv_group_rules.specs.Rules.{Around, Level, are_cells, has_name, has_read, is_cell, is_name, is_read}
use Rattle.cv_group.specs.bodies.Levels.{is_cell_at}

-- lists of cells

cells_step : (o : Around) (ls : List Level) (t : Tree) (h : Head) (a b : Tree) → t ≡ Node h a b → are_cells o ls t ≡ (is_cell o ls a && are_cells o ls b)
unfolding are_cells
cells_step o ls t h a b e = ap (are_cells o ls) e

module _ (o : Around) (ls : List Level) (t : Tree) (h : Head) (a b : Tree) (total : Bool) (e : t ≡ Node h a b) (s : are_cells o ls t ≡ total) where
  pub cells_stop : is_cell o ls a ≡ false → false ≡ total
  cells_stop f = ap (λ c. c && are_cells o ls b) (sym f) ∙ (sym (cells_step o ls t h a b e) ∙ s)

  pub cells_more : is_cell o ls a ≡ true → are_cells o ls b ≡ total
  cells_more f = ap (λ c. c && are_cells o ls b) (sym f) ∙ (sym (cells_step o ls t h a b e) ∙ s)

pub cells_end : (o : Around) (ls : List Level) (t : Tree) → t ≡ Empty → are_cells o ls t ≡ true
unfolding are_cells
cells_end o ls t e = ap (are_cells o ls) e

has_cell_at_node : (u : ℕ) (h : Head) (a b : Tree) → has_cell_at u (Node h a b) ≡ (is_cell_at u a || has_cell_at u b)
has_cell_at_node u h Empty b = refl
has_cell_at_node u h (Node (Read v) c d) b = refl
has_cell_at_node u h (Node k c d) b = refl

own_step : (u : ℕ) (t : Tree) (h : Head) (a b : Tree) → t ≡ Node h a b → has_cell_at u t ≡ (is_cell_at u a || has_cell_at u b)
own_step u t h a b e = ap (has_cell_at u) e ∙ has_cell_at_node u h a b

module _ (u : ℕ) (t : Tree) (h : Head) (a b : Tree) (total : Bool) (e : t ≡ Node h a b) (s : has_cell_at u t ≡ total) where
  pub own_here : is_cell_at u a ≡ true → true ≡ total
  own_here f = ap (λ c. c || has_cell_at u b) (sym f) ∙ (sym (own_step u t h a b e) ∙ s)

  pub own_more : is_cell_at u a ≡ false → has_cell_at u b ≡ total
  own_more f = ap (λ c. c || has_cell_at u b) (sym f) ∙ (sym (own_step u t h a b e) ∙ s)

pub own_end : (u : ℕ) (t : Tree) → t ≡ Empty → has_cell_at u t ≡ false
own_end u t e = ap (has_cell_at u) e

pub has_read_step : (t : Tree) (h : Head) (a b : Tree) → t ≡ Node h a b → (v u : ℕ) → has_read t v u ≡ (is_read v u a || has_read b v u)
unfolding has_read
has_read_step t h a b e v u = ap (λ s. has_read s v u) e

pub has_read_end : (t : Tree) → t ≡ Empty → (v u : ℕ) → has_read t v u ≡ false
unfolding has_read
has_read_end t e v u = ap (λ s. has_read s v u) e

pub has_name_step : (t : Tree) (h : Head) (a b : Tree) → t ≡ Node h a b → (x : ℕ) → has_name t x ≡ (is_name x a || has_name b x)
unfolding has_name
has_name_step t h a b e x = ap (λ s. has_name s x) e

pub has_name_end : (t : Tree) → t ≡ Empty → (x : ℕ) → has_name t x ≡ false
unfolding has_name
has_name_end t e x = ap (λ s. has_name s x) e

-- a node that is no cell
pub no_read : (t : Tree) (h : Head) (a b : Tree) → t ≡ Node h a b → ((x : ℕ) → h ≡ Read x → ⊥) → (v u : ℕ) → is_read v u t ≡ false
no_read t h a b e n v u = ap (is_read v u) e ∙ go h n
  where
    go : (h : Head) → ((x : ℕ) → h ≡ Read x → ⊥) → is_read v u (Node h a b) ≡ false
    go (Read w) m = absurd (m w refl)
    go h m = refl

pub no_name : (t : Tree) (h : Head) (a b : Tree) → t ≡ Node h a b → ((x : ℕ) → h ≡ Leaf x → ⊥) → (x : ℕ) → is_name x t ≡ false
no_name t h a b e n x = ap (is_name x) e ∙ go h n
  where
    go : (h : Head) → ((x : ℕ) → h ≡ Leaf x → ⊥) → is_name x (Node h a b) ≡ false
    go (Leaf y) m = absurd (m y refl)
    go h m = refl
