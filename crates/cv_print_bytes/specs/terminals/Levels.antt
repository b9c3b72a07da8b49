-- How deep brackets and syntax nodes stand in a text, less one. This profile's own.
use Rattle.std.specs.Prelude.{ℕ, suc, max}
use Rattle.cv_syntax_trees.specs.Tree.{Tree, Empty, Node, second}
use Rattle.cv_syntax_trees.specs.declared.head.Head.TheVariants.{Par, Repl, In, Out, Event, New, Let, If, Find, Read, Apply, Eq, And, Or, Not}

-- two sides in parentheses, where the other one stands behind a symbol
abbrev pub beside : ℕ → ℕ → ℕ
beside a b = max (suc a) (suc (suc b))

unfoldable mutual
  pub term_levels : Tree → ℕ
  term_levels (Node (Read x) a b) = suc (terms_levels a)
  term_levels (Node (Apply f) a b) = suc (terms_levels a)
  term_levels (Node Eq a b) = beside (term_levels a) (term_levels b)
  term_levels (Node And a b) = beside (term_levels a) (term_levels b)
  term_levels (Node Or a b) = beside (term_levels a) (term_levels b)
  term_levels (Node Not a b) = suc (suc (term_levels a))
  term_levels _ = 0

  -- those of a list in brackets
  pub terms_levels : Tree → ℕ
  terms_levels Empty = 0
  terms_levels (Node h a b) = max (suc (term_levels a)) (terms_levels b)

unfoldable mutual
  pub levels_of : Tree → ℕ
  levels_of Empty = 0
  levels_of (Node Par a b) = beside (levels_of a) (levels_of b)
  levels_of (Node (Repl i n) a b) = suc (levels_of b)
  levels_of (Node (In c) a b) = suc (max 1 (levels_of b))
  levels_of (Node (Out c) a b) = suc (max (suc (terms_levels (second a))) (levels_of b))
  levels_of (Node (Event e) a b) = suc (max (terms_levels a) (levels_of b))
  levels_of (Node (New x T) a b) = suc (levels_of b)
  levels_of (Node (Let x T) a b) = suc (max (term_levels a) (levels_of b))
  levels_of (Node If a b) = suc (max (term_levels a) (bodies_levels b))
  levels_of (Node (Find l) a b) = suc (max (branches_levels a) (levels_of b))
  levels_of (Node h a b) = 0

  pub bodies_levels : Tree → ℕ
  bodies_levels Empty = 0
  bodies_levels (Node h a b) = max (levels_of a) (bodies_levels b)

  pub branches_levels : Tree → ℕ
  branches_levels Empty = 0
  branches_levels (Node h a b) = max (branch_levels a) (branches_levels b)

  pub branch_levels : Tree → ℕ
  branch_levels (Node h indices (Node i cells (Node j term body))) = suc (max (terms_levels cells) (max (term_levels term) (levels_of body)))
  branch_levels _ = 0
