-- How deep a text stands, by the depth of its game.
use Rattle.std.proofs.Common.{◌+◌, ◌*◌, ◌≤◌, arith}
use Rattle.cv_syntax_trees.specs.Tree.{Tree, Empty, Node, depth, second}
use Rattle.cv_syntax_trees.specs.declared.head.Head.TheVariants.{Par, Repl, In, Out, Event, New, Let, If, Find, Read, Apply, Eq, And, Or, Not}
use Rattle.cv_print_bytes.specs.terminals.Levels.{bodies_levels, branch_levels, branches_levels, levels_of, term_levels, terms_levels}

second_depth : (t : Tree) → depth (second t) ≤ depth t
unfolding depth
second_depth Empty = omega arith
second_depth (Node h a b) = omega arith

mutual
  unfolding term_levels terms_levels depth

  pub term_flat : (t : Tree) → term_levels t ≤ 2 * depth t
  term_flat (Node (Read x) a b) = let p = terms_flat a in omega arith
  term_flat (Node (Apply f) a b) = let p = terms_flat a in omega arith
  term_flat (Node Eq a b) = let p = term_flat a in let q = term_flat b in omega arith
  term_flat (Node And a b) = let p = term_flat a in let q = term_flat b in omega arith
  term_flat (Node Or a b) = let p = term_flat a in let q = term_flat b in omega arith
  term_flat (Node Not a b) = let p = term_flat a in omega arith
  term_flat t = omega arith

  pub terms_flat : (t : Tree) → terms_levels t ≤ 2 * depth t + 1
  terms_flat Empty = omega arith
  terms_flat (Node h a b) = let p = term_flat a in let q = terms_flat b in omega arith

mutual
  unfolding levels_of bodies_levels branches_levels branch_levels depth

  pub game_flat : (t : Tree) → levels_of t ≤ 2 * depth t + 1
  game_flat Empty = omega arith
  game_flat (Node Par a b) = let p = game_flat a in let q = game_flat b in omega arith
  game_flat (Node (Repl i n) a b) = let q = game_flat b in omega arith
  game_flat (Node (In c) a b) = let q = game_flat b in omega arith
  game_flat (Node (Out c) a b) = let p = terms_flat (second a) in let s = second_depth a in let q = game_flat b in omega arith
  game_flat (Node (Event e) a b) = let p = terms_flat a in let q = game_flat b in omega arith
  game_flat (Node (New x T) a b) = let q = game_flat b in omega arith
  game_flat (Node (Let x T) a b) = let p = term_flat a in let q = game_flat b in omega arith
  game_flat (Node If a b) = let p = term_flat a in let q = bodies_flat b in omega arith
  game_flat (Node (Find l) a b) = let p = branches_flat a in let q = game_flat b in omega arith
  game_flat (Node h a b) = omega arith

  pub bodies_flat : (t : Tree) → bodies_levels t ≤ 2 * depth t + 1
  bodies_flat Empty = omega arith
  bodies_flat (Node h a b) = let p = game_flat a in let q = bodies_flat b in omega arith

  pub branches_flat : (t : Tree) → branches_levels t ≤ 2 * depth t + 2
  branches_flat Empty = omega arith
  branches_flat (Node h a b) = let p = branch_flat a in let q = branches_flat b in omega arith

  pub branch_flat : (t : Tree) → branch_levels t ≤ 2 * depth t + 2
  branch_flat (Node h l (Node i cells (Node j term body))) = let p = terms_flat cells in let q = term_flat term in let r = game_flat body in omega arith
  branch_flat t = omega arith
