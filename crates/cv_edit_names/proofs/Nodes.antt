-- A game where each definition of a variable has its own name, node by node.
use Rattle.std.proofs.Common.{◌≡◌, ℕ, Bool, true, false, List, [], ◌∷◌, ◌++◌, map, Option, Some, None, ◌+◌, refl, sym, ap, ap₂, ◌∙◌, arith}
use Rattle.std.proofs.lemmas.Bool.{both_ways}
use Rattle.cv_syntax_trees.specs.declared.head.Head.{Head}
use Rattle.cv_syntax_trees.specs.declared.head.Head.TheVariants.{Branch, Cons, Find, In, Par, Repl}
use Rattle.cv_syntax_trees.specs.Tree.{Tree, Empty, Node, first_place, second_place, size}
use Rattle.cv_steps.specs.Renaming.{renamed_head}
use Rattle.cv_edit_names.specs.Naming.{Naming, name_at}
use Rattle.cv_edit_names.specs.Parts.{around_second, begins_with_branch, branch_copies, split_first, split_head}
use Rattle.cv_edit_names.specs.Splitting.{Around, body_place, followed_by, split_branches, split_in}

pub split_other : (n : Naming) (p : ℕ) (h : Head) → ((i m : ℕ) → h ≡ Repl i m → ⊥) → renamed_head n.variable (name_at n p) h ≡ split_head n p h
split_other n p (Repl i m) k = absurd (k i m refl)
split_other n p h k = refl

module _ (n : Naming) (e : Around) (p : ℕ) where
  split_over : (h : Head) (a b : Tree) → split_in n e p (Node h a b) ≡ Node (split_head n p h) (split_first n e p h a) (split_in n (around_second n p h a e) (second_place p h a) b)
  unfolding split_in
  split_over (Repl i m) a b = refl
  split_over Par a b = refl
  split_over Cons a b = refl
  split_over (In c) a b = refl
  split_over (Find l) a b = refl
  split_over h a b = refl

  pub split_node : (t : Tree) (h : Head) (a b : Tree) → t ≡ Node h a b → split_in n e p t ≡ Node (split_head n p h) (split_first n e p h a) (split_in n (around_second n p h a e) (second_place p h a) b)
  split_node t h a b i = ap (split_in n e p) i ∙ split_over h a b

  pub split_nothing : (t : Tree) → t ≡ Empty → split_in n e p t ≡ Empty
  unfolding split_in
  split_nothing t i = ap (split_in n e p) i

  pub branches_node : (us cells c body more : Tree) → let b = Node Branch us (Node Cons cells (Node Cons c body)) in split_branches n e p (Node Cons b more) ≡ followed_by (branch_copies n e (first_place p Cons) us cells c body) (split_branches n e (second_place p Cons b) more)
  unfolding split_branches
  branches_node us cells c body more = refl

  pub branches_other : (t : Tree) → begins_with_branch t ≡ false → split_branches n e p t ≡ t
  unfolding split_branches
  branches_other (Node Cons (Node Branch us (Node Cons cells (Node Cons c body))) more) f = absurd (both_ways true f refl)
  branches_other t f = refl

  pub branches_link : (q : ℕ) (t us cells c body more : Tree) → t ≡ Node Cons (Node Branch us (Node Cons cells (Node Cons c body))) more → q ≡ body_place p us cells c + size body
      → split_branches n e p t ≡ followed_by (branch_copies n e p us cells c body) (split_branches n e q more)
  unfolding size
  branches_link q t us cells c body more i f =
      let b : Tree = Node Branch us (Node Cons cells (Node Cons c body)) in
      let start : first_place p Cons ≡ p = omega arith in
      let end : second_place p Cons b ≡ q = omega (arith, f) in
      ap (split_branches n e p) i ∙ (branches_node us cells c body more
      ∙ ap₂ (λ r s. followed_by (branch_copies n e r us cells c body) (split_branches n e s more)) start end)
