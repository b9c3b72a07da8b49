-- The cells of a construct are those of what is left of it, and perhaps more.
use Rattle.std.proofs.Common.{◌≡◌, ℕ, zero, suc, List, true, false, refl}
use Rattle.std.proofs.lemmas.Bool.{and_parts, both_ways}
use Rattle.cv_syntax_trees.specs.declared.head.Head.{Head}
use Rattle.cv_syntax_trees.specs.declared.head.Head.TheVariants.{Cons, Find, If}
use Rattle.cv_syntax_trees.specs.Tree.{Tree, Empty, Node}
use Rattle.cv_meaning.specs.Tapes.{Cell}
use Rattle.cv_meaning.specs.Interpretation.{Setting}
use Rattle.cv_scope_rules.specs.Phrases.{Arm, Branches, is_phrase}
use Rattle.cv_scene.specs.Pruning.{find_of, without_branch}
use Rattle.cv_steps_laws.proofs.chances.Inclusion as inclusion
use Rattle.cv_steps_laws.proofs.chances.Inclusion.{first_in, second_in, stays, under}

module _ (g : Setting) (give : Head → List ℕ → List (Cell × ℕ)) where
  abbrev Includes : Tree → Tree → Type 0
  Includes a b = inclusion.Includes g give a b

  pub then_included : (c then_body else_body rest : Tree) → Includes (Node If c (Node Cons then_body (Node Cons else_body rest))) then_body
  then_included c t e n bounds d h = second_in g give If c (Node Cons t (Node Cons e n)) bounds d (first_in g give Cons t (Node Cons e n) bounds d h)

  pub else_included : (c then_body else_body rest : Tree) → Includes (Node If c (Node Cons then_body (Node Cons else_body rest))) else_body
  else_included c t e n bounds d h = second_in g give If c (Node Cons t (Node Cons e n)) bounds d (second_in g give Cons t (Node Cons e n) bounds d (first_in g give Cons e n bounds d h))

  branches_included : (branches : Tree) (k : ℕ) → is_phrase Branches branches ≡ true → Includes branches (without_branch branches k)
  unfolding is_phrase
  branches_included (Node Cons branch more) (suc zero) e = λ bounds d h. second_in g give Cons branch more bounds d h
  branches_included (Node Cons branch more) (suc (suc k)) e =
      under g give Cons branch more branch (without_branch more (suc k)) (stays g give branch) (branches_included more (suc k) (and_parts (is_phrase Arm branch) _ e).1)
  branches_included Empty k e = stays g give Empty
  branches_included (Node Cons branch more) zero e = stays g give (Node Cons branch more)
  branches_included (Node h branch more) k e = absurd (both_ways false refl e)

  pub find_included : (l : ℕ) (branches otherwise : Tree) (k : ℕ) → is_phrase Branches branches ≡ true → Includes (Node (Find l) branches otherwise) (find_of l (without_branch branches k) otherwise)
  find_included l branches otherwise k e = go (without_branch branches k) (branches_included branches k e)
    where
      go : (x : Tree) → Includes branches x → Includes (Node (Find l) branches otherwise) (find_of l x otherwise)
      go Empty i = λ bounds d h. second_in g give (Find l) branches otherwise bounds d h
      go (Node h a b) i = under g give (Find l) branches otherwise (Node h a b) otherwise i (stays g give otherwise)
