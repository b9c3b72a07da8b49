-- Declared equations as the code has them, and the instances that a term is the left side of. This profile's own.
use Rattle.std.specs.Prelude.{◌≡◌, ℕ, suc, Bool, true, false, ◌&&◌, ◌==◌, if◌then◌else◌, List, [], ◌∷◌, Option, Some, None, option_and_then, option_map}
use Rattle.cv_pool.specs.KindTree.{KindTree}
use Rattle.cv_syntax_trees.specs.declared.head.Code.{Code}
use Rattle.cv_syntax_trees.specs.declared.head.Head.{Head}
use Rattle.cv_syntax_trees.specs.declared.head.Head.TheVariants.{Binder, Eq, Leaf}
use Rattle.cv_syntax_trees.specs.Head.{code as head_code}
use Rattle.cv_syntax_trees.specs.Tree.{Tree, Empty, Node, bound_names, chain, first, second}
use Rattle.cv_pool.specs.declared.node.NodeId.{NodeId}
use Rattle.cv_syntax.specs.declared.decls.Decl.{Decl}
use Rattle.cv_syntax.specs.declared.decls.Decl.TheVariants as decl
use Rattle.cv_syntax.specs.NameSets.{is_one_of}
use Rattle.cv_syntax.specs.PoolTrees.{tree_at}
use Rattle.cv_scene.specs.Instances.{standing_for}
use Rattle.cv_scene.specs.Scenes.{Scene}
use Rattle.cv_scene.specs.lines.Given.{with_given}
use Rattle.cv_settling_rules.specs.Equations.{is_left_side, is_of_type, right_side, terms_for}
use Rattle.cv_settling.specs.Measured.{is_lower}
use Rattle.cv_settling.specs.declared.equations.Equation as equation

-- an equation of a file by its number, from 1
pub record Numbered : Type 0 where
  pub number : ℕ
  pub binders : Tree
  pub left : Tree
  pub right : Tree

-- the term of a declaration that is one
abbrev pub declared_equation : Decl → Option NodeId
declared_equation (decl.Equation n) = Some n
declared_equation d = None

-- those of a list of declared ones that are equalities, the first of which has this number

abbrev pub with_sides : (number : ℕ) → (binders body : Tree) → List Numbered → List Numbered
with_sides k bs (Node Eq l r) es = record { number = k; binders = bs; left = l; right = r } ∷ es
with_sides k bs body es = es

abbrev pub numbered_from : ℕ → List Tree → List Numbered
numbered_from k [] = []
numbered_from k (t ∷ ts) = with_sides k (first t) (second t) (numbered_from (suc k) ts)

-- what the code has of one
abbrev pub seen_in : List KindTree → equation.Equation → Numbered
seen_in trees e = record { number = e.number; binders = tree_at trees e.binders; left = tree_at trees e.left; right = tree_at trees e.right }

-- its right side with terms for the variables
abbrev pub right_with : Numbered → List Tree → Tree
right_with e ms = with_given (bound_names e.binders) (chain ms) e.right

-- what a term may become by it
abbrev pub sides_by : Scene → (term : Tree) → Numbered → List Tree
sides_by s t e = right_side s e.binders e.left e.right t (terms_for (bound_names e.binders) e.left t)

-- the term of a type that stands for a variable, and those that stand for all variables of binders

abbrev pub typed_term : Scene → (type x : ℕ) → (left term : Tree) → Option Tree
typed_term s T x l t = option_and_then (λ m. if is_of_type s T m then Some m else None) (standing_for x l t)

abbrev pub typed_terms : Scene → (binders left term : Tree) → Option (List Tree)
typed_terms s (Node (Binder x T) a bs) l t = option_and_then (λ m. option_map (λ ms. m ∷ ms) (typed_terms s bs l t)) (typed_term s T x l t)
typed_terms s bs l t = Some []

-- the terms for the variables with which a term is the left side
abbrev pub instance_of : Scene → Numbered → (term : Tree) → Option (List Tree)
instance_of s e t = option_and_then (λ ms. if is_left_side s e.binders e.left t ms then Some ms else None) (terms_for (bound_names e.binders) e.left t)

-- and the right side has a lower measure
abbrev pub lower_instance_of : Scene → Numbered → (term : Tree) → Option (List Tree)
lower_instance_of s e t = option_and_then (λ ms. if is_lower s t (right_with e ms) then Some ms else None) (instance_of s e t)

-- The code of the head of a left side, where this is no variable: a term with another head is no instance.

abbrev pub is_variable : (names : List ℕ) → Head → Bool
is_variable xs (Leaf x) = is_one_of xs x
is_variable xs h = false

abbrev pub root_of : (names : List ℕ) → Tree → Option Code
root_of xs Empty = None
root_of xs (Node h a b) = if is_variable xs h then None else Some (head_code h)

abbrev pub may_have : Option Code → Head → Bool
may_have None h = true
may_have (Some k) h = (k.tag == (head_code h).tag) && ((k.a == (head_code h).a) && (k.b == (head_code h).b))

abbrev pub HasRoot : List KindTree → equation.Equation → Type 0
HasRoot trees e = e.root ≡ root_of (bound_names (tree_at trees e.binders)) (tree_at trees e.left)
