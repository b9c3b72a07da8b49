-- The definitions of a game's variables, one by one in preorder, and what they say of a name.
use Rattle.std.specs.Prelude.{ℕ, min, Bool, true, false, not, ◌==◌, if◌then◌else◌, List, [], ◌∷◌, ◌++◌, length, map, Option, Some, None}
use Rattle.cv_syntax_trees.specs.declared.class.Class.TheVariants.{TypeName}
use Rattle.cv_syntax_trees.specs.declared.class.Class.{Class}
use Rattle.cv_syntax.specs.declared.decls.Decl.{Decl}
use Rattle.cv_syntax.specs.Classes.{class_in}
use Rattle.cv_syntax_trees.specs.declared.head.Head.{Head}
use Rattle.cv_syntax_trees.specs.declared.head.Head.TheVariants.{Repl, In, New, Let, Branch, Binder}
use Rattle.cv_syntax_trees.specs.Tree.{Tree, Empty, Node, second, first_place, second_place}
use Rattle.cv_syntax_trees.specs.declared.sites.sort.Sort.{Sort}
use Rattle.cv_syntax_trees.specs.declared.sites.sort.Sort.TheVariants.{OfType, BelowParameter}
use Rattle.cv_syntax_trees.specs.sites.Sites.{Variable, first_index}

-- A definition: the replications above it by index and parameter, outermost first, the sort of the variable's values,
-- the place of the node that defines it, and the tree there.
pub record Definition : Type 0 where
  pub replications : List (ℕ × ℕ)
  pub sort : Sort
  pub place : ℕ
  pub tree : Tree

abbrev pub definition_at : List (ℕ × ℕ) → ℕ → Tree → Sort → Definition
definition_at rs p t S = record { replications = rs; sort = S; place = p; tree = t }

-- those of a variable in a list of binders, at a node
unfoldable pub bound_definitions : List (ℕ × ℕ) → ℕ → Tree → (ℕ → Sort) → ℕ → Tree → List Definition
bound_definitions rs p t sort x Empty = []
bound_definitions rs p t sort x (Node (Binder y T) a b) =
    (if y == x then definition_at rs p t (sort T) ∷ [] else []) ++ bound_definitions rs p t sort x b
bound_definitions rs p t sort x (Node h a b) = bound_definitions rs p t sort x b

-- those that a node itself is: `new` and `let`, what an input binds, the indices of a branch
abbrev pub definitions_at : List (ℕ × ℕ) → ℕ → Tree → ℕ → Head → Tree → List Definition
definitions_at rs p t x (New y T) a = if y == x then definition_at rs p t (OfType T) ∷ [] else []
definitions_at rs p t x (Let y T) a = if y == x then definition_at rs p t (OfType T) ∷ [] else []
definitions_at rs p t x (In c) a = bound_definitions rs p t OfType x (second a)
definitions_at rs p t x Branch a = bound_definitions rs p t BelowParameter x a
definitions_at rs p t x h a = []

abbrev pub replications_below : Head → List (ℕ × ℕ) → List (ℕ × ℕ)
replications_below (Repl i n) rs = rs ++ (i, n) ∷ []
replications_below h rs = rs

-- those in a tree that stands at a place, below replications
unfoldable pub definitions_from : List (ℕ × ℕ) → ℕ → ℕ → Tree → List Definition
definitions_from rs p x Empty = []
definitions_from rs p x (Node h a b) =
    definitions_at rs p (Node h a b) x h a
    ++ (definitions_from rs (first_place p h) x a ++ definitions_from (replications_below h rs) (second_place p h a) x b)

-- the definitions of a game's variable
abbrev pub definitions_of : Tree → ℕ → List Definition
definitions_of game x = definitions_from [] 0 x game

-- the parameters of a variable, and its sort, by a definition
abbrev pub variable_by : Definition → Variable
variable_by d = record { parameters = map (λ (r : ℕ × ℕ). r.1) d.replications; sort = d.sort }

abbrev pub first_in : List Definition → Option Definition
first_in [] = None
first_in (d ∷ ds) = Some d

-- large types

abbrev pub is_large : Class → Bool
is_large (TypeName fixed large) = large
is_large c = false

abbrev pub large_in : List Decl → ℕ → Bool
large_in ds T = is_large (class_in ds T)

-- no `new` of a large type
abbrev pub is_other : (large : ℕ → Bool) → Tree → Bool
is_other large (Node (New x T) a b) = not (large T)
is_other large t = true

-- the place of the first definition that is no `new` of a large type
abbrev pub first_other : (large : ℕ → Bool) → List Definition → Option ℕ
first_other large [] = None
first_other large (d ∷ ds) = if is_other large d.tree then Some d.place else first_other large ds

-- What a directory says of names: the first definition of a variable, how many it has, the place of the first that is
-- no `new` of a large type, and the parameter of an index. The count ends at the greatest number of 32 bits.
pub record Entries : Type 0 where
  pub first : ℕ → Option Definition
  pub count : ℕ → ℕ
  pub other : ℕ → Option ℕ
  pub index : ℕ → Option ℕ

abbrev pub most : ℕ
most = 4294967295

abbrev pub entries_of : (large : ℕ → Bool) → Tree → Entries
entries_of large game = record {
  first = λ x. first_in (definitions_of game x);
  count = λ x. min (length (definitions_of game x)) most;
  other = λ x. first_other large (definitions_of game x);
  index = λ i. first_index i game;
}
