-- Instances of the functions of an equivalence's left side in a game: terms that the body of a function is, with terms for the
-- names that it reads. Blanchet and Pointcheval, CRYPTO 2006, for the functions of a side that are looked for in a game; what a
-- name may stand for is this profile's own.
use Rattle.std.specs.Prelude.{◌≡◌, ℕ, suc, Bool, true, false, ◌&&◌, ◌==◌, if◌then◌else◌, List, [], ◌∷◌, ◌++◌, map, reverse, Option, Some, None}
use Rattle.cv_syntax_trees.specs.declared.head.Head.{Head}
use Rattle.cv_syntax_trees.specs.declared.head.Head.TheVariants.{Leaf}
use Rattle.cv_syntax_trees.specs.Tree.{Tree, Empty, Node, chain, first, second, same_tree}
use Rattle.cv_meaning.specs.contexts.Groups.{Function, Group}
use Rattle.cv_syntax_trees.specs.declared.sites.sort.Sort.TheVariants.{OfType}
use Rattle.cv_syntax_trees.specs.sites.Sites.{first_of}
use Rattle.cv_scope_rules.specs.typing.Signature.{Signature, sort_of, variable_sort}
use Rattle.cv_scope_rules.specs.typing.Parts.{nothing_above}
use Rattle.cv_scene.specs.lines.Given.{with_given}
use Rattle.cv_scene.specs.Scenes.{Scene, or_empty}
use Rattle.cv_scene.specs.Sights.{variable_of}
use Rattle.cv_scene.specs.Terms.{is_sort, signature_in}

-- what is looked for in a game: the functions of a group, where a variable of the game stands for the key
pub record Matching : Type 0 where
  pub scene : Scene
  pub group : Group
  pub key : ℕ

-- what stands for the names of a function: for the key, for each coin and for each argument a term
pub record Instance : Type 0 where
  pub key : Tree
  pub coins : List Tree
  pub arguments : List Tree

-- the names of a function, the newest first, and what stands for them in the same order

abbrev pub names_of : Group → Function → List ℕ
names_of g f = reverse (map (λ (x : ℕ × ℕ). x.0) (g.key ∷ f.coins ++ f.arguments))

abbrev pub terms_of : Instance → Tree
terms_of I = chain (reverse (I.key ∷ I.coins ++ I.arguments))

-- the body of a function with these terms for its names
abbrev pub filled : Group → Function → Instance → Tree
filled g f I = with_given (names_of g f) (terms_of I) f.body

-- what a name may stand for: the key for a read of its variable, a coin for a read of a variable of its type, an argument for a
-- term of its type

abbrev pub is_read_of : ℕ → Option ℕ → Bool
is_read_of x None = false
is_read_of x (Some y) = y == x

abbrev pub is_variable_of : Signature → (type : ℕ) → Option ℕ → Bool
is_variable_of e T None = false
is_variable_of e T (Some y) = is_sort (variable_sort e.arrays y) (OfType T)

abbrev pub is_coin_of : Matching → (type : ℕ) → Tree → Bool
is_coin_of M T m = is_variable_of (signature_in M.scene) T (variable_of m)

abbrev pub is_argument_of : Matching → (type : ℕ) → Tree → Bool
is_argument_of M T m = is_sort (sort_of (signature_in M.scene) nothing_above m) (OfType T)

-- as many terms as names, each one that a name of this type may stand for
abbrev pub are_of_types : ((type : ℕ) → Tree → Bool) → List (ℕ × ℕ) → List Tree → Bool
are_of_types may_be [] [] = true
are_of_types may_be (x ∷ xs) (m ∷ ms) = may_be x.1 m && are_of_types may_be xs ms
are_of_types may_be xs ms = false

-- The term is an instance of the function.
pub record IsInstance (M : Matching) (f : Function) (I : Instance) (term : Tree) : Type 0 where
  pub body : filled M.group f I ≡ term
  pub key : is_read_of M.key (variable_of I.key) ≡ true
  pub coins : are_of_types (is_coin_of M) f.coins I.coins ≡ true
  pub arguments : are_of_types (is_argument_of M) f.arguments I.arguments ≡ true

-- the same, computed: each name stands for what is where the body first has it

abbrev pub standing_here : ℕ → Head → Tree → Option Tree
standing_here x (Leaf y) m = if y == x then Some m else None
standing_here x h m = None

unfoldable pub standing_for : ℕ → (body term : Tree) → Option Tree
standing_for x Empty m = None
standing_for x (Node h a b) m = first_of (standing_here x h m) (first_of (standing_for x a (first m)) (standing_for x b (second m)))

abbrev pub term_for : (body term : Tree) → ℕ × ℕ → Tree
term_for body m x = or_empty (standing_for x.0 body m)

abbrev pub guess : Group → Function → Tree → Instance
guess g f m = record {
  key = term_for f.body m g.key;
  coins = map (term_for f.body m) f.coins;
  arguments = map (term_for f.body m) f.arguments;
}

abbrev pub is_instance : Matching → Function → Instance → Tree → Bool
is_instance M f I m =
    same_tree (filled M.group f I) m
    && (is_read_of M.key (variable_of I.key)
    && (are_of_types (is_coin_of M) f.coins I.coins && are_of_types (is_argument_of M) f.arguments I.arguments))

abbrev pub instance_of : Matching → Function → Tree → Option Instance
instance_of M f m = if is_instance M f (guess M.group f m) m then Some (guess M.group f m) else None

-- an instance with its function, by position
pub record Call : Type 0 where
  pub position : ℕ
  pub function : Function
  pub instance : Instance

abbrev pub call_by : ℕ → Function → Option Instance → Option Call
call_by k f None = None
call_by k f (Some I) = Some (record { position = k; function = f; instance = I })

-- the first of the functions, from a position on, of which the term is an instance
abbrev pub first_call : Matching → ℕ → List Function → Tree → Option Call
first_call M k [] m = None
first_call M k (f ∷ fs) m = first_of (call_by k f (instance_of M f m)) (first_call M (suc k) fs m)

abbrev pub call_at : Matching → Tree → Option Call
call_at M m = first_call M 0 M.group.functions m
