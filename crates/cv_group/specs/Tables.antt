-- What a check finds of what a file declares, of what functions bind, and of the sides of an equivalence.
use Rattle.std.specs.Prelude.{ℕ, Bool, ◌&&◌, ◌||◌, ◌==◌, List, Option, Some, None, if◌then◌else◌}
use Rattle.cv_syntax_trees.specs.declared.class.Class.TheVariants as class
use Rattle.cv_syntax.specs.declared.decls.Decl.{Decl}
use Rattle.cv_syntax.specs.declared.decls.Decl.TheVariants as decl
use Rattle.cv_syntax.specs.NameSets.{is_in, is_one_of}
use Rattle.cv_syntax_trees.specs.Tree.{Tree, bound_names, first, second}
use Rattle.cv_syntax.specs.PoolTrees.{tree_at}
use Rattle.cv_syntax_trees.specs.Children.{is_empty}
use Rattle.cv_pool.specs.KindTree.{KindTree}
use Rattle.cv_meaning.specs.contexts.Groups.{bound_of}
use Rattle.cv_group.specs.declared.symbols.Symbols as code
use Rattle.cv_group.specs.shapes.Shapes.{sides_agree}
use Rattle.cv_group_rules.specs.Rules as rule
use Rattle.cv_group_rules.specs.Rules.{takes}
use Rattle.cv_group_rules.specs.Symbols.{Symbols}
use Rattle.cv_group_rules.specs.Faults.{GroupRule, LeftIsTerm, OneIndex, SameShape, BoundNames, ReadNames, or_else}
use Rattle.cv_pool.specs.declared.node.NodeId.{NodeId}

-- the name of a constant's declaration
abbrev pub constant_in : List KindTree → Option Decl → Option ℕ
constant_in trees (Some (decl.Name id (class.Fun d) args result)) = if is_empty (tree_at trees args) then Some id.0 else None
constant_in trees d = None

-- the name of a function's declaration
abbrev pub function_in : Option Decl → Option ℕ
function_in (Some (decl.Name id (class.Fun d) args result)) = Some id.0
function_in d = None

-- the sets of names as tests
abbrev pub symbols_in : code.Symbols → Symbols
symbols_in s = record { constant = is_in s.constants; function = is_in s.functions }

-- what the body of a function may name, by what the file declares and by what the functions of its side bind
abbrev pub around_by : Symbols → (ℕ → ℕ → Bool) → (key f : Tree) → rule.Around
around_by symbols names key f = record {
  outside = λ x. symbols.constant x || (is_one_of (bound_names key) x || takes (first f) x);
  callable = symbols.function;
  bound = bound_of (first f);
  names = names;
}

-- what a function binds, with its bound
abbrev pub function_names : Tree → ℕ → ℕ → Bool
function_names f n x = (bound_of (first f) == n) && rule.binds_name f x

-- the tree of an equivalence
abbrev pub equiv_of : Decl → Option NodeId
equiv_of (decl.Equiv id n) = Some n
equiv_of d = None

-- the first rule that two sides break
abbrev pub sides_fault : Symbols → (left right : Tree) → Option GroupRule
sides_fault symbols s t =
    or_else (rule.each_function (λ f. rule.is_term (second f)) (second s)) LeftIsTerm
    (or_else (rule.have_one_index t) OneIndex
    (or_else (sides_agree s t) SameShape
    (or_else (rule.side_is_bound symbols (first s) (second s) && rule.side_is_bound symbols (first t) (second t)) BoundNames
    (or_else (rule.each_function (λ f. rule.are_read (rule.reads (second f)) (rule.taken_names (first s) f)) (second s)) ReadNames None))))
