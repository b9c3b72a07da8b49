-- What names are declared as, node by node.
use Rattle.std.proofs.Common.{◌≡◌, ℕ, Bool, true, false, ◌&&◌, ◌||◌, ◌==◌, List, Option, Some, None, option_map, refl, ap, sym, ◌∙◌}
use Rattle.cv_pool.specs.KindTree.{KindTree}
use Rattle.cv_syntax_trees.specs.declared.class.Class.{Class}
use Rattle.cv_syntax_trees.specs.declared.class.Class.TheVariants as class
use Rattle.cv_syntax.specs.declared.decls.Decl.{Decl}
use Rattle.cv_syntax.specs.declared.decls.Decl.TheVariants as decl
use Rattle.cv_syntax_trees.specs.declared.head.Head.{Head}
use Rattle.cv_syntax_trees.specs.declared.head.Head.TheVariants.{Binder}
use Rattle.cv_syntax.specs.Classes.{class_by, class_in, declaration_in}
use Rattle.cv_syntax_trees.specs.Declarations.{Declaration}
use Rattle.cv_syntax.specs.Declarations.{declarations, declared}
use Rattle.cv_syntax_trees.specs.Tree.{Tree, Empty, Node}
use Rattle.cv_scope_rules.specs.typing.Signature.{declaration_of}
use Rattle.cv_typing.proofs.Bridges.{declaration_same}
use Rattle.cv_scene.specs.Scenes.{is_type_by}
use Rattle.cv_scene_view.specs.Kept.{is_type_class}
use Rattle.cv_scene_view.proofs.Tested.{type_same}
use Rattle.cv_kernel_crypto.specs.declared.sorts.Role.{Role}
use Rattle.cv_kernel_crypto.specs.declared.sorts.Role.TheVariants.{OfParameter, OfType}
use Rattle.cv_kernel_crypto.specs.Roles.{binds_one, is_of, is_parameter_class}
use Rattle.cv_steps_laws.specs.crypto.Sorts.{are_declared, has_declared_sorts, is_parameter, is_parameter_by, names_declared}

parameter_by : (trees : List KindTree) (o : Option Decl) → is_parameter_class (class_by o) ≡ is_parameter_by (option_map (declared trees) o)
parameter_by trees None = refl
parameter_by trees (Some (decl.Name id (class.TypeName fixed large) args r)) = refl
parameter_by trees (Some (decl.Name id class.Param args r)) = refl
parameter_by trees (Some (decl.Name id class.Channel args r)) = refl
parameter_by trees (Some (decl.Name id (class.Fun d) args r)) = refl
parameter_by trees (Some (decl.Name id class.Event args r)) = refl
parameter_by trees (Some (decl.Name id class.Proba args r)) = refl
parameter_by trees (Some (decl.Name id class.Equiv args r)) = refl
parameter_by trees (Some (decl.Name id class.Free args r)) = refl
parameter_by trees (Some (decl.Equation n)) = refl
parameter_by trees (Some (decl.Equiv id n)) = refl
parameter_by trees (Some (decl.Query n)) = refl

pub parameter_same : (trees : List KindTree) (ds : List Decl) (n : ℕ) (k : Class) → k ≡ class_in ds n → is_parameter_class k ≡ is_parameter (declarations trees ds) n
parameter_same trees ds n k e = ap is_parameter_class e ∙ (parameter_by trees (declaration_in ds n) ∙ ap is_parameter_by (sym (declaration_same trees ds n)))

-- a name, by its role

pub type_declared : (trees : List KindTree) (ds : List Decl) (x : ℕ) (k : Class) (r : Role) (b : Bool) → r ≡ OfType → (x == 0) ≡ false → k ≡ class_in ds x → b ≡ is_type_class k → b ≡ is_of (declarations trees ds) r x
type_declared trees ds x k r b i e f g =
    g ∙ (type_same trees ds x k f ∙ (ap (λ c. c || is_type_by (declaration_of (declarations trees ds) x)) (sym e) ∙ ap (λ q. is_of (declarations trees ds) q x) (sym i)))

pub parameter_declared : (trees : List KindTree) (ds : List Decl) (x : ℕ) (k : Class) (r : Role) (b : Bool) → r ≡ OfParameter → k ≡ class_in ds x → b ≡ is_parameter_class k → b ≡ is_of (declarations trees ds) r x
parameter_declared trees ds x k r b i f g = g ∙ (parameter_same trees ds x k f ∙ ap (λ q. is_of (declarations trees ds) q x) (sym i))

-- a list of binders, by its first one

binders_by : (is : ℕ → Bool) (h : Head) (a b : Tree) → are_declared is (Node h a b) ≡ (binds_one is h && are_declared is b)
unfolding are_declared
binders_by is (Binder x T) a b = refl
binders_by is h a b = refl

pub binders_node : (is : ℕ → Bool) (t : Tree) (h : Head) (a b : Tree) → t ≡ Node h a b → are_declared is t ≡ (binds_one is h && are_declared is b)
binders_node is t h a b e = ap (are_declared is) e ∙ binders_by is h a b

pub binders_end : (is : ℕ → Bool) (t : Tree) → t ≡ Empty → are_declared is t ≡ true
unfolding are_declared
binders_end is t e = ap (are_declared is) e

pub one_fails : (v p q a : Bool) → v ≡ (p && q) → a ≡ p → a ≡ false → v ≡ false
one_fails v true q a e f g = absurd (cc)
one_fails v false q a e f g = e

pub one_passes : (v p q a : Bool) → v ≡ (p && q) → a ≡ p → a ≡ true → v ≡ q
one_passes v true q a e f g = e
one_passes v false q a e f g = absurd (cc)

-- a tree, by its node

pub sorts_node : (ds : List Declaration) (t : Tree) (h : Head) (a b : Tree) → t ≡ Node h a b → has_declared_sorts ds t ≡ (names_declared ds h a && (has_declared_sorts ds a && has_declared_sorts ds b))
unfolding has_declared_sorts
sorts_node ds t h a b e = ap (has_declared_sorts ds) e

pub sorts_end : (ds : List Declaration) (t : Tree) → t ≡ Empty → has_declared_sorts ds t ≡ true
unfolding has_declared_sorts
sorts_end ds t e = ap (has_declared_sorts ds) e
