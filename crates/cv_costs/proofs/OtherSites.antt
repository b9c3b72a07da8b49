-- Walks over games for other definitions of a variable, and large types.
use Rattle.std.proofs.Common.{◌≡◌, ℕ, ◌&&◌, not, Bool, cond, List, Option, Some, None, refl, sym, ap, ◌∙◌}
use Rattle.std.specs.Prelude.{option_map}
use Rattle.cv_pool.specs.KindTree.{KindTree}
use Rattle.cv_syntax_trees.specs.declared.class.Class.{Class}
use Rattle.cv_syntax_trees.specs.declared.class.Class.TheVariants as class
use Rattle.cv_syntax.specs.Classes.{class_by, class_in, declaration_in}
use Rattle.cv_syntax.specs.Declarations.{declarations, declared}
use Rattle.cv_syntax.specs.declared.decls.Decl.{Decl}
use Rattle.cv_syntax.specs.declared.decls.Decl.TheVariants as decl
use Rattle.cv_syntax_trees.specs.declared.head.Head.{Head}
use Rattle.cv_syntax_trees.specs.Tree.{Tree, Empty, Node, first_place, second_place}
use Rattle.cv_syntax_trees.specs.sites.Sites.{first_of}
use Rattle.cv_scope_rules.specs.Made.{made_by}
use Rattle.cv_scope_rules.specs.Sites.{Variable}
use Rattle.cv_scope_rules.specs.typing.Signature.{declaration_of}
use Rattle.cv_typing.proofs.Bridges.{declaration_same}
use Rattle.cv_directory.specs.Definitions.{is_large}
use Rattle.cv_scene.specs.Large.{chooses, first_other_site, is_large_by}

pub other_node : (large : ℕ → Bool) (x p : ℕ) (t : Tree) (h : Head) (a b : Tree) → t ≡ Node h a b
    → first_other_site large x p t ≡ cond (made_by h a (Variable x) && not (chooses large h)) (Some p) (first_of (first_other_site large x (first_place p h) a) (first_other_site large x (second_place p h a) b))
unfolding first_other_site
other_node large x p t h a b e = ap (first_other_site large x p) e

pub other_end : (large : ℕ → Bool) (x p : ℕ) (t : Tree) → t ≡ Empty → first_other_site large x p t ≡ None
unfolding first_other_site
other_end large x p t e = ap (first_other_site large x p) e

-- the class of a name, and the declaration of it

large_by : (trees : List KindTree) (o : Option Decl) → is_large (class_by o) ≡ is_large_by (option_map (declared trees) o)
large_by trees None = refl
large_by trees (Some (decl.Name id (class.TypeName fixed large) args r)) = refl
large_by trees (Some (decl.Name id class.Param args r)) = refl
large_by trees (Some (decl.Name id class.Channel args r)) = refl
large_by trees (Some (decl.Name id (class.Fun d) args r)) = refl
large_by trees (Some (decl.Name id class.Event args r)) = refl
large_by trees (Some (decl.Name id class.Proba args r)) = refl
large_by trees (Some (decl.Name id class.Equiv args r)) = refl
large_by trees (Some (decl.Name id class.Free args r)) = refl
large_by trees (Some (decl.Equation n)) = refl
large_by trees (Some (decl.Equiv id n)) = refl
large_by trees (Some (decl.Query n)) = refl

pub large_same : (trees : List KindTree) (ds : List Decl) (T : ℕ) (k : Class) → k ≡ class_in ds T → is_large k ≡ is_large_by (declaration_of (declarations trees ds) T)
large_same trees ds T k e = ap is_large e ∙ (large_by trees (declaration_in ds T) ∙ ap is_large_by (sym (declaration_same trees ds T)))
