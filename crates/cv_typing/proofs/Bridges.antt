-- What a list of declarations in a pool says of names.
use Rattle.std.proofs.Common.{◌≡◌, ℕ, Bool, true, false, cond, List, [], ◌∷◌, refl, ap, sym, ◌∙◌, Option, Some, None, subst}
use Rattle.std.specs.Prelude.{nat_eq, option_map}
use Rattle.cv_syntax_trees.specs.declared.class.Class.TheVariants.{TypeName, Fun, Event}
use Rattle.cv_syntax.specs.declared.decls.Decl.{Decl}
use Rattle.cv_syntax.specs.declared.decls.Decl.TheVariants as decl
use Rattle.cv_syntax.specs.Classes.{declaration_in, args_by}
use Rattle.cv_syntax_trees.specs.Declarations.{Declaration}
use Rattle.cv_syntax.specs.Declarations.{declared, declarations}
use Rattle.cv_syntax.specs.PoolTrees.{tree_at}
use Rattle.cv_pool.specs.declared.node.NodeId.{NodeId}
use Rattle.cv_pool.specs.KindTree.{KindTree}
use Rattle.cv_typing.specs.declared.function.Callee.{Callee}
use Rattle.cv_pool.specs.Nodes.{ChildBelow}
use Rattle.cv_typing.specs.Lookups.{callee_by, callee_in, event_args_by, event_args_in, fixed_decl, function_at, HasLiveArguments}
use Rattle.cv_scope_rules.specs.typing.Signature.{declaration_of, function_by, function_in, event_by, event_in, fixed_by, is_fixed_in, names_in}
use Rattle.cv_scope_rules.proofs.typing.Counts.{names_end}
use Rattle.cv_syntax.proofs.Trees.{tree_at_None}

pub declaration_same : (trees : List KindTree) (ds : List Decl) (x : ℕ) → declaration_of (declarations trees ds) x ≡ option_map (declared trees) (declaration_in ds x)
declaration_same trees [] x = refl
declaration_same trees (decl.Name id c args result ∷ ds) x = choose trees (decl.Name id c args result) (nat_eq x id.0) (declaration_in ds x) _ (declaration_same trees ds x)
  where
    choose : (trees : List KindTree) (d : Decl) (b : Bool) (o : Option Decl) (p : Option Declaration) → p ≡ option_map (declared trees) o → cond b (Some (declared trees d)) p ≡ option_map (declared trees) (cond b (Some d) o)
    choose trees d true o p e = refl
    choose trees d false o p e = e
declaration_same trees (decl.Equation n ∷ ds) x = declaration_same trees ds x
declaration_same trees (decl.Equiv id n ∷ ds) x = choose trees (decl.Equiv id n) (nat_eq x id.0) (declaration_in ds x) _ (declaration_same trees ds x)
  where
    choose : (trees : List KindTree) (d : Decl) (b : Bool) (o : Option Decl) (p : Option Declaration) → p ≡ option_map (declared trees) o → cond b (Some (declared trees d)) p ≡ option_map (declared trees) (cond b (Some d) o)
    choose trees d true o p e = refl
    choose trees d false o p e = e
declaration_same trees (decl.Query n ∷ ds) x = declaration_same trees ds x

function_by_law : (trees : List KindTree) (o : Option Decl) → function_by (option_map (declared trees) o) ≡ option_map (function_at trees) (callee_by o)
function_by_law trees None = refl
function_by_law trees (Some (decl.Name id (Fun d) args (Some T))) = refl
function_by_law trees (Some (decl.Name id (Fun d) args None)) = refl
function_by_law trees (Some (decl.Name id c args r)) = refl
function_by_law trees (Some (decl.Equation n)) = refl
function_by_law trees (Some (decl.Equiv id n)) = refl
function_by_law trees (Some (decl.Query n)) = refl

pub function_same : (trees : List KindTree) (ds : List Decl) (f : ℕ) → function_in (declarations trees ds) f ≡ option_map (function_at trees) (callee_in ds f)
function_same trees ds f = ap function_by (declaration_same trees ds f) ∙ function_by_law trees (declaration_in ds f)

event_by_law : (trees : List KindTree) (o : Option Decl) → event_by (option_map (declared trees) o) ≡ names_in (tree_at trees (event_args_by o))
event_by_law trees None = sym (names_end (tree_at trees None) (tree_at_None trees))
event_by_law trees (Some (decl.Name id Event args r)) = refl
event_by_law trees (Some (decl.Name id c args r)) = sym (names_end (tree_at trees None) (tree_at_None trees))
event_by_law trees (Some (decl.Equation n)) = sym (names_end (tree_at trees None) (tree_at_None trees))
event_by_law trees (Some (decl.Equiv id n)) = sym (names_end (tree_at trees None) (tree_at_None trees))
event_by_law trees (Some (decl.Query n)) = sym (names_end (tree_at trees None) (tree_at_None trees))

pub event_same : (trees : List KindTree) (ds : List Decl) (e : ℕ) → event_in (declarations trees ds) e ≡ names_in (tree_at trees (event_args_in ds e))
event_same trees ds e = ap event_by (declaration_same trees ds e) ∙ event_by_law trees (declaration_in ds e)

fixed_by_law : (trees : List KindTree) (o : Option Decl) → fixed_by (option_map (declared trees) o) ≡ fixed_decl o
fixed_by_law trees None = refl
fixed_by_law trees (Some (decl.Name id (TypeName f l) args r)) = refl
fixed_by_law trees (Some (decl.Name id c args r)) = refl
fixed_by_law trees (Some (decl.Equation n)) = refl
fixed_by_law trees (Some (decl.Equiv id n)) = refl
fixed_by_law trees (Some (decl.Query n)) = refl

pub fixed_same : (trees : List KindTree) (ds : List Decl) (T : ℕ) → is_fixed_in (declarations trees ds) T ≡ fixed_decl (declaration_in ds T)
fixed_same trees ds T = ap fixed_by (declaration_same trees ds T) ∙ fixed_by_law trees (declaration_in ds T)

-- what is found is live

arguments_or : Option NodeId → Option Callee → Option NodeId
arguments_or d None = d
arguments_or d (Some f) = f.arguments

callee_below : (n : ℕ) (o : Option Decl) → ChildBelow n (args_by o) → (f : Callee) → callee_by o ≡ Some f → ChildBelow n f.arguments
unfolding arguments_or
callee_below n None l f e = absurd (cc)
callee_below n (Some (decl.Name id (Fun d) args (Some T))) l f e = let g : args ≡ f.arguments = ap (arguments_or args) e in subst (ChildBelow n) g l
callee_below n (Some (decl.Name id (Fun d) args None)) l f e = absurd (cc)
callee_below n (Some (decl.Name id c args r)) l f e = absurd (cc)
callee_below n (Some (decl.Equation m)) l f e = absurd (cc)
callee_below n (Some (decl.Equiv id m)) l f e = absurd (cc)
callee_below n (Some (decl.Query m)) l f e = absurd (cc)

pub function_live : (n : ℕ) (ds : List Decl) (x : ℕ) → HasLiveArguments n ds → (f : Callee) → callee_in ds x ≡ Some f → ChildBelow n f.arguments
function_live n ds x l f e = callee_below n (declaration_in ds x) (l x) f e

event_below : (n : ℕ) (o : Option Decl) → ChildBelow n (args_by o) → ChildBelow n (event_args_by o)
event_below n None l = tt
event_below n (Some (decl.Name id Event args r)) l = l
event_below n (Some (decl.Name id c args r)) l = tt
event_below n (Some (decl.Equation m)) l = tt
event_below n (Some (decl.Equiv id m)) l = tt
event_below n (Some (decl.Query m)) l = tt

pub event_live : (n : ℕ) (ds : List Decl) (e : ℕ) → HasLiveArguments n ds → ChildBelow n (event_args_in ds e)
event_live n ds e l = event_below n (declaration_in ds e) (l e)
