-- Types of terms, by their heads.
use Rattle.std.proofs.Common.{◌≡◌, ℕ, Bool, true, false, not, List, Option, Some, None, refl, sym, ap, ◌∙◌}
use Rattle.std.specs.Prelude.{◌==◌, if◌then◌else◌, option_map}
use Rattle.std.proofs.lemmas.Bool.{both_ways}
use Rattle.cv_pool.specs.KindTree.{KindTree}
use Rattle.cv_syntax_trees.specs.declared.class.Class.{Class}
use Rattle.cv_syntax_trees.specs.declared.class.Class.TheVariants.{TypeName}
use Rattle.cv_syntax_trees.specs.declared.head.Head.{Head}
use Rattle.cv_syntax_trees.specs.declared.head.Head.TheVariants.{And, Apply, Eq, Leaf, No, Not, Or, Read, Yes}
use Rattle.cv_syntax_trees.specs.declared.sites.sort.Sort.{Sort}
use Rattle.cv_syntax_trees.specs.declared.sites.sort.Sort.TheVariants.{BelowParameter, OfType}
use Rattle.cv_syntax_trees.specs.Tree.{Tree, Empty, Node}
use Rattle.cv_syntax_trees.specs.sites.Sites.{first_of}
use Rattle.cv_syntax.specs.Classes.{class_by, class_in, declaration_in}
use Rattle.cv_syntax.specs.Declarations.{declarations, declared}
use Rattle.cv_syntax.specs.declared.decls.Decl.{Decl}
use Rattle.cv_syntax.specs.declared.decls.Decl.TheVariants as decl
use Rattle.cv_scope_rules.specs.typing.Parts.{nothing_above}
use Rattle.cv_scope_rules.specs.typing.Signature.{Function, Signature, declaration_of, function_in, index_in, leaf_sort, sort_by, variable_sort}
use Rattle.cv_typing.proofs.Bridges.{declaration_same}
use Rattle.cv_scene.specs.Large.{is_large, is_large_by}
use Rattle.cv_scene.specs.Scenes.{Scene}
use Rattle.cv_scene.specs.Terms.{is_sort, signature_in}
use Rattle.cv_settling_rules.specs.Measure.{is_of_large}
use Rattle.cv_settling_overview.specs.declared.variables.Variable.{Variable}
use Rattle.cv_settling.specs.Seen.{is_truth_value, type_in, type_of, type_seen}

-- what a table has of a name

module _ (v : Variable) (b : Bool) (d : b ≡ not (v.sites == 0)) where
  seen_some : b ≡ true → type_seen v ≡ Some v.of_type
  seen_some e = by_test (v.sites == 0) (sym d ∙ e)
    where
      by_test : (c : Bool) → not c ≡ true → (if c then None else Some v.of_type) ≡ Some v.of_type
      by_test true f = absurd (both_ways _ refl f)
      by_test false f = refl

  seen_none : b ≡ false → type_seen v ≡ None
  seen_none e = by_test (v.sites == 0) (sym d ∙ e)
    where
      by_test : (c : Bool) → not c ≡ false → (if c then None else Some v.of_type) ≡ None
      by_test true f = refl
      by_test false f = absurd (both_ways _ f refl)

-- names that have a definition come first

defined_type : (V rest : Option Sort) (T : Option ℕ) → Some T ≡ option_map (λ S. type_in (Some S)) V → T ≡ type_in (first_of V rest)
defined_type (Some S) rest T e = cc
defined_type None rest T e = absurd (cc)

no_index : (I : Option ℕ) → None ≡ type_in (option_map BelowParameter I)
no_index (Some n) = refl
no_index None = refl

function_first : (F : Option Function) (I : Option ℕ) → type_in (option_map (λ (f : Function). OfType f.result) F) ≡ type_in (first_of (option_map (λ (f : Function). OfType f.result) F) (option_map BelowParameter I))
function_first (Some f) I = refl
function_first None I = no_index I

nothing_defined : (V rest : Option Sort) → None ≡ option_map (λ S. type_in (Some S)) V → type_in rest ≡ type_in (first_of V rest)
nothing_defined None rest e = refl
nothing_defined (Some S) rest e = absurd (cc)

module _ (s : Scene) (x : ℕ) (v : Variable) (b : Bool) (d : b ≡ not (v.sites == 0)) (e : type_seen v ≡ option_map (λ S. type_in (Some S)) (variable_sort (signature_in s).arrays x)) where
  pub leaf_defined : b ≡ true → v.of_type ≡ type_in (leaf_sort (signature_in s) nothing_above x)
  leaf_defined l = defined_type (variable_sort (signature_in s).arrays x) _ v.of_type (sym (seen_some v b d l) ∙ e)

  pub leaf_function : b ≡ false → type_in (option_map (λ (f : Function). OfType f.result) (function_in s.declarations x)) ≡ type_in (leaf_sort (signature_in s) nothing_above x)
  leaf_function z =
      function_first (function_in s.declarations x) (index_in (signature_in s).arrays x)
      ∙ nothing_defined (variable_sort (signature_in s).arrays x) _ (sym (seen_none v b d z) ∙ e)

  pub read_defined : b ≡ true → v.of_type ≡ type_in (variable_sort (signature_in s).arrays x)
  read_defined l = last (variable_sort (signature_in s).arrays x) (sym (seen_some v b d l) ∙ e)
    where
      last : (V : Option Sort) → Some v.of_type ≡ option_map (λ S. type_in (Some S)) V → v.of_type ≡ type_in V
      last (Some S) f = cc
      last None f = absurd (cc)

  pub read_nothing : b ≡ false → None ≡ type_in (variable_sort (signature_in s).arrays x)
  read_nothing z = last (variable_sort (signature_in s).arrays x) (sym (seen_none v b d z) ∙ e)
    where
      last : (V : Option Sort) → ◌≡◌ {A = Option (Option ℕ)} None (option_map (λ S. type_in (Some S)) V) → None ≡ type_in V
      last None f = refl
      last (Some S) f = absurd (cc)

-- by heads

truth_type : (e : Signature) (h : Head) (a : Tree) → is_truth_value h ≡ true → Some 0 ≡ type_in (sort_by e nothing_above h a)
truth_type e Eq a t = refl
truth_type e And a t = refl
truth_type e Or a t = refl
truth_type e Not a t = refl
truth_type e Yes a t = refl
truth_type e No a t = refl
truth_type e h a t = absurd (both_ways _ refl t)

no_type : (e : Signature) (h : Head) (a : Tree) → is_truth_value h ≡ false → ((x : ℕ) → h ≡ Leaf x → ⊥) → ((x : ℕ) → h ≡ Read x → ⊥) → ((f : ℕ) → h ≡ Apply f → ⊥) → None ≡ type_in (sort_by e nothing_above h a)
no_type e (Leaf x) a t l r f = absurd (l x refl)
no_type e (Read x) a t l r f = absurd (r x refl)
no_type e (Apply x) a t l r f = absurd (f x refl)
no_type e Eq a t l r f = absurd (both_ways _ t refl)
no_type e And a t l r f = absurd (both_ways _ t refl)
no_type e Or a t l r f = absurd (both_ways _ t refl)
no_type e Not a t l r f = absurd (both_ways _ t refl)
no_type e Yes a t l r f = absurd (both_ways _ t refl)
no_type e No a t l r f = absurd (both_ways _ t refl)
no_type e h a t l r f = refl

module _ (s : Scene) (t : Tree) (h : Head) (a b : Tree) (e : t ≡ Node h a b) where
  by_head : type_of s t ≡ type_in (sort_by (signature_in s) nothing_above h a)
  by_head = ap (type_of s) e

  pub type_of_truth : is_truth_value h ≡ true → Some 0 ≡ type_of s t
  type_of_truth f = truth_type (signature_in s) h a f ∙ sym by_head

  pub type_of_leaf : (x : ℕ) (o : Option ℕ) → h ≡ Leaf x → o ≡ type_in (leaf_sort (signature_in s) nothing_above x) → o ≡ type_of s t
  type_of_leaf x o f g = g ∙ (sym (ap (λ k. type_in (sort_by (signature_in s) nothing_above k a)) f) ∙ sym by_head)

  pub type_of_read : (x : ℕ) (o : Option ℕ) → h ≡ Read x → o ≡ type_in (variable_sort (signature_in s).arrays x) → o ≡ type_of s t
  type_of_read x o f g = g ∙ (sym (ap (λ k. type_in (sort_by (signature_in s) nothing_above k a)) f) ∙ sym by_head)

  pub type_of_apply : (x : ℕ) (o : Option ℕ) → h ≡ Apply x → o ≡ type_in (option_map (λ (f : Function). OfType f.result) (function_in s.declarations x)) → o ≡ type_of s t
  type_of_apply x o f g = g ∙ (sym (ap (λ k. type_in (sort_by (signature_in s) nothing_above k a)) f) ∙ sym by_head)

  pub type_of_other : is_truth_value h ≡ false → ((x : ℕ) → h ≡ Leaf x → ⊥) → ((x : ℕ) → h ≡ Read x → ⊥) → ((f : ℕ) → h ≡ Apply f → ⊥) → None ≡ type_of s t
  type_of_other f l r p = no_type (signature_in s) h a f l r p ∙ sym by_head

pub type_of_nothing : (s : Scene) (t : Tree) → t ≡ Empty → None ≡ type_of s t
type_of_nothing s t e = sym (ap (type_of s) e)

-- large types

abbrev pub large_class : Class → Bool
large_class (TypeName fixed large) = large
large_class c = false

class_not_large : (c : Class) → ((f l : Bool) → c ≡ TypeName f l → ⊥) → false ≡ large_class c
class_not_large (TypeName f l) n = absurd (n f l refl)
class_not_large c n = refl

by_declaration : (trees : List KindTree) (o : Option Decl) → large_class (class_by o) ≡ is_large_by (option_map (declared trees) o)
by_declaration trees None = refl
by_declaration trees (Some (decl.Name id (TypeName f l) args r)) = refl
by_declaration trees (Some (decl.Name id c args r)) = refl
by_declaration trees (Some (decl.Equation n)) = refl
by_declaration trees (Some (decl.Equiv id n)) = refl
by_declaration trees (Some (decl.Query n)) = refl

module _ (s : Scene) (trees : List KindTree) (ds : List Decl) (d : s.declarations ≡ declarations trees ds) (T : ℕ) (c : Class) (e : c ≡ class_in ds T) where
  in_class : large_class c ≡ is_large s T
  in_class = ap large_class e ∙ (by_declaration trees (declaration_in ds T) ∙ (ap is_large_by (sym (declaration_same trees ds T)) ∙ ap (λ l. is_large_by (declaration_of l T)) (sym d)))

  pub large_type : (f l : Bool) → c ≡ TypeName f l → l ≡ is_large s T
  large_type f l g = sym (ap large_class g) ∙ in_class

  pub not_large : ((f l : Bool) → c ≡ TypeName f l → ⊥) → false ≡ is_large s T
  not_large n = class_not_large c n ∙ in_class

-- by the sort of a term

pub large_of : (s : Scene) (S : Option Sort) (T : ℕ) → Some T ≡ type_in S → is_large s T ≡ is_of_large s S
large_of s None T e = absurd (cc)
large_of s (Some (OfType U)) T e = ap (is_large s) (let f : T ≡ U = cc in f)
large_of s (Some (BelowParameter n)) T e = absurd (cc)

pub none_large : (s : Scene) (S : Option Sort) → None ≡ type_in S → false ≡ is_of_large s S
none_large s None e = refl
none_large s (Some (OfType U)) e = absurd (cc)
none_large s (Some (BelowParameter n)) e = refl

pub sort_of_type : (S : Option Sort) (T U : ℕ) → Some U ≡ type_in S → (U == T) ≡ is_sort S (OfType T)
sort_of_type None T U e = absurd (cc)
sort_of_type (Some (OfType V)) T U e = ap (λ (n : ℕ). n == T) (let f : U ≡ V = cc in f)
sort_of_type (Some (BelowParameter n)) T U e = absurd (cc)

pub no_sort : (S : Option Sort) (T : ℕ) → None ≡ type_in S → false ≡ is_sort S (OfType T)
no_sort None T e = refl
no_sort (Some (OfType V)) T e = absurd (cc)
no_sort (Some (BelowParameter n)) T e = refl
