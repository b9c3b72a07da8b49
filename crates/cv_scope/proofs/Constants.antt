-- The constants of a list of declarations, and the variables with no type of a tree.
use Rattle.std.proofs.Common.{◌≡◌, ℕ, zero, suc, ◌+◌, ◌<◌, Bool, true, false, ◌||◌, List, [], ◌∷◌, length, drop, refl, ap, sym, ◌∙◌, arith, Option, is_some}
use Rattle.std.specs.Prelude.{slice_get, option_and_then}
use Rattle.std.proofs.Math.Path.{fun_ext}
use Rattle.cv_syntax_trees.specs.declared.class.Class.TheVariants as class
use Rattle.cv_syntax.specs.declared.decls.Decl.{Decl}
use Rattle.cv_pool.specs.KindTree.{KindTree}
use Rattle.cv_syntax_trees.specs.Declarations.{Declaration, Named}
use Rattle.cv_syntax.specs.Declarations.{declarations, declared}
use Rattle.cv_syntax_trees.specs.Tree.{Tree, Empty, Node}
use Rattle.cv_meaning.specs.Interpretation.{is_constant_of}
use Rattle.cv_syntax_trees.specs.sites.Sites.{SitesView, sites_of}
use Rattle.cv_directory.specs.Tables.{seen}
use Rattle.cv_scope.specs.declared.names.NameKinds.{NameKinds}
use Rattle.cv_scope.specs.Held.{constant_by, has_constant, is_here, names_held}
use Rattle.cv_scope_rules.specs.Scope.{names_of}
use Rattle.cv_syntax_trees.proofs.lists.Tests.{or_assoc}

drop_has : (trees : List KindTree) (ds : List Decl) (k x : ℕ) → k < length ds → has_constant trees (drop k ds) x ≡ (is_here (option_and_then (λ d. constant_by (declared trees d)) (slice_get ds k)) x || has_constant trees (drop (suc k) ds) x)
drop_has trees [] k x l = absurd (omega arith)
drop_has trees (d ∷ ds) zero x l = refl
drop_has trees (d ∷ ds) (suc k) x l = drop_has trees ds k x (omega arith)

-- one declaration more
pub constants_step : (trees : List KindTree) (c c' : ℕ → Bool) (ds : List Decl) (k : ℕ) (o : Option ℕ) → o ≡ option_and_then (λ d. constant_by (declared trees d)) (slice_get ds k) → ((x : ℕ) → c' x ≡ (c x || is_here o x)) → k < length ds → (x : ℕ) → (c' x || has_constant trees (drop (k + 1) ds) x) ≡ (c x || has_constant trees (drop k ds) x)
constants_step trees c c' ds k o e f l x =
    let n : k + 1 ≡ suc k = omega arith in
    ap (λ b. b || has_constant trees (drop (k + 1) ds) x) (f x)
    ∙ (or_assoc (c x) (is_here o x) (has_constant trees (drop (k + 1) ds) x)
    ∙ ap (λ b. c x || b) ((λ i. is_here (e i) x || has_constant trees (drop (n i) ds) x) ∙ sym (drop_has trees ds k x l)))

one_is : (d : Declaration) (ds : List Declaration) (x : ℕ) → is_constant_of (d ∷ ds) x ≡ (is_here (constant_by d) x || is_constant_of ds x)
one_is (Named y (class.Fun d) Empty result) ds x = refl
one_is (Named y (class.Fun d) (Node h a b) result) ds x = refl
one_is (Named y class arguments result) ds x = refl
one_is d ds x = refl

pub has_is : (trees : List KindTree) (ds : List Decl) (x : ℕ) → has_constant trees ds x ≡ is_constant_of (declarations trees ds) x
has_is trees [] x = refl
has_is trees (d ∷ ds) x = ap (λ b. is_here (constant_by (declared trees d)) x || b) (has_is trees ds x) ∙ sym (one_is (declared trees d) (declarations trees ds) x)

-- what the tables of the code hold
pub names_are : (trees : List KindTree) (ds : List Decl) (t : Tree) (n m : NameKinds) → ((x : ℕ) → (names_held m).constant x ≡ ((names_held n).constant x || has_constant trees ds x)) → ((x : ℕ) → (names_held n).constant x ≡ false)
    → m.sites ≡ n.sites → seen n.sites ≡ sites_of t → names_held m ≡ names_of (declarations trees ds) t
names_are trees ds t n m c z e s =
    let constants = fun_ext (λ x. c x ∙ (ap (λ b. b || has_constant trees ds x) (z x) ∙ has_is trees ds x)) in
    let variables = fun_ext (λ x. ap (λ (v : SitesView). is_some (v.variable x) || v.untyped x) (ap seen e ∙ s)) in
    λ i. record { constant = constants i; variable = variables i }
