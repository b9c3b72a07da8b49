-- The sorts of the variables of a game whose types and parameters are declared.
use Rattle.std.proofs.Common.{◌≡◌, ℕ, ◌==◌, Bool, true, false, cond, List, [], refl, ap, sym, subst, ◌∙◌, Option, Some, None}
use Rattle.std.specs.Prelude.{option_map}
use Rattle.cv_syntax_trees.specs.declared.head.Head.{Head}
use Rattle.cv_syntax_trees.specs.declared.head.Head.TheVariants.{Binder, Branch, In, Let, New}
use Rattle.cv_syntax_trees.specs.Declarations.{Declaration}
use Rattle.cv_syntax_trees.specs.Tree.{Tree, Empty, Node, second}
use Rattle.cv_meaning.specs.Interpretation.{Interpretation}
use Rattle.cv_meaning.specs.Satisfies.{Satisfies}
use Rattle.cv_meaning_laws.specs.adequacy.Typed as meaning
use Rattle.cv_meaning_laws.specs.adequacy.Typed.{IsDeclared, IsModel}
use Rattle.cv_syntax_trees.specs.declared.sites.sort.Sort.{Sort}
use Rattle.cv_syntax_trees.specs.declared.sites.sort.Sort.TheVariants.{BelowParameter, OfType}
use Rattle.cv_syntax_trees.specs.sites.Sites.{Variable, at_parameters, bound_sort, first_of, first_site, parameters_below, site_here}
use Rattle.cv_typing_runs.specs.Games.{AreDeclared, HasDeclaredSorts, NamesDeclared, context_of, sort_of_meaning, variable_of_meaning}
use Rattle.cv_syntax_trees.proofs.lists.Options.{none_some}

bound_declared : (ds : List Declaration) (sort : ℕ → Sort) (x : ℕ) (S : Sort) (t : Tree) → AreDeclared ds sort t → bound_sort sort x t ≡ Some S → IsDeclared ds (sort_of_meaning S)
unfolding AreDeclared bound_sort
bound_declared ds sort x S Empty d e = absurd (cc)
bound_declared ds sort x S (Node (Binder y T) a b) d e = go (y == x) e (bound_declared ds sort x S b d.1)
  where
    go : (c : Bool) → cond c (Some (sort T)) (bound_sort sort x b) ≡ Some S → (bound_sort sort x b ≡ Some S → IsDeclared ds (sort_of_meaning S)) → IsDeclared ds (sort_of_meaning S)
    go true f k = let g : sort T ≡ S = cc in subst (λ z. IsDeclared ds (sort_of_meaning z)) g d.0
    go false f k = k f
bound_declared ds sort x S (Node h a b) d e = bound_declared ds sort x S b d e

here_declared : (ds : List Declaration) (x : ℕ) (S : Sort) (h : Head) (a : Tree) → NamesDeclared ds h a → site_here x h a ≡ Some S → IsDeclared ds (sort_of_meaning S)
here_declared ds x S (New y T) a d e = go (y == x) e
  where
    go : (c : Bool) → cond c (Some (OfType T)) None ≡ Some S → IsDeclared ds (sort_of_meaning S)
    go true f = let g : OfType T ≡ S = cc in subst (λ z. IsDeclared ds (sort_of_meaning z)) g d
    go false f = absurd (cc)
here_declared ds x S (Let y T) a d e = go (y == x) e
  where
    go : (c : Bool) → cond c (Some (OfType T)) None ≡ Some S → IsDeclared ds (sort_of_meaning S)
    go true f = let g : OfType T ≡ S = cc in subst (λ z. IsDeclared ds (sort_of_meaning z)) g d
    go false f = absurd (cc)
here_declared ds x S (In c) a d e = bound_declared ds OfType x S (second a) d e
here_declared ds x S Branch a d e = bound_declared ds BelowParameter x S a d e
here_declared ds x S h a d e = absurd (none_some S e)

site_declared : (ds : List Declaration) (x : ℕ) (ps : List ℕ) (v : Variable) (t : Tree) → HasDeclaredSorts ds t → first_site x ps t ≡ Some v → IsDeclared ds (sort_of_meaning v.sort)
unfolding HasDeclaredSorts first_site
site_declared ds x ps v Empty d e = absurd (cc)
site_declared ds x ps v (Node h a b) d e = go (site_here x h a) (first_site x ps a) refl refl e (λ u. site_declared ds x ps u a d.1) (site_declared ds x (parameters_below h ps) v b d.2)
  where
    go : (o : Option Sort) (q : Option Variable) → site_here x h a ≡ o → first_site x ps a ≡ q → first_of (at_parameters ps o) (first_of q (first_site x (parameters_below h ps) b)) ≡ Some v → ((u : Variable) → first_site x ps a ≡ Some u → IsDeclared ds (sort_of_meaning u.sort)) → (first_site x (parameters_below h ps) b ≡ Some v → IsDeclared ds (sort_of_meaning v.sort)) → IsDeclared ds (sort_of_meaning v.sort)
    go (Some S) q i j f k l =
        let P : (let u : Variable = record { parameters = ps; sort = S } in u) ≡ v = cc in
        let g : S ≡ v.sort = ap (λ (u : Variable). u.sort) P in
        subst (λ z. IsDeclared ds (sort_of_meaning z)) g (here_declared ds x S h a d.0 i)
    go None (Some u) i j f k l = let g : u ≡ v = cc in subst (λ (y : Variable). IsDeclared ds (sort_of_meaning y.sort)) g (k u j)
    go None None i j f k l = l f

pub is_model : (ds : List Declaration) (game : Tree) (i : Interpretation) → Satisfies ds i → HasDeclaredSorts ds game → IsModel (context_of ds game) i
is_model ds game i s d = record { satisfies = s; variables = λ x V e. variables x V (first_site x [] game) refl e }
  where
    variables : (x : ℕ) (V : meaning.Variable) (o : Option Variable) → first_site x [] game ≡ o → option_map variable_of_meaning (first_site x [] game) ≡ Some V → IsDeclared ds V.sort
    variables x V None j e = let z : None ≡ Some V = ap (option_map variable_of_meaning) (sym j) ∙ e in absurd (cc)
    variables x V (Some v) j e =
        let z : Some (variable_of_meaning v) ≡ Some V = ap (option_map variable_of_meaning) (sym j) ∙ e in
        let y : variable_of_meaning v ≡ V = cc in
        subst (λ (U : meaning.Variable). IsDeclared ds U.sort) y (site_declared ds x [] v game d j)
