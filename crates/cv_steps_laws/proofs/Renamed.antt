-- What follows of a row by which a variable gets another name: types and parameters stay, and it is defined by the new name.
use Rattle.std.proofs.Common.{◌≡◌, ℕ, ◌==◌, Bool, true, false, cond, not, List, [], Option, Some, None, is_some, refl, sym, ap, subst, ◌∙◌, eq-eqb}
use Rattle.std.proofs.lemmas.Bool.{both_ways, not-true}
use Rattle.cv_syntax_trees.specs.declared.head.Head.{Head}
use Rattle.cv_syntax_trees.specs.declared.head.Head.TheVariants.{Binder, Branch, In, Let, New}
use Rattle.cv_syntax_trees.specs.Declarations.{Declaration}
use Rattle.cv_syntax_trees.specs.Tree.{Tree, Empty, Node, second}
use Rattle.cv_syntax_trees.specs.declared.sites.sort.Sort.{Sort}
use Rattle.cv_syntax_trees.specs.declared.sites.sort.Sort.TheVariants.{BelowParameter, OfType}
use Rattle.cv_syntax_trees.specs.sites.Sites.{at_parameters, bound_sort, first_of, first_site, parameters_below, site_here}
use Rattle.cv_typing_runs.specs.Games.{AreDeclared, HasDeclaredSorts, NamesDeclared}
use Rattle.cv_scene.specs.Scenes.{Scene, is_new, is_queried}
use Rattle.cv_scene.specs.Terms.{has_site}
use Rattle.cv_steps.specs.Steps.{Cost, Leads, Zero}
use Rattle.cv_steps.specs.Renaming.{renamed, renamed_head, renamed_name}
use Rattle.cv_steps.specs.Rows.{rename_row}
use Rattle.cv_steps.proofs.Rows.{leads_same, unless_leads}

-- the game with a new name for a variable that it defines, for which no query asks
pub record LeadsRenamed (s : Scene) (x y : ℕ) (next : Tree) : Type 0 where
  pub site : has_site s.game x ≡ true
  pub new : is_new s y ≡ true
  pub unqueried : is_queried s x ≡ false
  pub leads : renamed x y s.game ≡ next

pub rename_leads : (s : Scene) (x y : ℕ) (next : Tree) (cost : Cost) → rename_row s x y ≡ Leads next cost → LeadsRenamed s x y next
rename_leads s x y next cost e =
    let r = unless_leads (has_site s.game x) 1 0 _ next cost e in
    let n = unless_leads (is_new s y) 2 0 _ next cost r.1 in
    let q = unless_leads (not (is_queried s x)) 3 0 _ next cost n.1 in
    record { site = r.0; new = n.0; unqueried = not-true _ q.0; leads = leads_same _ next Zero cost q.1 }

-- types and parameters

pub second_renamed : (x y : ℕ) (t : Tree) → second (renamed x y t) ≡ renamed x y (second t)
unfolding renamed
second_renamed x y Empty = refl
second_renamed x y (Node h a b) = refl

module _ (ds : List Declaration) (x y : ℕ) where
  binders_declared : (sort : ℕ → Sort) (t : Tree) → AreDeclared ds sort t → AreDeclared ds sort (renamed x y t)
  unfolding AreDeclared renamed
  binders_declared sort Empty d = tt
  binders_declared sort (Node (Binder z T) a b) d = (d.0, binders_declared sort b d.1)
  binders_declared sort (Node h a b) d = binders_declared sort b d

  names_renamed : (h : Head) (a : Tree) → NamesDeclared ds h a → NamesDeclared ds (renamed_head x y h) (renamed x y a)
  names_renamed (In c) a d = subst (AreDeclared ds OfType) (sym (second_renamed x y a)) (binders_declared OfType (second a) d)
  names_renamed Branch a d = binders_declared BelowParameter a d
  names_renamed h a d = d

  pub declared_renamed : (t : Tree) → HasDeclaredSorts ds t → HasDeclaredSorts ds (renamed x y t)
  unfolding HasDeclaredSorts renamed
  declared_renamed Empty d = tt
  declared_renamed (Node h a b) d = (names_renamed h a d.0, declared_renamed a d.1, declared_renamed b d.2)

-- a site of the one name is a site of the other

either_some : {A B : Type 0} (o q : Option A) (p s : Option B) → (is_some o ≡ true → is_some p ≡ true) → (is_some q ≡ true → is_some s ≡ true) → is_some (first_of o q) ≡ true → is_some (first_of p s) ≡ true
either_some o q (Some c) s f g e = refl
either_some None q None s f g e = g e
either_some (Some a) q None s f g e = absurd (both_ways false refl (f refl))

with_parameters : (ps qs : List ℕ) (o p : Option Sort) → (is_some o ≡ true → is_some p ≡ true) → is_some (at_parameters ps o) ≡ true → is_some (at_parameters qs p) ≡ true
with_parameters ps qs o (Some S) f e = refl
with_parameters ps qs None None f e = absurd (both_ways false refl e)
with_parameters ps qs (Some S) None f e = f refl

module _ (x y : ℕ) where
  -- what has the one name has the other then
  named : (z : ℕ) (S : Sort) → is_some (cond (z == x) (Some S) None) ≡ true → is_some (cond (renamed_name x y z == y) (Some S) None) ≡ true
  named z S e = go (z == x) e
    where
      go : (v : Bool) → is_some (cond v (Some S) None) ≡ true → is_some (cond (cond v y z == y) (Some S) None) ≡ true
      go true e = ap (λ w. is_some (cond w (Some S) None)) (eq-eqb y y refl)
      go false e = absurd (both_ways false refl e)

  bound_renamed : (sort : ℕ → Sort) (t : Tree) → is_some (bound_sort sort x t) ≡ true → is_some (bound_sort sort y (renamed x y t)) ≡ true
  unfolding bound_sort renamed
  bound_renamed sort Empty e = absurd (both_ways false refl e)
  bound_renamed sort (Node (Binder z T) a b) e = go (z == x) e (bound_renamed sort b)
    where
      further : (w : Bool) (o : Option Sort) → is_some o ≡ true → is_some (cond w (Some (sort T)) o) ≡ true
      further true o k = refl
      further false o k = k

      go : (v : Bool) → is_some (cond v (Some (sort T)) (bound_sort sort x b)) ≡ true → (is_some (bound_sort sort x b) ≡ true → is_some (bound_sort sort y (renamed x y b)) ≡ true) → is_some (cond (cond v y z == y) (Some (sort T)) (bound_sort sort y (renamed x y b))) ≡ true
      go true e k = ap (λ w. is_some (cond w (Some (sort T)) (bound_sort sort y (renamed x y b)))) (eq-eqb y y refl)
      go false e k = further (z == y) (bound_sort sort y (renamed x y b)) (k e)
  bound_renamed sort (Node h a b) e = bound_renamed sort b e

  here_renamed : (h : Head) (a : Tree) → is_some (site_here x h a) ≡ true → is_some (site_here y (renamed_head x y h) (renamed x y a)) ≡ true
  here_renamed (New z T) a e = named z (OfType T) e
  here_renamed (Let z T) a e = named z (OfType T) e
  here_renamed (In c) a e = ap (λ t. is_some (bound_sort OfType y t)) (second_renamed x y a) ∙ bound_renamed OfType (second a) e
  here_renamed Branch a e = bound_renamed BelowParameter a e
  here_renamed h a e = absurd (both_ways false refl e)

  site_renamed : (ps qs : List ℕ) (t : Tree) → is_some (first_site x ps t) ≡ true → is_some (first_site y qs (renamed x y t)) ≡ true
  unfolding first_site renamed
  site_renamed ps qs Empty e = absurd (both_ways false refl e)
  site_renamed ps qs (Node h a b) e =
      either_some (at_parameters ps (site_here x h a)) (first_of (first_site x ps a) (first_site x (parameters_below h ps) b))
      (at_parameters qs (site_here y (renamed_head x y h) (renamed x y a))) (first_of (first_site y qs (renamed x y a)) (first_site y (parameters_below (renamed_head x y h) qs) (renamed x y b)))
      (with_parameters ps qs (site_here x h a) (site_here y (renamed_head x y h) (renamed x y a)) (here_renamed h a))
      (either_some (first_site x ps a) (first_site x (parameters_below h ps) b) (first_site y qs (renamed x y a)) (first_site y (parameters_below (renamed_head x y h) qs) (renamed x y b))
      (site_renamed ps qs a) (site_renamed (parameters_below h ps) (parameters_below (renamed_head x y h) qs) b)) e

  pub has_site_renamed : (game : Tree) → has_site game x ≡ true → has_site (renamed x y game) y ≡ true
  has_site_renamed game e = site_renamed [] [] game e
