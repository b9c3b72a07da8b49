-- In a typed game all sites of a variable have the sort of the first one, and so it is in what is left of the game.
use Rattle.std.proofs.Common.{◌≡◌, ℕ, ◌+◌, ◌-◌, ◌==◌, Bool, true, false, cond, List, [], Option, Some, None, is_some, refl, sym, ap, ◌∙◌, nat_lt, eqb-true}
use Rattle.std.specs.Prelude.{option_map}
use Rattle.std.proofs.lemmas.Bool.{both_ways, or_parts}
use Rattle.cv_syntax.specs.faults.Walk.{IsObeyed}
use Rattle.cv_syntax_trees.specs.declared.head.Head.{Head}
use Rattle.cv_syntax_trees.specs.declared.head.Head.TheVariants.{Binder, Branch, In, Let, New}
use Rattle.cv_syntax_trees.specs.declared.sites.sort.Sort.{Sort}
use Rattle.cv_syntax_trees.specs.declared.sites.sort.Sort.TheVariants.{BelowParameter, OfType}
use Rattle.cv_syntax_trees.specs.Declarations.{Declaration}
use Rattle.cv_syntax_trees.specs.Head.{weight}
use Rattle.cv_syntax_trees.specs.Tree.{Tree, Empty, Node, second, size}
use Rattle.cv_syntax_trees.specs.sites.Sites.{Variable, bound_sort, first_of, first_site, site_here, sites_of}
use Rattle.cv_syntax_trees.specs.sites.Sorts.{differs_from}
use Rattle.cv_syntax_trees.proofs.lists.Options.{none_some}
use Rattle.cv_meaning.specs.Replaced.{replaced}
use Rattle.cv_scope_rules.specs.Phrases.{Phrase, is_phrase}
use Rattle.cv_scope_rules.specs.declared.typing.form.Form.TheVariants.{InProcess}
use Rattle.cv_scope_rules.specs.typing.Parts.{IsTypedGame, nothing_above}
use Rattle.cv_scope_rules.specs.typing.Signature.{Above, Arrays, OfGame, Signature, variable_sort}
use Rattle.cv_scope_rules.specs.typing.Typing.{IsTyped, binders_differ, site_differs}
use Rattle.cv_scope_rules.specs.typing.Wants.{Run, Want, above_second, wants}
use Rattle.cv_typing_runs.proofs.Terms.{faultless, same_sorts}
use Rattle.cv_scene.specs.Pruning.{Part, Pruned, pruned}
use Rattle.cv_steps.proofs.Flat.{open_phrase}
use Rattle.cv_steps.proofs.Pruned.{left_keeps}
use Rattle.cv_settling_measures.proofs.Nodes.{AllNodes}
use Rattle.cv_settling_measures.proofs.Sites.{first_here, site_sort, sort_of_site}

-- a node gives variables these sorts
abbrev pub SitesAre : (ℕ → Option Sort) → Head → Tree → Tree → Type 0
SitesAre F h a b = (x : ℕ) (S : Sort) → site_here x h a ≡ Some S → F x ≡ Some S

module _ (F : ℕ → Option Sort) where
  -- so has the first one its sort
  pub first_is : (x : ℕ) (S : Sort) (t : Tree) → AllNodes (SitesAre F) t → site_sort x t ≡ Some S → F x ≡ Some S
  unfolding AllNodes site_sort
  first_is x S Empty k e = absurd (none_some S e)
  first_is x S (Node h a b) k e = go (site_here x h a) (site_sort x a) refl refl e (first_is x S a k.1) (first_is x S b k.2)
    where
      go : (o u : Option Sort) → site_here x h a ≡ o → site_sort x a ≡ u → first_of o (first_of u (site_sort x b)) ≡ Some S
          → (site_sort x a ≡ Some S → F x ≡ Some S) → (site_sort x b ≡ Some S → F x ≡ Some S) → F x ≡ Some S
      go (Some R) u f g e l n = k.0 x S (f ∙ e)
      go None (Some R) f g e l n = l (g ∙ e)
      go None None f g e l n = n e

  -- with a tree at a place
  pub sites_are_replaced : (m : Tree) → AllNodes (SitesAre F) m → (σ : Phrase) (t : Tree) (p : ℕ) → is_phrase σ t ≡ true → AllNodes (SitesAre F) t → AllNodes (SitesAre F) (replaced t p m)
  unfolding AllNodes replaced
  sites_are_replaced m d σ Empty p e k = tt
  sites_are_replaced m d σ (Node h a b) p e k =
      let o = open_phrase σ h a b e in
      go (nat_lt p (weight h)) refl (nat_lt p (weight h + size a)) refl (sites_are_replaced m d o.0.0 a (p - weight h) o.2 k.1) (sites_are_replaced m d o.0.1 b (p - (weight h + size a)) o.3 k.2)
    where
      go : (v : Bool) → nat_lt p (weight h) ≡ v → (w : Bool) → nat_lt p (weight h + size a) ≡ w
          → AllNodes (SitesAre F) (replaced a (p - weight h) m) → AllNodes (SitesAre F) (replaced b (p - (weight h + size a)) m)
          → AllNodes (SitesAre F) (cond v m (cond w (Node h (replaced a (p - weight h) m) b) (Node h a (replaced b (p - (weight h + size a)) m))))
      go true i w j l n = d
      go false i true j l n = (λ x S f. k.0 x S (sym (first_here x p m σ h a b e i j) ∙ f), l, k.2)
      go false i false j l n = (k.0, k.1, n)

  -- in what is left of a construct
  pub sites_left : (p : ℕ) (t : Tree) (part : Part) (b : Pruned) → pruned p t part ≡ Some b → AllNodes (SitesAre F) t → AllNodes (SitesAre F) b.left
  unfolding AllNodes
  sites_left p t part b e k =
      left_keeps (AllNodes (SitesAre F)) (λ h x y d. (d.1, d.2)) (λ h x y z d l. (d.0, d.1, l)) (λ l x y z d n. (λ v S f. absurd (none_some S f), n, d.2)) p t part b e k

-- typed games

not_differs : (o : Option Sort) (R : Sort) → differs_from o R ≡ false → is_some o ≡ true → o ≡ Some R
not_differs None R e f = absurd (both_ways false refl f)
not_differs (Some Q) R e f = ap Some (sym (same_sorts Q R e))

pub some_first : (o u v : Option Sort) → is_some u ≡ true → is_some (first_of o (first_of u v)) ≡ true
some_first (Some S) u v e = refl
some_first None (Some S) v e = refl
some_first None None v e = absurd (both_ways false refl e)

pub some_second : (o u v : Option Sort) → is_some v ≡ true → is_some (first_of o (first_of u v)) ≡ true
some_second (Some S) u v e = refl
some_second None (Some S) v e = refl
some_second None None v e = e

module _ (ds : List Declaration) (game : Tree) where
  abbrev arrays : Arrays
  arrays = OfGame (sites_of game)

  abbrev signature : Signature
  signature = record { declarations = ds; arrays = OfGame (sites_of game) }

  sort_is : (x : ℕ) (R : Sort) → differs_from (variable_sort arrays x) R ≡ false → is_some (site_sort x game) ≡ true → site_sort x game ≡ Some R
  sort_is x R e f =
      let same : option_map (λ (v : Variable). v.sort) (first_site x [] game) ≡ site_sort x game = sort_of_site x [] game in
      sym same ∙ not_differs (option_map (λ (v : Variable). v.sort) (first_site x [] game)) R e (ap is_some same ∙ f)

  bound_is : (sort : ℕ → Sort) (t : Tree) → binders_differ arrays sort t ≡ false → (x : ℕ) (S : Sort) → bound_sort sort x t ≡ Some S → is_some (site_sort x game) ≡ true → site_sort x game ≡ Some S
  unfolding binders_differ bound_sort
  bound_is sort Empty e x S f i = absurd (none_some S f)
  bound_is sort (Node (Binder y T) a b) e x S f i =
      let p = or_parts (differs_from (variable_sort arrays y) (sort T)) _ e in go (y == x) refl f p.0 (bound_is sort b p.1 x S)
    where
      go : (v : Bool) → (y == x) ≡ v → cond v (Some (sort T)) (bound_sort sort x b) ≡ Some S → differs_from (variable_sort arrays y) (sort T) ≡ false
          → (bound_sort sort x b ≡ Some S → is_some (site_sort x game) ≡ true → site_sort x game ≡ Some S) → site_sort x game ≡ Some S
      go true j f d k = sort_is x (sort T) (ap (λ z. differs_from (variable_sort arrays z) (sort T)) (sym (eqb-true y x j)) ∙ d) i ∙ f
      go false j f d k = k f i
  bound_is sort (Node h a b) e x S f i = bound_is sort b e x S f i

  one_is : (x y T : ℕ) (S : Sort) → differs_from (variable_sort arrays y) (OfType T) ≡ false → cond (y == x) (Some (OfType T)) None ≡ Some S → is_some (site_sort x game) ≡ true → site_sort x game ≡ Some S
  one_is x y T S d f i = go (y == x) refl f
    where
      go : (v : Bool) → (y == x) ≡ v → cond v (Some (OfType T)) None ≡ Some S → site_sort x game ≡ Some S
      go true j f = sort_is x (OfType T) (ap (λ z. differs_from (variable_sort arrays z) (OfType T)) (sym (eqb-true y x j)) ∙ d) i ∙ f
      go false j f = absurd (none_some S f)

  head_is : (h : Head) (a : Tree) → site_differs arrays h a ≡ false → (x : ℕ) (S : Sort) → site_here x h a ≡ Some S → is_some (site_sort x game) ≡ true → site_sort x game ≡ Some S
  head_is (New y T) a e x S f i = one_is x y T S e f i
  head_is (Let y T) a e x S f i = one_is x y T S e f i
  head_is (In c) a e x S f i = bound_is OfType (second a) e x S f i
  head_is Branch a e x S f i = bound_is BelowParameter a e x S f i
  head_is h a e x S f i = absurd (none_some S f)

  typed_sites : (above : Above) (w : Want) (t : Tree) → IsTyped signature above w t → ((x : ℕ) → is_some (site_sort x t) ≡ true → is_some (site_sort x game) ≡ true) → AllNodes (SitesAre (λ x. site_sort x game)) t
  unfolding IsObeyed AllNodes site_sort
  typed_sites above w Empty i k = tt
  typed_sites above w (Node h a b) i k = (
    λ x S f. head_is h a (faultless signature above w h a i.0).site x S f (k x (ap (λ o. is_some (first_of o (first_of (site_sort x a) (site_sort x b)))) f)),
    typed_sites above (wants signature above w h a).0 a i.1 (λ x e. k x (some_first (site_here x h a) (site_sort x a) (site_sort x b) e)),
    typed_sites (above_second w h a above) (wants signature above w h a).1 b i.2 (λ x e. k x (some_second (site_here x h a) (site_sort x a) (site_sort x b) e)),
  )

  pub typed_game_sites : IsTypedGame ds game → AllNodes (SitesAre (λ x. site_sort x game)) game
  typed_game_sites t = typed_sites nothing_above (Run InProcess) game t (λ x e. e)
