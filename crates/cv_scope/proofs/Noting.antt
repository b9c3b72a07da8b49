-- Sites as they are noted.
use Rattle.std.proofs.Common.{◌≡◌, ℕ, Bool, true, false, ◌&&◌, List, [], ◌∷◌, length, map, refl, ap, ap₂, sym, ◌∙◌, Option, None, Result, Ok, Err, IfOk, OnOk}
use Rattle.std.specs.declared.alloc.AllocError.{AllocError}
use Rattle.cv_pool.specs.declared.node.NodeId.{NodeId}
use Rattle.cv_pool.specs.KindTree.{KindTree}
use Rattle.cv_syntax_trees.specs.declared.head.Head.{Head}
use Rattle.cv_syntax_trees.specs.declared.head.Head.TheVariants.{In, New, Let, Find, Branch, Key, Call}
use Rattle.cv_syntax_trees.specs.Tree.{Tree}
use Rattle.cv_syntax.specs.PoolTrees.{tree_at}
use Rattle.cv_meaning.specs.Binders.{bound_names}
use Rattle.cv_syntax.proofs.Trees.{tree_at_None}
use Rattle.cv_scope.specs.heads.Heads.{variable_of}
use Rattle.cv_scope.specs.declared.lasts.LastSite.{LastSite}
use Rattle.cv_scope.specs.declared.lasts.Lasts.{Lasts}
use Rattle.cv_scope.specs.declared.state.State.{State}
use Rattle.cv_scope.specs.Held.{HasLiveBinders, IsSiteOf, OnlySites, SameAbove, last_held, site_held}
use Rattle.cv_scope.specs.Seen.{may_follow_last, may_stand_last, with_site, with_sites}
use Rattle.cv_scope_rules.specs.Sites.{Site, SiteName, Variable, bound_types, channel_here, named_here, site_of, variable_sites}
use Rattle.cv_syntax_trees.proofs.lists.Tests.{and_true_back}

abbrev pub site_at : List (ℕ × ℕ) → ℕ → SiteName → List ℕ → Site
site_at rs p name types = record { name = name; replications = rs; types = types; place = p }

-- the site that is noted
pub site_is : (trees : List KindTree) (rs : List (ℕ × ℕ)) (p : ℕ) (name : SiteName) (binders : Option NodeId) (s : LastSite) → IsSiteOf rs p binders s → site_held trees name s ≡ site_at rs p name (bound_types (tree_at trees binders))
site_is trees rs p name binders s e = λ i. record { name = name; replications = e.1 i; types = bound_types (tree_at trees (e.2 i)); place = e.0 i }

pub plain_site : (trees : List KindTree) (rs : List (ℕ × ℕ)) (p : ℕ) (name : SiteName) (s : LastSite) → IsSiteOf rs p None s → site_held trees name s ≡ site_of rs p name
plain_site trees rs p name s e = site_is trees rs p name None s e ∙ ap (λ t. site_at rs p name (bound_types t)) (tree_at_None trees)

-- one site
pub one_may : (passed : List (ℕ × ℕ)) (o : Option Site) (a b : Site) (r : Result Bool AllocError) → a ≡ b → IfOk r (λ yes. yes ≡ may_follow_last passed a o) → IfOk r (λ yes. yes ≡ (may_follow_last passed b o && true))
one_may passed o a b (Ok y) e m = m ∙ (ap (λ s. may_follow_last passed s o) e ∙ and_true_back (may_follow_last passed b o))
one_may passed o a b (Err x) e m = tt

pub one_noted : (trees : List KindTree) (s : State) (l : Lasts) (a b : Site) (r : Result Bool AllocError) → a ≡ b → OnOk r (last_held trees l ≡ with_site (last_held trees s.last) a) → OnOk r (HasLiveBinders (length trees) l) → OnOk r (OnlySites trees s (record s { last = l }) (b ∷ []))
one_noted trees s l a b (Ok y) e m v = record { above = record { replications = refl; defined = refl; listed = refl; passed = refl }; last = m ∙ ap (with_site (last_held trees s.last)) e; live = v }
one_noted trees s l a b (Err x) e m v = tt

-- no site
pub none_noted : (trees : List KindTree) (s : State) → HasLiveBinders (length trees) s.last → OnlySites trees s s []
none_noted trees s v = record { above = record { replications = refl; defined = refl; listed = refl; passed = refl }; last = refl; live = v }

-- lists of binders
pub sites_step : (rs : List (ℕ × ℕ)) (p : ℕ) (t u : Tree) (x : ℕ) → bound_names t ≡ x ∷ bound_names u → variable_sites rs p t ≡ site_of rs p (Variable x) ∷ variable_sites rs p u
sites_step rs p t u x e = ap (map (λ y. site_of rs p (Variable y))) e

pub sites_end : (rs : List (ℕ × ℕ)) (p : ℕ) (t : Tree) → bound_names t ≡ [] → variable_sites rs p t ≡ []
sites_end rs p t e = ap (map (λ y. site_of rs p (Variable y))) e

pub stand_false : (follows rest : Bool) → false ≡ (follows && true) → false ≡ (follows && rest)
stand_false false rest e = refl
stand_false true rest e = absurd (cc)

pub stand_true : (follows rest : Bool) → true ≡ (follows && true) → (follows && rest) ≡ rest
stand_true true rest e = refl
stand_true false rest e = absurd (cc)

pub above_again : (s r q : State) → SameAbove s r → SameAbove r q → SameAbove s q
above_again s r q a b = record { replications = b.replications ∙ a.replications; defined = b.defined ∙ a.defined; listed = b.listed ∙ a.listed; passed = b.passed ∙ a.passed }

-- heads without sites
pub no_named : (rs : List (ℕ × ℕ)) (p : ℕ) (h : Head) (a : Tree) → variable_of h ≡ None → ((c : ℕ) → h ≡ In c → ⊥) → (h ≡ Branch → ⊥) → ((l : ℕ) → h ≡ Find l → ⊥) → named_here rs p h a ≡ []
no_named rs p (New x T) a n i b f = absurd (cc)
no_named rs p (Let x T) a n i b f = absurd (cc)
no_named rs p (Key x) a n i b f = absurd (cc)
no_named rs p (Call x m) a n i b f = absurd (cc)
no_named rs p (In c) a n i b f = absurd (i c refl)
no_named rs p Branch a n i b f = absurd (b refl)
no_named rs p (Find m) a n i b f = absurd (f m refl)
no_named rs p h a n i b f = refl

pub no_channel : (rs : List (ℕ × ℕ)) (p : ℕ) (h : Head) (a : Tree) → ((c : ℕ) → h ≡ In c → ⊥) → channel_here rs p h a ≡ []
no_channel rs p (In c) a i = absurd (i c refl)
no_channel rs p h a i = refl

-- a binder of a list, and the binders behind it
module _ (passed passed' rs rs' : List (ℕ × ℕ)) (p : ℕ) (t u : Tree) (x : ℕ) (last : SiteName → Option Site) (e : passed' ≡ passed) (r : rs' ≡ rs) (b : bound_names t ≡ x ∷ bound_names u) where
  here : (v : Bool) → v ≡ may_stand_last passed' last (site_of rs' p (Variable x) ∷ []) → v ≡ (may_follow_last passed (site_of rs p (Variable x)) (last (Variable x)) && true)
  here v m = m ∙ ap₂ (λ (l k : List (ℕ × ℕ)). may_follow_last l (site_of k p (Variable x)) (last (Variable x)) && true) e r

  pub binder_refused : (v : Bool) → v ≡ may_stand_last passed' last (site_of rs' p (Variable x) ∷ []) → v ≡ false → false ≡ may_stand_last passed last (variable_sites rs p t)
  binder_refused v m f = stand_false _ _ (sym f ∙ here v m) ∙ sym (ap (may_stand_last passed last) (sites_step rs p t u x b))

  pub binder_may : (v : Bool) (new : SiteName → Option Site) → v ≡ may_stand_last passed' last (site_of rs' p (Variable x) ∷ []) → v ≡ true → new ≡ with_sites last (site_of rs' p (Variable x) ∷ []) → may_stand_last passed new (variable_sites rs p u) ≡ may_stand_last passed last (variable_sites rs p t)
  binder_may v new m f n =
      ap (λ l. may_stand_last passed l (variable_sites rs p u)) (n ∙ ap (λ k. with_site last (site_of k p (Variable x))) r)
      ∙ (sym (stand_true _ _ (sym f ∙ here v m)) ∙ sym (ap (may_stand_last passed last) (sites_step rs p t u x b)))

  pub binder_noted : (new : SiteName → Option Site) → new ≡ with_sites last (site_of rs' p (Variable x) ∷ []) → with_sites new (variable_sites rs p u) ≡ with_sites last (variable_sites rs p t)
  binder_noted new n =
      ap (λ l. with_sites l (variable_sites rs p u)) (n ∙ ap (λ k. with_site last (site_of k p (Variable x))) r)
      ∙ sym (ap (with_sites last) (sites_step rs p t u x b))
