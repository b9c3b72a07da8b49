-- The one definition of a variable is its first site.
use Rattle.std.proofs.Common.{◌≡◌, ℕ, Bool, true, false, cond, ◌==◌, List, [], ◌∷◌, ◌++◌, Option, Some, None, refl, sym, ap, subst, ◌∙◌, eq-eqb, eqb-true, arith}
use Rattle.std.proofs.lemmas.Bool.{both_ways, and_parts, or_parts}
use Rattle.std.specs.Prelude.{option_map}
use Rattle.cv_syntax_trees.specs.declared.head.Head.{Head}
use Rattle.cv_syntax_trees.specs.declared.head.Head.TheVariants.{Binder, Branch, In, Let, New}
use Rattle.cv_syntax_trees.specs.Tree.{Tree, Empty, Node, second}
use Rattle.cv_syntax_trees.specs.declared.sites.sort.Sort.{Sort}
use Rattle.cv_syntax_trees.specs.declared.sites.sort.Sort.TheVariants.{BelowParameter, OfType}
use Rattle.cv_syntax_trees.specs.sites.Sites.{Variable, at_parameters, bound_sort, first_of, first_site, parameters_below, site_here, sites_of}
use Rattle.cv_scope_rules.specs.typing.Signature.{OfGame, variable_sort}
use Rattle.cv_scope_rules.specs.Context.{replications_below}
use Rattle.cv_scope_rules.specs.Made.{is_bound, made_by}
use Rattle.cv_scope_rules.specs.Phrases.{Phrase, Binders, Inputs, Nil, is_phrase}
use Rattle.cv_scope_rules.specs.Sites.{Variable as Named}
use Rattle.cv_typing_runs.proofs.SameSites.{branch_binders, input_binders, phrase_open}
use Rattle.cv_scene.specs.Refusals.{definitions_in, new_of, only_new}
use Rattle.cv_syntax_trees.proofs.lists.Tests.{differ_comm}

abbrev Definition : Type 0
Definition = Head × List (ℕ × ℕ)

-- where a node doesn't define the variable, it is no site

unbound : (sort : ℕ → Sort) (x : ℕ) (t : Tree) → is_phrase Binders t ≡ true → is_bound t x ≡ false → bound_sort sort x t ≡ None
unfolding is_phrase is_bound bound_sort
unbound sort x Empty p e = refl
unbound sort x (Node (Binder y T) a b) p e =
    let q = or_parts (x == y) (is_bound b x) e in
    ap (λ c. cond c (Some (sort T)) (bound_sort sort x b)) (differ_comm x y q.0) ∙ unbound sort x b (and_parts (is_phrase Nil a) (is_phrase Binders b) p).1 q.1
unbound sort x (Node h a b) p e = absurd (both_ways false refl p)

not_here : (σ : Phrase) (x : ℕ) (h : Head) (a b : Tree) → is_phrase σ (Node h a b) ≡ true → made_by h a (Named x) ≡ false → site_here x h a ≡ None
not_here σ x (New y T) a b p e = ap (λ c. cond c (Some (OfType T)) None) (differ_comm x y e)
not_here σ x (Let y T) a b p e = ap (λ c. cond c (Some (OfType T)) None) (differ_comm x y e)
not_here σ x (In c) a b p e = unbound OfType x (second a) (input_binders σ c a b p) e
not_here σ x Branch a b p e = unbound BelowParameter x a (branch_binders σ a b p) e
not_here σ x h a b p e = refl

-- a `new` is one

made_new : (x y T : ℕ) (a : Tree) → made_by (New y T) a (Named x) ≡ true → site_here x (New y T) a ≡ Some (OfType T)
made_new x y T a e = ap (λ c. cond c (Some (OfType T)) None) (eq-eqb y x (sym (eqb-true x y e)))

nil_both : (cs ds : List Definition) → cs ++ ds ≡ [] → (cs ≡ []) × (ds ≡ [])
nil_both [] ds e = (refl, e)
nil_both (c ∷ cs) ds e = absurd (cc)

no_site : (σ : Phrase) (x : ℕ) (rs : List (ℕ × ℕ)) (ps : List ℕ) (t : Tree) → is_phrase σ t ≡ true → definitions_in x rs t ≡ [] → first_site x ps t ≡ None
unfolding definitions_in first_site
no_site σ x rs ps Empty p e = refl
no_site σ x rs ps (Node h a b) p e =
    let q = phrase_open σ h a b p in
    go (made_by h a (Named x)) refl e (λ f. no_site q.0.0 x rs ps a q.2 f) (λ f. no_site q.0.1 x (replications_below h rs) (parameters_below h ps) b q.3 f)
  where
    go : (m : Bool) → made_by h a (Named x) ≡ m → cond m ((h, rs) ∷ []) [] ++ (definitions_in x rs a ++ definitions_in x (replications_below h rs) b) ≡ []
        → (definitions_in x rs a ≡ [] → first_site x ps a ≡ None) → (definitions_in x (replications_below h rs) b ≡ [] → first_site x (parameters_below h ps) b ≡ None)
        → first_of (at_parameters ps (site_here x h a)) (first_of (first_site x ps a) (first_site x (parameters_below h ps) b)) ≡ None
    go true i e f g = absurd (cc)
    go false i e f g =
        let n = nil_both (definitions_in x rs a) (definitions_in x (replications_below h rs) b) e in
        ap (λ o. first_of (at_parameters ps o) (first_of (first_site x ps a) (first_site x (parameters_below h ps) b))) (not_here σ x h a b p i)
        ∙ ap (λ o. first_of o (first_site x (parameters_below h ps) b)) (f n.0)
        ∙ g n.1

abbrev sort_at : Option Variable → Option Sort
sort_at o = option_map (λ (v : Variable). v.sort) o

first_sort : (o u : Option Variable) (S : Sort) → sort_at o ≡ Some S → sort_at (first_of o u) ≡ Some S
first_sort None u S e = absurd (cc)
first_sort (Some v) u S e = e

abbrev top : List Definition → Option Head
top [] = None
top (d ∷ ds) = Some d.0

module _ (x y T : ℕ) (qs : List (ℕ × ℕ)) where
  abbrev Sole : List Definition → Type 0
  Sole ds = ds ≡ (New y T, qs) ∷ []

  sole_left : (c : Definition) (cs ds : List Definition) → Sole (c ∷ (cs ++ ds)) → Sole (c ∷ cs)
  sole_left c [] ds e = let same : c ≡ (New y T, qs) = cc in ap (λ (d : Definition). d ∷ []) same
  sole_left c (b ∷ cs) ds e = absurd (cc)

  one_site : (σ : Phrase) (rs : List (ℕ × ℕ)) (ps : List ℕ) (t : Tree) → is_phrase σ t ≡ true → Sole (definitions_in x rs t) → sort_at (first_site x ps t) ≡ Some (OfType T)
  unfolding definitions_in first_site
  one_site σ rs ps Empty p e = absurd (cc)
  one_site σ rs ps (Node h a b) p e =
      let q = phrase_open σ h a b p in
      go (made_by h a (Named x)) refl e (definitions_in x rs a) refl (λ f. no_site q.0.0 x rs ps a q.2 f) (λ f. one_site q.0.0 rs ps a q.2 f) (λ f. one_site q.0.1 (replications_below h rs) (parameters_below h ps) b q.3 f)
    where
      go : (m : Bool) → made_by h a (Named x) ≡ m → Sole (cond m ((h, rs) ∷ []) [] ++ (definitions_in x rs a ++ definitions_in x (replications_below h rs) b))
          → (ds : List Definition) → definitions_in x rs a ≡ ds → (definitions_in x rs a ≡ [] → first_site x ps a ≡ None) → (Sole (definitions_in x rs a) → sort_at (first_site x ps a) ≡ Some (OfType T))
          → (Sole (definitions_in x (replications_below h rs) b) → sort_at (first_site x (parameters_below h ps) b) ≡ Some (OfType T))
          → sort_at (first_of (at_parameters ps (site_here x h a)) (first_of (first_site x ps a) (first_site x (parameters_below h ps) b))) ≡ Some (OfType T)
      go true i e ds j none f g =
          let heads : Some h ≡ Some (New y T) = ap top e in
          let same : h ≡ New y T = cc in
          ap (λ o. sort_at (first_of (at_parameters ps o) (first_of (first_site x ps a) (first_site x (parameters_below h ps) b))))
          (subst (λ k. made_by k a (Named x) ≡ true → site_here x k a ≡ Some (OfType T)) (sym same) (made_new x y T a) i)
      go false i e [] j none f g =
          ap (λ o. sort_at (first_of (at_parameters ps o) (first_of (first_site x ps a) (first_site x (parameters_below h ps) b)))) (not_here σ x h a b p i)
          ∙ ap (λ o. sort_at (first_of o (first_site x (parameters_below h ps) b))) (none j)
          ∙ g (ap (λ cs. cs ++ definitions_in x (replications_below h rs) b) (sym j) ∙ e)
      go false i e (c ∷ cs) j none f g =
          ap (λ o. sort_at (first_of (at_parameters ps o) (first_of (first_site x ps a) (first_site x (parameters_below h ps) b)))) (not_here σ x h a b p i)
          ∙ first_sort (first_site x ps a) (first_site x (parameters_below h ps) b) (OfType T)
          (f (j ∙ sole_left c cs (definitions_in x (replications_below h rs) b) (ap (λ bs. bs ++ definitions_in x (replications_below h rs) b) (sym j) ∙ e)))

-- what `new_of` finds

record IsNew (ds : List Definition) (d : ℕ × List (ℕ × ℕ)) : Type 0 where
  name : ℕ
  is : ds ≡ (New name d.0, d.1) ∷ []

the_new : (ds : List Definition) (d : ℕ × List (ℕ × ℕ)) → only_new ds ≡ Some d → IsNew ds d
the_new [] d e = absurd (cc)
the_new (c ∷ []) d e = go c.0 c.1 e
  where
    go : (h : Head) (rs : List (ℕ × ℕ)) → only_new ((h, rs) ∷ []) ≡ Some d → IsNew ((h, rs) ∷ []) d
    go (New x T) rs e = let same : (T, rs) ≡ d = cc in record { name = x; is = ap (λ (c : ℕ × List (ℕ × ℕ)). (New x c.0, c.1) ∷ []) same }
    go h rs e = absurd (cc)
the_new (c ∷ b ∷ ds) d e = go c.0 c.1 e
  where
    go : (h : Head) (rs : List (ℕ × ℕ)) → only_new ((h, rs) ∷ b ∷ ds) ≡ Some d → IsNew ((h, rs) ∷ b ∷ ds) d
    go (New x T) rs e = absurd (cc)
    go h rs e = absurd (cc)

pub value_sort : (game : Tree) (x : ℕ) (d : ℕ × List (ℕ × ℕ)) → is_phrase Inputs game ≡ true → new_of game x ≡ Some d → variable_sort (OfGame (sites_of game)) x ≡ Some (OfType d.0)
value_sort game x d p e =
    let n = the_new (definitions_in x [] game) d e in
    one_site x n.name d.0 d.1 Inputs [] [] game p n.is
