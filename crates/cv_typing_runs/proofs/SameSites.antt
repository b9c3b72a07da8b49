-- In a game that is in array scope each definition of a variable stands under the replications of the first one.
use Rattle.std.proofs.Common.{◌≡◌, ℕ, ◌==◌, Bool, true, false, cond, List, [], ◌∷◌, ◌++◌, ◌⊎◌, inl, inr, refl, ap, sym, subst, ◌∙◌, eqb-true, eq-eqb, Option, Some, None}
use Rattle.std.proofs.lemmas.Bool.{both_ways, and_parts}
use Rattle.std.proofs.lemmas.List.{map-append}
use Rattle.std.specs.List.{AllByRecursion}
use Rattle.cv_syntax.specs.faults.Walk.{IsObeyed}
use Rattle.cv_syntax_trees.specs.declared.head.Head.{Head}
use Rattle.cv_syntax_trees.specs.declared.head.Head.TheVariants.{Binder, Branch, Call, Cons, Find, In, Key, Let, New, Repl}
use Rattle.cv_syntax_trees.specs.Tree.{Tree, Empty, Node, second, first_place, second_place}
use Rattle.cv_scope_rules.specs.declared.fault.Fault.TheVariants.{TwoSites}
use Rattle.cv_scope_rules.specs.declared.position.Position.{Position}
use Rattle.cv_scope_rules.specs.declared.position.Position.TheVariants.{Bodies, Cells as ScopeCells, ElseBody, Guarded as ScopeGuarded, Guards as ScopeGuards}
use Rattle.cv_scope_rules.specs.Context.{Context, first_context, rest_context, second_context, replications_below}
use Rattle.cv_scope_rules.specs.Rules.{MayFollow, MayStand, Names}
use Rattle.cv_scope_rules.specs.Scope.{IsScopedAt}
use Rattle.cv_scope_rules.specs.Sites.{Site, Variable as Named, channel_here, named_here, sites_from, sites_here, variable_sites}
use Rattle.cv_scope_rules.specs.Standing.{Standing, first_standing, second_standing}
use Rattle.cv_scope_rules.specs.Phrases.{Phrase, Arm, Binders, Inputs, Pattern, both_are, is_phrase, parts}
use Rattle.cv_scope_rules.proofs.Plain.{phrase_plain}
use Rattle.cv_syntax_trees.specs.declared.sites.sort.Sort.{Sort}
use Rattle.cv_syntax_trees.specs.declared.sites.sort.Sort.TheVariants.{BelowParameter, OfType}
use Rattle.cv_syntax_trees.specs.sites.Sites.{Variable, at_parameters, bound_sort, first_of, first_site, parameters_below, site_here}
use Rattle.cv_typing_runs.specs.Games.{parameters_of}
use Rattle.cv_scope_rules.proofs.Apart.{first_replications, second_replications}
use Rattle.cv_syntax_trees.proofs.lists.Options.{none_some}
use Rattle.cv_syntax_trees.proofs.lists.Each.{AllByRecursion_append}

-- phrases

abbrev pub Parts : Phrase → Head → Tree → Tree → Type 0
Parts σ h a b = (q : Phrase × Phrase) × (parts σ h ≡ Some q) × (is_phrase q.0 a ≡ true) × (is_phrase q.1 b ≡ true)

pub phrase_open : (σ : Phrase) (h : Head) (a b : Tree) → is_phrase σ (Node h a b) ≡ true → Parts σ h a b
unfolding is_phrase
phrase_open σ h a b e = go (parts σ h) refl e
  where
    go : (o : Option (Phrase × Phrase)) → parts σ h ≡ o → both_are o (λ τ. is_phrase τ a) (λ ρ. is_phrase ρ b) ≡ true → Parts σ h a b
    go None e f = absurd (both_ways false refl f)
    go (Some q) e f = let g = and_parts (is_phrase q.0 a) (is_phrase q.1 b) f in (q, e, g.0, g.1)

-- the binders of an input
pub input_binders : (σ : Phrase) (x : ℕ) (a b : Tree) → is_phrase σ (Node (In x) a b) ≡ true → is_phrase Binders (second a) ≡ true
unfolding is_phrase
input_binders Inputs x Empty b e = refl
input_binders Inputs x (Node Cons i t) b e =
    let p = and_parts (is_phrase Pattern (Node Cons i t)) _ e in
    (and_parts _ (is_phrase Binders t) p.0).1
input_binders Inputs x (Node h i t) b e = absurd (both_ways false refl e)
input_binders σ x a b e = absurd (both_ways false refl e)

pub branch_binders : (σ : Phrase) (a b : Tree) → is_phrase σ (Node Branch a b) ≡ true → is_phrase Binders a ≡ true
unfolding is_phrase
branch_binders Arm a b e = (and_parts (is_phrase Binders a) _ e).0
branch_binders σ a b e = absurd (both_ways false refl e)

-- replications

pub below_parameters : (h : Head) (rs : List (ℕ × ℕ)) → parameters_of (replications_below h rs) ≡ parameters_below h (parameters_of rs)
below_parameters (Repl i n) rs = map-append (λ (r : ℕ × ℕ). r.1) rs ((i, n) ∷ [])
below_parameters h rs = refl

-- lists of sites

abbrev HasSite : ℕ → List Site → Type 0
HasSite x [] = ⊥
HasSite x (e ∷ es) = (e.name ≡ Named x) ⊎ HasSite x es

has_left : (x : ℕ) (xs ys : List Site) → HasSite x xs → HasSite x (xs ++ ys)
has_left x [] ys h = absurd h
has_left x (e ∷ xs) ys (inl h) = inl h
has_left x (e ∷ xs) ys (inr h) = inr (has_left x xs ys h)

has_right : (x : ℕ) (xs ys : List Site) → HasSite x ys → HasSite x (xs ++ ys)
has_right x [] ys h = h
has_right x (e ∷ xs) ys h = inr (has_right x xs ys h)

-- what typing calls a site is one in array scope

bound_has : (rs : List (ℕ × ℕ)) (p x : ℕ) (sort : ℕ → Sort) (S : Sort) (t : Tree) → is_phrase Binders t ≡ true → bound_sort sort x t ≡ Some S → HasSite x (variable_sites rs p t)
unfolding is_phrase bound_sort
bound_has rs p x sort S Empty e f = absurd (cc)
bound_has rs p x sort S (Node (Binder y T) a b) e f = go (y == x) refl f (bound_has rs p x sort S b (and_parts _ (is_phrase Binders b) e).1)
  where
    go : (c : Bool) → (y == x) ≡ c → cond c (Some (sort T)) (bound_sort sort x b) ≡ Some S → (bound_sort sort x b ≡ Some S → HasSite x (variable_sites rs p b)) → HasSite x (variable_sites rs p (Node (Binder y T) a b))
    go true i g k = inl (ap Named (eqb-true y x i))
    go false i g k = inr (k g)
bound_has rs p x sort S (Node h a b) e f = absurd (both_ways false refl e)

here_has : (σ : Phrase) (rs : List (ℕ × ℕ)) (p x : ℕ) (h : Head) (a b : Tree) (S : Sort) → is_phrase σ (Node h a b) ≡ true → site_here x h a ≡ Some S → HasSite x (named_here rs p h a)
here_has σ rs p x (New y T) a b S e f = go (y == x) refl f
  where
    go : (c : Bool) → (y == x) ≡ c → cond c (Some (OfType T)) None ≡ Some S → HasSite x (named_here rs p (New y T) a)
    go true i g = inl (ap Named (eqb-true y x i))
    go false i g = absurd (cc)
here_has σ rs p x (Let y T) a b S e f = go (y == x) refl f
  where
    go : (c : Bool) → (y == x) ≡ c → cond c (Some (OfType T)) None ≡ Some S → HasSite x (named_here rs p (Let y T) a)
    go true i g = inl (ap Named (eqb-true y x i))
    go false i g = absurd (cc)
here_has σ rs p x (In c) a b S e f = bound_has rs p x OfType S (second a) (input_binders σ c a b e) f
here_has σ rs p x Branch a b S e f = bound_has rs p x BelowParameter S a (branch_binders σ a b e) f
here_has σ rs p x h a b S e f = absurd (none_some S f)

tree_has : (σ : Phrase) (rs : List (ℕ × ℕ)) (p x : ℕ) (ps : List ℕ) (t : Tree) (v : Variable) → is_phrase σ t ≡ true → first_site x ps t ≡ Some v → HasSite x (sites_from rs p t)
unfolding first_site sites_from
tree_has σ rs p x ps Empty v e f = absurd (cc)
tree_has σ rs p x ps (Node h a b) v e f =
    let w = phrase_open σ h a b e in
    go (site_here x h a) (first_site x ps a) refl refl f (λ u. tree_has w.0.0 rs (first_place p h) x ps a u w.2) (tree_has w.0.1 (replications_below h rs) (second_place p h a) x (parameters_below h ps) b v w.3)
  where
    go : (o : Option Sort) (q : Option Variable) → site_here x h a ≡ o → first_site x ps a ≡ q → first_of (at_parameters ps o) (first_of q (first_site x (parameters_below h ps) b)) ≡ Some v
        → ((u : Variable) → first_site x ps a ≡ Some u → HasSite x (sites_from rs (first_place p h) a)) → (first_site x (parameters_below h ps) b ≡ Some v → HasSite x (sites_from (replications_below h rs) (second_place p h a) b)) → HasSite x (sites_here rs p h a ++ (sites_from rs (first_place p h) a ++ sites_from (replications_below h rs) (second_place p h a) b))
    go (Some S) q i j g k l = has_left x (sites_here rs p h a) _ (has_left x (named_here rs p h a) (channel_here rs p h a) (here_has σ rs p x h a b S e i))
    go None (Some u) i j g k l = has_right x (sites_here rs p h a) _ (has_left x (sites_from rs (first_place p h) a) _ (k u j))
    go None None i j g k l = has_right x (sites_here rs p h a) _ (has_right x (sites_from rs (first_place p h) a) _ (l g))

-- F has the first site of each variable
module _ (F : ℕ → Option Variable) where
  -- the variable has the parameters of these replications
  abbrev pub Stands : ℕ → List (ℕ × ℕ) → Type 0
  Stands x rs = (v : Variable) × (F x ≡ Some v) × (v.parameters ≡ parameters_of rs)

  abbrev pub Agrees : Site → Type 0
  Agrees e = (x : ℕ) → e.name ≡ Named x → Stands x e.replications

  follow : (passed : List (ℕ × ℕ)) (s : Site) (x : ℕ) (sites : List Site) → AllByRecursion Agrees sites → AllByRecursion (MayFollow passed s) sites → HasSite x sites → s.name ≡ Named x → Stands x s.replications
  follow passed s x [] a m h n = absurd h
  follow passed s x (e ∷ es) a m (inl i) n = let f = a.0 x i in let l = m.0 (i ∙ sym n) in (f.0, f.1, f.2 ∙ ap parameters_of l.1.0)
  follow passed s x (e ∷ es) a m (inr i) n = follow passed s x es a.1 m.1 i n

  -- a site of a variable that has none before is the first
  abbrev Fresh : List Site → Site → Type 0
  Fresh sites s = (x : ℕ) → s.name ≡ Named x → HasSite x sites ⊎ Stands x s.replications

  fresh_more : (sites ys ss : List Site) → AllByRecursion (Fresh sites) ss → AllByRecursion (Fresh (sites ++ ys)) ss
  fresh_more sites ys [] f = tt
  fresh_more sites ys (s ∷ ss) f = (λ x n. more x (f.0 x n), fresh_more sites ys ss f.1)
    where
      more : (x : ℕ) → HasSite x sites ⊎ Stands x s.replications → HasSite x (sites ++ ys) ⊎ Stands x s.replications
      more x (inl h) = inl (has_left x sites ys h)
      more x (inr g) = inr g

  agree : (passed : List (ℕ × ℕ)) (sites ss : List Site) → AllByRecursion Agrees sites → MayStand passed sites ss → AllByRecursion (Fresh sites) ss → AllByRecursion Agrees ss
  agree passed sites [] a m f = tt
  agree passed sites (s ∷ ss) a m f = (here, agree passed (sites ++ s ∷ []) ss (AllByRecursion_append Agrees sites (s ∷ []) a (here, tt)) m.1 (fresh_more sites (s ∷ []) ss f.1))
    where
      one : (x : ℕ) → s.name ≡ Named x → HasSite x sites ⊎ Stands x s.replications → Stands x s.replications
      one x n (inl h) = follow passed s x sites a m.0 h n
      one x n (inr g) = g

      here : Agrees s
      here x n = one x n (f.0 x n)

  -- no site of the variable stands before a tree, and then its first one is in the tree if it is there
  abbrev pub Before : List ℕ → List Site → Tree → ℕ → Type 0
  Before ps sites t x = HasSite x sites ⊎ ((L : Option Variable) × (F x ≡ first_of (first_site x ps t) L))

  first_here : (x : ℕ) (ps : List ℕ) (h : Head) (a b : Tree) (S : Sort) (L : Option Variable) → site_here x h a ≡ Some S → F x ≡ first_of (first_site x ps (Node h a b)) L → F x ≡ Some (record { parameters = ps; sort = S })
  unfolding first_site
  first_here x ps h a b S L e f = f ∙ ap (λ o. first_of (first_of (at_parameters ps o) (first_of (first_site x ps a) (first_site x (parameters_below h ps) b))) L) e

  module _ (rs : List (ℕ × ℕ)) (sites : List Site) (h : Head) (a b : Tree) (B : (x : ℕ) → Before (parameters_of rs) sites (Node h a b) x) where
    found : (x : ℕ) (S : Sort) → site_here x h a ≡ Some S → HasSite x sites ⊎ Stands x rs
    found x S e = go (B x)
      where
        go : Before (parameters_of rs) sites (Node h a b) x → HasSite x sites ⊎ Stands x rs
        go (inl i) = inl i
        go (inr l) = inr (record { parameters = parameters_of rs; sort = S }, first_here x (parameters_of rs) h a b S l.0 e l.1, refl)

  bound_fresh : (rs : List (ℕ × ℕ)) (sites : List Site) (p : ℕ) (sort : ℕ → Sort) (t : Tree) → ((x : ℕ) (S : Sort) → bound_sort sort x t ≡ Some S → HasSite x sites ⊎ Stands x rs) → AllByRecursion (Fresh sites) (variable_sites rs p t)
  unfolding bound_sort
  bound_fresh rs sites p sort Empty f = tt
  bound_fresh rs sites p sort (Node (Binder y T) a b) f =
      (λ x n. let i : y ≡ x = cc in f x (sort T) (ap (λ c. cond c (Some (sort T)) (bound_sort sort x b)) (eq-eqb y x i)), bound_fresh rs sites p sort b (λ x S e. more x S (y == x) refl e))
    where
      more : (x : ℕ) (S : Sort) (c : Bool) → (y == x) ≡ c → bound_sort sort x b ≡ Some S → HasSite x sites ⊎ Stands x rs
      more x S true i e = f x (sort T) (ap (λ c. cond c (Some (sort T)) (bound_sort sort x b)) i)
      more x S false i e = f x S (ap (λ c. cond c (Some (sort T)) (bound_sort sort x b)) i ∙ e)
  bound_fresh rs sites p sort (Node h a b) f = tt

  here_fresh : (σ : Phrase) (rs : List (ℕ × ℕ)) (sites : List Site) (p : ℕ) (h : Head) (a b : Tree) → is_phrase σ (Node h a b) ≡ true → ((x : ℕ) (S : Sort) → site_here x h a ≡ Some S → HasSite x sites ⊎ Stands x rs) → AllByRecursion (Fresh sites) (named_here rs p h a)
  unfolding is_phrase
  here_fresh σ rs sites p (New y T) a b e f = (λ x n. let i : y ≡ x = cc in f x (OfType T) (ap (λ c. cond c (Some (OfType T)) None) (eq-eqb y x i)), tt)
  here_fresh σ rs sites p (Let y T) a b e f = (λ x n. let i : y ≡ x = cc in f x (OfType T) (ap (λ c. cond c (Some (OfType T)) None) (eq-eqb y x i)), tt)
  here_fresh σ rs sites p (In c) a b e f = bound_fresh rs sites p OfType (second a) f
  here_fresh σ rs sites p Branch a b e f = bound_fresh rs sites p BelowParameter a f
  here_fresh σ rs sites p (Find l) a b e f = (λ x n. absurd (cc), tt)
  here_fresh σ rs sites p (Key y) a b e f = absurd (both_ways false refl (phrase_plain σ (Node (Key y) a b) e))
  here_fresh σ rs sites p (Call y l) a b e f = absurd (both_ways false refl (phrase_plain σ (Node (Call y l) a b) e))
  here_fresh σ rs sites p h a b e f = tt

  channels_agree : (rs : List (ℕ × ℕ)) (p : ℕ) (h : Head) (a : Tree) → AllByRecursion Agrees (channel_here rs p h a)
  channels_agree rs p (In c) a = (λ x n. absurd (cc), tt)
  channels_agree rs p h a = tt

  first_assoc : (a b c : Option Variable) → first_of (first_of a b) c ≡ first_of a (first_of b c)
  first_assoc None b c = refl
  first_assoc (Some x) b c = refl

  -- what stands before the two children
  module _ (σ : Phrase) (rs : List (ℕ × ℕ)) (sites : List Site) (p : ℕ) (h : Head) (a b : Tree) (e : is_phrase σ (Node h a b) ≡ true) where
    before_first : (x : ℕ) → Before (parameters_of rs) sites (Node h a b) x → Before (parameters_of rs) (sites ++ sites_here rs p h a) a x
    unfolding first_site
    before_first x (inl i) = inl (has_left x sites (sites_here rs p h a) i)
    before_first x (inr l) = go (site_here x h a) refl
      where
        go : (o : Option Sort) → site_here x h a ≡ o → Before (parameters_of rs) (sites ++ sites_here rs p h a) a x
        go (Some S) i = inl (has_right x sites (sites_here rs p h a) (has_left x (named_here rs p h a) (channel_here rs p h a) (here_has σ rs p x h a b S e i)))
        go None i = inr (first_of (first_site x (parameters_below h (parameters_of rs)) b) l.0, l.1 ∙ (ap (λ o. first_of (first_of (at_parameters (parameters_of rs) o) (first_of (first_site x (parameters_of rs) a) (first_site x (parameters_below h (parameters_of rs)) b))) l.0) i ∙ first_assoc (first_site x (parameters_of rs) a) (first_site x (parameters_below h (parameters_of rs)) b) l.0))

    before_second : (x : ℕ) → Before (parameters_of rs) sites (Node h a b) x → Before (parameters_below h (parameters_of rs)) (sites ++ (sites_here rs p h a ++ sites_from rs (first_place p h) a)) b x
    unfolding first_site
    before_second x (inl i) = inl (has_left x sites _ i)
    before_second x (inr l) = go (site_here x h a) (first_site x (parameters_of rs) a) refl refl
      where
        w : Parts σ h a b
        w = phrase_open σ h a b e

        go : (o : Option Sort) (q : Option Variable) → site_here x h a ≡ o → first_site x (parameters_of rs) a ≡ q → Before (parameters_below h (parameters_of rs)) (sites ++ (sites_here rs p h a ++ sites_from rs (first_place p h) a)) b x
        go (Some S) q i j = inl (has_right x sites _ (has_left x (sites_here rs p h a) (sites_from rs (first_place p h) a) (has_left x (named_here rs p h a) (channel_here rs p h a) (here_has σ rs p x h a b S e i))))
        go None (Some u) i j = inl (has_right x sites _ (has_right x (sites_here rs p h a) (sites_from rs (first_place p h) a) (tree_has w.0.0 rs (first_place p h) x (parameters_of rs) a u w.2 j)))
        go None None i j = inr (l.0, l.1 ∙ (λ k. first_of (first_of (at_parameters (parameters_of rs) (i k)) (first_of (j k) (first_site x (parameters_below h (parameters_of rs)) b))) l.0))

  -- each site of a tree stands under the replications of the first one
  pub sites_agree : (names : Names) (σ : Phrase) (s : Standing) (rs : List (ℕ × ℕ)) (t : Tree) → s.known.replications ≡ rs → is_phrase σ t ≡ true → IsScopedAt names s t → AllByRecursion Agrees s.sites → ((x : ℕ) → Before (parameters_of rs) s.sites t x) → AllByRecursion Agrees (sites_from rs s.place t)
  unfolding IsObeyed sites_from
  sites_agree names σ s rs Empty r e o A B = tt
  sites_agree names σ s rs (Node h a b) r e o A B =
      let w = phrase_open σ h a b e in
      let stand : MayStand s.passed s.sites (named_here rs s.place h a) = subst (λ qs. MayStand s.passed s.sites (named_here qs s.place h a)) r (o.0 TwoSites) in
      let named = agree s.passed s.sites (named_here rs s.place h a) A stand (here_fresh σ rs s.sites s.place h a b e (found rs s.sites h a b B)) in
      let here : AllByRecursion Agrees (sites_here rs s.place h a) = AllByRecursion_append Agrees (named_here rs s.place h a) (channel_here rs s.place h a) named (channels_agree rs s.place h a) in
      let same : sites_here s.known.replications s.place h a ≡ sites_here rs s.place h a = ap (λ qs. sites_here qs s.place h a) r in
      let first = sites_agree names w.0.0 (first_standing s h a) rs a (first_replications s.position h s.known ∙ r) w.2 o.1
      (subst (λ l. AllByRecursion Agrees (s.sites ++ l)) (sym same) (AllByRecursion_append Agrees s.sites (sites_here rs s.place h a) A here))
      (λ x. subst (λ l. Before (parameters_of rs) (s.sites ++ l) a x) (sym same) (before_first σ rs s.sites s.place h a b e x (B x))) in
      let both : (sites_here s.known.replications s.place h a ++ sites_from s.known.replications (first_place s.place h) a) ≡ (sites_here rs s.place h a ++ sites_from rs (first_place s.place h) a) = ap (λ qs. sites_here qs s.place h a ++ sites_from qs (first_place s.place h) a) r in
      let second = sites_agree names w.0.1 (second_standing s h a) (replications_below h rs) b (second_replications s.position h a s.known ∙ ap (replications_below h) r) w.3 o.2
      (subst (λ l. AllByRecursion Agrees (s.sites ++ l)) (sym both) (AllByRecursion_append Agrees s.sites _ A (AllByRecursion_append Agrees (sites_here rs s.place h a) (sites_from rs (first_place s.place h) a) here first)))
      (λ x. subst (λ l. Before (parameters_of (replications_below h rs)) (s.sites ++ l) b x) (sym both) (subst (λ ps. Before ps (s.sites ++ (sites_here rs s.place h a ++ sites_from rs (first_place s.place h) a)) b x) (sym (below_parameters h rs)) (before_second σ rs s.sites s.place h a b e x (B x)))) in
      AllByRecursion_append Agrees (sites_here rs s.place h a) _ here (AllByRecursion_append Agrees (sites_from rs (first_place s.place h) a) (sites_from (replications_below h rs) (second_place s.place h a) b) first second)
