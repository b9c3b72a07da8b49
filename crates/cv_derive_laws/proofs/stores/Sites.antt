-- What stands behind definitions holds in the store of a candidate.
use Rattle.std.proofs.Common.{◌≡◌, ℕ, ◌+◌, ◌-◌, true, cond, ◌==◌, List, [], ◌∷◌, ◌++◌, ◌⊎◌, inl, inr, Option, Some, None, refl, sym, ap, subst, ◌∙◌}
use Rattle.std.specs.List.{AllByRecursion}
use Rattle.cv_syntax_trees.specs.declared.head.Head.{Head}
use Rattle.cv_syntax_trees.specs.declared.head.Head.TheVariants.{Binder, Branch, Cons, Find}
use Rattle.cv_syntax_trees.specs.Tree.{Tree, Empty, Node, subtree, first_place, second_place}
use Rattle.cv_meaning.specs.Interpretation.{Setting}
use Rattle.cv_meaning.specs.Binders.{bound_to}
use Rattle.cv_meaning.specs.Memory.{Memory, Indices, Local, Store, put, tuple}
use Rattle.cv_meaning.specs.Candidates.{is_candidate}
use Rattle.cv_meaning.specs.Serving.{Visit}
use Rattle.cv_meaning_runs.specs.Placed.{VisitHas, IsSubtreeOrList}
use Rattle.cv_scope_rules.specs.declared.position.Position.{Position}
use Rattle.cv_scope_rules.specs.declared.position.Position.TheVariants as position
use Rattle.cv_scope_rules.specs.Context.{Context, nothing_known, first_position, second_position}
use Rattle.cv_scope_rules.specs.Sites.{Variable}
use Rattle.cv_scope_rules.specs.Made.{is_bound, is_own_of, made_by, OwnUnassigned}
use Rattle.cv_scope_runs.specs.Promises.{GrowsTo, IsDefinition}
use Rattle.cv_scope_runs.specs.Reads.{IsKept}
use Rattle.cv_scope_runs.proofs.Contexts.{put_other}
use Rattle.cv_scope_runs.proofs.FreshRuns.{bound_made}
use Rattle.cv_path.specs.declared.place.Lies.{Lies}
use Rattle.cv_path.specs.declared.place.Lies.TheVariants.{Here, Within, Behind}
use Rattle.cv_path.specs.Places.{LiesAt}
use Rattle.cv_path.proofs.Bounds.{lies_somewhere}
use Rattle.cv_path.proofs.Going.{choice_here, choice_within, choice_behind, less_within, less_behind, subtree_here, subtree_within, subtree_behind}
use Rattle.cv_scope_rules.specs.Above.{first_standing, second_standing, standing_at}
use Rattle.cv_scope_rules.specs.Behind.{behind_site, sites_in, sites_of}
use Rattle.cv_derive_facts.specs.Promises.{BranchStands, BranchesStand, CandidatesStand, SitesStand, StandsIn, VisitSitesStand}
use Rattle.cv_syntax_trees.specs.Head.{weight}
use Rattle.cv_syntax_trees.specs.Tree.{size}
use Rattle.cv_derive_laws.specs.stores.Reached.{BranchSitesStand, CandidateSitesStand, SitesStandNow}
use Rattle.cv_scope_runs.proofs.Standing.{more_right, more_left}
use Rattle.std.proofs.lemmas.Bool.{or_left, or_right}

-- the store with the values of binders keeps the cells that they don't assign

pub bound_other : (m : Store) (u : List ℕ) (bs : Tree) (vs : List ℕ) (y : ℕ) (w : List ℕ) → (is_bound bs y ≡ true → w ≡ u → ⊥) → bound_to m u bs vs y w ≡ m y w
unfolding bound_to is_bound
bound_other m u (Node (Binder x T) a b) (v ∷ vs) y w h =
    bound_other (put m x u v) u b vs y w (λ i j. h (or_right (y == x) _ i) j) ∙ put_other m x u v y w (λ i j. h (or_left (y == x) _ i) j)
bound_other m u _ _ y w h = refl

pub bound_keeps : (m : Store) (u : List ℕ) (bs : Tree) (vs : List ℕ) → ((y : ℕ) → is_bound bs y ≡ true → m y u ≡ None) → IsKept m (bound_to m u bs vs)
bound_keeps m u bs vs free y w z e = bound_other m u bs vs y w (λ i j. clash (sym e ∙ (ap (m y) j ∙ free y i))) ∙ e
  where
    clash : Some z ≡ None → ⊥
    clash k = cc

-- the definitions of a tree are among those of a game in which it stands

module _ (x : ℕ) where
  own_site : (w : Position) (Γ : Context) (p : ℕ) (h : Head) (a b : Tree) → made_by h a (Variable x) ≡ true → IsDefinition (p, behind_site h a b Γ) (sites_in x w Γ p (Node h a b))
  unfolding sites_in
  own_site w Γ p h a b e = more_left (p, behind_site h a b Γ) (cond (made_by h a (Variable x)) ((p, behind_site h a b Γ) ∷ []) []) _ (subst (λ c. IsDefinition (p, behind_site h a b Γ) (cond c ((p, behind_site h a b Γ) ∷ []) [])) (sym e) (inl refl))

  first_site : (w : Position) (Γ : Context) (p : ℕ) (h : Head) (a b : Tree) (d : ℕ × Context) → IsDefinition d (sites_in x (first_position w h) (first_standing w h Γ) (first_place p h) a) → IsDefinition d (sites_in x w Γ p (Node h a b))
  unfolding sites_in
  first_site w Γ p h a b d i = more_right d (cond (made_by h a (Variable x)) ((p, behind_site h a b Γ) ∷ []) []) _ (more_left d (sites_in x (first_position w h) (first_standing w h Γ) (first_place p h) a) _ i)

  second_site : (w : Position) (Γ : Context) (p : ℕ) (h : Head) (a b : Tree) (d : ℕ × Context) → IsDefinition d (sites_in x (second_position w h) (second_standing w h a Γ) (second_place p h a) b) → IsDefinition d (sites_in x w Γ p (Node h a b))
  unfolding sites_in
  second_site w Γ p h a b d i =
      more_right d (cond (made_by h a (Variable x)) ((p, behind_site h a b Γ) ∷ []) []) _ (more_right d (sites_in x (first_position w h) (first_standing w h Γ) (first_place p h) a) _ i)

  -- what stands at a place of the tree, and where
  record IsPart (w : Position) (Γ : Context) (p : ℕ) (t b : Tree) (Δ : Context) : Type 0 where
    position : Position
    place : ℕ
    among : (d : ℕ × Context) → IsDefinition d (sites_in x position Δ place b) → IsDefinition d (sites_in x w Γ p t)

  some_same : {A : Type 0} (a b : A) → ◌≡◌ {A = Option A} (Some a) (Some b) → a ≡ b
  some_same a b e = cc

  no_some : {A : Type 0} (a : A) → ◌≡◌ {A = Option A} None (Some a) → ⊥
  no_some a e = cc

  part_stands : (t : Tree) (w : Position) (Γ : Context) (p q : ℕ) (b : Tree) (Δ : Context) → subtree t q ≡ Some b → standing_at w Γ t q ≡ Some Δ → IsPart w Γ p t b Δ
  unfolding subtree standing_at
  part_stands Empty w Γ p q b Δ e f = absurd (no_some b e)
  part_stands (Node h a c) w Γ p q b Δ e f = go (lies_somewhere h a q)
      (λ r i j. part_stands a (first_position w h) (first_standing w h Γ) (first_place p h) r b Δ i j)
      (λ r i j. part_stands c (second_position w h) (second_standing w h a Γ) (second_place p h a) r b Δ i j)
    where
      into_first : IsPart (first_position w h) (first_standing w h Γ) (first_place p h) a b Δ → IsPart w Γ p (Node h a c) b Δ
      into_first r = record { position = r.position; place = r.place; among = λ d i. first_site w Γ p h a c d (r.among d i) }

      into_second : IsPart (second_position w h) (second_standing w h a Γ) (second_place p h a) c b Δ → IsPart w Γ p (Node h a c) b Δ
      into_second r = record { position = r.position; place = r.place; among = λ d i. second_site w Γ p h a c d (r.among d i) }

      here : Node h a c ≡ b → Γ ≡ Δ → IsPart w Γ p (Node h a c) b Δ
      here i j = record { position = w; place = p; among = λ d k. subst (λ (z : Tree × Context). IsDefinition d (sites_in x w z.1 p z.0)) (λ l. (sym i l, sym j l)) k }

      go : (l : Lies) × LiesAt h a q l → ((r : ℕ) → subtree a r ≡ Some b → standing_at (first_position w h) (first_standing w h Γ) a r ≡ Some Δ → IsPart (first_position w h) (first_standing w h Γ) (first_place p h) a b Δ)
          → ((r : ℕ) → subtree c r ≡ Some b → standing_at (second_position w h) (second_standing w h a Γ) c r ≡ Some Δ → IsPart (second_position w h) (second_standing w h a Γ) (second_place p h a) c b Δ) → IsPart w Γ p (Node h a c) b Δ
      go (Here, l) i j =
          here (some_same (Node h a c) b (sym (subtree_here (Node h a c) h a c q 0 refl l) ∙ e))
          (some_same Γ Δ (sym (choice_here h a q (Some Γ) (standing_at (first_position w h) (first_standing w h Γ) a (q - weight h)) (standing_at (second_position w h) (second_standing w h a Γ) c (q - (weight h + size a))) l) ∙ f))
      go (Within r, l) i j =
          into_first (i r (sym (subtree_within (Node h a c) h a c q r refl l) ∙ e)
          (sym (choice_within h a q (Some Γ) (standing_at (first_position w h) (first_standing w h Γ) a (q - weight h)) (standing_at (second_position w h) (second_standing w h a Γ) c (q - (weight h + size a))) r l
          ∙ ap (standing_at (first_position w h) (first_standing w h Γ) a) (less_within h a q r l)) ∙ f))
      go (Behind r, l) i j =
          into_second (j r (sym (subtree_behind (Node h a c) h a c q r refl l) ∙ e)
          (sym (choice_behind h a q (Some Γ) (standing_at (first_position w h) (first_standing w h Γ) a (q - weight h)) (standing_at (second_position w h) (second_standing w h a Γ) c (q - (weight h + size a))) r l
          ∙ ap (standing_at (second_position w h) (second_standing w h a Γ) c) (less_behind h a q r l)) ∙ f))

-- the store of a candidate

module _ (g : Setting) (game : Tree) (at : Indices) (x : Memory) (sites : SitesStand g game x) where
  abbrev with_values : Tree → List ℕ → Memory
  with_values us u = record x { store = bound_to x.store (tuple at) us u }

  -- behind the branch's own indices stands what holds in its body
  behind_stands : (Γ : Context) (us rest : Tree) (u : List ℕ) → BranchStands g Γ at x (bound_to x.store (tuple at) us u) us rest → is_candidate g at x.store (bound_to x.store (tuple at) us u) rest ≡ true → StandsIn g (behind_site Branch us rest Γ) at (with_values us u)
  behind_stands Γ us (Node h cells (Node k c body)) u s i = s.body i
  behind_stands Γ us (Node h cells Empty) u s i = s.list
  behind_stands Γ us Empty u s i = s.list

  only_site : (y p : ℕ) (Δ Θ : Context) (q : ℕ) → sites_of game y ≡ (p, Δ) ∷ [] → IsDefinition (q, Θ) (sites_of game y) → Θ ≡ Δ
  only_site y p Δ Θ q e i = go (subst (IsDefinition (q, Θ)) e i)
    where
      go : IsDefinition (q, Θ) ((p, Δ) ∷ []) → Θ ≡ Δ
      go (inl k) = ap (λ (d : ℕ × Context). d.1) k
      go (inr k) = absurd k

  branch_sites : (Γ : Context) (us rest : Tree) (u : List ℕ) → ((y : ℕ) → is_bound us y ≡ true → (q : ℕ) × IsDefinition (q, behind_site Branch us rest Γ) (sites_of game y)) → ((y : ℕ) → is_bound us y ≡ true → x.store y (tuple at) ≡ None)
      → BranchStands g Γ at x (bound_to x.store (tuple at) us u) us rest → is_candidate g at x.store (bound_to x.store (tuple at) us u) rest ≡ true → SitesStandNow g game (with_values us u)
  branch_sites Γ us rest u own free s i y p Δ e w v f = go (bound_made x.store (tuple at) us u y w v f)
    where
      n : Store
      n = bound_to x.store (tuple at) us u

      grown : GrowsTo x (with_values us u)
      grown = record { store = bound_keeps x.store (tuple at) us u free; events = λ d k. k }

      go : (x.store y w ≡ Some v) ⊎ ((is_bound us y ≡ true) × (w ≡ tuple at)) → (ix : Indices) × (tuple ix ≡ w) × StandsIn g Δ ix (with_values us u)
      go (inl k) = let r = sites y p Δ e w v k in (r.0, r.1, r.2 (with_values us u) grown)
      go (inr k) =
          let o = own y k.0 in
          (at, sym k.1, subst (λ Θ. StandsIn g Θ at (with_values us u)) (only_site y p Δ (behind_site Branch us rest Γ) o.0 e o.1) (behind_stands Γ us rest u s i))

  -- the definitions of a tree in which this stands, in a list of branches, are among the game's
  abbrev AreAmong : Context → Tree → Type 0
  AreAmong Γ t = (y : ℕ) → (p : ℕ) × ((d : ℕ × Context) → IsDefinition d (sites_in y position.Branches Γ p t) → IsDefinition d (sites_of game y))

  branches_sites : (Γ : Context) (t : Tree) → AreAmong Γ t → ((y : ℕ) → is_own_of t y ≡ true → x.store y (tuple at) ≡ None) → BranchesStand g Γ at x t → BranchSitesStand g game at x t
  branches_sites Γ (Node Cons (Node Branch us rest) more) among free s = (
    λ u f i. branch_sites Γ us rest u
        (λ y k. let r = among y in (first_place r.0 Cons, r.1 _ (first_site y position.Branches Γ r.0 Cons (Node Branch us rest) more _ (own_site y position.Anywhere Γ (first_place r.0 Cons) Branch us rest k))))
        (λ y k. free y (or_left (is_bound us y) _ k)) (s.0 u f) i,
    branches_sites Γ more
        (λ y. let r = among y in (second_place r.0 Cons (Node Branch us rest), λ d k. r.1 d (second_site y position.Branches Γ r.0 Cons (Node Branch us rest) more d k))) (λ y k. free y (or_right (is_bound us y) _ k)) s.1,
  )
  branches_sites Γ t among free s = tt

-- at each visit

record IsFine (g : Setting) (game : Tree) (v : Visit) : Type 0 where
  candidates : CandidatesStand g game v
  own : OwnUnassigned v
  sites : VisitSitesStand g game v
  tree : VisitHas (IsSubtreeOrList game) v

visit_sites : (g : Setting) (game : Tree) (v : Visit) → IsFine g game v → CandidateSitesStand g game v
visit_sites g game v f = go v.tree v.before f.candidates f.own f.tree f.sites
  where
    go : (t : Tree) (s : Local) → CandidatesStand g game (record { place = v.place; tree = t; before = s }) → OwnUnassigned (record { place = v.place; tree = t; before = s }) → IsSubtreeOrList game v.place t → SitesStand g game s.memory
        → CandidateSitesStand g game (record { place = v.place; tree = t; before = s })
    go (Node (Find l) a b) s c o i k =
        let r = c refl in
        branches_sites g game s.indices s.memory k r.0 a
        (λ y. let w = part_stands y game position.Anywhere nothing_known 0 v.place (Node (Find l) a b) r.0 (i refl) r.1 in
        (first_place w.place (Find l), λ d z. w.among d (first_site y w.position r.0 w.place (Find l) a b d z))) o r.3
    go t s c o i k = tt

pub all_visit_sites : (g : Setting) (game : Tree) (vs : List Visit) → AllByRecursion (CandidatesStand g game) vs → AllByRecursion OwnUnassigned vs → AllByRecursion (VisitSitesStand g game) vs → AllByRecursion (VisitHas (IsSubtreeOrList game)) vs
    → AllByRecursion (CandidateSitesStand g game) vs
all_visit_sites g game [] a b c d = tt
all_visit_sites g game (v ∷ vs) a b c d = (visit_sites g game v (record { candidates = a.0; own = b.0; sites = c.0; tree = d.0 }), all_visit_sites g game vs a.1 b.1 c.1 d.1)
