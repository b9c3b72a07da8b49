-- What stands above a place is known there.
use Rattle.std.proofs.Common.{◌≡◌, ℕ, ◌+◌, ◌-◌, true, List, [], ◌∷◌, ◌++◌, Option, Some, None, refl, sym, ap, subst, ◌∙◌}
use Rattle.std.specs.List.{AllByRecursion}
use Rattle.cv_syntax_trees.specs.declared.head.Head.{Head}
use Rattle.cv_syntax_trees.specs.declared.head.Head.TheVariants.{Repl, In, Event, New, Let, If, Find, Branch, Cons, Not, Eq, Key, Call}
use Rattle.cv_syntax_trees.specs.Head.{weight}
use Rattle.cv_syntax.specs.Layouts.{IsSyntax}
use Rattle.cv_syntax_trees.specs.Tree.{Tree, Empty, Node, first, second, size}
use Rattle.cv_meaning.specs.Interpretation.{Setting}
use Rattle.cv_meaning.specs.Binders.{bound_to}
use Rattle.cv_meaning.specs.Memory.{Memory, Indices, Local, Store, tuple}
use Rattle.cv_meaning.specs.Terms.{value}
use Rattle.cv_meaning.specs.Candidates.{is_assigned}
use Rattle.cv_meaning.specs.Serving.{Visit}
use Rattle.cv_meaning_runs.specs.Placed.{VisitHas}
use Rattle.cv_scope_rules.specs.declared.position.Position.{Position}
use Rattle.cv_scope_rules.specs.declared.position.Position.TheVariants.{Anywhere, Bodies, ElseBody, Guards, Guarded, Cells}
use Rattle.cv_scope_rules.specs.Context.{Context, cell_of, cells_of, context_at, first_context, first_position, items, known_at, nothing_known, second_context, second_position, with_cells, with_fact}
use Rattle.cv_scope_runs.specs.Promises.{AreIndicesOf, GrowsTo, BranchHolds, BranchesHold, CandidatesHold, ContextHolds, FindHolds, PlaceHolds}
use Rattle.cv_path.specs.declared.place.Lies.{Lies}
use Rattle.cv_path.specs.declared.place.Lies.TheVariants.{Here, Within, Behind}
use Rattle.cv_path.specs.Places.{LiesAt}
use Rattle.cv_path.proofs.Bounds.{lies_somewhere}
use Rattle.cv_path.proofs.Going.{choice_here, choice_within, choice_behind, less_within, less_behind}
use Rattle.cv_scope_rules.specs.Above.{with_held, with_failed, first_standing, second_standing, standing_at, stands_at}
use Rattle.cv_derive_facts.specs.Promises.{BranchStands, BranchesStand, CandidatesStand, FindPlaces, FindStands, OwnTermsStand, StandsIn, PlaceStands}
use Rattle.cv_derive_facts.proofs.Placing.{StandsSomewhere, somewhere_places}
use Rattle.cv_derive_facts.proofs.Standings.{standing_here, standing_within, standing_behind}

module _ {A : Type 0} (P : A → Type 0) where
  front : (xs ys : List A) → AllByRecursion P (xs ++ ys) → AllByRecursion P xs
  front [] ys a = tt
  front (x ∷ xs) ys a = (a.0, front xs ys a.1)

  back : (xs ys : List A) → AllByRecursion P (xs ++ ys) → AllByRecursion P ys
  back [] ys a = a
  back (x ∷ xs) ys a = back xs ys a.1

  both : (xs ys : List A) → AllByRecursion P xs → AllByRecursion P ys → AllByRecursion P (xs ++ ys)
  both [] ys a b = b
  both (x ∷ xs) ys a b = (a.0, both xs ys a.1 b)

module _ (w : Position) (Γ : Context) (h : Head) (a b : Tree) (p q : ℕ) where
  pub known_here : LiesAt h a p Here → context_at w Γ (Node h a b) p ≡ Some Γ
  unfolding context_at
  known_here l = choice_here h a p (Some Γ) (context_at (first_position w h) (first_context w h Γ) a (p - weight h)) (context_at (second_position w h) (second_context w h a Γ) b (p - (weight h + size a))) l

  pub known_within : LiesAt h a p (Within q) → context_at w Γ (Node h a b) p ≡ context_at (first_position w h) (first_context w h Γ) a q
  unfolding context_at
  known_within l =
      choice_within h a p (Some Γ) (context_at (first_position w h) (first_context w h Γ) a (p - weight h)) (context_at (second_position w h) (second_context w h a Γ) b (p - (weight h + size a))) q l
      ∙ ap (context_at (first_position w h) (first_context w h Γ) a) (less_within h a p q l)

  pub known_behind : LiesAt h a p (Behind q) → context_at w Γ (Node h a b) p ≡ context_at (second_position w h) (second_context w h a Γ) b q
  unfolding context_at
  known_behind l =
      choice_behind h a p (Some Γ) (context_at (first_position w h) (first_context w h Γ) a (p - weight h)) (context_at (second_position w h) (second_context w h a Γ) b (p - (weight h + size a))) q l
      ∙ ap (context_at (second_position w h) (second_context w h a Γ) b) (less_behind h a p q l)

pub known_empty : (w : Position) (Γ : Context) (p : ℕ) → context_at w Γ Empty p ≡ None
unfolding context_at
known_empty w Γ p = refl

module _ (P Q : Tree → Type 0) where
  -- what is true of what is known is true of what stands above
  pub record Covers (Γ Δ : Context) : Type 0 where
    pub replications : Δ.replications ≡ Γ.replications
    pub tested : Δ.tested ≡ Γ.tested
    pub cells : AllByRecursion Q Γ.cells → AllByRecursion Q Δ.cells
    pub own : AllByRecursion Q Γ.own → AllByRecursion Q Δ.own
    pub facts : AllByRecursion P Γ.facts → AllByRecursion P Δ.facts

  pub same_covers : (Γ : Context) → Covers Γ Γ
  same_covers Γ = record { replications = refl; tested = refl; cells = λ a. a; own = λ a. a; facts = λ a. a }

  more_cells : (Γ Δ : Context) (cs ds : List Tree) → ds ≡ cs → Covers Γ Δ → Covers (with_cells Γ cs) (with_cells Δ ds)
  more_cells Γ Δ cs ds e c = record {
    replications = c.replications;
    tested = c.tested;
    cells = λ a. both Q Δ.cells ds (c.cells (front Q Γ.cells cs a)) (subst (AllByRecursion Q) (sym e) (back Q Γ.cells cs a));
    own = c.own;
    facts = c.facts;
  }

  more_facts : (Γ Δ : Context) (f k : Tree) → k ≡ f → Covers Γ Δ → Covers (with_fact Γ f) (with_fact Δ k)
  more_facts Γ Δ f k e c = record {
    replications = c.replications;
    tested = c.tested;
    cells = c.cells;
    own = c.own;
    facts = λ a. both P Δ.facts (k ∷ []) (c.facts (front P Γ.facts (f ∷ []) a)) (subst (AllByRecursion P) (ap (λ t. t ∷ []) (sym e)) (back P Γ.facts (f ∷ []) a));
  }

  fewer_facts : (Γ Δ : Context) (f : Tree) → Covers Γ Δ → Covers (with_fact Γ f) Δ
  fewer_facts Γ Δ f c = record { replications = c.replications; tested = c.tested; cells = c.cells; own = c.own; facts = λ a. c.facts (front P Γ.facts (f ∷ []) a) }

  fewer_cells : (Γ Δ : Context) (cs : List Tree) → Covers Γ Δ → Covers (with_cells Γ cs) Δ
  fewer_cells Γ Δ cs c = record { replications = c.replications; tested = c.tested; cells = λ a. c.cells (front Q Γ.cells cs a); own = c.own; facts = c.facts }

  held : (Γ Δ : Context) (f k : Tree) → k ≡ f → Covers Γ Δ → Covers (with_fact Γ f) (with_held Δ k)
  held Γ Δ f Empty e c = fewer_facts Γ Δ f c
  held Γ Δ f (Node h a b) e c = more_facts Γ Δ f (Node h a b) e c

  failed : (Γ Δ : Context) (f k : Tree) → k ≡ f → Covers Γ Δ → Covers (with_fact Γ (Node Not f Empty)) (with_failed Δ k)
  failed Γ Δ f Empty e c = fewer_facts Γ Δ (Node Not f Empty) c
  failed Γ Δ f (Node h a b) e c = more_facts Γ Δ (Node Not f Empty) (Node Not (Node h a b) Empty) (ap (λ t. Node Not t Empty) e) c

  own_over : (Γ Δ : Context) → Covers Γ Δ → Covers (record Γ { cells = Γ.cells ++ Γ.own; own = [] }) (record Δ { cells = Δ.cells ++ Δ.own; own = [] })
  own_over Γ Δ c = record {
    replications = c.replications;
    tested = c.tested;
    cells = λ a. both Q Δ.cells Δ.own (c.cells (front Q Γ.cells Γ.own a)) (c.own (back Q Γ.cells Γ.own a));
    own = λ a. a;
    facts = c.facts;
  }

  pub first_covers : (w : Position) (h : Head) (Γ Δ : Context) → Covers Γ Δ → Covers (first_context w h Γ) (first_standing w h Δ)
  first_covers Bodies Cons Γ Δ c = held Γ Δ Γ.tested Δ.tested c.tested c
  first_covers ElseBody Cons Γ Δ c = failed Γ Δ Γ.tested Δ.tested c.tested c
  first_covers w Cons Γ Δ c = c
  first_covers w h Γ Δ c = c

  pub second_covers : (w : Position) (h : Head) (a : Tree) (Γ Δ : Context) → Covers Γ Δ → Covers (second_context w h a Γ) (second_standing w h a Δ)
  second_covers Guards Cons a Γ Δ c = more_cells Γ Δ (items a) (items a) refl c
  second_covers Guarded Cons a Γ Δ c = held (record Γ { cells = Γ.cells ++ Γ.own; own = [] }) (record Δ { cells = Δ.cells ++ Δ.own; own = [] }) a a refl (own_over Γ Δ c)
  second_covers Cells Cons a Γ Δ c = fewer_cells Γ Δ (a ∷ []) c
  second_covers w Cons a Γ Δ c = c
  second_covers w (Repl i n) a Γ Δ c = record { replications = ap (λ rs. rs ++ (i, n) ∷ []) c.replications; tested = c.tested; cells = c.cells; own = λ o. tt; facts = c.facts }
  second_covers w (In d) a Γ Δ c = more_cells Γ Δ (cells_of Γ.replications (second a)) (cells_of Δ.replications (second a)) (ap (λ rs. cells_of rs (second a)) c.replications) c
  second_covers w (New x T) a Γ Δ c = more_cells Γ Δ (cell_of Γ.replications x ∷ []) (cell_of Δ.replications x ∷ []) (ap (λ rs. cell_of rs x ∷ []) c.replications) c
  second_covers w (Let x T) a Γ Δ c =
      more_facts (with_cells Γ (cell_of Γ.replications x ∷ [])) (with_cells Δ (cell_of Δ.replications x ∷ [])) (Node Eq (cell_of Γ.replications x) a) (Node Eq (cell_of Δ.replications x) a) (ap (λ rs. Node Eq (cell_of rs x) a) c.replications)
      (more_cells Γ Δ (cell_of Γ.replications x ∷ []) (cell_of Δ.replications x ∷ []) (ap (λ rs. cell_of rs x ∷ []) c.replications) c)
  second_covers w (Key x) a Γ Δ c = more_cells Γ Δ (cell_of Γ.replications x ∷ []) (cell_of Δ.replications x ∷ []) (ap (λ rs. cell_of rs x ∷ []) c.replications) c
  second_covers w (Call x l) a Γ Δ c = more_cells Γ Δ (cell_of Γ.replications x ∷ []) (cell_of Δ.replications x ∷ []) (ap (λ rs. cell_of rs x ∷ []) c.replications) c
  second_covers w (Event e) a Γ Δ c = record { replications = c.replications; tested = c.tested; cells = c.cells; own = c.own; facts = c.facts }
  second_covers w If a Γ Δ c = record { replications = c.replications; tested = refl; cells = c.cells; own = c.own; facts = c.facts }
  second_covers w Branch a Γ Δ c = record { replications = c.replications; tested = c.tested; cells = c.cells; own = λ o. subst (AllByRecursion Q) (ap (λ rs. cells_of rs a) (sym c.replications)) (back Q Γ.own (cells_of Γ.replications a) o); facts = c.facts }
  second_covers w h a Γ Δ c = c

  abbrev Covered : Option Context → Option Context → Type 0
  Covered o u = (Γ : Context) → o ≡ Some Γ → (Δ : Context) × (u ≡ Some Δ) × Covers Γ Δ

  covers_at : (w : Position) (Γ Δ : Context) (t : Tree) (p : ℕ) → Covers Γ Δ → Covered (context_at w Γ t p) (standing_at w Δ t p)
  unfolding context_at
  covers_at w Γ Δ Empty p c = λ Θ e. absurd (clash Θ e)
    where
      clash : (Θ : Context) → None ≡ Some Θ → ⊥
      clash Θ x = cc
  covers_at w Γ Δ (Node h a b) p c =
      go (λ q. covers_at (first_position w h) (first_context w h Γ) (first_standing w h Δ) a q (first_covers w h Γ Δ c)) (λ q. covers_at (second_position w h) (second_context w h a Γ) (second_standing w h a Δ) b q (second_covers w h a Γ Δ c)) (lies_somewhere h a p)
    where
      go : ((q : ℕ) → Covered (context_at (first_position w h) (first_context w h Γ) a q) (standing_at (first_position w h) (first_standing w h Δ) a q)) → ((q : ℕ) → Covered (context_at (second_position w h) (second_context w h a Γ) b q) (standing_at (second_position w h) (second_standing w h a Δ) b q)) → (l : Lies) × LiesAt h a p l → Covered (context_at w Γ (Node h a b) p) (standing_at w Δ (Node h a b) p)
      go f g (Here, l) = λ Θ e. (Δ, standing_here w Δ (Node h a b) h a b p 0 refl l, subst (λ (x : Context). Covers x Δ) (let z = sym (known_here w Γ h a b p 0 l) ∙ e in cc) c)
      go f g (Within q, l) = λ Θ e. let r = f q Θ (sym (known_within w Γ h a b p q l) ∙ e) in (r.0, standing_within w Δ (Node h a b) h a b p q refl l ∙ r.1, r.2)
      go f g (Behind q, l) = λ Θ e. let r = g q Θ (sym (known_behind w Γ h a b p q l) ∙ e) in (r.0, standing_behind w Δ (Node h a b) h a b p q refl l ∙ r.1, r.2)

pub stands_in : (g : Setting) (Γ Δ : Context) (at : Indices) (y : Memory) → Covers (λ f. value g at y.store f ≡ 1) (λ c. is_assigned g at y.store y.store c ≡ true) Γ Δ → ContextHolds g Γ at y → StandsIn g Δ at y
stands_in g Γ Δ at y c h = record { indices = subst (AreIndicesOf g at) (sym c.replications) h.indices; cells = c.cells h.cells; facts = c.facts h.facts }

-- what is known at a visited place holds, so what stands above it does
place_stands : (g : Setting) (game : Tree) (v : Visit) → VisitHas (StandsSomewhere game) v → PlaceHolds g game v → PlaceStands g game v
place_stands g game v somewhere holds = λ s. stands s (holds s)
  where
    at : Indices
    at = v.before.indices

    stands : IsSyntax v.tree → (Γ : Context) × (known_at game v.place ≡ Some Γ) × ((y : Memory) → GrowsTo v.before.memory y → ContextHolds g Γ at y)
        → (Δ : Context) × (stands_at game v.place ≡ Some Δ) × OwnTermsStand game Δ v.place v.tree × ((y : Memory) → GrowsTo v.before.memory y → StandsIn g Δ at y)
    stands s k =
        let first = covers_at (λ f. Unit {0}) (λ c. Unit {0}) Anywhere nothing_known nothing_known game v.place (same_covers (λ f. Unit {0}) (λ c. Unit {0}) nothing_known) k.0 k.1 in (
          first.0,
          first.1,
          (somewhere_places game v.place v.tree first.0 s somewhere first.1).0,
          λ y grown.
              let P = λ (f : Tree). value g at y.store f ≡ 1 in
              let Q = λ (c : Tree). is_assigned g at y.store y.store c ≡ true in
              let r = covers_at P Q Anywhere nothing_known nothing_known game v.place (same_covers P Q nothing_known) k.0 k.1 in
              let same : r.0 ≡ first.0 = let z = sym r.1 ∙ first.1 in cc in
              subst (λ (Δ : Context). StandsIn g Δ at y) same (stands_in g k.0 r.0 at y r.2 (k.2 y grown)),
        )

pub places_stand : (g : Setting) (game : Tree) (vs : List Visit) → AllByRecursion (VisitHas (StandsSomewhere game)) vs → AllByRecursion (PlaceHolds g game) vs → AllByRecursion (PlaceStands g game) vs
places_stand g game [] s a = tt
places_stand g game (v ∷ vs) s a = (place_stands g game v s.0 a.0, places_stand g game vs s.1 a.1)

-- what is known in the branches of a visited `find` holds, so what stands there does

module _ (g : Setting) (game : Tree) (p : ℕ) (Γ Δ : Context) (known : known_at game p ≡ Some Γ) (stands : stands_at game p ≡ Some Δ) where
  covered : (P Q : Tree → Type 0) → Covers P Q Γ Δ
  covered P Q =
      let r = covers_at P Q Anywhere nothing_known nothing_known game p (same_covers P Q nothing_known) Γ known in
      let same : r.0 ≡ Δ = let z = sym r.1 ∙ stands in cc in
      subst (Covers P Q Γ) same r.2

  branch_stands : (at : Indices) (x : Memory) (n : Store) (u : List ℕ) (us rest : Tree) → BranchHolds g Γ at x n u us rest → BranchStands g Δ at x n us rest
  branch_stands at x n u us rest h =
      let P = λ (f : Tree). value g at n f ≡ 1 in
      let Q = λ (c : Tree). is_assigned g at n n c ≡ true in
      let y = with_store x n in
      let l = second_covers P Q Anywhere Branch us Γ Δ (covered P Q) in
      let c = second_covers P Q Guards Cons (first rest) (second_context Anywhere Branch us Γ) (second_standing Anywhere Branch us Δ) l in
      let b = second_covers P Q Guarded Cons (first (second rest)) (second_context Guards Cons (first rest) (second_context Anywhere Branch us Γ)) (second_standing Guards Cons (first rest) (second_standing Anywhere Branch us Δ)) c in
      record {
        list = stands_in g (second_context Anywhere Branch us Γ) (second_standing Anywhere Branch us Δ) at y l h.list;
        condition = λ a. stands_in g _ _ at y c (h.condition a);
        body = λ a. stands_in g _ _ at y b (h.body a);
      }
    where
      with_store : Memory → Store → Memory
      with_store x n = record x { store = n }

  branches_stand : (at : Indices) (x : Memory) (t : Tree) → BranchesHold g Γ at x t → BranchesStand g Δ at x t
  branches_stand at x Empty h = tt
  branches_stand at x (Node k branch more) h = ((λ u f. branch_stands at x (bound_to x.store (tuple at) (first branch) u) u (first branch) (second branch) (h.0 u f)), branches_stand at x more h.1)

  find_stands : (s : Local) (t : Tree) → FindHolds g Γ s t → FindStands g Δ s t
  find_stands s Empty h = tt
  find_stands s (Node (Find l) a b) h = branches_stand s.indices s.memory a h
  find_stands s (Node k a b) h = tt

candidates_stand : (g : Setting) (game : Tree) (v : Visit) → VisitHas (StandsSomewhere game) v → PlaceHolds g game v → CandidatesHold g game v → CandidatesStand g game v
candidates_stand g game v somewhere place holds = λ s. stands s (place s)
  where
    stands : IsSyntax v.tree → (Γ : Context) × (known_at game v.place ≡ Some Γ) × ((y : Memory) → GrowsTo v.before.memory y → ContextHolds g Γ v.before.indices y)
        → (Δ : Context) × (stands_at game v.place ≡ Some Δ) × FindPlaces game Δ v.place v.tree × FindStands g Δ v.before v.tree
    stands s k =
        let first = covers_at (λ f. Unit {0}) (λ c. Unit {0}) Anywhere nothing_known nothing_known game v.place (same_covers (λ f. Unit {0}) (λ c. Unit {0}) nothing_known) k.0 k.1 in
        (first.0, first.1, (somewhere_places game v.place v.tree first.0 s somewhere first.1).1, find_stands g game v.place k.0 first.0 k.1 first.1 v.before v.tree (holds k.0 k.1))

pub all_candidates_stand : (g : Setting) (game : Tree) (vs : List Visit) → AllByRecursion (VisitHas (StandsSomewhere game)) vs → AllByRecursion (PlaceHolds g game) vs → AllByRecursion (CandidatesHold g game) vs → AllByRecursion (CandidatesStand g game) vs
all_candidates_stand g game [] s a b = tt
all_candidates_stand g game (v ∷ vs) s a b = (candidates_stand g game v s.0 a.0 b.0, all_candidates_stand g game vs s.1 a.1 b.1)
