-- Visits at one copy lie in one body of an `if` or a `find`.
use Rattle.std.proofs.Common.{◌≡◌, ℕ, suc, ◌<◌, ◌≤◌, true, List, [], ◌∷◌, length, take, Some, refl, sym, ap, subst, ◌∙◌, arith}
use Rattle.std.specs.Prelude.{slice_get}
use Rattle.std.proofs.lemmas.List.{map-append, take-append-le, take_all}
use Rattle.std.specs.List.{AllByRecursion}
use Rattle.cv_syntax_trees.specs.declared.head.Head.{Head}
use Rattle.cv_syntax_trees.specs.declared.head.Head.TheVariants.{Find, If}
use Rattle.cv_syntax_trees.specs.Declarations.{Declaration}
use Rattle.cv_syntax_trees.specs.Head.{weight}
use Rattle.cv_syntax.specs.Layouts.{IsSyntax}
use Rattle.cv_syntax_trees.specs.Tree.{Tree, Node, subtree}
use Rattle.cv_meaning.specs.Tapes.{Tape}
use Rattle.cv_meaning.specs.Interpretation.{Setting}
use Rattle.cv_meaning.specs.Memory.{Indices, tuple}
use Rattle.cv_meaning.specs.Runs.{Adversary, Mode}
use Rattle.cv_meaning.specs.Serving.{Visit}
use Rattle.cv_meaning.specs.Experiments.{coins_on, visits_of_run}
use Rattle.cv_meaning_laws.specs.adequacy.Broken.{StandsAt}
use Rattle.cv_meaning_runs.specs.Spots.{has_place}
use Rattle.cv_scope_rules.specs.Context.{Context, known_at}
use Rattle.cv_scope_rules.specs.Phrases.{HasConstantsOf, IsWellFormedContext}
use Rattle.cv_scope_runs.specs.Promises.{AreIndicesOf, PlaceHolds}
use Rattle.cv_scope_runs.proofs.FactsRuns.{all_places_hold}
use Rattle.cv_scope_runs.proofs.PathRuns.{grows_same}
use Rattle.cv_syntax_trees.proofs.lists.Options.{AllByRecursion_slice_get, some_injective}
use Rattle.cv_query_laws.specs.visits.Bodies.{LiesInBody, body_taken}
use Rattle.cv_query_laws.specs.visits.Visited.{IsFront, HasVisitAbove, head_is_visited}
use Rattle.cv_query_laws.proofs.visits.Above.{body_bounds, was_visited}
use Rattle.cv_query_laws.proofs.visits.Positions.{apart, one_position}

-- indices are as many as the replications
copies_long : (g : Setting) (at : Indices) (rs : List (ℕ × ℕ)) → AreIndicesOf g at rs → length (tuple at) ≡ length rs
copies_long g [] [] h = refl
copies_long g [] (r ∷ rs) h = absurd h
copies_long g (p ∷ at) [] h = absurd h
copies_long g (p ∷ at) (r ∷ rs) h = ap suc (copies_long g at rs h.2)

pub front_take : (n : ℕ) (u w : List ℕ) → IsFront u w → length u ≡ n → take n w ≡ u
front_take n u w f e = ap (take n) f.1 ∙ take-append-le n u f.0 (let l : n ≤ length u = omega arith in l) ∙ take_all n u (let l : length u ≤ n = omega arith in l)

pub tuple_front : (at more : Indices) → IsFront at more → IsFront (tuple at) (tuple more)
tuple_front at more f = (tuple f.0, ap tuple f.1 ∙ map-append (λ (p : ℕ × ℕ). p.1) at f.0)

module _ (ds : List Declaration) (g : Setting) (m : Mode) (a : Adversary) (game : Tree) (t : Tape) (constants : HasConstantsOf ds g) (well : IsWellFormedContext ds game) where
  abbrev vs : List Visit
  vs = visits_of_run g m a game t

  places : AllByRecursion (PlaceHolds g game) vs
  unfolding visits_of_run
  places = all_places_hold ds g m (a.next (coins_on t 0 a.coins)) t a.moves game constants well

  -- a visit's indices are those of the replications above its node
  pub visit_long : (n : ℕ) (v : Visit) → StandsAt vs n v → IsSyntax v.tree → (Γ : Context) → known_at game v.place ≡ Some Γ → length (tuple v.before.indices) ≡ length Γ.replications
  visit_long n v k s Γ e =
      let h = AllByRecursion_slice_get (PlaceHolds g game) vs places n v k s in
      let same : h.0 ≡ Γ = some_injective (sym h.1 ∙ e) in
      copies_long g v.before.indices h.0.replications (h.2 v.before.memory (grows_same v.before.memory)).indices ∙ ap (λ (Δ : Context). length Δ.replications) same

  -- the visit of a node above a visit is at its first indices
  pub first_indices : (p : ℕ) (h : Head) (x y : Tree) (q : ℕ) (at : Indices) (Γ : Context) → weight h ≡ 1 → known_at game p ≡ Some Γ → (z : HasVisitAbove g t vs p (Node h x y) q at) → take (length Γ.replications) (tuple at) ≡ tuple z.visit.before.indices
  first_indices p h x y q at Γ w e z =
      front_take (length Γ.replications) (tuple z.visit.before.indices) (tuple at) (tuple_front z.visit.before.indices at z.front) (visit_long z.number z.visit z.stands (subst IsSyntax (sym z.same) w) Γ (ap (known_at game) z.there ∙ e))

  module _ (i j : ℕ) (v w : Visit) (at_i : StandsAt vs i v) (at_j : StandsAt vs j w) (s : IsSyntax v.tree) (r : IsSyntax w.tree) (p : ℕ) (node : Tree) (Γ : Context) (stands : subtree game p ≡ Some node) (known : known_at game p ≡ Some Γ)
      (same : take (length Γ.replications) (tuple v.before.indices) ≡ take (length Γ.replications) (tuple w.before.indices)) (k l : ℕ) where
    one : (h : Head) (x y : Tree) → node ≡ Node h x y → weight h ≡ 1 → head_is_visited h ≡ true → has_place (Node h x y) ≡ true → LiesInBody (Node h x y) p k v.place → LiesInBody (Node h x y) p l w.place → k ≡ l
    one h x y e n o b c d =
        let f = body_bounds (Node h x y) p k v.place c in
        let f0 : p < v.place = f.0 in
        let f1 = body_bounds (Node h x y) p l w.place d in
        let f2 : p < w.place = f1.0 in
        let there = stands ∙ ap Some e in
        let z = was_visited g m a game t i v at_i s p h x y there n o (let g0 : p ≤ v.place = omega arith in g0) f.1 in
        let q = was_visited g m a game t j w at_j r p h x y there n o (let g0 : p ≤ w.place = omega arith in g0) f1.1 in
        let copy = sym (first_indices p h x y v.place v.before.indices Γ n known z) ∙ same ∙ first_indices p h x y w.place w.before.indices Γ n known q in
        let number = one_position vs (apart g m a game t) z.number q.number z.visit q.visit z.stands q.stands (ap has_place z.same ∙ b) (ap has_place q.same ∙ b) (z.there ∙ sym q.there) copy in
        let visit : z.visit ≡ q.visit = some_injective (sym z.stands ∙ ap (slice_get vs) number ∙ q.stands) in
        some_injective (sym (z.body k c) ∙ ap (body_taken g t) visit ∙ q.body l d)

    pub one_body : LiesInBody node p k v.place → LiesInBody node p l w.place → k ≡ l
    one_body = go node refl
      where
        go : (b : Tree) → node ≡ b → LiesInBody b p k v.place → LiesInBody b p l w.place → k ≡ l
        go (Node If x y) e c d = one If x y e refl refl refl c d
        go (Node (Find o) x y) e c d = one (Find o) x y e refl refl refl c d
        go b e c d = absurd c
