-- The visits of a run to constructs of a kind are at most as many as these constructs have copies.
use Rattle.std.proofs.Common.{◌≡◌, ℕ, ◌+◌, ◌≤◌, ◌==◌, ◌&&◌, ◌||◌, Bool, true, false, cond, List, [], ◌∷◌, ◌++◌, length, map, Option, Some, refl, sym, ap, ap₂, subst, ◌∙◌, eqb-true, eq-eqb}
use Rattle.std.proofs.lemmas.Bool.{and_parts, both_ways}
use Rattle.std.proofs.lemmas.List.{length-append, length-map}
use Rattle.std.proofs.lemmas.Map.Made.{length-le_from_is_member}
use Rattle.std.specs.Cmp.{IsEquivalence}
use Rattle.std.specs.List.{AllByRecursion, IsDistinct, list_any}
use Rattle.cv_syntax_trees.specs.Declarations.{Declaration}
use Rattle.cv_syntax_trees.specs.declared.head.Head.{Head}
use Rattle.cv_syntax_trees.specs.Head.{weight}
use Rattle.cv_syntax_trees.specs.Tree.{Tree, Empty, Node, first_place, second_place}
use Rattle.cv_meaning.specs.Cells.{tuples_below}
use Rattle.cv_meaning.specs.Experiments.{coins_on, run, visits_of_run}
use Rattle.cv_meaning.specs.Interpretation.{Setting}
use Rattle.cv_meaning.specs.Memory.{Local, tuple}
use Rattle.cv_meaning.specs.Runs.{Adversary, Mode}
use Rattle.cv_meaning.specs.Serving.{Visit}
use Rattle.cv_meaning.specs.Tapes.{Tape}
use Rattle.cv_meaning_laws.proofs.Counts.{same_tuple_exact, same_tuple_refl}
use Rattle.cv_meaning_laws.proofs.Listed.{Has, has_left, has_map, has_right, within_has}
use Rattle.cv_meaning_laws.proofs.adequacy.Lists.{has_any}
use Rattle.cv_meaning_runs.specs.Placed.{IsPassedDown, VisitHas}
use Rattle.cv_meaning_runs.specs.Spots.{Spot, has_place, same_spot, spots_of_inputs, spots_of_visits}
use Rattle.cv_meaning_runs.proofs.Lists.{distinct_left}
use Rattle.cv_meaning_runs.proofs.Placed.{visits_have}
use Rattle.cv_meaning_runs.proofs.Spots.{spots_distinct}
use Rattle.cv_scope_rules.specs.Context.{Context, nothing_known, replications_below}
use Rattle.cv_scope_rules.specs.Phrases.{HasConstantsOf, Inputs, IsWellFormedContext, Phrase, is_oracle_phrase}
use Rattle.cv_scope_rules.proofs.Apart.{first_replications, second_replications}
use Rattle.cv_scope_runs.specs.Promises.{AreIndicesOf, HoldsFrom, PlaceHolds}
use Rattle.cv_scope_runs.proofs.FactsRuns.{all_places_hold}
use Rattle.cv_scope_runs.proofs.PathRuns.{grows_same}
use Rattle.cv_scope_runs.proofs.Rows.{position_of}
use Rattle.cv_scope_runs.proofs.Standing.{Stands, in_first, in_second, root, stands_known}
use Rattle.cv_scene.specs.Contexts.{parameters_of}
use Rattle.cv_rule_fresh.specs.collisions.Chances.{copies}
use Rattle.cv_rule_fresh.proofs.Listed.{bounds, indices_within, length_tuples}
use Rattle.cv_context_laws.proofs.calls.Found.{children_of}
use Rattle.cv_context_files.specs.counts.Counts.{has_kind, visits_of}
use Rattle.cv_context_files.proofs.counts.Copies.{AreAmongOracles, copies_at, copies_in, oracle_weight}

-- spots are equal exactly where they are the same

spot_refl : (s : Spot) → same_spot s s ≡ true
spot_refl s = ap₂ (λ b c. b && c) (eq-eqb s.place s.place refl) (same_tuple_refl s.tuple)

spot_exact : (s r : Spot) → same_spot s r ≡ true → s ≡ r
spot_exact s r e =
    let p = and_parts (s.place == r.place) _ e in
    λ i. record { place = eqb-true s.place r.place p.0 i; tuple = same_tuple_exact s.tuple r.tuple p.1 i }

spot_back : (s r : Spot) → same_spot s r ≡ same_spot r s
spot_back s r = go (same_spot s r) (same_spot r s) refl refl
  where
    go : (b c : Bool) → same_spot s r ≡ b → same_spot r s ≡ c → b ≡ c
    go true true e f = refl
    go true false e f = absurd (both_ways _ f (subst (λ q. same_spot r q ≡ true) (sym (spot_exact s r e)) (spot_refl r)))
    go false true e f = absurd (both_ways _ e (subst (λ q. same_spot s q ≡ true) (sym (spot_exact r s f)) (spot_refl s)))
    go false false e f = refl

spot_laws : IsEquivalence same_spot
spot_laws = record { refl = spot_refl; symm = spot_back; congr = λ x y z e. ap (λ q. same_spot q z) (spot_exact x y e) }

-- distinct spots that stand in a list are at most as many

members : (ys xs : List Spot) → AllByRecursion (Has ys) xs → (q : Spot) → list_any (same_spot q) xs ≡ true → list_any (same_spot q) ys ≡ true
members ys [] h q e = absurd (both_ways _ refl e)
members ys (x ∷ xs) h q e = go (same_spot q x) refl e (members ys xs h.1 q)
  where
    go : (b : Bool) → same_spot q x ≡ b → (b || list_any (same_spot q) xs) ≡ true → (list_any (same_spot q) xs ≡ true → list_any (same_spot q) ys ≡ true) → list_any (same_spot q) ys ≡ true
    go true f e k = has_any (same_spot q) ys x h.0 f
    go false f e k = k e

few : (xs ys : List Spot) → IsDistinct same_spot xs → AllByRecursion (Has ys) xs → length xs ≤ length ys
few xs ys d h = length-le_from_is_member spot_laws xs ys d (members ys xs h)

abbrev spot : ℕ → List ℕ → Spot
spot p u = record { place = p; tuple = u }

abbrev spot_of : Visit → Spot
spot_of v = spot v.place (tuple v.before.indices)

module _ (P : Head → Bool) (among : AreAmongOracles P) where
  abbrev spots : List Visit → List Spot
  spots vs = map spot_of (visits_of P vs)

  has_own : (t : Tree) → has_kind P t ≡ true → has_place t ≡ true
  has_own Empty e = absurd (both_ways _ refl e)
  has_own (Node h a b) e = eq-eqb (weight h) 1 (oracle_weight h (among h e))

  all_spots : (Q : Spot → Type 0) (vs : List Visit) → AllByRecursion Q (spots_of_visits vs) → AllByRecursion Q (spots vs)
  all_spots Q [] h = tt
  all_spots Q (v ∷ vs) h = go (has_kind P v.tree) (has_place v.tree) refl refl h (all_spots Q vs)
    where
      go : (b c : Bool) → has_kind P v.tree ≡ b → has_place v.tree ≡ c → AllByRecursion Q (cond c (spot_of v ∷ []) [] ++ spots_of_visits vs) → (AllByRecursion Q (spots_of_visits vs) → AllByRecursion Q (spots vs)) → AllByRecursion Q (map spot_of (cond b (v ∷ visits_of P vs) (visits_of P vs)))
      go true true e f h k = (h.0, k h.1)
      go true false e f h k = absurd (both_ways _ f (has_own v.tree e))
      go false true e f h k = k h.1
      go false false e f h k = k h

  distinct : (vs : List Visit) → IsDistinct same_spot (spots_of_visits vs) → IsDistinct same_spot (spots vs)
  unfolding IsDistinct
  distinct [] d = tt
  distinct (v ∷ vs) d = go (has_kind P v.tree) (has_place v.tree) refl refl d (distinct vs)
    where
      go : (b c : Bool) → has_kind P v.tree ≡ b → has_place v.tree ≡ c → IsDistinct same_spot (cond c (spot_of v ∷ []) [] ++ spots_of_visits vs) → (IsDistinct same_spot (spots_of_visits vs) → IsDistinct same_spot (spots vs)) → IsDistinct same_spot (map spot_of (cond b (v ∷ visits_of P vs) (visits_of P vs)))
      go true true e f d k = (all_spots (λ r. same_spot (spot_of v) r ≡ false) vs d.0, k d.1)
      go true false e f d k = absurd (both_ways _ f (has_own v.tree e))
      go false true e f d k = k d.1
      go false false e f d k = k d

  -- each of them is a copy of such a construct in the game

  module _ (g : Setting) where
    abbrev spots_at : List (ℕ × ℕ) → (place : ℕ) → Head → List Spot
    spots_at rs p h = cond (P h) (map (spot p) (tuples_below (bounds g rs))) []

    abbrev spots_in : List (ℕ × ℕ) → (place : ℕ) → Tree → List Spot
    spots_in rs p Empty = []
    spots_in rs p (Node h a b) = spots_at rs p h ++ (spots_in rs (first_place p h) a ++ spots_in (replications_below h rs) (second_place p h a) b)

    many_at : (rs : List (ℕ × ℕ)) (p : ℕ) (h : Head) → length (spots_at rs p h) ≡ copies_at g.interpretation P rs h
    many_at rs p h = go (P h)
      where
        go : (b : Bool) → length (cond b (map (spot p) (tuples_below (bounds g rs))) []) ≡ cond b (copies g.interpretation (parameters_of rs)) 0
        go true = length-map (tuples_below (bounds g rs)) (spot p) ∙ length_tuples g.interpretation rs
        go false = refl

    many : (rs : List (ℕ × ℕ)) (p : ℕ) (t : Tree) → length (spots_in rs p t) ≡ copies_in g.interpretation P rs t
    many rs p Empty = refl
    many rs p (Node h a b) =
        length-append (spots_at rs p h) _
        ∙ ap₂ ◌+◌ (many_at rs p h) (length-append (spots_in rs (first_place p h) a) _ ∙ ap₂ ◌+◌ (many rs (first_place p h) a) (many (replications_below h rs) (second_place p h a) b))

    module _ (game : Tree) where
      covered : {p : ℕ} {σ : Phrase} {Γ : Context} {b : Tree} → Stands game p σ Γ b → (d : Spot) → Has (spots_in Γ.replications p b) d → Has (spots_in [] 0 game) d
      covered root d k = k
      covered (in_first {p = p} {σ = σ} {τ = τ} {ρ = ρ} {Γ = Γ} {h = h} {a = a} {b = b} e st) d k =
          covered st d (has_right (spots_at Γ.replications p h) _ d (has_left (spots_in Γ.replications (first_place p h) a) _ d
          (subst (λ rs. Has (spots_in rs (first_place p h) a) d) (first_replications (position_of σ) h Γ) k)))
      covered (in_second {p = p} {σ = σ} {τ = τ} {ρ = ρ} {Γ = Γ} {h = h} {a = a} {b = b} e st) d k =
          covered st d (has_right (spots_at Γ.replications p h) _ d (has_right (spots_in Γ.replications (first_place p h) a) _ d
          (subst (λ rs. Has (spots_in rs (second_place p h a) b) d) (second_replications (position_of σ) h a Γ) k)))

      own : (p : ℕ) (rs : List (ℕ × ℕ)) (h : Head) (u : List ℕ) → P h ≡ true → Has (tuples_below (bounds g rs)) u → Has (spots_at rs p h) (spot p u)
      own p rs h u e k = subst (λ b. Has (cond b (map (spot p) (tuples_below (bounds g rs))) []) (spot p u)) (sym e) (has_map (spot p) (tuples_below (bounds g rs)) u k)

      abbrev Here : ℕ → Tree → Type 0
      Here p t = (σ : Phrase) × (Γ : Context) × (Stands game p σ Γ t × (is_oracle_phrase σ t ≡ true))

      passed : IsPassedDown Here
      passed p h a b s =
          let c = children_of s.0 h a b s.2.1 in
          ((c.first, _, (in_first c.row s.2.0, c.in_first)), (c.second, _, (in_second c.row s.2.0, c.in_second)))

      one_known : (Γ Δ : Context) → ◌≡◌ {A = Option Context} (Some Γ) (Some Δ) → Γ ≡ Δ
      one_known Γ Δ e = cc

      at_node : (p : ℕ) (t : Tree) (s : Local) → Here p t → PlaceHolds g game (record { place = p; tree = t; before = s }) → has_kind P t ≡ true → Has (spots_in [] 0 game) (spot p (tuple s.indices))
      at_node p Empty s e k f = absurd (both_ways _ refl f)
      at_node p (Node h a b) s e k f =
          let i : weight h ≡ 1 = oracle_weight h (among h f) in
          let Γ = e.1 in
          let c = k i in
          let same : c.0 ≡ Γ = one_known c.0 Γ (sym c.1 ∙ stands_known game p e.0 Γ (Node h a b) i e.2.0) in
          let holds = subst (λ Δ. HoldsFrom g Δ s.indices s.memory) same c.2 in
          let inside : AreIndicesOf g s.indices Γ.replications = (holds s.memory (grows_same s.memory)).indices in
          covered e.2.0 (spot p (tuple s.indices)) (has_left (spots_at Γ.replications p h) _ _ (own p Γ.replications h (tuple s.indices) f (within_has (tuple s.indices) (bounds g Γ.replications) (indices_within g s.indices Γ.replications inside))))

      each : (vs : List Visit) → AllByRecursion (VisitHas Here) vs → AllByRecursion (PlaceHolds g game) vs → AllByRecursion (Has (spots_in [] 0 game)) (spots vs)
      each [] h k = tt
      each (v ∷ vs) h k = go (has_kind P v.tree) refl (each vs h.1 k.1)
        where
          go : (b : Bool) → has_kind P v.tree ≡ b → AllByRecursion (Has (spots_in [] 0 game)) (spots vs) → AllByRecursion (Has (spots_in [] 0 game)) (map spot_of (cond b (v ∷ visits_of P vs) (visits_of P vs)))
          go true e more = (at_node v.place v.tree v.before h.0 k.0 e, more)
          go false e more = more

      pub few_visits : (ds : List Declaration) (m : Mode) (a : Adversary) (t : Tape) → HasConstantsOf ds g → IsWellFormedContext ds game → length (visits_of P (visits_of_run g m a game t)) ≤ copies_in g.interpretation P [] game
      unfolding visits_of_run
      few_visits ds m a t e w =
          let vs = visits_of_run g m a game t in
          let apart = distinct_left same_spot (spots_of_visits vs) (spots_of_inputs (run g m a game t).inputs) (spots_distinct g m a game t) in
          let places = all_places_hold ds g m (a.next (coins_on t 0 a.coins)) t a.moves game e w in
          let here = visits_have Here g m a game t passed (Inputs, nothing_known, (root, w.phrase)) in
          let most = few (spots vs) (spots_in [] 0 game) (distinct vs apart) (each vs here places) in
          subst (λ n. n ≤ copies_in g.interpretation P [] game) (length-map (visits_of P vs) spot_of) (subst (λ n. length (spots vs) ≤ n) (many [] 0 game) most)
