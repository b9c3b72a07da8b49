-- How often a guess is right: at most once in as many tapes as the type has values, for each copy.
use Rattle.std.proofs.Common.{◌≡◌, ℕ, suc, ◌+◌, ◌*◌, ◌==◌, ◌||◌, not, Bool, true, false, cond, List, [], ◌∷◌, ◌++◌, flat_map, length, map, Contains, Option, Some, None, refl, sym, ap, ap₂, subst, ◌∙◌, arith, eqb-true, eq-eqb, nat_lt, ltb-true}
use Rattle.std.proofs.lemmas.Bool.{both_ways, and_parts, or_left, or_right}
use Rattle.std.proofs.lemmas.List.{length-append, length-map}
use Rattle.std.proofs.lemmas.List.Elements.{All-from_recursion}
use Rattle.std.proofs.lemmas.List.Sums.{sum_by-cons}
use Rattle.std.specs.List.{AllByRecursion, list_any}
use Rattle.std.specs.Prelude.{sum_by}
use Rattle.cv_syntax_trees.specs.declared.head.Head.TheVariants.{Binder, Read}
use Rattle.cv_syntax_trees.specs.Tree.{Tree, Empty, Node, first}
use Rattle.cv_meaning.specs.Binders.{bound_to, fits}
use Rattle.cv_meaning.specs.Cells.{tuples_below}
use Rattle.cv_meaning.specs.Chances.{AtMost, chance}
use Rattle.cv_meaning.specs.Experiments.{visits_of_run}
use Rattle.cv_meaning.specs.Interpretation.{Interpretation, Setting}
use Rattle.cv_meaning.specs.Memory.{Indices, Store, put, tuple}
use Rattle.cv_meaning.specs.Runs.{Adversary, Mode}
use Rattle.cv_meaning.specs.Serving.{Visit}
use Rattle.cv_meaning.specs.Tapes.{Cell, Coin, New_at, Tape, blank, is_in, same_cell, written}
use Rattle.cv_meaning.specs.Terms.{value}
use Rattle.cv_meaning_laws.proofs.Counts.{count_true, same_cell_exact, same_cell_refl}
use Rattle.cv_meaning_laws.proofs.Listed.{Within}
use Rattle.cv_meaning_laws.proofs.adequacy.Lists.{has_below}
use Rattle.cv_meaning_chances.specs.Fractions.{one_of}
use Rattle.cv_meaning_chances.specs.Tests.{HasDistinctCells, hits_one_of}
use Rattle.cv_meaning_chances.specs.unread.Dropping.{reads_none}
use Rattle.cv_meaning_chances.proofs.CellLists.{contains_here, contains_later}
use Rattle.cv_meaning_chances.proofs.Hits.{IsUnseen, count_chosen}
use Rattle.cv_meaning_chances.proofs.unread.Unread.{bound_agrees, value_same, values_same}
use Rattle.cv_meaning_laws.specs.Agreement.{AgreeOn}
use Rattle.cv_meaning_runs.specs.Simulation.{InOrder}
use Rattle.cv_path.specs.Copies.{parameters}
use Rattle.cv_scope_rules.specs.Made.{is_bound}
use Rattle.cv_scope_runs.proofs.Contexts.{put_other}
use Rattle.cv_costs.specs.quiet.Quiet.{only}
use Rattle.cv_costs.specs.quiet.Twins.{AreVisitsRelated}
use Rattle.cv_rule_fresh.proofs.Hits.{first_that}
use Rattle.cv_rule_fresh.proofs.Listed.{bounds, length_tuples}
use Rattle.cv_rule_fresh.specs.collisions.Chances.{copies}
use Rattle.cv_rule_birthday_laws.specs.guess.Spots.{Spot, parameters_of_spot, tuple_of}
use Rattle.cv_rule_birthday_laws.proofs.guess.Firsts.{AreBoth, firsts_related, is_at}
use Rattle.cv_rule_birthday_laws.proofs.guess.Twins.{BothThere}
use Rattle.cv_rule_birthday_laws.proofs.guess.Unread.{IsUnread}

-- the cells of a variable among some cells

abbrev is_draw : ℕ → Cell → Bool
is_draw x (New_at y w) = y == x
is_draw x c = false

abbrev pub draws_of : ℕ → List (Cell × ℕ) → List Cell
draws_of x [] = []
draws_of x (c ∷ cs) = cond (is_draw x c.0) (c.0 ∷ draws_of x cs) (draws_of x cs)

pub drawn_listed : (x : ℕ) (w : List ℕ) (cs : List (Cell × ℕ)) → is_in cs (New_at x w) ≡ true → list_any (same_cell (New_at x w)) (draws_of x cs) ≡ true
drawn_listed x w [] e = absurd (both_ways false refl e)
drawn_listed x w (c ∷ cs) e = go (same_cell c.0 (New_at x w)) refl e (drawn_listed x w cs)
  where
    later : (b : Bool) → list_any (same_cell (New_at x w)) (draws_of x cs) ≡ true → list_any (same_cell (New_at x w)) (cond b (c.0 ∷ draws_of x cs) (draws_of x cs)) ≡ true
    later true k = or_right (same_cell (New_at x w) c.0) _ k
    later false k = k

    here : (d : Cell) → d ≡ New_at x w → list_any (same_cell (New_at x w)) (cond (is_draw x d) (d ∷ draws_of x cs) (draws_of x cs)) ≡ true
    here d i =
        subst (λ b. list_any (same_cell (New_at x w)) (cond b (d ∷ draws_of x cs) (draws_of x cs)) ≡ true) (sym (ap (is_draw x) i ∙ eq-eqb x x refl))
        (or_left (same_cell (New_at x w) d) _ (ap (same_cell (New_at x w)) i ∙ same_cell_refl (New_at x w)))

    go : (b : Bool) → same_cell c.0 (New_at x w) ≡ b → (b || is_in cs (New_at x w)) ≡ true → (is_in cs (New_at x w) ≡ true → list_any (same_cell (New_at x w)) (draws_of x cs) ≡ true)
        → list_any (same_cell (New_at x w)) (cond (is_draw x c.0) (c.0 ∷ draws_of x cs) (draws_of x cs)) ≡ true
    go true f k ih = here c.0 (same_cell_exact c.0 (New_at x w) f)
    go false f k ih = later (is_draw x c.0) (ih k)

-- each listed cell of the variable has a size
abbrev pub HasSize : ℕ → ℕ → List (Cell × ℕ) → Type 0
HasSize x n cs = (w : List ℕ) → AllByRecursion (λ (d : Cell × ℕ). d.0 ≡ New_at x w → d.1 ≡ n) cs

-- what holds of each listed copy of the variable's choice holds of its cells
draws_have : (x n : ℕ) (P : Cell → Type 0) (cs : List (Cell × ℕ)) → HasSize x n cs → ((w : List ℕ) → Contains cs (New_at x w, n) → P (New_at x w)) → AllByRecursion P (draws_of x cs)
draws_have x n P [] s h = tt
draws_have x n P (c ∷ cs) s h = go c.0 refl (is_draw x c.0) refl (draws_have x n P cs (λ w. (s w).1) (λ w k. h w (contains_later c (New_at x w, n) cs k)))
  where
    one : (d : Cell) → c.0 ≡ d → is_draw x d ≡ true → P d
    one (New_at y w) i e =
        let same : c.0 ≡ New_at x w = i ∙ ap (λ z. New_at z w) (eqb-true y x e) in
        let size : c.1 ≡ n = (s w).0 same in
        subst P (sym same ∙ i) (h w (subst (Contains (c ∷ cs)) (λ j. (same j, size j)) (contains_here c cs)))
    one d i e = absurd (both_ways false refl e)

    go : (d : Cell) → c.0 ≡ d → (b : Bool) → is_draw x c.0 ≡ b → AllByRecursion P (draws_of x cs) → AllByRecursion P (cond b (c.0 ∷ draws_of x cs) (draws_of x cs))
    go d i true e k = (one c.0 refl e, k)
    go d i false e k = k

-- stores with the indices of a branch

pub bound_other : (x : ℕ) (n : Store) (w : List ℕ) (us : Tree) (u z : List ℕ) → is_bound us x ≡ false → bound_to n w us u x z ≡ n x z
unfolding is_bound bound_to
bound_other x n w (Node (Binder y T) a b) (v ∷ vs) z e =
    let r = go (x == y) refl e in
    bound_other x (put n y w v) w b vs z r.1 ∙ put_other n y w v x z (λ i j. both_ways (x == y) r.0 i)
  where
    go : (c : Bool) → (x == y) ≡ c → (c || is_bound b x) ≡ false → ((x == y) ≡ false) × (is_bound b x ≡ false)
    go true i f = absurd (both_ways true f refl)
    go false i f = (i, f)
bound_other x n w us u z e = refl

-- the indices of a branch, with their parameters

abbrev pairs_of_head : Tree → List (ℕ × ℕ)
pairs_of_head (Node (Binder y n) a b) = (y, n) ∷ []
pairs_of_head t = []

abbrev pub pairs_of : Tree → List (ℕ × ℕ)
pairs_of Empty = []
pairs_of (Node h a b) = pairs_of_head (Node h a b) ++ pairs_of b

pub pairs_parameters : (us : Tree) → map (λ (r : ℕ × ℕ). r.1) (pairs_of us) ≡ parameters us
unfolding parameters
pairs_parameters Empty = refl
pairs_parameters (Node (Binder y n) a b) = ap (λ ns. n ∷ ns) (pairs_parameters b)
pairs_parameters (Node h a b) = pairs_parameters b

pub fitting_within : (g : Setting) (us : Tree) (u : List ℕ) → fits g.interpretation.parameter_value us u ≡ true → Within u (bounds g (pairs_of us))
fitting_within g Empty [] e = tt
fitting_within g Empty (v ∷ vs) e = absurd (both_ways false refl e)
fitting_within g (Node (Binder y n) a b) [] e = absurd (both_ways false refl e)
fitting_within g (Node (Binder y n) a b) (v ∷ vs) e = let r = and_parts (nat_lt v (g.interpretation.parameter_value n)) _ e in (has_below (g.interpretation.parameter_value n) v (ltb-true v (g.interpretation.parameter_value n) r.0), fitting_within g b vs r.1)
fitting_within g (Node h a b) u e = absurd (both_ways false refl e)

-- one guess at one copy

module _ (g : Setting) (m : Mode) (a : Adversary) (next : Tree) (x : ℕ) where
  abbrev pub found_at : ℕ → List ℕ → Tape → Option Visit
  found_at q w t = first_that (is_at q w) (visits_of_run g m a next t)

  abbrev pub store_at : Visit → Spot → List ℕ → Store
  store_at v s u = bound_to v.before.memory.store (tuple v.before.indices) s.binders u

  abbrev pub choice_at : Spot → List ℕ → Option Visit → Cell
  choice_at s u None = Coin 0
  choice_at s u (Some v) = New_at x (tuple_of g v.before.indices (store_at v s u) s.side)

  abbrev pub value_at : Spot → List ℕ → Option Visit → ℕ
  value_at s u None = 0
  value_at s u (Some v) = value g v.before.indices (store_at v s u) s.other

  abbrev pub hit : List (Cell × ℕ) → Spot → (copy tuple : List ℕ) → Tape → Bool
  hit cs s w u t = hits_one_of (draws_of x cs) (choice_at s u (found_at s.place w t)) (value_at s u (found_at s.place w t)) t

  module _ (related : (t : Tape) (w : List ℕ) (v : ℕ) → InOrder (AreVisitsRelated (only x).unread BothThere) (visits_of_run g m a next (written t (New_at x w) v)) (visits_of_run g m a next t)) (s : Spot) (unread : IsUnread x s) (w u : List ℕ) where
    abbrev xs : ℕ → Bool
    xs = (only x).unread

    abbrev Both : Option Visit → Option Visit → Type 0
    Both = AreBoth (AreVisitsRelated xs BothThere)

    tuples_same : (at : Indices) (n o : Store) → AgreeOn (λ y. not (xs y)) n o → (t : Tree) → reads_none xs (first t) ≡ true → tuple_of g at n t ≡ tuple_of g at o t
    tuples_same at n o r (Node (Read y) c d) e = values_same g at xs n o r c e
    tuples_same at n o r t e = refl

    choice_same : (o q : Option Visit) → Both o q → choice_at s u o ≡ choice_at s u q
    choice_same None None h = refl
    choice_same None (Some v) h = absurd h
    choice_same (Some v) None h = absurd h
    choice_same (Some v) (Some z) h =
        (λ j. New_at x (tuple_of g (h.indices j) (bound_to v.before.memory.store (tuple (h.indices j)) s.binders u) s.side))
        ∙ ap (New_at x) (tuples_same z.before.indices (bound_to v.before.memory.store (tuple z.before.indices) s.binders u) (store_at z s u)
        (bound_agrees (λ y. not (xs y)) v.before.memory.store z.before.memory.store h.memory.store.others (tuple z.before.indices) s.binders u) s.side unread.side)

    values_are_same : (o q : Option Visit) → Both o q → value_at s u o ≡ value_at s u q
    values_are_same None None h = refl
    values_are_same None (Some v) h = absurd h
    values_are_same (Some v) None h = absurd h
    values_are_same (Some v) (Some z) h =
        (λ j. value g (h.indices j) (bound_to v.before.memory.store (tuple (h.indices j)) s.binders u) s.other)
        ∙ value_same g z.before.indices xs (bound_to v.before.memory.store (tuple z.before.indices) s.binders u) (store_at z s u)
        (bound_agrees (λ y. not (xs y)) v.before.memory.store z.before.memory.store h.memory.store.others (tuple z.before.indices) s.binders u) s.other unread.other

    both : (c : List ℕ) (t : Tape) (v : ℕ) → Both (found_at s.place w (written t (New_at x c) v)) (found_at s.place w t)
    both c t v = firsts_related xs BothThere s.place w _ _ (related t c v)

    pub hit_chance : (cs : List (Cell × ℕ)) (size : ℕ) → HasDistinctCells cs → HasSize x size cs → AtMost (chance cs (hit cs s w u)) (one_of size)
    hit_chance cs size distinct sizes =
        let choice : Tape → Cell = λ t. choice_at s u (found_at s.place w t) in
        let other : Tape → ℕ = λ t. value_at s u (found_at s.place w t) in
        let unseen : AllByRecursion (IsUnseen cs size (λ t. true) choice other) (draws_of x cs) =
        draws_have x size (IsUnseen cs size (λ t. true) choice other) cs sizes (λ c k. (k, λ t v. refl, λ t v. choice_same _ _ (both c t v), λ t v. values_are_same _ _ (both c t v))) in
        let h = count_chosen cs (draws_of x cs) size (λ t. true) choice other blank distinct (All-from_recursion (IsUnseen cs size (λ t. true) choice other) (draws_of x cs) unseen) in
        let k = count_true cs blank in
        omega arith

-- all guesses at all copies

copies_append : (i : Interpretation) (ns ms : List ℕ) → copies i (ns ++ ms) ≡ copies i ns * copies i ms
unfolding copies
copies_append i [] ms = omega arith
copies_append i (n ∷ ns) ms = ap (λ k. i.parameter_value n * k) (copies_append i ns ms) ∙ omega arith

module _ {A : Type 0} (f : List ℕ → List ℕ → A) (us : List (List ℕ)) where
  length_pairs : (ws : List (List ℕ)) → length (flat_map (λ w. map (f w) us) ws) ≡ length ws * length us
  length_pairs [] = omega arith
  length_pairs (w ∷ ws) = length-append (map (f w) us) (flat_map (λ w. map (f w) us) ws) ∙ (ap₂ ◌+◌ (length-map us (f w)) (length_pairs ws) ∙ (let e : length us + length ws * length us ≡ suc (length ws) * length us = omega arith in e))

module _ (i : Interpretation) (g : Setting) (same : g.interpretation ≡ i) where
  abbrev pub copies_of : Spot → List (List ℕ)
  copies_of s = tuples_below (bounds g s.replications)

  abbrev pub tuples_at : Spot → List (List ℕ)
  tuples_at s = tuples_below (bounds g (pairs_of s.binders))

  abbrev pub hits_of : {A : Type 0} → (Spot → List ℕ → List ℕ → A) → Spot → List A
  hits_of f s = flat_map (λ w. map (f s w) (tuples_at s)) (copies_of s)

  length_hits : {A : Type 0} (f : Spot → List ℕ → List ℕ → A) (s : Spot) → length (hits_of f s) ≡ copies i (parameters_of_spot s)
  length_hits f s =
      length_pairs (f s) (tuples_at s) (copies_of s)
      ∙ (ap₂ ◌*◌ (lengths s.replications) (lengths (pairs_of s.binders) ∙ ap (copies i) (pairs_parameters s.binders))
      ∙ sym (copies_append i (map (λ (r : ℕ × ℕ). r.1) s.replications) (parameters s.binders)))
    where
      lengths : (rs : List (ℕ × ℕ)) → length (tuples_below (bounds g rs)) ≡ copies i (map (λ (r : ℕ × ℕ). r.1) rs)
      lengths rs = subst (λ (j : Interpretation). length (tuples_below (map (λ (r : ℕ × ℕ). j.parameter_value r.1) rs)) ≡ copies i (map (λ (r : ℕ × ℕ). r.1) rs)) (sym same) (length_tuples i rs)

  pub length_all : {A : Type 0} (f : Spot → List ℕ → List ℕ → A) (ss : List Spot) → length (flat_map (hits_of f) ss) ≡ sum_by (copies i) (map parameters_of_spot ss)
  length_all f [] = refl
  length_all f (s ∷ ss) = length-append (hits_of f s) (flat_map (hits_of f) ss) ∙ (ap₂ ◌+◌ (length_hits f s) (length_all f ss) ∙ sym (sum_by-cons (copies i) (parameters_of_spot s) (map parameters_of_spot ss)))
