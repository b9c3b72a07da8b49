-- In a game without calls whose constructs have names of their own, no cell is consulted twice.
use Rattle.std.proofs.Common.{◌≡◌, ℕ, Bool, true, false, ◌&&◌, ◌==◌, List, [], ◌∷◌, ◌++◌, Some, refl, sym, ap₂, subst, eqb-true, eq-eqb}
use Rattle.std.proofs.lemmas.Bool.{both_ways, and_parts}
use Rattle.std.specs.List.{AllByRecursion, IsDistinct}
use Rattle.cv_syntax_trees.specs.declared.head.Head.TheVariants.{New, Find, Call}
use Rattle.cv_syntax_trees.specs.Tree.{Tree, Empty, Node, subtree}
use Rattle.cv_meaning.specs.Tapes.{Tape, Cell, New_at, Find_at, same_tuple, same_cell}
use Rattle.cv_meaning.specs.Interpretation.{Setting}
use Rattle.cv_meaning.specs.Memory.{tuple, Local}
use Rattle.cv_meaning.specs.Serving.{Visit}
use Rattle.cv_meaning.specs.Consulted.{consulted_at, consulted}
use Rattle.cv_meaning.specs.Runs.{Mode, Adversary}
use Rattle.cv_meaning.specs.Experiments.{run, visits_of_run}
use Rattle.cv_meaning_runs.specs.Listed.{has_no_calls}
use Rattle.cv_meaning_runs.specs.Placed.{IsSubtreeOrList, VisitHas}
use Rattle.cv_meaning_runs.specs.Spots.{Spot, same_spot, spots_of_visit, spots_of_visits, spots_of_inputs, HasOwnNames}
use Rattle.cv_meaning_runs.proofs.Lists.{distinct_left, distinct_right}
use Rattle.cv_meaning_runs.proofs.Placed.{visits_have, visits_subtrees}
use Rattle.cv_meaning_runs.proofs.Listed.{no_calls_down}
use Rattle.cv_meaning_runs.proofs.Spots.{spots_distinct}
use Rattle.cv_syntax_trees.proofs.lists.Each.{AllByRecursion_append, AllByRecursion_both, AllByRecursion_left, AllByRecursion_right}

-- what is known of a visit
abbrev Stands : Tree → Visit → Type 0
Stands game v = IsSubtreeOrList game v.place v.tree × (has_no_calls v.tree ≡ true)

abbrev spot : ℕ → Local → Spot
spot p s = record { place = p; tuple = tuple s.indices }

module _ (g : Setting) (game : Tree) (own : HasOwnNames game) where
  new_apart : (p x T : ℕ) (a b : Tree) (s : Local) → subtree game p ≡ Some (Node (New x T) a b) → (w : Visit) → Stands game w → AllByRecursion (λ r. same_spot (spot p s) r ≡ false) (spots_of_visit w)
      → AllByRecursion (λ d. same_cell (New_at x (tuple s.indices)) d ≡ false) (consulted_at g w.tree w.before)
  new_apart p x T a b s f w k e = go w.tree w.place w.before k e
    where
      go : (c : Tree) (q : ℕ) (n : Local) → IsSubtreeOrList game q c × (has_no_calls c ≡ true) → AllByRecursion (λ r. same_spot (spot p s) r ≡ false) (spots_of_visit (record { place = q; tree = c; before = n }))
          → AllByRecursion (λ d. same_cell (New_at x (tuple s.indices)) d ≡ false) (consulted_at g c n)
      go Empty q n k e = tt
      go (Node (New y S) c d) q n k e = (differ ((x == y) && same_tuple (tuple s.indices) (tuple n.indices)) refl, tt)
        where
          differ : (v : Bool) → ((x == y) && same_tuple (tuple s.indices) (tuple n.indices)) ≡ v → v ≡ false
          differ false z = refl
          differ true z =
              let r = and_parts (x == y) _ z in
              let same : p ≡ q = own.names p q x T S a b c d f (subst (λ i. subtree game q ≡ Some (Node (New i S) c d)) (sym (eqb-true x y r.0)) (k.0 refl)) in
              absurd (both_ways _ e.0 (ap₂ ◌&&◌ (eq-eqb p q same) r.1))
      go (Node (Find l) c d) q n k e = (refl, tt)
      go (Node (Call y l) c d) q n k e = absurd (both_ways _ refl k.1)
      go (Node h c d) q n k e = tt

  find_apart : (p l : ℕ) (a b : Tree) (s : Local) → subtree game p ≡ Some (Node (Find l) a b) → (w : Visit) → Stands game w → AllByRecursion (λ r. same_spot (spot p s) r ≡ false) (spots_of_visit w)
      → AllByRecursion (λ d. same_cell (Find_at l (tuple s.indices)) d ≡ false) (consulted_at g w.tree w.before)
  find_apart p l a b s f w k e = go w.tree w.place w.before k e
    where
      go : (c : Tree) (q : ℕ) (n : Local) → IsSubtreeOrList game q c × (has_no_calls c ≡ true) → AllByRecursion (λ r. same_spot (spot p s) r ≡ false) (spots_of_visit (record { place = q; tree = c; before = n }))
          → AllByRecursion (λ d. same_cell (Find_at l (tuple s.indices)) d ≡ false) (consulted_at g c n)
      go Empty q n k e = tt
      go (Node (New y S) c d) q n k e = (refl, tt)
      go (Node (Find m) c d) q n k e = (differ ((l == m) && same_tuple (tuple s.indices) (tuple n.indices)) refl, tt)
        where
          differ : (v : Bool) → ((l == m) && same_tuple (tuple s.indices) (tuple n.indices)) ≡ v → v ≡ false
          differ false z = refl
          differ true z =
              let r = and_parts (l == m) _ z in
              let same : p ≡ q = own.labels p q l a b c d f (subst (λ i. subtree game q ≡ Some (Node (Find i) c d)) (sym (eqb-true l m r.0)) (k.0 refl)) in
              absurd (both_ways _ e.0 (ap₂ ◌&&◌ (eq-eqb p q same) r.1))
      go (Node (Call y m) c d) q n k e = absurd (both_ways _ refl k.1)
      go (Node h c d) q n k e = tt

  -- a cell that no visit of a list consults, where it is so of each visit whose spots are apart
  all_apart : (c : Cell) (r : Spot) → ((w : Visit) → Stands game w → AllByRecursion (λ q. same_spot r q ≡ false) (spots_of_visit w) → AllByRecursion (λ d. same_cell c d ≡ false) (consulted_at g w.tree w.before))
      → (ws : List Visit) → AllByRecursion (Stands game) ws → AllByRecursion (λ q. same_spot r q ≡ false) (spots_of_visits ws) → AllByRecursion (λ d. same_cell c d ≡ false) (consulted g ws)
  unfolding consulted
  all_apart c r h [] k e = tt
  all_apart c r h (w ∷ ws) k e =
      AllByRecursion_append (λ d. same_cell c d ≡ false) (consulted_at g w.tree w.before) _ (h w k.0 (AllByRecursion_left (λ q. same_spot r q ≡ false) (spots_of_visit w) _ e)) (all_apart c r h ws k.1 (AllByRecursion_right (λ q. same_spot r q ≡ false) (spots_of_visit w) _ e))

  visits_once : (vs : List Visit) → AllByRecursion (Stands game) vs → IsDistinct same_spot (spots_of_visits vs) → IsDistinct same_cell (consulted g vs)
  unfolding consulted IsDistinct
  visits_once [] k e = tt
  visits_once (v ∷ vs) k e = go v.tree v.place v.before k.0 e (visits_once vs k.1)
    where
      go : (c : Tree) (q : ℕ) (n : Local) → IsSubtreeOrList game q c × (has_no_calls c ≡ true) → IsDistinct same_spot (spots_of_visit (record { place = q; tree = c; before = n }) ++ spots_of_visits vs) → (IsDistinct same_spot (spots_of_visits vs) → IsDistinct same_cell (consulted g vs))
          → IsDistinct same_cell (consulted_at g c n ++ consulted g vs)
      go (Node (New x T) a b) q n f e ih = (all_apart (New_at x (tuple n.indices)) (spot q n) (new_apart q x T a b n (f.0 refl)) vs k.1 e.0, ih e.1)
      go (Node (Find l) a b) q n f e ih = (all_apart (Find_at l (tuple n.indices)) (spot q n) (find_apart q l a b n (f.0 refl)) vs k.1 e.0, ih e.1)
      go (Node (Call x l) a b) q n f e ih = absurd (both_ways _ refl f.1)
      go c q n f e ih = ih (distinct_right same_spot (spots_of_visit (record { place = q; tree = c; before = n })) _ e)

pub cells_once : (g : Setting) (m : Mode) (a : Adversary) (game : Tree) (t : Tape) → HasOwnNames game → has_no_calls game ≡ true → IsDistinct same_cell (consulted g (visits_of_run g m a game t))
cells_once g m a game t own free =
    visits_once g game own _
    (AllByRecursion_both (VisitHas (IsSubtreeOrList game)) (λ (v : Visit). has_no_calls v.tree ≡ true) (Stands game) (λ v x y. (x, y)) _ (visits_subtrees g m a game t) (visits_have (λ p b. has_no_calls b ≡ true) g m a game t no_calls_down free))
    (distinct_left same_spot (spots_of_visits (visits_of_run g m a game t)) (spots_of_inputs (run g m a game t).inputs) (spots_distinct g m a game t))
