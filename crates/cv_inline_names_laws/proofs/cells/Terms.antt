-- What stands in the next game for terms are terms.
use Rattle.std.proofs.Common.{◌≡◌, ℕ, suc, Bool, true, false, cond, not, ◌&&◌, ◌==◌, List, [], ◌∷◌, map, filter, Option, Some, None, refl}
use Rattle.std.proofs.lemmas.Bool.{and_parts}
use Rattle.std.specs.List.{AllByRecursion}
use Rattle.cv_syntax_trees.specs.declared.head.Head.{Head}
use Rattle.cv_syntax_trees.specs.declared.head.Head.TheVariants.{Leaf, Read, Eq, And, Yes, No, Cons}
use Rattle.cv_syntax_trees.specs.Tree.{Tree, Empty, Node, first, lone, same_tree}
use Rattle.cv_meaning.specs.contexts.Inlined.{Drawn, Caller, Standing, TheKey, Own, CallOf, Scope, all_equal, array_in_game, call_in, called, cell_in_game, cells_in_game, cells_then, each_once, in_game, index_moves, index_reads, index_terms, indices_equal, is_own, leaf_in_game, moved, moved_leaf, needed, own_variable, read_at, standing_of, and_equal, tuples_equal}
use Rattle.cv_inline.specs.NextGame.{Results, result_for, with_results}
use Rattle.cv_inline_names_laws.specs.cells.Layout.{is_term, is_term_head}
use Rattle.cv_syntax_trees.proofs.lists.Each.{AllByRecursion_append}

abbrev pub IsTerm : Tree → Type 0
IsTerm t = is_term t ≡ true

term_with : (h : Head) (a b : Tree) → is_term_head h ≡ true → IsTerm a → IsTerm b → IsTerm (Node h a b)
unfolding is_term
term_with h a b e x y = (λ i. e i && (x i && y i))

pub term_parts : (h : Head) (a b : Tree) → IsTerm (Node h a b) → (is_term_head h ≡ true) × IsTerm a × IsTerm b
unfolding is_term
term_parts h a b e = let p = and_parts (is_term_head h) _ e in let q = and_parts (is_term a) _ p.1 in (p.0, q.0, q.1)

no_term : IsTerm Empty
unfolding is_term
no_term = refl

pub lone_term : (h : Head) → is_term_head h ≡ true → IsTerm (lone h)
lone_term h e = term_with h Empty Empty e no_term no_term

read_term : (y : ℕ) (ts : Tree) → IsTerm ts → IsTerm (read_at y ts)
read_term y Empty e = lone_term (Leaf y) refl
read_term y (Node h a b) e = term_with (Read y) (Node h a b) Empty refl e no_term

pub index_term : (rs : List (ℕ × ℕ)) → IsTerm (index_terms rs)
index_term [] = no_term
index_term (r ∷ rs) = term_with Cons (lone (Leaf r.0)) (index_terms rs) refl (lone_term (Leaf r.0) refl) (index_term rs)

-- what names stand for

abbrev pub IsCallTerm : Standing → Type 0
IsCallTerm (CallOf s ts) = IsTerm ts
IsCallTerm s = Unit {0}

-- the calls for which names stand have terms for indices
abbrev pub HasTerms : Scope → Type 0
HasTerms Σ = AllByRecursion (λ (p : ℕ × Standing). IsCallTerm p.1) Σ

abbrev IsStandingTerm : Option Standing → Type 0
IsStandingTerm None = Unit {0}
IsStandingTerm (Some s) = IsCallTerm s

standing_term : (Σ : Scope) (x : ℕ) → HasTerms Σ → IsStandingTerm (standing_of Σ x)
standing_term [] x e = tt
standing_term (p ∷ Σ) x e = go (p.0 == x) (standing_term Σ x e.1)
  where
    go : (b : Bool) → IsStandingTerm (standing_of Σ x) → IsStandingTerm (cond b (Some p.1) (standing_of Σ x))
    go true k = e.0
    go false k = k

abbrev IsFoundTerm : Option (ℕ × Tree) → Type 0
IsFoundTerm None = Unit {0}
IsFoundTerm (Some k) = IsTerm k.1

called_term : (o : Option Standing) → IsStandingTerm o → IsFoundTerm (called o)
called_term None e = tt
called_term (Some TheKey) e = tt
called_term (Some Own) e = tt
called_term (Some (CallOf s ts)) e = e

call_term : (Σ : Scope) (t : Tree) → HasTerms Σ → IsFoundTerm (call_in Σ t)
call_term Σ (Node (Leaf u) a b) e = called_term (standing_of Σ u) (standing_term Σ u e)
call_term Σ t e = tt

-- terms

pub equal_term : (ms ns m : Tree) → IsTerm ms → IsTerm ns → IsTerm m → IsTerm (all_equal ms ns m)
unfolding all_equal
equal_term Empty ns m e f g = g
equal_term (Node h a more) Empty m e f g = g
equal_term (Node h a more) (Node k b rest) m e f g =
    let p = term_parts h a more e in
    let q = term_parts k b rest f in term_with And (Node Eq a b) (all_equal more rest m) refl (term_with Eq a b refl p.1 q.1) (equal_term more rest m p.2 q.2 g)

and_equal_term : (m ms ns : Tree) → IsTerm m → IsTerm ms → IsTerm ns → IsTerm (and_equal m ms ns)
unfolding and_equal
and_equal_term m Empty ns g e f = g
and_equal_term m (Node h a more) Empty g e f = g
and_equal_term m (Node h a more) (Node k b rest) g e f =
    let p = term_parts h a more e in
    let q = term_parts k b rest f in term_with And m (and_equal (Node Eq a b) more rest) refl g (and_equal_term (Node Eq a b) more rest (term_with Eq a b refl p.1 q.1) p.2 q.2)

tuples_term : (ms ns : Tree) → IsTerm ms → IsTerm ns → IsTerm (tuples_equal ms ns)
tuples_term Empty ns e f = lone_term Yes refl
tuples_term (Node h a more) Empty e f = lone_term Yes refl
tuples_term (Node h a more) (Node k b rest) e f =
    let p = term_parts h a more e in
    let q = term_parts k b rest f in and_equal_term (Node Eq a b) more rest (term_with Eq a b refl p.1 q.1) p.2 q.2

module _ (d : Drawn) (c : Caller) (key : IsTerm c.key) where
  own_term : (x : ℕ) → IsTerm (own_variable d c x)
  own_term x = read_term (d.variable c.number x) (index_terms c.replications) (index_term c.replications)

  leaf_term : (x : ℕ) (o : Option Standing) → IsTerm (leaf_in_game d c x o)
  leaf_term x None = go (is_own c x)
    where
      go : (b : Bool) → IsTerm (cond b (own_variable d c x) (lone (Leaf x)))
      go true = own_term x
      go false = lone_term (Leaf x) refl
  leaf_term x (Some TheKey) = read_term d.key c.key key
  leaf_term x (Some Own) = own_term x
  leaf_term x (Some (CallOf s ts)) = lone_term No refl

  array_term : (v : ℕ) (o : Option (ℕ × Tree)) → IsFoundTerm o → IsTerm (array_in_game d v o)
  array_term v None e = lone_term No refl
  array_term v (Some k) e = read_term (d.variable k.0 v) k.1 e

  indices_term : (o q : Option (ℕ × Tree)) (m : Tree) → IsFoundTerm o → IsFoundTerm q → IsTerm m → IsTerm (indices_equal o q m)
  indices_term None q m e f g = g
  indices_term (Some j) None m e f g = g
  indices_term (Some j) (Some k) m e f g = go (j.0 == k.0)
    where
      go : (b : Bool) → IsTerm (cond b (tuples_equal j.1 k.1) (lone No))
      go true = tuples_term j.1 k.1 e f
      go false = lone_term No refl

  pub in_game_term : (Σ : Scope) → HasTerms Σ → (t : Tree) → IsTerm t → IsTerm (in_game d c Σ t)
  unfolding in_game
  in_game_term Σ s Empty e = e
  in_game_term Σ s (Node (Leaf x) a b) e = leaf_term x (standing_of Σ x)
  in_game_term Σ s (Node (Read v) a b) e = array_term v (call_in Σ (first a)) (call_term Σ (first a) s)
  in_game_term Σ s (Node Eq a b) e =
      let p = term_parts Eq a b e in
      indices_term (call_in Σ a) (call_in Σ b) (Node Eq (in_game d c Σ a) (in_game d c Σ b)) (call_term Σ a s) (call_term Σ b s) (term_with Eq (in_game d c Σ a) (in_game d c Σ b) refl (in_game_term Σ s a p.1) (in_game_term Σ s b p.2))
  in_game_term Σ s (Node h a b) e = let p = term_parts h a b e in term_with h (in_game d c Σ a) (in_game d c Σ b) p.0 (in_game_term Σ s a p.1) (in_game_term Σ s b p.2)

  cell_term : (Σ : Scope) → HasTerms Σ → (t : Tree) → IsTerm t → IsTerm (cell_in_game d c Σ t)
  cell_term Σ s (Node (Leaf x) a b) e = own_term x
  cell_term Σ s t e = in_game_term Σ s t e

  pub cells_term : (Σ : Scope) → HasTerms Σ → (t : Tree) → IsTerm t → IsTerm (cells_in_game d c Σ t)
  unfolding cells_in_game
  cells_term Σ s Empty e = e
  cells_term Σ s (Node h a b) e = let p = term_parts h a b e in term_with h (cell_in_game d c Σ a) (cells_in_game d c Σ b) p.0 (cell_term Σ s a p.1) (cells_term Σ s b p.2)

-- keys at other calls

abbrev AreMoves : List (ℕ × Tree) → Type 0
AreMoves ms = AllByRecursion (λ (m : ℕ × Tree). IsTerm m.1) ms

moved_leaf_term : (ms : List (ℕ × Tree)) (x : ℕ) → AreMoves ms → IsTerm (moved_leaf ms x)
moved_leaf_term [] x e = lone_term (Leaf x) refl
moved_leaf_term (p ∷ ms) x e = go (p.0 == x) (moved_leaf_term ms x e.1)
  where
    go : (b : Bool) → IsTerm (moved_leaf ms x) → IsTerm (cond b p.1 (moved_leaf ms x))
    go true k = e.0
    go false k = k

pub moved_term : (ms : List (ℕ × Tree)) → AreMoves ms → (t : Tree) → IsTerm t → IsTerm (moved ms t)
unfolding moved
moved_term ms s Empty e = e
moved_term ms s (Node (Leaf x) a b) e = moved_leaf_term ms x s
moved_term ms s (Node h a b) e = let p = term_parts h a b e in term_with h (moved ms a) (moved ms b) p.0 (moved_term ms s a p.1) (moved_term ms s b p.2)

pub moves_terms : (here : Tree) → IsTerm here → (name : ℕ → ℕ) (k : ℕ) (rs : List (ℕ × ℕ)) → AreMoves (index_moves here name k rs)
moves_terms here e name k [] = tt
moves_terms here e name k (r ∷ rs) = (read_term (name k) here e, moves_terms here e name (suc k) rs)

pub reads_term : (here : Tree) → IsTerm here → (name : ℕ → ℕ) (k : ℕ) (rs : List (ℕ × ℕ)) → IsTerm (index_reads here name k rs)
reads_term here e name k [] = no_term
reads_term here e name k (r ∷ rs) = term_with Cons (read_at (name k) here) (index_reads here name (suc k) rs) refl (read_term (name k) here e) (reads_term here e name (suc k) rs)

abbrev AreTerms : List Tree → Type 0
AreTerms ts = AllByRecursion IsTerm ts

pub needed_terms : (is : ℕ → Bool) (t : Tree) → IsTerm t → AreTerms (needed is t)
unfolding needed
needed_terms is Empty e = tt
needed_terms is (Node (Leaf x) a b) e = go (is x)
  where
    go : (b : Bool) → AreTerms (cond b [] (lone (Leaf x) ∷ []))
    go true = tt
    go false = (lone_term (Leaf x) refl, tt)
needed_terms is (Node (Read x) a b) e =
    let p = term_parts (Read x) a b e in AllByRecursion_append IsTerm (needed is a) (Node (Read x) a Empty ∷ []) (needed_terms is a p.1) (term_with (Read x) a Empty refl p.1 no_term, tt)
needed_terms is (Node h a b) e = let p = term_parts h a b e in AllByRecursion_append IsTerm (needed is a) (needed is b) (needed_terms is a p.1) (needed_terms is b p.2)

filtered_terms : (p : Tree → Bool) (ts : List Tree) → AreTerms ts → AreTerms (filter p ts)
filtered_terms p [] e = tt
filtered_terms p (t ∷ ts) e = go (p t) (filtered_terms p ts e.1)
  where
    go : (b : Bool) → AreTerms (filter p ts) → AreTerms (cond b (t ∷ filter p ts) (filter p ts))
    go true k = (e.0, k)
    go false k = k

pub once_terms : (ts : List Tree) → AreTerms ts → AreTerms (each_once ts)
once_terms [] e = tt
once_terms (t ∷ ts) e = (e.0, filtered_terms (λ r. not (same_tree r t)) (each_once ts) (once_terms ts e.1))

pub moved_terms : (ms : List (ℕ × Tree)) → AreMoves ms → (ts : List Tree) → AreTerms ts → AreTerms (map (moved ms) ts)
moved_terms ms s [] e = tt
moved_terms ms s (t ∷ ts) e = (moved_term ms s t e.0, moved_terms ms s ts e.1)

pub then_term : (cs : List Tree) (t : Tree) → AreTerms cs → IsTerm t → IsTerm (cells_then cs t)
then_term [] t e f = f
then_term (c ∷ cs) t e f = term_with Cons c (cells_then cs t) refl e.0 (then_term cs t e.1 f)

-- results for answers

abbrev pub AreResults : Results → Type 0
AreResults rs = AllByRecursion (λ (r : ℕ × Tree). IsTerm r.1) rs

result_term : (rs : Results) (x : ℕ) (t : Tree) → AreResults rs → IsTerm t → IsTerm (result_for rs x t)
result_term [] x t e f = f
result_term (r ∷ rs) x t e f = go (r.0 == x) (result_term rs x t e.1 f)
  where
    go : (b : Bool) → IsTerm (result_for rs x t) → IsTerm (cond b r.1 (result_for rs x t))
    go true k = e.0
    go false k = k

pub results_term : (rs : Results) → AreResults rs → (t : Tree) → IsTerm t → IsTerm (with_results rs t)
unfolding with_results
results_term rs s Empty e = e
results_term rs s (Node (Leaf x) a b) e = result_term rs x (Node (Leaf x) a b) s e
results_term rs s (Node (Read x) a b) e = result_term rs x (Node (Read x) a b) s e
results_term rs s (Node h a b) e = let p = term_parts h a b e in term_with h (with_results rs a) (with_results rs b) p.0 (results_term rs s a p.1) (results_term rs s b p.2)
