-- The reads that the tables reach are those in reach of what is known.
use Rattle.std.proofs.Common.{◌≡◌, ℕ, suc, ◌+◌, ◌≤◌, ◌<◌, Bool, true, false, ◌&&◌, ◌||◌, not, cond, ◌⊎◌, inl, inr, List, [], ◌∷◌, ◌++◌, length, map, refl, ap, ap₂, sym, ◌∙◌, arith, eqb-true, Option, Some, None}
use Rattle.std.specs.Prelude.{◌==◌}
use Rattle.std.specs.List.{AllByRecursion, list_any}
use Rattle.std.proofs.lemmas.Bool.{eq-eqb, ne_eqb, eqb-false, or_right}
use Rattle.std.proofs.lemmas.List.Folds.{list_any-append}
use Rattle.cv_syntax_trees.specs.declared.head.Head.{Head}
use Rattle.cv_syntax_trees.specs.declared.head.Head.TheVariants.{Repl, In, Event, New, Let, If, Branch, Leaf, Read, Cons, Key, Call}
use Rattle.cv_syntax_trees.specs.Head.{same_head}
use Rattle.cv_syntax_trees.specs.Tree.{Tree, Empty, Node, second, lone, same_tree}
use Rattle.cv_syntax_trees.specs.Children.{is_empty, is_leaf}
use Rattle.cv_syntax_trees.specs.sites.Pairs.{same_pair}
use Rattle.cv_scope_rules.specs.declared.position.Position.{Position}
use Rattle.cv_scope_rules.specs.declared.position.Position.TheVariants.{Bodies, ElseBody, Guards, Guarded, Cells}
use Rattle.cv_scope_rules.specs.Context.{Context, cell_of, cells_of, index_terms, items, first_context, second_context, item_context, rest_context, replications_below}
use Rattle.cv_scope.specs.Seen.{Seen, behind, current, defined_by, is_cons, is_defined_at, is_reached, listed_by, plus_one, reads_definition, with_definitions}
use Rattle.cv_scope.specs.tables.Definitions.{is_defined, with_definition}
use Rattle.cv_scope_rules.specs.Tests.{is_in_reach}
use Rattle.cv_scope.proofs.tables.Stacks.{pair_same}
use Rattle.cv_syntax_trees.proofs.lists.Tests.{or_false, and_false, or_assoc, or_exchange, and_or, equals_comm}

-- truth values

suc_eq : (a b : ℕ) → ((a + 1) == suc b) ≡ (a == b)
suc_eq a b = go (a == b) refl
  where
    go : (c : Bool) → (a == b) ≡ c → ((a + 1) == suc b) ≡ c
    go true e = let f = eqb-true a b e in eq-eqb (a + 1) (suc b) (omega arith)
    go false e = ne_eqb (a + 1) (suc b) (λ f. eqb-false a b e (omega arith))

-- cells

is_cons_law : (h : Head) → same_head h Cons ≡ is_cons h
is_cons_law Cons = refl
is_cons_law h = refl

same_empty : (t : Tree) → same_tree t Empty ≡ is_empty t
unfolding same_tree
same_empty Empty = refl
same_empty (Node h a b) = refl

leaf_same : (u : Tree) (i : ℕ) → same_tree u (lone (Leaf i)) ≡ is_leaf i u
unfolding same_tree
leaf_same Empty i = refl
leaf_same (Node (Leaf j) a b) i = ap₂ (λ x y. (x && true) && y) (equals_comm j i) (ap₂ ◌&&◌ (same_empty a) (same_empty b)) ∙ ap (λ x. x && (is_empty a && is_empty b)) (and_true (i == j))
  where
    and_true : (c : Bool) → (c && true) ≡ c
    and_true true = refl
    and_true false = refl
leaf_same (Node h a b) i = refl

abbrev is_all : Option ℕ → ℕ → Bool
is_all None n = false
is_all (Some k) n = k == n

-- the terms are all current indices
terms_same : (rs : List (ℕ × ℕ)) (a : Tree) → same_tree a (index_terms rs) ≡ is_all (current rs a) (length rs)
unfolding same_tree
terms_same [] Empty = refl
terms_same [] (Node h a b) = refl
terms_same (r ∷ rs) Empty = sym (ne_eqb 0 (suc (length rs)) (λ e. omega arith))
terms_same (r ∷ rs) (Node h u v) =
    ap₂ (λ x y. x && y) (is_cons_law h) (ap₂ ◌&&◌ (leaf_same u r.0) (terms_same rs v)) ∙ go (is_cons h) (is_leaf r.0 u) (current rs v)
  where
    go : (c l : Bool) (o : Option ℕ) → (c && (l && is_all o (length rs))) ≡ is_all (cond (c && l) (plus_one o) None) (suc (length rs))
    go true true None = refl
    go true true (Some k) = sym (suc_eq k (length rs))
    go true false o = refl
    go false l o = refl

-- a definition above is a cell
abbrev is_cell_by : List (ℕ × ℕ) → Head → Tree → Tree → ℕ → Bool
is_cell_by rs (Leaf x) a b z = is_empty a && (is_empty b && same_pair (x, 0) (z, length rs))
is_cell_by rs (Read x) a b z = not (is_empty a) && (is_empty b && is_defined_at ((z, length rs) ∷ []) x (current rs a))
is_cell_by rs h a b z = false

move : (x a b : Bool) → (x && (a && b)) ≡ (a && (b && x))
move true true true = refl
move true true false = refl
move true false b = refl
move false true true = refl
move false true false = refl
move false false b = refl

head_leaf : (x z : ℕ) → same_head (Leaf x) (Leaf z) ≡ (x == z)
head_leaf x z = go (x == z)
  where
    go : (c : Bool) → (c && true) ≡ c
    go true = refl
    go false = refl

head_read : (x z : ℕ) → same_head (Read x) (Read z) ≡ (x == z)
head_read x z = go (x == z)
  where
    go : (c : Bool) → (c && true) ≡ c
    go true = refl
    go false = refl

cell_leaf : (rs : List (ℕ × ℕ)) (x z : ℕ) (a b : Tree) → same_tree (Node (Leaf x) a b) (cell_of rs z) ≡ is_cell_by rs (Leaf x) a b z
unfolding same_tree
cell_leaf [] x z a b = ap₂ ◌&&◌ (head_leaf x z) (ap₂ ◌&&◌ (same_empty a) (same_empty b)) ∙ (move (x == z) (is_empty a) (is_empty b) ∙ ap (λ c. is_empty a && (is_empty b && c)) (go (x == z)))
  where
    go : (c : Bool) → c ≡ (c && true)
    go true = refl
    go false = refl
cell_leaf (r ∷ rs) x z a b = sym (go (is_empty a) (is_empty b) (x == z) (0 == suc (length rs)) (ne_eqb 0 (suc (length rs)) (λ e. omega arith)))
  where
    go : (p q c d : Bool) → d ≡ false → (p && (q && (c && d))) ≡ false
    go p q c d e = ap (λ v. p && (q && (c && v))) e ∙ (ap (λ v. p && (q && v)) (and_false c) ∙ (ap (λ v. p && v) (and_false q) ∙ and_false p))

cell_read : (rs : List (ℕ × ℕ)) (x z : ℕ) (a b : Tree) → same_tree (Node (Read x) a b) (cell_of rs z) ≡ is_cell_by rs (Read x) a b z
unfolding same_tree
cell_read [] x z Empty b = refl
cell_read [] x z (Node h u v) b = sym (and_false (is_empty b))
cell_read (r ∷ rs) x z Empty b = and_false (same_head (Read x) (Read z))
cell_read (r ∷ rs) x z (Node h u v) b =
    ap₂ ◌&&◌ (head_read x z) (ap₂ ◌&&◌ (terms_same (r ∷ rs) (Node h u v)) (same_empty b)) ∙ go (is_empty b) (current (r ∷ rs) (Node h u v))
  where
    go : (e : Bool) (o : Option ℕ) → ((x == z) && (is_all o (length (r ∷ rs)) && e)) ≡ (e && is_defined_at ((z, length (r ∷ rs)) ∷ []) x o)
    go e None = and_false (x == z) ∙ sym (and_false e)
    go e (Some k) = move3 (x == z) (k == length (r ∷ rs)) e
      where
        move3 : (c k e : Bool) → (c && (k && e)) ≡ (e && ((c && k) || false))
        move3 true true true = refl
        move3 true true false = refl
        move3 true false true = refl
        move3 true false false = refl
        move3 false k true = refl
        move3 false k false = refl

cell_is : (rs : List (ℕ × ℕ)) (h : Head) (z : ℕ) (a b : Tree) → same_tree (Node h a b) (cell_of rs z) ≡ is_cell_by rs h a b z
unfolding same_tree
cell_is rs (Leaf x) z a b = cell_leaf rs x z a b
cell_is rs (Read x) z a b = cell_read rs x z a b
cell_is [] h z a b = refl
cell_is (r ∷ rs) h z a b = refl

-- definitions

defined_more : (ds : List (ℕ × ℕ)) (d e : ℕ × ℕ) → is_defined (with_definition ds d) e ≡ (is_defined ds e || same_pair e d)
defined_more ds d e = go (is_defined ds d) refl
  where
    go : (b : Bool) → is_defined ds d ≡ b → is_defined (cond b ds (ds ++ d ∷ [])) e ≡ (is_defined ds e || same_pair e d)
    go false f = list_any-append (same_pair e) ds (d ∷ []) ∙ ap (λ c. is_defined ds e || c) (or_false (same_pair e d))
    go true f = other (same_pair e d) refl
      where
        other : (c : Bool) → same_pair e d ≡ c → is_defined ds e ≡ (is_defined ds e || c)
        other false g = sym (or_false (is_defined ds e))
        other true g = let h : is_defined ds e ≡ true = ap (is_defined ds) (pair_same e d g) ∙ f in h ∙ sym (or_right (is_defined ds e) true refl)

at_more : (ds : List (ℕ × ℕ)) (z k x : ℕ) (o : Option ℕ) → is_defined_at (with_definition ds (z, k)) x o ≡ (is_defined_at ds x o || is_defined_at ((z, k) ∷ []) x o)
at_more ds z k x None = refl
at_more ds z k x (Some n) = defined_more ds (z, k) (x, n) ∙ ap (λ c. is_defined ds (x, n) || c) (sym (or_false (same_pair (x, n) (z, k))))

abbrev with_defined : Seen → List (ℕ × ℕ) → Seen
with_defined S ds = record S { defined = ds }

one_definition : (S : Seen) (ds : List (ℕ × ℕ)) (z : ℕ) (h : Head) (a b : Tree) → reads_definition (with_defined S (with_definition ds (z, length S.replications))) h a b ≡ (reads_definition (with_defined S ds) h a b || same_tree (Node h a b) (cell_of S.replications z))
one_definition S ds z h a b = go h ∙ ap (λ c. reads_definition (with_defined S ds) h a b || c) (sym (cell_is S.replications h z a b))
  where
    go : (h : Head) → reads_definition (with_defined S (with_definition ds (z, length S.replications))) h a b ≡ (reads_definition (with_defined S ds) h a b || is_cell_by S.replications h a b z)
    go (Leaf x) = ap (λ c. is_empty a && (is_empty b && c)) (defined_more ds (z, length S.replications) (x, 0)) ∙ (ap (λ c. is_empty a && c) (and_or (is_empty b) _ _) ∙ and_or (is_empty a) _ _)
    go (Read x) = ap (λ c. not (is_empty a) && (is_empty b && c)) (at_more ds z (length S.replications) x (current S.replications a)) ∙ (ap (λ c. not (is_empty a) && c) (and_or (is_empty b) _ _) ∙ and_or (not (is_empty a)) _ _)
    go h = refl

definitions_are : (S : Seen) (ds : List (ℕ × ℕ)) (xs : List ℕ) (h : Head) (a b : Tree) → reads_definition (with_defined S (with_definitions ds (length S.replications) xs)) h a b ≡ (reads_definition (with_defined S ds) h a b || list_any (same_tree (Node h a b)) (map (cell_of S.replications) xs))
definitions_are S ds [] h a b = sym (or_false (reads_definition (with_defined S ds) h a b))
definitions_are S ds (x ∷ xs) h a b =
    definitions_are S (with_definition ds (x, length S.replications)) xs h a b
    ∙ (ap (λ c. c || list_any (same_tree (Node h a b)) (map (cell_of S.replications) xs)) (one_definition S ds x h a b)
    ∙ or_assoc (reads_definition (with_defined S ds) h a b) _ _)

-- one replication more

current_more : (rs : List (ℕ × ℕ)) (r : ℕ × ℕ) (t : Tree) → (current (rs ++ r ∷ []) t ≡ current rs t) ⊎ ((current rs t ≡ None) × (current (rs ++ r ∷ []) t ≡ Some (length rs + 1)))
current_more [] r Empty = inl refl
current_more [] r (Node h u v) = go (is_cons h && is_leaf r.0 u) v
  where
    go : (c : Bool) (v : Tree) → (cond c (plus_one (current [] v)) None ≡ None) ⊎ ((let o : Option ℕ = None in o) ≡ None) × (cond c (plus_one (current [] v)) None ≡ Some (0 + 1))
    go false v = inl refl
    go true Empty = inr (refl, refl)
    go true (Node k a b) = inl refl
current_more (q ∷ rs) r Empty = inl refl
current_more (q ∷ rs) r (Node h u v) = go (is_cons h && is_leaf q.0 u) (current rs v) (current (rs ++ r ∷ []) v) (current_more rs r v)
  where
    go : (c : Bool) (o m : Option ℕ) → (m ≡ o) ⊎ ((o ≡ None) × (m ≡ Some (length rs + 1))) → (cond c (plus_one m) None ≡ cond c (plus_one o) None) ⊎ ((cond c (plus_one o) None ≡ None) × (cond c (plus_one m) None ≡ Some (suc (length rs) + 1)))
    go false o m s = inl refl
    go true o m (inl e) = inl (ap plus_one e)
    go true o m (inr e) = inr (ap plus_one e.0, ap plus_one e.1 ∙ ap (λ (n : ℕ). Some n) (omega arith))

abbrev pub AreBounded : ℕ → List (ℕ × ℕ) → Type 0
AreBounded n ds = AllByRecursion (λ (d : ℕ × ℕ). d.1 ≤ n) ds

past_bound : (n : ℕ) (ds : List (ℕ × ℕ)) (x k : ℕ) → AreBounded n ds → n < k → is_defined ds (x, k) ≡ false
past_bound n [] x k m l = refl
past_bound n (d ∷ ds) x k m l = ap₂ ◌||◌ (ap (λ c. (x == d.0) && c) (ne_eqb k d.1 (λ e. omega (arith, e, m.0, l))) ∙ and_false (x == d.0)) (past_bound n ds x k m.1 l)

replication_keeps : (S : Seen) (r : ℕ × ℕ) (h : Head) (a b : Tree) → AreBounded (length S.replications) S.defined → reads_definition (record S { replications = S.replications ++ r ∷ [] }) h a b ≡ reads_definition S h a b
replication_keeps S r (Leaf x) a b m = refl
replication_keeps S r (Read x) a b m = ap (λ c. not (is_empty a) && (is_empty b && c)) (go (current S.replications a) (current (S.replications ++ r ∷ []) a) (current_more S.replications r a))
  where
    go : (o n : Option ℕ) → (n ≡ o) ⊎ ((o ≡ None) × (n ≡ Some (length S.replications + 1))) → is_defined_at S.defined x n ≡ is_defined_at S.defined x o
    go o n (inl e) = ap (is_defined_at S.defined x) e
    go o n (inr e) = ap (is_defined_at S.defined x) e.1 ∙ (past_bound (length S.replications) S.defined x (length S.replications + 1) m (omega arith) ∙ sym (ap (is_defined_at S.defined x) e.0))
replication_keeps S r h a b m = refl

-- what the second child of a node reads

abbrev newly : List (ℕ × ℕ) → Position → Head → Tree → Tree → Bool
newly rs w h a t = list_any (same_tree t) (map (cell_of rs) (defined_by h a)) || list_any (same_tree t) (listed_by w h a)

definitions_behind : (S : Seen) (w : Position) (h : Head) (a : Tree) (p q : ℕ) (k : Head) (x y : Tree) → AreBounded (length S.replications) S.defined → reads_definition (behind S w h a p q) k x y ≡ (reads_definition S k x y || list_any (same_tree (Node k x y)) (map (cell_of S.replications) (defined_by h a)))
definitions_behind S w (Repl i n) a p q k x y m = (go k) ∙ sym (or_false (reads_definition S k x y))
  where
    go : (k : Head) → reads_definition (behind S w (Repl i n) a p q) k x y ≡ reads_definition S k x y
    go (Leaf z) = replication_keeps S (i, n) (Leaf z) x y m
    go (Read z) = replication_keeps S (i, n) (Read z) x y m
    go k = refl
definitions_behind S w h a p q k x y m = same k ∙ definitions_are S S.defined (defined_by h a) k x y
  where
    same : (k : Head) → reads_definition (behind S w h a p q) k x y ≡ reads_definition (with_defined S (with_definitions S.defined (length S.replications) (defined_by h a))) k x y
    same (Leaf z) = refl
    same (Read z) = refl
    same k = refl

seen_behind : (S : Seen) (w : Position) (h : Head) (a : Tree) (p q : ℕ) (k : Head) (x y : Tree) → AreBounded (length S.replications) S.defined → is_reached (behind S w h a p q) k x y ≡ (is_reached S k x y || newly S.replications w h a (Node k x y))
seen_behind S w h a p q k x y m =
    ap₂ ◌||◌ (definitions_behind S w h a p q k x y m) (list_any-append (same_tree (Node k x y)) S.listed (listed_by w h a))
    ∙ or_exchange (reads_definition S k x y) _ (list_any (same_tree (Node k x y)) S.listed) _

reach_first : (w : Position) (h : Head) (Γ : Context) (t : Tree) → is_in_reach (first_context w h Γ) t ≡ is_in_reach Γ t
reach_first w Cons Γ t = go w
  where
    go : (w : Position) → is_in_reach (item_context w Γ) t ≡ is_in_reach Γ t
    go Bodies = refl
    go ElseBody = refl
    go w = refl
reach_first w h Γ t = refl

or_move : (c o n : Bool) → ((c || n) || o) ≡ ((c || o) || n)
or_move true o n = refl
or_move false true true = refl
or_move false true false = refl
or_move false false n = or_false n

-- more cells, or more of a branch's own
more_cells : (Γ : Context) (cs : List Tree) (t : Tree) → (list_any (same_tree t) (Γ.cells ++ cs) || list_any (same_tree t) Γ.own) ≡ (is_in_reach Γ t || list_any (same_tree t) cs)
more_cells Γ cs t = ap (λ b. b || list_any (same_tree t) Γ.own) (list_any-append (same_tree t) Γ.cells cs) ∙ or_move (list_any (same_tree t) Γ.cells) (list_any (same_tree t) Γ.own) (list_any (same_tree t) cs)

more_own : (Γ : Context) (cs : List Tree) (t : Tree) → (list_any (same_tree t) Γ.cells || list_any (same_tree t) (Γ.own ++ cs)) ≡ (is_in_reach Γ t || list_any (same_tree t) cs)
more_own Γ cs t = ap (λ b. list_any (same_tree t) Γ.cells || b) (list_any-append (same_tree t) Γ.own cs) ∙ sym (or_assoc (list_any (same_tree t) Γ.cells) (list_any (same_tree t) Γ.own) (list_any (same_tree t) cs))

reach_second : (w : Position) (h : Head) (a : Tree) (Γ : Context) (t : Tree) → is_in_reach (second_context w h a Γ) t ≡ (is_in_reach Γ t || newly Γ.replications w h a t)
reach_second w Cons a Γ t = go w
  where
    go : (w : Position) → is_in_reach (rest_context w a Γ) t ≡ (is_in_reach Γ t || newly Γ.replications w Cons a t)
    go Guards = more_cells Γ (items a) t
    go Cells = more_cells Γ (a ∷ []) t
    go Guarded = ap (λ b. b || false) (list_any-append (same_tree t) Γ.cells Γ.own)
    go w = sym (or_false (is_in_reach Γ t))
reach_second w (Repl i n) a Γ t = sym (or_false (is_in_reach Γ t))
reach_second w (In c) a Γ t = more_cells Γ (cells_of Γ.replications (second a)) t ∙ ap (λ b. is_in_reach Γ t || b) (sym (or_false (list_any (same_tree t) (cells_of Γ.replications (second a)))))
reach_second w (New x T) a Γ t = more_cells Γ (cell_of Γ.replications x ∷ []) t ∙ ap (λ b. is_in_reach Γ t || b) (sym (or_false (list_any (same_tree t) (cell_of Γ.replications x ∷ []))))
reach_second w (Let x T) a Γ t = more_cells Γ (cell_of Γ.replications x ∷ []) t ∙ ap (λ b. is_in_reach Γ t || b) (sym (or_false (list_any (same_tree t) (cell_of Γ.replications x ∷ []))))
reach_second w (Key x) a Γ t = more_cells Γ (cell_of Γ.replications x ∷ []) t ∙ ap (λ b. is_in_reach Γ t || b) (sym (or_false (list_any (same_tree t) (cell_of Γ.replications x ∷ []))))
reach_second w (Call x l) a Γ t = more_cells Γ (cell_of Γ.replications x ∷ []) t ∙ ap (λ b. is_in_reach Γ t || b) (sym (or_false (list_any (same_tree t) (cell_of Γ.replications x ∷ []))))
reach_second w (Event e) a Γ t = sym (or_false (is_in_reach Γ t))
reach_second w If a Γ t = sym (or_false (is_in_reach Γ t))
reach_second w Branch a Γ t = more_own Γ (cells_of Γ.replications a) t ∙ ap (λ b. is_in_reach Γ t || b) (sym (or_false (list_any (same_tree t) (cells_of Γ.replications a))))
reach_second w h a Γ t = sym (or_false (is_in_reach Γ t))

-- the tables reach what is in reach
abbrev pub ReachesAlike : Seen → Context → Type 0
ReachesAlike S Γ = (k : Head) (x y : Tree) → is_reached S k x y ≡ is_in_reach Γ (Node k x y)

pub reaches_first : (S : Seen) (w : Position) (h : Head) (Γ : Context) → ReachesAlike S Γ → ReachesAlike S (first_context w h Γ)
reaches_first S w h Γ m = λ k x y. m k x y ∙ sym (reach_first w h Γ (Node k x y))

pub reaches_second : (S : Seen) (w : Position) (h : Head) (a : Tree) (p q : ℕ) (Γ : Context) → S.replications ≡ Γ.replications → AreBounded (length S.replications) S.defined → ReachesAlike S Γ → ReachesAlike (behind S w h a p q) (second_context w h a Γ)
reaches_second S w h a p q Γ e n m = λ k x y.
    seen_behind S w h a p q k x y n
    ∙ (ap₂ (λ b (rs : List (ℕ × ℕ)). b || newly rs w h a (Node k x y)) (m k x y) e
    ∙ sym (reach_second w h a Γ (Node k x y)))

-- definitions stay bounded

bounded_later : (m n : ℕ) (ds : List (ℕ × ℕ)) → m ≤ n → AreBounded m ds → AreBounded n ds
bounded_later m n [] l a = tt
bounded_later m n (d ∷ ds) l a = (omega (arith, a.0, l), bounded_later m n ds l a.1)

bounded_append : (n : ℕ) (ds es : List (ℕ × ℕ)) → AreBounded n ds → AreBounded n es → AreBounded n (ds ++ es)
bounded_append n [] es a b = b
bounded_append n (d ∷ ds) es a b = (a.0, bounded_append n ds es a.1 b)

bounded_one : (n : ℕ) (ds : List (ℕ × ℕ)) (z : ℕ) → AreBounded n ds → AreBounded n (with_definition ds (z, n))
bounded_one n ds z a = go (is_defined ds (z, n))
  where
    go : (b : Bool) → AreBounded n (cond b ds (ds ++ (z, n) ∷ []))
    go true = a
    go false = bounded_append n ds ((z, n) ∷ []) a (omega arith, tt)

bounded_all : (n : ℕ) (ds : List (ℕ × ℕ)) (xs : List ℕ) → AreBounded n ds → AreBounded n (with_definitions ds n xs)
bounded_all n ds [] a = a
bounded_all n ds (x ∷ xs) a = bounded_all n (with_definition ds (x, n)) xs (bounded_one n ds x a)

below_longer : (h : Head) (rs : List (ℕ × ℕ)) → length rs ≤ length (replications_below h rs)
below_longer (Repl i n) rs = longer rs
  where
    longer : (rs : List (ℕ × ℕ)) → length rs ≤ length (rs ++ (i, n) ∷ [])
    longer [] = omega arith
    longer (r ∷ rs) = let l = longer rs in omega (arith, l)
below_longer h rs = omega arith

pub bounded_behind : (S : Seen) (w : Position) (h : Head) (a : Tree) (p q : ℕ) → AreBounded (length S.replications) S.defined → AreBounded (length (behind S w h a p q).replications) (behind S w h a p q).defined
bounded_behind S w h a p q m = bounded_later (length S.replications) (length (replications_below h S.replications)) (with_definitions S.defined (length S.replications) (defined_by h a)) (below_longer h S.replications) (bounded_all (length S.replications) S.defined (defined_by h a) m)
