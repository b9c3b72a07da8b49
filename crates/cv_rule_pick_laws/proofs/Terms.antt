-- A tree with terms for cells that have their values has the same value.
use Rattle.std.proofs.Common.{◌≡◌, ℕ, ◌==◌, ◌&&◌, ◌||◌, not, Bool, true, false, cond, List, [], ◌∷◌, map, Option, Some, None, refl, sym, ap, ap₂, subst, ◌∙◌, eq-eqb}
use Rattle.std.proofs.lemmas.Bool.{both_ways, and_parts}
use Rattle.std.specs.List.{AllByRecursion}
use Rattle.cv_syntax_trees.specs.declared.head.Head.{Head}
use Rattle.cv_syntax_trees.specs.declared.head.Head.TheVariants.{Leaf, Read, Apply, Eq, And, Or, Not, Yes, No, Cons, Binder, Name}
use Rattle.cv_syntax_trees.specs.Tree.{Tree, Empty, Node, same_tree, second}
use Rattle.cv_syntax_trees.proofs.Equality.{same_tree_exact}
use Rattle.cv_meaning.specs.Interpretation.{Setting}
use Rattle.cv_meaning.specs.Memory.{Indices, Store}
use Rattle.cv_meaning.specs.Terms.{bit, is_one, or_zero, value, values}
use Rattle.cv_scope_rules.specs.Context.{cell_of}
use Rattle.cv_scope_rules.specs.Phrases.{Phrase, Nil, Pattern, Message, Indices as Names, Binders, Terms, Term, is_phrase}
use Rattle.cv_scene.specs.lines.Given.{or_node}
use Rattle.cv_scene.specs.Instances.{is_read_of}
use Rattle.cv_scene.specs.Sights.{variable_of}
use Rattle.cv_steps_laws.proofs.Unletted.{is_bare}
use Rattle.cv_rule_pick.specs.Picking.{term_of, with_terms}

abbrev pub reads : Head → Bool
reads (Leaf x) = true
reads (Read x) = true
reads h = false

-- a read of a variable
abbrev pub IsRead : Tree → Type 0
IsRead Empty = ⊥
IsRead (Node h a b) = reads h ≡ true

pub cells_read : (rs : List (ℕ × ℕ)) (xs : List ℕ) → AllByRecursion IsRead (map (cell_of rs) xs)
cells_read rs [] = tt
cells_read rs (x ∷ xs) = (one rs, cells_read rs xs)
  where
    one : (rs : List (ℕ × ℕ)) → IsRead (cell_of rs x)
    one [] = refl
    one (r ∷ rs) = refl

cell_variable : (rs : List (ℕ × ℕ)) (y : ℕ) → variable_of (cell_of rs y) ≡ Some y
cell_variable [] y = refl
cell_variable (r ∷ rs) y = refl

-- what has none of these names is none of the cells
pub none_other : (rs : List (ℕ × ℕ)) (ys : List ℕ) (ms t : Tree) → AllByRecursion (λ y. is_read_of y (variable_of t) ≡ false) ys → term_of (map (cell_of rs) ys) ms t ≡ None
none_other rs [] ms t k = refl
none_other rs (y ∷ ys) Empty t k = refl
none_other rs (y ∷ ys) (Node h m ms) t k = go (same_tree t (cell_of rs y)) refl (none_other rs ys ms t k.1)
  where
    go : (v : Bool) → same_tree t (cell_of rs y) ≡ v → term_of (map (cell_of rs) ys) ms t ≡ None → cond v (Some m) (term_of (map (cell_of rs) ys) ms t) ≡ None
    go true f l = absurd (both_ways (is_read_of y (variable_of t)) k.0 (ap (λ z. is_read_of y (variable_of z)) (same_tree_exact t (cell_of rs y) f) ∙ (ap (is_read_of y) (cell_variable rs y) ∙ eq-eqb y y refl)))
    go false f l = l

-- the term is that of a cell

-- a fact of each cell and its term
abbrev pub AllBoth : (Tree → Tree → Type 0) → List Tree → Tree → Type 0
AllBoth P [] ms = Unit {0}
AllBoth P (c ∷ cs) Empty = Unit {0}
AllBoth P (c ∷ cs) (Node h m ms) = P c m × AllBoth P cs ms

pub term_has : (P : Tree → Tree → Type 0) (cs : List Tree) (ms t m : Tree) → AllBoth P cs ms → term_of cs ms t ≡ Some m → P t m
term_has P [] ms t m k e = absurd (cc)
term_has P (c ∷ cs) Empty t m k e = absurd (cc)
term_has P (c ∷ cs) (Node h n ms) t m k e = go (same_tree t c) refl e (term_has P cs ms t m k.1)
  where
    some_same : (n m : Tree) → ◌≡◌ {A = Option Tree} (Some n) (Some m) → n ≡ m
    some_same n m e = cc

    go : (v : Bool) → same_tree t c ≡ v → cond v (Some n) (term_of cs ms t) ≡ Some m → (term_of cs ms t ≡ Some m → P t m) → P t m
    go true f e l = subst (P t) (some_same n m e) (subst (λ z. P z n) (sym (same_tree_exact t c f)) k.0)
    go false f e l = l e

abbrev pub SameValues : Setting → Indices → Store → Phrase → Tree → Tree → Type 0
SameValues g at n Term t u = value g at n t ≡ value g at n u
SameValues g at n Terms t u = values g at n t ≡ values g at n u
SameValues g at n Message t u = values g at n (second t) ≡ values g at n (second u)
SameValues g at n σ t u = Unit {0}

module _ (cs : List Tree) (ms : Tree) (are : AllByRecursion IsRead cs) where
  pub none_for : (h : Head) (a b : Tree) → reads h ≡ false → term_of cs ms (Node h a b) ≡ None
  none_for h a b e = each cs ms are
    where
      each : (ds : List Tree) (ns : Tree) → AllByRecursion IsRead ds → term_of ds ns (Node h a b) ≡ None
      each [] ns r = refl
      each (c ∷ ds) Empty r = refl
      each (c ∷ ds) (Node k n ns) r = go (same_tree (Node h a b) c) refl (each ds ns r.1)
        where
          go : (v : Bool) → same_tree (Node h a b) c ≡ v → term_of ds ns (Node h a b) ≡ None → cond v (Some n) (term_of ds ns (Node h a b)) ≡ None
          go true f l = absurd (both_ways (reads h) e (subst IsRead (sym (same_tree_exact (Node h a b) c f)) r.0))
          go false f l = l

  -- a node that is none of the cells stays
  pub with_kept : (h : Head) (a b : Tree) → term_of cs ms (Node h a b) ≡ None → with_terms cs ms (Node h a b) ≡ Node h (with_terms cs ms a) (with_terms cs ms b)
  unfolding with_terms
  with_kept h a b e = ap (λ o. or_node o h (with_terms cs ms a) (with_terms cs ms b)) e

  pub with_node : (h : Head) (a b : Tree) → reads h ≡ false → with_terms cs ms (Node h a b) ≡ Node h (with_terms cs ms a) (with_terms cs ms b)
  with_node h a b e = with_kept h a b (none_for h a b e)

  pub with_term : (h : Head) (a b m : Tree) → term_of cs ms (Node h a b) ≡ Some m → with_terms cs ms (Node h a b) ≡ m
  unfolding with_terms
  with_term h a b m e = ap (λ o. or_node o h (with_terms cs ms a) (with_terms cs ms b)) e

  pub with_bare : (σ : Phrase) (t : Tree) → is_bare σ ≡ true → is_phrase σ t ≡ true → with_terms cs ms t ≡ t
  unfolding with_terms is_phrase
  with_bare σ Empty f e = refl
  with_bare Pattern (Node Cons a b) f e = let p = and_parts (is_phrase Names a) _ e in with_node Cons a b refl ∙ ap₂ (Node Cons) (with_bare Names a refl p.0) (with_bare Binders b refl p.1)
  with_bare Names (Node (Name i) a b) f e = let p = and_parts (is_phrase Nil a) _ e in with_node (Name i) a b refl ∙ ap₂ (Node (Name i)) (with_bare Nil a refl p.0) (with_bare Names b refl p.1)
  with_bare Binders (Node (Binder y T) a b) f e = let p = and_parts (is_phrase Nil a) _ e in with_node (Binder y T) a b refl ∙ ap₂ (Node (Binder y T)) (with_bare Nil a refl p.0) (with_bare Binders b refl p.1)
  with_bare Nil (Node h a b) f e = absurd (both_ways false refl e)
  with_bare Pattern (Node h a b) f e = absurd (both_ways false refl e)
  with_bare Names (Node h a b) f e = absurd (both_ways false refl e)
  with_bare Binders (Node h a b) f e = absurd (both_ways false refl e)
  with_bare σ (Node h a b) f e = absurd (both_ways false refl f)

  module _ (g : Setting) (at : Indices) (n : Store) (equal : AllBoth (λ c m. value g at n c ≡ value g at n m) cs ms) where
    node_same : (h : Head) (a b : Tree) → value g at n (Node h a b) ≡ value g at n (Node h (with_terms cs ms a) (with_terms cs ms b)) → value g at n (Node h a b) ≡ value g at n (with_terms cs ms (Node h a b))
    node_same h a b e = go (term_of cs ms (Node h a b)) refl
      where
        go : (o : Option Tree) → term_of cs ms (Node h a b) ≡ o → value g at n (Node h a b) ≡ value g at n (with_terms cs ms (Node h a b))
        go None f = e ∙ ap (value g at n) (sym (with_kept h a b f))
        go (Some m) f = term_has (λ c m. value g at n c ≡ value g at n m) cs ms (Node h a b) m equal f ∙ ap (value g at n) (sym (with_term h a b m f))

    pub same_values : (σ : Phrase) (t : Tree) → is_phrase σ t ≡ true → SameValues g at n σ t (with_terms cs ms t)
    unfolding value values is_phrase with_terms
    same_values Term (Node (Leaf x) a b) e = node_same (Leaf x) a b refl
    same_values Term (Node (Read x) a b) e = node_same (Read x) a b (ap (λ vs. or_zero (n x vs)) (same_values Terms a (and_parts (is_phrase Terms a) _ e).0))
    same_values Term (Node (Apply f) a b) e = node_same (Apply f) a b (ap (g.interpretation.table f) (same_values Terms a (and_parts (is_phrase Terms a) _ e).0))
    same_values Term (Node Eq a b) e = let p = and_parts (is_phrase Term a) _ e in node_same Eq a b (ap₂ (λ v w. bit (v == w)) (same_values Term a p.0) (same_values Term b p.1))
    same_values Term (Node And a b) e = let p = and_parts (is_phrase Term a) _ e in node_same And a b (ap₂ (λ v w. bit (is_one v && is_one w)) (same_values Term a p.0) (same_values Term b p.1))
    same_values Term (Node Or a b) e = let p = and_parts (is_phrase Term a) _ e in node_same Or a b (ap₂ (λ v w. bit (is_one v || is_one w)) (same_values Term a p.0) (same_values Term b p.1))
    same_values Term (Node Not a b) e = node_same Not a b (ap (λ v. bit (not (is_one v))) (same_values Term a (and_parts (is_phrase Term a) _ e).0))
    same_values Term (Node Yes a b) e = node_same Yes a b refl
    same_values Term (Node No a b) e = node_same No a b refl
    same_values Term t e = absurd (both_ways false refl e)
    same_values Terms Empty e = refl
    same_values Terms (Node Cons a b) e = let p = and_parts (is_phrase Term a) _ e in ap₂ ◌∷◌ (same_values Term a p.0) (same_values Terms b p.1) ∙ ap (values g at n) (sym (with_node Cons a b refl))
    same_values Terms t e = absurd (both_ways false refl e)
    same_values Message (Node Cons a b) e = same_values Terms b (and_parts (is_phrase Names a) _ e).1 ∙ ap (λ t. values g at n (second t)) (sym (with_node Cons a b refl))
    same_values Message t e = absurd (both_ways false refl e)
    same_values σ t e = tt
