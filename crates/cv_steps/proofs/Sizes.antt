-- In a game that is typed each cell has one size: that of its variable's sort, of a choice or of a coin.
use Rattle.std.proofs.Common.{◌≡◌, ℕ, zero, suc, ◌+◌, ◌==◌, Bool, true, false, List, [], ◌∷◌, ◌++◌, Option, Some, None, refl, sym, ap, ◌∙◌, arith, eqb-true}
use Rattle.std.proofs.lemmas.Bool.{both_ways, and_parts}
use Rattle.std.specs.List.{AllByRecursion}
use Rattle.cv_syntax_trees.specs.declared.head.Head.{Head}
use Rattle.cv_syntax_trees.specs.declared.head.Head.TheVariants as head
use Rattle.cv_syntax_trees.specs.declared.head.Head.TheVariants.{Binder, Branch, Cons, Find, If, In, Let, New, Par, Repl}
use Rattle.cv_syntax_trees.specs.Declarations.{Declaration}
use Rattle.cv_syntax_trees.specs.Tree.{Tree, Empty, Node, second}
use Rattle.cv_meaning.specs.Tapes.{Cell, Coin, Find_at, Key_at, Made_at, New_at, Picked_at, Test_at}
use Rattle.cv_meaning.specs.Interpretation.{Interpretation, Setting, setting_of}
use Rattle.cv_meaning.specs.Runs.{Adversary, Events, Mode, Random, Real}
use Rattle.cv_meaning.specs.Cells.{at_each_copy, bounds_under, cells_at, coin_cells, if_tested, test_cells, test_cells_at, tuples_below}
use Rattle.cv_meaning_laws.proofs.Lists.{each_flat_map}
use Rattle.cv_meaning_laws.specs.adequacy.Typed.{AreVariables, BelowParameter, Context, IsTyped, IsVariable, OfType, Scope, Sort, Variable}
use Rattle.cv_meaning.specs.Still.{head_is_still, is_still}
use Rattle.cv_scope_rules.specs.Phrases.{Phrase, Nil, Inputs, Body, Then, Else, Branches, Arm, Guards, Guarded, Pattern, Message, Indices, Binders, Cells, Terms, Term, is_phrase}
use Rattle.cv_steps.proofs.Flat.{nil_still, term_still, terms_still}
use Rattle.cv_syntax_trees.proofs.lists.Each.{AllByRecursion_append}

-- the name of a sort: of a type, or of a parameter
abbrev sort_name : Sort → ℕ
sort_name (OfType T) = T
sort_name (BelowParameter n) = n

abbrev pub name_of : Option Variable → ℕ
name_of None = 0
name_of (Some V) = sort_name V.sort

-- each definition names the sort of its variable

abbrev pub HeadNamesSort : Context → Head → Type 0
HeadNamesSort c (New x T) = T ≡ name_of (c.variables x)
HeadNamesSort c (Let x T) = T ≡ name_of (c.variables x)
HeadNamesSort c (Binder x T) = T ≡ name_of (c.variables x)
HeadNamesSort c h = Unit {0}

abbrev pub NamesSorts : Context → Tree → Type 0
NamesSorts c Empty = Unit {0}
NamesSorts c (Node h a b) = HeadNamesSort c h × NamesSorts c a × NamesSorts c b

module _ (c : Context) where
  still_head : (h : Head) → head_is_still h ≡ true → HeadNamesSort c h
  still_head (New x T) e = absurd (both_ways false refl e)
  still_head (Let x T) e = absurd (both_ways false refl e)
  still_head (Binder x T) e = absurd (both_ways false refl e)
  still_head h e = tt

  still_names : (t : Tree) → is_still t ≡ true → NamesSorts c t
  still_names Empty e = tt
  still_names (Node h a b) e =
      let p = and_parts (head_is_still h) _ e in
      let q = and_parts (is_still a) _ p.1 in (still_head h p.0, still_names a q.0, still_names b q.1)

  nil_names : (t : Tree) → is_phrase Nil t ≡ true → NamesSorts c t
  nil_names t e = still_names t (nil_still t e)

  term_names : (t : Tree) → is_phrase Term t ≡ true → NamesSorts c t
  term_names t e = still_names t (term_still t e)

  defined : (ps : Scope) (x : ℕ) (S : Sort) (T : ℕ) → sort_name S ≡ T → IsVariable c ps x S → T ≡ name_of (c.variables x)
  defined ps x S T n v = sym (ap name_of v ∙ n)

  binders_name : (ps : Scope) (sort : ℕ → Sort) → ((T : ℕ) → sort_name (sort T) ≡ T) → (t : Tree) → is_phrase Binders t ≡ true → AreVariables c ps sort t → NamesSorts c t
  unfolding is_phrase
  binders_name ps sort n Empty e v = tt
  binders_name ps sort n (Node (Binder x T) a b) e v =
      let p = and_parts (is_phrase Nil a) _ e in (defined ps x (sort T) T (n T) v.0, nil_names a p.0, binders_name ps sort n b p.1 v.1)
  binders_name ps sort n (Node h a b) e v = absurd (both_ways false refl e)

  pattern_names : (ps : Scope) (a : Tree) → is_phrase Pattern a ≡ true → AreVariables c ps OfType (second a) → NamesSorts c a
  unfolding is_phrase
  pattern_names ps (Node Cons i bs) e v = let p = and_parts (is_phrase Indices i) _ e in (tt, still_names i (terms_still Indices i refl p.0), binders_name ps OfType (λ T. refl) bs p.1 v)
  pattern_names ps a e v = absurd (both_ways false refl e)

  -- where such phrases are typed
  abbrev NamesAs : Phrase → Tree → Type 0
  NamesAs Inputs t = NamesSorts c t
  NamesAs Body t = NamesSorts c t
  NamesAs Then t = NamesSorts c t
  NamesAs Else t = NamesSorts c t
  NamesAs Branches t = NamesSorts c t
  NamesAs Arm t = NamesSorts c t
  NamesAs Guards t = NamesSorts c t
  NamesAs Guarded t = NamesSorts c t
  NamesAs σ t = Unit {0}

  names_as : (σ : Phrase) (ps : Scope) (t : Tree) → is_phrase σ t ≡ true → IsTyped c ps t → NamesAs σ t
  unfolding is_phrase IsTyped
  names_as Inputs ps (Node head.Stop a b) e k = let p = and_parts (is_phrase Nil a) _ e in (tt, nil_names a p.0, nil_names b p.1)
  names_as Inputs ps (Node Par a b) e k = let p = and_parts (is_phrase Inputs a) _ e in (tt, names_as Inputs ps a p.0 k.0, names_as Inputs ps b p.1 k.1)
  names_as Inputs ps (Node (Repl i n) a b) e k = let p = and_parts (is_phrase Nil a) _ e in (tt, nil_names a p.0, names_as Inputs (ps ++ (i, n) ∷ []) b p.1 k)
  names_as Inputs ps (Node (In x) a b) e k = let p = and_parts (is_phrase Pattern a) _ e in (tt, pattern_names ps a p.0 k.0, names_as Body ps b p.1 k.1)
  names_as Inputs ps t e k = absurd (both_ways false refl e)
  names_as Body ps (Node head.Yield a b) e k = let p = and_parts (is_phrase Nil a) _ e in (tt, nil_names a p.0, nil_names b p.1)
  names_as Body ps (Node (head.Out x) a b) e k = let p = and_parts (is_phrase Message a) _ e in (tt, still_names a (terms_still Message a refl p.0), names_as Inputs ps b p.1 k.1)
  names_as Body ps (Node (New x T) a b) e k = let p = and_parts (is_phrase Nil a) _ e in (defined ps x (OfType T) T refl k.0, nil_names a p.0, names_as Body ps b p.1 k.1)
  names_as Body ps (Node (Let x T) a b) e k = let p = and_parts (is_phrase Term a) _ e in (defined ps x (OfType T) T refl k.0, term_names a p.0, names_as Body ps b p.1 k.2)
  names_as Body ps (Node (head.Event x) a b) e k = let p = and_parts (is_phrase Terms a) _ e in (tt, still_names a (terms_still Terms a refl p.0), names_as Body ps b p.1 k.1)
  names_as Body ps (Node If a b) e k = let p = and_parts (is_phrase Term a) _ e in (tt, term_names a p.0, names_as Then ps b p.1 k.1)
  names_as Body ps (Node (Find l) a b) e k = let p = and_parts (is_phrase Branches a) _ e in (tt, names_as Branches ps a p.0 k.1, names_as Body ps b p.1 k.2)
  names_as Body ps t e k = absurd (both_ways false refl e)
  names_as Then ps (Node Cons a b) e k = let p = and_parts (is_phrase Body a) _ e in (tt, names_as Body ps a p.0 k.0, names_as Else ps b p.1 k.1)
  names_as Then ps t e k = absurd (both_ways false refl e)
  names_as Else ps (Node Cons a b) e k = let p = and_parts (is_phrase Body a) _ e in (tt, names_as Body ps a p.0 k.0, nil_names b p.1)
  names_as Else ps t e k = absurd (both_ways false refl e)
  names_as Branches ps Empty e k = tt
  names_as Branches ps (Node Cons a b) e k = let p = and_parts (is_phrase Arm a) _ e in (tt, names_as Arm ps a p.0 k.0, names_as Branches ps b p.1 k.1)
  names_as Branches ps t e k = absurd (both_ways false refl e)
  names_as Arm ps (Node Branch a b) e k = let p = and_parts (is_phrase Binders a) _ e in (tt, binders_name ps BelowParameter (λ T. refl) a p.0 k.0, names_as Guards ps b p.1 k.3)
  names_as Arm ps t e k = absurd (both_ways false refl e)
  names_as Guards ps (Node Cons a b) e k = let p = and_parts (is_phrase Cells a) _ e in (tt, still_names a (terms_still Cells a refl p.0), names_as Guarded ps b p.1 k.1)
  names_as Guards ps t e k = absurd (both_ways false refl e)
  names_as Guarded ps (Node Cons a b) e k = let p = and_parts (is_phrase Term a) _ e in (tt, term_names a p.0, names_as Body ps b p.1 k.1)
  names_as Guarded ps t e k = absurd (both_ways false refl e)
  names_as σ ps t e k = tt

  pub typed_names : (game : Tree) → is_phrase Inputs game ≡ true → IsTyped c [] game → NamesSorts c game
  typed_names game e k = names_as Inputs [] game e k

-- sizes

abbrev coin_size : List ℕ → ℕ → ℕ
coin_size [] k = 0
coin_size (n ∷ ns) zero = n
coin_size (n ∷ ns) (suc k) = coin_size ns k

abbrev tested_in : Mode → ℕ
tested_in Events = 0
tested_in (Real one x) = x
tested_in (Random one x) = x

abbrev pub cell_size : Context → Interpretation → Mode → Adversary → Cell → ℕ
cell_size c i m a (New_at x u) = i.type_size (name_of (c.variables x))
cell_size c i m a (Find_at l u) = i.choices
cell_size c i m a (Test_at u) = i.type_size (name_of (c.variables (tested_in m)))
cell_size c i m a (Key_at u) = 1
cell_size c i m a (Made_at x u n) = 0
cell_size c i m a (Picked_at x u n) = 0
cell_size c i m a (Coin k) = coin_size a.coins k

module _ (c : Context) (ds : List Declaration) (i : Interpretation) (m : Mode) (a : Adversary) where
  abbrev g : Setting
  g = setting_of ds i

  abbrev pub IsSized : (Cell × ℕ) → Type 0
  IsSized d = d.1 ≡ cell_size c i m a d.0

  node_sizes : (h : Head) (u : List ℕ) → HeadNamesSort c h → AllByRecursion IsSized (cells_at g h u)
  node_sizes (New x T) u e = (ap i.type_size e, tt)
  node_sizes (Find l) u e = (refl, tt)
  node_sizes (head.Key x) u e = (refl, tt)
  node_sizes h u e = tt

  tested_sizes : (x y T : ℕ) (u : List ℕ) → tested_in m ≡ x → T ≡ name_of (c.variables y) → AllByRecursion IsSized (if_tested (y == x) u (i.type_size T))
  tested_sizes x y T u f e = go (y == x) refl
    where
      go : (b : Bool) → (y == x) ≡ b → AllByRecursion IsSized (if_tested b u (i.type_size T))
      go true k = (ap i.type_size (e ∙ ap (λ z. name_of (c.variables z)) (eqb-true y x k ∙ sym f)), tt)
      go false k = tt

  test_sizes : (x : ℕ) → tested_in m ≡ x → (h : Head) (u : List ℕ) → HeadNamesSort c h → AllByRecursion IsSized (test_cells_at g x h u)
  test_sizes x f (New y T) u e = tested_sizes x y T u f e
  test_sizes x f (Let y T) u e = tested_sizes x y T u f e
  test_sizes x f (Binder y T) u e = tested_sizes x y T u f e
  test_sizes x f h u e = tt

  copies_sizes : (give : Head → List ℕ → List (Cell × ℕ)) → ((h : Head) (u : List ℕ) → HeadNamesSort c h → AllByRecursion IsSized (give h u)) → (bounds : List ℕ) (t : Tree) → NamesSorts c t → AllByRecursion IsSized (at_each_copy g give bounds t)
  unfolding at_each_copy
  copies_sizes give k bounds Empty n = tt
  copies_sizes give k bounds (Node h x y) n =
      AllByRecursion_append IsSized _ _ (each_flat_map IsSized (give h) (tuples_below bounds) (λ u. k h u n.0))
      (AllByRecursion_append IsSized _ _ (copies_sizes give k (bounds_under g bounds h) x n.1) (copies_sizes give k (bounds_under g bounds h) y n.2))

  coins_sizes : (k : ℕ) (ns : List ℕ) → ((j : ℕ) → coin_size a.coins (j + k) ≡ coin_size ns j) → AllByRecursion IsSized (coin_cells k ns)
  coins_sizes k [] e = tt
  coins_sizes k (n ∷ ns) e =
      let first : n ≡ coin_size a.coins k = sym (ap (coin_size a.coins) (let z : k ≡ 0 + k = omega arith in z) ∙ e 0) in (
        first,
        coins_sizes (suc k) ns (λ j. ap (coin_size a.coins) (let z : j + suc k ≡ suc j + k = omega arith in z) ∙ e (suc j)),
      )

  tests_sizes : (mode : Mode) → mode ≡ m → (game : Tree) → NamesSorts c game → AllByRecursion IsSized (test_cells g mode game)
  tests_sizes Events e game n = tt
  tests_sizes (Real one x) e game n = copies_sizes (test_cells_at g x) (test_sizes x (ap tested_in (sym e))) [] game n
  tests_sizes (Random one x) e game n = copies_sizes (test_cells_at g x) (test_sizes x (ap tested_in (sym e))) [] game n

  -- the cells of an experiment, with repeats
  abbrev pub all_cells : Tree → List (Cell × ℕ)
  all_cells game = at_each_copy g (cells_at g) [] game ++ (test_cells g m game ++ coin_cells 0 a.coins)

  pub all_sizes : (game : Tree) → NamesSorts c game → AllByRecursion IsSized (all_cells game)
  all_sizes game n =
      AllByRecursion_append IsSized _ _ (copies_sizes (cells_at g) node_sizes [] game n)
      (AllByRecursion_append IsSized _ _ (tests_sizes m refl game n) (coins_sizes 0 a.coins (λ j. ap (coin_size a.coins) (let z : j + 0 ≡ j = omega arith in z))))
