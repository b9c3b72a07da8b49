-- The first side that is shorter, head by head.
use Rattle.std.proofs.Common.{◌≡◌, ℕ, ◌+◌, ◌<◌, ◌≤◌, Bool, true, false, ◌&&◌, List, [], ◌∷◌, ◌++◌, Option, Some, None, refl, sym, ap, subst, ◌∙◌, arith, lt-ltb, le-ltb}
use Rattle.std.specs.Prelude.{if◌then◌else◌}
use Rattle.std.proofs.lemmas.Bool.{and_parts, both_ways}
use Rattle.cv_syntax_trees.specs.declared.head.Head.{Head}
use Rattle.cv_syntax_trees.specs.declared.head.Head.TheVariants.{Leaf, Read, Apply, Eq, And, Or, Not, Yes, No}
use Rattle.cv_syntax_trees.specs.Head.{weight}
use Rattle.cv_syntax_trees.specs.Tree.{Tree, Empty, Node, same_tree, size}
use Rattle.cv_syntax.proofs.Trees.{size_open}
use Rattle.cv_scope_rules.specs.Phrases.{Nil, Term, is_phrase}
use Rattle.cv_scene.specs.lines.Truths.{no, yes}
use Rattle.cv_settling_rules.specs.Candidates.{when}
use Rattle.cv_settling_rules.specs.Equations.{of_double}
use Rattle.cv_settling.specs.Truths.{first_smaller, shorter_than_and, shorter_than_equality, shorter_than_not, shorter_than_or, truth_of, under_not}

-- a list whose items stand in it if tests hold

or_when : (b : Bool) (n : ℕ) (u : Tree) (us : List Tree) → size u < n → first_smaller n (when b u ++ us) ≡ (if b then Some u else first_smaller n us)
or_when true n u us l = ap (λ c. if c then Some u else first_smaller n us) (lt-ltb (size u) n l)
or_when false n u us l = refl

last_when : (b : Bool) (n : ℕ) (u : Tree) → size u < n → first_smaller n (when b u) ≡ (if b then Some u else None)
last_when true n u l = ap (λ c. if c then Some u else None) (lt-ltb (size u) n l)
last_when false n u l = refl

passed : (n : ℕ) (u : Tree) (us : List Tree) → n ≤ size u → first_smaller n (u ∷ us) ≡ first_smaller n us
passed n u us l = ap (λ c. if c then Some u else first_smaller n us) (le-ltb (size u) n l)

or_else : (b : Bool) (u : Tree) (o p : Option Tree) → o ≡ p → (if b then Some u else o) ≡ (if b then Some u else p)
or_else b u o p e = ap (λ q. if b then Some u else q) e

-- sizes

size_yes : size yes ≡ 1
unfolding size
size_yes = refl

size_no : size no ≡ 1
unfolding size
size_no = refl

heavy : (h : Head) (a b : Tree) → weight h ≡ 1 → 0 < size (Node h a b)
heavy h a b w = omega (arith, size_open (Node h a b))

term_size : (t : Tree) → is_phrase Term t ≡ true → 0 < size t
unfolding is_phrase
term_size Empty e = absurd (both_ways _ refl e)
term_size (Node (Leaf x) a b) e = heavy (Leaf x) a b refl
term_size (Node (Read x) a b) e = heavy (Read x) a b refl
term_size (Node (Apply x) a b) e = heavy (Apply x) a b refl
term_size (Node Eq a b) e = heavy Eq a b refl
term_size (Node And a b) e = heavy And a b refl
term_size (Node Or a b) e = heavy Or a b refl
term_size (Node Not a b) e = heavy Not a b refl
term_size (Node Yes a b) e = heavy Yes a b refl
term_size (Node No a b) e = heavy No a b refl
term_size (Node h a b) e = absurd (both_ways _ refl e)

-- heads with two sides
module _ (m n : Tree) (l : 0 < size m) (k : 0 < size n) where
  equality_law : shorter_than_equality m n ≡ truth_of (Node Eq m n)
  equality_law =
      let s = size_open (Node Eq m n) in
      let back = size_open (Node Eq n m) in
      let whole = size (Node Eq m n) in
      sym (or_when (same_tree n yes) whole m _ (omega arith)
      ∙ or_else (same_tree n yes) m _ _ (or_when (same_tree n m) whole yes _ (omega (arith, size_yes))
      ∙ or_else (same_tree n m) yes _ _ (passed whole (Node Eq n m) [] (omega arith))))

  and_law : shorter_than_and m n ≡ truth_of (Node And m n)
  and_law =
      let s = size_open (Node And m n) in
      let whole = size (Node And m n) in
      sym (or_when (same_tree n yes) whole m _ (omega arith)
      ∙ or_else (same_tree n yes) m _ _ (or_when (same_tree m yes) whole n _ (omega arith)
      ∙ or_else (same_tree m yes) n _ _ (or_when (same_tree n no) whole no _ (omega (arith, size_no))
      ∙ or_else (same_tree n no) no _ _ (last_when (same_tree m no) whole no (omega (arith, size_no))))))

  or_law : shorter_than_or m n ≡ truth_of (Node Or m n)
  or_law =
      let s = size_open (Node Or m n) in
      let whole = size (Node Or m n) in
      sym (or_when (same_tree n yes) whole yes _ (omega (arith, size_yes))
      ∙ or_else (same_tree n yes) yes _ _ (or_when (same_tree m yes) whole yes _ (omega (arith, size_yes))
      ∙ or_else (same_tree m yes) yes _ _ (or_when (same_tree n no) whole m _ (omega arith)
      ∙ or_else (same_tree n no) m _ _ (last_when (same_tree m no) whole n (omega arith)))))

-- a negation
double_law : (m : Tree) (n : ℕ) → size m ≤ n → 0 < size m → under_not m ≡ first_smaller n (of_double m)
double_law (Node Not a b) n l k = sym (ap (λ c. if c then Some a else None) (lt-ltb (size a) n (omega (arith, size_open (Node Not a b)))))
double_law m n l k = refl

not_law : (m e : Tree) → size e ≡ 0 → 0 < size m → shorter_than_not m ≡ truth_of (Node Not m e)
not_law m e n k =
    let s = size_open (Node Not m e) in
    let q = size_open (Node Eq m no) in
    let whole = size (Node Not m e) in
    sym (passed whole (Node Eq m no) _ (omega (arith, size_no))
    ∙ (or_when (same_tree m yes) whole no _ (omega (arith, size_no))
    ∙ or_else (same_tree m yes) no _ _ (or_when (same_tree m no) whole yes _ (omega (arith, size_yes))
    ∙ or_else (same_tree m no) yes _ _ (sym (double_law m whole (omega arith) k)))))

pub no_term : (t : Tree) → t ≡ Empty → is_phrase Term t ≡ true → ⊥
unfolding is_phrase
no_term t e p = let f : is_phrase Term Empty ≡ true = subst (λ u. is_phrase Term u ≡ true) e p in both_ways _ refl f

-- parts of terms

two_terms : (m n : Tree) → (is_phrase Term m && is_phrase Term n) ≡ true → (0 < size m) × (0 < size n)
two_terms m n e = let p = and_parts (is_phrase Term m) _ e in (term_size m p.0, term_size n p.1)

nothing : (t : Tree) → is_phrase Nil t ≡ true → size t ≡ 0
unfolding is_phrase
nothing Empty e = size_open Empty
nothing (Node h a b) e = absurd (both_ways _ refl e)

equality_parts : (m n : Tree) → is_phrase Term (Node Eq m n) ≡ true → (0 < size m) × (0 < size n)
unfolding is_phrase
equality_parts m n e = two_terms m n e

and_parts_of : (m n : Tree) → is_phrase Term (Node And m n) ≡ true → (0 < size m) × (0 < size n)
unfolding is_phrase
and_parts_of m n e = two_terms m n e

or_parts_of : (m n : Tree) → is_phrase Term (Node Or m n) ≡ true → (0 < size m) × (0 < size n)
unfolding is_phrase
or_parts_of m n e = two_terms m n e

not_parts : (m n : Tree) → is_phrase Term (Node Not m n) ≡ true → (0 < size m) × (size n ≡ 0)
unfolding is_phrase
not_parts m n e = let p = and_parts (is_phrase Term m) _ e in (term_size m p.0, nothing n p.1)

-- at a node of the pool
module _ (t : Tree) (h : Head) (a b : Tree) (e : t ≡ Node h a b) (p : is_phrase Term t ≡ true) where
  at_head : (k : Head) → h ≡ k → t ≡ Node k a b
  at_head k f = e ∙ ap (λ i. Node i a b) f

  phrase_at : (k : Head) → h ≡ k → is_phrase Term (Node k a b) ≡ true
  phrase_at k f = subst (λ u. is_phrase Term u ≡ true) (at_head k f) p

  pub truth_of_equality : h ≡ Eq → shorter_than_equality a b ≡ truth_of t
  truth_of_equality f = let q = equality_parts a b (phrase_at Eq f) in equality_law a b q.0 q.1 ∙ ap truth_of (sym (at_head Eq f))

  pub truth_of_and : h ≡ And → shorter_than_and a b ≡ truth_of t
  truth_of_and f = let q = and_parts_of a b (phrase_at And f) in and_law a b q.0 q.1 ∙ ap truth_of (sym (at_head And f))

  pub truth_of_or : h ≡ Or → shorter_than_or a b ≡ truth_of t
  truth_of_or f = let q = or_parts_of a b (phrase_at Or f) in or_law a b q.0 q.1 ∙ ap truth_of (sym (at_head Or f))

  pub truth_of_not : h ≡ Not → shorter_than_not a ≡ truth_of t
  truth_of_not f = let q = not_parts a b (phrase_at Not f) in not_law a b q.1 q.0 ∙ ap truth_of (sym (at_head Not f))

no_truth : (h : Head) (a b : Tree) → (h ≡ Eq → ⊥) → (h ≡ And → ⊥) → (h ≡ Or → ⊥) → (h ≡ Not → ⊥) → None ≡ truth_of (Node h a b)
no_truth Eq a b f g i j = absurd (f refl)
no_truth And a b f g i j = absurd (g refl)
no_truth Or a b f g i j = absurd (i refl)
no_truth Not a b f g i j = absurd (j refl)
no_truth h a b f g i j = refl

pub truth_of_other : (t : Tree) (h : Head) (a b : Tree) → t ≡ Node h a b → (h ≡ Eq → ⊥) → (h ≡ And → ⊥) → (h ≡ Or → ⊥) → (h ≡ Not → ⊥) → None ≡ truth_of t
truth_of_other t h a b e f g i j = no_truth h a b f g i j ∙ ap truth_of (sym e)

pub truth_of_nothing : (t : Tree) → t ≡ Empty → None ≡ truth_of t
truth_of_nothing t e = ap truth_of (sym e)
