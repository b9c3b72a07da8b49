-- What the lines outside blocks say, one by one.
use Rattle.std.proofs.Common.{◌≡◌, ℕ, ◌+◌, ◌-◌, Bool, true, false, List, [], ◌∷◌, length, drop, Some, Option, zero, suc, refl, sym, ap, ap₂, ◌∙◌, arith, ◌&&◌}
use Rattle.std.proofs.lemmas.Bool.{both_ways}
use Rattle.cv_pool.specs.declared.node.NodeId.{NodeId}
use Rattle.cv_pool.specs.KindTree.{KindTree}
use Rattle.cv_syntax_trees.specs.declared.head.Head.TheVariants as head
use Rattle.cv_syntax.specs.declared.open.Opened.{Opened}
use Rattle.cv_syntax_trees.specs.Children.{is_empty}
use Rattle.cv_syntax_trees.specs.Tree.{Tree, Empty, Node}
use Rattle.cv_syntax.specs.PoolTrees.{tree_at}
use Rattle.cv_scene.specs.lines.Ends.{ends_in, same_statement, same_statements}
use Rattle.cv_scene.specs.lines.Lines.{Lines, End, By, Cases, Statement, Holds, lines_of, statements}
use Rattle.cv_derive_lines.specs.declared.lines.Line.{Line}
use Rattle.cv_derive_lines.specs.declared.lines.Claim.{Claim}
use Rattle.cv_derive_lines.specs.Views.{front, in_front, statement_of}
use Rattle.cv_derive_lines.proofs.Fronts.{line_at, lines_front, no_lines}

pub no_statements : (t : Tree) → t ≡ Empty → statements (lines_of t) ≡ []
unfolding statements
no_statements t e = ap statements (no_lines t e)

-- the first statement of lines
abbrev pub first_said : Lines → Statement
first_said End = Holds Empty
first_said (By t r rest) = t
first_said (Cases c d e u rest) = Holds u

abbrev rest_of : Lines → Lines
rest_of End = End
rest_of (By t r rest) = rest
rest_of (Cases c d e u rest) = rest

front_rest : (a : Tree) (rest : Lines) → rest_of (front a rest) ≡ rest
front_rest Empty rest = refl
front_rest (Node head.Line t r) rest = refl
front_rest (Node head.Defined t r) rest = refl
front_rest (Node head.Cases t (Node d first (Node e second u))) rest = refl
front_rest (Node head.Cases t (Node d first Empty)) rest = refl
front_rest (Node head.Cases t Empty) rest = refl
front_rest (Node h t r) rest = refl

front_said : (a : Tree) (rest : Lines) → statements (front a rest) ≡ first_said (front a rest) ∷ statements rest
unfolding statements
front_said Empty rest = refl
front_said (Node head.Line t r) rest = refl
front_said (Node head.Defined t r) rest = refl
front_said (Node head.Cases t (Node d first (Node e second u))) rest = refl
front_said (Node head.Cases t (Node d first Empty)) rest = refl
front_said (Node head.Cases t Empty) rest = refl
front_said (Node h t r) rest = refl

module _ (trees : List KindTree) (at : Option NodeId) (k : NodeId) (o : Opened) (e : at ≡ Some k) (f : tree_at trees (Some k) ≡ Node o.head (tree_at trees o.first) (tree_at trees o.second)) where
  -- some statement, and those behind
  pub statements_behind : statements (lines_of (tree_at trees at)) ≡ first_said (front (tree_at trees o.first) (lines_of (tree_at trees o.second))) ∷ statements (lines_of (tree_at trees o.second))
  statements_behind = ap (λ t. statements (lines_of t)) (ap (tree_at trees) e ∙ f) ∙ (ap statements (lines_front o.head (tree_at trees o.first) (tree_at trees o.second)) ∙ front_said (tree_at trees o.first) (lines_of (tree_at trees o.second)))

  pub length_behind : length (statements (lines_of (tree_at trees at))) ≡ 1 + length (statements (lines_of (tree_at trees o.second)))
  length_behind = ap length statements_behind ∙ omega arith

  -- the statement of the line there
  pub statements_at : (L : Line) (T : Claim) → ((rest : Lines) → in_front trees L rest ≡ front (tree_at trees o.first) rest) → ((trees : List KindTree) (rest : Lines) → statements (in_front trees L rest) ≡ statement_of trees T ∷ statements rest) → statements (lines_of (tree_at trees at)) ≡ statement_of trees T ∷ statements (lines_of (tree_at trees o.second))
  statements_at L T g h = ap statements (line_at trees at k o L e f g) ∙ h trees (lines_of (tree_at trees o.second))

some_statements : (h : Tree) → (t : Tree) → (h ≡ Empty → ⊥) → t ≡ h → statements (lines_of t) ≡ first_said (lines_of h) ∷ statements (rest_of (lines_of h))
some_statements Empty t n e = absurd (n refl)
some_statements (Node h a b) t n e = ap (λ u. statements (lines_of u)) e ∙ go (lines_of (Node h a b)) (lines_front h a b)
  where
    go : (l : Lines) → l ≡ front a (lines_of b) → statements l ≡ first_said l ∷ statements (rest_of l)
    go l f = ap statements f ∙ (front_said a (lines_of b) ∙ sym (ap (λ k. first_said k ∷ statements (rest_of k)) f ∙ ap (λ x. first_said (front a (lines_of b)) ∷ statements x) (front_rest a (lines_of b))))

-- skipping

drop_none : {A : Type 0} (k : ℕ) → drop {A = A} k [] ≡ []
drop_none zero = refl
drop_none (suc k) = refl

drop_more : {A : Type 0} (k : ℕ) (x : A) (xs : List A) → (k ≡ 0 → ⊥) → drop k (x ∷ xs) ≡ drop (k - 1) xs
drop_more zero x xs n = absurd (n refl)
drop_more (suc k) x xs n = let e : k ≡ suc k - 1 = omega arith in ap (λ j. drop j xs) e

pub skip_behind : (k : ℕ) (x : Statement) (xs ys : List Statement) → ys ≡ x ∷ xs → (k ≡ 0 → ⊥) → drop (k - 1) xs ≡ drop k ys
skip_behind k x xs ys e n = sym (drop_more k x xs n) ∙ ap (drop k) (sym e)

pub skip_none : (k : ℕ) (ys : List Statement) → ys ≡ [] → drop k ys ≡ []
skip_none k ys e = ap (drop k) e ∙ drop_none k

-- comparing

module _ (xs ys : List Statement) where
  pub same_short : (x : Statement) (zs : List Statement) → xs ≡ x ∷ zs → ys ≡ [] → same_statements xs ys ≡ false
  same_short x zs e f = ap₂ same_statements e f

  pub same_none : xs ≡ [] → ys ≡ [] → same_statements xs ys ≡ true
  same_none e f = ap₂ same_statements e f

  pub same_long : (y : Statement) (zs : List Statement) → xs ≡ [] → ys ≡ y ∷ zs → same_statements xs ys ≡ false
  same_long y zs e f = ap₂ same_statements e f

  pub same_first : (x y : Statement) (us zs : List Statement) (c : Bool) → xs ≡ x ∷ us → ys ≡ y ∷ zs → c ≡ same_statement x y → c ≡ false → same_statements xs ys ≡ false
  same_first x y us zs c e f g h = ap₂ same_statements e f ∙ ap (λ b. b && same_statements us zs) (sym g ∙ h)

  pub same_rest : (x y : Statement) (us zs : List Statement) (c : Bool) → xs ≡ x ∷ us → ys ≡ y ∷ zs → c ≡ same_statement x y → c ≡ true → same_statements us zs ≡ same_statements xs ys
  same_rest x y us zs c e f g h = sym (ap₂ same_statements e f ∙ ap (λ b. b && same_statements us zs) (sym g ∙ h))

-- the last one

pub last_none : (xs : List Statement) (t : Statement) → xs ≡ [] → ends_in xs t ≡ false
last_none xs t e = ap (λ l. ends_in l t) e

pub last_one : (xs us : List Statement) (x t : Statement) → xs ≡ x ∷ us → us ≡ [] → ends_in xs t ≡ same_statement x t
last_one xs us x t e f = ap (λ l. ends_in l t) (e ∙ ap (λ l. x ∷ l) f)

last_two : (xs us ws : List Statement) (x w t : Statement) → xs ≡ x ∷ us → us ≡ w ∷ ws → ends_in us t ≡ ends_in xs t
last_two xs us ws x w t e f = ap (λ l. ends_in l t) f ∙ sym (ap (λ l. ends_in l t) (e ∙ ap (λ l. x ∷ l) f))

pub last_more : (xs : List Statement) (u : Tree) (x t : Statement) → xs ≡ x ∷ statements (lines_of u) → is_empty u ≡ false → ends_in (statements (lines_of u)) t ≡ ends_in xs t
last_more xs Empty x t e f = absurd (both_ways _ f refl)
last_more xs (Node h a b) x t e f = last_two xs (statements (lines_of (Node h a b))) _ x _ t e (some_statements (Node h a b) (Node h a b) (λ g. cc) refl)

pub same_end : (xs : List Statement) (u : Tree) (c : Bool) → xs ≡ [] → c ≡ is_empty u → same_statements xs (statements (lines_of u)) ≡ c
same_end xs Empty c e f = ap₂ same_statements e (no_statements Empty refl) ∙ sym f
same_end xs (Node h a b) c e f = ap₂ same_statements e (some_statements (Node h a b) (Node h a b) (λ g. cc) refl) ∙ sym f
