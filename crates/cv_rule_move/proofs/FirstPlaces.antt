-- The first place where a construct names a variable, part by part.
use Rattle.std.proofs.Common.{◌≡◌, ℕ, ◌+◌, ◌<◌, ◌≤◌, Bool, true, false, cond, Option, Some, None, refl, sym, ap, ◌∙◌, arith}
use Rattle.std.specs.Prelude.{option_map}
use Rattle.cv_syntax_trees.specs.declared.head.Head.{Head}
use Rattle.cv_syntax_trees.specs.declared.head.Head.TheVariants.{Branch, Cons, Find, Leaf, Read}
use Rattle.cv_syntax_trees.specs.Head.{weight}
use Rattle.cv_syntax_trees.specs.Tree.{Tree, Empty, Node, first, first_place, second, second_place, size}
use Rattle.cv_syntax_trees.specs.sites.Sites.{first_of}
use Rattle.cv_meaning.specs.Still.{defines}
use Rattle.cv_scope_rules.specs.Made.{is_bound}
use Rattle.cv_scene.specs.Scenes.{first_reading, head_reads}
use Rattle.cv_steps.specs.Changes.{only}
use Rattle.cv_rule_move.specs.Moving.{first_naming, first_naming_branch}
use Rattle.cv_rule_move.specs.Parts.{arm_in, naming_before}

-- a tree that stands further behind

abbrev behind_by : ℕ → Option ℕ → Option ℕ
behind_by n o = option_map (λ q. n + q) o

behind_first : (n : ℕ) (o q : Option ℕ) → behind_by n (first_of o q) ≡ first_of (behind_by n o) (behind_by n q)
behind_first n None q = refl
behind_first n (Some x) q = refl

module _ (n p : ℕ) (h : Head) (a : Tree) (x : ℕ) (b : Tree) where
  abbrev first_at : ℕ → Option ℕ
  first_at q = first_reading x (first_place q h) a

  abbrev second_at : ℕ → Option ℕ
  second_at q = first_reading x (second_place q h a) b

  behind_node : first_at (n + p) ≡ behind_by n (first_at p) → second_at (n + p) ≡ behind_by n (second_at p) → (v : Bool)
      → cond v (Some (n + p)) (first_of (first_at (n + p)) (second_at (n + p))) ≡ behind_by n (cond v (Some p) (first_of (first_at p) (second_at p)))
  behind_node e f true = refl
  behind_node e f false =
      ap (λ o. first_of o (second_at (n + p))) e ∙ (ap (first_of (behind_by n (first_at p))) f ∙ sym (behind_first n (first_at p) (second_at p)))

pub reading_behind : (x n p : ℕ) (t : Tree) → first_reading x (n + p) t ≡ behind_by n (first_reading x p t)
unfolding first_reading
reading_behind x n p Empty = refl
reading_behind x n p (Node h a b) =
    behind_node n p h a x b (ap (λ q. first_reading x q a) (omega arith) ∙ reading_behind x n (first_place p h) a)
    (ap (λ q. first_reading x q b) (omega arith) ∙ reading_behind x n (second_place p h a) b) (head_reads x h)

-- it is read at a place of the tree

heavy : (x : ℕ) (h : Head) → head_reads x h ≡ true → weight h ≡ 1
heavy x (Leaf y) e = refl
heavy x (Read y) e = refl
heavy x h e = absurd (cc)

module _ (x p q : ℕ) (h : Head) (a b : Tree) where
  found : (o r : Option ℕ) → first_of o r ≡ Some q → (o ≡ Some q → q < p + (weight h + size a + size b)) → (r ≡ Some q → q < p + (weight h + size a + size b)) → q < p + (weight h + size a + size b)
  found None r f k l = l f
  found (Some y) r f k l = k f

  below_node : (v : Bool) → head_reads x h ≡ v → (o r : Option ℕ) → cond v (Some p) (first_of o r) ≡ Some q → (o ≡ Some q → q < p + (weight h + size a + size b)) → (r ≡ Some q → q < p + (weight h + size a + size b)) → q < p + (weight h + size a + size b)
  below_node true f o r g k l = let i : p ≡ q = cc in omega (arith, i, heavy x h f)
  below_node false f o r g k l = found o r g k l

pub reading_below : (x p q : ℕ) (t : Tree) → first_reading x p t ≡ Some q → q < p + size t
unfolding first_reading size
reading_below x p q Empty e = absurd (cc)
reading_below x p q (Node h a b) e =
    below_node x p q h a b (head_reads x h) refl (first_reading x (first_place p h) a) (first_reading x (second_place p h a) b) e
    (λ k. omega (arith, reading_below x (first_place p h) q a k)) (λ k. omega (arith, reading_below x (second_place p h a) q b k))

-- what stands in a tree that stands at a place
pub reading_from : (x n : ℕ) (t : Tree) (o : Option ℕ) → o ≡ first_reading x 0 t → behind_by n o ≡ first_reading x n t
reading_from x n t o e = ap (behind_by n) e ∙ (sym (reading_behind x n 0 t) ∙ ap (λ q. first_reading x q t) (omega arith))

pub reading_nowhere : (x n : ℕ) (t : Tree) → t ≡ Empty → None ≡ first_reading x n t
unfolding first_reading
reading_nowhere x n t e = sym (ap (first_reading x n) e)

-- branches

-- the branch of a link has these indices, and this behind them
abbrev pub IsArm : Head → Tree → (us rest : Tree) → Type 0
IsArm h a us rest = let b : Tree × Tree = (us, rest) in Some b ≡ arm_in h a

abbrev as_branch : Option (Tree × Tree) → Tree
as_branch None = Empty
as_branch (Some b) = Node Branch b.0 b.1

same_arm : (us rest : Tree) (b : Tree × Tree) → (let c : Tree × Tree = (us, rest) in Some c ≡ Some b) → Node Branch b.0 b.1 ≡ Node Branch us rest
same_arm us rest b e = sym (ap as_branch e)

arm_is : (h : Head) (a us rest : Tree) → IsArm h a us rest → (h ≡ Cons) × (a ≡ Node Branch us rest)
arm_is Cons (Node Branch u r) us rest e = (refl, same_arm us rest (u, r) e)
arm_is h a us rest e = absurd (cc)

-- it names the variable itself, or the later ones do
by_arm : (x p : ℕ) (us rest b : Tree) →
    first_naming_branch x p (Node Cons (Node Branch us rest) b) ≡ first_of (naming_before x p us rest) (first_naming_branch x (second_place p Cons (Node Branch us rest)) b)
by_arm x p us rest b = go (is_bound us x)
  where
    list : Option ℕ
    list = first_reading x (second_place p Branch us) (first rest)

    condition : Option ℕ
    condition = first_reading x (second_place p Branch us + size (first rest)) (first (second rest))

    later : Option ℕ
    later = first_naming_branch x (second_place p Cons (Node Branch us rest)) b

    both : (o q r : Option ℕ) → first_of o (first_of q r) ≡ first_of (first_of o q) r
    both None q r = refl
    both (Some y) q r = refl

    go : (v : Bool) → cond v (Some p) (first_of list (first_of condition later)) ≡ first_of (cond v (Some p) (first_of list condition)) later
    go true = refl
    go false = both list condition later

module _ (x p : ℕ) (t : Tree) (h : Head) (a b us rest : Tree) (e : t ≡ Node h a b) (f : IsArm h a us rest) where
  pub arm_node : t ≡ Node Cons (Node Branch us rest) b
  arm_node = let i = arm_is h a us rest f in e ∙ (ap (λ k. Node k a b) i.0 ∙ ap (λ u. Node Cons u b) i.1)

  pub arm_size : size a ≡ 1 + size us + size rest
  unfolding size
  arm_size = ap size (arm_is h a us rest f).1

  pub link_size : size t ≡ size a + size b
  unfolding size
  link_size = ap size arm_node ∙ omega (arith, arm_size)

  by_parts : first_naming_branch x p t ≡ first_of (naming_before x p us rest) (first_naming_branch x (second_place p Cons (Node Branch us rest)) b)
  by_parts = ap (first_naming_branch x p) arm_node ∙ by_arm x p us rest b

  pub named_later : None ≡ naming_before x p us rest → (n : ℕ) → n ≡ size a → first_naming_branch x (p + n) b ≡ first_naming_branch x p t
  named_later g n i =
      sym (by_parts
      ∙ (ap (λ o. first_of o (first_naming_branch x (second_place p Cons (Node Branch us rest)) b)) (sym g)
      ∙ ap (λ m. first_naming_branch x m b) (omega (arith, i, ap size (arm_is h a us rest f).1))))

pub no_arms : (x p : ℕ) (t : Tree) → t ≡ Empty → None ≡ first_naming_branch x p t
no_arms x p t e = sym (ap (first_naming_branch x p) e)

-- sizes of items

pub first_small : (t u : Tree) → u ≡ first t → size u ≤ size t
unfolding size
first_small Empty u e = omega (arith, ap size e)
first_small (Node h a b) u e = omega (arith, ap size e)

pub items_small : (t u v : Tree) → u ≡ first t → v ≡ first (second t) → size u + size v ≤ size t
unfolding size
items_small Empty u v e f = omega (arith, ap size e, ap size f)
items_small (Node h a Empty) u v e f = omega (arith, ap size e, ap size f)
items_small (Node h a (Node k b d)) u v e f = omega (arith, ap size e, ap size f)

-- a construct

by_definition : (x p : ℕ) (h : Head) (a b : Tree) → ((l : ℕ) → h ≡ Find l → ⊥) → first_naming x p (Node h a b) ≡ cond (defines (only x) h) (Some p) (first_reading x (first_place p h) a)
by_definition x p (Find l) a b n = absurd (n l refl)
by_definition x p h a b n = refl

pub named_there : (x p : ℕ) (h : Head) (a b : Tree) → ((l : ℕ) → h ≡ Find l → ⊥) → (v : Bool) → v ≡ defines (only x) h → v ≡ true → Some p ≡ first_naming x p (Node h a b)
named_there x p h a b n v e f = sym (by_definition x p h a b n ∙ ap (λ w. cond w (Some p) (first_reading x (first_place p h) a)) (sym e ∙ f))
