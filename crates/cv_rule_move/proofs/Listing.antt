-- Constructs whose parts are listed, part by part.
use Rattle.std.proofs.Common.{◌≡◌, ℕ, ◌+◌, Option, Some, None, refl, sym, ap, ◌∙◌}
use Rattle.cv_syntax_trees.specs.declared.head.Head.{Head}
use Rattle.cv_syntax_trees.specs.declared.head.Head.TheVariants.{Branch, Cons, Find, If}
use Rattle.cv_syntax_trees.specs.Tree.{Tree, Node}
use Rattle.cv_rule_move.specs.Bodies.{ArmTrees, arm_of, arm_with, items_in}
use Rattle.cv_rule_move.specs.Moving.{in_bodies, in_branches}
use Rattle.cv_rule_move.specs.Steps.{made_in_bodies, made_in_branches}

-- branches: the first of them, and those behind it

abbrev by_arm : (before : Tree → Tree) → Tree → Option ArmTrees → Tree
by_arm before t None = t
by_arm before t (Some a) = Node Cons (arm_with before a) (in_branches before a.more)

branches_by_arm : (before : Tree → Tree) (t : Tree) → in_branches before t ≡ by_arm before t (arm_of t)
branches_by_arm before (Node Cons (Node Branch us (Node Cons cells (Node Cons c body))) more) = refl
branches_by_arm before t = refl

pub branches_step : (before : Tree → Tree) (t : Tree) (a : ArmTrees) → Some a ≡ arm_of t → Node Cons (arm_with before a) (in_branches before a.more) ≡ in_branches before t
branches_step before t a e = ap (by_arm before t) e ∙ sym (branches_by_arm before t)

pub branches_end : (before : Tree → Tree) (t : Tree) → None ≡ arm_of t → t ≡ in_branches before t
branches_end before t e = ap (by_arm before t) e ∙ sym (branches_by_arm before t)

abbrev made_by_arm : Option ArmTrees → ℕ
made_by_arm None = 0
made_by_arm (Some a) = made_in_branches a.more + 5

made_arm : (t : Tree) → made_in_branches t ≡ made_by_arm (arm_of t)
made_arm (Node Cons (Node Branch us (Node Cons cells (Node Cons c body))) more) = refl
made_arm t = refl

pub made_step : (t : Tree) (a : ArmTrees) → Some a ≡ arm_of t → made_in_branches a.more + 5 ≡ made_in_branches t
made_step t a e = ap made_by_arm e ∙ sym (made_arm t)

-- an `if` that has no two bodies

module _ (before : Tree → Tree) (h : Head) (a b : Tree) (e : h ≡ If) (f : None ≡ items_in b) where
  alone : (t : Tree) → None ≡ items_in t → in_bodies before (Node If a t) ≡ Node If a (before t)
  alone (Node Cons x (Node Cons y z)) g = absurd (cc)
  alone t g = refl

  two_made : (t : Tree) → None ≡ items_in t → made_in_bodies (Node If a t) ≡ 2
  two_made (Node Cons x (Node Cons y z)) g = absurd (cc)
  two_made t g = refl

  pub if_without_bodies : in_bodies before (Node h a b) ≡ Node h a (before b)
  if_without_bodies = ap (λ k. in_bodies before (Node k a b)) e ∙ (alone b f ∙ ap (λ k. Node k a (before b)) (sym e))

-- a construct with one body

pub one_body : (before : Tree → Tree) (h : Head) (a b : Tree) → ((l : ℕ) → h ≡ Find l → ⊥) → (h ≡ If → ⊥) → in_bodies before (Node h a b) ≡ Node h a (before b)
one_body before (Find l) a b f i = absurd (f l refl)
one_body before If a b f i = absurd (i refl)
one_body before h a b f i = refl

pub made_alone : (h : Head) (a b : Tree) → ((l : ℕ) → h ≡ Find l → ⊥) → (h ≡ If → ⊥) → made_in_bodies (Node h a b) ≡ 2
made_alone (Find l) a b f i = absurd (f l refl)
made_alone If a b f i = absurd (i refl)
made_alone h a b f i = refl
