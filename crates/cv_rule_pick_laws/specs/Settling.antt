-- Games of which one is the other with other terms, lists and conditions that say the same at each visit, and with another `else` of
-- each `find` that takes a branch whenever it is visited. This profile's own.
use Rattle.std.specs.Prelude.{◌≡◌, ℕ, ◌+◌, true, is_some}
use Rattle.cv_syntax_trees.specs.declared.head.Head.{Head}
use Rattle.cv_syntax_trees.specs.declared.head.Head.TheVariants.{Par, Find, Branch, Cons}
use Rattle.cv_syntax_trees.specs.Tree.{Tree, Node, second_place, first_place}
use Rattle.cv_meaning.specs.Interpretation.{Setting}
use Rattle.cv_meaning.specs.Memory.{Local}
use Rattle.cv_meaning.specs.Candidates.{candidates, chosen}
use Rattle.cv_meaning.specs.Inputs.{Input, message_binders}
use Rattle.cv_meaning.specs.Serving.{Visit}
use Rattle.cv_meaning_runs.specs.Replacement.{Part, Process, Branches, before_body}
use Rattle.cv_meaning_chances.specs.rewording.Rewording.{SaysTheSameWhere, has_terms}

-- the `find` takes some branch in each state in which it is visited at the place, where the visits are as expected
abbrev pub TakesSomeWhere : Setting → (Visit → Type 0) → ℕ → (l : ℕ) → (branches otherwise : Tree) → Type 0
TakesSomeWhere g Expected p l a b =
    (s : Local) → Expected (record { place = p; tree = Node (Find l) a b; before = s })
    → (v : ℕ) → is_some (chosen (candidates g s.indices s.memory.store a) v) ≡ true

-- The second tree is such a one of the first, which stands at a place.
pub data IsSettled (g : Setting) (Expected : Visit → Type 0) : Part → ℕ → Tree → Tree → Type 0 where
  same : {part : Part} {p : ℕ} {b : Tree} → IsSettled g Expected part p b b
  kept : {h : Head} {p : ℕ} {a b c : Tree} → IsSettled g Expected Process (second_place p h a) b c → IsSettled g Expected Process p (Node h a b) (Node h a c)
  reworded : {h : Head} {p : ℕ} {a b c d : Tree} → has_terms h ≡ true → SaysTheSameWhere g Expected p h a b c
      → IsSettled g Expected Process (second_place p h a) b d → IsSettled g Expected Process p (Node h a b) (Node h c d)
  in_parallel : {p : ℕ} {a b c d : Tree} → IsSettled g Expected Process (first_place p Par) a c → IsSettled g Expected Process (second_place p Par a) b d
      → IsSettled g Expected Process p (Node Par a b) (Node Par c d)
  in_list : {p : ℕ} {a b c d : Tree} → IsSettled g Expected Process (first_place p Cons) a c → IsSettled g Expected Process (second_place p Cons a) b d
      → IsSettled g Expected Process p (Node Cons a b) (Node Cons c d)
  in_find : {l p : ℕ} {a b c d : Tree} → SaysTheSameWhere g Expected p (Find l) a b c → IsSettled g Expected Branches (first_place p (Find l)) a c
      → IsSettled g Expected Process (second_place p (Find l) a) b d → IsSettled g Expected Process p (Node (Find l) a b) (Node (Find l) c d)
  decided : {l p : ℕ} {a b c d : Tree} → SaysTheSameWhere g Expected p (Find l) a b c → TakesSomeWhere g Expected p l a b
      → IsSettled g Expected Branches (first_place p (Find l)) a c → IsSettled g Expected Process p (Node (Find l) a b) (Node (Find l) c d)
  in_branch : {p : ℕ} {binders cells c b list d e more rest : Tree} → IsSettled g Expected Process (p + before_body binders cells c) b e
      → IsSettled g Expected Branches (second_place p Cons (Node Branch binders (Node Cons cells (Node Cons c b)))) more rest
      → IsSettled g Expected Branches p (Node Cons (Node Branch binders (Node Cons cells (Node Cons c b))) more) (Node Cons (Node Branch binders (Node Cons list (Node Cons d e))) rest)
  in_later_branch : {p : ℕ} {a b c : Tree} → IsSettled g Expected Branches (second_place p Cons a) b c → IsSettled g Expected Branches p (Node Cons a b) (Node Cons a c)

-- the inputs answer to the same calls, and the second is such a one of the first
pub record AreLikeInputs (g : Setting) (Expected : Visit → Type 0) (i j : Input) : Type 0 where
  pub channel : i.channel ≡ j.channel
  pub indices : i.indices ≡ j.indices
  pub binders : message_binders i ≡ message_binders j
  pub settled : IsSettled g Expected Process i.place i.tree j.tree
