-- Games of which one is the other with other terms, lists and conditions that say the same at each visit. This profile's own.
use Rattle.std.specs.Prelude.{◌≡◌, ℕ, ◌+◌, Bool, true, false}
use Rattle.cv_syntax_trees.specs.declared.head.Head.{Head}
use Rattle.cv_syntax_trees.specs.declared.head.Head.TheVariants.{Par, Out, Event, Let, If, Find, Branch, Cons}
use Rattle.cv_syntax_trees.specs.Tree.{Tree, Node, second, first_place, second_place}
use Rattle.cv_meaning.specs.Interpretation.{Setting}
use Rattle.cv_meaning.specs.Memory.{Local}
use Rattle.cv_meaning.specs.Terms.{is_one, value_here, values_here}
use Rattle.cv_meaning.specs.Candidates.{candidates}
use Rattle.cv_meaning.specs.Inputs.{Input, message_binders}
use Rattle.cv_meaning.specs.Serving.{Visit}
use Rattle.cv_meaning_runs.specs.Replacement.{Part, Process, Branches, before_body}
use Rattle.cv_meaning.specs.Still.{is_still}

-- the constructs whose terms are their first child
abbrev pub has_terms : Head → Bool
has_terms (Let x T) = true
has_terms (Event e) = true
has_terms If = true
has_terms (Out c) = true
has_terms h = false

-- in a state the construct does with one first child what it does with the other
abbrev pub SaysTheSame : Setting → Head → Tree → Tree → Local → Type 0
SaysTheSame g (Let x T) a c s = value_here g s a ≡ value_here g s c
SaysTheSame g (Event e) a c s = values_here g s a ≡ values_here g s c
SaysTheSame g If a c s = is_one (value_here g s a) ≡ is_one (value_here g s c)
SaysTheSame g (Out n) a c s = values_here g s (second a) ≡ values_here g s (second c)
SaysTheSame g (Find l) a c s = candidates g s.indices s.memory.store a ≡ candidates g s.indices s.memory.store c
SaysTheSame g h a c s = a ≡ c

-- so it does in each state in which it is visited at the place, where the visits are as expected
abbrev pub SaysTheSameWhere : Setting → (Visit → Type 0) → ℕ → Head → (a b c : Tree) → Type 0
SaysTheSameWhere g Expected p h a b c = (s : Local) → Expected (record { place = p; tree = Node h a b; before = s }) → SaysTheSame g h a c s

-- The second tree is the first, which stands at a place, with other terms, lists and conditions.
pub data IsReworded (g : Setting) (Expected : Visit → Type 0) : Part → ℕ → Tree → Tree → Type 0 where
  same : {part : Part} {p : ℕ} {b : Tree} → IsReworded g Expected part p b b
  kept : {h : Head} {p : ℕ} {a b c : Tree} → IsReworded g Expected Process (second_place p h a) b c → IsReworded g Expected Process p (Node h a b) (Node h a c)
  reworded : {h : Head} {p : ℕ} {a b c d : Tree} → has_terms h ≡ true → is_still a ≡ true → is_still c ≡ true → SaysTheSameWhere g Expected p h a b c
      → IsReworded g Expected Process (second_place p h a) b d → IsReworded g Expected Process p (Node h a b) (Node h c d)
  in_parallel : {p : ℕ} {a b c d : Tree} → IsReworded g Expected Process (first_place p Par) a c → IsReworded g Expected Process (second_place p Par a) b d
      → IsReworded g Expected Process p (Node Par a b) (Node Par c d)
  in_list : {p : ℕ} {a b c d : Tree} → IsReworded g Expected Process (first_place p Cons) a c → IsReworded g Expected Process (second_place p Cons a) b d
      → IsReworded g Expected Process p (Node Cons a b) (Node Cons c d)
  in_find : {l p : ℕ} {a b c d : Tree} → SaysTheSameWhere g Expected p (Find l) a b c → IsReworded g Expected Branches (first_place p (Find l)) a c
      → IsReworded g Expected Process (second_place p (Find l) a) b d → IsReworded g Expected Process p (Node (Find l) a b) (Node (Find l) c d)
  in_branch : {p : ℕ} {binders cells c b list d e more rest : Tree} → is_still cells ≡ true → is_still c ≡ true → is_still list ≡ true → is_still d ≡ true
      → IsReworded g Expected Process (p + before_body binders cells c) b e
      → IsReworded g Expected Branches (second_place p Cons (Node Branch binders (Node Cons cells (Node Cons c b)))) more rest
      → IsReworded g Expected Branches p (Node Cons (Node Branch binders (Node Cons cells (Node Cons c b))) more) (Node Cons (Node Branch binders (Node Cons list (Node Cons d e))) rest)

-- the inputs answer to the same calls, and the second is a rewording of the first
pub record AreLikeInputs (g : Setting) (Expected : Visit → Type 0) (i j : Input) : Type 0 where
  pub channel : i.channel ≡ j.channel
  pub indices : i.indices ≡ j.indices
  pub binders : message_binders i ≡ message_binders j
  pub reworded : IsReworded g Expected Process i.place i.tree j.tree
