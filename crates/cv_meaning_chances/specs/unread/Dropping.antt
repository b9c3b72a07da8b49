-- Games without some of their restrictions and assignments, whose variables are read nowhere. This profile's own.
use Rattle.std.specs.Prelude.{◌≡◌, ℕ, Bool, true, false, ◌&&◌, not}
use Rattle.cv_syntax_trees.specs.declared.head.Head.{Head}
use Rattle.cv_syntax_trees.specs.declared.head.Head.TheVariants.{Par, New, Find, Branch, Cons}
use Rattle.cv_syntax_trees.specs.Tree.{Tree, Empty, Node, reads_only}
use Rattle.cv_meaning.specs.Memory.{Memory}
use Rattle.cv_meaning.specs.Inputs.{Input, message_binders}
use Rattle.cv_meaning.specs.Runs.{Mode, Events, Real, Random}
use Rattle.cv_meaning_laws.specs.Agreement.{AgreeOn}
use Rattle.cv_meaning_runs.specs.Replacement.{Part, Process, Branches}
use Rattle.cv_meaning.specs.Replaced.{is_output}
use Rattle.cv_meaning.specs.Still.{defines, is_still}

-- the tree reads none of these variables
abbrev pub reads_none : (ℕ → Bool) → Tree → Bool
reads_none xs t = reads_only (λ x. not (xs x)) t

-- The second tree is the first without some definitions of these variables, none of which the second one reads.
pub data IsDropped (xs : ℕ → Bool) : Part → Tree → Tree → Type 0 where
  same : {part : Part} {b : Tree} → reads_none xs b ≡ true → IsDropped xs part b b
  gone : {h : Head} {a b c : Tree} → defines xs h ≡ true → is_still a ≡ true → is_output c ≡ true → IsDropped xs Process b c → IsDropped xs Process (Node h a b) c
  kept : {h : Head} {a b c : Tree} → reads_none xs a ≡ true → IsDropped xs Process b c → IsDropped xs Process (Node h a b) (Node h a c)
  in_parallel : {a b c d : Tree} → IsDropped xs Process a c → IsDropped xs Process b d → IsDropped xs Process (Node Par a b) (Node Par c d)
  in_list : {a b c d : Tree} → IsDropped xs Process a c → IsDropped xs Process b d → IsDropped xs Process (Node Cons a b) (Node Cons c d)
  in_find : {l : ℕ} {a b c d : Tree} → IsDropped xs Branches a c → IsDropped xs Process b d → IsDropped xs Process (Node (Find l) a b) (Node (Find l) c d)
  in_branch : {binders defined condition b c more rest : Tree} → reads_none xs binders ≡ true → reads_none xs defined ≡ true → reads_none xs condition ≡ true
      → IsDropped xs Process b c → IsDropped xs Branches more rest
      → IsDropped xs Branches (Node Cons (Node Branch binders (Node Cons defined (Node Cons condition b))) more)
      (Node Cons (Node Branch binders (Node Cons defined (Node Cons condition c))) rest)
  in_later_branch : {a b c : Tree} → reads_none xs a ≡ true → IsDropped xs Branches b c → IsDropped xs Branches (Node Cons a b) (Node Cons a c)

-- the adversary doesn't test these variables
abbrev pub IsUntested : (ℕ → Bool) → Mode → Type 0
IsUntested xs Events = Unit {0}
IsUntested xs (Real one x) = xs x ≡ false
IsUntested xs (Random one x) = xs x ≡ false

-- the tree draws none of these variables
abbrev pub head_draws_none : (ℕ → Bool) → Head → Bool
head_draws_none xs (New x T) = not (xs x)
head_draws_none xs h = true

unfoldable pub draws_none : (ℕ → Bool) → Tree → Bool
draws_none xs Empty = true
draws_none xs (Node h a b) = head_draws_none xs h && (draws_none xs a && draws_none xs b)

-- the stores agree but for these variables
pub record AgreesOff (xs : ℕ → Bool) (x y : Memory) : Type 0 where
  pub store : AgreeOn (λ n. not (xs n)) x.store y.store
  pub events : x.events ≡ y.events
  pub arrays : x.arrays ≡ y.arrays

-- the inputs answer to the same calls, and the second is without some of the definitions
pub record AreLikeInputs (xs : ℕ → Bool) (i j : Input) : Type 0 where
  pub channel : i.channel ≡ j.channel
  pub indices : i.indices ≡ j.indices
  pub binders : message_binders i ≡ message_binders j
  pub dropped : IsDropped xs Process i.tree j.tree
