-- Games without some of their restrictions and assignments, and with one body in place of constructs whose bodies are all equal; the
-- variables that go are read nowhere. This profile's own.
use Rattle.std.specs.Prelude.{◌≡◌, ℕ, Bool, true, false, ◌&&◌}
use Rattle.cv_syntax_trees.specs.declared.head.Head.{Head}
use Rattle.cv_syntax_trees.specs.declared.head.Head.TheVariants.{Par, Find, Binder, Branch, Cons}
use Rattle.cv_syntax_trees.specs.Tree.{Tree, Empty, Node}
use Rattle.cv_meaning.specs.Inputs.{Input, message_binders}
use Rattle.cv_meaning.specs.Replaced.{is_output}
use Rattle.cv_meaning.specs.Still.{defines, is_still}
use Rattle.cv_meaning_runs.specs.Replacement.{Part, Process, Branches, if_tree}
use Rattle.cv_meaning_chances.specs.unread.Dropping.{reads_none}

-- the variables of a list of binders are among these
abbrev pub binds_only : (ℕ → Bool) → Tree → Bool
binds_only xs Empty = true
binds_only xs (Node (Binder x T) a b) = xs x && binds_only xs b
binds_only xs t = false

-- each branch has this body, and its index variables are among these
abbrev pub HasBody : (ℕ → Bool) → (body : Tree) → (branches : Tree) → Type 0
HasBody xs body Empty = Unit {0}
HasBody xs body (Node Cons (Node Branch us (Node Cons cells (Node Cons d b))) more) = (binds_only xs us ≡ true) × (b ≡ body) × HasBody xs body more
HasBody xs body t = ⊥

-- The second tree is the first without some definitions of these variables, none of which the second one reads.
pub data IsThinned (xs : ℕ → Bool) : Part → Tree → Tree → Type 0 where
  same : {part : Part} {b : Tree} → reads_none xs b ≡ true → IsThinned xs part b b
  gone : {h : Head} {a b c : Tree} → defines xs h ≡ true → is_still a ≡ true → is_output c ≡ true → IsThinned xs Process b c → IsThinned xs Process (Node h a b) c
  merged : {l : ℕ} {a b c : Tree} → HasBody xs b a → is_output c ≡ true → IsThinned xs Process b c → IsThinned xs Process (Node (Find l) a b) c
  same_bodies : {d b c : Tree} → is_output c ≡ true → IsThinned xs Process b c → IsThinned xs Process (if_tree d b b) c
  kept : {h : Head} {a b c : Tree} → reads_none xs a ≡ true → IsThinned xs Process b c → IsThinned xs Process (Node h a b) (Node h a c)
  in_parallel : {a b c d : Tree} → IsThinned xs Process a c → IsThinned xs Process b d → IsThinned xs Process (Node Par a b) (Node Par c d)
  in_list : {a b c d : Tree} → IsThinned xs Process a c → IsThinned xs Process b d → IsThinned xs Process (Node Cons a b) (Node Cons c d)
  in_find : {l : ℕ} {a b c d : Tree} → IsThinned xs Branches a c → IsThinned xs Process b d → IsThinned xs Process (Node (Find l) a b) (Node (Find l) c d)
  in_branch : {binders defined condition b c more rest : Tree} → reads_none xs binders ≡ true → reads_none xs defined ≡ true → reads_none xs condition ≡ true
      → IsThinned xs Process b c → IsThinned xs Branches more rest
      → IsThinned xs Branches (Node Cons (Node Branch binders (Node Cons defined (Node Cons condition b))) more)
      (Node Cons (Node Branch binders (Node Cons defined (Node Cons condition c))) rest)
  in_later_branch : {a b c : Tree} → reads_none xs a ≡ true → IsThinned xs Branches b c → IsThinned xs Branches (Node Cons a b) (Node Cons a c)

-- the inputs answer to the same calls, and the second is without some of the definitions and constructs
pub record AreLikeInputs (xs : ℕ → Bool) (i j : Input) : Type 0 where
  pub channel : i.channel ≡ j.channel
  pub indices : i.indices ≡ j.indices
  pub binders : message_binders i ≡ message_binders j
  pub thinned : IsThinned xs Process i.tree j.tree
