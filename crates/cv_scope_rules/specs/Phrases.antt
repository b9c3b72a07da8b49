-- Well-formed games and contexts: what each node is in the grammar of processes, by one table, and that no
-- constant is bound. Blanchet, TDSC 2008, section 2, for the grammar; calls of oracles are those of Blanchet
-- and Pointcheval, CRYPTO 2006.
use Rattle.std.specs.Prelude.{◌≡◌, ℕ, Bool, true, false, ◌&&◌, not, List, Option, Some, None}
use Rattle.cv_syntax_trees.specs.declared.head.Head.{Head}
use Rattle.cv_syntax_trees.specs.declared.head.Head.TheVariants.{Stop, Yield, Par, Repl, In, Out, Event, New, Let, If, Find, Branch, Leaf, Read, Apply, Eq, And, Or, Not, Yes, No, Cons, Binder, Name, Key, Call}
use Rattle.cv_syntax_trees.specs.Declarations.{Declaration}
use Rattle.cv_syntax_trees.specs.Tree.{Tree, Empty, Node}
use Rattle.cv_meaning.specs.Interpretation.{Setting, is_constant_of}
use Rattle.cv_scope_rules.specs.Scope.{IsScoped}

-- what stands at a place of a game
pub data Phrase : Type 0 where
  -- no tree; an input process; an output process
  Nil Inputs Body : Phrase
  -- the two bodies of an `if`; that of its else body
  Then Else : Phrase
  -- the branches of a `find`; a branch; its list, condition and body; its condition and body
  Branches Arm Guards Guarded : Phrase
  -- the written indices of an input with its binders; those of an output with its terms
  Pattern Message : Phrase
  -- lists of names and of binders; a `defined` list and a cell in it; a list of terms and a term
  Indices Binders Cells OneCell Terms Term : Phrase

-- what the two children of a node are
abbrev pub parts : Phrase → Head → Option (Phrase × Phrase)
parts Inputs Stop = Some (Nil, Nil)
parts Inputs Par = Some (Inputs, Inputs)
parts Inputs (Repl i n) = Some (Nil, Inputs)
parts Inputs (In c) = Some (Pattern, Body)
parts Body Yield = Some (Nil, Nil)
parts Body (Out c) = Some (Message, Inputs)
parts Body (New x T) = Some (Nil, Body)
parts Body (Let x T) = Some (Term, Body)
parts Body (Event e) = Some (Terms, Body)
parts Body If = Some (Term, Then)
parts Body (Find l) = Some (Branches, Body)
parts Then Cons = Some (Body, Else)
parts Else Cons = Some (Body, Nil)
parts Branches Cons = Some (Arm, Branches)
parts Arm Branch = Some (Binders, Guards)
parts Guards Cons = Some (Cells, Guarded)
parts Guarded Cons = Some (Term, Body)
parts Pattern Cons = Some (Indices, Binders)
parts Message Cons = Some (Indices, Terms)
parts Indices (Name i) = Some (Nil, Indices)
parts Binders (Binder x T) = Some (Nil, Binders)
parts Cells Cons = Some (OneCell, Cells)
parts OneCell (Leaf x) = Some (Nil, Nil)
parts OneCell (Read x) = Some (Terms, Nil)
parts Terms Cons = Some (Term, Terms)
parts Term (Leaf x) = Some (Nil, Nil)
parts Term (Read x) = Some (Terms, Nil)
parts Term (Apply f) = Some (Terms, Nil)
parts Term Eq = Some (Term, Term)
parts Term And = Some (Term, Term)
parts Term Or = Some (Term, Term)
parts Term Not = Some (Term, Nil)
parts Term Yes = Some (Nil, Nil)
parts Term No = Some (Nil, Nil)
parts _ _ = None

-- a list may end here
abbrev pub may_end : Phrase → Bool
may_end Nil = true
may_end Branches = true
may_end Indices = true
may_end Binders = true
may_end Cells = true
may_end Terms = true
may_end _ = false

abbrev pub both_are : Option (Phrase × Phrase) → (Phrase → Bool) → (Phrase → Bool) → Bool
both_are None first second = false
both_are (Some q) first second = first q.0 && second q.1

-- the tree is such a phrase, and so is each tree in it
unfoldable pub is_phrase : Phrase → Tree → Bool
is_phrase σ Empty = may_end σ
is_phrase σ (Node h a b) = both_are (parts σ h) (λ τ. is_phrase τ a) (λ ρ. is_phrase ρ b)

-- in a context there are keys and calls of oracles too
abbrev pub oracle_parts : Phrase → Head → Option (Phrase × Phrase)
oracle_parts Body (Key x) = Some (Nil, Body)
oracle_parts Body (Call x l) = Some (Terms, Body)
oracle_parts σ h = parts σ h

-- the tree is such a phrase of a context, and so is each tree in it
unfoldable pub is_oracle_phrase : Phrase → Tree → Bool
is_oracle_phrase σ Empty = may_end σ
is_oracle_phrase σ (Node h a b) = both_are (oracle_parts σ h) (λ τ. is_oracle_phrase τ a) (λ ρ. is_oracle_phrase ρ b)

-- the tree has no key and no call

abbrev pub head_is_plain : Head → Bool
head_is_plain (Key x) = false
head_is_plain (Call x l) = false
head_is_plain h = true

abbrev pub is_plain : Tree → Bool
is_plain Empty = true
is_plain (Node h a b) = head_is_plain h && (is_plain a && is_plain b)

-- no name of these is bound
abbrev pub head_binds_none : (ℕ → Bool) → Head → Bool
head_binds_none names (Repl i n) = not (names i)
head_binds_none names (New x T) = not (names x)
head_binds_none names (Let x T) = not (names x)
head_binds_none names (Binder x T) = not (names x)
head_binds_none names (Key x) = not (names x)
head_binds_none names (Call x l) = not (names x)
head_binds_none names h = true

unfoldable pub binds_none : (ℕ → Bool) → Tree → Bool
binds_none names Empty = true
binds_none names (Node h a b) = head_binds_none names h && (binds_none names a && binds_none names b)

-- a game of a file with these declarations, in the grammar and in array scope; it has no keys and no calls
pub record IsWellFormed (ds : List Declaration) (game : Tree) : Type 0 where
  pub scoped : IsScoped ds game
  pub phrase : is_phrase Inputs game ≡ true
  pub constants : binds_none (is_constant_of ds) game ≡ true

-- a context over these declarations: the same, and it may have keys and calls
pub record IsWellFormedContext (ds : List Declaration) (context : Tree) : Type 0 where
  pub scoped : IsScoped ds context
  pub phrase : is_oracle_phrase Inputs context ≡ true
  pub constants : binds_none (is_constant_of ds) context ≡ true

-- what the setting calls constants are those of the declarations
abbrev pub HasConstantsOf : List Declaration → Setting → Type 0
HasConstantsOf ds g = g.is_constant ≡ is_constant_of ds
