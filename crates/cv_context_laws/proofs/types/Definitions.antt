-- The definitions of a context, each with its type and its role.
use Rattle.std.proofs.Common.{◌≡◌, ℕ}
use Rattle.cv_syntax_trees.specs.declared.head.Head.TheVariants.{Binder, Branch, Call, Cons, Find, In, Key, Let, New, Par}
use Rattle.cv_syntax_trees.specs.Tree.{Tree, Empty, Node, second}
use Rattle.cv_meaning.specs.contexts.Roles.{Gone, Plain}
use Rattle.cv_inline_laws.specs.runs.Texts.{Text}

-- each binder of a list has the type of its name
unfoldable pub HasTypes : (type : ℕ → ℕ) → Tree → Type 0
HasTypes type Empty = Unit {0}
HasTypes type (Node (Binder x U) a b) = (U ≡ type x) × HasTypes type b
HasTypes type (Node h a b) = HasTypes type b

-- each definition behind the terms of a tree has it; what takes a key or an answer is gone, what is chosen is plain
unfoldable mutual
  pub HasDefinitions : Text → (type : ℕ → ℕ) → Tree → Type 0
  HasDefinitions T type Empty = Unit {0}
  HasDefinitions T type (Node (Key x) a b) = (T.role x ≡ Gone) × HasDefinitions T type b
  HasDefinitions T type (Node (Call x l) a b) = (T.role x ≡ Gone) × HasDefinitions T type b
  HasDefinitions T type (Node (New x U) a b) = (T.role x ≡ Plain) × (U ≡ type x) × HasDefinitions T type b
  HasDefinitions T type (Node (Let x U) a b) = (U ≡ type x) × HasDefinitions T type b
  HasDefinitions T type (Node (In c) a b) = HasTypes type (second a) × HasDefinitions T type b
  HasDefinitions T type (Node Branch us b) = HasTypes type us × HasGuarded T type b
  HasDefinitions T type (Node Par a b) = HasDefinitions T type a × HasDefinitions T type b
  HasDefinitions T type (Node (Find l) a b) = HasDefinitions T type a × HasDefinitions T type b
  HasDefinitions T type (Node Cons a b) = HasDefinitions T type a × HasDefinitions T type b
  HasDefinitions T type (Node h a b) = HasDefinitions T type b

  -- behind a list and a condition, and behind the condition

  pub HasGuarded : Text → (type : ℕ → ℕ) → Tree → Type 0
  HasGuarded T type Empty = Unit {0}
  HasGuarded T type (Node h cells b) = HasTested T type b

  pub HasTested : Text → (type : ℕ → ℕ) → Tree → Type 0
  HasTested T type Empty = Unit {0}
  HasTested T type (Node h m body) = HasDefinitions T type body
