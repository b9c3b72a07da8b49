-- A phrase and nothing behind it, and tokens that no such phrase begins with.
use Rattle.std.specs.Prelude.{◌≡◌, ℕ, Bool, true, List, [], ◌∷◌, ◌++◌, length, Ok, Err}
use Rattle.cv_syntax_trees.specs.Tree.{Tree}
use Rattle.cv_parse_notation.specs.declared.sign.Sign.{Sign}
use Rattle.cv_parse_notation.specs.Form.{Form}
use Rattle.cv_parse_notation.specs.Spells.{Kind, Use, Spells, IsSort}
use Rattle.cv_parse_notation.specs.Reads.{Reader, Read, Found, Syntax, ◌>>=◌, reads, read_sort}
use Rattle.cv_parse_notation.specs.Local.{SameFirst}

-- with n levels and one, these tokens spell the phrase in front of the rest, and use names so
abbrev pub SpellsWith : {R σ A : Type 0} → (σ → Kind → Bool) → (σ → Form R σ Tree) → Form R σ A → ℕ → List Sign → A → List (Use R) → List Sign → Type 0
SpellsWith h rule f n tokens a uses rest = Spells h true (IsSort h rule n) f tokens a uses rest

abbrev pub reads_with : {R σ A : Type 0} → (σ → Kind → Bool) → (σ → Form R σ Tree) → Form R σ A → ℕ → Reader R A
reads_with h rule f n tokens = reads h true (read_sort h rule n) f tokens

-- a phrase and nothing behind it
abbrev pub ends_there : {R A : Type 0} → Found R A → Read R A
ends_there x = elim x.rest [ [] ↦ Ok x | t ∷ ts ↦ Err (Syntax (length x.rest)) ]

abbrev pub reads_whole : {R σ A : Type 0} → (σ → Kind → Bool) → (σ → Form R σ Tree) → Form R σ A → ℕ → Reader R A
reads_whole h rule f n tokens = reads_with h rule f n tokens >>= ends_there

-- these tokens, and no others, spell the phrase with some value
abbrev pub IsWhole : {R σ A : Type 0} → (σ → Kind → Bool) → (σ → Form R σ Tree) → Form R σ A → ℕ → List Sign → Type 0
IsWhole {R} {A = A} h rule f n tokens = (a : A) × (uses : List (Use R)) × SpellsWith h rule f n tokens a uses []

-- Nothing that is asked begins with the tokens through the one at which so many are left.
pub record Dead (IsOne : List Sign → Type 0) (tokens : List Sign) (count : ℕ) : Type 0 where
  pub front : List Sign
  pub rest : List Sign
  pub split : tokens ≡ front ++ rest
  pub left : count ≡ length rest
  pub none : (more : List Sign) → SameFirst rest more → IsOne (front ++ more) → ⊥
