-- Reading looks at no token past the one where it ends or fails.
use Rattle.std.specs.Prelude.{ℕ, ◌≡◌, List, [], ◌∷◌, ◌++◌, length, Ok, Err}
use Rattle.cv_parse_notation.specs.declared.sign.Sign.{Sign}
use Rattle.cv_parse_notation.specs.Reads.{Fault, Syntax, Nesting, Found, Read, Reader}

-- the next token is the same, or both end
abbrev pub SameFirst : List Sign → List Sign → Type 0
SameFirst [] [] = Unit {0}
SameFirst (x ∷ xs) (y ∷ ys) = x ≡ y
SameFirst [] (y ∷ ys) = ⊥
SameFirst (x ∷ xs) [] = ⊥

-- the same fault where so many tokens are left
abbrev pub again : Fault → ℕ → Fault
again (Syntax left) n = Syntax n
again (Nesting left) n = Nesting n

abbrev pub LocalAt : {R A : Type 0} → Reader R A → List Sign → Read R A → Type 0
LocalAt {R} {A} p ts (Ok x) = (front : List Sign) × (ts ≡ front ++ x.rest) × ((other : List Sign) → SameFirst x.rest other → (y : Found R A) × (p (front ++ other) ≡ Ok y) × (y.rest ≡ other))
LocalAt p ts (Err e) = (front : List Sign) × (rest : List Sign) × (ts ≡ front ++ rest) × (e ≡ again e (length rest)) × ((other : List Sign) → SameFirst rest other → p (front ++ other) ≡ Err (again e (length other)))
