-- What the values of forms have that the rows are made of.
use Rattle.std.specs.Prelude.{ℕ, Bool, Option, Some, None}
use Rattle.std.specs.List.{AllByRecursion}
use Rattle.cv_syntax_trees.specs.Tree.{Tree}
use Rattle.cv_parse_notation.specs.declared.sign.Mark.{Mark}
use Rattle.cv_parse_notation.specs.Form.{Form, made, may}
use Rattle.cv_parse_grammar.specs.declared.role.Region.{Region}
use Rattle.cv_parse_grammar.specs.declared.role.Role.{Role}
use Rattle.cv_parse_grammar.specs.Phrases.{Sort, or_else, after, row, bracket, square, inside}
use Rattle.cv_parse_grammar.specs.yields.Yields.{IfThere}
use Rattle.cv_parse_grammar.proofs.yields.Yielding.{Gives, anything, before, behind, follow, leveled, perhaps, several, turned}

-- what a tail makes of what has the property has it
abbrev pub Tail : (Tree → Type 0) → (Tree → Tree) → Type 0
Tail p f = (t : Tree) → p t → p (f t)

pub after_is : (p : Tree → Type 0) (t : Tree) → p t → (o : Option (Tree → Tree)) → IfThere (Tail p) o → p (after t o)
after_is p t w None v = w
after_is p t w (Some f) v = v t w

-- of what may be missing
pub else_is : {A : Type 0} (p : A → Type 0) (a : A) → p a → (o : Option A) → IfThere p o → p (or_else a o)
else_is p a w None v = w
else_is p a w (Some b) v = v

module _ {W : Role → ℕ → Type 0} {P : Sort → Tree → Type 0} where
  pub in_row : {A : Type 0} {m : Mark} {f : Form Role Sort A} {p : A → Type 0} → Gives W P f p → Gives W P (row m f) (AllByRecursion p)
  in_row i = turned (follow i (several (behind i))) (λ x w. w)

  pub bracketed : {A : Type 0} {f : Form Role Sort A} {p : A → Type 0} → Gives W P f p → Gives W P (bracket f) p
  bracketed i = leveled (behind (before i))

  pub squared : {A : Type 0} {f : Form Role Sort A} {p : A → Type 0} → Gives W P f p → Gives W P (square f) p
  squared i = leveled (behind (before i))

  pub enclosed : {A : Type 0} {r : Region} {f : Form Role Sort A} {p : A → Type 0} → Gives W P f p → Gives W P (inside r f) p
  enclosed i = turned (follow anything (follow i anything)) (λ x w. w.1.0)

  pub or_this : {A : Type 0} {near : Bool} {f : Form Role Sort A} {p : A → Type 0} (a : A) → p a → Gives W P f p → Gives W P (made (or_else a) (may near f)) p
  or_this {p = p} a w i = turned (perhaps i) (else_is p a w)
