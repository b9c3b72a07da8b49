-- What the readers of collisions give. This profile's own.
use Rattle.std.specs.Prelude.{ℕ, ◌≡◌, List, [], ◌∷◌, ◌++◌, Result, Ok, Err}
use Rattle.cv_syntax_trees.specs.declared.head.Head.TheVariants.{Cons, Oracle, Single}
use Rattle.cv_syntax.specs.declared.make.Make.{Make}
use Rattle.cv_syntax.specs.declared.make.Make.TheVariants.{Nothing, Over}
use Rattle.cv_syntax_trees.specs.Tree.{Tree, binders}
use Rattle.cv_syntax.specs.Postorder.{postorder}
use Rattle.cv_parse_notation.specs.declared.sign.Sign.{Sign}
use Rattle.cv_parse_notation.specs.Reads.{Read}
use Rattle.cv_parse_grammar.specs.declared.role.Role.{Role}
use Rattle.cv_parse_terms.specs.declared.trail.Trail.{Trail}
use Rattle.cv_parse_terms.specs.declared.lookahead.ReadError.{ReadError}
use Rattle.cv_parse_terms.specs.Gives.{Fails, IsRead}

-- the parts of a key, as a list of one variable
abbrev pub key_parts : ℕ × ℕ → List Make
key_parts key = postorder (binders (key ∷ []))

-- the parts of a collision's group before its term, by those of its key and its arguments, and behind it
abbrev pub parts_before : ℕ → List Make → List Make → List Make
parts_before x key args = key ++ (Nothing ∷ (args ++ Over (Single x) ∷ []))

abbrev pub parts_behind : ℕ → List Make
parts_behind x = Over (Oracle x) ∷ (Nothing ∷ (Over Cons ∷ (Over (Single x) ∷ [])))

-- the parts of the group of a collision with this term
abbrev pub parts_around : ℕ → List Make → List Make → Tree → List Make
parts_around x key args t = parts_before x key args ++ (postorder t ++ parts_behind x)

-- The arguments and the two terms of a collision were read, with a probability between the terms, and both groups made.
pub record AreTerms (x : ℕ) (key : List Make) (all : List Sign) (old new : Trail) (reading : Read Role (Tree × (Tree × (ℕ × Tree)))) (bound end : ℕ) : Type 0 where
  pub args : Tree
  pub left : Tree
  pub right : Tree
  pub read : IsRead all old.uses.items new.uses.items reading (args, (left, (bound, right))) end
  pub makes : new.makes.items ≡ old.makes.items ++ (parts_around x key (postorder args) left ++ parts_around x key (postorder args) right)

abbrev pub MakesTerms : ℕ → List Make → List Sign → Trail → Trail → Result (ℕ × ℕ) ReadError → Read Role (Tree × (Tree × (ℕ × Tree))) → Type 0
MakesTerms x key all old new (Ok y) read = AreTerms x key all old new read y.0 y.1
MakesTerms x key all old new (Err e) read = Fails all e read
