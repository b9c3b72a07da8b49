-- The signs of terms hold no word `find`, and so stay as they are.
use Rattle.std.proofs.Common.{◌≡◌, ℕ, zero, suc, List, [], ◌++◌, refl, ap, ◌∙◌}
use Rattle.cv_syntax_trees.specs.declared.head.Head.TheVariants.{Leaf, Primed, Read, Apply, Eq, And, Or, Not, Yes, No}
use Rattle.cv_syntax_trees.specs.Tree.{Tree, Empty, Node}
use Rattle.cv_parse_notation.specs.declared.sign.Mark.{Mark}
use Rattle.cv_parse_notation.specs.declared.sign.Sign.{Sign}
use Rattle.cv_print_bytes.specs.terminals.Signs.{named, numbered, one, term_signs, terms_signs}
use Rattle.cv_print_bytes.proofs.terminals.Pieces.{finds_behind, numbered_append}

pub record Plain (l : List Sign) : Type 0 where
  pub same : (k : ℕ) → numbered k l ≡ l

pub nothing : Plain []
unfolding numbered
nothing = record { same = λ k. refl }

pub symbol : {m : Mark} → Plain (one m)
unfolding numbered
symbol = record { same = λ k. refl }

name : (x : ℕ) → Plain (named x)
unfolding numbered
name zero = record { same = λ k. refl }
name (suc x) = record { same = λ k. refl }

infixr 30 ◌and◌
pub ◌and◌ : {l m : List Sign} → Plain l → Plain m → Plain (l ++ m)
◌and◌ {l = l} {m = m} p q = record { same = λ k. numbered_append k l m ∙ (ap (λ x. x ++ numbered (finds_behind k l) m) (p.same k) ∙ ap (λ x. l ++ x) (q.same (finds_behind k l))) }

mutual
  unfolding term_signs

  pub of_term : (t : Tree) → Plain (term_signs t)
  of_term (Node (Leaf x) a b) = name x
  of_term (Node (Primed x) a b) = name x and symbol
  of_term (Node (Read x) a b) = name x and symbol and of_terms nothing a and symbol
  of_term (Node (Apply f) a b) = name f and symbol and of_terms nothing a and symbol
  of_term (Node Eq a b) = symbol and of_term a and symbol and of_term b and symbol
  of_term (Node And a b) = symbol and of_term a and symbol and of_term b and symbol
  of_term (Node Or a b) = symbol and of_term a and symbol and of_term b and symbol
  of_term (Node Not a b) = symbol and symbol and of_term a and symbol
  of_term (Node Yes a b) = symbol
  of_term (Node No a b) = symbol
  of_term t = nothing

  pub of_terms : {l : List Sign} → Plain l → (t : Tree) → Plain (terms_signs l t)
  of_terms p Empty = nothing
  of_terms p (Node h a b) = p and of_term a and of_terms symbol b
