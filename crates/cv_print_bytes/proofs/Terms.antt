-- The text of terms and of lists of terms has their signs.
use Rattle.std.proofs.Common.{◌≡◌, ℕ, Bool, true, false, List, length, refl}
use Rattle.cv_parse_notation.specs.declared.sign.Mark.TheVariants as mark
use Rattle.cv_parse_notation.specs.declared.sign.Sign.{Sign}
use Rattle.cv_print.specs.Terms.{term_text, terms_text}
use Rattle.cv_print_bytes.specs.terminals.Signs.{term_signs, terms_signs}
use Rattle.cv_syntax_trees.specs.Tree.{Tree, Empty, Node}
use Rattle.cv_syntax_trees.specs.declared.head.Head.TheVariants.{Leaf, Primed, Read, Apply, Eq, And, Or, Not, Yes, No}
use Rattle.cv_print_bytes.specs.Known.{AreNames, is_named}
use Rattle.cv_print_bytes.proofs.Fronts.{Front, nothing, none, first, ◌and◌, ◌last◌}
use Rattle.cv_print_bytes.proofs.Literals.{comma_space, equals, conjunction, disjunction, negation}
use Rattle.cv_print_bytes.proofs.Named.{parted}
use Rattle.cv_print_bytes.proofs.Tokens.{word, name, opening, closing, opening_square, closing_square, prime}

module _ {names : List (List ℕ)} (are : AreNames names) where
  mutual
    unfolding term_text term_signs

    pub of_term : (t : Tree) → is_named (length names) t ≡ true → Front names false true (term_text names t) (term_signs t)
    of_term (Node (Leaf x) a b) k = let p = parted (length names) (Leaf x) a b k in name are x p.here
    of_term (Node (Primed x) a b) k = let p = parted (length names) (Primed x) a b k in first (name are x p.here) last prime
    of_term (Node (Read x) a b) k = let p = parted (length names) (Read x) a b k in first (name are x p.here) and opening_square and of_terms nothing a p.left last closing_square
    of_term (Node (Apply f) a b) k = let p = parted (length names) (Apply f) a b k in first (name are f p.here) and opening and of_terms nothing a p.left last closing
    of_term (Node Eq a b) k = let p = parted (length names) Eq a b k in first opening and of_term a p.left and equals and of_term b p.right last closing
    of_term (Node And a b) k = let p = parted (length names) And a b k in first opening and of_term a p.left and conjunction and of_term b p.right last closing
    of_term (Node Or a b) k = let p = parted (length names) Or a b k in first opening and of_term a p.left and disjunction and of_term b p.right last closing
    of_term (Node Not a b) k = let p = parted (length names) Not a b k in first negation and of_term a p.left last closing
    of_term (Node Yes a b) k = word mark.True refl refl
    of_term (Node No a b) k = word mark.False refl refl
    of_term t k = none

    -- a list of terms, with a text before the first
    pub of_terms : {q : Bool} {before : List ℕ} {s : List Sign} → Front names q false before s → (t : Tree) → is_named (length names) t ≡ true → Front names q true (terms_text names before t) (terms_signs s t)
    of_terms f Empty k = none
    of_terms f (Node h a b) k = let p = parted (length names) h a b k in first f and of_term a p.left last of_terms comma_space b p.right
