-- Declarations from their parts.
use Rattle.std.proofs.Common.{◌≡◌, ◌≢◌, ℕ, true, List, [], ◌∷◌, ◌++◌, drop, refl, ap, sym, ◌∙◌, append-nil, Option, map}
use Rattle.std.specs.Prelude.{flat_map}
use Rattle.std.specs.List.{AllByRecursion}
use Rattle.cv_syntax_trees.specs.declared.class.Class.{Class}
use Rattle.cv_syntax_trees.specs.declared.head.Head.{Head}
use Rattle.cv_syntax.specs.declared.make.Make.{Make}
use Rattle.cv_syntax_trees.specs.Declarations.{Declaration, Named}
use Rattle.cv_syntax_trees.specs.Tree.{Tree, Empty, Node}
use Rattle.cv_parse_notation.specs.declared.sign.Sign.{Sign}
use Rattle.cv_parse_notation.specs.Reads.{Read, found}
use Rattle.cv_parse_grammar.specs.declared.role.Role.{Role}
use Rattle.cv_parse_terms.specs.Gives.{IsPlain, IsRead}
use Rattle.cv_parse_declarations.specs.declared.signature.heard.Heard.TheVariants as heard
use Rattle.cv_parse_declarations.specs.signature.Declares.{IsWhole, heard_of, is_of_name, parts_of}

-- names of one class, without arguments
abbrev pub plain : Class → Option ℕ → ℕ → Declaration
plain c r x = Named x c Empty r

pub plain_heard : (c : Class) (r : Option ℕ) (xs : List ℕ) → map (λ x. heard.Named x c r) xs ≡ map heard_of (map (plain c r) xs)
plain_heard c r [] = refl
plain_heard c r (x ∷ xs) = ap (λ l. heard.Named x c r ∷ l) (plain_heard c r xs)

pub names_whole : (c : Class) (r : Option ℕ) (xs : List ℕ) → is_of_name c ≡ true → AllByRecursion IsWhole (map (plain c r) xs)
names_whole c r [] h = tt
names_whole c r (x ∷ xs) h = (h, names_whole c r xs h)

-- the parts of one declaration
pub one_made : (d : Declaration) (a b : List Make) → b ≡ a ++ parts_of d → b ≡ a ++ flat_map parts_of (d ∷ [])
one_made d a b e = e ∙ ap (λ l. a ++ l) (sym (append-nil (parts_of d)))

-- nothing was noted
pub plain_of : {A : Type 0} {all : List Sign} {a : A} {end : ℕ} (r : Read Role A) → IsRead all [] [] r a end → IsPlain all r a end
plain_of {all = all} {a = a} {end = end} r d = record { is = d.is ∙ ap (λ us. found a us (drop end all)) (sym d.noted); within = d.within }

-- a tree that is there
pub is_there : (h : Head) (s t : Tree) → Node h s t ≢ Empty
is_there h s t e = absurd (cc)
