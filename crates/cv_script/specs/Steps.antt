-- The trees of steps, certificates and derivations. This profile's own. A certificate says of each left event of a
-- correspondence why the right events hold; correspondences are those of Blanchet, CSF 2007.
use Rattle.std.specs.Prelude.{ℕ, List, [], ◌∷◌, map}
use Rattle.cv_syntax_trees.specs.declared.head.Head.TheVariants.{Eq, Number, Line, ByRefl, AboveRoute, AtEntry, WithEntry, EventsCertificate, SuccessStep}
use Rattle.cv_syntax_trees.specs.Tree.{Tree, Empty, Node, chain, lone}

abbrev pub number : ℕ → Tree
number n = lone (Number n)

-- the line `(M = M) by refl` of a derivation, and such lines, one for each term of a list

abbrev pub reflexive : Tree → Tree
reflexive m = Node Line (Node Eq m m) (lone ByRefl)

abbrev pub terms_in : Tree → List Tree
terms_in Empty = []
terms_in (Node h m more) = m ∷ terms_in more

-- the k-th query, from 1, is closed by a certificate
abbrev pub success : ℕ → (certificate : Tree) → Tree
success k certificate = Node SuccessStep (number k) certificate
