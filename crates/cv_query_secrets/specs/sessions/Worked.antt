-- Worked certificates of secrecy for many sessions: two copies of one nonce of a session are one copy, by the index of the nonce.
-- Names are numbers, as in the worked certificates of queries.
use Rattle.std.specs.Prelude.{ℕ, List, [], ◌∷◌}
use Rattle.cv_syntax_trees.specs.declared.head.Head.TheVariants.{BySame, Cons, Primed, SecretPair}
use Rattle.cv_syntax_trees.specs.Builders.{leaf}
use Rattle.cv_syntax_trees.specs.Tree.{Tree, Empty, Node, chain, lone}
use Rattle.cv_query_certificates.specs.Worked.{eq, line, number}

abbrev pub pair_by : (p q : ℕ) → (lines : List Tree) → Tree
pair_by p q lines = Node SecretPair (number p) (Node Cons (number q) (chain lines))

-- 1 = 1' by same 1
abbrev pub one_session : List Tree
one_session = line (eq (leaf 1) (lone (Primed 1))) (Node BySame (number 1) Empty) ∷ []

abbrev pub by_session : (place : ℕ) → Tree
by_session p = chain (pair_by p p one_session ∷ [])
