-- The pairs of a certificate of secrecy, and what is made to test one.
use Rattle.std.specs.Prelude.{ℕ, List, [], ◌∷◌, map, Option, Some, None}
use Rattle.cv_pool.specs.KindTree.{KindTree}
use Rattle.cv_pool.specs.Nodes.{ChildBelow}
use Rattle.cv_syntax_trees.specs.declared.head.Head.TheVariants as head
use Rattle.cv_syntax_trees.specs.Tree.{Tree, Node, chain}
use Rattle.cv_syntax.specs.PoolTrees.{tree_at}
use Rattle.cv_scene.specs.Late.{index_term}
use Rattle.cv_scene.specs.Pairs.{all_of_second, second_indices}
use Rattle.cv_query_certificates.specs.EventNodes.{place_in}
use Rattle.cv_query_certificates.specs.Marks.{plain}
use Rattle.cv_query_certificates.specs.Pairs.{equations_between}
use Rattle.cv_query_parts.specs.declared.pairs.secrets.SecretPart.{SecretPart}

-- a part that is a pair, by its items

pub record SecretItems : Type 0 where
  pub first : ℕ
  pub second : ℕ
  pub by : Tree

abbrev pub items_of_secret : Tree → Option SecretItems
items_of_secret (Node head.SecretPair p (Node h q by)) = Some (record { first = place_in p; second = place_in q; by = by })
items_of_secret part = None

abbrev pub secret_seen : List KindTree → SecretPart → SecretItems
secret_seen trees p = record { first = p.first; second = p.second; by = tree_at trees p.by }

abbrev pub IsSecretBelow : ℕ → SecretPart → Type 0
IsSecretBelow n p = ChildBelow n p.by

-- the equations that are given, the indices of the second copy, those of the first, again those of the second, and the derivation
abbrev pub secret_lists_of : (k : ℕ) → (firsts rows : List (ℕ × ℕ)) → (ones others : List Tree) → (by : Tree) → Tree
secret_lists_of k firsts rows ones others by =
    chain
    (chain (equations_between ones (all_of_second k rows others))
    ∷ chain (map index_term (second_indices k rows))
    ∷ chain (map index_term firsts)
    ∷ chain (map index_term (second_indices k rows))
    ∷ plain k by
    ∷ [])
