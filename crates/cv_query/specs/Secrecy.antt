-- What the forms of a variable's secrecy say of a certificate, and what is left to the test of its pairs.
use Rattle.std.specs.Prelude.{ℕ, List, Option, option_map}
use Rattle.cv_pool.specs.KindTree.{KindTree}
use Rattle.cv_syntax_trees.specs.Tree.{Tree}
use Rattle.cv_syntax.specs.PoolTrees.{tree_at}
use Rattle.cv_scene.specs.Scenes.{Scene}
use Rattle.cv_query_certificates.specs.Failures as failures
use Rattle.cv_query_certificates.specs.Failures.{failure}
use Rattle.cv_query_certificates.specs.Marks.{raise_of}
use Rattle.cv_query_certificates.specs.SecretPairs.{first_wrong_secret, needed_secrets}
use Rattle.cv_query.specs.Claimed.{failure_of}
use Rattle.cv_query.specs.pairs.CopyPairs.{AreLeft}
use Rattle.cv_query.specs.declared.secrets.Secrecy.{Secrecy}
use Rattle.cv_query.specs.declared.secrets.Secrecy.TheVariants.{Decided, ByPairs}

-- of many sessions, where the second form alone holds
abbrev pub by_pairs : Scene → (x : ℕ) → (pairs : Tree) → Option failures.Failure
by_pairs s x pairs = failure 5 (first_wrong_secret s (raise_of s pairs) (needed_secrets s (raise_of s pairs) x) pairs)

abbrev pub secrecy_of : Scene → List KindTree → (x : ℕ) → Secrecy → Option failures.Failure
secrecy_of s trees x (Decided f) = option_map failure_of f
secrecy_of s trees x (ByPairs pairs) = by_pairs s x (tree_at trees pairs)

abbrev pub IsSecrecy : List KindTree → Secrecy → Type 0
IsSecrecy trees (Decided f) = Unit {0}
IsSecrecy trees (ByPairs pairs) = AreLeft trees pairs
