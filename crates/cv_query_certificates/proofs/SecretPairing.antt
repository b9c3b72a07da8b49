-- Where no pair of a secret is wrong, each that is needed is given, and the other way round.
use Rattle.std.proofs.Common.{◌≡◌, ℕ, List, [], ◌∷◌, None, refl, ap, ◌∙◌}
use Rattle.cv_syntax_trees.specs.lists.Options.{first_of}
use Rattle.cv_syntax_trees.proofs.lists.Options.{first_of_none, some_none}
use Rattle.cv_syntax_trees.specs.declared.head.Head.TheVariants.{SecretPair}
use Rattle.cv_syntax_trees.specs.Tree.{Tree, Empty, Node}
use Rattle.cv_scene.specs.Scenes.{Scene}
use Rattle.cv_query_certificates.specs.Failures.{first_surplus}
use Rattle.cv_query_certificates.specs.Marks.{plain}
use Rattle.cv_query_certificates.specs.SecretPairs.{AreSecretPairsFor, IsSecretPair, NeededSecret, first_wrong_secret, is_secret_pair, proves_secret, secret_pair_fault}
use Rattle.cv_query_certificates.proofs.Pairing.{both_hold, both_if}

module _ (s : Scene) (k : ℕ) where
  pair_stands : (n : NeededSecret) (part : Tree) → secret_pair_fault s k n part ≡ None → IsSecretPair s k n part
  pair_stands n (Node SecretPair p (Node h q by)) e = both_if (is_secret_pair n p q) (proves_secret s k n (plain k by)) _ _ e
  pair_stands n part e = absurd (some_none _ e)

  pair_passes : (n : NeededSecret) (part : Tree) → IsSecretPair s k n part → secret_pair_fault s k n part ≡ None
  pair_passes n (Node SecretPair p (Node h q by)) a = both_hold (is_secret_pair n p q) (proves_secret s k n (plain k by)) _ _ a.0 a.1
  pair_passes n part a = absurd a

  pub secrets_stand : (ns : List NeededSecret) (parts : Tree) → first_wrong_secret s k ns parts ≡ None → AreSecretPairsFor s k ns parts
  secrets_stand [] Empty e = tt
  secrets_stand [] (Node h part more) e = absurd (some_none _ e)
  secrets_stand (n ∷ ns) Empty e = absurd (some_none _ e)
  secrets_stand (n ∷ ns) (Node h part more) e =
      let a = first_of_none (secret_pair_fault s k n part) _ e in (pair_stands n part a.0, secrets_stand ns more a.1)

  pub secrets_pass : (ns : List NeededSecret) (parts : Tree) → AreSecretPairsFor s k ns parts → first_wrong_secret s k ns parts ≡ None
  secrets_pass [] Empty a = refl
  secrets_pass [] (Node h part more) a = absurd a
  secrets_pass (n ∷ ns) Empty a = absurd a
  secrets_pass (n ∷ ns) (Node h part more) a =
      ap (λ z. first_of z (first_wrong_secret s k ns more)) (pair_passes n part a.0) ∙ secrets_pass ns more a.1

-- where none is needed none is given
pub none_given : (pairs : Tree) → first_surplus pairs ≡ None → pairs ≡ Empty
none_given Empty e = refl
none_given (Node h part more) e = absurd (some_none _ e)
