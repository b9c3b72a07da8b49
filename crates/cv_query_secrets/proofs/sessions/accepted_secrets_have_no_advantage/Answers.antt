use Rattle.std.proofs.Common.{ℕ, true, false, inl, inr, Option, Some, None}
use Rattle.cv_syntax_trees.specs.declared.head.Head.TheVariants.{SecretCertificate}
use Rattle.cv_syntax_trees.specs.Tree.{Tree, Empty, Node}
use Rattle.cv_scene.specs.Scenes.{Scene}
use Rattle.cv_query_certificates.specs.Accepted.{IsSecretOfMany, IsSecretProof}
use Rattle.cv_query_certificates.specs.SecretPairs.{AreSecretPairs}
use Rattle.cv_query_certificates.specs.Secrets.{AreUnreadChoices, AreUnreadCopies, IsSecret, first_offence_of_choices}
use Rattle.cv_query_secrets.proofs.sessions.accepted_secrets_have_no_advantage.Goals as goal

module _ (P : Type 0) (s : Scene) (x : ℕ) where
  of_many : (certificate : Tree) → IsSecretProof false s x certificate → (AreUnreadChoices s.game x → P) → ((pairs : Tree) → AreUnreadCopies s x → AreSecretPairs s x pairs → P) → P
  of_many (Node SecretCertificate pairs e) h f g = go (first_offence_of_choices s.game x) h
    where
      go : (o : Option ℕ) → IsSecretOfMany s x o pairs → P
      go None a = f a.0
      go (Some p) a = g pairs a.0 a.1
  of_many certificate h f g = absurd h

  of_one : (certificate : Tree) → IsSecretProof true s x certificate → (AreUnreadChoices s.game x → P) → (AreUnreadCopies s x → P) → P
  of_one (Node SecretCertificate Empty e) h f g = go h
    where
      go : IsSecret s x → P
      go (inl a) = f a
      go (inr a) = g a
  of_one certificate h f g = absurd h

pub returns-clause-many : goal.returns-clause-many
returns-clause-many c = λ s x certificate ready accepted i model a.
    of_many _ s x certificate accepted.proof (λ k. c.unread_choices_are_secret.ensures.secrecy s x ready.formed k i false a)
    (λ pairs k l. c.unread_copies_are_secret_by_pairs.ensures.secrecy s x pairs ready k l i model a)

pub returns-clause-one : goal.returns-clause-one
returns-clause-one c = λ s x certificate ready accepted i a.
    of_one _ s x certificate accepted.proof (λ k. c.unread_choices_are_secret.ensures.secrecy s x ready.formed k i true a)
    (λ k. c.unread_copies_are_secret_for_one_session.ensures.secrecy s x ready k i a)
