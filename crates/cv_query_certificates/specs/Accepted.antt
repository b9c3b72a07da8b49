-- Accepted certificates. Of a correspondence: each left event has an entry, in the order of places. Either its node is
-- never reached, or each right event of an alternative was executed before, since its node stands above, or above the only definition of a
-- variable that is assigned. With `inj`, two left events whose routes for one atom may end at one right event are told apart, or are one,
-- by a derivation at both places. Of secrecy: the game itself has the form; for many sessions two copies of one value are told apart, or are one, by a
-- derivation at both. Blanchet, CSF 2007, for correspondences, and
-- TDSC 2008, for secrecy; certificates are this profile's own.
use Rattle.std.specs.Prelude.{◌≡◌, ℕ, Bool, true, false, List, [], ◌∷◌, Option, None, Some}
use Rattle.std.specs.List.{AllByRecursion}
use Rattle.cv_syntax_trees.specs.declared.head.Head.TheVariants.{EventsCertificate, Query, Secret, SecretCertificate, SecretOnce}
use Rattle.cv_syntax_trees.specs.Tree.{Tree, Empty, Node}
use Rattle.cv_meaning.specs.Correspondences.{Correspondence, correspondence_of}
use Rattle.cv_scene.specs.Derivations.{Derives}
use Rattle.cv_scene.specs.Scenes.{Scene}
use Rattle.cv_scene.specs.Sights.{sight_at}
use Rattle.cv_query_certificates.specs.Claims.{Claim, entry_claims}
use Rattle.cv_query_certificates.specs.Forms.{has_form, left_places}
use Rattle.cv_query_certificates.specs.Marks.{raise_of}
use Rattle.cv_query_certificates.specs.PairParts.{AreDistinct, ArePairs, behind_entries, distinct_in, pairs_in}
use Rattle.cv_query_certificates.specs.Pairs.{needed_pairs}
use Rattle.cv_query_certificates.specs.SecretPairs.{AreSecretPairs}
use Rattle.cv_query_certificates.specs.Secrets.{AreUnreadChoices, AreUnreadCopies, IsSecret, first_offence_of_choices}

-- the derivation is right at the place, and ends with the targets
abbrev pub Proves : Scene → (place : ℕ) → Claim → Type 0
Proves s p c = Derives (sight_at s p) c.by c.targets

-- what is said of the left event's node at a place, with a derivation for each right event and term
pub record IsEntry (s : Scene) (q : Correspondence) (place : ℕ) (entry : Tree) : Type 0 where
  pub form : has_form s q place entry ≡ true
  pub claims : AllByRecursion (Proves s place) (entry_claims s q place entry)

-- an entry for each place, in order
abbrev pub AreEntries : Scene → Correspondence → List ℕ → (parts : Tree) → Type 0
AreEntries s q [] parts = Unit {0}
AreEntries s q (p ∷ ps) (Node h entry more) = IsEntry s q p entry × AreEntries s q ps more
AreEntries s q ps parts = ⊥

-- What stands behind the entries: the pairs that are needed, each with its derivation, in which the values of some variables are taken to
-- differ, which are chosen at random from large types. The indices of second copies are named from the number k on.
pub record IsRest (s : Scene) (q : Correspondence) (k : ℕ) (parts rest : Tree) : Type 0 where
  pub pairs : ArePairs s k (distinct_in rest) (needed_pairs s k q parts) (pairs_in rest)
  pub distinct : AreDistinct s [] (distinct_in rest)

pub record AreParts (s : Scene) (q : Correspondence) (places : List ℕ) (parts : Tree) : Type 0 where
  pub entries : AreEntries s q places parts
  pub rest : IsRest s q (raise_of s parts) parts (behind_entries places parts)

abbrev pub IsEventsProof : Scene → Correspondence → (certificate : Tree) → Type 0
IsEventsProof s q (Node EventsCertificate parts e) = AreParts s q (left_places s q) parts
IsEventsProof s q certificate = ⊥

-- Of secrecy in one session: in either form. In many: in the first form, without pairs; where it doesn't hold, in the second one, with the
-- pairs that are needed.

abbrev pub IsSecretOfMany : Scene → (x : ℕ) → (choices : Option ℕ) → (pairs : Tree) → Type 0
IsSecretOfMany s x None pairs = AreUnreadChoices s.game x × (pairs ≡ Empty)
IsSecretOfMany s x (Some p) pairs = AreUnreadCopies s x × AreSecretPairs s x pairs

abbrev pub IsSecretProof : (once : Bool) → Scene → (x : ℕ) → (certificate : Tree) → Type 0
IsSecretProof true s x (Node SecretCertificate Empty e) = IsSecret s x
IsSecretProof false s x (Node SecretCertificate pairs e) = IsSecretOfMany s x (first_offence_of_choices s.game x) pairs
IsSecretProof once s x certificate = ⊥

-- the tree is a query: a correspondence, or one of secrecy
abbrev pub is_query : Tree → Bool
is_query (Node Query binders sides) = true
is_query (Node (Secret x) a b) = true
is_query (Node (SecretOnce x) a b) = true
is_query t = false

-- of a tree that is no query there is no proof
abbrev pub IsProofOf : Scene → (query certificate : Tree) → Type 0
IsProofOf s (Node Query binders sides) certificate = IsEventsProof s (correspondence_of (Node Query binders sides)) certificate
IsProofOf s (Node (Secret x) a b) certificate = IsSecretProof false s x certificate
IsProofOf s (Node (SecretOnce x) a b) certificate = IsSecretProof true s x certificate
IsProofOf s query certificate = ⊥

pub record IsAccepted (s : Scene) (query certificate : Tree) : Type 0 where
  pub proof : IsProofOf s query certificate
