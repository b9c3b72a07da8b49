-- Which condition of a certificate fails first, and where: each is tested at all entries before the next one is. That a query is
-- closed only once is the sequence's test. This profile's own.
use Rattle.std.specs.Prelude.{ℕ, Bool, true, false, not, if◌then◌else◌, List, [], ◌∷◌, Option, None, Some, is_some, option_map}
use Rattle.std.specs.List.{list_all}
use Rattle.cv_syntax_trees.specs.lists.Options.{first_of}
use Rattle.cv_syntax_trees.specs.declared.head.Head.TheVariants.{AtEntry, EventsCertificate, Secret, SecretCertificate, SecretOnce}
use Rattle.cv_syntax_trees.specs.Tree.{Tree, Empty, Node, first}
use Rattle.cv_meaning.specs.Correspondences.{Correspondence, correspondence_of}
use Rattle.cv_scene.specs.lines.Ends.{ends_with}
use Rattle.cv_scene.specs.Derivations.{first_bad_line, unless}
use Rattle.cv_scene.specs.Scenes.{Scene}
use Rattle.cv_scene.specs.Sights.{sight_at}
use Rattle.cv_query_certificates.specs.Claims.{Claim, entry_claims}
use Rattle.cv_query_certificates.specs.EventNodes.{place_in}
use Rattle.cv_query_certificates.specs.Forms.{has_form, left_places}
use Rattle.cv_query_certificates.specs.Marks.{raise_of}
use Rattle.cv_query_certificates.specs.PairParts.{behind_entries, distinct_in, first_unfit_name, first_wrong_pair, pairs_in}
use Rattle.cv_query_certificates.specs.Pairs.{needed_pairs}
use Rattle.cv_query_certificates.specs.SecretPairs.{first_wrong_secret, needed_secrets}
use Rattle.cv_query_certificates.specs.Secrets.{first_offence_of_choices, first_offence_of_copies, starts_by_let}

pub record Failure : Type 0 where
  pub condition : ℕ
  pub place : ℕ

abbrev pub failed : (condition place : ℕ) → Option Failure
failed n p = Some (record { condition = n; place = p })

abbrev pub failure : (condition : ℕ) → Option ℕ → Option Failure
failure n p = option_map (λ place. record { condition = n; place = place }) p

-- the place of the first part that isn't the entry that is due, or for which there is none: a part too many has its own place
abbrev pub surplus_entry : (parts : Tree) → Option ℕ
surplus_entry (Node h (Node AtEntry n e) more) = Some (place_in n)
surplus_entry parts = None

abbrev pub first_unformed : Scene → Correspondence → List ℕ → (parts : Tree) → Option ℕ
first_unformed s q [] parts = surplus_entry parts
first_unformed s q (p ∷ ps) Empty = Some p
first_unformed s q (p ∷ ps) (Node h entry more) = first_of (unless (has_form s q p entry) p) (first_unformed s q ps more)

-- the first entry one of whose claims fails a test
abbrev pub first_failing : (Scene → (place : ℕ) → Claim → Bool) → Scene → Correspondence → List ℕ → (parts : Tree) → Option ℕ
first_failing test s q (p ∷ ps) (Node h entry more) =
    first_of (unless (list_all (test s p) (entry_claims s q p entry)) p) (first_failing test s q ps more)
first_failing test s q ps parts = None

abbrev pub is_right : Scene → (place : ℕ) → Claim → Bool
is_right s p c = not (is_some (first_bad_line (sight_at s p) c.by))

abbrev pub has_end : Scene → (place : ℕ) → Claim → Bool
has_end s p c = ends_with c.by c.targets

-- of what stands behind the entries
abbrev pub rest_failure : Scene → Correspondence → (k : ℕ) → (parts rest : Tree) → Option Failure
rest_failure s q k parts rest =
    first_of (failure 5 (first_wrong_pair s k (distinct_in rest) (needed_pairs s k q parts) (pairs_in rest)))
    (failure 6 (first_unfit_name s [] (distinct_in rest)))

abbrev pub parts_failure : Scene → Correspondence → List ℕ → (parts : Tree) → Option Failure
parts_failure s q ps parts =
    first_of (failure 2 (first_unformed s q ps parts))
    (first_of (failure 3 (first_failing is_right s q ps parts))
    (first_of (failure 4 (first_failing has_end s q ps parts))
    (rest_failure s q (raise_of s parts) parts (behind_entries ps parts))))

-- the first of the places, or 0
abbrev pub least_place : List ℕ → ℕ
least_place [] = 0
least_place (p ∷ ps) = p

-- at the first place of the left event
abbrev pub certificate_refused : Scene → Correspondence → Option Failure
certificate_refused s q = failed 2 (least_place (left_places s q))

abbrev pub certificate_failure : Scene → Correspondence → (certificate : Tree) → Option Failure
certificate_failure s q (Node EventsCertificate parts e) = parts_failure s q (left_places s q) parts
certificate_failure s q certificate = certificate_refused s q

-- Of secrecy, by the first offences against the two forms. Pairs are needed for many sessions alone, where the second form holds and the
-- first doesn't. Where neither holds, the first offence is against the form that the first definition has.

-- where no pair is needed: the place of the first that is given
abbrev pub first_surplus : (pairs : Tree) → Option ℕ
first_surplus Empty = None
first_surplus (Node h part more) = Some (place_in (first part))

abbrev pub pairs_fault : (once : Bool) → Scene → (x : ℕ) → (choices copies : Option ℕ) → (pairs : Tree) → Option ℕ
pairs_fault false s x (Some p) None pairs = first_wrong_secret s (raise_of s pairs) (needed_secrets s (raise_of s pairs) x) pairs
pairs_fault once s x p q pairs = first_surplus pairs

abbrev pub forms_failure : (game : Tree) → (x : ℕ) → (choices copies : Option ℕ) → Option Failure
forms_failure game x (Some p) (Some q) = failed 7 (if starts_by_let game x then q else p)
forms_failure game x p q = None

abbrev pub failure_by : (once : Bool) → Scene → (x : ℕ) → (choices copies : Option ℕ) → (pairs : Tree) → Option Failure
failure_by once s x p q pairs = first_of (failure 5 (pairs_fault once s x p q pairs)) (forms_failure s.game x p q)

abbrev pub pairs_failure : (once : Bool) → Scene → (x : ℕ) → (pairs : Tree) → Option Failure
pairs_failure once s x pairs = failure_by once s x (first_offence_of_choices s.game x) (first_offence_of_copies s x) pairs

abbrev pub secret_failure : (once : Bool) → Scene → (x : ℕ) → (certificate : Tree) → Option Failure
secret_failure once s x (Node SecretCertificate pairs e) = pairs_failure once s x pairs
secret_failure once s x certificate = failed 2 0

abbrev pub query_failure : Scene → (query certificate : Tree) → Option Failure
query_failure s (Node (Secret x) a b) certificate = secret_failure false s x certificate
query_failure s (Node (SecretOnce x) a b) certificate = secret_failure true s x certificate
query_failure s query certificate = certificate_failure s (correspondence_of query) certificate

-- of a certificate of a query
abbrev pub first_failure : Scene → (query : Option Tree) → (certificate : Tree) → Option Failure
first_failure s None certificate = failed 1 0
first_failure s (Some query) certificate = query_failure s query certificate
