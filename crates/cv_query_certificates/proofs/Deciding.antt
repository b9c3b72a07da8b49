-- Where no condition of a certificate fails it is accepted, and the other way round.
use Rattle.std.proofs.Common.{◌≡◌, ◌↔◌, ℕ, Bool, true, false, List, [], ◌∷◌, Option, Some, None, inl, inr, refl, sym, ap, ap₂, ◌∙◌}
use Rattle.std.specs.Prelude.{not, is_some}
use Rattle.std.proofs.lemmas.Bool.{and_parts, and_from}
use Rattle.std.specs.List.{AllByRecursion, list_all}
use Rattle.cv_syntax_trees.specs.lists.Options.{first_of}
use Rattle.cv_syntax_trees.specs.declared.head.Head.TheVariants.{EventsCertificate, Query, Secret, SecretCertificate, SecretOnce}
use Rattle.cv_syntax_trees.specs.Tree.{Tree, Empty, Node}
use Rattle.cv_meaning.specs.Correspondences.{Correspondence, correspondence_of}
use Rattle.cv_scene.specs.Derivations.{first_bad_line, unless}
use Rattle.cv_scene.specs.Scenes.{Scene}
use Rattle.cv_scene.specs.Sights.{sight_at}
use Rattle.cv_query_certificates.specs.Accepted.{AreEntries, AreParts, IsAccepted, IsRest, IsEventsProof, IsProofOf, IsSecretOfMany, IsSecretProof, Proves, is_query}
use Rattle.cv_query_certificates.specs.Claims.{Claim, entry_claims}
use Rattle.cv_query_certificates.specs.Failures.{certificate_failure, failure, failure_by, first_failing, first_failure, first_surplus, first_unformed, forms_failure, has_end, is_right, parts_failure, query_failure, rest_failure, secret_failure, surplus_entry}
use Rattle.cv_query_certificates.specs.Forms.{has_form, left_places}
use Rattle.cv_query_certificates.specs.Marks.{raise_of}
use Rattle.cv_query_certificates.specs.PairParts.{behind_entries, distinct_in, first_wrong_pair, pairs_in}
use Rattle.cv_query_certificates.specs.Pairs.{needed_pairs}
use Rattle.cv_query_certificates.specs.SecretPairs.{first_wrong_secret, needed_secrets}
use Rattle.cv_query_certificates.specs.Secrets.{AreUnreadChoices, AreUnreadCopies, IsSecret, earlier, first_offence_of_choices, first_offence_of_copies}
use Rattle.cv_syntax_trees.proofs.lists.Options.{some_none, none_from_not_some, first_of_none}
use Rattle.cv_query_certificates.proofs.Pairing.{names_pass, names_stand, no_entry, pairs_pass, pairs_stand}
use Rattle.cv_query_certificates.proofs.SecretPairing.{none_given, secrets_pass, secrets_stand}

both_none : {A : Type 0} (x y : Option A) → x ≡ None → y ≡ None → first_of x y ≡ None
both_none x y e f = ap (λ z. first_of z y) e ∙ f

failure_none : (n : ℕ) (p : Option ℕ) → failure n p ≡ None → p ≡ None
failure_none n None e = refl
failure_none n (Some p) e = absurd (some_none _ e)

unless_true : (b : Bool) (p : ℕ) → unless b p ≡ None → b ≡ true
unless_true true p e = refl
unless_true false p e = absurd (some_none p e)

module _ (s : Scene) (q : Correspondence) where
  proved : (p : ℕ) (cs : List Claim) → list_all (is_right s p) cs ≡ true → list_all (has_end s p) cs ≡ true → AllByRecursion (Proves s p) cs
  proved p [] r e = tt
  proved p (c ∷ cs) r e =
      let x = and_parts (is_right s p c) _ r in
      let y = and_parts (has_end s p c) _ e in
      (record { right = none_from_not_some (first_bad_line (sight_at s p) c.by) x.0; end = y.0 }, proved p cs x.1 y.1)

  all_right : (p : ℕ) (cs : List Claim) → AllByRecursion (Proves s p) cs → list_all (is_right s p) cs ≡ true
  all_right p [] a = refl
  all_right p (c ∷ cs) a = and_from (is_right s p c) _ (ap (λ o. not (is_some o)) a.0.right) (all_right p cs a.1)

  all_end : (p : ℕ) (cs : List Claim) → AllByRecursion (Proves s p) cs → list_all (has_end s p) cs ≡ true
  all_end p [] a = refl
  all_end p (c ∷ cs) a = and_from (has_end s p c) _ a.0.end (all_end p cs a.1)

  entries_stand : (ps : List ℕ) (parts : Tree) → first_unformed s q ps parts ≡ None → first_failing is_right s q ps parts ≡ None → first_failing has_end s q ps parts ≡ None → AreEntries s q ps parts
  entries_stand [] parts u r e = tt
  entries_stand (p ∷ ps) Empty u r e = absurd (some_none p u)
  entries_stand (p ∷ ps) (Node h entry more) u r e =
      let a = first_of_none (unless (has_form s q p entry) p) _ u in
      let b = first_of_none (unless (list_all (is_right s p) (entry_claims s q p entry)) p) _ r in
      let c = first_of_none (unless (list_all (has_end s p) (entry_claims s q p entry)) p) _ e in (
        record {
          form = unless_true _ p a.0;
          claims = proved p (entry_claims s q p entry) (unless_true _ p b.0) (unless_true _ p c.0);
        },
        entries_stand ps more a.1 b.1 c.1,
      )

  nothing_unformed : (ps : List ℕ) (parts : Tree) → AreEntries s q ps parts → surplus_entry (behind_entries ps parts) ≡ None → first_unformed s q ps parts ≡ None
  nothing_unformed [] parts a n = n
  nothing_unformed (p ∷ ps) Empty a n = absurd a
  nothing_unformed (p ∷ ps) (Node h entry more) a n =
      both_none (unless (has_form s q p entry) p) _ (ap (λ b. unless b p) a.0.form) (nothing_unformed ps more a.1 n)

  nothing_bad : (ps : List ℕ) (parts : Tree) → AreEntries s q ps parts → first_failing is_right s q ps parts ≡ None
  nothing_bad [] parts a = refl
  nothing_bad (p ∷ ps) Empty a = absurd a
  nothing_bad (p ∷ ps) (Node h entry more) a =
      both_none (unless (list_all (is_right s p) (entry_claims s q p entry)) p) _ (ap (λ b. unless b p) (all_right p (entry_claims s q p entry) a.0.claims))
      (nothing_bad ps more a.1)

  nothing_else_ends : (ps : List ℕ) (parts : Tree) → AreEntries s q ps parts → first_failing has_end s q ps parts ≡ None
  nothing_else_ends [] parts a = refl
  nothing_else_ends (p ∷ ps) Empty a = absurd a
  nothing_else_ends (p ∷ ps) (Node h entry more) a =
      both_none (unless (list_all (has_end s p) (entry_claims s q p entry)) p) _ (ap (λ b. unless b p) (all_end p (entry_claims s q p entry) a.0.claims))
      (nothing_else_ends ps more a.1)

  rest_stands : (k : ℕ) (parts rest : Tree) → rest_failure s q k parts rest ≡ None → IsRest s q k parts rest
  rest_stands k parts rest e =
      let a = first_of_none (failure 5 (first_wrong_pair s k (distinct_in rest) (needed_pairs s k q parts) (pairs_in rest))) _ e in
      record {
        pairs = pairs_stand s k (distinct_in rest) (needed_pairs s k q parts) (pairs_in rest) (failure_none 5 _ a.0);
        distinct = names_stand s [] (distinct_in rest) (failure_none 6 _ a.1);
      }

  rest_passes : (k : ℕ) (parts rest : Tree) → IsRest s q k parts rest → rest_failure s q k parts rest ≡ None
  rest_passes k parts rest a =
      both_none (failure 5 (first_wrong_pair s k (distinct_in rest) (needed_pairs s k q parts) (pairs_in rest))) _
      (ap (failure 5) (pairs_pass s k (distinct_in rest) (needed_pairs s k q parts) (pairs_in rest) a.pairs))
      (ap (failure 6) (names_pass s [] (distinct_in rest) a.distinct))

  parts_stand : (ps : List ℕ) (parts : Tree) → parts_failure s q ps parts ≡ None → AreParts s q ps parts
  parts_stand ps parts e =
      let a = first_of_none (failure 2 (first_unformed s q ps parts)) _ e in
      let b = first_of_none (failure 3 (first_failing is_right s q ps parts)) _ a.1 in
      let c = first_of_none (failure 4 (first_failing has_end s q ps parts)) _ b.1 in
      record {
        entries = entries_stand ps parts (failure_none 2 _ a.0) (failure_none 3 _ b.0) (failure_none 4 _ c.0);
        rest = rest_stands (raise_of s parts) parts (behind_entries ps parts) c.1;
      }

  nothing_fails : (ps : List ℕ) (parts : Tree) → AreParts s q ps parts → parts_failure s q ps parts ≡ None
  nothing_fails ps parts a =
      let k : ℕ = raise_of s parts in
      let rest = behind_entries ps parts in
      both_none (failure 2 (first_unformed s q ps parts)) _
      (ap (failure 2) (nothing_unformed ps parts a.entries (no_entry s k (distinct_in rest) (needed_pairs s k q parts) rest a.rest.pairs)))
      (both_none (failure 3 (first_failing is_right s q ps parts)) _ (ap (failure 3) (nothing_bad ps parts a.entries))
      (both_none (failure 4 (first_failing has_end s q ps parts)) _ (ap (failure 4) (nothing_else_ends ps parts a.entries))
      (rest_passes k parts rest a.rest)))

  certificate_stands : (c : Tree) → certificate_failure s q c ≡ None → IsEventsProof s q c
  certificate_stands (Node EventsCertificate parts e) n = parts_stand (left_places s q) parts n
  certificate_stands c n = absurd (some_none _ n)

  certificate_fails_nowhere : (c : Tree) → IsEventsProof s q c → certificate_failure s q c ≡ None
  certificate_fails_nowhere (Node EventsCertificate parts e) a = nothing_fails (left_places s q) parts a
  certificate_fails_nowhere c a = absurd a

-- secrecy

earlier_none : (p q : Option ℕ) → earlier p q ≡ None → (p ≡ None) × (q ≡ None)
earlier_none None q e = (refl, e)
earlier_none (Some p) None e = absurd (some_none p e)
earlier_none (Some p) (Some q) e = absurd (some_none _ e)

both_earlier : (p q : Option ℕ) → p ≡ None → q ≡ None → earlier p q ≡ None
both_earlier p q e f = ap₂ earlier e f

module _ (s : Scene) (x : ℕ) where
  choices_stand : first_offence_of_choices s.game x ≡ None → AreUnreadChoices s.game x
  choices_stand e = let a = earlier_none _ _ e in record { chosen = a.0; unread = a.1 }

  choices_pass : AreUnreadChoices s.game x → first_offence_of_choices s.game x ≡ None
  choices_pass a = both_earlier _ _ a.chosen a.unread

  copies_stand : first_offence_of_copies s x ≡ None → AreUnreadCopies s x
  copies_stand e = let a = earlier_none _ _ e in record { copies = a.0; unread = a.1 }

  copies_pass : AreUnreadCopies s x → first_offence_of_copies s x ≡ None
  copies_pass a = both_earlier _ _ a.copies a.unread

  -- by the first offences against both forms, for one session and for many

  stands_once : (p q : Option ℕ) → p ≡ first_offence_of_choices s.game x → q ≡ first_offence_of_copies s x → forms_failure s.game x p q ≡ None → IsSecret s x
  stands_once None q e f n = inl (choices_stand (sym e))
  stands_once (Some p) None e f n = inr (copies_stand (sym f))
  stands_once (Some p) (Some q) e f n = absurd (some_none _ n)

  stands_many : (p q : Option ℕ) → p ≡ first_offence_of_choices s.game x → q ≡ first_offence_of_copies s x → (pairs : Tree) → failure_by false s x p q pairs ≡ None → IsSecretOfMany s x p pairs
  stands_many None q e f pairs n = (choices_stand (sym e), none_given pairs (failure_none 5 _ (first_of_none (failure 5 (first_surplus pairs)) _ n).0))
  stands_many (Some p) None e f pairs n =
      let k = raise_of s pairs in
      (copies_stand (sym f), secrets_stand s k (needed_secrets s k x) pairs (failure_none 5 _ (first_of_none (failure 5 (first_wrong_secret s k (needed_secrets s k x) pairs)) _ n).0))
  stands_many (Some p) (Some q) e f pairs n =
      absurd (some_none _ (first_of_none (failure 5 (first_surplus pairs)) (forms_failure s.game x (Some p) (Some q)) n).1)

  no_choices : (p q : Option ℕ) → p ≡ None → forms_failure s.game x p q ≡ None
  no_choices p q e = ap (λ o. forms_failure s.game x o q) e

  no_copies : (p q : Option ℕ) → q ≡ None → forms_failure s.game x p q ≡ None
  no_copies None q e = refl
  no_copies (Some p) q e = ap (forms_failure s.game x (Some p)) e

  passes_once : IsSecret s x → forms_failure s.game x (first_offence_of_choices s.game x) (first_offence_of_copies s x) ≡ None
  passes_once (inl a) = no_choices _ _ (choices_pass a)
  passes_once (inr a) = no_copies _ _ (copies_pass a)

  passes_many : (p : Option ℕ) (pairs : Tree) → IsSecretOfMany s x p pairs → failure_by false s x p (first_offence_of_copies s x) pairs ≡ None
  passes_many None pairs a = ap (failure_by false s x None (first_offence_of_copies s x)) a.1
  passes_many (Some p) pairs a =
      let k = raise_of s pairs in
      ap (λ q. failure_by false s x (Some p) q pairs) (copies_pass a.0) ∙ ap (λ o. first_of (failure 5 o) None) (secrets_pass s k (needed_secrets s k x) pairs a.1)

  secret_stands : (once : Bool) (c : Tree) → secret_failure once s x c ≡ None → IsSecretProof once s x c
  secret_stands true (Node SecretCertificate Empty e) n = stands_once _ _ refl refl n
  secret_stands true (Node SecretCertificate (Node h part more) e) n = absurd (some_none _ n)
  secret_stands false (Node SecretCertificate pairs e) n = stands_many _ _ refl refl pairs n
  secret_stands once c n = absurd (some_none _ n)

  secret_fails_nowhere : (once : Bool) (c : Tree) → IsSecretProof once s x c → secret_failure once s x c ≡ None
  secret_fails_nowhere true (Node SecretCertificate Empty e) a = passes_once a
  secret_fails_nowhere false (Node SecretCertificate pairs e) a = passes_many (first_offence_of_choices s.game x) pairs a
  secret_fails_nowhere once c a = absurd a

module _ (s : Scene) where
  query_stands : (query c : Tree) → is_query query ≡ true → query_failure s query c ≡ None → IsProofOf s query c
  query_stands (Node Query bs sides) c b n = certificate_stands s (correspondence_of (Node Query bs sides)) c n
  query_stands (Node (Secret x) a d) c b n = secret_stands s x false c n
  query_stands (Node (SecretOnce x) a d) c b n = secret_stands s x true c n
  query_stands query c b n = absurd (cc)

  query_fails_nowhere : (query c : Tree) → IsProofOf s query c → query_failure s query c ≡ None
  query_fails_nowhere (Node Query bs sides) c p = certificate_fails_nowhere s (correspondence_of (Node Query bs sides)) c p
  query_fails_nowhere (Node (Secret x) a d) c p = secret_fails_nowhere s x false c p
  query_fails_nowhere (Node (SecretOnce x) a d) c p = secret_fails_nowhere s x true c p
  query_fails_nowhere query c p = absurd p

pub decided : (s : Scene) (query certificate : Tree) → is_query query ≡ true → IsAccepted s query certificate ↔ (first_failure s (Some query) certificate ≡ None)
decided s query certificate b = (
  λ a. query_fails_nowhere s query certificate a.proof,
  λ e. record { proof = query_stands s query certificate b e },
)
