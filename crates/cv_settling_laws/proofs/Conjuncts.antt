-- The lines that take a conjunct out of a fact are right.
use Rattle.std.proofs.Common.{◌≡◌, ℕ, suc, ◌+◌, ◌<◌, ◌^◌, true, List, [], ◌∷◌, length, Some, refl, ap, subst, ◌∙◌, arith}
use Rattle.std.proofs.lemmas.Bool.{and_from, and_parts, both_ways}
use Rattle.cv_syntax_trees.specs.declared.head.Head.TheVariants.{And, Not}
use Rattle.cv_syntax_trees.specs.declared.head.Head.TheVariants as head
use Rattle.cv_syntax_trees.specs.Tree.{Tree, Empty, Node, same_tree}
use Rattle.cv_syntax_trees.proofs.Equality.{same_tree_self}
use Rattle.cv_syntax_trees.proofs.lists.Options.{none_some, some_injective}
use Rattle.cv_syntax.specs.faults.Walk.{IsObeyed}
use Rattle.cv_step_writer.specs.Items.{number, over}
use Rattle.cv_scope_rules.specs.Phrases.{Term, is_phrase}
use Rattle.cv_scope_rules.specs.typing.Signature.{boolean}
use Rattle.cv_scope_rules.specs.typing.Wants.{Of}
use Rattle.cv_scene.specs.Derivations.{with_line}
use Rattle.cv_scene.specs.Reasons.{is_reason, is_right, is_tree}
use Rattle.cv_scene.specs.Sights.{Sight, from_one, is_typed}
use Rattle.cv_scene.specs.Terms.{is_there, names_under}
use Rattle.cv_scene.specs.lines.Inferences.{Visible, cited_term, is_left, is_refuted, is_right_side}
use Rattle.cv_scene.specs.lines.Lines.{Holds}
use Rattle.cv_scene.specs.lines.Truths.{no}
use Rattle.cv_settling_rules.specs.Lines.{Citation, Left, Line, Right, Side, along, citation_lines, side_lines, side_of, side_reason}
use Rattle.cv_settling_rules.specs.Reasons.{last_of_citation}
use Rattle.cv_settling_laws.proofs.Derived.{AreRight, IsOpen, cites_term, ends_in_line, number_is, number_is_small, open_line, said_here, seen_behind}
use Rattle.cv_settling_laws.proofs.Terms.{AreTerms, as_any, term_under}

abbrev pub IsTrueTerm : Sight → Tree → Type 0
IsTrueTerm s t = AreTerms s.scene s.replications true (Of boolean) t

pub typed_line : (s : Sight) (t : Tree) → IsTrueTerm s t → is_typed s (Holds t) ≡ true
typed_line s t k = term_under s.scene s.replications t (as_any s.scene s.replications (Of boolean) t k)

pub is_line : (s : Sight) (v : Visible) (t r : Tree) → IsTrueTerm s t → is_reason s Empty v t r ≡ true → is_right s Empty v (Holds t) r ≡ true
is_line s v t r k e = and_from (is_typed s (Holds t)) _ (typed_line s t k) e

-- a fact
pub fact_reason : (s : Sight) (v : Visible) (k : ℕ) (t : Tree) → length s.facts < 2 ^ 32 → from_one s.facts k ≡ Some t → is_reason s Empty v t (over head.ByFact (number k ∷ [])) ≡ true
fact_reason s v k t l e = ap (λ n. is_tree (from_one s.facts n) t) (number_is k (number_is_small s.facts k t l e)) ∙ (ap (λ o. is_tree o t) e ∙ same_tree_self t)

-- `false`

pub false_term : (s : Sight) → IsTrueTerm s no
unfolding is_phrase is_there IsObeyed
false_term s = record { phrase = refl; there = refl; typed = (refl, tt, tt) }

refutes_negation : (m : Tree) → is_phrase Term m ≡ true → is_refuted m (Node Not m Empty) no ≡ true
unfolding is_phrase
refutes_negation Empty p = absurd (both_ways _ refl p)
refutes_negation (Node h a b) p = and_from (same_tree (Node h a b) (Node h a b)) _ (same_tree_self (Node h a b)) (same_tree_self no)

-- by a line and its negation
pub contradiction : (s : Sight) (v : Visible) (l k : ℕ) (m : Tree) → l < 2 ^ 32 → k < 2 ^ 32 → is_phrase Term m ≡ true → v l ≡ Some (Holds m) → v k ≡ Some (Holds (Node Not m Empty)) → is_right s Empty v (Holds no) (over head.ByContra (number l ∷ number k ∷ [])) ≡ true
contradiction s v l k m i j p e f =
    is_line s v no (over head.ByContra (number l ∷ number k ∷ [])) (false_term s)
    ((λ q. is_refuted (cites_term v l m i e q) (cites_term v k (Node Not m Empty) j f q) no) ∙ refutes_negation m p)

-- sides

side_typed : (s : Sight) (side : Side) (m n : Tree) → IsTrueTerm s (Node And m n) → IsTrueTerm s (side_of side (Node And m n))
unfolding is_phrase is_there IsObeyed
side_typed s Left m n k = record { phrase = (and_parts (is_phrase Term m) (is_phrase Term n) k.phrase).0; there = (and_parts (is_there (names_under s.scene s.replications) Term m) (is_there (names_under s.scene s.replications) Term n) k.there).0; typed = k.typed.1 }
side_typed s Right m n k = record { phrase = (and_parts (is_phrase Term m) (is_phrase Term n) k.phrase).1; there = (and_parts (is_there (names_under s.scene s.replications) Term m) (is_there (names_under s.scene s.replications) Term n) k.there).1; typed = k.typed.2 }

side_right : (s : Sight) (v : Visible) (l : ℕ) (side : Side) (m n : Tree) → cited_term v (number l) ≡ Node And m n → is_reason s Empty v (side_of side (Node And m n)) (side_reason side l) ≡ true
side_right s v l Left m n e = ap (λ c. is_left c m) e ∙ same_tree_self m
side_right s v l Right m n e = ap (λ c. is_right_side c n) e ∙ same_tree_self n

-- lines from a number on, the last of which has a number and says a term
pub record Says (s : Sight) (v : Visible) (n : ℕ) (ls : List Line) (l : ℕ) (u : Tree) : Type 0 where
  pub right : AreRight s v n ls
  pub next : n + length ls ≡ l + 1
  pub said : seen_behind v n ls l ≡ Some (Holds u)
  pub typed : IsTrueTerm s u

descends : (s : Sight) (v : Visible) (l : ℕ) (t u : Tree) (sides : List Side) → l + length sides < 2 ^ 32 → v l ≡ Some (Holds t) → IsOpen v (l + 1) → IsTrueTerm s t → along sides t ≡ Some u → Says s v (l + 1) (side_lines l t sides) (l + length sides) u
descends s v l t u [] k e o i a =
    let same : t ≡ u = some_injective a in
    let f : l + 0 ≡ l = omega arith in
    record { right = tt; next = omega arith; said = ap v f ∙ (e ∙ ap (λ x. Some (Holds x)) same); typed = subst (IsTrueTerm s) same i }
descends s v l (Node And m n) u (side ∷ sides) k e o i a =
    let part : Tree = side_of side (Node And m n) in
    let typed = side_typed s side m n i in
    let r = descends s (with_line v (l + 1) (Holds part)) (l + 1) part u sides (omega arith) (said_here v (l + 1) (Holds part) o) (open_line v (l + 1) (Holds part) o) typed a in
    let f : l + suc (length sides) ≡ l + 1 + length sides = omega arith in
    record {
      right = (is_line s v part (side_reason side l) typed (side_right s v l side m n (cites_term v l (Node And m n) (omega arith) e)), r.right);
      next = let z : l + 1 + 1 + length (side_lines (l + 1) part sides) ≡ l + 1 + length sides + 1 = r.next in omega arith;
      said = ap (seen_behind (with_line v (l + 1) (Holds part)) (l + 1 + 1) (side_lines (l + 1) part sides)) f ∙ r.said;
      typed = r.typed;
    }
descends s v l t u (side ∷ sides) k e o i a = absurd (none_some u a)

side_lines_length : (l : ℕ) (t : Tree) (sides : List Side) → length (side_lines l t sides) ≡ length sides
side_lines_length l t [] = refl
side_lines_length l t (side ∷ sides) = ap suc (side_lines_length (l + 1) (side_of side t) sides)

pub citation_length : (l : ℕ) (r : Tree) (q : Citation) → length (citation_lines l r q) ≡ length q.sides + 1
citation_length l r q = let e = side_lines_length l q.term q.sides in omega arith

side_lines_end : (l : ℕ) (x : Line) (t u : Tree) (sides : List Side) → x.says ≡ Holds t → along sides t ≡ Some u → ends_in_line (x ∷ side_lines l t sides) (Holds u)
side_lines_end l x t u [] e a = e ∙ ap Holds (some_injective a)
side_lines_end l x (Node And m n) u (side ∷ sides) e a = side_lines_end (l + 1) (record { says = Holds (side_of side (Node And m n)); reason = side_reason side l }) (side_of side (Node And m n)) u sides refl a
side_lines_end l x t u (side ∷ sides) e a = absurd (none_some u a)

pub cites : (s : Sight) (v : Visible) (n : ℕ) (r : Tree) (q : Citation) (u : Tree) → last_of_citation n q < 2 ^ 32 → IsOpen v n → IsTrueTerm s q.term → is_reason s Empty v q.term r ≡ true → along q.sides q.term ≡ Some u → Says s v n (citation_lines n r q) (last_of_citation n q) u
cites s v n r q u k o i e a =
    let d = descends s (with_line v n (Holds q.term)) n q.term u q.sides k (said_here v n (Holds q.term) o) (open_line v n (Holds q.term) o) i a in
    record {
      right = (is_line s v q.term r i e, d.right);
      next = let z : n + 1 + length (side_lines n q.term q.sides) ≡ n + length q.sides + 1 = d.next in omega arith;
      said = d.said;
      typed = d.typed;
    }

pub citation_end : (n : ℕ) (r : Tree) (q : Citation) (u : Tree) → along q.sides q.term ≡ Some u → ends_in_line (citation_lines n r q) (Holds u)
citation_end n r q u a = side_lines_end n (record { says = Holds q.term; reason = r }) q.term u q.sides refl a
