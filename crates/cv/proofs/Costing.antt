-- What steps cost that close queries: it is a number, and a sum with it is no less.
use Rattle.std.proofs.Common.{◌≡◌, ℕ, zero, suc, Bool, true, false, if◌then◌else◌, List, refl, arith, mul-pos, mul-le-mul_right, Option, Some, None}
use Rattle.std.specs.Prelude.{◌↔◌}
use Rattle.std.specs.List.{AllByRecursion}
use Rattle.cv_syntax_trees.specs.declared.head.Head.TheVariants.{Query, Secret, SecretOnce}
use Rattle.cv_syntax_trees.specs.Declarations.{Declaration}
use Rattle.cv_syntax_trees.specs.Tree.{Tree, Empty, Node}
use Rattle.cv_meaning.specs.Chances.{AtMost, Chance, Same}
use Rattle.cv_meaning.specs.Interpretation.{Interpretation}
use Rattle.cv_meaning.specs.Queries.{queries_in}
use Rattle.cv_meaning.specs.Satisfies.{Satisfies}
use Rattle.cv_meaning_chances.specs.Fractions.{HasTapes, plus}
use Rattle.cv_meaning_chances.proofs.FractionLaws.{at_most_trans, plus_kept}
use Rattle.cv_bound.specs.closings.Queries.{is_among}
use Rattle.cv_bound.specs.declared.cost.Cost.{Cost as SumCost}
use Rattle.cv_bound.specs.declared.terms.Term.{Term}
use Rattle.cv_bound.specs.Sums.{added}
use Rattle.cv_steps.specs.values.Values.{Advantages, cost_value, sum_value}
use Rattle.cv_steps.specs.Sequences.{scene}
use Rattle.cv_steps.proofs.values.Adding.{factor_positive, tapes_are_kept, value_is_added}
use Rattle.cv_costs.specs.Certificates.{cost_of_certificate}
use Rattle.cv_derive_laws.specs.stores.Costs.{bound_of}
use Rattle.cv_derive_laws.specs.stores.Holding.{IsReady}
use Rattle.cv_scene.specs.Scenes.{Scene}
use Rattle.cv_scene.specs.Sights.{from_one}
use Rattle.cv_query_form.specs.Rules.{AreAsked, MayBeAsked}
use Rattle.cv_query_certificates.specs.Accepted.{IsAccepted, is_query}
use Rattle.cv_query_certificates.specs.Failures.{Failure, first_failure}
use Rattle.cv_sequences.proofs.secrets.Alike.{bounded_alike, left_positive}
use Rattle.cv_sequences.proofs.secrets.Sums.{added_alike}
use Rattle.cv_sequences.proofs.secrets.Tapes.{tapes_were_had}
use Rattle.cv_kernel.specs.Closings.{Closing, closing_failure}
use Rattle.cv_kernel.specs.Followed.{known_to}
use Rattle.cv.proofs.Closers.{closed_at}

-- what laws say of certificates

abbrev pub AreDecided : Type 0
AreDecided = (s : Scene) (query certificate : Tree) → is_query query ≡ true → IsAccepted s query certificate ↔ (first_failure s (Some query) certificate ≡ None)

abbrev pub AreNumbers : Type 0
AreNumbers = (s : Scene) (query certificate : Tree) → IsReady s.declarations s.game → IsAccepted s query certificate → (i : Interpretation) → Satisfies s.declarations i → HasTapes (bound_of i (cost_of_certificate s certificate))

-- what may be asked is a query

pub asked_query : (game query : Tree) → MayBeAsked game query → is_query query ≡ true
unfolding MayBeAsked
asked_query game (Node Query bs sides) may = refl
asked_query game (Node (Secret x) Empty Empty) may = refl
asked_query game (Node (SecretOnce x) Empty Empty) may = refl
asked_query game query may = absurd may

-- what a certificate costs in which nothing fails is a number

abbrev pub HaveTapedClosings : List Declaration → (own : ℕ) → Type 0
HaveTapedClosings ds own =
    (game : Tree) → IsReady ds game → (ks : List ℕ) (c : Closing) → closing_failure (scene ds (known_to own) game) ks c ≡ None → (i : Interpretation) → Satisfies ds i
    → HasTapes (bound_of i (cost_of_certificate (scene ds (known_to own) game) c.certificate))

unclosed : (b : Bool) (f : Failure) (o : Option Failure) → (if b then Some f else o) ≡ None → o ≡ None
unclosed true f o n = absurd (cc)
unclosed false f o n = n

asked_at : (P : Tree → Type 0) (qs : List Tree) → AllByRecursion P qs → (k : ℕ) (q : Tree) → from_one qs k ≡ Some q → P q
asked_at P qs h zero q e = absurd (cc)
asked_at P qs h (suc j) q e = closed_at P qs h j q e

module _ (ds : List Declaration) (own : ℕ) (first : Tree) (asked : AreAsked first (queries_in ds)) (numbers : AreNumbers) (decided : AreDecided) where
  taped_by : (game : Tree) → IsReady ds game → (k : ℕ) (certificate : Tree) (i : Interpretation) → Satisfies ds i → (o : Option Tree) → from_one (queries_in ds) k ≡ o → first_failure (scene ds (known_to own) game) o certificate ≡ None
      → HasTapes (bound_of i (cost_of_certificate (scene ds (known_to own) game) certificate))
  taped_by game ready k certificate i sat None e n = absurd (cc)
  taped_by game ready k certificate i sat (Some query) e n =
      let s : Scene = scene ds (known_to own) game in
      let may = asked_at (MayBeAsked first) (queries_in ds) asked k query e in
      numbers s query certificate ready ((decided s query certificate (asked_query first query may)).1 n) i sat

  pub closings_taped : HaveTapedClosings ds own
  closings_taped game ready ks c passes i sat =
      taped_by game ready c.query c.certificate i sat (from_one (queries_in ds) c.query) refl
      (unclosed (is_among ks c.query) (record { condition = 1; place = 0 }) (first_failure (scene ds (known_to own) game) (from_one (queries_in ds) c.query) c.certificate) passes)

-- sums

same_most : (p q : Chance) → Same p q → AtMost p q
same_most p q e = omega (arith, e)

as_much : (p : Chance) → AtMost p p
as_much p = omega arith

with_more : (p q c : Chance) → AtMost p q → AtMost p (plus q c)
with_more p q c h = let a = mul-le-mul_right c.all h in omega arith

module _ (i : Interpretation) (advantages : Advantages) where
  -- the second sum is a number, which is no less than the first
  pub record IsNoLess (s t : List Term) : Type 0 where
    pub taped : HasTapes (sum_value i advantages t)
    pub more : AtMost (sum_value i advantages s) (sum_value i advantages t)

  abbrev value : List Term → Chance
  value s = sum_value i advantages s

  abbrev worth : SumCost → Chance
  worth c = cost_value i advantages c false

  -- with a cost more each
  pub both_more : (s t : List Term) (c : SumCost) → HasTapes (value (added s c false)) → (HasTapes (value s) → IsNoLess s t) → IsNoLess (added s c false) (added t c false)
  both_more s t c h f =
      let parts = tapes_were_had i advantages s c false h in
      let k = f (left_positive (value s).all (worth c).all parts) in
      let both : HasTapes (plus (value t) (worth c)) = mul-pos k.taped (factor_positive (value s).all (worth c).all parts) in
      record {
        taped = tapes_are_kept i advantages t c false both;
        more = bounded_alike (value (added s c false)) (value (added t c false)) (plus (value t) (worth c)) (added_alike i advantages t c false)
            (at_most_trans (value (added s c false)) (plus (value s) (worth c)) (plus (value t) (worth c)) parts (same_most _ _ (value_is_added i advantages s c false)) (plus_kept (value s) (value t) (worth c) (worth c) k.more (as_much (worth c))));
      }

  -- with a cost more in the second
  pub one_more : (s t : List Term) (c : SumCost) → HasTapes (worth c) → IsNoLess s t → IsNoLess s (added t c false)
  one_more s t c h k = record {
    taped = tapes_are_kept i advantages t c false (mul-pos k.taped h);
    more = bounded_alike (value s) (value (added t c false)) (plus (value t) (worth c)) (added_alike i advantages t c false) (with_more (value s) (value t) (worth c) k.more);
  }
