-- What is answered of a step that closes a query.
use Rattle.std.proofs.Common.{◌≡◌, ℕ, ◌<◌, Bool, true, false, if◌then◌else◌, List, refl, ap, sym, ◌∙◌, Option, Some, None}
use Rattle.std.specs.Prelude.{IfSome, option_and_then}
use Rattle.cv_pool.specs.declared.node.NodeId.{NodeId}
use Rattle.cv_pool.specs.Nodes.{ChildBelow}
use Rattle.cv_syntax_trees.specs.Tree.{Tree}
use Rattle.cv_meaning.specs.Queries.{queries_in}
use Rattle.cv_query_certificates.specs.Failures.{Failure, first_failure}
use Rattle.cv_scene.specs.Scenes.{Scene}
use Rattle.cv_scene.specs.Sights.{from_one}
use Rattle.cv_bound.specs.closings.Queries.{is_among}
use Rattle.cv_script.specs.Views.{StepItems}
use Rattle.cv_script.specs.Views as items
use Rattle.cv_kernel.specs.declared.reducing.Reducing.{Reducing}
use Rattle.cv_kernel.specs.Closings.{Closing, closing_failure, closing_of_items}
use Rattle.cv_kernel.specs.Reducings.{reducing_of_items}

-- a query that is closed fails, and of another one its certificate counts

by_among : (s : Scene) (c : Closing) (b : Bool) → b ≡ true → (if b then Some (record { condition = 1; place = 0 }) else first_failure s (from_one (queries_in s.declarations) c.query) c.certificate) ≡ Some (record { condition = 1; place = 0 })
by_among s c true e = refl
by_among s c false e = absurd (cc)

not_among : (s : Scene) (c : Closing) (b : Bool) → b ≡ false → (if b then Some (record { condition = 1; place = 0 }) else first_failure s (from_one (queries_in s.declarations) c.query) c.certificate) ≡ first_failure s (from_one (queries_in s.declarations) c.query) c.certificate
not_among s c true e = absurd (cc)
not_among s c false e = refl

pub closed_fails : (s : Scene) (ks : List ℕ) (c : Closing) (b : Bool) → b ≡ is_among ks c.query → b ≡ true → closing_failure s ks c ≡ Some (record { condition = 1; place = 0 })
closed_fails s ks c b e t = by_among s c (is_among ks c.query) (sym e ∙ t)

pub open_fails : (s : Scene) (ks : List ℕ) (c : Closing) (b : Bool) → b ≡ is_among ks c.query → b ≡ false → closing_failure s ks c ≡ first_failure s (from_one (queries_in s.declarations) c.query) c.certificate
open_fails s ks c b e t = not_among s c (is_among ks c.query) (sym e ∙ t)

-- the answer of a certificate's test

pub child_below : (n : ℕ) (o : Option NodeId) → IfSome o (λ q. q.0 < n) → ChildBelow n o
child_below n None l = tt
child_below n (Some q) l = l

pub answer_of : (s t : Scene) (ks : List ℕ) (c : Closing) (b : Bool) (q : Option Tree) (f : Option Failure) → t ≡ s → q ≡ from_one (queries_in s.declarations) c.query → f ≡ first_failure t q c.certificate → b ≡ is_among ks c.query → b ≡ false → closing_failure s ks c ≡ f
answer_of s t ks c b q f e i h n m =
    open_fails s ks c b n m ∙ (ap (λ o. first_failure s o c.certificate) (sym i) ∙ (ap (λ x. first_failure x q c.certificate) (sym e) ∙ sym h))

-- nothing comes of nothing

-- no step both closes a query and is a cryptographic one
pub closes_or_reduces : (o : Option StepItems) (c : Closing) (q : Reducing) → Some c ≡ option_and_then closing_of_items o → option_and_then reducing_of_items o ≡ Some q → ⊥
closes_or_reduces None c q e f = absurd (cc)
closes_or_reduces (Some (items.Success k certificate)) c q e f = absurd (cc)
closes_or_reduces (Some other) c q e f = absurd (cc)

pub one_reducing : (q r : Reducing) → Some q ≡ Some r → q ≡ r
one_reducing q r e = cc

pub no_reducing : {o : Option Reducing} (q : Reducing) → o ≡ None → o ≡ Some q → ⊥
no_reducing q e f = absurd (cc)
