-- What follows of a cryptographic step that is accepted.
use Rattle.std.proofs.Common.{◌≡◌, ℕ, Bool, true, false, cond, nat_lt, List, Option, Some, None, refl, subst}
use Rattle.cv_syntax_trees.specs.Declarations.{Declaration}
use Rattle.cv_syntax_trees.specs.Tree.{Tree, depth, size}
use Rattle.cv_scene.specs.Scenes.{Scene}
use Rattle.cv_syntax.specs.limits.Limits.{most_depth, most_nodes, told}
use Rattle.cv_steps_laws.specs.crypto.Conditions.{Failure, equivalence_of, failure_of}
use Rattle.cv_steps_laws.specs.crypto.Steps.{Accepted, IsNextGame, IsOutcome, IsOutcomeBy, Refused, TooDeep, TooLarge, is_next, outcome_with, reduction_of}

-- a game that is within the limits and passes the test is the one that is accepted
leads : (ds : List Declaration) (game next : Tree) → Accepted next ≡ outcome_with ds game → (game ≡ next) × (is_next ds game ≡ true)
leads ds game next e = go (nat_lt most_nodes (size game)) (nat_lt most_depth (depth game)) (is_next ds game) refl e
  where
    go : (v w z : Bool) → is_next ds game ≡ z → Accepted next ≡ cond v (TooLarge (told (size game))) (cond w (TooDeep (told (depth game))) (cond z (Accepted game) (Refused 9 0))) → (game ≡ next) × (is_next ds game ≡ true)
    go true w z f e = absurd (cc)
    go false true z f e = absurd (cc)
    go false false false f e = absurd (cc)
    go false false true f e = (cc, f)

pub record IsAccepted (s : Scene) (e x : ℕ) (next : Tree) : Type 0 where
  pub equivalence : Tree
  pub is_equivalence : equivalence_of s e ≡ Some equivalence
  pub failure : failure_of s e x ≡ None
  pub drawn : IsNextGame (reduction_of s equivalence x) next
  pub game : is_next s.declarations next ≡ true

pub accepted : (s : Scene) (e x : ℕ) (next : Tree) → IsOutcome s e x (Accepted next) → IsAccepted s e x next
accepted s e x next h = go (equivalence_of s e) refl (failure_of s e x) refl h
  where
    go : (o : Option Tree) → equivalence_of s e ≡ o → (f : Option Failure) → failure_of s e x ≡ f → IsOutcomeBy s o x f (Accepted next) → IsAccepted s e x next
    go o i (Some f) j h = absurd (cc)
    go None i None j h = absurd h
    go (Some t) i None j h =
        let k = leads s.declarations h.next next h.outcome in
        record { equivalence = t; is_equivalence = i; failure = j; drawn = subst (IsNextGame (reduction_of s t x)) k.0 h.drawn; game = subst (λ g. is_next s.declarations g ≡ true) k.0 k.1 }

pub next_drawn : (s : Scene) (e x : ℕ) (next t : Tree) → IsOutcome s e x (Accepted next) → equivalence_of s e ≡ Some t → IsNextGame (reduction_of s t x) next
next_drawn s e x next t h i =
    let k = accepted s e x next h in
    let j = k.is_equivalence in
    subst (λ u. IsNextGame (reduction_of s u x) next) (let l : k.equivalence ≡ t = cc in l) k.drawn
