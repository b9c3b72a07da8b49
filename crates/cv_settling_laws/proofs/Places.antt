-- What may be cited at a place of a typed game is typed there.
use Rattle.std.proofs.Common.{◌≡◌, ℕ, true, List, Option, Some, None, refl, sym, ap, subst, ◌∙◌}
use Rattle.std.specs.List.{AllByRecursion}
use Rattle.cv_syntax_trees.proofs.lists.Each.{AllByRecursion_weaker}
use Rattle.cv_syntax_trees.proofs.lists.Options.{none_some, some_injective, some_none}
use Rattle.cv_scope_rules.specs.Above.{stands_at}
use Rattle.cv_scope_rules.specs.Context.{Context, known_at}
use Rattle.cv_scope_rules.specs.typing.Signature.{boolean}
use Rattle.cv_scope_rules.specs.typing.Wants.{Of}
use Rattle.cv_derive_laws.proofs.reached.Replications.{above, same_replications}
use Rattle.cv_scene.specs.Derivations.{Derives}
use Rattle.cv_scene.specs.Scenes.{Scene}
use Rattle.cv_scene.specs.lines.Targets.{falsity}
use Rattle.cv_scene.specs.Sights.{cells_by, facts_by, is_cell_at, sight_at, site_facts}
use Rattle.cv_scene.specs.Terms.{is_term_at, replications_at, replications_by}
use Rattle.cv_settling_laws.specs.Games.{IsTypedScene}
use Rattle.cv_settling_rules.specs.Reasons.{IsUnreached, Unreached, derivation_of}
use Rattle.cv_settling_laws.proofs.Cells.{IsCell, IsClear, cell_under, clear_nothing}
use Rattle.cv_settling_laws.proofs.Reached.{IsTypedSight, reason_derives}
use Rattle.cv_settling_laws.proofs.Sites.{site_typed}
use Rattle.cv_settling_laws.proofs.Standings.{IsSound, standing_sound}
use Rattle.cv_settling_laws.proofs.Terms.{AreTerms, as_any, term_under}

same_by : (o q : Option Context) → above o ≡ above q → replications_by o ≡ replications_by q
same_by None None e = refl
same_by (Some Γ) (Some Δ) e = some_injective e
same_by None (Some Δ) e = absurd (none_some Δ.replications e)
same_by (Some Γ) None e = absurd (some_none Γ.replications e)

pub replications_are : (s : Scene) (p : ℕ) → replications_at s p ≡ replications_by (stands_at s.game p)
replications_are s p = same_by (known_at s.game p) (stands_at s.game p) (same_replications s.game p)

pub standing_replications : (s : Scene) (p : ℕ) (Γ : Context) → stands_at s.game p ≡ Some Γ → replications_at s p ≡ Γ.replications
standing_replications s p Γ e = replications_are s p ∙ ap replications_by e

-- what stands at the place, if there is one, over the indices there
record IsSoundBy (s : Scene) (rs : List (ℕ × ℕ)) (o : Option Context) : Type 0 where
  clear : IsClear s rs
  facts : AllByRecursion (AreTerms s rs true (Of boolean)) (facts_by o)
  cells : AllByRecursion (IsCell s rs) (cells_by o)

sound_by : (s : Scene) (g : IsTypedScene s) (p : ℕ) → IsSoundBy s (replications_at s p) (stands_at s.game p)
sound_by s g p = subst (λ rs. IsSoundBy s rs (stands_at s.game p)) (sym (replications_are s p)) (go (stands_at s.game p) (standing_sound s g p))
  where
    go : (o : Option Context) → ((Γ : Context) → o ≡ Some Γ → IsSound s Γ) → IsSoundBy s (replications_by o) o
    go None f = record { clear = clear_nothing s; facts = tt; cells = tt }
    go (Some Γ) f = let k = f Γ refl in record { clear = k.clear; facts = k.facts; cells = k.cells }

pub place_clear : (s : Scene) → IsTypedScene s → (p : ℕ) → IsClear s (replications_at s p)
place_clear s g p = (sound_by s g p).clear

pub typed_sight : (s : Scene) → IsTypedScene s → (p : ℕ) → IsTypedSight (sight_at s p)
typed_sight s g p =
    let k = sound_by s g p in
    record { facts = k.facts; cells = k.cells; sites = λ c i. site_typed s g (replications_at s p) c k.clear i; alone = refl }

-- as they are asked of lines

pub facts_typed : (s : Scene) → IsTypedScene s → (p : ℕ) (Γ : Context) → stands_at s.game p ≡ Some Γ → AllByRecursion (λ t. is_term_at s p t ≡ true) Γ.facts
facts_typed s g p Γ e =
    AllByRecursion_weaker (AreTerms s (replications_at s p) true (Of boolean)) (λ t. is_term_at s p t ≡ true) (λ t k. term_under s (replications_at s p) t (as_any s (replications_at s p) (Of boolean) t k)) Γ.facts
    (subst (λ o. AllByRecursion (AreTerms s (replications_at s p) true (Of boolean)) (facts_by o)) e (sound_by s g p).facts)

pub cells_typed : (s : Scene) → IsTypedScene s → (p : ℕ) (Γ : Context) → stands_at s.game p ≡ Some Γ → AllByRecursion (λ c. is_cell_at s p c ≡ true) Γ.cells
cells_typed s g p Γ e =
    AllByRecursion_weaker (IsCell s (replications_at s p)) (λ c. is_cell_at s p c ≡ true) (cell_under s (replications_at s p)) Γ.cells
    (subst (λ o. AllByRecursion (IsCell s (replications_at s p)) (cells_by o)) e (sound_by s g p).cells)

pub sites_typed : (s : Scene) → IsTypedScene s → (p : ℕ) (Γ : Context) → stands_at s.game p ≡ Some Γ → AllByRecursion (λ c. AllByRecursion (λ t. is_term_at s p t ≡ true) (site_facts (sight_at s p) c)) Γ.cells
sites_typed s g p Γ e =
    AllByRecursion_weaker (IsCell s (replications_at s p)) (λ c. AllByRecursion (λ t. is_term_at s p t ≡ true) (site_facts (sight_at s p) c))
    (λ c k. AllByRecursion_weaker (AreTerms s (replications_at s p) true (Of boolean)) (λ t. is_term_at s p t ≡ true) (λ t i. term_under s (replications_at s p) t (as_any s (replications_at s p) (Of boolean) t i)) (site_facts (sight_at s p) c) (site_typed s g (replications_at s p) c (sound_by s g p).clear k))
    Γ.cells (subst (λ o. AllByRecursion (IsCell s (replications_at s p)) (cells_by o)) e (sound_by s g p).cells)

-- derivations for bodies that aren't reached

pub reasons_derived : (s : Scene) → IsTypedScene s → (p : ℕ) (u : Unreached) → IsUnreached (sight_at s p) u → Derives (sight_at s p) (derivation_of u) falsity
reasons_derived s g p u k = reason_derives (sight_at s p) (typed_sight s g p) u k
