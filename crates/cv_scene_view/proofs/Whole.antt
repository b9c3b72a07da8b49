-- The test of a whole game.
use Rattle.std.proofs.Common.{◌≡◌, ℕ, Bool, true, false, not, ◌&&◌, List, [], ◌∷◌, Option, Some, None, refl, sym, ap, ◌∙◌}
use Rattle.std.specs.Prelude.{is_some, option_map}
use Rattle.cv_scope_rules.specs.declared.fault.Fault.{Fault}
use Rattle.cv_scope_rules.specs.declared.fault.ScopeFault.{ScopeFault}
use Rattle.cv_scope_rules.specs.declared.fault.ScopeFault.TheVariants as refused
use Rattle.cv_scope_rules.specs.Refusals.{IsRefusalOf, named}
use Rattle.cv_syntax_trees.specs.Declarations.{Declaration}
use Rattle.cv_syntax_trees.specs.Tree.{Tree}
use Rattle.cv_directory.proofs.Entries.{first_nothing}
use Rattle.cv_scope_rules.specs.declared.typing.form.Form.TheVariants.{InProcess}
use Rattle.cv_scope_rules.specs.typing.Parts.{first_in, game_part, nothing_above, signature_of}
use Rattle.cv_scope_rules.specs.typing.Typing.{first_fault}
use Rattle.cv_scope_rules.specs.typing.Wants.{Run}
use Rattle.cv_syntax_trees.proofs.lists.Options.{is_some_map}

-- a refusal that names a fault is of one
pub fault_there : (found : Option (ℕ × Fault)) (t : ScopeFault) (b : Bool) → IsRefusalOf found t → b ≡ not (is_some (named t)) → b ≡ false → false ≡ not (is_some found)
fault_there found (refused.Unscoped p) b i e f = ap (λ o. not (is_some o)) (sym i)
fault_there found (refused.TwoSites p) b i e f = ap (λ o. not (is_some o)) (sym i)
fault_there found (refused.Channel p) b i e f = ap (λ o. not (is_some o)) (sym i)
fault_there found (refused.Replications p) b i e f = ap (λ o. not (is_some o)) (sym i)
fault_there found refused.OutOfMemory b i e f = absurd (cc)

-- a game is typed where its one part is
pub game_typed : (ds : List Declaration) (game : Tree) → not (is_some (first_in ds 0 (game_part game ∷ []))) ≡ not (is_some (first_fault (signature_of ds (game_part game)) nothing_above (Run InProcess) 0 game))
unfolding first_in
game_typed ds game = ap (λ o. not (is_some o)) (first_nothing (first_fault (signature_of ds (game_part game)) nothing_above (Run InProcess) 0 game))

-- the tests of a game, one by one
module _ (p b t y s : Bool) where
  pub no_type : p ≡ true → y ≡ false → false ≡ (p && (b && (t && (y && s))))
  no_type e f = sym (ap (λ q. q && (b && (t && (y && s)))) e ∙ (ap (λ q. b && (t && (q && s))) f ∙ ends b t))
    where
      ends : (b t : Bool) → (b && (t && false)) ≡ false
      ends true true = refl
      ends true false = refl
      ends false t = refl

  pub closed_game : p ≡ true → y ≡ true → s ≡ true → (b && t) ≡ (p && (b && (t && (y && s))))
  closed_game e f g = sym (ap (λ q. q && (b && (t && (y && s)))) e ∙ (ap (λ q. b && (t && (q && s))) f ∙ (ap (λ q. b && (t && q)) g ∙ ends b t)))
    where
      ends : (b t : Bool) → (b && (t && true)) ≡ (b && t)
      ends true true = refl
      ends true false = refl
      ends false t = refl

pub ruleset wholes = (is_some_map)
