-- What follows of a row by which a term is rewritten.
use Rattle.std.proofs.Common.{◌≡◌, ℕ, true}
use Rattle.std.proofs.lemmas.Bool.{and_parts}
use Rattle.cv_syntax_trees.specs.Tree.{Tree}
use Rattle.cv_scope_rules.specs.Phrases.{Inputs}
use Rattle.cv_scene.specs.lines.Ends.{ends_with}
use Rattle.cv_scene.specs.lines.Targets.{equality}
use Rattle.cv_scene.specs.Scenes.{Scene, part_at}
use Rattle.cv_scene.specs.Sights.{sight_at}
use Rattle.cv_scene.specs.Derivations.{Derives, first_bad_line}
use Rattle.cv_steps.specs.Steps.{Cost, Leads, Zero}
use Rattle.cv_steps.specs.Changes.{change_at}
use Rattle.cv_steps.specs.Rewriting.{has_sort_of, has_term_at, is_rewritable_at, sort_at}
use Rattle.cv_steps.specs.Rows.{rewrite_row}
use Rattle.cv_steps.proofs.Rows.{leads_same, unless_at_leads, unless_leads}

-- the game with the term at the place, where the equality with what stands there is derived
pub record LeadsRewritten (s : Scene) (place : ℕ) (term by next : Tree) : Type 0 where
  pub stands : has_term_at Inputs s.game place ≡ true
  pub derives : Derives (sight_at s place) by (equality (part_at s.game place) term)
  pub leads : change_at s.game place (λ old. term) ≡ next

pub rewrite_leads : (s : Scene) (place : ℕ) (term by next : Tree) (cost : Cost) → rewrite_row s place term by ≡ Leads next cost → LeadsRewritten s place term by next
rewrite_leads s p m by next cost e =
    let r = unless_leads (is_rewritable_at s p) 1 p _ next cost e in
    let q = unless_leads (has_sort_of (sort_at s p (part_at s.game p)) (sort_at s p m)) 2 0 _ next cost r.1 in
    let o = unless_at_leads 3 (first_bad_line (sight_at s p) by) _ next cost q.1 in
    let d = unless_leads (ends_with by (equality (part_at s.game p) m)) 4 0 _ next cost o.1 in
    record { stands = (and_parts (has_term_at Inputs s.game p) _ r.0).0; derives = record { right = o.0; end = d.0 }; leads = leads_same (change_at s.game p (λ old. m)) next Zero cost d.1 }
