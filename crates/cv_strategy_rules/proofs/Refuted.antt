-- Candidates that don't settle a game: a condition fails, whatever the derivation is, or the measure isn't lowered.
use Rattle.std.proofs.Common.{◌≡◌, ℕ, Bool, true, false, Option, Some, None, sym, subst, ◌∙◌}
use Rattle.std.proofs.lemmas.Bool.{both_ways}
use Rattle.cv_syntax_trees.specs.Tree.{Tree}
use Rattle.cv_scene.specs.Derivations.{first_bad_line}
use Rattle.cv_meaning.specs.Replaced.{replaced}
use Rattle.cv_scene.specs.Pruning.{Part, Pruned, pruned}
use Rattle.cv_scene.specs.Scenes.{Scene, part_at}
use Rattle.cv_scene.specs.Sights.{sight_at}
use Rattle.cv_scene.specs.lines.Ends.{ends_with}
use Rattle.cv_scene.specs.lines.Targets.{equality, falsity}
use Rattle.cv_steps.specs.Changes.{change_at, left_or, without_body}
use Rattle.cv_steps.specs.Elementary.{prune_step, rewrite_step}
use Rattle.cv_steps.specs.Rows.{prune_row_by, unless, unless_at}
use Rattle.cv_steps.specs.Rewriting.{has_sort_of, is_rewritable_at, sort_at}
use Rattle.cv_steps.specs.Steps.{Cost, Fails, Leads, Row, Zero}
use Rattle.cv_settling_rules.specs.Candidates.{Candidate, Rewrite}
use Rattle.cv_settling_rules.specs.Measure.{lowers}
use Rattle.cv_strategy_rules.specs.Legal.{LeadsTo}
use Rattle.cv_strategy_rules.specs.Settling.{Settles, step_of}

pub conflict : (c p : ℕ) (next : Tree) (cost : Cost) → Fails c p ≡ Leads next cost → ⊥
conflict c p next cost e = cc

one_game : (a b : Tree) (c d : Cost) → Leads a c ≡ Leads b d → a ≡ b
one_game a b c d e = cc

pub unless_leads : (b : Bool) (c p : ℕ) (rest : Row) (next : Tree) (cost : Cost) → unless b c p rest ≡ Leads next cost → rest ≡ Leads next cost
unless_leads true c p rest next cost e = e
unless_leads false c p rest next cost e = absurd (conflict c p next cost e)

pub unless_at_leads : (c : ℕ) (o : Option ℕ) (rest : Row) (next : Tree) (cost : Cost) → unless_at c o rest ≡ Leads next cost → rest ≡ Leads next cost
unless_at_leads c None rest next cost e = e
unless_at_leads c (Some p) rest next cost e = absurd (conflict c p next cost e)

pub rewritten : (s : Scene) (p : ℕ) (m by next : Tree) → LeadsTo s (rewrite_step p m by) next → next ≡ change_at s.game p (λ old. m)
rewritten s p m by next l =
    let leads : Row = Leads (change_at s.game p (λ old. m)) Zero in
    let ending : Row = unless (ends_with by (equality (part_at s.game p) m)) 4 0 leads in
    let derived : Row = unless_at 3 (first_bad_line (sight_at s p) by) ending in
    let sorted : Row = unless (has_sort_of (sort_at s p (part_at s.game p)) (sort_at s p m)) 2 0 derived in
    sym (one_game (change_at s.game p (λ old. m)) next Zero l.cost
    (unless_leads (ends_with by (equality (part_at s.game p) m)) 4 0 leads next l.cost
    (unless_at_leads 3 (first_bad_line (sight_at s p) by) ending next l.cost
    (unless_leads (has_sort_of (sort_at s p (part_at s.game p)) (sort_at s p m)) 2 0 derived next l.cost
    (unless_leads (is_rewritable_at s p) 1 p sorted next l.cost l.row)))))

pruned_to : (s : Scene) (p : ℕ) (by next : Tree) (cost : Cost) (o : Option Pruned) → prune_row_by s p by o ≡ Leads next cost → next ≡ replaced s.game p (left_or (part_at s.game p) o)
pruned_to s p by next cost None e = absurd (conflict 1 0 next cost e)
pruned_to s p by next cost (Some b) e =
    let leads : Row = Leads (change_at s.game p (λ old. b.left)) Zero in
    let ending : Row = unless (ends_with by falsity) 3 0 leads in
    sym (one_game (change_at s.game p (λ old. b.left)) next Zero cost
    (unless_leads (ends_with by falsity) 3 0 leads next cost
    (unless_at_leads 2 (first_bad_line (sight_at s b.body) by) ending next cost e)))

pub pruned_game : (s : Scene) (p : ℕ) (part : Part) (by next : Tree) → LeadsTo s (prune_step p part by) next → next ≡ change_at s.game p (without_body p part)
pruned_game s p part by next l = pruned_to s p by next l.cost (pruned p (part_at s.game p) part) l.row

-- a condition fails
pub refuted : (s : Scene) (c : Candidate) (n p : ℕ) → ((by : Tree) → (step_of c by).row s ≡ Fails n p) → Settles s c → ⊥
refuted s c n p f t = conflict n p t.next t.legal.leads.cost (sym (f t.by) ∙ t.legal.leads.row)

-- the step leads to this game, which isn't lower
pub idle : (s : Scene) (c : Candidate) (game : Tree) (cost : Cost) → ((by : Tree) → (step_of c by).row s ≡ Leads game cost) → lowers s game ≡ false → Settles s c → ⊥
idle s c game cost f e t =
    both_ways _ e (subst (λ g. lowers s g ≡ true) (sym (one_game game t.next cost t.legal.leads.cost (sym (f t.by) ∙ t.legal.leads.row))) t.lower)

pub unlowered : (s : Scene) (p : ℕ) (m : Tree) → lowers s (change_at s.game p (λ old. m)) ≡ false → Settles s (Rewrite p m) → ⊥
unlowered s p m e t = both_ways _ e (subst (λ g. lowers s g ≡ true) (rewritten s p m t.by t.next t.legal.leads) t.lower)
