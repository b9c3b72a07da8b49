-- What follows of a row of `guess` that leads to a game: no condition of it fails.
use Rattle.std.proofs.Common.{◌≡◌, ℕ, true, false, not, List, [], Option, Some, None, refl}
use Rattle.std.proofs.lemmas.Bool.{not-true}
use Rattle.cv_syntax_trees.specs.Tree.{Tree}
use Rattle.cv_syntax_trees.specs.sites.Sites.{Variable, first_site}
use Rattle.cv_syntax_trees.specs.declared.sites.sort.Sort.{Sort}
use Rattle.cv_syntax_trees.specs.declared.sites.sort.Sort.TheVariants.{BelowParameter, OfType}
use Rattle.cv_scene.specs.Scenes.{Scene, is_queried}
use Rattle.cv_steps.specs.Steps.{Cost, Leads}
use Rattle.cv_steps.proofs.Rows.{leads_same, unless_at_leads, unless_leads}
use Rattle.cv_scene.specs.Large.{first_other_site, is_large}
use Rattle.cv_rule_birthday.specs.guess.Guessing.{compares_at, first_other_read, first_outside, without_guesses}
use Rattle.cv_rule_birthday.specs.guess.Row.{cost_at, guess_row, row_by_site, row_by_sort}

pub record IsGuess (s : Scene) (x : ℕ) (ps : List ℕ) (next : Tree) (cost : Cost) : Type 0 where
  pub compares : first_outside (compares_at s.game x) ps ≡ None
  pub sites : first_other_site (is_large s) x 0 s.game ≡ None
  pub variable : Variable
  pub site : first_site x [] s.game ≡ Some variable
  pub type : ℕ
  pub sort : variable.sort ≡ OfType type
  pub large : is_large s type ≡ true
  pub reads : first_other_read ps x s.game ≡ None
  pub unqueried : is_queried s x ≡ false
  pub leads : without_guesses x ps s.game ≡ next
  pub priced : cost_at s ps type ≡ cost

costs_same : (n m : Tree) (c d : Cost) → Leads n c ≡ Leads m d → c ≡ d
costs_same n m c d e = cc

pub guess_leads : (next : Tree) (cost : Cost) (s : Scene) (x : ℕ) (ps : List ℕ) → guess_row s x ps ≡ Leads next cost → IsGuess s x ps next cost
guess_leads next cost s x ps e =
    let a = unless_at_leads 1 (first_outside (compares_at s.game x) ps) _ next cost e in
    let b = unless_at_leads 2 (first_other_site (is_large s) x 0 s.game) _ next cost a.1 in
    by_site (first_site x [] s.game) refl a.0 b.0 b.1
  where
    by_sort : (v : Variable) → first_site x [] s.game ≡ Some v → (S : Sort) → v.sort ≡ S → first_outside (compares_at s.game x) ps ≡ None → first_other_site (is_large s) x 0 s.game ≡ None → row_by_sort s x ps S ≡ Leads next cost → IsGuess s x ps next cost
    by_sort v i (BelowParameter n) j a b e = absurd (cc)
    by_sort v i (OfType T) j a b e =
        let l = unless_leads (is_large s T) 2 0 _ next cost e in
        let d = unless_at_leads 3 (first_other_read ps x s.game) _ next cost l.1 in
        let f = unless_leads (not (is_queried s x)) 4 0 _ next cost d.1 in
        record {
          compares = a;
          sites = b;
          variable = v;
          site = i;
          type = T;
          sort = j;
          large = l.0;
          reads = d.0;
          unqueried = not-true (is_queried s x) f.0;
          leads = leads_same (without_guesses x ps s.game) next (cost_at s ps T) cost f.1;
          priced = costs_same (without_guesses x ps s.game) next (cost_at s ps T) cost f.1;
        }

    by_site : (o : Option Variable) → first_site x [] s.game ≡ o → first_outside (compares_at s.game x) ps ≡ None → first_other_site (is_large s) x 0 s.game ≡ None → row_by_site s x ps o ≡ Leads next cost → IsGuess s x ps next cost
    by_site None i a b e = absurd (cc)
    by_site (Some v) i a b e = by_sort v i v.sort refl a b e
