-- What the step keeps.
use Rattle.std.proofs.Common.{◌≡◌, ℕ, Bool, true, false, not, List, ap, refl, subst, ◌∙◌}
use Rattle.std.proofs.lemmas.Bool.{both_ways}
use Rattle.cv_syntax_trees.specs.Tree.{Tree}
use Rattle.cv_meaning.specs.Interpretation.{Interpretation, is_constant_of, setting_of}
use Rattle.cv_scope_rules.proofs.Unbound.{no_variable}
use Rattle.cv_scope_rules.specs.Phrases.{Inputs, is_phrase}
use Rattle.cv_scope_rules.specs.Scope.{is_variable, names_of}
use Rattle.cv_scope_rules.specs.Standing.{at_root}
use Rattle.cv_scene.specs.Scenes.{Scene, is_queried}
use Rattle.cv_derive_laws.proofs.stores.Costs.{free_taped, kept_costs}
use Rattle.cv_steps.specs.Judgements.{Accepted, judgement_of}
use Rattle.cv_steps.specs.Steps.{Cost}
use Rattle.cv_steps.proofs.Rows.{IsFree, free_leads, free_unless, free_unless_at}
use Rattle.cv_steps_laws.proofs.Indices.{Lacks, bound_before}
use Rattle.cv_steps_laws.proofs.Keeping.{IsGame, accepted, game_formed}
use Rattle.cv_derive_laws.specs.stores.Holding.{IsReady}
use Rattle.cv_derive_laws.specs.stores.Steps.{IsSound}
use Rattle.cv_edit_names.specs.Cells.{first_mixed}
use Rattle.cv_rule_array_names.specs.Row.{array_names_row, array_names_step}
use Rattle.cv_edit_names.specs.Naming.{naming_of}
use Rattle.cv_rule_array_names.specs.Sites.{AreNoConstants, has_names}
use Rattle.cv_edit_names.specs.Splitting.{nothing_around}
use Rattle.cv_rule_array_names_laws.proofs.Bound.{split_lacks}
use Rattle.cv_rule_array_names_laws.proofs.Keeping.{keeps_chances, next_part}
use Rattle.cv_rule_array_names_laws.proofs.Kept.{has_values, no_index, sorts_declared, variable_bound_nowhere}
use Rattle.cv_rule_array_names.proofs.Leads.{IsLed, known_variable, row_leads, old_name}
use Rattle.cv_rule_array_names_laws.proofs.NamesUsed.{name_bound}
use Rattle.cv_rule_array_names_laws.proofs.Parts.{PartFor}
use Rattle.cv_rule_array_names_laws.proofs.NotRead.{game_unread}
use Rattle.cv_rule_array_names.proofs.Values.{Unread}

-- an accepted step, and what its row says
record IsTaken (s : Scene) (x : ℕ) (ys : List ℕ) (next : Tree) : Type 0 where
  row : IsLed s x ys next
  game : IsGame s.declarations next

step_taken : (s : Scene) (x : ℕ) (ys : List ℕ) (next : Tree) (cost : Cost) → judgement_of s (array_names_step x ys) ≡ Accepted next cost → IsTaken s x ys next
step_taken s x ys next cost e =
    let a = accepted s (array_names_step x ys) next cost e in
    record { row = row_leads s x ys next cost a.row; game = game_formed s.declarations next a.game }

module _ (s : Scene) (x : ℕ) (ys : List ℕ) (next : Tree) (t : IsTaken s x ys next) where
  part : is_phrase Inputs s.game ≡ true → PartFor (naming_of s.game x ys) 0 s.game next
  part phrase = subst (PartFor (naming_of s.game x ys) 0 s.game) t.row.leads (next_part s x ys next t.row phrase)

  module _ (ready : IsReady s.declarations s.game) where
    constants : AreNoConstants s ys
    constants y e = name_bound s.game next x ys (is_constant_of s.declarations) t.row.many (part ready.formed.phrase) t.game.formed.constants y e

    module _ (i : Interpretation) where
      variable : is_variable s.game x ≡ true
      variable = known_variable s x ys next t.row ready.formed i

      -- the game binds no constant, and so the variable is none
      no_constant : is_constant_of s.declarations x ≡ false
      no_constant = go (is_constant_of s.declarations x) refl
        where
          go : (b : Bool) → is_constant_of s.declarations x ≡ b → is_constant_of s.declarations x ≡ false
          go true e = absurd (both_ways (is_variable s.game x) (no_variable (is_constant_of s.declarations) x e s.game ready.formed.constants) variable)
          go false e = e

      unread : Unread x next
      unread =
          game_unread s.declarations next x no_constant t.game.formed.scoped t.game.named
          (variable_bound_nowhere (naming_of s.game x ys) (old_name s x ys next t.row) 0 s.game next (part ready.formed.phrase) (no_index at_root (names_of s.declarations s.game) x variable s.game ready.formed.scoped))

-- it costs nothing
array_names_free : (s : Scene) (x : ℕ) (ys : List ℕ) → IsFree (array_names_row s x ys)
array_names_free s x ys =
    free_unless (has_names s x ys) 1 0 _
    (free_unless (not (is_queried s x)) 2 0 _ (free_unless_at 3 (first_mixed x 0 s.game) _ (free_leads _)))

pub array_names_sound : (x : ℕ) (ys : List ℕ) → IsSound (array_names_step x ys)
array_names_sound x ys = record {
  keeps = λ s next cost ready holds unreached knows e i.
      let t = step_taken s x ys next cost e in
      kept_costs s.declarations s.game next cost (λ j. keeps_chances s x ys next t.row ready knows t.game.formed.phrase (constants s x ys next t ready) (unread s x ys next t ready j) j) i;
  taped = λ s next cost e i sat. free_taped _ (array_names_free s x ys) next cost (accepted s (array_names_step x ys) next cost e).row i;
  declared = λ s next cost w d e.
      let t = step_taken s x ys next cost e in
      sorts_declared s.declarations (naming_of s.game x ys) 0 s.game next (part s x ys next t w) d;
  valued = λ s next cost w i sat m fresh v e.
      let t = step_taken s x ys next cost e in
      has_values (setting_of s.declarations i) m (naming_of s.game x ys) (λ y f. fresh y (t.row.new y f)) 0 s.game next (part s x ys next t w) v;
  bound = λ s next cost e i h.
      let t = step_taken s x ys next cost e in
      bound_before i s.game next (λ k. subst (Lacks i) t.row.leads (split_lacks i (naming_of s.game x ys) nothing_around 0 s.game k Inputs (ap (is_phrase Inputs) t.row.leads ∙ t.game.formed.phrase))) h;
}
