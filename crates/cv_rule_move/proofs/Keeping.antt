-- An accepted step that moves a definition keeps chances.
use Rattle.std.proofs.Common.{◌≡◌, ℕ, true, Option, Some, None, inl, refl, sym, ap, subst, ◌∙◌}
use Rattle.std.proofs.Math.Path.{fun_ext}
use Rattle.std.specs.List.{AllByRecursion}
use Rattle.cv_syntax_trees.specs.declared.head.Head.{Head}
use Rattle.cv_syntax_trees.specs.Tree.{Tree, Empty, Node, second, subtree}
use Rattle.cv_meaning.specs.Tapes.{Tape}
use Rattle.cv_meaning.specs.Interpretation.{Setting, setting_of}
use Rattle.cv_meaning.specs.Runs.{Adversary, Mode}
use Rattle.cv_meaning.specs.Cells.{cells}
use Rattle.cv_meaning.specs.Chances.{Same, chance}
use Rattle.cv_meaning.specs.Advantage.{chance_of}
use Rattle.cv_meaning.specs.Experiments.{coins_on, holds_on, mode_of, visits_of_run}
use Rattle.cv_meaning.specs.Replaced.{is_output}
use Rattle.cv_meaning_laws.proofs.Listed.{cells_distinct}
use Rattle.cv_meaning_runs.specs.Replacement.{IsReplaced, Process}
use Rattle.cv_meaning_runs.proofs.Replacement.{replaced_holds}
use Rattle.cv_meaning_chances.proofs.unread.CellSizes.{same_by_sizes}
use Rattle.cv_scope_rules.specs.Made.{AssignsNew, OwnUnassigned}
use Rattle.cv_scope_rules.specs.Phrases.{Inputs, IsWellFormed, Phrase, is_phrase}
use Rattle.cv_scope_runs.specs.Reads.{VisitReadsAssigned}
use Rattle.cv_scope_runs.proofs.ConsultedOnce.{all_assign_new, all_own_unassigned}
use Rattle.cv_scope_runs.proofs.FactsRuns.{all_reads_assigned}
use Rattle.cv_scope_runs.proofs.Plain.{game_context}
use Rattle.cv_scene.specs.Scenes.{Scene, or_empty, part_at}
use Rattle.cv_steps.specs.Changes.{change_at}
use Rattle.cv_steps.specs.Chances.{KeepsChances}
use Rattle.cv_steps.specs.Steps.{Cost, Leads, Zero}
use Rattle.cv_steps.proofs.Comes.{placed}
use Rattle.cv_steps.proofs.Rows.{leads_same, unless_at_leads, unless_leads}
use Rattle.cv_rule_move.specs.Moving.{behind, defined, first_naming, has_bodies, in_bodies, moved}
use Rattle.cv_rule_move.specs.Rows.{move_row, move_row_by}
use Rattle.cv_rule_move.proofs.CellSizes.{MayMove, moved_sizes}
use Rattle.cv_rule_move.proofs.Parts.{definition_parts, phrase_at}
use Rattle.cv_rule_move.proofs.Serving.{Expected, definition_output, moved_alike}
use Rattle.cv_syntax_trees.proofs.lists.Each.{AllByRecursion_both}

-- a row that leads to a game

pub record IsMove (s : Scene) (place : ℕ) (next : Tree) : Type 0 where
  pub variable : ℕ
  pub defines : defined (part_at s.game place) ≡ Some variable
  pub bodies : has_bodies (second (part_at s.game place)) ≡ true
  pub unnamed : first_naming variable (behind place (part_at s.game place)) (second (part_at s.game place)) ≡ None
  pub leads : change_at s.game place moved ≡ next

pub move_leads : (s : Scene) (place : ℕ) (next : Tree) (cost : Cost) → move_row s place ≡ Leads next cost → IsMove s place next
move_leads s place next cost e = go (defined (part_at s.game place)) refl e
  where
    go : (o : Option ℕ) → defined (part_at s.game place) ≡ o → move_row_by s place (part_at s.game place) o ≡ Leads next cost → IsMove s place next
    go None d e = absurd (cc)
    go (Some x) d e =
        let r = unless_leads (has_bodies (second (part_at s.game place))) 2 0 _ next cost e in
        let q = unless_at_leads 3 (first_naming x (behind place (part_at s.game place)) (second (part_at s.game place))) _ next cost r.1 in
        record { variable = x; defines = d; bodies = r.0; unnamed = q.0; leads = leads_same _ next Zero cost q.1 }

module _ (s : Scene) (w : IsWellFormed s.declarations s.game) where
  visits_expected : (g : Setting) → g.is_constant ≡ (setting_of s.declarations g.interpretation).is_constant → (m : Mode) (a : Adversary) (t : Tape) → AllByRecursion (Expected g) (visits_of_run g m a s.game t)
  unfolding visits_of_run
  visits_expected g c m a t =
      let context = game_context s.declarations s.game w in
      AllByRecursion_both (VisitReadsAssigned g) (λ v. AssignsNew v × OwnUnassigned v) (Expected g) (λ v y z. (y, z)) _
      (all_reads_assigned s.declarations g m (a.next (coins_on t 0 a.coins)) t a.moves s.game c context)
      (AllByRecursion_both AssignsNew OwnUnassigned (λ v. AssignsNew v × OwnUnassigned v) (λ v y z. (y, z)) _
      (all_assign_new s.declarations g m (a.next (coins_on t 0 a.coins)) t a.moves s.game context)
      (all_own_unassigned s.declarations g m (a.next (coins_on t 0 a.coins)) t a.moves s.game context))

  keeps : (place : ℕ) (h : Head) (a construct : Tree) (x c : ℕ) → MayMove h a construct x c → (next : Tree) → IsReplaced (Node h a construct) (in_bodies (Node h a) construct) place Process 0 s.game next → KeepsChances s.declarations s.game next
  unfolding chance_of
  keeps place h a construct x c r next z i sat e asked adversary =
      let g : Setting = setting_of s.declarations i in
      let old : Tree = Node h a construct in
      let new : Tree = in_bodies (Node h a) construct in
      let alike : (t : Tape) → holds_on g e adversary s.game t ≡ holds_on g e adversary next t =
      λ t. replaced_holds (Expected g) e adversary g old new place s.game next t (record {
        replaced = z;
        alike = moved_alike g t place c h a construct x r.defines r.bodies r.unnamed r.phrase;
        visited = visits_expected g refl (mode_of e) adversary t;
      }) in
      let cs = cells g (mode_of e) adversary s.game in
      let ds = cells g (mode_of e) adversary next in
      subst (λ p. Same (chance cs p) (chance ds (holds_on g e adversary next))) (sym (fun_ext alike))
      (same_by_sizes (holds_on g e adversary next) cs ds (cells_distinct g (mode_of e) adversary s.game) (cells_distinct g (mode_of e) adversary next)
      (λ d. inl (moved_sizes g h a construct x c r place s.game next z d (mode_of e) adversary)))

  -- what stands at the place is some phrase
  phrase_there : (place : ℕ) (h : Head) (a b : Tree) → part_at s.game place ≡ Node h a b → (σ : Phrase) × (is_phrase σ (Node h a b) ≡ true)
  phrase_there place h a b e = go (subtree s.game place) refl e
    where
      go : (o : Option Tree) → subtree s.game place ≡ o → or_empty o ≡ Node h a b → (σ : Phrase) × (is_phrase σ (Node h a b) ≡ true)
      go None f e = absurd (cc)
      go (Some t) f e = let p = phrase_at Inputs s.game place t w.phrase f in (p.0, subst (λ t. is_phrase p.0 t ≡ true) e p.1)

  by_definition : (place x c : ℕ) (d : Tree) → part_at s.game place ≡ d → defined d ≡ Some x → has_bodies (second d) ≡ true → first_naming x c (second d) ≡ None → KeepsChances s.declarations s.game (change_at s.game place moved)
  by_definition place x c Empty e f b n = absurd (cc)
  by_definition place x c (Node h a construct) e f b n =
      let σ = phrase_there place h a construct e in
      let p = definition_parts h a construct x f σ.0 σ.1 in
      keeps place h a construct x c (record { defines = f; bare = p.still; bodies = b; unnamed = n; phrase = p.behind }) (change_at s.game place moved)
      (subst (λ t. IsReplaced t (moved t) place Process 0 s.game (change_at s.game place moved)) e
      (placed s.game place moved w.phrase (ap is_output e ∙ definition_output h a construct x f)))

pub moves : (s : Scene) (place : ℕ) (next : Tree) (cost : Cost) → IsWellFormed s.declarations s.game → move_row s place ≡ Leads next cost → KeepsChances s.declarations s.game next
moves s place next cost w e =
    let r = move_leads s place next cost e in
    subst (KeepsChances s.declarations s.game) r.leads (by_definition s w place r.variable (behind place (part_at s.game place)) (part_at s.game place) refl r.defines r.bodies r.unnamed)
