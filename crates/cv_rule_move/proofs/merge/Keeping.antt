-- An accepted step that puts a body in place of a construct keeps chances.
use Rattle.std.proofs.Common.{◌≡◌, ℕ, true, false, not, List, [], ◌∷◌, None, ◌⊎◌, inl, inr, refl, ap, subst, ◌∙◌}
use Rattle.std.proofs.lemmas.Bool.{not-true}
use Rattle.std.proofs.lemmas.List.Elements.{All-from_get_or}
use Rattle.cv_syntax_trees.specs.Children.{is_empty}
use Rattle.cv_syntax_trees.specs.Tree.{Tree}
use Rattle.cv_meaning.specs.Cells.{cells}
use Rattle.cv_meaning.specs.Experiments.{holds_on, mode_of}
use Rattle.cv_meaning.specs.Interpretation.{setting_of}
use Rattle.cv_meaning.specs.Replaced.{is_output}
use Rattle.cv_meaning.specs.Tapes.{blank}
use Rattle.cv_meaning_laws.specs.adequacy.Counted.{tapes_of}
use Rattle.cv_meaning_runs.specs.Replacement.{IsReplaced, Process}
use Rattle.cv_meaning_chances.proofs.thinning.Alike.{holds_without}
use Rattle.cv_meaning_chances.proofs.thinning.Placed.{thinned_at}
use Rattle.cv_meaning_chances.specs.thinning.Thinning.{IsThinned}
use Rattle.cv_meaning_chances.specs.unread.Dropping.{reads_none}
use Rattle.cv_scope_rules.specs.Made.{is_own_at}
use Rattle.cv_scope_rules.specs.Phrases.{Inputs, is_phrase}
use Rattle.cv_typing_runs.proofs.Games.{typed}
use Rattle.cv_typing_runs.specs.Games.{context_of}
use Rattle.cv_scene.specs.Scenes.{Scene, part_at}
use Rattle.cv_derive_laws.specs.stores.Holding.{IsReady}
use Rattle.cv_steps.specs.Changes.{change_at}
use Rattle.cv_steps.specs.Chances.{KeepsChances}
use Rattle.cv_steps.specs.Steps.{Cost, Leads, Zero}
use Rattle.cv_steps.proofs.Comes.{placed}
use Rattle.cv_steps.proofs.Rows.{leads_same, unless_at_leads, unless_leads}
use Rattle.cv_steps.proofs.Sizes.{typed_names}
use Rattle.cv_steps_laws.proofs.chances.Chances.{chance_inside}
use Rattle.cv_steps_laws.proofs.chances.Inclusion.{replaced_included}
use Rattle.cv_steps_laws.proofs.chances.Phrases.{phrase_there}
use Rattle.cv_rule_move.specs.merge.Merging.{Body, bodies, first_other, is_beside}
use Rattle.cv_costs.specs.names.Naming.{first_naming, is_one_queried}
use Rattle.cv_rule_move.specs.merge.Row.{merge_row, merge_row_by}
use Rattle.cv_rule_move.proofs.merge.Asked.{all_untested}
use Rattle.cv_rule_move.proofs.merge.Constructs.{bodies_output}
use Rattle.cv_rule_move.proofs.merge.Named.{body_kept, nothing_reads, outside_kept, unnamed_at, unread, unread_changed}
use Rattle.cv_rule_move.proofs.merge.One.{IsInside, IsOne, is_one}

-- a row that leads to a game: no condition of it fails

pub record IsMerge (s : Scene) (place : ℕ) (next : Tree) : Type 0 where
  pub first : Body
  pub others : List Body
  pub stands : bodies place (part_at s.game place) ≡ first ∷ others
  pub equal : first_other first.process others ≡ None
  pub unasked : is_one_queried s (is_own_at (part_at s.game place)) ≡ false
  pub unnamed : first_naming (is_own_at (part_at s.game place)) (is_beside place (part_at s.game place) first) 0 s.game ≡ None
  pub leads : change_at s.game place (λ old. first.process) ≡ next

pub merge_leads : (s : Scene) (place : ℕ) (next : Tree) (cost : Cost) → merge_row s place ≡ Leads next cost → IsMerge s place next
merge_leads s place next cost e = go (bodies place (part_at s.game place)) refl e
  where
    go : (bs : List Body) → bodies place (part_at s.game place) ≡ bs → merge_row_by s place (part_at s.game place) bs ≡ Leads next cost → IsMerge s place next
    go [] f e = absurd (cc)
    go (b ∷ others) f e =
        let t : Tree = part_at s.game place in
        let r = unless_leads (not (is_empty b.process)) 1 0 _ next cost e in
        let q = unless_at_leads 2 (first_other b.process others) _ next cost r.1 in
        let o = unless_leads (not (is_one_queried s (is_own_at t))) 3 0 _ next cost q.1 in
        let n = unless_at_leads 3 (first_naming (is_own_at t) (is_beside place t b) 0 s.game) _ next cost o.1 in
        record {
          first = b;
          others = others;
          stands = f;
          equal = q.0;
          unasked = not-true (is_one_queried s (is_own_at t)) o.0;
          unnamed = n.0;
          leads = leads_same (change_at s.game place (λ old. b.process)) next Zero cost n.1;
        }

module _ (s : Scene) (place : ℕ) (next : Tree) (m : IsMerge s place next) (formed : is_phrase Inputs s.game ≡ true) where
  abbrev old : Tree
  old = part_at s.game place

  abbrev after : Tree
  after = change_at s.game place (λ t. m.first.process)

  pub stands_output : is_output old ≡ true
  stands_output = bodies_output place old m.first m.others m.stands

  pub there : IsReplaced old m.first.process place Process 0 s.game after
  there = placed s.game place (λ t. m.first.process) formed stands_output

  one : IsOne place old m.first
  one =
      let k = phrase_there old m.first.process place Process 0 s.game after there Inputs formed in
      is_one k.0 place old m.first m.others k.1 m.stands m.equal

  -- no index variable of the construct is read in the next game, nor in the body
  record ReadNowhere : Type 0 where
    body : reads_none (is_own_at old) m.first.process ≡ true
    game : reads_none (is_own_at old) after ≡ true

  by_places : IsInside place old m.first → ReadNowhere
  by_places i =
      let xs = is_own_at old in
      let skip = is_beside place old m.first in
      let b : reads_none xs m.first.process ≡ true = unread xs skip m.first.place m.first.process (body_kept place old m.first) (i.unnamed xs skip (unnamed_at xs skip old m.first.process place Process 0 s.game after there m.unnamed)) in
      record { body = b; game = unread_changed xs skip old m.first.process place (outside_kept place old m.first i.from i.to) b Process 0 s.game after there m.unnamed }

  read_nowhere : ReadNowhere
  read_nowhere = go one.inside
    where
      go : ((y : ℕ) → is_own_at old y ≡ false) ⊎ IsInside place old m.first → ReadNowhere
      go (inl k) = record { body = nothing_reads (is_own_at old) k m.first.process; game = nothing_reads (is_own_at old) k after }
      go (inr i) = by_places i

  pub thinned : IsThinned (is_own_at old) Process s.game after
  thinned = thinned_at (is_own_at old) old m.first.process place (one.thinned read_nowhere.body) Process 0 s.game after read_nowhere.game there

  pub after_keeps : IsReady s.declarations s.game → is_phrase Inputs after ≡ true → KeepsChances s.declarations s.game after
  after_keeps ready w i sat x asked a =
      let g = setting_of s.declarations i in
      let c = context_of s.declarations s.game in
      chance_inside c s.declarations i x a s.game after (typed_names c s.game formed (typed s.declarations s.game ready.arguments ready.formed ready.typed ready.names))
      (λ give. replaced_included g give old m.first.process place (one.included g give) Process 0 s.game after there)
      w
      (All-from_get_or (λ t. holds_on g x a s.game t ≡ holds_on g x a after t) (tapes_of (cells g (mode_of x) a s.game) blank) blank
      (λ k l. holds_without (is_own_at old) g x a s.game after _ thinned (all_untested s (is_own_at old) m.unasked x asked)))

pub merge_keeps : (s : Scene) (place : ℕ) (next : Tree) (cost : Cost) → IsReady s.declarations s.game → is_phrase Inputs next ≡ true → merge_row s place ≡ Leads next cost → KeepsChances s.declarations s.game next
merge_keeps s place next cost ready w e =
    let m = merge_leads s place next cost e in
    subst (KeepsChances s.declarations s.game) m.leads (after_keeps s place next m ready.formed.phrase ready (ap (is_phrase Inputs) m.leads ∙ w))
