-- What moves ask, by the refusals of a cryptographic step and the rows of the others.
use Rattle.std.proofs.Common.{◌≡◌, ℕ, Bool, true, false, cond, ◌&&◌, ◌||◌, not, ◌==◌, nat_lt, List, length, Option, Some, None, refl, ap, ◌∙◌, eqb-true}
use Rattle.std.proofs.lemmas.Bool.{and_parts, or_parts}
use Rattle.std.specs.List.{list_all}
use Rattle.std.specs.Prelude.{is_some, option_map}
use Rattle.cv_syntax_trees.specs.Tree.{Tree}
use Rattle.cv_syntax_trees.specs.sites.Sites.{first_of}
use Rattle.cv_scope_rules.specs.Behind.{sites_of}
use Rattle.cv_scope_rules.specs.declared.position.Position.TheVariants.{Anywhere}
use Rattle.cv_scene.specs.Contexts.{matching_of}
use Rattle.cv_scene.specs.Instances.{Matching}
use Rattle.cv_scene.specs.Refusals.{CoinUse, InCondition, KeyInArgument, NotOneSite, Refusal, Use, at_place, first_argument_use, first_coin_use, first_in_condition, first_refusal, first_use, has_key, is_of_type, new_of}
use Rattle.cv_scene.specs.Scenes.{Scene, is_new, is_queried, names}
use Rattle.cv_scene.specs.Sites as scene_sites
use Rattle.cv_steps.proofs.Rows.{unless_at_leads, unless_leads}
use Rattle.cv_steps.specs.Rows.{unless, unless_at, unlet_row_by}
use Rattle.cv_steps.specs.Steps.{Cost, Fails, Leads, Row, Zero}
use Rattle.cv_steps.specs.Unletting.{Assignment, is_listed, only_assignment, without_assignment}
use Rattle.cv_steps_laws.specs.crypto.Conditions.{Failure, equivalence_of, failed, failure_by, failure_with}
use Rattle.cv_edit_names.specs.Cells.{first_mixed}
use Rattle.cv_edit_names.specs.Splitting.{split_game}
use Rattle.cv_rule_array_names.specs.Sites.{are_apart, has_names}
use Rattle.cv_strategy_rules.specs.Moves.{ArrayRename, Crypto, MayBeMade, Move, Unlet}
use Rattle.cv_strategy_moves.specs.Demands.{Demands, DemandsOfKey, HasSeveralDefinitions, IsOnlyLet, IsUsedAsKey}

is_false : (b : Bool) → not b ≡ true → b ≡ false
is_false true e = cc
is_false false e = refl

-- cryptographic steps

-- the conditions of a key of which a move is tested before
record AreMet (key : Bool) (outside tested : Option ℕ) : Type 0 where
  has_key : key ≡ true
  inside : outside ≡ None
  untested : tested ≡ None

some_refusal : (r : Refusal) → ◌≡◌ {A = Option Refusal} (Some r) None → ⊥
some_refusal r e = cc

met : (key : Bool) (u c k a : Option ℕ)
    → cond key (first_of (at_place Use u) (first_of (at_place InCondition c) (first_of (at_place CoinUse k) (at_place KeyInArgument a)))) (Some NotOneSite) ≡ None → AreMet key u c
met false u c k a e = absurd (some_refusal NotOneSite e)
met true (Some p) c k a e = absurd (some_refusal (Use p) e)
met true None (Some p) k a e = absurd (some_refusal (InCondition p) e)
met true None None k a e = record { has_key = refl; inside = refl; untested = refl }

some_failure : (f : Failure) → ◌≡◌ {A = Option Failure} (Some f) None → ⊥
some_failure f e = cc

unrefused : (known : Bool) (r : Option Refusal) → cond known (option_map failure_by r) (Some (failed 0 0)) ≡ None → r ≡ None
unrefused false r e = absurd (some_failure (failed 0 0) e)
unrefused true (Some r) e = absurd (some_failure (failure_by r) e)
unrefused true None e = refl

used_as_key : (M : Matching) → first_refusal M ≡ None → IsUsedAsKey M
used_as_key M e =
    let m : AreMet (has_key M) (first_use M Anywhere 0 M.scene.game) (first_in_condition M.key Anywhere 0 M.scene.game) =
    met (has_key M) (first_use M Anywhere 0 M.scene.game) (first_in_condition M.key Anywhere 0 M.scene.game) (first_coin_use M (scene_sites.sites_of M)) (first_argument_use M (scene_sites.sites_of M)) e in
    let p = and_parts (is_of_type M.group.key.1 (new_of M.scene.game M.key)) (not (is_queried M.scene M.key)) m.has_key in
    record { drawn = p.0; unasked = is_false _ p.1; untested = ap is_some m.untested; inside = m.inside }

of_key : (s : Scene) (x : ℕ) (o : Option Tree) → failure_with s o x ≡ None → DemandsOfKey s o x
of_key s x None e = absurd (some_failure (failed 0 0) e)
of_key s x (Some t) e = used_as_key (matching_of s t x) (unrefused (s.known x || names x s.game) (first_refusal (matching_of s t x)) e)

-- rows of other steps

no_row : (c p : ℕ) (next : Tree) (cost : Cost) → Fails c p ≡ Leads next cost → ⊥
no_row c p next cost e = cc

only_let : (s : Scene) (x : ℕ) (o : Option Assignment) (next : Tree) (cost : Cost) → only_assignment s.game x ≡ o → unlet_row_by s x o ≡ Leads next cost → IsOnlyLet s x
only_let s x None next cost d e = absurd (no_row 1 0 next cost e)
only_let s x (Some a) next cost d e =
    let named : Bool = is_queried s x || is_listed x s.game in
    let h : (not named ≡ true) × (Leads (without_assignment x a s.game) Zero ≡ Leads next cost) = unless_leads (not named) 2 0 (Leads (without_assignment x a s.game) Zero) next cost e in
    let n = or_parts (is_queried s x) (is_listed x s.game) (is_false named h.0) in
    record { assignment = a; only = d; unasked = n.0; unlisted = n.1 }

several : (s : Scene) (x : ℕ) (ys : List ℕ) → has_names s x ys ≡ true → nat_lt 1 (length (sites_of s.game x)) ≡ true
several s x ys e =
    let p = and_parts (nat_lt 1 (length ys)) ((length (sites_of s.game x) == length ys) && (list_all (is_new s) ys && are_apart ys)) e in
    let q = and_parts (length (sites_of s.game x) == length ys) (list_all (is_new s) ys && are_apart ys) p.1 in
    ap (nat_lt 1) (eqb-true (length (sites_of s.game x)) (length ys) q.0) ∙ p.0

pub several_definitions : (s : Scene) (x : ℕ) (ys : List ℕ) (next : Tree) (cost : Cost)
    → unless (has_names s x ys) 1 0 (unless (not (is_queried s x)) 2 0 (unless_at 3 (first_mixed x 0 s.game) (Leads (split_game x ys s.game) Zero))) ≡ Leads next cost → HasSeveralDefinitions s x
several_definitions s x ys next cost e =
    let last : Row = unless_at 3 (first_mixed x 0 s.game) (Leads (split_game x ys s.game) Zero) in
    let middle : Row = unless (not (is_queried s x)) 2 0 last in
    let f = unless_leads (has_names s x ys) 1 0 middle next cost e in
    let g = unless_leads (not (is_queried s x)) 2 0 last next cost f.1 in
    record {
      several = several s x ys f.0;
      unasked = is_false _ g.0;
      unmixed = (unless_at_leads 3 (first_mixed x 0 s.game) (Leads (split_game x ys s.game) Zero) next cost g.1).0;
    }

pub demanded : (s : Scene) (m : Move) → MayBeMade s m → Demands s m
demanded s (Crypto e x) t = of_key s x (equivalence_of s e) t.fits
demanded s (Unlet x) (next, l) = only_let s x (only_assignment s.game x) next l.leads.cost refl l.leads.row
demanded s (ArrayRename x) (ys, next, l) = several_definitions s x ys next l.leads.cost l.leads.row
