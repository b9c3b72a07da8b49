-- Steps keep chances.
use Rattle.std.proofs.Common.{[], ◌∷◌, ◌≡◌, ℕ, Bool, true, false, cond, not, nat_lt, List, Option, Some, None, is_some, refl, sym, ap, subst, ◌∙◌, eq-eqb}
use Rattle.std.proofs.lemmas.Bool.{both_ways, and_parts, not-true}
use Rattle.cv_syntax_trees.specs.declared.head.Head.{Head}
use Rattle.cv_syntax_trees.specs.declared.head.Head.TheVariants as head
use Rattle.cv_syntax_trees.specs.Declarations.{Declaration}
use Rattle.cv_syntax_trees.specs.Tree.{Tree, Empty, Node, size, depth}
use Rattle.cv_meaning.specs.Interpretation.{is_constant_of, setting_of}
use Rattle.cv_meaning_runs.specs.Replacement.{Process}
use Rattle.cv_meaning.specs.Still.{defines, is_still}
use Rattle.cv_meaning_chances.proofs.unread.Chances.{chance_without, split_chance}
use Rattle.cv_meaning_chances.proofs.unread.PutIn.{put_in}
use Rattle.cv_scope_rules.specs.typing.Parts.{IsTypedGame, first_in, game_part}
use Rattle.cv_scope_rules.proofs.typing.First.{game_alone, parts_typed_where_none}
use Rattle.cv_scope_rules.specs.Scope.{names_of}
use Rattle.cv_scope_rules.specs.Standing.{at_root}
use Rattle.cv_scope_rules.proofs.First.{scoped_where_none}
use Rattle.cv_scope_rules.specs.Phrases.{Inputs, Term, IsWellFormed, is_phrase, binds_none}
use Rattle.cv_typing_runs.specs.Games.{HasConstants, HasKnownNames, HasNamedFunctionsAndCells}
use Rattle.cv_typing_runs.proofs.Games.{known}
use Rattle.cv_scene.specs.Scenes.{Scene, KnowsQueries, is_chosen, is_new, is_output_at, is_queried, first_reading, names, part_at}
use Rattle.cv_steps.specs.Steps.{Cost, Fails, Leads, Row, Step, Zero}
use Rattle.cv_steps.specs.Changes.{change_at, split_process, without, only}
use Rattle.cv_scene.specs.Terms.{is_term_at, is_bool_at, is_there, names_anywhere, has_site, has_index, is_game}
use Rattle.cv_steps.specs.Rows.{split_row, let_row, new_row, unnew_row}
use Rattle.cv_steps.specs.Judgements.{Refused, TooLarge, TooDeep, Accepted, judgement_of_row, judgement_of}
use Rattle.cv_syntax.specs.limits.Limits.{most_depth, most_nodes}
use Rattle.cv_steps.specs.Chances.{KeepsChances}
use Rattle.cv_steps.proofs.Flat.{term_still}
use Rattle.cv_steps.proofs.Rows.{leads_same, unless_leads, unless_at_leads}
use Rattle.cv_steps.proofs.Testable.{game_no_calls, game_testable, local}
use Rattle.cv_steps_laws.proofs.Gone.{dropped_game}
use Rattle.cv_steps.proofs.Comes.{placed}
use Rattle.cv_steps_laws.proofs.Sorts.{there_named}
use Rattle.cv_steps_laws.proofs.Unnamed.{unnamed_unread, unnamed_undrawn, unlisted_unread, dropped_undrawn, dropped_phrase, asked_untested}
use Rattle.cv_syntax_trees.proofs.lists.Options.{none_from_not_some}

-- steps

pub splits : (s : Scene) (p : ℕ) (m next : Tree) (cost : Cost) → IsWellFormed s.declarations s.game → is_phrase Term m ≡ true → split_row s p m ≡ Leads next cost → KeepsChances s.declarations s.game next
splits s p m next cost w t e =
    let r = unless_leads (is_output_at s p) 1 0 _ next cost e in
    let q = unless_leads (is_bool_at s p m) 2 0 _ next cost r.1 in
    subst (KeepsChances s.declarations s.game) (leads_same _ next Zero cost q.1)
    (λ i sat x asked a. split_chance (setting_of s.declarations i) x a m (part_at s.game p) p s.game (change_at s.game p (split_process m)) r.0 (term_still m t) (placed s.game p (split_process m) w.phrase r.0))

pub unqueried : (s : Scene) (x : ℕ) → KnowsQueries s → s.known x ≡ false → is_queried s x ≡ false
unqueried s x k e = go (is_queried s x) refl
  where
    go : (v : Bool) → is_queried s x ≡ v → v ≡ false
    go true f = absurd (both_ways _ e (k x f))
    go false f = refl

-- a definition of a new name before an output process
before : (s : Scene) (p : ℕ) (h : Head) (a : Tree) (x : ℕ) → IsWellFormed s.declarations s.game → KnowsQueries s → defines (only x) h ≡ true → is_still a ≡ true → is_output_at s p ≡ true → is_new s x ≡ true → KeepsChances s.declarations s.game (change_at s.game p (Node h a))
before s p h a x w k d f o n i sat e asked adversary =
    let q = and_parts (not (s.known x)) _ n in
    let unnamed : names x s.game ≡ false = not-true _ q.1 in
    let next : Tree = change_at s.game p (Node h a) in
    sym (chance_without (setting_of s.declarations i) e adversary (only x) next s.game local (game_testable _ s.game w.phrase) (game_no_calls s.game w.phrase) (unnamed_undrawn x s.game unnamed)
    (put_in (only x) h a (part_at s.game p) p Process 0 s.game next d f o (unnamed_unread x s.game unnamed) (placed s.game p (Node h a) w.phrase o))
    (asked_untested s x e asked (unqueried s x k (not-true _ q.0))))

pub assigns : (s : Scene) (p x T : ℕ) (m next : Tree) (cost : Cost) → IsWellFormed s.declarations s.game → KnowsQueries s → is_phrase Term m ≡ true → let_row s p x T m ≡ Leads next cost → KeepsChances s.declarations s.game next
assigns s p x T m next cost w k t e =
    let r = unless_leads (is_output_at s p) 1 0 _ next cost e in
    let q = unless_leads (is_new s x) 2 0 _ next cost r.1 in
    subst (KeepsChances s.declarations s.game) (leads_same _ next Zero cost q.1) (before s p (head.Let x T) m x w k (eq-eqb x x refl) (term_still m t) r.0 q.0)

pub chooses : (s : Scene) (p x T : ℕ) (next : Tree) (cost : Cost) → IsWellFormed s.declarations s.game → KnowsQueries s → new_row s p x T ≡ Leads next cost → KeepsChances s.declarations s.game next
chooses s p x T next cost w k e =
    let r = unless_leads (is_output_at s p) 1 0 _ next cost e in
    let q = unless_leads (is_new s x) 2 0 _ next cost r.1 in
    subst (KeepsChances s.declarations s.game) (leads_same _ next Zero cost q.1) (before s p (head.New x T) Empty x w k (eq-eqb x x refl) refl r.0 q.0)

pub drops : (s : Scene) (x : ℕ) (next : Tree) (cost : Cost) → IsWellFormed s.declarations s.game → unnew_row s x ≡ Leads next cost → KeepsChances s.declarations s.game next
drops s x next cost w e =
    let r = unless_leads (is_chosen s x) 1 0 _ next cost e in
    let q = unless_leads (not (is_queried s x)) 2 0 _ next cost r.1 in
    let o = unless_at_leads 2 (first_reading x 0 s.game) _ next cost q.1 in
    let less : Tree = without (only x) s.game in
    let phrase : is_phrase Inputs less ≡ true = dropped_phrase (only x) Inputs s.game w.phrase in
    subst (KeepsChances s.declarations s.game) (leads_same _ next Zero cost o.1)
    (λ i sat z asked a. chance_without (setting_of s.declarations i) z a (only x) s.game less local (game_testable _ less phrase) (game_no_calls less phrase) (dropped_undrawn (only x) s.game)
    (dropped_game (only x) s.game w.phrase (unlisted_unread x 0 s.game o.0)) (asked_untested s x z asked (not-true _ q.0)))

-- accepted steps

pub record IsAccepted (s : Scene) (step : Step) (next : Tree) (cost : Cost) : Type 0 where
  pub stands : step.stands s ≡ true
  pub row : step.row s ≡ Leads next cost
  pub small : nat_lt most_nodes (size next) ≡ false
  pub low : nat_lt most_depth (depth next) ≡ false
  pub game : is_game s.declarations next ≡ true

pub accepted : (s : Scene) (step : Step) (next : Tree) (cost : Cost) → judgement_of s step ≡ Accepted next cost → IsAccepted s step next cost
accepted s step next cost e = go (step.stands s) refl (step.row s) refl e
  where
    limits : (n : Tree) (c : Cost) (v w z : Bool) → nat_lt most_nodes (size n) ≡ v → nat_lt most_depth (depth n) ≡ w → is_game s.declarations n ≡ z → step.row s ≡ Leads n c → step.stands s ≡ true
        → cond v (TooLarge (size n)) (cond w (TooDeep (depth n)) (cond z (Accepted n c) (Refused 9 0))) ≡ Accepted next cost → IsAccepted s step next cost
    limits n c true w z f g h r i e = absurd (cc)
    limits n c false true z f g h r i e = absurd (cc)
    limits n c false false false f g h r i e = absurd (cc)
    limits n c false false true f g h r i e =
        let j : n ≡ next = cc in
        let k : c ≡ cost = cc in
        record { stands = i; row = r ∙ (λ l. Leads (j l) (k l)); small = ap (λ t. nat_lt most_nodes (size t)) (sym j) ∙ f; low = ap (λ t. nat_lt most_depth (depth t)) (sym j) ∙ g; game = ap (is_game s.declarations) (sym j) ∙ h }

    go : (v : Bool) → step.stands s ≡ v → (r : Row) → step.row s ≡ r → cond v (judgement_of_row s r) (Refused 0 0) ≡ Accepted next cost → IsAccepted s step next cost
    go false i r f e = absurd (cc)
    go true i (Fails c p) f e = absurd (cc)
    go true i (Leads n c) f e = limits n c (nat_lt most_nodes (size n)) (nat_lt most_depth (depth n)) (is_game s.declarations n) refl refl refl f i e

-- the term of a step is one
pub term_phrase : (s : Scene) (p : ℕ) (m : Tree) → is_term_at s p m ≡ true → is_phrase Term m ≡ true
term_phrase s p m e = (and_parts (is_phrase Term m) _ e).0

-- next games

pub record IsGame (ds : List Declaration) (game : Tree) : Type 0 where
  pub formed : IsWellFormed ds game
  pub typed : IsTypedGame ds game
  pub named : HasNamedFunctionsAndCells ds game

pub game_formed : (ds : List Declaration) (game : Tree) → is_game ds game ≡ true → IsGame ds game
game_formed ds game e =
    let p = and_parts (is_phrase Inputs game) _ e in
    let q = and_parts (binds_none (is_constant_of ds) game) _ p.1 in
    let r = and_parts (is_there (names_anywhere ds game) Inputs game) _ q.1 in
    let t = and_parts (not (is_some (first_in ds 0 (game_part game ∷ [])))) _ r.1 in
    record {
      formed = record { scoped = scoped_where_none (names_of ds game) at_root game (none_from_not_some _ t.1); phrase = p.0; constants = q.0 };
      typed = game_alone ds (game_part game) (parts_typed_where_none ds 0 (game_part game ∷ []) (none_from_not_some _ t.0));
      named = there_named ds (has_site game) (has_index game) Inputs game r.0;
    }

pub next_formed : (s : Scene) (step : Step) (next : Tree) (cost : Cost) → judgement_of s step ≡ Accepted next cost → IsWellFormed s.declarations next
next_formed s step next cost e = (game_formed s.declarations next (accepted s step next cost e).game).formed

pub next_typed : (s : Scene) (step : Step) (next : Tree) (cost : Cost) → judgement_of s step ≡ Accepted next cost → IsTypedGame s.declarations next
next_typed s step next cost e = (game_formed s.declarations next (accepted s step next cost e).game).typed

pub next_named : (s : Scene) (step : Step) (next : Tree) (cost : Cost) → judgement_of s step ≡ Accepted next cost → HasNamedFunctionsAndCells s.declarations next
next_named s step next cost e = (game_formed s.declarations next (accepted s step next cost e).game).named

pub next_known : (s : Scene) (step : Step) (next : Tree) (cost : Cost) → HasConstants s.declarations → judgement_of s step ≡ Accepted next cost → HasKnownNames s.declarations next
next_known s step next cost c e = known s.declarations next c (next_formed s step next cost e) (next_named s step next cost e)

pub formed : (ds : List Declaration) (game : Tree) → is_game ds game ≡ true → IsWellFormed ds game
formed ds game e = (game_formed ds game e).formed
