-- What an accepted step says: the branch and its parts, and where they stand.
use Rattle.std.proofs.Common.{◌≡◌, ℕ, ◌==◌, ◌&&◌, ◌||◌, not, Bool, true, false, List, [], ◌∷◌, Option, Some, None, refl, sym, ap, ap₂, subst, ◌∙◌, arith, eq-eqb}
use Rattle.std.proofs.lemmas.Bool.{both_ways, and_parts, and_from, not-true, or_left, or_right}
use Rattle.std.specs.List.{AllByRecursion}
use Rattle.cv_syntax.specs.Layouts.{IsSyntax}
use Rattle.cv_syntax_trees.specs.declared.head.Head.TheVariants as head
use Rattle.cv_syntax_trees.specs.declared.head.Head.TheVariants.{Binder, Branch, Cons, Find}
use Rattle.cv_syntax_trees.specs.Tree.{Tree, Empty, Node, bound_names, first_place, second_place}
use Rattle.cv_syntax_trees.specs.declared.sites.sort.Sort.TheVariants.{BelowParameter}
use Rattle.cv_meaning.specs.Interpretation.{Interpretation, Setting, setting_of}
use Rattle.cv_meaning.specs.Replaced.{is_output}
use Rattle.cv_meaning_runs.specs.Replacement.{IsReplaced, Process}
use Rattle.cv_meaning_chances.specs.thinning.Thinning.{binds_only}
use Rattle.cv_meaning_chances.specs.unread.Dropping.{reads_none}
use Rattle.cv_scope_rules.specs.Context.{Context, cells_of, known_at, nothing_known}
use Rattle.cv_scope_rules.specs.Made.{is_bound, is_own_at}
use Rattle.cv_scope_rules.specs.Phrases.{Phrase, Arm as OfArm, Binders, Body as OfBody, Branches as OfBranches, Cells, Guarded, Guards, Inputs, IsWellFormedContext, Nil, OneCell, Term, is_oracle_phrase, is_phrase, both_are}
use Rattle.cv_scope_rules.specs.Scope.{is_variable, names_of}
use Rattle.cv_scope_runs.specs.Promises.{in_body, in_condition, in_list}
use Rattle.cv_scope_runs.proofs.Contexts.{game_names}
use Rattle.cv_scope_runs.proofs.FactsRuns.{well_game}
use Rattle.cv_scope_runs.proofs.Games.{Game, stands_phrase, stands_variable}
use Rattle.cv_scope_runs.proofs.Plain.{game_context}
use Rattle.cv_scope_runs.proofs.Standing.{Stands, root, in_first, in_second, stands_known}
use Rattle.cv_scene.specs.Derivations.{Derives, first_bad_line}
use Rattle.cv_scene.specs.Instances.{is_read_of}
use Rattle.cv_scene.specs.Scenes.{Scene, part_at}
use Rattle.cv_scene.specs.Sights.{sight_at, variable_of}
use Rattle.cv_scene.specs.Terms.{is_sort, is_term_at, replications_at, replications_by}
use Rattle.cv_scene.specs.lines.Ends.{ends_with}
use Rattle.cv_derive_laws.specs.stores.Holding.{IsReady}
use Rattle.cv_steps.specs.Changes.{change_at}
use Rattle.cv_steps.specs.Rewriting.{sort_at}
use Rattle.cv_steps.specs.Steps.{Cost, Leads, Zero}
use Rattle.cv_steps.proofs.Comes.{placed}
use Rattle.cv_steps.proofs.Flat.{open_phrase}
use Rattle.cv_steps.proofs.Rows.{leads_same, unless_at_leads, unless_leads}
use Rattle.cv_steps_laws.proofs.Sorts.{oracle_of_parts}
use Rattle.cv_steps_laws.proofs.chances.Phrases.{body_output, find_parts, phrase_there}
use Rattle.cv_steps_derivations.proofs.unletting.Lists.{unlisted}
use Rattle.cv_steps_derivations.proofs.unletting.Sites.{part_there}
use Rattle.cv_costs.specs.names.Reach.{is_in_scope, is_in_scope_at, is_in_scope_by}
use Rattle.cv_costs.specs.names.Naming.{first_naming, is_one_queried}
use Rattle.cv_rule_pick.specs.Picking.{Arm, are_indices_at, are_terms_at, arm_place, behind_arm, body_place, equations, first_listed, guards_with, is_inside, only_arm, own_cells, term_of, with_terms}
use Rattle.cv_rule_pick.specs.Row.{first_other, pick_row, pick_row_by}
use Rattle.cv_rule_pick_laws.proofs.Names.{ArePaired, above_none, neither, no_index, not_listed, scope_unread}
use Rattle.cv_rule_pick_laws.proofs.Standing.{IsPlace, find_body, stands_old}
use Rattle.cv_rule_pick_laws.proofs.Terms.{AllBoth, IsRead, cells_read, none_other}
use Rattle.cv_syntax_trees.proofs.lists.Each.{AllByRecursion_weaker}

-- a row that leads to a game: no condition of it fails

pub record IsPick (s : Scene) (place : ℕ) (ms d e next : Tree) : Type 0 where
  pub arm : Arm
  pub stands : only_arm (part_at s.game place) ≡ Some arm
  pub indices : are_indices_at s place arm.binders ms ≡ true
  pub at_body : Derives (sight_at s (body_place place arm)) d (equations (own_cells s place arm) ms)
  pub at_find : Derives (sight_at s place) e (guards_with (own_cells s place arm) ms arm)
  pub unasked : is_one_queried s (is_own_at (part_at s.game place)) ≡ false
  pub named : first_naming (is_own_at (part_at s.game place)) (is_inside s.game (own_cells s place arm) (arm_place place) (behind_arm place arm)) 0 s.game ≡ None
  pub listed : first_listed (is_own_at (part_at s.game place)) 0 s.game ≡ None
  pub leads : change_at s.game place (λ old. with_terms (own_cells s place arm) ms arm.body) ≡ next

pub pick_leads : (s : Scene) (place : ℕ) (ms d e next : Tree) (cost : Cost) → pick_row s place ms d e ≡ Leads next cost → IsPick s place ms d e next
pick_leads s place ms d e next cost r = go (only_arm (part_at s.game place)) refl r
  where
    go : (o : Option Arm) → only_arm (part_at s.game place) ≡ o → pick_row_by s place ms d e o ≡ Leads next cost → IsPick s place ms d e next
    go None f r = absurd (cc)
    go (Some a) f r =
        let cs : List Tree = own_cells s place a in
        let q = unless_leads (are_indices_at s place a.binders ms) 1 0 _ next cost r in
        let o = unless_at_leads 2 (first_bad_line (sight_at s (body_place place a)) d) _ next cost q.1 in
        let p = unless_leads (ends_with d (equations cs ms)) 3 0 _ next cost o.1 in
        let n = unless_at_leads 4 (first_bad_line (sight_at s place) e) _ next cost p.1 in
        let m = unless_leads (ends_with e (guards_with cs ms a)) 5 0 _ next cost n.1 in
        let l = unless_leads (not (is_one_queried s (is_own_at (part_at s.game place)))) 6 0 _ next cost m.1 in
        let k = unless_at_leads 6 (first_other s place a) _ next cost l.1 in
        let z = neither (first_naming (is_own_at (part_at s.game place)) (is_inside s.game cs (arm_place place) (behind_arm place a)) 0 s.game) (first_listed (is_own_at (part_at s.game place)) 0 s.game) k.0 in
        record {
          arm = a;
          stands = f;
          indices = q.0;
          at_body = record { right = o.0; end = p.0 };
          at_find = record { right = n.0; end = m.0 };
          unasked = not-true (is_one_queried s (is_own_at (part_at s.game place))) l.0;
          named = z.0;
          listed = z.1;
          leads = leads_same (change_at s.game place (λ old. with_terms cs ms a.body)) next Zero cost k.1;
        }

-- the `find`

abbrev pub guards_tree : Arm → Tree → Tree
guards_tree a b = Node Cons a.cells (Node Cons a.condition b)

abbrev pub branches_tree : Arm → Tree → Tree
branches_tree a b = Node Cons (Node Branch a.binders (guards_tree a b)) Empty

abbrev pub find_tree : ℕ → Arm → Tree → Tree
find_tree l a o = Node (Find l) (branches_tree a a.body) o

pub record IsFind (t : Tree) (a : Arm) : Type 0 where
  pub label : ℕ
  pub otherwise : Tree
  pub is : t ≡ find_tree label a otherwise

pub find_of : (t : Tree) (a : Arm) → only_arm t ≡ Some a → IsFind t a
find_of (Node (Find l) (Node Cons (Node Branch us (Node Cons cells (Node Cons c b))) Empty) o) a e =
    let k : (let z : Arm = record { binders = us; cells = cells; condition = c; body = b } in z) ≡ a = cc in
    record { label = l; otherwise = o; is = ap (λ (z : Arm). find_tree l z o) k }
find_of t a e = absurd (cc)

-- terms of a list

abbrev pub AllTerms : (Tree → Type 0) → Tree → Type 0
AllTerms P Empty = Unit {0}
AllTerms P (Node h m ms) = P m × AllTerms P ms

pub both_from : (P : Tree → Tree → Type 0) (Q : Tree → Type 0) → ((c m : Tree) → Q m → P c m) → (cs : List Tree) (ms : Tree) → AllTerms Q ms → AllBoth P cs ms
both_from P Q f [] ms k = tt
both_from P Q f (c ∷ cs) Empty k = tt
both_from P Q f (c ∷ cs) (Node h m ms) k = (f c m k.0, both_from P Q f cs ms k.1)

pub terms_weaker : (P Q : Tree → Type 0) → ((m : Tree) → P m → Q m) → (ms : Tree) → AllTerms P ms → AllTerms Q ms
terms_weaker P Q f Empty k = tt
terms_weaker P Q f (Node h m ms) k = (f m k.0, terms_weaker P Q f ms k.1)

pub terms_both : (P Q R : Tree → Type 0) → ((m : Tree) → P m → Q m → R m) → (ms : Tree) → AllTerms P ms → AllTerms Q ms → AllTerms R ms
terms_both P Q R f Empty k l = tt
terms_both P Q R f (Node h m ms) k l = (f m k.0 l.0, terms_both P Q R f ms k.1 l.1)

pub terms_typed : (s : Scene) (p : ℕ) (ms : Tree) → are_terms_at s p ms ≡ true → AllTerms (λ m. is_term_at s p m ≡ true) ms
terms_typed s p Empty e = tt
terms_typed s p (Node h m ms) e = let q = and_parts (is_term_at s p m) _ e in (q.0, terms_typed s p ms q.1)

-- the terms for the index variables, in order

abbrev pub AllIndices : (ℕ → Tree → Type 0) → Tree → Tree → Type 0
AllIndices P (Node (Binder x T) a us) (Node h m ms) = P T m × AllIndices P us ms
AllIndices P us ms = Unit {0}

pub indices_sorted : (s : Scene) (p : ℕ) (us ms : Tree) → are_indices_at s p us ms ≡ true → AllIndices (λ T m. is_sort (sort_at s p m) (BelowParameter T) ≡ true) us ms
indices_sorted s p (Node (Binder x T) a us) (Node h m ms) e =
    let q = and_parts (is_sort (sort_at s p m) (BelowParameter T) && is_in_scope_at s p m) _ e in
    ((and_parts (is_sort (sort_at s p m) (BelowParameter T)) _ q.0).0, indices_sorted s p us ms q.1)
indices_sorted s p us ms e = tt

pub indices_scoped : (s : Scene) (p : ℕ) (us ms : Tree) → are_indices_at s p us ms ≡ true → AllTerms (λ m. is_in_scope_at s p m ≡ true) ms
indices_scoped s p Empty Empty e = tt
indices_scoped s p (Node (Binder x T) a us) (Node h m ms) e =
    let q = and_parts (is_sort (sort_at s p m) (BelowParameter T) && is_in_scope_at s p m) _ e in
    ((and_parts (is_sort (sort_at s p m) (BelowParameter T)) _ q.0).1, indices_scoped s p us ms q.1)
indices_scoped s p us ms e = absurd (both_ways false refl e)

pub indices_paired : (s : Scene) (p : ℕ) (rs : List (ℕ × ℕ)) (us ms : Tree) → are_indices_at s p us ms ≡ true → ArePaired (cells_of rs us) ms
indices_paired s p rs Empty Empty e = tt
indices_paired s p rs (Node (Binder x T) a us) (Node h m ms) e =
    indices_paired s p rs us ms (and_parts (is_sort (sort_at s p m) (BelowParameter T) && is_in_scope_at s p m) _ e).1
indices_paired s p rs us ms e = absurd (both_ways false refl e)

-- there is a term for each index
abbrev pub AreMatched : Tree → Tree → Type 0
AreMatched Empty Empty = Unit {0}
AreMatched (Node (Binder x T) a us) (Node h m ms) = AreMatched us ms
AreMatched us ms = ⊥

pub indices_matched : (s : Scene) (p : ℕ) (us ms : Tree) → are_indices_at s p us ms ≡ true → AreMatched us ms
indices_matched s p Empty Empty e = tt
indices_matched s p (Node (Binder x T) a us) (Node h m ms) e = indices_matched s p us ms (and_parts (is_sort (sort_at s p m) (BelowParameter T) && is_in_scope_at s p m) _ e).1
indices_matched s p us ms e = absurd (both_ways false refl e)

-- each name of a list of binders is bound there
pub own_names : (us : Tree) → AllByRecursion (λ y. is_bound us y ≡ true) (bound_names us)
unfolding is_bound
own_names (Node (Binder x T) a b) = (or_left (x == x) (is_bound b x) (eq-eqb x x refl), AllByRecursion_weaker (λ y. is_bound b y ≡ true) (λ y. (y == x || is_bound b y) ≡ true) (λ y f. or_right (y == x) (is_bound b y) f) (bound_names b) (own_names b))
own_names us = tt

-- phrases of games are phrases of contexts
pub oracle_of : (σ : Phrase) (t : Tree) → is_phrase σ t ≡ true → is_oracle_phrase σ t ≡ true
unfolding is_oracle_phrase is_phrase
oracle_of σ Empty e = e
oracle_of σ (Node h a b) e =
    let o = open_phrase σ h a b e in
    ap (λ q. both_are q (λ τ. is_oracle_phrase τ a) (λ ρ. is_oracle_phrase ρ b)) (oracle_of_parts σ h o.0 o.1) ∙ ap₂ ◌&&◌ (oracle_of o.0.0 a o.2) (oracle_of o.0.1 b o.3)

pub record ArmPhrases (a : Arm) : Type 0 where
  pub binders : is_phrase Binders a.binders ≡ true
  pub cells : is_phrase Cells a.cells ≡ true
  pub condition : is_phrase Term a.condition ≡ true
  pub body : is_phrase OfBody a.body ≡ true

pub arm_phrases : (a : Arm) → is_phrase OfBranches (branches_tree a a.body) ≡ true → ArmPhrases a
unfolding is_phrase
arm_phrases a e =
    let p = and_parts (is_phrase OfArm (Node Branch a.binders (guards_tree a a.body))) _ e in
    let q = and_parts (is_phrase Binders a.binders) _ p.0 in
    let r = and_parts (is_phrase Cells a.cells) _ q.1 in
    let o = and_parts (is_phrase Term a.condition) _ r.1 in
    record { binders = q.0; cells = r.0; condition = o.0; body = o.1 }

output_syntax : (t : Tree) → is_output t ≡ true → IsSyntax t
output_syntax (Node head.Yield a b) e = refl
output_syntax (Node (head.Out c) a b) e = refl
output_syntax (Node (head.Event x) a b) e = refl
output_syntax (Node (head.New x T) a b) e = refl
output_syntax (Node (head.Let x T) a b) e = refl
output_syntax (Node head.If a b) e = refl
output_syntax (Node (Find l) a b) e = refl
output_syntax (Node (head.Key x) a b) e = refl
output_syntax (Node (head.Call x l) a b) e = refl
output_syntax t e = absurd (both_ways false refl e)

or_none : (v : Bool) → (v || false) ≡ v
or_none true = refl
or_none false = refl

binders_only : (xs : ℕ → Bool) (us : Tree) → is_phrase Binders us ≡ true → ((y : ℕ) → is_bound us y ≡ true → xs y ≡ true) → binds_only xs us ≡ true
unfolding is_phrase is_bound
binders_only xs Empty e k = refl
binders_only xs (Node (Binder x T) a b) e k =
    let p = and_parts (is_phrase Nil a) _ e in
    and_from (xs x) (binds_only xs b) (k x (or_left (x == x) (is_bound b x) (eq-eqb x x refl))) (binders_only xs b p.1 (λ y f. k y (or_right (y == x) (is_bound b y) f)))
binders_only xs (Node h a b) e k = absurd (both_ways false refl e)

module _ (s : Scene) (place : ℕ) (ms d e next : Tree) (k : IsPick s place ms d e next) (ready : IsReady s.declarations s.game) (i : Interpretation) where
  abbrev pub game : Tree
  game = s.game

  abbrev pub g : Setting
  g = setting_of s.declarations i

  abbrev pub a : Arm
  a = k.arm

  abbrev pub old : Tree
  old = part_at game place

  abbrev pub xs : ℕ → Bool
  xs = is_own_at old

  abbrev pub rs : List (ℕ × ℕ)
  rs = replications_at s place

  abbrev pub cs : List Tree
  cs = own_cells s place a

  abbrev pub behind : ℕ
  behind = behind_arm place a

  abbrev pub picked : Tree → Tree
  picked t = with_terms cs ms t

  pub find : IsFind old a
  find = find_of old a k.stands

  abbrev pub found : Tree
  found = find_tree find.label a find.otherwise

  abbrev pub context : IsWellFormedContext s.declarations game
  context = game_context s.declarations game ready.formed

  abbrev pub fine : Game g (is_variable game) game
  fine = well_game s.declarations g game refl context

  pub output : is_output old ≡ true
  output = ap is_output find.is

  pub there : IsReplaced old (picked a.body) place Process 0 game (change_at game place (λ t. picked a.body))
  there = placed game place (λ t. picked a.body) ready.formed.phrase output

  pub stood : IsPlace game place old
  stood = stands_old g (is_variable game) game fine old (picked a.body) place Process 0 game (change_at game place (λ t. picked a.body)) there (record { phrase = Inputs; above = nothing_known; stands = root })

  -- what is known at the `find`
  abbrev pub Γ : Context
  Γ = stood.above

  pub find_stands : Stands game place OfBody Γ found
  find_stands =
      let z : Stands game place stood.phrase Γ found = subst (λ t. Stands game place stood.phrase Γ t) find.is stood.stands in
      subst (λ σ. Stands game place σ Γ found) (find_body stood.phrase find.label (branches_tree a a.body) find.otherwise (stands_phrase g (is_variable game) game fine z)) z

  pub find_known : known_at game place ≡ Some Γ
  find_known = stands_known game place OfBody Γ found refl find_stands

  pub same_replications : rs ≡ Γ.replications
  same_replications = ap replications_by find_known

  -- its branch

  pub branches_stand : Stands game (first_place place (Find find.label)) OfBranches Γ (branches_tree a a.body)
  branches_stand = in_first refl find_stands

  pub arm_stands : Stands game (arm_place place) OfArm Γ (Node Branch a.binders (guards_tree a a.body))
  arm_stands =
      let z : Stands game (first_place (first_place place (Find find.label)) Cons) OfArm Γ (Node Branch a.binders (guards_tree a a.body)) = in_first refl branches_stand in
      subst (λ n. Stands game n OfArm Γ (Node Branch a.binders (guards_tree a a.body))) (omega arith) z

  pub guards_stand : Stands game (second_place (arm_place place) Branch a.binders) Guards (in_list Γ a.binders) (guards_tree a a.body)
  guards_stand = in_second refl arm_stands

  pub cells_stand : Stands game (first_place (second_place (arm_place place) Branch a.binders) Cons) Cells (in_list Γ a.binders) a.cells
  cells_stand = in_first refl guards_stand

  pub guarded_stand : Stands game (second_place (second_place (arm_place place) Branch a.binders) Cons a.cells) Guarded (in_condition Γ a.binders a.cells) (Node Cons a.condition a.body)
  guarded_stand = in_second refl guards_stand

  pub condition_stands : Stands game (first_place (second_place (second_place (arm_place place) Branch a.binders) Cons a.cells) Cons) Term (in_condition Γ a.binders a.cells) a.condition
  condition_stands = in_first refl guarded_stand

  -- what is known in its body
  abbrev pub Δ : Context
  Δ = in_body Γ a.binders a.cells a.condition

  pub body_stands : Stands game (body_place place a) OfBody Δ a.body
  body_stands =
      let z : Stands game (second_place (second_place (second_place (arm_place place) Branch a.binders) Cons a.cells) Cons a.condition) OfBody Δ a.body = in_second refl guarded_stand in
      subst (λ n. Stands game n OfBody Δ a.body) (omega arith) z

  pub arm_part : part_at game (arm_place place) ≡ Node Branch a.binders (guards_tree a a.body)
  arm_part = part_there game (arm_place place) OfArm Γ Branch a.binders (guards_tree a a.body) arm_stands refl

  -- its phrases

  old_phrase : (τ : Phrase) × (is_phrase τ old ≡ true)
  old_phrase = phrase_there old (picked a.body) place Process 0 game (change_at game place (λ t. picked a.body)) there Inputs ready.formed.phrase

  pub phrases : ArmPhrases a
  phrases = arm_phrases a (find_parts old_phrase.0 find.label (branches_tree a a.body) find.otherwise (subst (λ t. is_phrase old_phrase.0 t ≡ true) find.is old_phrase.1)).branches

  pub body_output_there : is_output a.body ≡ true
  body_output_there = body_output a.body phrases.body

  pub body_syntax : IsSyntax a.body
  body_syntax = output_syntax a.body body_output_there

  -- its index variables

  pub own_is : (y : ℕ) → xs y ≡ is_bound a.binders y
  own_is y = ap (λ t. is_own_at t y) find.is ∙ or_none (is_bound a.binders y)

  pub own_variable : (y : ℕ) → xs y ≡ true → is_variable game y ≡ true
  own_variable y f = stands_variable g (is_variable game) game fine arm_stands y (sym (own_is y) ∙ f)

  pub cells_are : AllByRecursion IsRead cs
  cells_are = cells_read rs (bound_names a.binders)

  pub paired : ArePaired cs ms
  paired = indices_paired s place rs a.binders ms k.indices

  pub binds_own : binds_only xs a.binders ≡ true
  binds_own = binders_only xs a.binders phrases.binders (λ y j. own_is y ∙ j)

  -- the terms

  pub scoped : AllTerms (λ m. is_in_scope (game_names g (is_variable game)) Γ m ≡ true) ms
  scoped =
      terms_weaker (λ m. is_in_scope_at s place m ≡ true) (λ m. is_in_scope (game_names g (is_variable game)) Γ m ≡ true)
      (λ m f. subst (λ o. is_in_scope_by (names_of s.declarations game) o m ≡ true) find_known f) ms (indices_scoped s place a.binders ms k.indices)

  pub terms_unread : AllTerms (λ m. reads_none xs m ≡ true) ms
  terms_unread =
      terms_weaker (λ m. is_in_scope (game_names g (is_variable game)) Γ m ≡ true) (λ m. reads_none xs m ≡ true)
      (λ m f.
      scope_unread g game fine xs cs (arm_place place) (behind_arm place a) cells_are k.named Γ
      (λ x j c r v. above_none g game fine xs cs (arm_place place) (behind_arm place a) cells_are k.named k.listed place (omega arith) x j find_stands (omega arith) c r v)
      (λ x j. no_index g game fine xs cs (arm_place place) (behind_arm place a) cells_are k.named x (own_variable x j) find_stands) own_variable m f) ms scoped

  pub both_unread : AllBoth (λ c m. reads_none xs m ≡ true) cs ms
  both_unread = both_from (λ c m. reads_none xs m ≡ true) (λ m. reads_none xs m ≡ true) (λ c m f. f) cs ms terms_unread

  -- a cell of a list is none of the branch's own
  pub none_here : (c : Tree) {q : ℕ} {Θ : Context} → Stands game q OneCell Θ c → term_of cs ms c ≡ None
  none_here c st =
      none_other rs (bound_names a.binders) ms c
      (AllByRecursion_weaker (λ y. is_bound a.binders y ≡ true) (λ y. is_read_of y (variable_of c) ≡ false)
      (λ y f. unlisted y game (not_listed xs y (own_is y ∙ f) 0 game k.listed) st) (bound_names a.binders) (own_names a.binders))
