-- What the step keeps.
use Rattle.std.proofs.Common.{◌≡◌, ℕ, true, false, not, List, Option, Some, None, refl, sym, ap, subst}
use Rattle.std.proofs.lemmas.Bool.{both_ways, and_parts}
use Rattle.std.specs.List.{AllByRecursion}
use Rattle.cv_syntax_trees.specs.declared.head.Head.{Head}
use Rattle.cv_syntax_trees.specs.declared.head.Head.TheVariants.{Branch, Cons, Find, In}
use Rattle.cv_syntax_trees.specs.Tree.{Tree, Empty, Node, bound_names}
use Rattle.cv_meaning.specs.Interpretation.{setting_of}
use Rattle.cv_meaning.specs.Replaced.{is_output}
use Rattle.cv_meaning_chances.specs.values.Values.{HasValuesIn}
use Rattle.cv_typing_runs.specs.Games.{HasDeclaredSorts}
use Rattle.cv_scope_rules.specs.Phrases.{Phrase, Arm as OfArm, Binders, Body, Guards, Inputs, Pattern, Term, is_phrase, parts}
use Rattle.cv_scene.specs.Derivations.{first_bad_line}
use Rattle.cv_scene.specs.Scenes.{Scene, has_place, part_at}
use Rattle.cv_scene.specs.Sights.{sight_at}
use Rattle.cv_scene.specs.Terms.{is_term_at, replications_at}
use Rattle.cv_steps.specs.Steps.{Cost}
use Rattle.cv_steps.specs.Judgements.{Accepted, judgement_of}
use Rattle.cv_steps.proofs.Comes.{placed}
use Rattle.cv_steps.proofs.Flat.{open_phrase}
use Rattle.cv_steps.proofs.Rows.{IsFree, free_fails, free_leads, free_unless, free_unless_at}
use Rattle.cv_steps_laws.proofs.chances.Phrases.{find_parts, phrase_there}
use Rattle.cv_steps_laws.proofs.Declared.{declared_there}
use Rattle.cv_steps_laws.proofs.Indices.{Lacks, bound_before, lacking_changed, lacking_empty, lacking_node, lacking_parts, lacking_term}
use Rattle.cv_steps_laws.proofs.Keeping.{accepted, next_formed}
use Rattle.cv_steps_laws.proofs.Sorts.{sorts_kept}
use Rattle.cv_steps_laws.proofs.Unletted.{IsKept, has_names, is_bare}
use Rattle.cv_steps_laws.proofs.Values.{values_changed, values_kept}
use Rattle.cv_scene.specs.lines.Ends.{ends_with}
use Rattle.cv_derive_laws.proofs.stores.Costs.{free_taped, kept_costs}
use Rattle.cv_derive_laws.specs.stores.Steps.{IsSound}
use Rattle.cv_costs.specs.names.Naming.{is_one_queried}
use Rattle.cv_scope_rules.specs.Made.{is_own_at}
use Rattle.cv_rule_pick.specs.Picking.{Arm as OnlyArm, are_indices_at, body_place, equations, guards_with, only_arm, own_cells, term_of, with_terms}
use Rattle.cv_rule_pick.specs.Row.{first_other, pick_row_by, pick_step}
use Rattle.cv_rule_pick_laws.proofs.Keeping.{pick_keeps}
use Rattle.cv_rule_pick_laws.proofs.Picks.{AllTerms, IsFind, IsPick, arm_phrases, both_from, branches_tree, find_of, guards_tree, pick_leads, terms_typed, terms_weaker}
use Rattle.cv_rule_pick_laws.proofs.Terms.{IsRead, cells_read, term_has, with_bare, with_kept, with_term}

-- a fact of trees that terms have, and trees whose parts have it, with names as they were
record IsPassed (P : Tree → Type 0) : Type 0 where
  empty : P Empty
  term : (t : Tree) → is_phrase Term t ≡ true → P t
  children : (h : Head) (a b : Tree) → P (Node h a b) → P a × P b
  node : (h : Head) (a b c d : Tree) → (has_names h ≡ true → a ≡ c) → P (Node h a b) → P c → P d → P (Node h c d)

by_kept : (P : Tree → Type 0) → P Empty → IsKept P → IsPassed P
by_kept P z k = record { empty = z; term = λ t e. k.terms Term t refl e; children = k.children; node = k.node }

names_bare : (σ : Phrase) (h : Head) (q : Phrase × Phrase) → parts σ h ≡ Some q → has_names h ≡ true → is_bare q.0 ≡ true
names_bare Inputs (In c) q e f = let i : (let p : Phrase × Phrase = (Pattern, Body) in p) ≡ q = cc in ap (λ (p : Phrase × Phrase). is_bare p.0) (sym i)
names_bare OfArm Branch q e f = let i : (let p : Phrase × Phrase = (Binders, Guards) in p) ≡ q = cc in ap (λ (p : Phrase × Phrase). is_bare p.0) (sym i)
names_bare σ (In c) q e f = absurd (cc)
names_bare σ Branch q e f = absurd (cc)
names_bare σ h q e f = absurd (both_ways false refl f)

-- such a fact is kept with terms for cells
module _ (P : Tree → Type 0) (k : IsPassed P) (cs : List Tree) (ms : Tree) (are : AllByRecursion IsRead cs) (terms : AllTerms (λ m. is_phrase Term m ≡ true) ms) where
  with_passed : (σ : Phrase) (t : Tree) → is_phrase σ t ≡ true → P t → P (with_terms cs ms t)
  unfolding with_terms
  with_passed σ Empty e p = p
  with_passed σ (Node h a b) e p =
      let o = open_phrase σ h a b e in
      let q = k.children h a b p in
      go (term_of cs ms (Node h a b)) refl (with_bare_first o.0 o.1 o.2) (with_passed o.0.0 a o.2 q.0) (with_passed o.0.1 b o.3 q.1)
    where
      with_bare_first : (q : Phrase × Phrase) → parts σ h ≡ Some q → is_phrase q.0 a ≡ true → has_names h ≡ true → a ≡ with_terms cs ms a
      with_bare_first q i w n = sym (with_bare cs ms are q.0 a (names_bare σ h q i n) w)

      go : (o : Option Tree) → term_of cs ms (Node h a b) ≡ o → (has_names h ≡ true → a ≡ with_terms cs ms a) → P (with_terms cs ms a) → P (with_terms cs ms b) → P (with_terms cs ms (Node h a b))
      go None f n x y = subst P (sym (with_kept cs ms are h a b f)) (k.node h a b (with_terms cs ms a) (with_terms cs ms b) n p x y)
      go (Some m) f n x y =
          subst P (sym (with_term cs ms are h a b m f)) (term_has (λ c t. P t) cs ms (Node h a b) m (both_from (λ c t. P t) (λ t. is_phrase Term t ≡ true) (λ c t w. k.term t w) cs ms terms) f)

-- no index is bound by terms for cells
module _ (i : ℕ) (cs : List Tree) (ms : Tree) (are : AllByRecursion IsRead cs) (terms : AllTerms (λ m. is_phrase Term m ≡ true) ms) where
  lacking_with : (t : Tree) → Lacks i t → Lacks i (with_terms cs ms t)
  unfolding with_terms
  lacking_with Empty l = lacking_empty i
  lacking_with (Node h a b) l =
      let q = lacking_parts i h a b l in
      go (term_of cs ms (Node h a b)) refl (lacking_node i h (with_terms cs ms a) (with_terms cs ms b) q.0 (lacking_with a q.1) (lacking_with b q.2))
    where
      go : (o : Option Tree) → term_of cs ms (Node h a b) ≡ o → Lacks i (Node h (with_terms cs ms a) (with_terms cs ms b)) → Lacks i (with_terms cs ms (Node h a b))
      go None f x = subst (Lacks i) (sym (with_kept cs ms are h a b f)) x
      go (Some m) f x =
          subst (Lacks i) (sym (with_term cs ms are h a b m f)) (term_has (λ c t. Lacks i t) cs ms (Node h a b) m (both_from (λ c t. Lacks i t) (λ t. is_phrase Term t ≡ true) (λ c t w. lacking_term i t w) cs ms terms) f)

phrases_of : (s : Scene) (place : ℕ) (ms : Tree) → AllTerms (λ m. is_term_at s place m ≡ true) ms → AllTerms (λ m. is_phrase Term m ≡ true) ms
phrases_of s place ms k = terms_weaker (λ m. is_term_at s place m ≡ true) (λ m. is_phrase Term m ≡ true) (λ m f. (and_parts (is_phrase Term m) _ f).0) ms k

-- the body, and with terms for cells
module _ (s : Scene) (place : ℕ) (ms d e next : Tree) (k : IsPick s place ms d e next) (formed : is_phrase Inputs s.game ≡ true) (terms : AllTerms (λ m. is_term_at s place m ≡ true) ms) where
  abbrev old : Tree
  old = part_at s.game place

  abbrev cs : List Tree
  cs = own_cells s place k.arm

  found : IsFind old k.arm
  found = find_of old k.arm k.stands

  output : is_output old ≡ true
  output = ap is_output found.is

  body_phrase : is_phrase Body k.arm.body ≡ true
  body_phrase =
      let z = phrase_there old Empty place _ 0 s.game _ (placed s.game place (λ t. Empty) formed output) Inputs formed in
      (arm_phrases k.arm (find_parts z.0 found.label (branches_tree k.arm k.arm.body) found.otherwise (subst (λ t. is_phrase z.0 t ≡ true) found.is z.1)).branches).body

  body_has : (P : Tree → Type 0) → IsPassed P → P old → P (with_terms cs ms k.arm.body)
  body_has P q p =
      let whole = subst P found.is p in
      let branches = (q.children (Find found.label) (branches_tree k.arm k.arm.body) found.otherwise whole).0 in
      let arm = (q.children Cons (Node Branch k.arm.binders (guards_tree k.arm k.arm.body)) Empty branches).0 in
      let guards = (q.children Branch k.arm.binders (guards_tree k.arm k.arm.body) arm).1 in
      let guarded = (q.children Cons k.arm.cells (Node Cons k.arm.condition k.arm.body) guards).1 in
      let body = (q.children Cons k.arm.condition k.arm.body guarded).1 in
      with_passed P q cs ms (cells_read (replications_at s place) (bound_names k.arm.binders)) (phrases_of s place ms terms) Body k.arm.body body_phrase body

record IsTaken (s : Scene) (p : ℕ) (ms d e next : Tree) : Type 0 where
  pick : IsPick s p ms d e next
  terms : AllTerms (λ m. is_term_at s p m ≡ true) ms

taken : (s : Scene) (p : ℕ) (ms d e next : Tree) (cost : Cost) → judgement_of s (pick_step p ms d e) ≡ Accepted next cost → IsTaken s p ms d e next
taken s p ms d e next cost r =
    let z = accepted s (pick_step p ms d e) next cost r in
    record { pick = pick_leads s p ms d e next cost z.row; terms = terms_typed s p ms (and_parts (has_place s p) _ z.stands).1 }

body_lacks : (i : ℕ) (s : Scene) (p : ℕ) (ms d e next : Tree) (z : IsTaken s p ms d e next) → Lacks i (part_at s.game p) → Lacks i (with_terms (own_cells s p z.pick.arm) ms z.pick.arm.body)
body_lacks i s p ms d e next z l =
    let a = z.pick.arm in
    let f = find_of (part_at s.game p) a z.pick.stands in
    let branches = (lacking_parts i (Find f.label) (branches_tree a a.body) f.otherwise (subst (Lacks i) f.is l)).1 in
    let arm = (lacking_parts i Cons (Node Branch a.binders (guards_tree a a.body)) Empty branches).1 in
    let guards = (lacking_parts i Branch a.binders (guards_tree a a.body) arm).2 in
    let guarded = (lacking_parts i Cons a.cells (Node Cons a.condition a.body) guards).2 in
    let body = (lacking_parts i Cons a.condition a.body guarded).2 in
    lacking_with i (own_cells s p a) ms (cells_read (replications_at s p) (bound_names a.binders)) (phrases_of s p ms z.terms) a.body body

-- the step costs nothing
pick_free : (s : Scene) (p : ℕ) (ms d e : Tree) (a : Option OnlyArm) → IsFree (pick_row_by s p ms d e a)
pick_free s p ms d e None = free_fails 1 0
pick_free s p ms d e (Some a) =
    free_unless (are_indices_at s p a.binders ms) 1 0 _
    (free_unless_at 2 (first_bad_line (sight_at s (body_place p a)) d) _
    (free_unless (ends_with d (equations (own_cells s p a) ms)) 3 0 _
    (free_unless_at 4 (first_bad_line (sight_at s p) e) _
    (free_unless (ends_with e (guards_with (own_cells s p a) ms a)) 5 0 _
    (free_unless (not (is_one_queried s (is_own_at (part_at s.game p)))) 6 0 _
    (free_unless_at 6 (first_other s p a) _ (free_leads _)))))))

pub pick_sound : (p : ℕ) (ms d e : Tree) → IsSound (pick_step p ms d e)
unfolding HasDeclaredSorts HasValuesIn
pick_sound p ms d e = record {
  keeps = λ s next cost ready holds unreached knows r.
      let z = taken s p ms d e next cost r in
      kept_costs s.declarations s.game next cost (pick_keeps s p ms d e next ready holds (next_formed s (pick_step p ms d e) next cost r).phrase z.terms z.pick);
  taped = λ s next cost r i sat. free_taped _ (pick_free s p ms d e (only_arm (part_at s.game p))) next cost (accepted s (pick_step p ms d e) next cost r).row i;
  declared = λ s next cost w f r.
      let z = taken s p ms d e next cost r in
      subst (HasDeclaredSorts s.declarations) z.pick.leads
      (declared_there s p (λ t. with_terms (own_cells s p z.pick.arm) ms z.pick.arm.body) w (output s p ms d e next z.pick w z.terms) (body_has s p ms d e next z.pick w z.terms (HasDeclaredSorts s.declarations) (by_kept (HasDeclaredSorts s.declarations) tt (sorts_kept s.declarations))) f);
  valued = λ s next cost w i sat k fresh f r.
      let z = taken s p ms d e next cost r in
      let g = setting_of s.declarations i in
      subst (HasValuesIn g k) z.pick.leads
      (values_changed g k s p (λ t. with_terms (own_cells s p z.pick.arm) ms z.pick.arm.body) w (output s p ms d e next z.pick w z.terms) (body_has s p ms d e next z.pick w z.terms (HasValuesIn g k) (by_kept (HasValuesIn g k) tt (values_kept g k))) f);
  bound = λ s next cost r i h.
      let z = taken s p ms d e next cost r in
      bound_before i s.game next (λ l. subst (Lacks i) z.pick.leads (lacking_changed i s p (λ t. with_terms (own_cells s p z.pick.arm) ms z.pick.arm.body) l (λ f. body_lacks i s p ms d e next z f))) h;
}
