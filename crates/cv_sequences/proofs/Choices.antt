-- In a typed game whose types and parameters are declared each choice has a value, and so has each test of a variable with
-- values of a type.
use Rattle.std.proofs.Common.{◌≡◌, ℕ, ◌<◌, ◌≤◌, true, false, List, None, refl, ap, sym, ◌∙◌, arith}
use Rattle.std.specs.Prelude.{option_map}
use Rattle.std.proofs.lemmas.Bool.{both_ways, and_parts, or_parts}
use Rattle.cv_syntax.specs.faults.Walk.{IsObeyed}
use Rattle.cv_syntax_trees.specs.declared.head.Head.TheVariants.{Binder, Branch, Cons, Event, Find, If, In, Leaf, Let, Name, New, Out, Par, Read, Repl, Stop, Yield}
use Rattle.cv_syntax_trees.specs.Declarations.{Declaration}
use Rattle.cv_syntax_trees.specs.Tree.{Tree, Empty, Node, second}
use Rattle.cv_meaning.specs.Interpretation.{Interpretation, Setting, setting_of}
use Rattle.cv_meaning.specs.Runs.{Mode}
use Rattle.cv_meaning.specs.Satisfies.{Satisfies}
use Rattle.cv_meaning_laws.specs.adequacy.Typed as meaning
use Rattle.cv_meaning_laws.specs.adequacy.Typed.{IsDeclared}
use Rattle.cv_meaning_laws.proofs.adequacy.Sorted.{some_value}
use Rattle.cv_scope_rules.specs.Phrases.{Phrase, Arm, Binders, Body, Branches as BranchesPhrase, Cells, Else, Guarded as GuardedPhrase, Guards, Indices as IndicesPhrase, Inputs, Message as MessagePhrase, Nil, OneCell, Pattern, Term, Terms, Then, is_phrase}
use Rattle.cv_syntax_trees.specs.declared.sites.sort.Sort.{Sort}
use Rattle.cv_syntax_trees.specs.declared.sites.sort.Sort.TheVariants.{BelowParameter, OfType}
use Rattle.cv_syntax_trees.specs.sites.Sites.{Variable, sites_of}
use Rattle.cv_scope_rules.specs.typing.Signature.{Above, OfGame, Signature, variable_sort}
use Rattle.cv_scope_rules.specs.typing.Typing.{IsTyped, binders_differ}
use Rattle.cv_syntax_trees.specs.sites.Sorts.{differs_from}
use Rattle.cv_scope_rules.specs.typing.Wants.{Want, above_second, wants}
use Rattle.cv_typing_runs.specs.Games.{AreDeclared, HasDeclaredSorts, sort_of_meaning}
use Rattle.cv_typing_runs.proofs.SameSites.{input_binders}
use Rattle.cv_typing_runs.proofs.Terms.{faultless, same_sorts}
use Rattle.cv_query_form.specs.Rules.{HasValues}
use Rattle.cv_steps.proofs.Flat.{nil_still, term_still}
use Rattle.cv_meaning_chances.specs.values.Values.{HasValuesIn, is_tested}
use Rattle.cv_steps_laws.proofs.Values.{still_values}

module _ (ds : List Declaration) (game : Tree) (i : Interpretation) (sat : Satisfies ds i) (m : Mode) (tested : (x : ℕ) → is_tested m x ≡ true → HasValues game x) where
  abbrev g : Setting
  g = setting_of ds i

  abbrev e : Signature
  e = record { declarations = ds; arrays = OfGame (sites_of game) }

  abbrev Valued : Tree → Type 0
  Valued t = HasValuesIn g m t

  -- types and variables

  type_value : (T : ℕ) → IsDeclared ds (meaning.OfType T) → 0 < i.type_size T
  type_value T d =
      let v : 1 ≤ i.type_size T = some_value (record { declarations = ds; variables = λ x. None; oracles = λ l. None }) i sat (meaning.OfType T) d in
      omega arith

  choice_value : 0 < i.choices
  choice_value = let c = sat.choices in omega arith

  -- a tested variable has values of a type wherever it is defined
  test_sort : (x : ℕ) (S : Sort) (h : HasValues game x) → differs_from (variable_sort e.arrays x) S ≡ false → S ≡ OfType h.values
  test_sort x S h d = same_sorts (OfType h.values) S (sym (ap (λ o. differs_from (option_map (λ (v : Variable). v.sort) o) S) h.site) ∙ d)

  -- a sort that is one of a type has a value
  abbrev HasValue : (ℕ → Sort) → Type 0
  HasValue sort = (T V : ℕ) → sort T ≡ OfType V → IsDeclared ds (sort_of_meaning (sort T)) → 0 < i.type_size T

  of_types : HasValue OfType
  of_types T V s d = type_value T d

  of_parameters : HasValue BelowParameter
  of_parameters T V s d = absurd (cc)

  -- what no process stands in

  nil_valued : (t : Tree) → is_phrase Nil t ≡ true → Valued t
  nil_valued t p = still_values g m t (nil_still t p)

  term_valued : (t : Tree) → is_phrase Term t ≡ true → Valued t
  term_valued t p = still_values g m t (term_still t p)

  terms_valued : (t : Tree) → is_phrase Terms t ≡ true → Valued t
  unfolding is_phrase HasValuesIn
  terms_valued Empty p = tt
  terms_valued (Node Cons a b) p = let q = and_parts (is_phrase Term a) (is_phrase Terms b) p in (tt, term_valued a q.0, terms_valued b q.1)
  terms_valued (Node h a b) p = absurd (both_ways false refl p)

  indices_valued : (t : Tree) → is_phrase IndicesPhrase t ≡ true → Valued t
  unfolding is_phrase HasValuesIn
  indices_valued Empty p = tt
  indices_valued (Node (Name x) a b) p = let q = and_parts (is_phrase Nil a) (is_phrase IndicesPhrase b) p in (tt, nil_valued a q.0, indices_valued b q.1)
  indices_valued (Node h a b) p = absurd (both_ways false refl p)

  cell_valued : (t : Tree) → is_phrase OneCell t ≡ true → Valued t
  unfolding is_phrase HasValuesIn
  cell_valued Empty p = absurd (both_ways false refl p)
  cell_valued (Node (Leaf x) a b) p = let q = and_parts (is_phrase Nil a) (is_phrase Nil b) p in (tt, nil_valued a q.0, nil_valued b q.1)
  cell_valued (Node (Read x) a b) p = let q = and_parts (is_phrase Terms a) (is_phrase Nil b) p in (tt, terms_valued a q.0, nil_valued b q.1)
  cell_valued (Node h a b) p = absurd (both_ways false refl p)

  cells_valued : (t : Tree) → is_phrase Cells t ≡ true → Valued t
  unfolding is_phrase HasValuesIn
  cells_valued Empty p = tt
  cells_valued (Node Cons a b) p = let q = and_parts (is_phrase OneCell a) (is_phrase Cells b) p in (tt, cell_valued a q.0, cells_valued b q.1)
  cells_valued (Node h a b) p = absurd (both_ways false refl p)

  message_valued : (t : Tree) → is_phrase MessagePhrase t ≡ true → Valued t
  unfolding is_phrase HasValuesIn
  message_valued Empty p = absurd (both_ways false refl p)
  message_valued (Node Cons a b) p = let q = and_parts (is_phrase IndicesPhrase a) (is_phrase Terms b) p in (tt, indices_valued a q.0, terms_valued b q.1)
  message_valued (Node h a b) p = absurd (both_ways false refl p)

  binders_valued : (sort : ℕ → Sort) → HasValue sort → (t : Tree) → is_phrase Binders t ≡ true → binders_differ e.arrays sort t ≡ false → AreDeclared ds sort t → Valued t
  unfolding is_phrase binders_differ AreDeclared HasValuesIn
  binders_valued sort v Empty p d k = tt
  binders_valued sort v (Node (Binder y T) a b) p d k =
      let q = and_parts (is_phrase Nil a) (is_phrase Binders b) p in
      let o = or_parts (differs_from (variable_sort e.arrays y) (sort T)) (binders_differ e.arrays sort b) d in
      (λ t. v T (tested y t).values (test_sort y (sort T) (tested y t) o.0) k.0, nil_valued a q.0, binders_valued sort v b q.1 o.1 k.1)
  binders_valued sort v (Node h a b) p d k = absurd (both_ways false refl p)

  pattern_valued : (t : Tree) → is_phrase Pattern t ≡ true → Valued (second t) → Valued t
  unfolding is_phrase HasValuesIn
  pattern_valued Empty p v = absurd (both_ways false refl p)
  pattern_valued (Node Cons a b) p v = (tt, indices_valued a (and_parts (is_phrase IndicesPhrase a) (is_phrase Binders b) p).0, v)
  pattern_valued (Node h a b) p v = absurd (both_ways false refl p)

  -- processes

  abbrev IfProcess : Phrase → Tree → Type 0
  IfProcess Inputs t = Valued t
  IfProcess Body t = Valued t
  IfProcess Then t = Valued t
  IfProcess Else t = Valued t
  IfProcess BranchesPhrase t = Valued t
  IfProcess Arm t = Valued t
  IfProcess Guards t = Valued t
  IfProcess GuardedPhrase t = Valued t
  IfProcess σ t = Unit {0}

  valued : (σ : Phrase) (above : Above) (w : Want) (t : Tree) → is_phrase σ t ≡ true → IsTyped e above w t → HasDeclaredSorts ds t → IfProcess σ t
  unfolding is_phrase IsObeyed HasDeclaredSorts HasValuesIn
  valued Inputs above w (Node Stop a b) p h d = let q = and_parts (is_phrase Nil a) (is_phrase Nil b) p in (tt, nil_valued a q.0, nil_valued b q.1)
  valued Inputs above w (Node Par a b) p h d =
      let q = and_parts (is_phrase Inputs a) (is_phrase Inputs b) p in
      (tt, valued Inputs above (wants e above w Par a).0 a q.0 h.1 d.1, valued Inputs (above_second w Par a above) (wants e above w Par a).1 b q.1 h.2 d.2)
  valued Inputs above w (Node (Repl j n) a b) p h d =
      let q = and_parts (is_phrase Nil a) (is_phrase Inputs b) p in
      (tt, nil_valued a q.0, valued Inputs (above_second w (Repl j n) a above) (wants e above w (Repl j n) a).1 b q.1 h.2 d.2)
  valued Inputs above w (Node (In c) a b) p h d =
      let q = and_parts (is_phrase Pattern a) (is_phrase Body b) p in
      let f = faultless e above w (In c) a h.0 in
      (tt, pattern_valued a q.0 (binders_valued OfType of_types (second a) (input_binders Inputs c a b p) f.site d.0), valued Body (above_second w (In c) a above) (wants e above w (In c) a).1 b q.1 h.2 d.2)
  valued Body above w (Node Yield a b) p h d = let q = and_parts (is_phrase Nil a) (is_phrase Nil b) p in (tt, nil_valued a q.0, nil_valued b q.1)
  valued Body above w (Node (Out c) a b) p h d =
      let q = and_parts (is_phrase MessagePhrase a) (is_phrase Inputs b) p in
      (tt, message_valued a q.0, valued Inputs (above_second w (Out c) a above) (wants e above w (Out c) a).1 b q.1 h.2 d.2)
  valued Body above w (Node (New x T) a b) p h d =
      let q = and_parts (is_phrase Nil a) (is_phrase Body b) p in
      (type_value T d.0, nil_valued a q.0, valued Body (above_second w (New x T) a above) (wants e above w (New x T) a).1 b q.1 h.2 d.2)
  valued Body above w (Node (Let x T) a b) p h d =
      let q = and_parts (is_phrase Term a) (is_phrase Body b) p in
      (type_value T d.0, term_valued a q.0, valued Body (above_second w (Let x T) a above) (wants e above w (Let x T) a).1 b q.1 h.2 d.2)
  valued Body above w (Node (Event v) a b) p h d =
      let q = and_parts (is_phrase Terms a) (is_phrase Body b) p in
      (tt, terms_valued a q.0, valued Body (above_second w (Event v) a above) (wants e above w (Event v) a).1 b q.1 h.2 d.2)
  valued Body above w (Node If a b) p h d =
      let q = and_parts (is_phrase Term a) (is_phrase Then b) p in
      (tt, term_valued a q.0, valued Then (above_second w If a above) (wants e above w If a).1 b q.1 h.2 d.2)
  valued Body above w (Node (Find l) a b) p h d =
      let q = and_parts (is_phrase BranchesPhrase a) (is_phrase Body b) p in
      (choice_value, valued BranchesPhrase above (wants e above w (Find l) a).0 a q.0 h.1 d.1, valued Body (above_second w (Find l) a above) (wants e above w (Find l) a).1 b q.1 h.2 d.2)
  valued Then above w (Node Cons a b) p h d =
      let q = and_parts (is_phrase Body a) (is_phrase Else b) p in
      (tt, valued Body above (wants e above w Cons a).0 a q.0 h.1 d.1, valued Else (above_second w Cons a above) (wants e above w Cons a).1 b q.1 h.2 d.2)
  valued Else above w (Node Cons a b) p h d =
      let q = and_parts (is_phrase Body a) (is_phrase Nil b) p in
      (tt, valued Body above (wants e above w Cons a).0 a q.0 h.1 d.1, nil_valued b q.1)
  valued BranchesPhrase above w Empty p h d = tt
  valued BranchesPhrase above w (Node Cons a b) p h d =
      let q = and_parts (is_phrase Arm a) (is_phrase BranchesPhrase b) p in
      (tt, valued Arm above (wants e above w Cons a).0 a q.0 h.1 d.1, valued BranchesPhrase (above_second w Cons a above) (wants e above w Cons a).1 b q.1 h.2 d.2)
  valued Arm above w (Node Branch a b) p h d =
      let q = and_parts (is_phrase Binders a) (is_phrase Guards b) p in
      let f = faultless e above w Branch a h.0 in
      (tt, binders_valued BelowParameter of_parameters a q.0 f.site d.0, valued Guards (above_second w Branch a above) (wants e above w Branch a).1 b q.1 h.2 d.2)
  valued Guards above w (Node Cons a b) p h d =
      let q = and_parts (is_phrase Cells a) (is_phrase GuardedPhrase b) p in
      (tt, cells_valued a q.0, valued GuardedPhrase (above_second w Cons a above) (wants e above w Cons a).1 b q.1 h.2 d.2)
  valued GuardedPhrase above w (Node Cons a b) p h d =
      let q = and_parts (is_phrase Term a) (is_phrase Body b) p in
      (tt, term_valued a q.0, valued Body (above_second w Cons a above) (wants e above w Cons a).1 b q.1 h.2 d.2)
  valued Nil above w t p h d = tt
  valued Pattern above w t p h d = tt
  valued MessagePhrase above w t p h d = tt
  valued IndicesPhrase above w t p h d = tt
  valued Binders above w t p h d = tt
  valued Cells above w t p h d = tt
  valued OneCell above w t p h d = tt
  valued Terms above w t p h d = tt
  valued Term above w t p h d = tt
  valued σ above w t p h d = absurd (both_ways false refl p)

  pub game_valued : (above : Above) (w : Want) → is_phrase Inputs game ≡ true → IsTyped e above w game → HasDeclaredSorts ds game → HasValuesIn (setting_of ds i) m game
  game_valued above w p h d = valued Inputs above w game p h d
