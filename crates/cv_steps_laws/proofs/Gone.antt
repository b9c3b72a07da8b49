-- A well-formed game without definitions of variables that it reads nowhere is such a one as runs take it.
use Rattle.std.proofs.Common.{◌≡◌, ℕ, Bool, true, false, cond, refl, sym, subst}
use Rattle.std.proofs.lemmas.Bool.{both_ways, and_parts}
use Rattle.cv_syntax_trees.specs.declared.head.Head.{Head}
use Rattle.cv_syntax_trees.specs.declared.head.Head.TheVariants.{Stop, Yield, Par, Repl, In, Out, Event, New, Let, If, Find, Branch, Cons}
use Rattle.cv_syntax_trees.specs.Tree.{Tree, Empty, Node}
use Rattle.cv_meaning_runs.specs.Replacement as runs
use Rattle.cv_meaning_runs.specs.Replacement.{Part, Process}
use Rattle.cv_meaning.specs.Replaced.{is_output}
use Rattle.cv_scope_rules.specs.Phrases.{Phrase, Nil, Inputs, Body, Then, Else, Branches, Arm, Pattern, Message, Binders, Cells, Terms, Term, is_phrase}
use Rattle.cv_meaning_chances.specs.unread.Dropping.{reads_none, IsDropped, same, gone, kept, in_parallel, in_list, in_find, in_branch}
use Rattle.cv_meaning.specs.Still.{defines}
use Rattle.cv_meaning_chances.proofs.unread.Unread.{first_reads, second_reads}
use Rattle.cv_steps.specs.Changes.{without}
use Rattle.cv_steps.proofs.Flat.{guarded_of, guards_of, flat_dropped, term_still, nil_still}

module _ (xs : ℕ → Bool) where
  -- an output process without some definitions is one
  body_output : (t : Tree) → is_phrase Body t ≡ true → is_output (without xs t) ≡ true
  unfolding without is_phrase
  body_output (Node Yield a b) e = refl
  body_output (Node (Out c) a b) e = refl
  body_output (Node (Event x) a b) e = refl
  body_output (Node If a b) e = refl
  body_output (Node (Find l) a b) e = refl
  body_output (Node (New x T) a b) e = go (xs x) (body_output b (and_parts (is_phrase Nil a) _ e).1)
    where
      go : (v : Bool) → is_output (without xs b) ≡ true → is_output (cond v (without xs b) (Node (New x T) (without xs a) (without xs b))) ≡ true
      go true k = k
      go false k = refl
  body_output (Node (Let x T) a b) e = go (xs x) (body_output b (and_parts (is_phrase Term a) _ e).1)
    where
      go : (v : Bool) → is_output (without xs b) ≡ true → is_output (cond v (without xs b) (Node (Let x T) (without xs a) (without xs b))) ≡ true
      go true k = k
      go false k = refl
  body_output t e = absurd (both_ways false refl e)

  flat : {part : Part} (σ : Phrase) (t : Tree) → without xs t ≡ t → reads_none xs t ≡ true → IsDropped xs part t (without xs t)
  flat {part = part} σ t e r = subst (IsDropped xs part t) (sym e) (same r)

  -- a construct that stays
  keep : (h : Head) (a b : Tree) → reads_none xs a ≡ true → without xs a ≡ a → IsDropped xs Process b (without xs b) → IsDropped xs Process (Node h a b) (Node h (without xs a) (without xs b))
  keep h a b r e z = subst (λ c. IsDropped xs Process (Node h a b) (Node h c (without xs b))) (sym e) (kept r z)

  -- one that goes, or stays
  perhaps : (h : Head) (a b : Tree) → (defines xs h ≡ true → IsDropped xs Process (Node h a b) (without xs b)) → IsDropped xs Process (Node h a b) (Node h (without xs a) (without xs b)) → IsDropped xs Process (Node h a b) (without xs (Node h a b))
  unfolding without
  perhaps h a b k l = go (defines xs h) refl
    where
      go : (v : Bool) → defines xs h ≡ v → IsDropped xs Process (Node h a b) (cond v (without xs b) (Node h (without xs a) (without xs b)))
      go true e = k e
      go false e = l

  abbrev As : Phrase → Tree → Tree → Type 0
  As Inputs t u = IsDropped xs Process t u
  As Body t u = IsDropped xs Process t u
  As Then t u = IsDropped xs Process t u
  As Else t u = IsDropped xs Process t u
  As Branches t u = IsDropped xs runs.Branches t u
  As σ t u = Unit {0}

  pub dropped_as : (σ : Phrase) (t : Tree) → is_phrase σ t ≡ true → reads_none xs t ≡ true → As σ t (without xs t)
  unfolding without is_phrase
  dropped_as Inputs (Node Stop a b) e r =
      let p = and_parts (is_phrase Nil a) _ e in
      keep Stop a b (first_reads xs Stop a b r) (flat_dropped xs Nil a refl p.0) (flat Nil b (flat_dropped xs Nil b refl p.1) (second_reads xs Stop a b r))
  dropped_as Inputs (Node Par a b) e r =
      let p = and_parts (is_phrase Inputs a) _ e in
      in_parallel (dropped_as Inputs a p.0 (first_reads xs Par a b r)) (dropped_as Inputs b p.1 (second_reads xs Par a b r))
  dropped_as Inputs (Node (Repl i n) a b) e r =
      let p = and_parts (is_phrase Nil a) _ e in
      keep (Repl i n) a b (first_reads xs (Repl i n) a b r) (flat_dropped xs Nil a refl p.0) (dropped_as Inputs b p.1 (second_reads xs (Repl i n) a b r))
  dropped_as Inputs (Node (In c) a b) e r =
      let p = and_parts (is_phrase Pattern a) _ e in
      keep (In c) a b (first_reads xs (In c) a b r) (flat_dropped xs Pattern a refl p.0) (dropped_as Body b p.1 (second_reads xs (In c) a b r))
  dropped_as Inputs t e r = absurd (both_ways false refl e)
  dropped_as Body (Node Yield a b) e r =
      let p = and_parts (is_phrase Nil a) _ e in
      keep Yield a b (first_reads xs Yield a b r) (flat_dropped xs Nil a refl p.0) (flat Nil b (flat_dropped xs Nil b refl p.1) (second_reads xs Yield a b r))
  dropped_as Body (Node (Out c) a b) e r =
      let p = and_parts (is_phrase Message a) _ e in
      keep (Out c) a b (first_reads xs (Out c) a b r) (flat_dropped xs Message a refl p.0) (dropped_as Inputs b p.1 (second_reads xs (Out c) a b r))
  dropped_as Body (Node (New x T) a b) e r =
      let p = and_parts (is_phrase Nil a) _ e in
      let z = dropped_as Body b p.1 (second_reads xs (New x T) a b r) in
      perhaps (New x T) a b (λ d. gone d (nil_still a p.0) (body_output b p.1) z) (keep (New x T) a b (first_reads xs (New x T) a b r) (flat_dropped xs Nil a refl p.0) z)
  dropped_as Body (Node (Let x T) a b) e r =
      let p = and_parts (is_phrase Term a) _ e in
      let z = dropped_as Body b p.1 (second_reads xs (Let x T) a b r) in
      perhaps (Let x T) a b (λ d. gone d (term_still a p.0) (body_output b p.1) z) (keep (Let x T) a b (first_reads xs (Let x T) a b r) (flat_dropped xs Term a refl p.0) z)
  dropped_as Body (Node (Event v) a b) e r =
      let p = and_parts (is_phrase Terms a) _ e in
      keep (Event v) a b (first_reads xs (Event v) a b r) (flat_dropped xs Terms a refl p.0) (dropped_as Body b p.1 (second_reads xs (Event v) a b r))
  dropped_as Body (Node If a b) e r =
      let p = and_parts (is_phrase Term a) _ e in
      keep If a b (first_reads xs If a b r) (flat_dropped xs Term a refl p.0) (dropped_as Then b p.1 (second_reads xs If a b r))
  dropped_as Body (Node (Find l) a b) e r =
      let p = and_parts (is_phrase Branches a) _ e in
      in_find (dropped_as Branches a p.0 (first_reads xs (Find l) a b r)) (dropped_as Body b p.1 (second_reads xs (Find l) a b r))
  dropped_as Body t e r = absurd (both_ways false refl e)
  dropped_as Then (Node Cons a b) e r =
      let p = and_parts (is_phrase Body a) _ e in
      in_list (dropped_as Body a p.0 (first_reads xs Cons a b r)) (dropped_as Else b p.1 (second_reads xs Cons a b r))
  dropped_as Then t e r = absurd (both_ways false refl e)
  dropped_as Else (Node Cons a b) e r =
      let p = and_parts (is_phrase Body a) _ e in
      in_list (dropped_as Body a p.0 (first_reads xs Cons a b r)) (flat Nil b (flat_dropped xs Nil b refl p.1) (second_reads xs Cons a b r))
  dropped_as Else t e r = absurd (both_ways false refl e)
  dropped_as Branches Empty e r = same r
  dropped_as Branches (Node Cons (Node Branch bs (Node Cons ds (Node Cons m b))) more) e r =
      let guarded : Tree = Node Cons m b in
      let guards : Tree = Node Cons ds guarded in
      let arm : Tree = Node Branch bs guards in
      let p = and_parts (is_phrase Arm arm) _ e in
      let q = and_parts (is_phrase Binders bs) _ p.0 in
      let w = and_parts (is_phrase Cells ds) _ q.1 in
      let v = and_parts (is_phrase Term m) _ w.1 in
      let r1 : reads_none xs arm ≡ true = first_reads xs Cons arm more r in
      let r2 : reads_none xs guards ≡ true = second_reads xs Branch bs guards r1 in
      let r3 : reads_none xs guarded ≡ true = second_reads xs Cons ds guarded r2 in
      let z : IsDropped xs runs.Branches (Node Cons arm more) (Node Cons (Node Branch bs (Node Cons ds (Node Cons m (without xs b)))) (without xs more)) =
      in_branch (first_reads xs Branch bs guards r1) (first_reads xs Cons ds guarded r2) (first_reads xs Cons m b r3) (dropped_as Body b v.1 (second_reads xs Cons m b r3)) (dropped_as Branches more p.1 (second_reads xs Cons arm more r)) in
      subst (λ (t : Tree). IsDropped xs runs.Branches (Node Cons arm more) t)
      (λ i. Node Cons (Node Branch (sym (flat_dropped xs Binders bs refl q.0) i) (Node Cons (sym (flat_dropped xs Cells ds refl w.0) i) (Node Cons (sym (flat_dropped xs Term m refl v.0) i) (without xs b)))) (without xs more)) z
  dropped_as Branches (Node Cons (Node Branch bs (Node Cons ds rest)) more) e r = absurd (both_ways false refl (guarded_of bs ds rest more e))
  dropped_as Branches (Node Cons (Node Branch bs rest) more) e r = absurd (both_ways false refl (guards_of bs rest more e))
  dropped_as Branches t e r = absurd (both_ways false refl e)
  dropped_as σ t e r = tt

  pub dropped_game : (t : Tree) → is_phrase Inputs t ≡ true → reads_none xs t ≡ true → IsDropped xs Process t (without xs t)
  dropped_game t e r = dropped_as Inputs t e r
