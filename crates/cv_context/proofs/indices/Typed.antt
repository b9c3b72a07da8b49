-- In a typed game the terms of indices have sorts of indices, so no variable of a type is read there.
use Rattle.std.proofs.Common.{◌≡◌, ℕ, suc, ◌+◌, Bool, true, false, cond, ◌||◌, ◌&&◌, not, ◌==◌, List, [], ◌∷◌, length, Option, Some, None, is_some, refl, sym, ap, subst, ◌∙◌, eq-eqb, eqb-true, arith}
use Rattle.std.proofs.lemmas.Bool.{both_ways, and_from, and_parts, not-true, or_left}
use Rattle.std.specs.Prelude.{option_map}
use Rattle.cv_syntax_trees.specs.declared.head.Head.{Head}
use Rattle.cv_syntax_trees.specs.declared.head.Head.TheVariants.{And, Apply, Branch, Cons, Eq, Event, Find, If, In, Leaf, Let, New, No, Not, Occurs, OccursOnce, Or, Out, Par, Query, Read, Repl, Yes}
use Rattle.cv_syntax_trees.specs.Declarations.{Declaration}
use Rattle.cv_syntax_trees.specs.Tree.{Tree, Empty, Node}
use Rattle.cv_syntax.specs.faults.Walk.{IsObeyed}
use Rattle.cv_syntax_trees.specs.declared.sites.sort.Sort.{Sort}
use Rattle.cv_syntax_trees.specs.declared.sites.sort.Sort.TheVariants.{BelowParameter, OfType}
use Rattle.cv_syntax_trees.specs.sites.Sites.{Variable, first_index, first_of, first_site, sites_of}
use Rattle.cv_scope_rules.specs.declared.typing.form.Form.TheVariants.{InBody, InProcess}
use Rattle.cv_scope_rules.specs.typing.Signature.{Above, Function, OfGame, Signature, function_in, is_arity, leaf_sort, sort_of, variable_sort}
use Rattle.cv_syntax_trees.specs.sites.Counting.{count}
use Rattle.cv_scope_rules.specs.typing.Typing.{IsTyped}
use Rattle.cv_scope_rules.specs.typing.Wants.{Atoms, Branches, Correspondence, Guarded, Indices, Messages, Of, Run, Tested, Want, above_second, asks_indices, atom_wants, branch_wants, is_in_body, like, list_wants, on_list, place_wants, query_wants, run_wants, wants, wants_arguments}
use Rattle.cv_scope_rules.specs.Context.{replications_below}
use Rattle.cv_scope_rules.specs.Phrases.{Phrase, Inputs, Nil, OneCell, Term, Terms, is_phrase}
use Rattle.cv_scope_rules.specs.Rules.{is_index}
use Rattle.cv_scope_rules.specs.Scope.{is_variable}
use Rattle.cv_typing_runs.specs.Games.{are_known, has_site, is_known}
use Rattle.cv_typing_runs.proofs.SameSites.{phrase_open}
use Rattle.cv_typing_runs.proofs.Terms.{asked_sort, faultless}
use Rattle.cv_scene.specs.Refusals.{uses}
use Rattle.cv_context.specs.indices.Indices.{binds_new_index, indices_are_new, indices_use_none, reads_name}

nil_unused : (x : ℕ) (a : Tree) → is_phrase Nil a ≡ true → uses x a ≡ 0
unfolding is_phrase uses
nil_unused x Empty e = refl
nil_unused x (Node h a b) e = absurd (both_ways false refl e)

pub leaf_unused : (x : ℕ) (σ : Phrase) (y : ℕ) (a b : Tree) → is_phrase σ (Node (Leaf y) a b) ≡ true → uses x a + uses x b ≡ 0
unfolding is_phrase
leaf_unused x Term y a b e = let q = and_parts (is_phrase Nil a) _ e in let f = nil_unused x a q.0 in let g = nil_unused x b q.1 in omega arith
leaf_unused x OneCell y a b e = let q = and_parts (is_phrase Nil a) _ e in let f = nil_unused x a q.0 in let g = nil_unused x b q.1 in omega arith
leaf_unused x σ y a b e = absurd (both_ways false refl e)

read_parts : (σ : Phrase) (y : ℕ) (a b : Tree) → is_phrase σ (Node (Read y) a b) ≡ true → is_phrase Terms a ≡ true
unfolding is_phrase
read_parts Term y a b e = (and_parts (is_phrase Terms a) _ e).0
read_parts OneCell y a b e = (and_parts (is_phrase Terms a) _ e).0
read_parts σ y a b e = absurd (both_ways false refl e)

-- what is asked in a process, and in no body of an equivalence

abbrev Stays : Want → Type 0
Stays (Run (InBody r)) = ⊥
Stays (Branches (InBody r)) = ⊥
Stays (Guarded (InBody r)) = ⊥
Stays (Tested (InBody r)) = ⊥
Stays w = Unit {0}

abbrev BothStay : Want × Want → Type 0
BothStay ws = Stays ws.0 × Stays ws.1

in_process : (w : Want) → Stays w → is_in_body w ≡ false
in_process (Run InProcess) s = refl
in_process (Run (InBody r)) s = absurd s
in_process (Branches InProcess) s = refl
in_process (Branches (InBody r)) s = absurd s
in_process w s = refl

run_stays : (ds : List Declaration) (h : Head) → BothStay (run_wants ds InProcess h)
run_stays ds Par = (tt, tt)
run_stays ds (Repl i n) = (tt, tt)
run_stays ds (In c) = (tt, tt)
run_stays ds (Out c) = (tt, tt)
run_stays ds (Event v) = (tt, tt)
run_stays ds (New x T) = (tt, tt)
run_stays ds (Let x T) = (tt, tt)
run_stays ds If = (tt, tt)
run_stays ds (Find l) = (tt, tt)
run_stays ds Cons = (tt, tt)
run_stays ds h = (tt, tt)

branch_stays : (h : Head) → BothStay (branch_wants InProcess h)
branch_stays Cons = (tt, tt)
branch_stays Branch = (tt, tt)
branch_stays h = (tt, tt)

query_stays : (h : Head) → BothStay (query_wants h)
query_stays Query = (tt, tt)
query_stays h = (tt, tt)

atom_stays : (ds : List Declaration) (h : Head) → BothStay (atom_wants ds h)
atom_stays ds Cons = (tt, tt)
atom_stays ds (Occurs v) = (tt, tt)
atom_stays ds (OccursOnce v) = (tt, tt)
atom_stays ds h = (tt, tt)

list_stays : (h : Head) (ws : Want × Want) → BothStay ws → BothStay (on_list h ws)
list_stays Cons ws s = s
list_stays h ws s = (tt, tt)

place_stays : (ds : List Declaration) (w : Want) (h : Head) → Stays w → BothStay (place_wants ds w h)
place_stays ds (Run InProcess) h s = run_stays ds h
place_stays ds (Run (InBody r)) h s = absurd s
place_stays ds (Branches InProcess) h s = branch_stays h
place_stays ds (Branches (InBody r)) h s = absurd s
place_stays ds Correspondence h s = query_stays h
place_stays ds Atoms h s = atom_stays ds h
place_stays ds (Guarded InProcess) h s = list_stays h (list_wants (Guarded InProcess)) (tt, tt)
place_stays ds (Guarded (InBody r)) h s = absurd s
place_stays ds (Tested InProcess) h s = list_stays h (list_wants (Tested InProcess)) (tt, tt)
place_stays ds (Tested (InBody r)) h s = absurd s
place_stays ds (Messages []) h s = list_stays h (list_wants (Messages [])) (tt, tt)
place_stays ds (Messages (T ∷ Ts)) h s = list_stays h (list_wants (Messages (T ∷ Ts))) (tt, tt)
place_stays ds (Indices []) h s = list_stays h (list_wants (Indices [])) (tt, tt)
place_stays ds (Indices (n ∷ ns)) h s = list_stays h (list_wants (Indices (n ∷ ns))) (tt, tt)
place_stays ds w h s = list_stays h (list_wants w) (tt, tt)

pub variable_there : (game : Tree) (x T : ℕ) → variable_sort (OfGame (sites_of game)) x ≡ Some (OfType T) → is_variable game x ≡ true
variable_there game x T value = or_left (is_some (first_site x [] game)) _ (go (first_site x [] game) value)
  where
    go : (o : Option Variable) → option_map (λ (v : Variable). v.sort) o ≡ Some (OfType T) → is_some o ≡ true
    go None f = absurd (cc)
    go (Some v) f = refl

module _ (ds : List Declaration) (game : Tree) (x T : ℕ) (value : variable_sort (OfGame (sites_of game)) x ≡ Some (OfType T)) where
  abbrev e : Signature
  e = record { declarations = ds; arrays = OfGame (sites_of game) }

  abbrev F : ℕ → Option Variable
  F y = first_site y [] game

  is_there : is_variable game x ≡ true
  is_there = variable_there game x T value

  -- index terms

  no_value : (above : Above) (n U : ℕ) (t : Tree) → IsTyped e above (Of (BelowParameter n)) t → sort_of e above t ≡ Some (OfType U) → ⊥
  no_value above n U t h f = both_ways true (asked_sort e above (Of (BelowParameter n)) t (OfType U) h f).0 refl

  leaf_value : (above : Above) → above x ≡ None → leaf_sort e above x ≡ Some (OfType T)
  leaf_value above o =
      let more : Option Sort = first_of (option_map (λ (f : Function). OfType f.result) (function_in ds x)) (option_map BelowParameter (first_index x game)) in
      ap (λ u. first_of u (first_of (variable_sort e.arrays x) more)) o ∙ ap (λ u. first_of u more) value

  -- a name's indices, where their list uses no variable if it is asked for indices
  read_free : (above : Above) (w : Want) (y : ℕ) (a b : Tree) → has_site game y ≡ true → IsTyped e above w (Node (Read y) a b) → ((ps : List ℕ) → (length ps == count a) ≡ true → IsTyped e above (Indices ps) a → uses x a ≡ 0) → uses x a ≡ 0
  unfolding IsObeyed
  read_free above w y a b known h free = go (F y) refl
    where
      go : (o : Option Variable) → F y ≡ o → uses x a ≡ 0
      go None i = absurd (both_ways false refl (sym (ap is_some i) ∙ known))
      go (Some v) i =
          let g = faultless e above w (Read y) a h.0 in
          let typed : IsTyped e above (Indices v.parameters) a = subst (λ o. IsTyped e above (asks_indices o) a) i h.1 in
          let long : (length v.parameters == count a) ≡ true = ap (λ (o : Option Variable). is_arity (option_map (λ (v : Variable). length v.parameters) o) (count a)) (sym i) ∙ g.arity in
          free v.parameters long typed

  mutual
    unfolding uses is_phrase are_known IsObeyed count

    index_free : (above : Above) (rs : List (ℕ × ℕ)) (n : ℕ) (t : Tree) → above x ≡ None → is_phrase Term t ≡ true → are_known ds (has_site game) rs t ≡ true → IsTyped e above (Of (BelowParameter n)) t → uses x t ≡ 0
    index_free above rs n (Node (Leaf y) a b) o p k h = go (y == x) refl
      where
        go : (c : Bool) → (y == x) ≡ c → cond c 1 0 + (uses x a + uses x b) ≡ 0
        go true i = absurd (no_value above n T (Node (Leaf y) a b) h (ap (leaf_sort e above) (eqb-true y x i) ∙ leaf_value above o))
        go false i = let q = and_parts (is_phrase Nil a) _ p in let f = nil_unused x a q.0 in let g = nil_unused x b q.1 in omega arith
    index_free above rs n (Node (Read y) a b) o p k h =
        let q = and_parts (is_phrase Terms a) _ p in
        let l = and_parts (has_site game y) _ k in
        go (y == x) refl (read_free above (Of (BelowParameter n)) y a b l.0 h (λ ps long typed. indices_free above rs ps a o q.0 (and_parts (are_known ds (has_site game) rs a) _ l.1).0 long typed)) (nil_unused x b q.1)
      where
        go : (c : Bool) → (y == x) ≡ c → uses x a ≡ 0 → uses x b ≡ 0 → cond c 1 0 + (uses x a + uses x b) ≡ 0
        go true i f g = absurd (no_value above n T (Node (Read y) a b) h (ap (variable_sort e.arrays) (eqb-true y x i) ∙ value))
        go false i f g = omega arith
    index_free above rs n (Node (Apply f) a b) o p k h = go (function_in ds f) refl (and_parts (is_some (function_in ds f)) _ k).0
      where
        go : (u : Option Function) → function_in ds f ≡ u → is_some (function_in ds f) ≡ true → uses x (Node (Apply f) a b) ≡ 0
        go None i l = absurd (both_ways false refl (sym (ap is_some i) ∙ l))
        go (Some fn) i l = absurd (no_value above n fn.result (Node (Apply f) a b) h (ap (option_map (λ (f : Function). OfType f.result)) i))
    index_free above rs n (Node Eq a b) o p k h = absurd (no_value above n 0 (Node Eq a b) h refl)
    index_free above rs n (Node And a b) o p k h = absurd (no_value above n 0 (Node And a b) h refl)
    index_free above rs n (Node Or a b) o p k h = absurd (no_value above n 0 (Node Or a b) h refl)
    index_free above rs n (Node Not a b) o p k h = absurd (no_value above n 0 (Node Not a b) h refl)
    index_free above rs n (Node Yes a b) o p k h = absurd (no_value above n 0 (Node Yes a b) h refl)
    index_free above rs n (Node No a b) o p k h = absurd (no_value above n 0 (Node No a b) h refl)
    index_free above rs n t o p k h = absurd (both_ways false refl p)

    indices_free : (above : Above) (rs : List (ℕ × ℕ)) (ps : List ℕ) (t : Tree) → above x ≡ None → is_phrase Terms t ≡ true → are_known ds (has_site game) rs t ≡ true → (length ps == count t) ≡ true → IsTyped e above (Indices ps) t → uses x t ≡ 0
    indices_free above rs ps Empty o p k l h = refl
    indices_free above rs [] (Node Cons a b) o p k l h = let f : 0 ≡ count b + 1 = eqb-true 0 (count b + 1) l in absurd (omega arith)
    indices_free above rs (n ∷ ns) (Node Cons a b) o p k l h =
        let q = and_parts (is_phrase Term a) _ p in
        let m = and_parts (are_known ds (has_site game) rs a) _ k in
        let long : suc (length ns) ≡ count b + 1 = eqb-true (length (n ∷ ns)) (count b + 1) l in
        let f = index_free above rs n a o q.0 m.0 h.1 in
        let g = indices_free above rs ns b o q.1 m.1 (eq-eqb (length ns) (count b) (omega arith)) h.2 in
        omega arith
    indices_free above rs ps t o p k l h = absurd (both_ways false refl p)

  -- each node of the game

  indices_stay : (o : Option Variable) → Stays (asks_indices o)
  indices_stay None = tt
  indices_stay (Some v) = tt

  arguments_stay : (o : Option Function) → Stays (wants_arguments o)
  arguments_stay None = tt
  arguments_stay (Some f) = tt

  like_stays : (o : Option Sort) → Stays (like o)
  like_stays None = tt
  like_stays (Some S) = tt

  next_stays : (above : Above) (w : Want) (h : Head) (a : Tree) → Stays w → BothStay (wants e above w h a)
  next_stays above w (Read y) a s = (indices_stay (F y), tt)
  next_stays above w (Apply f) a s = (arguments_stay (function_in ds f), tt)
  next_stays above w Eq a s = (tt, like_stays (sort_of e above a))
  next_stays above w And a s = (tt, tt)
  next_stays above w Or a s = (tt, tt)
  next_stays above w Not a s = (tt, tt)
  next_stays above w h a s = place_stays ds w h s

  unbound : (w : Want) (f above : Above) → Stays w → above x ≡ None → cond (is_in_body w) f above x ≡ None
  unbound w f above s o = ap (λ c. cond c f above x) (in_process w s) ∙ o

  above_kept : (above : Above) (rs : List (ℕ × ℕ)) (w : Want) (h : Head) (a : Tree) → Stays w → binds_new_index (is_variable game) rs h ≡ true → above x ≡ None → above_second w h a above x ≡ None
  above_kept above rs w (Repl j n) a s i o = go (j == x) refl
    where
      go : (c : Bool) → (j == x) ≡ c → cond c (first_of (above j) (Some (BelowParameter n))) (above x) ≡ None
      go true f = absurd (both_ways (is_variable game j) (not-true (is_variable game j) (and_parts (not (is_index rs j)) _ i).1) (ap (is_variable game) (eqb-true j x f) ∙ is_there))
      go false f = o
  above_kept above rs w (New y U) a s i o = unbound w _ above s o
  above_kept above rs w (Let y U) a s i o = unbound w _ above s o
  above_kept above rs w Branch a s i o = unbound w _ above s o
  above_kept above rs w h a s i o = o

  head_free : (σ : Phrase) (above : Above) (w : Want) (rs : List (ℕ × ℕ)) (h : Head) (a b : Tree) → is_phrase σ (Node h a b) ≡ true → is_known ds (has_site game) rs h ≡ true → are_known ds (has_site game) rs a ≡ true → above x ≡ None → IsTyped e above w (Node h a b) → (not (reads_name h) || (uses x a == 0)) ≡ true
  head_free σ above w rs (Leaf y) a b p k l o t = eq-eqb (uses x a) 0 (let f = leaf_unused x σ y a b p in omega arith)
  head_free σ above w rs (Read y) a b p k l o t = eq-eqb (uses x a) 0 (read_free above w y a b k t (λ ps long typed. indices_free above rs ps a o (read_parts σ y a b p) l long typed))
  head_free σ above w rs h a b p k l o t = refl

  all_free : (σ : Phrase) (above : Above) (w : Want) (rs : List (ℕ × ℕ)) (t : Tree) → is_phrase σ t ≡ true → are_known ds (has_site game) rs t ≡ true → indices_are_new (is_variable game) rs t ≡ true → above x ≡ None → Stays w → IsTyped e above w t → indices_use_none x t ≡ true
  unfolding are_known indices_are_new indices_use_none IsObeyed
  all_free σ above w rs Empty p k i o s t = refl
  all_free σ above w rs (Node h a b) p k i o s t =
      let q = phrase_open σ h a b p in
      let l = and_parts (is_known ds (has_site game) rs h) _ k in
      let m = and_parts (are_known ds (has_site game) rs a) _ l.1 in
      let j = and_parts (binds_new_index (is_variable game) rs h) _ i in
      let n = and_parts (indices_are_new (is_variable game) rs a) _ j.1 in
      let stay = next_stays above w h a s in
      and_from (not (reads_name h) || (uses x a == 0)) (indices_use_none x a && indices_use_none x b) (head_free σ above w rs h a b p l.0 m.0 o t)
      (and_from (indices_use_none x a) (indices_use_none x b)
      (all_free q.0.0 above (wants e above w h a).0 rs a q.2 m.0 n.0 o stay.0 t.1)
      (all_free q.0.1 (above_second w h a above) (wants e above w h a).1 (replications_below h rs) b q.3 m.1 n.1 (above_kept above rs w h a s j.0 o) stay.1 t.2))

  pub game_free : is_phrase Inputs game ≡ true → are_known ds (has_site game) [] game ≡ true → indices_are_new (is_variable game) [] game ≡ true → IsTyped e (λ y. None) (Run InProcess) game → indices_use_none x game ≡ true
  game_free p k i t = all_free Inputs (λ y. None) (Run InProcess) [] game p k i refl tt t
