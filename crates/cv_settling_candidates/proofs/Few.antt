-- The lines of a reason are few, in a game that is no deeper and no larger than a game may be.
use Rattle.std.proofs.Common.{◌≡◌, ℕ, ◌+◌, ◌*◌, ◌<◌, ◌≤◌, ◌^◌, ◌==◌, max, Bool, true, false, cond, List, [], ◌∷◌, ◌++◌, length, length-append, map, Option, Some, None, refl, sym, subst, arith, inl, inr}
use Rattle.std.specs.Prelude.{option_and_then}
use Rattle.std.specs.List.{AllByRecursion, list_any}
use Rattle.cv_syntax_trees.specs.declared.head.Head.{Head}
use Rattle.cv_syntax_trees.specs.declared.head.Head.TheVariants.{And, Leaf}
use Rattle.cv_syntax_trees.specs.Head.{weight}
use Rattle.cv_syntax_trees.specs.Tree.{Tree, Empty, Node, depth, first, same_tree, size}
use Rattle.cv_syntax_trees.proofs.lists.Options.{none_some, some_injective}
use Rattle.cv_syntax_trees.proofs.lists.Places.{length_map}
use Rattle.cv_scope_rules.specs.Above.{stands_at}
use Rattle.cv_scope_rules.specs.Behind.{sites_of}
use Rattle.cv_scope_rules.specs.Context.{Context, items}
use Rattle.cv_scope_rules.proofs.Decided.{among_found}
use Rattle.cv_scene.specs.Pruning.{Branch, Else, Part, Then}
use Rattle.cv_scene.specs.Scenes.{Scene}
use Rattle.cv_scene.specs.Sights.{Sight, at_cell, at_site, cells_by, facts_by, only_site, sight_at, site_facts, variable_of}
use Rattle.cv_scene.specs.Terms.{replications_by}
use Rattle.cv_scene.specs.lines.Truths.{no}
use Rattle.cv_step_writer.specs.Items.{number, over}
use Rattle.cv_syntax_trees.specs.declared.head.Head.TheVariants as head
use Rattle.cv_scene.specs.lines.Given.{given_for, or_node, term_for, with_given}
use Rattle.cv_settling_rules.specs.Lines.{Citation, IsCited, Left, Line, Right, Side, along, citation_lines}
use Rattle.cv_settling_rules.specs.Reasons.{Alone, AreEquated, Cell, ConjunctDenies, Equated, DeniesConjunct, IsReason, IsUnreached, Late, Unreached, Why, absurdity, all_equation_lines, by_fact, cited_facts, defined_line, equation_lines, equation, last_of_citation, last_of_equation, late_line, lines_by, equation_numbers, own_line, turned_lines}
use Rattle.cv_settling_candidates.proofs.Bounds.{IsBounded, place_bounded, site_bounded}
use Rattle.cv_settling_laws.proofs.Conjuncts.{citation_length}
use Rattle.cv_settling_laws.proofs.Derived.{from_one_all}
use Rattle.cv_settling_laws.proofs.Places.{replications_are}
use Rattle.cv_settling_laws.proofs.Reached.{among_all}

sides_deep : (sides : List Side) (t u : Tree) → along sides t ≡ Some u → length sides ≤ depth t
unfolding depth
sides_deep [] t u e = omega arith
sides_deep (Left ∷ sides) (Node And m n) u e = let l = sides_deep sides m u e in omega arith
sides_deep (Right ∷ sides) (Node And m n) u e = let l = sides_deep sides n u e in omega arith
sides_deep (side ∷ sides) t u e = absurd (none_some u e)

-- sides of facts that are no deeper than a number
few_sides : (n : ℕ) (facts : List Tree) (q : Citation) (m : Tree) → AllByRecursion (λ f. depth f ≤ n) facts → IsCited facts q m → length q.sides ≤ n
few_sides n facts q m h c =
    let l = sides_deep q.sides q.term m c.conjunct in
    let k = from_one_all (λ f. depth f ≤ n) facts q.fact q.term h c.fact in
    omega arith

-- with terms for names

term_deep : (is : List ℕ) (terms : Tree) (x : ℕ) (t : Tree) → term_for is terms x ≡ Some t → depth t ≤ depth terms
unfolding depth
term_deep [] terms x t e = absurd (none_some t e)
term_deep (i ∷ is) Empty x t e = absurd (none_some t e)
term_deep (i ∷ is) (Node h term more) x t e = go (i == x) (term_deep is more x t) e
  where
    go : (b : Bool) → (term_for is more x ≡ Some t → depth t ≤ depth more) → cond b (Some term) (term_for is more x) ≡ Some t → depth t ≤ weight h + max (depth term) (depth more)
    go true later e = let l : depth t ≤ depth term = subst (λ u. depth u ≤ depth term) (some_injective e) (omega arith) in omega arith
    go false later e = let l = later e in omega arith

given_deep : (is : List ℕ) (terms : Tree) (h : Head) (t : Tree) → given_for is terms h ≡ Some t → depth t ≤ depth terms
given_deep is terms (Leaf x) t e = term_deep is terms x t e
given_deep is terms h t e = absurd (none_some t e)

put_deep : (is : List ℕ) (terms t : Tree) → depth (with_given is terms t) ≤ depth t + depth terms
unfolding depth with_given
put_deep is terms Empty = omega arith
put_deep is terms (Node h a b) = go (given_for is terms h) (given_deep is terms h) (put_deep is terms a) (put_deep is terms b)
  where
    go : (o : Option Tree) → ((t : Tree) → o ≡ Some t → depth t ≤ depth terms) → depth (with_given is terms a) ≤ depth a + depth terms → depth (with_given is terms b) ≤ depth b + depth terms
        → depth (or_node o h (with_given is terms a) (with_given is terms b)) ≤ weight h + max (depth a) (depth b) + depth terms
    go None f l m = omega arith
    go (Some t) f l m = let k = f t refl in omega arith

-- what may be cited

record IsFewSight (S : Sight) : Type 0 where
  facts : AllByRecursion (λ f. depth f ≤ 203) S.facts
  cells : AllByRecursion (λ c. depth c ≤ 202) S.cells
  count : length S.facts ≤ 50000
  replications : length S.replications ≤ 200
  sites : (c : Tree) → depth c ≤ 202 → AllByRecursion (λ f. depth f ≤ 405) (site_facts S c)
  site_count : (c : Tree) → length (site_facts S c) ≤ 50000

module _ (s : Scene) (l : size s.game ≤ 50000) (d : depth s.game ≤ 200) where
  first_shallow : (c : Tree) → depth (first c) ≤ depth c
  unfolding depth
  first_shallow Empty = omega arith
  first_shallow (Node h a b) = omega arith

  facts_at : (c : Tree) → depth c ≤ 202 → (o : Option Context) → ((Γ : Context) → o ≡ Some Γ → IsBounded Γ) → AllByRecursion (λ f. depth f ≤ 405) (at_site (λ (Γ : Context). Γ.facts) c o)
  facts_at c k None f = tt
  facts_at c k (Some Γ) f =
      let b = f Γ refl in
      all Γ.facts b.shallow.facts
    where
      all : (ts : List Tree) → AllByRecursion (λ f. depth f ≤ 203) ts → AllByRecursion (λ f. depth f ≤ 405) (map (at_cell c Γ) ts)
      all [] h = tt
      all (t ∷ ts) h = (let i = put_deep (map (λ (r : ℕ × ℕ). r.0) Γ.replications) (first c) t in let j = first_shallow c in let g = h.0 in omega arith, all ts h.1)

  count_at : (c : Tree) (o : Option Context) → ((Γ : Context) → o ≡ Some Γ → IsBounded Γ) → length (at_site (λ (Γ : Context). Γ.facts) c o) ≤ 50000
  count_at c None f = omega arith
  count_at c (Some Γ) f = let b = f Γ refl in let m = b.count in let n = length_map (at_cell c Γ) Γ.facts in omega arith

  site_there : (c : Tree) (Γ : Context) → option_and_then (λ x. only_site (sites_of s.game x)) (variable_of c) ≡ Some Γ → IsBounded Γ
  site_there c Γ e = go (variable_of c) e
    where
      go : (o : Option ℕ) → option_and_then (λ x. only_site (sites_of s.game x)) o ≡ Some Γ → IsBounded Γ
      go None f = absurd (none_some Γ f)
      go (Some x) f = site_bounded s.game l d x Γ f

  facts_few : (o : Option Context) → ((Γ : Context) → o ≡ Some Γ → IsBounded Γ) → AllByRecursion (λ f. depth f ≤ 203) (facts_by o) × (length (facts_by o) ≤ 50000)
  facts_few None f = (tt, omega arith)
  facts_few (Some Γ) f = let b = f Γ refl in (b.shallow.facts, b.count)

  cells_few : (o : Option Context) → ((Γ : Context) → o ≡ Some Γ → IsBounded Γ) → AllByRecursion (λ c. depth c ≤ 202) (cells_by o)
  cells_few None f = tt
  cells_few (Some Γ) f = let b = f Γ refl in b.shallow.cells

  indices_few : (o : Option Context) → ((Γ : Context) → o ≡ Some Γ → IsBounded Γ) → length (replications_by o) ≤ 200
  indices_few None f = omega arith
  indices_few (Some Γ) f = let b = f Γ refl in let r = b.shallow.replications in omega arith

  few_sight : (p : ℕ) → IsFewSight (sight_at s p)
  few_sight p =
      let f = facts_few (stands_at s.game p) (place_bounded s.game l d p) in
      record {
        facts = f.0;
        cells = cells_few (stands_at s.game p) (place_bounded s.game l d p);
        count = f.1;
        replications = subst (λ rs. length rs ≤ 200) (sym (replications_are s p)) (indices_few (stands_at s.game p) (place_bounded s.game l d p));
        sites = λ c k. facts_at c k (option_and_then (λ x. only_site (sites_of s.game x)) (variable_of c)) (site_there c);
        site_count = λ c. count_at c (option_and_then (λ x. only_site (sites_of s.game x)) (variable_of c)) (site_there c);
      }

-- lines

turned_few : (b : Bool) (l : ℕ) (m i : Tree) → length (turned_lines b l m i) ≤ 1
turned_few true l m i = omega arith
turned_few false l m i = omega arith

module _ (S : Sight) (k : IsFewSight S) where
  one_few : (n : ℕ) (e : Equated) (m : Tree) → IsCited S.facts e.citation m → length (equation_lines n e) ≤ 205
  one_few n e m c =
      let a = length-append (citation_lines n (by_fact e.citation) e.citation) (turned_lines e.is_turned (last_of_citation n e.citation) e.term e.index) in
      let b = citation_length n (by_fact e.citation) e.citation in
      let g = turned_few e.is_turned (last_of_citation n e.citation) e.term e.index in
      let f = few_sides 203 S.facts e.citation m k.facts c in
      omega arith

  all_few : (n : ℕ) (rs : List (ℕ × ℕ)) (ms : List Tree) (es : List Equated) → AreEquated S.facts rs ms es → length (all_equation_lines n es) ≤ 205 * length rs
  all_few n rs [] es e = subst (λ ds. length (all_equation_lines n ds) ≤ 205 * length rs) (sym e) (omega arith)
  all_few n [] (m ∷ ms) es e = absurd e
  all_few n (r ∷ rs) (m ∷ ms) es (inl (e, f)) = let j = all_few n rs ms es f in omega arith
  all_few n (r ∷ rs) (m ∷ ms) es (inr (e, d, later, i, q, f)) =
      subst (λ ds. length (all_equation_lines n ds) ≤ 205 * length (r ∷ rs)) (sym i)
      (let j = all_few (last_of_equation n d + 1) rs ms later f in
      let g = one_few n d (equation d.is_turned d.term d.index) q.conjunct in
      let a = length-append (equation_lines n d) (all_equation_lines (last_of_equation n d + 1) later) in
      omega arith)

  cell_deep : (c : Tree) → list_any (same_tree c) S.cells ≡ true → depth c ≤ 202
  cell_deep c e = among_all (λ c. depth c ≤ 202) c S.cells (among_found c S.cells e) k.cells

  few_lines_citing : (n : ℕ) (q : Citation) (r : Tree) (ls : List Line) (m : ℕ) → length q.sides ≤ m → length (citation_lines n r q ++ ls) ≤ m + 1 + length ls
  few_lines_citing n q r ls m l = let a = length-append (citation_lines n r q) ls in let b = citation_length n r q in omega arith

  few_lines : (part : Part) (c : Tree) (n : ℕ) (why : Why) → IsReason S part c n why → length (lines_by part c n why) < 2 ^ 32
  few_lines Else c n Alone r = omega arith
  few_lines Then c n Alone r = omega arith
  few_lines (Branch i) c n Alone r = omega arith
  few_lines part c n (DeniesConjunct q) (e, m, f, a) = let z = few_lines_citing 1 q (by_fact q) (own_line part c n ∷ absurdity (last_of_citation 1 q) (last_of_citation 1 q + 1) ∷ []) 203 (few_sides 203 S.facts q m k.facts f) in omega arith
  few_lines part c n (ConjunctDenies q) (e, f) = let z = few_lines_citing 1 q (by_fact q) (own_line part c n ∷ absurdity (last_of_citation 1 q + 1) (last_of_citation 1 q) ∷ []) 203 (few_sides 203 S.facts q _ k.facts f) in omega arith
  few_lines part c n (Cell cell q) (e, f) =
      let by : Tree = over head.BySite (number 1 ∷ number q.fact ∷ []) in
      let z = citation_length 2 by q in
      let y = few_sides 405 (site_facts S cell) q no (k.sites cell (cell_deep cell e)) f in
      omega arith
  few_lines part c n (Late cell es) (e, f, g) =
      let lines : List Line = all_equation_lines 1 es in
      let z = length-append lines (defined_line cell ∷ late_line (1 + length lines) (equation_numbers 1 es) ∷ []) in
      let y = all_few 1 S.replications (items (first cell)) es g in
      let x = k.replications in
      omega arith

  few_cited : (why : Why) → length (cited_facts S why) < 2 ^ 32
  few_cited Alone = let z = k.count in omega arith
  few_cited (DeniesConjunct q) = let z = k.count in omega arith
  few_cited (ConjunctDenies q) = let z = k.count in omega arith
  few_cited (Cell cell q) = let z = k.site_count cell in omega arith
  few_cited (Late cell es) = let z = k.count in omega arith

pub reason_is_short : (s : Scene) → size s.game ≤ 50000 → depth s.game ≤ 200 → (p : ℕ) (u : Unreached) → IsReason (sight_at s p) u.part u.condition u.fact u.why → IsUnreached (sight_at s p) u
reason_is_short s l d p u r =
    let k = few_sight s l d p in
    record { reason = r; facts = few_cited (sight_at s p) k u.why; lines = few_lines (sight_at s p) k u.part u.condition u.fact u.why r }
