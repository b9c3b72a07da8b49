-- The derivations for bodies that aren't reached are right.
use Rattle.std.proofs.Common.{◌≡◌, ℕ, ◌+◌, ◌<◌, ◌^◌, Bool, true, false, cond, ◌&&◌, List, [], ◌∷◌, ◌++◌, length, length-append, append-nil, map, Some, None, refl, sym, ap, subst, ◌∙◌, arith, inl, inr}
use Rattle.std.specs.List.{AllByRecursion, list_any}
use Rattle.std.proofs.lemmas.Bool.{and_from, or_left}
use Rattle.cv_syntax_trees.specs.declared.head.Head.TheVariants as head
use Rattle.cv_syntax_trees.specs.declared.head.Head.TheVariants.{Eq, Not}
use Rattle.cv_syntax_trees.specs.Tree.{Tree, Empty, Node, chain, first, same_tree}
use Rattle.cv_syntax_trees.proofs.Equality.{same_tree_self}
use Rattle.cv_syntax.specs.faults.Walk.{IsObeyed}
use Rattle.cv_step_writer.specs.Items.{number, numbers, over}
use Rattle.cv_scope_rules.specs.Context.{items}
use Rattle.cv_scope_rules.specs.Phrases.{Term, is_phrase}
use Rattle.cv_scope_rules.specs.Rules.{IsAmong}
use Rattle.cv_scope_rules.proofs.Decided.{among_found}
use Rattle.cv_scene.specs.Derivations.{Derives, nothing_visible, with_line}
use Rattle.cv_scene.specs.Late.{are_current, index_term, is_alone, is_late_cell, is_late_one, is_next, without_next}
use Rattle.cv_scene.specs.Pruning.{Branch, Else, Part, Then}
use Rattle.cv_scene.specs.Reasons.{is_reason, is_right, is_tree}
use Rattle.cv_scene.specs.Sights.{Sight, from_one, is_typed, site_facts, variable_of}
use Rattle.cv_scene.specs.Terms.{is_there}
use Rattle.cv_scene.specs.lines.Inferences.{Visible, cited_term, is_symmetric}
use Rattle.cv_scene.specs.lines.Lines.{Holds, IsDefined, Statement}
use Rattle.cv_scene.specs.lines.Targets.{falsity}
use Rattle.cv_scene.specs.lines.Truths.{no, yes}
use Rattle.cv_settling_rules.specs.Lines.{Citation, IsCited, Line, citation_lines, derivation}
use Rattle.cv_settling_rules.specs.Reasons.{Alone, AreEquated, Cell, ConjunctDenies, Equated, DeniesConjunct, IsAbsurd, IsReason, IsUnreached, Late, Unreached, Why, absurdity, all_equation_lines, by_fact, cited_facts, defined_line, derivation_of, equation_lines, equation, last_of_citation, last_of_equation, last_of_turned, late_line, late_lines, lines_alone, lines_by, equation_numbers, own_fact, own_line, turned_lines}
use Rattle.cv_settling_laws.proofs.Cells.{IsCell, cell_under}
use Rattle.cv_settling_laws.proofs.Conjuncts.{IsTrueTerm, Says, cites, citation_end, citation_length, contradiction, fact_reason, false_term, is_line}
use Rattle.cv_settling_laws.proofs.Derived.{AreRight, IsOpen, cites_cell, cites_term, derives, end_append, from_one_all, number_is, number_is_small, open_line, open_lines, open_nothing, right_append, said_above, said_before, said_here, seen_behind, seen_append}
use Rattle.cv_settling_laws.proofs.Terms.{turned_round}

-- what is typed there, and what stands at the only site of a cell
pub record IsTypedSight (s : Sight) : Type 0 where
  pub facts : AllByRecursion (IsTrueTerm s) s.facts
  pub cells : AllByRecursion (IsCell s.scene s.replications) s.cells
  pub sites : (c : Tree) → IsCell s.scene s.replications c → AllByRecursion (IsTrueTerm s) (site_facts s c)
  pub alone : s.pair ≡ None

pub among_all : (P : Tree → Type 0) (t : Tree) (cs : List Tree) → IsAmong t cs → AllByRecursion P cs → P t
among_all P t [] m h = absurd m
among_all P t (c ∷ cs) (inl e) h = subst P (sym e) h.0
among_all P t (c ∷ cs) (inr m) h = among_all P t cs m h.1

module _ (s : Sight) (k : IsTypedSight s) where
  there : (c : Tree) → list_any (same_tree c) s.cells ≡ true → IsCell s.scene s.replications c
  there c e = among_all (IsCell s.scene s.replications) c s.cells (among_found c s.cells e) k.cells

  defined_right : (v : Visible) (c : Tree) → list_any (same_tree c) s.cells ≡ true → is_right s Empty v (IsDefined c) (over head.ByHere []) ≡ true
  defined_right v c e = and_from (is_typed s (IsDefined c)) _ (cell_under s.scene s.replications c (there c e)) e

  own_right : (v : Visible) (part : Part) (c : Tree) (n : ℕ) → length s.facts < 2 ^ 32 → from_one s.facts n ≡ Some (own_fact part c) → is_right s Empty v (Holds (own_fact part c)) (over head.ByFact (number n ∷ [])) ≡ true
  own_right v part c n l e = is_line s v (own_fact part c) (over head.ByFact (number n ∷ [])) (from_one_all (IsTrueTerm s) s.facts n (own_fact part c) k.facts e) (fact_reason s v n (own_fact part c) l e)

  -- by the own fact alone

  true_right : (v : Visible) → is_right s Empty v (Holds yes) (over head.ByBool []) ≡ true
  unfolding is_phrase is_there IsObeyed
  true_right v = is_line s v yes (over head.ByBool []) (record { phrase = refl; there = refl; typed = (refl, tt, tt) }) (or_left (same_tree yes yes) _ (same_tree_self yes))

  alone : (part : Part) (c : Tree) (n : ℕ) → length s.facts < 2 ^ 32 → from_one s.facts n ≡ Some (own_fact part c) → IsAbsurd part c → Derives s (derivation (lines_by part c n Alone)) falsity
  unfolding is_phrase
  alone Else c n l e a =
      let v : Visible = with_line nothing_visible 1 (Holds c) in
      let w : Visible = with_line v 2 (Holds (Node Not c Empty)) in
      let first : v 1 ≡ Some (Holds c) = said_here nothing_visible 1 (Holds c) (open_nothing 1) in
      let second : w 2 ≡ Some (Holds (Node Not c Empty)) = said_here v 2 (Holds (Node Not c Empty)) (open_line nothing_visible 1 (Holds c) (open_nothing 1)) in
      derives s no (lines_alone Else c n) (
        subst (λ m. is_right s Empty nothing_visible (Holds m) (over head.ByBool []) ≡ true) (sym a) (true_right nothing_visible),
        (own_right v Else c n l e, (contradiction s w 1 2 c (omega arith) (omega arith) (ap (is_phrase Term) a) (said_before v 2 1 (Holds (Node Not c Empty)) (Holds c) first) second, tt)),
      ) refl
  alone Then c n l e a = derives s no (own_line Then c n ∷ []) (own_right nothing_visible Then c n l e, tt) (ap Holds a)
  alone (Branch i) c n l e a = derives s no (own_line (Branch i) c n ∷ []) (own_right nothing_visible (Branch i) c n l e, tt) (ap Holds a)

  -- by a conjunct that denies it

  few_lines_citing : (q : Citation) (x y : Line) → length (citation_lines 1 (by_fact q) q ++ x ∷ y ∷ []) < 2 ^ 32 → last_of_citation 1 q + 1 < 2 ^ 32
  few_lines_citing q x y l =
      let e = length-append (citation_lines 1 (by_fact q) q) (x ∷ y ∷ []) in
      let f = citation_length 1 (by_fact q) q in
      omega arith

  opposition_derives : (part : Part) (c : Tree) (n : ℕ) (q : Citation) (m : Tree) (l i : ℕ) → length s.facts < 2 ^ 32 → last_of_citation 1 q + 1 < 2 ^ 32 → from_one s.facts n ≡ Some (own_fact part c) → IsCited s.facts q m
      → ((v : Visible) → v (last_of_citation 1 q) ≡ Some (Holds m) → v (last_of_citation 1 q + 1) ≡ Some (Holds (own_fact part c)) → IsTrueTerm s m → IsTrueTerm s (own_fact part c) → is_right s Empty v (Holds no) (over head.ByContra (number l ∷ number i ∷ [])) ≡ true)
      → Derives s (derivation (citation_lines 1 (by_fact q) q ++ own_line part c n ∷ absurdity l i ∷ [])) falsity
  opposition_derives part c n q m l i few d e f g =
      let own : Statement = Holds (own_fact part c) in
      let r = cites s nothing_visible 1 (by_fact q) q m (omega arith) (open_nothing 1) (from_one_all (IsTrueTerm s) s.facts q.fact q.term k.facts f.fact) (fact_reason s nothing_visible q.fact q.term few f.fact) f.conjunct in
      let w : Visible = seen_behind nothing_visible 1 (citation_lines 1 (by_fact q) q) in
      let z : ℕ = last_of_citation 1 q + 1 in
      let lines = right_append s nothing_visible 1 z (citation_lines 1 (by_fact q) q) (own_line part c n ∷ absurdity l i ∷ []) r.next r.right (
        own_right w part c n few e,
        (g (with_line w z own) (said_before w z (last_of_citation 1 q) own (Holds m) r.said) (said_here w z own (open_lines nothing_visible 1 z (citation_lines 1 (by_fact q) q) r.next (open_nothing 1))) r.typed (from_one_all (IsTrueTerm s) s.facts n (own_fact part c) k.facts e), tt),
      ) in
      derives s no (citation_lines 1 (by_fact q) q ++ own_line part c n ∷ absurdity l i ∷ []) lines (end_append (citation_lines 1 (by_fact q) q) (own_line part c n) (absurdity l i ∷ []) (Holds no) refl)

  -- the derivation of each reason

  by_cell : (cell : Tree) (q : Citation) → length (site_facts s cell) < 2 ^ 32 → length (defined_line cell ∷ citation_lines 2 (over head.BySite (number 1 ∷ number q.fact ∷ [])) q) < 2 ^ 32 → list_any (same_tree cell) s.cells ≡ true → IsCited (site_facts s cell) q no
      → Derives s (derivation (defined_line cell ∷ citation_lines 2 (over head.BySite (number 1 ∷ number q.fact ∷ [])) q)) falsity
  by_cell cell q few lines e f =
      let v : Visible = with_line nothing_visible 1 (IsDefined cell) in
      let by : Tree = over head.BySite (number 1 ∷ number q.fact ∷ []) in
      let fact : is_reason s Empty v q.term by ≡ true =
      (λ i. is_tree (from_one (site_facts s (cites_cell v 1 cell (omega arith) (said_here nothing_visible 1 (IsDefined cell) (open_nothing 1)) i)) (number_is q.fact (number_is_small (site_facts s cell) q.fact q.term few f.fact) i)) q.term)
      ∙ (ap (λ o. is_tree o q.term) f.fact ∙ same_tree_self q.term) in
      let long : last_of_citation 2 q < 2 ^ 32 = let z = citation_length 2 by q in omega arith in
      let r = cites s v 2 by q no long (open_line nothing_visible 1 (IsDefined cell) (open_nothing 1)) (from_one_all (IsTrueTerm s) (site_facts s cell) q.fact q.term (k.sites cell (there cell e)) f.fact) fact f.conjunct in
      derives s no (defined_line cell ∷ citation_lines 2 by q) (defined_right nothing_visible cell e, r.right) (citation_end 2 by q no f.conjunct)

  -- by a cell that comes later

  equating_next : (b : Bool) (n : ℕ) (q : Citation) (m i : Tree) → n + length (citation_lines n (by_fact q) q ++ turned_lines b (last_of_citation n q) m i) ≡ last_of_turned b (last_of_citation n q) + 1
  equating_next true n q m i =
      let e = length-append (citation_lines n (by_fact q) q) (turned_lines true (last_of_citation n q) m i) in
      let f = citation_length n (by_fact q) q in
      omega arith
  equating_next false n q m i =
      let e = length-append (citation_lines n (by_fact q) q) [] in
      let f = citation_length n (by_fact q) q in
      omega arith

  one_equating : (b : Bool) (v : Visible) (n : ℕ) (q : Citation) (m i : Tree) → length s.facts < 2 ^ 32 → last_of_turned b (last_of_citation n q) < 2 ^ 32 → IsOpen v n → IsCited s.facts q (equation b m i) → Says s v n (citation_lines n (by_fact q) q ++ turned_lines b (last_of_citation n q) m i) (last_of_turned b (last_of_citation n q)) (Node Eq m i)
  one_equating false v n q m i few l o f =
      subst (λ ls. Says s v n ls (last_of_citation n q) (Node Eq m i)) (sym (append-nil (citation_lines n (by_fact q) q)))
      (cites s v n (by_fact q) q (Node Eq m i) l o (from_one_all (IsTrueTerm s) s.facts q.fact q.term k.facts f.fact) (fact_reason s v q.fact q.term few f.fact) f.conjunct)
  one_equating true v n q m i few l o f =
      let r = cites s v n (by_fact q) q (Node Eq i m) (omega arith) o (from_one_all (IsTrueTerm s) s.facts q.fact q.term k.facts f.fact) (fact_reason s v q.fact q.term few f.fact) f.conjunct in
      let w : Visible = seen_behind v n (citation_lines n (by_fact q) q) in
      let z : ℕ = last_of_citation n q in
      let typed = turned_round s.scene s.replications i m r.typed in
      let reason : is_reason s Empty w (Node Eq m i) (over head.BySym (number z ∷ [])) ≡ true =
      ap (λ c. is_symmetric c (Node Eq m i)) (cites_term w z (Node Eq i m) (omega arith) r.said) ∙ and_from (same_tree m m) (same_tree i i) (same_tree_self m) (same_tree_self i) in
      record {
        right = right_append s v n (z + 1) (citation_lines n (by_fact q) q) (turned_lines true z m i) r.next r.right (is_line s w (Node Eq m i) (over head.BySym (number z ∷ [])) typed reason, tt);
        next = equating_next true n q m i;
        said = ap (λ (u : Visible). u (z + 1)) (seen_append v n (z + 1) (citation_lines n (by_fact q) q) (turned_lines true z m i) r.next) ∙ said_here w (z + 1) (Holds (Node Eq m i)) (open_lines v n (z + 1) (citation_lines n (by_fact q) q) r.next o);
        typed = typed;
      }

  record AllSay (v : Visible) (n : ℕ) (rs : List (ℕ × ℕ)) (ms : List Tree) (es : List Equated) : Type 0 where
    right : AreRight s v n (all_equation_lines n es)
    current : (w : Visible) → ((l : ℕ) (u : Tree) → seen_behind v n (all_equation_lines n es) l ≡ Some (Holds u) → w l ≡ Some (Holds u)) → are_current w rs ms (map number (equation_numbers n es)) ≡ true

  all_say : (v : Visible) (n : ℕ) (rs : List (ℕ × ℕ)) (ms : List Tree) (es : List Equated) → length s.facts < 2 ^ 32 → IsOpen v n → AreEquated s.facts rs ms es → n + length (all_equation_lines n es) < 2 ^ 32 → AllSay v n rs ms es
  all_say v n rs [] es few o e l = subst (AllSay v n rs []) (sym e) (record { right = tt; current = λ w g. refl })
  all_say v n [] (m ∷ ms) es few o e l = absurd e
  all_say v n (r ∷ rs) (m ∷ ms) es few o (inl (e, f)) l =
      let a = all_say v n rs ms es few o f l in
      record { right = a.right; current = λ w g. ap (λ b. cond b (are_current w rs ms (map number (equation_numbers n es))) (is_next w (map number (equation_numbers n es)) (Node Eq m (index_term r)) && are_current w rs ms (without_next (map number (equation_numbers n es))))) e ∙ a.current w g }
  all_say v n (r ∷ rs) (m ∷ ms) es few o (inr (e, d, later, i, q, f)) l =
      subst (AllSay v n (r ∷ rs) (m ∷ ms)) (sym i)
      (let long : n + length (all_equation_lines n (d ∷ later)) < 2 ^ 32 = subst (λ ds. n + length (all_equation_lines n ds) < 2 ^ 32) i l in
      let z : ℕ = last_of_equation n d + 1 in
      let next = equating_next d.is_turned n d.citation d.term d.index in
      let sum = length-append (equation_lines n d) (all_equation_lines z later) in
      let one = one_equating d.is_turned v n d.citation d.term d.index few (omega arith) o q.conjunct in
      let x : Visible = seen_behind v n (equation_lines n d) in
      let a = all_say x z rs ms later few (open_lines v n z (equation_lines n d) next o) f (omega arith) in
      let both = seen_append v n z (equation_lines n d) (all_equation_lines z later) next in
      record {
        right = right_append s v n z (equation_lines n d) (all_equation_lines z later) next one.right a.right;
        current = λ w g.
            let said = g (last_of_equation n d) (Node Eq d.term d.index) (ap (λ (u : Visible). u (last_of_equation n d)) both ∙ said_above x z (last_of_equation n d) (all_equation_lines z later) (Holds (Node Eq d.term d.index)) one.said) in
            let cited : cited_term w (number (last_of_equation n d)) ≡ Node Eq m (index_term r) = cites_term w (last_of_equation n d) (Node Eq d.term d.index) (omega arith) said ∙ (λ j. Node Eq (q.term j) (q.index j)) in
            ap (λ b. cond b (are_current w rs ms (map number (equation_numbers n (d ∷ later)))) (is_next w (map number (equation_numbers n (d ∷ later))) (Node Eq m (index_term r)) && are_current w rs ms (map number (equation_numbers z later)))) e
            ∙ and_from (same_tree (cited_term w (number (last_of_equation n d))) (Node Eq m (index_term r))) _
            (ap (λ t. same_tree t (Node Eq m (index_term r))) cited ∙ same_tree_self (Node Eq m (index_term r)))
            (a.current w (λ j u y. g j u (ap (λ (b : Visible). b j) both ∙ y)));
      })

  items_chain : (ts : List Tree) → items (chain ts) ≡ ts
  items_chain [] = refl
  items_chain (t ∷ ts) = ap (λ us. t ∷ us) (items_chain ts)

  by_late : (cell : Tree) (es : List Equated) → length s.facts < 2 ^ 32 → length (late_lines cell es) < 2 ^ 32 → list_any (same_tree cell) s.cells ≡ true → is_late_one (variable_of cell) s.scene.game s.place ≡ true → AreEquated s.facts s.replications (items (first cell)) es
      → Derives s (derivation (late_lines cell es)) falsity
  by_late cell es few long e f g =
      let lines : List Line = all_equation_lines 1 es in
      let z : ℕ = 1 + length lines in
      let sum = length-append lines (defined_line cell ∷ late_line z (equation_numbers 1 es) ∷ []) in
      let short : z < 2 ^ 32 = omega arith in
      let a = all_say nothing_visible 1 s.replications (items (first cell)) es few (open_nothing 1) g short in
      let w : Visible = seen_behind nothing_visible 1 lines in
      let x : Visible = with_line w z (IsDefined cell) in
      let cited = cites_cell x z cell short (said_here w z (IsDefined cell) (open_lines nothing_visible 1 z lines refl (open_nothing 1))) in
      let current = a.current x (λ l u y. said_before w z l (IsDefined cell) (Holds u) y) in
      let late : is_late_cell s x cell (numbers (equation_numbers 1 es)) ≡ true =
      and_from (is_alone s.pair) _ (ap is_alone k.alone)
      (and_from (is_late_one (variable_of cell) s.scene.game s.place) _ f (ap (are_current x s.replications (items (first cell))) (items_chain (map number (equation_numbers 1 es))) ∙ current)) in
      derives s no (lines ++ defined_line cell ∷ late_line z (equation_numbers 1 es) ∷ [])
      (right_append s nothing_visible 1 z lines (defined_line cell ∷ late_line z (equation_numbers 1 es) ∷ []) refl a.right (
        defined_right w cell e,
        (is_line s x no (over head.ByLate (number z ∷ numbers (equation_numbers 1 es) ∷ [])) (false_term s) (and_from (same_tree no no) _ (same_tree_self no) (ap (λ d. is_late_cell s x d (numbers (equation_numbers 1 es))) cited ∙ late)), tt),
      ))
      (end_append lines (defined_line cell) (late_line z (equation_numbers 1 es) ∷ []) (Holds no) refl)

  lines_derive : (part : Part) (c : Tree) (n : ℕ) (why : Why) → IsReason s part c n why → length (cited_facts s why) < 2 ^ 32 → length (lines_by part c n why) < 2 ^ 32 → Derives s (derivation (lines_by part c n why)) falsity
  lines_derive part c n Alone (e, a) few lines = alone part c n few e a
  lines_derive part c n (DeniesConjunct q) (e, m, f, a) few lines =
      let l = few_lines_citing q (own_line part c n) (absurdity (last_of_citation 1 q) (last_of_citation 1 q + 1)) lines in
      opposition_derives part c n q m (last_of_citation 1 q) (last_of_citation 1 q + 1) few l e f (λ v x y i j. contradiction s v (last_of_citation 1 q) (last_of_citation 1 q + 1) m (omega arith) l i.phrase x (y ∙ ap (λ t. Some (Holds t)) a))
  lines_derive part c n (ConjunctDenies q) (e, f) few lines =
      let own : Tree = own_fact part c in
      let l = few_lines_citing q (own_line part c n) (absurdity (last_of_citation 1 q + 1) (last_of_citation 1 q)) lines in
      opposition_derives part c n q (Node Not own Empty) (last_of_citation 1 q + 1) (last_of_citation 1 q) few l e f (λ v x y i j. contradiction s v (last_of_citation 1 q + 1) (last_of_citation 1 q) own l (omega arith) j.phrase y x)
  lines_derive part c n (Cell cell q) (e, f) few lines = by_cell cell q few lines e f
  lines_derive part c n (Late cell es) (e, f, g) few lines = by_late cell es few lines e f g

  pub reason_derives : (u : Unreached) → IsUnreached s u → Derives s (derivation_of u) falsity
  reason_derives u k = lines_derive u.part u.condition u.fact u.why k.reason k.facts k.lines
