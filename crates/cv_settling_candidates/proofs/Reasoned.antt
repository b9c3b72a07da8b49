-- Bodies that are candidates for a `prune` have reasons.
use Rattle.std.proofs.Common.{◌≡◌, ℕ, suc, ◌+◌, ◌<◌, Bool, true, false, ◌||◌, List, [], ◌∷◌, ◌++◌, length, map, Option, Some, None, refl, sym, ap, subst, ◌∙◌, arith, inl, inr, zero-add, add-zero}
use Rattle.std.specs.Prelude.{◌⊎◌, ◌==◌, if◌then◌else◌, option_and_then, option_map}
use Rattle.std.specs.List.{AllByRecursion, list_any}
use Rattle.std.proofs.lemmas.Bool.{and_parts, both_ways, or_cases, or_left, or_right}
use Rattle.cv_syntax_trees.specs.declared.head.Head.{Head}
use Rattle.cv_syntax_trees.specs.declared.head.Head.TheVariants as head
use Rattle.cv_syntax_trees.specs.declared.head.Head.TheVariants.{Stop, Yield, Par, Repl, In, Out, Event, New, Let, If, Find, Leaf, Read, Apply, Eq, And, Or, Not, Yes, No, Cons, Binder, Name}
use Rattle.cv_syntax_trees.specs.Head.{weight}
use Rattle.cv_syntax_trees.specs.Tree.{Tree, Empty, Node, first, first_place, same_tree, second_place, size, subtree}
use Rattle.cv_syntax_trees.proofs.Equality.{same_tree_exact, same_tree_self}
use Rattle.cv_syntax_trees.proofs.lists.Each.{AllByRecursion_append, AllByRecursion_flat_map}
use Rattle.cv_syntax_trees.proofs.lists.Places.{slice_get_append_right}
use Rattle.cv_path.proofs.Going.{subtree_behind, subtree_here, subtree_within}
use Rattle.cv_scope_rules.specs.Above.{first_standing, second_standing, standing_at, stands_at, with_failed, with_held}
use Rattle.cv_scope_rules.specs.Behind.{in_body, in_condition, in_list, sites_of}
use Rattle.cv_scope_rules.specs.Context.{Context, first_position, items, nothing_known, second_position}
use Rattle.cv_scope_rules.specs.Phrases.{Phrase, Inputs, Body, Then, Branches, Arm, Guards, Cells, Term, is_phrase}
use Rattle.cv_scope_rules.specs.declared.position.Position.{Position}
use Rattle.cv_scope_rules.specs.declared.position.Position.TheVariants as position
use Rattle.cv_scope_runs.proofs.Rows.{position_of}
use Rattle.cv_typing_runs.proofs.SameSites.{phrase_open}
use Rattle.cv_derive_facts.proofs.Standings.{standing_behind, standing_here, standing_within}
use Rattle.cv_scene.specs.Late.{is_late_one}
use Rattle.cv_scene.specs.Pruning.{Branch, Else as ElsePart, Part, Pruned, Then as ThenPart, branch_body, find_of, pruned, without_branch}
use Rattle.cv_scene.specs.Scenes.{Scene, or_empty, part_at}
use Rattle.cv_scene.specs.Sights.{Sight, at_site, cells_by, facts_by, from_one, only_site, sight_at, variable_of}
use Rattle.cv_scene.specs.lines.Given.{with_given}
use Rattle.cv_scene.specs.lines.Truths.{no, yes}
use Rattle.cv_settling_rules.specs.Bodies.{are_opposed, body_place, branch_prunings, has_lost_cell, is_absurd, is_certain, is_late_in, is_never_defined, is_refuted, is_unreached, prunings, prunings_of}
use Rattle.cv_settling_rules.specs.Candidates.{Candidate, Prune, when}
use Rattle.cv_settling_rules.specs.Conjuncts.{conjuncts, is_among}
use Rattle.cv_settling_rules.specs.Spots.{Spot, parts_below, spots, spots_in}
use Rattle.cv_settling_rules.specs.Lines.{Citation, IsCited}
use Rattle.cv_settling_rules.specs.Reasons.{Alone, AreEquated, Cell, ConjunctDenies, DeniesConjunct, IsReason, Late, Why}
use Rattle.cv_settling_candidates.specs.Pruning.{HasReason}
use Rattle.cv_settling_candidates.proofs.Citing.{all_equated, cited, cited_given, cited_more}
use Rattle.cv_settling_candidates.proofs.Lists.{when_all}
use Rattle.cv_settling_laws.proofs.Parts.{positions}
use Rattle.cv_settling_laws.proofs.Places.{standing_replications}

-- reasons at a sight, one of whose facts is the own fact

record Reasoned (S : Sight) (part : Part) (c : Tree) : Type 0 where
  fact : ℕ
  why : Why
  reason : IsReason S part c fact why

last_fact : (ts : List Tree) (t : Tree) → from_one (ts ++ t ∷ []) (suc (length ts)) ≡ Some t
last_fact ts t = slice_get_append_right ts (t ∷ []) (length ts) 0 (let e : 0 + length ts ≡ length ts = omega arith in e)

own : (S : Sight) (ts : List Tree) (t : Tree) → S.facts ≡ ts ++ t ∷ [] → from_one S.facts (suc (length ts)) ≡ Some t
own S ts t e = ap (λ us. from_one us (suc (length ts))) e ∙ last_fact ts t

among_facts : (S : Sight) (ts : List Tree) (t : Tree) (q : Citation) (m : Tree) → S.facts ≡ ts ++ t ∷ [] → IsCited ts q m → IsCited S.facts q m
among_facts S ts t q m e c = subst (λ us. IsCited us q m) (sym e) (cited_more ts (t ∷ []) q m c)

refuted_reason : (S : Sight) (ts : List Tree) (c : Tree) → S.facts ≡ ts ++ c ∷ [] → is_refuted (conjuncts ts) c ≡ true → Reasoned S ThenPart c
refuted_reason S ts c e r = go (or_cases (same_tree c no) _ r)
  where
    opposed : (q : Citation) (m : Tree) → IsCited ts q m → (same_tree c (Node Not m Empty) ≡ true) ⊎ (same_tree m (Node Not c Empty) ≡ true) → Reasoned S ThenPart c
    opposed q m i (inl f) = record { fact = suc (length ts); why = DeniesConjunct q; reason = (own S ts c e, m, among_facts S ts c q m e i, same_tree_exact c (Node Not m Empty) f) }
    opposed q m i (inr f) = record { fact = suc (length ts); why = ConjunctDenies q; reason = (own S ts c e, subst (IsCited S.facts q) (same_tree_exact m (Node Not c Empty) f) (among_facts S ts c q m e i)) }

    go : (same_tree c no ≡ true) ⊎ (list_any (are_opposed c) (conjuncts ts) ≡ true) → Reasoned S ThenPart c
    go (inl f) = record { fact = suc (length ts); why = Alone; reason = (own S ts c e, same_tree_exact c no f) }
    go (inr f) = let k = cited (are_opposed c) ts f in opposed k.citation k.conjunct k.cited (or_cases (same_tree c (Node Not k.conjunct Empty)) _ k.passed)

certain_reason : (S : Sight) (ts : List Tree) (c : Tree) → S.facts ≡ ts ++ Node Not c Empty ∷ [] → is_certain (conjuncts ts) c ≡ true → Reasoned S ElsePart c
certain_reason S ts c e r = go (or_cases (same_tree c yes) _ r)
  where
    go : (same_tree c yes ≡ true) ⊎ (is_among (conjuncts ts) c ≡ true) → Reasoned S ElsePart c
    go (inl f) = record { fact = suc (length ts); why = Alone; reason = (own S ts (Node Not c Empty) e, same_tree_exact c yes f) }
    go (inr f) =
        let k = cited (same_tree c) ts f in
        record { fact = suc (length ts); why = DeniesConjunct k.citation; reason = (own S ts (Node Not c Empty) e, k.conjunct, among_facts S ts (Node Not c Empty) k.citation k.conjunct e k.cited, ap (λ m. Node Not m Empty) (same_tree_exact c k.conjunct k.passed)) }

-- one of the cells

record IsItem (passes : Tree → Bool) (cs : List Tree) : Type 0 where
  cell : Tree
  among : list_any (same_tree cell) cs ≡ true
  passed : passes cell ≡ true

item : (passes : Tree → Bool) (cs : List Tree) → list_any passes cs ≡ true → IsItem passes cs
item passes [] e = absurd (both_ways false refl e)
item passes (c ∷ cs) e = go (passes c) refl (item passes cs) e
  where
    go : (b : Bool) → passes c ≡ b → (list_any passes cs ≡ true → IsItem passes cs) → (b || list_any passes cs) ≡ true → IsItem passes (c ∷ cs)
    go true f later i = record { cell = c; among = or_left (same_tree c c) _ (same_tree_self c); passed = f }
    go false f later i = let r = later i in record { cell = r.cell; among = or_right (same_tree r.cell c) _ r.among; passed = r.passed }

any_left : (passes : Tree → Bool) (xs ys : List Tree) → list_any passes xs ≡ true → list_any passes (xs ++ ys) ≡ true
any_left passes [] ys e = absurd (both_ways false refl e)
any_left passes (x ∷ xs) ys e = go (passes x) (any_left passes xs ys) e
  where
    go : (b : Bool) → (list_any passes xs ≡ true → list_any passes (xs ++ ys) ≡ true) → (b || list_any passes xs) ≡ true → (b || list_any passes (xs ++ ys)) ≡ true
    go true later f = refl
    go false later f = later f

any_right : (passes : Tree → Bool) (xs ys : List Tree) → list_any passes ys ≡ true → list_any passes (xs ++ ys) ≡ true
any_right passes [] ys e = e
any_right passes (x ∷ xs) ys e = or_right (passes x) _ (any_right passes xs ys e)

given_no : (is : List ℕ) (terms : Tree) → with_given is terms no ≡ no
unfolding with_given
given_no is terms = refl

-- of a branch
module _ (s : Scene) (p k : ℕ) (Γ : Context) (cs c : Tree) (stands : stands_at s.game p ≡ Some Γ) (listed : (d : Tree) → list_any (same_tree d) (items cs) ≡ true → list_any (same_tree d) Γ.cells ≡ true) where
  abbrev S : Sight
  S = sight_at s p

  in_cells : (d : Tree) → list_any (same_tree d) (items cs) ≡ true → list_any (same_tree d) S.cells ≡ true
  in_cells d e = ap (λ o. list_any (same_tree d) (cells_by o)) stands ∙ listed d e

  never_reason : (d : Tree) → list_any (same_tree d) (items cs) ≡ true → is_never_defined s.game d ≡ true → Reasoned S (Branch k) c
  never_reason d i e = go (option_and_then (λ x. only_site (sites_of s.game x)) (variable_of d)) refl e
    where
      go : (o : Option Context) → option_and_then (λ x. only_site (sites_of s.game x)) (variable_of d) ≡ o → is_absurd o ≡ true → Reasoned S (Branch k) c
      go None f a = absurd (both_ways false refl a)
      go (Some Δ) f a =
          let q = cited (same_tree no) Δ.facts a in
          let names : List ℕ = map (λ (r : ℕ × ℕ). r.0) Δ.replications in
          let z = cited_given names (first d) Δ.facts q.citation q.conjunct q.cited in
          let same : with_given names (first d) q.conjunct ≡ no = ap (with_given names (first d)) (sym (same_tree_exact no q.conjunct q.passed)) ∙ given_no names (first d) in
          record {
            fact = 0;
            why = Cell d (record { fact = q.citation.fact; term = with_given names (first d) q.citation.term; sides = q.citation.sides });
            reason = (in_cells d i, subst (λ ts. IsCited ts (record { fact = q.citation.fact; term = with_given names (first d) q.citation.term; sides = q.citation.sides }) no) (sym (ap (at_site (λ (Θ : Context). Θ.facts) d) f)) (subst (IsCited (map (with_given names (first d)) Δ.facts) (record { fact = q.citation.fact; term = with_given names (first d) q.citation.term; sides = q.citation.sides })) same z));
          }

  late_reason : (d : Tree) → list_any (same_tree d) (items cs) ≡ true → is_late_in s.game p Γ d ≡ true → Reasoned S (Branch k) c
  late_reason d i e =
      let r = and_parts (is_late_one (variable_of d) s.game p) _ e in
      let es = all_equated Γ.facts Γ.replications (items (first d)) r.1 in
      record {
        fact = 0;
        why = Late d es.0;
        reason = (in_cells d i, r.0, subst (λ rs. AreEquated S.facts rs (items (first d)) es.0) (sym (standing_replications s p Γ stands)) (subst (λ ts. AreEquated ts Γ.replications (items (first d)) es.0) (sym (ap facts_by stands)) es.1));
      }

  branch_reason : (ts : List Tree) → Γ.facts ≡ ts ++ c ∷ [] → is_unreached s.game p Γ cs c ≡ true → Reasoned S (Branch k) c
  branch_reason ts e u = go (or_cases (same_tree c no) _ u)
    where
      lost : (list_any (is_never_defined s.game) (items cs) ≡ true) ⊎ (list_any (is_late_in s.game p Γ) (items cs) ≡ true) → Reasoned S (Branch k) c
      lost (inl f) = let d = item (is_never_defined s.game) (items cs) f in never_reason d.cell d.among d.passed
      lost (inr f) = let d = item (is_late_in s.game p Γ) (items cs) f in late_reason d.cell d.among d.passed

      go : (same_tree c no ≡ true) ⊎ (has_lost_cell s.game p Γ cs ≡ true) → Reasoned S (Branch k) c
      go (inl f) = record { fact = suc (length ts); why = Alone; reason = (own S ts c (ap facts_by stands ∙ e), same_tree_exact c no f) }
      go (inr f) = lost (or_cases (list_any (is_never_defined s.game) (items cs)) _ f)

-- places

-- a tree that stands at a place of the game
record StandsIn (s : Scene) (p : ℕ) (w : Position) (Γ : Context) (t : Tree) : Type 0 where
  tree : (q : ℕ) → q < size t → subtree s.game (p + q) ≡ subtree t q
  stands : (q : ℕ) → q < size t → stands_at s.game (p + q) ≡ standing_at w Γ t q

game_stands : (s : Scene) → StandsIn s 0 position.Anywhere nothing_known s.game
game_stands s = record { tree = λ q l. ap (subtree s.game) (zero-add q); stands = λ q l. ap (stands_at s.game) (zero-add q) }

first_stands : (s : Scene) (p : ℕ) (w : Position) (Γ : Context) (h : Head) (a b : Tree) → StandsIn s p w Γ (Node h a b) → StandsIn s (first_place p h) (first_position w h) (first_standing w h Γ) a
unfolding size
first_stands s p w Γ h a b k = record {
  tree = λ q l. ap (subtree s.game) (let n : p + weight h + q ≡ p + (weight h + q) = omega arith in n) ∙ (k.tree (weight h + q) (omega arith) ∙ subtree_within (Node h a b) h a b (weight h + q) q refl (refl, l));
  stands = λ q l. ap (stands_at s.game) (let n : p + weight h + q ≡ p + (weight h + q) = omega arith in n) ∙ (k.stands (weight h + q) (omega arith) ∙ standing_within w Γ (Node h a b) h a b (weight h + q) q refl (refl, l));
}

second_stands : (s : Scene) (p : ℕ) (w : Position) (Γ : Context) (h : Head) (a b : Tree) → StandsIn s p w Γ (Node h a b) → StandsIn s (second_place p h a) (second_position w h) (second_standing w h a Γ) b
unfolding size
second_stands s p w Γ h a b k = record {
  tree = λ q l. ap (subtree s.game) (let n : p + weight h + size a + q ≡ p + (weight h + size a + q) = omega arith in n) ∙ (k.tree (weight h + size a + q) (omega arith) ∙ subtree_behind (Node h a b) h a b (weight h + size a + q) q refl refl);
  stands = λ q l. ap (stands_at s.game) (let n : p + weight h + size a + q ≡ p + (weight h + size a + q) = omega arith in n) ∙ (k.stands (weight h + size a + q) (omega arith) ∙ standing_behind w Γ (Node h a b) h a b (weight h + size a + q) q refl refl);
}

here_stands : (s : Scene) (p : ℕ) (w : Position) (Γ : Context) (h : Head) (a b : Tree) → 0 < weight h → StandsIn s p w Γ (Node h a b) → stands_at s.game p ≡ Some Γ
unfolding size
here_stands s p w Γ h a b l k = ap (stands_at s.game) (sym (add-zero p)) ∙ (k.stands 0 (omega (arith, l)) ∙ standing_here w Γ (Node h a b) h a b 0 0 refl l)

here_tree : (s : Scene) (p : ℕ) (w : Position) (Γ : Context) (h : Head) (a b : Tree) → 0 < weight h → StandsIn s p w Γ (Node h a b) → part_at s.game p ≡ Node h a b
unfolding size
here_tree s p w Γ h a b l k = ap or_empty (ap (subtree s.game) (sym (add-zero p)) ∙ (k.tree 0 (omega (arith, l)) ∙ subtree_here (Node h a b) h a b 0 0 refl l))

-- an output process stands at its place
body_stands : (s : Scene) (p : ℕ) (w : Position) (Γ : Context) (t : Tree) → is_phrase Body t ≡ true → StandsIn s p w Γ t → stands_at s.game p ≡ Some Γ
unfolding is_phrase
body_stands s p w Γ Empty e k = absurd (both_ways false refl e)
body_stands s p w Γ (Node Yield a b) e k = here_stands s p w Γ Yield a b (omega arith) k
body_stands s p w Γ (Node (Out c) a b) e k = here_stands s p w Γ (Out c) a b (omega arith) k
body_stands s p w Γ (Node (New x T) a b) e k = here_stands s p w Γ (New x T) a b (omega arith) k
body_stands s p w Γ (Node (Let x T) a b) e k = here_stands s p w Γ (Let x T) a b (omega arith) k
body_stands s p w Γ (Node (Event v) a b) e k = here_stands s p w Γ (Event v) a b (omega arith) k
body_stands s p w Γ (Node If a b) e k = here_stands s p w Γ If a b (omega arith) k
body_stands s p w Γ (Node (Find l) a b) e k = here_stands s p w Γ (Find l) a b (omega arith) k
body_stands s p w Γ (Node h a b) e k = absurd (both_ways false refl e)

-- constructs

held_facts : (Γ : Context) (c : Tree) → is_phrase Term c ≡ true → (with_held Γ c).facts ≡ Γ.facts ++ c ∷ []
unfolding is_phrase
held_facts Γ Empty e = absurd (both_ways false refl e)
held_facts Γ (Node h a b) e = refl

failed_facts : (Γ : Context) (c : Tree) → is_phrase Term c ≡ true → (with_failed Γ c).facts ≡ Γ.facts ++ Node Not c Empty ∷ []
unfolding is_phrase
failed_facts Γ Empty e = absurd (both_ways false refl e)
failed_facts Γ (Node h a b) e = refl

held_cells : (Γ : Context) (c : Tree) → (with_held Γ c).cells ≡ Γ.cells
held_cells Γ Empty = refl
held_cells Γ (Node h a b) = refl

module _ (s : Scene) where
  abbrev HaveReasons : List Candidate → Type 0
  HaveReasons cs = AllByRecursion (HasReason s) cs

  if_reasons : (Γ : Context) (p : ℕ) (c t e n : Tree) → is_phrase Body (Node If c (Node Cons t (Node Cons e n))) ≡ true → StandsIn s p position.Anywhere Γ (Node If c (Node Cons t (Node Cons e n))) → HaveReasons (prunings_of s.game Γ p (Node If c (Node Cons t (Node Cons e n))))
  unfolding is_phrase
  if_reasons Γ p c t e n f k =
      let x = and_parts (is_phrase Term c) _ f in
      let y = and_parts (is_phrase Body t) _ x.1 in
      let z = and_parts (is_phrase Body e) _ y.1 in
      let Δ : Context = second_standing position.Anywhere If c Γ in
      let list : ℕ = second_place p If c in
      let one = second_stands s p position.Anywhere Γ If c (Node Cons t (Node Cons e n)) k in
      let two = first_stands s list position.Bodies Δ Cons t (Node Cons e n) one in
      let three = second_stands s list position.Bodies Δ Cons t (Node Cons e n) one in
      let four = first_stands s (second_place list Cons t) position.ElseBody Δ Cons e n three in
      let there = here_tree s p position.Anywhere Γ If c (Node Cons t (Node Cons e n)) (omega arith) k in
      AllByRecursion_append (HasReason s) (when (is_refuted (conjuncts Γ.facts) c) (Prune p ThenPart)) (when (is_certain (conjuncts Γ.facts) c) (Prune p ElsePart))
      (when_all (HasReason s) (is_refuted (conjuncts Γ.facts) c) (Prune p ThenPart)
      (λ r. let body : ℕ = first_place list Cons in
      let q = refuted_reason (sight_at s body) Γ.facts c (ap facts_by (body_stands s body position.Anywhere (with_held Δ c) t y.0 two) ∙ held_facts Δ c x.0) r in
      (record { body = body; left = e }, ap (λ u. pruned p u ThenPart) there, c, q.fact, q.why, q.reason)))
      (when_all (HasReason s) (is_certain (conjuncts Γ.facts) c) (Prune p ElsePart)
      (λ r. let body : ℕ = first_place (second_place list Cons t) Cons in
      let q = certain_reason (sight_at s body) Γ.facts c (ap facts_by (body_stands s body position.Anywhere (with_failed Δ c) e z.0 four) ∙ failed_facts Δ c x.0) r in
      (record { body = body; left = t }, ap (λ u. pruned p u ElsePart) there, c, q.fact, q.why, q.reason)))

  -- the branches of a `find`, of which the first ones have been looked at
  find_reasons : (f l : ℕ) (all e : Tree) → part_at s.game f ≡ Node (Find l) all e → (Γ : Context) (p k : ℕ) (t : Tree) → is_phrase Branches t ≡ true → StandsIn s p position.Branches Γ t → ((i : ℕ) → branch_body (first_place f (Find l)) all (suc (k + i)) ≡ branch_body p t (suc i))
      → HaveReasons (branch_prunings s.game Γ f p (suc k) t)
  unfolding is_phrase
  find_reasons f l all e there Γ p k Empty g i h = tt
  find_reasons f l all e there Γ p k (Node Cons (Node head.Branch us (Node Cons cs (Node Cons c body))) more) g i h =
      let rest : Tree = Node Cons cs (Node Cons c body) in
      let x = and_parts (is_phrase Arm (Node head.Branch us rest)) (is_phrase Branches more) g in
      let y = and_parts (is_phrase Cells cs) _ (and_parts _ (is_phrase Guards rest) x.0).1 in
      let z = and_parts (is_phrase Term c) (is_phrase Body body) y.1 in
      let arm : ℕ = first_place p Cons in
      let place : ℕ = second_place arm head.Branch us in
      let one = first_stands s p position.Branches Γ Cons (Node head.Branch us rest) more i in
      let two = second_stands s arm position.Anywhere Γ head.Branch us rest one in
      let three = second_stands s place position.Guards (in_list Γ us) Cons cs (Node Cons c body) two in
      let four = second_stands s (second_place place Cons cs) position.Guarded (in_condition Γ us cs) Cons c body three in
      let at : ℕ = body_place arm us rest in
      let same : second_place (second_place place Cons cs) Cons c ≡ at = omega arith in
      let stands : stands_at s.game at ≡ Some (in_body Γ us cs c) = subst (λ q. stands_at s.game q ≡ Some (in_body Γ us cs c)) same (body_stands s (second_place (second_place place Cons cs) Cons c) position.Anywhere (in_body Γ us cs c) body z.1 four) in
      let facts = held_facts (record (in_condition Γ us cs) { cells = (in_condition Γ us cs).cells ++ (in_condition Γ us cs).own; own = [] }) c z.0 in
      let cells = held_cells (record (in_condition Γ us cs) { cells = (in_condition Γ us cs).cells ++ (in_condition Γ us cs).own; own = [] }) c in
      let zero_more : k + 0 ≡ k = omega arith in
      AllByRecursion_append (HasReason s) (when (is_unreached s.game at (in_body Γ us cs c) cs c) (Prune f (Branch (suc k)))) _
      (when_all (HasReason s) (is_unreached s.game at (in_body Γ us cs c) cs c) (Prune f (Branch (suc k)))
      (λ r. let q = branch_reason s at (suc k) (in_body Γ us cs c) cs c stands
      (λ d m. ap (list_any (same_tree d)) cells ∙ any_left (same_tree d) (in_condition Γ us cs).cells (in_condition Γ us cs).own (any_right (same_tree d) Γ.cells (items cs) m)) Γ.facts facts r in (
        record { body = at; left = find_of l (without_branch all (suc k)) e },
        ap (λ u. pruned f u (Branch (suc k))) there ∙ ap (option_map (λ b. let gone : Pruned = record { body = b; left = find_of l (without_branch all (suc k)) e } in gone)) (subst (λ j. branch_body (first_place f (Find l)) all (suc j) ≡ Some at) zero_more (h 0)),
        c,
        q.fact,
        q.why,
        q.reason,
      )))
      (find_reasons f l all e there Γ (second_place p Cons (Node head.Branch us rest)) (suc k) more x.1 (second_stands s p position.Branches Γ Cons (Node head.Branch us rest) more i)
      (λ j. ap (branch_body (first_place f (Find l)) all) (let z : suc (suc k + j) ≡ suc (k + suc j) = omega arith in z) ∙ h (suc j)))
  find_reasons f l all e there Γ p k (Node Cons (Node head.Branch us (Node Cons cs Empty)) more) g i h = absurd (both_ways false refl (and_parts (is_phrase Cells cs) false (and_parts _ _ (and_parts (is_phrase Arm (Node head.Branch us (Node Cons cs Empty))) _ g).0).1).1)
  find_reasons f l all e there Γ p k (Node Cons (Node head.Branch us (Node Cons cs (Node x c body))) more) g i h = absurd (both_ways false refl (and_parts (is_phrase Cells cs) false (and_parts _ _ (and_parts (is_phrase Arm (Node head.Branch us (Node Cons cs (Node x c body)))) _ g).0).1).1)
  find_reasons f l all e there Γ p k (Node Cons (Node head.Branch us Empty) more) g i h = absurd (both_ways false refl (and_parts _ false (and_parts (is_phrase Arm (Node head.Branch us Empty)) _ g).0).1)
  find_reasons f l all e there Γ p k (Node Cons (Node head.Branch us (Node x cs rest)) more) g i h = absurd (both_ways false refl (and_parts _ false (and_parts (is_phrase Arm (Node head.Branch us (Node x cs rest))) _ g).0).1)
  find_reasons f l all e there Γ p k t g i h = absurd (both_ways false refl g)

  if_body : (σ : Phrase) (a b : Tree) → is_phrase σ (Node If a b) ≡ true → σ ≡ Body
  unfolding is_phrase
  if_body Body a b e = refl
  if_body σ a b e = absurd (both_ways false refl e)

  find_body : (σ : Phrase) (l : ℕ) (a b : Tree) → is_phrase σ (Node (Find l) a b) ≡ true → σ ≡ Body
  unfolding is_phrase
  find_body Body l a b e = refl
  find_body σ l a b e = absurd (both_ways false refl e)

  then_phrase : (σ : Phrase) (a b : Tree) → is_phrase σ (Node If a b) ≡ true → is_phrase Then b ≡ true
  unfolding is_phrase
  then_phrase Body a b e = (and_parts (is_phrase Term a) (is_phrase Then b) e).1
  then_phrase σ a b e = absurd (both_ways false refl e)

  -- at a node
  node_reasons : (σ : Phrase) (Γ : Context) (p : ℕ) (h : Head) (a b : Tree) → is_phrase σ (Node h a b) ≡ true → StandsIn s p (position_of σ) Γ (Node h a b) → HaveReasons (prunings_of s.game Γ p (Node h a b))
  unfolding is_phrase
  node_reasons σ Γ p If c (Node Cons t (Node Cons e n)) f k =
      let i = if_body σ c (Node Cons t (Node Cons e n)) f in
      if_reasons Γ p c t e n (subst (λ τ. is_phrase τ (Node If c (Node Cons t (Node Cons e n))) ≡ true) i f) (subst (λ τ. StandsIn s p (position_of τ) Γ (Node If c (Node Cons t (Node Cons e n)))) i k)
  node_reasons σ Γ p If c Empty f k = absurd (both_ways false refl (then_phrase σ c Empty f))
  node_reasons σ Γ p If c (Node Cons t Empty) f k = absurd (both_ways false refl (and_parts (is_phrase Body t) false (then_phrase σ c (Node Cons t Empty) f)).1)
  node_reasons σ Γ p If c (Node Cons t (Node h e n)) f k = absurd (both_ways false refl (and_parts (is_phrase Body t) false (then_phrase σ c (Node Cons t (Node h e n)) f)).1)
  node_reasons σ Γ p If c (Node h t e) f k = absurd (both_ways false refl (then_phrase σ c (Node h t e) f))
  node_reasons σ Γ p (Find l) branches e f k =
      let i = find_body σ l branches e f in
      let there = subst (λ τ. StandsIn s p (position_of τ) Γ (Node (Find l) branches e)) i k in
      let x = and_parts (is_phrase Branches branches) (is_phrase Body e) (subst (λ τ. is_phrase τ (Node (Find l) branches e) ≡ true) i f) in
      find_reasons p l branches e (here_tree s p position.Anywhere Γ (Find l) branches e (omega arith) there) Γ (first_place p (Find l)) 0 branches x.0 (first_stands s p position.Anywhere Γ (Find l) branches e there)
      (λ j. ap (branch_body (first_place p (Find l)) branches) (let z : suc (0 + j) ≡ suc j = omega arith in z))
  node_reasons σ Γ p h a b f k = tt

  -- at the nodes of a tree

  abbrev HaveReasonsAt : Spot → Type 0
  HaveReasonsAt v = HaveReasons (prunings_of s.game v.above v.place v.tree)

  spot_reasons : (σ τ : Phrase) (Γ : Context) (p : ℕ) (t : Tree) → is_phrase σ t ≡ true → StandsIn s p (position_of σ) Γ t → AllByRecursion HaveReasonsAt (spots_in τ (position_of σ) Γ p t)
  unfolding spots_in
  spot_reasons σ τ Γ p Empty f k = tt
  spot_reasons σ τ Γ p (Node h a b) f k =
      let o = phrase_open σ h a b f in
      let z = positions σ h o.0 o.1 in
      AllByRecursion_append HaveReasonsAt (if weight h == 1 then record { place = p; phrase = τ; above = Γ; tree = Node h a b } ∷ [] else []) _
      (here (weight h == 1) (node_reasons σ Γ p h a b f k))
      (AllByRecursion_append HaveReasonsAt (spots_in (parts_below τ h).0 (first_position (position_of σ) h) (first_standing (position_of σ) h Γ) (first_place p h) a) _
      (subst (λ w. AllByRecursion HaveReasonsAt (spots_in (parts_below τ h).0 w (first_standing (position_of σ) h Γ) (first_place p h) a)) (sym z.0)
      (spot_reasons o.0.0 (parts_below τ h).0 (first_standing (position_of σ) h Γ) (first_place p h) a o.2 (subst (λ w. StandsIn s (first_place p h) w (first_standing (position_of σ) h Γ) a) z.0 (first_stands s p (position_of σ) Γ h a b k))))
      (subst (λ w. AllByRecursion HaveReasonsAt (spots_in (parts_below τ h).1 w (second_standing (position_of σ) h a Γ) (second_place p h a) b)) (sym z.1)
      (spot_reasons o.0.1 (parts_below τ h).1 (second_standing (position_of σ) h a Γ) (second_place p h a) b o.3 (subst (λ w. StandsIn s (second_place p h a) w (second_standing (position_of σ) h a Γ) b) z.1 (second_stands s p (position_of σ) Γ h a b k)))))
    where
      here : (c : Bool) → HaveReasons (prunings_of s.game Γ p (Node h a b)) → AllByRecursion HaveReasonsAt (if c then record { place = p; phrase = τ; above = Γ; tree = Node h a b } ∷ [] else [])
      here true r = (r, tt)
      here false r = tt

  pub prunings_reasoned : is_phrase Inputs s.game ≡ true → HaveReasons (prunings s.game)
  prunings_reasoned f = AllByRecursion_flat_map HaveReasonsAt (HasReason s) (λ (v : Spot). prunings_of s.game v.above v.place v.tree) (λ v r. r) (spots s.game) (spot_reasons Inputs Inputs nothing_known 0 s.game f (game_stands s))
