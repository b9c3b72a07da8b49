-- A game in which a branch has another list is the game in other words, where both lists say the same at each visited `find`.
use Rattle.std.proofs.Common.{◌≡◌, ℕ, suc, Bool, true, false, cond, max, List, [], ◌∷◌, ◌++◌, flat_map, refl, ap}
use Rattle.std.proofs.lemmas.Bool.{both_ways, and_parts}
use Rattle.cv_syntax_trees.specs.declared.head.Head.TheVariants.{Branch, Cons, Find, Par}
use Rattle.cv_syntax_trees.specs.Tree.{Tree, Node, first_place, second_place}
use Rattle.cv_meaning.specs.Binders.{bound_to, fits}
use Rattle.cv_meaning.specs.Candidates.{are_assigned, candidate, candidates, candidates_at, most_indices, tuples_up_to, widest}
use Rattle.cv_meaning.specs.Interpretation.{Setting}
use Rattle.cv_meaning.specs.Memory.{Indices, Local, Store, tuple}
use Rattle.cv_meaning.specs.Serving.{Visit}
use Rattle.cv_meaning.specs.Still.{is_still}
use Rattle.cv_meaning.specs.Terms.{is_one, value}
use Rattle.cv_meaning_runs.specs.Replacement as runs
use Rattle.cv_meaning_runs.specs.Replacement.{Branches, IsReplaced, Part, Process}
use Rattle.cv_meaning_chances.specs.rewording.Rewording.{IsReworded, same, kept, in_parallel, in_list, in_find, in_branch}
use Rattle.cv_scope_rules.specs.Phrases as phrase
use Rattle.cv_scope_rules.specs.Phrases.{Arm, Cells, Phrase, Term, is_phrase}
use Rattle.cv_steps.proofs.Flat.{guarded_of, guards_of, open_phrase, terms_still}
use Rattle.cv_steps_laws.proofs.chances.Phrases.{find_parts}
use Rattle.cv_rule_codef.proofs.Around.{IsOneItem, this, later}

-- the trees have the same candidates in a store

record HaveSameCandidates (g : Setting) (at : Indices) (x : Store) (a c : Tree) : Type 0 where
  indices : most_indices a ≡ most_indices c
  bounds : (bound : ℕ → ℕ) → widest bound a ≡ widest bound c
  candidates : (u : List ℕ) (k : ℕ) → candidates_at g at x u k a ≡ candidates_at g at x u k c

same_candidates : (g : Setting) (at : Indices) (x : Store) (a c : Tree) → HaveSameCandidates g at x a c → candidates g at x a ≡ candidates g at x c
unfolding candidates
same_candidates g at x a c h = λ i. flat_map (λ u. h.candidates u 0 i) (tuples_up_to (h.indices i) (h.bounds g.interpretation.parameter_value i))

-- a list, a condition and a body in the grammar
record AreParts (cells c b : Tree) : Type 0 where
  list : is_still cells ≡ true
  condition : is_still c ≡ true
  body : is_phrase phrase.Body b ≡ true

parts_of : (us cells c b more : Tree) → is_phrase phrase.Branches (Node Cons (Node Branch us (Node Cons cells (Node Cons c b))) more) ≡ true → AreParts cells c b
unfolding is_phrase
parts_of us cells c b more w =
    let guarded = and_parts (is_phrase Term c) _ (guarded_of us cells (Node Cons c b) more w) in
    record { list = terms_still Cells cells refl (and_parts (is_phrase Cells cells) _ (guards_of us (Node Cons cells (Node Cons c b)) more w)).0; condition = terms_still Term c refl guarded.0; body = guarded.1 }

rest_of : (item more : Tree) → is_phrase phrase.Branches (Node Cons item more) ≡ true → is_phrase phrase.Branches more ≡ true
unfolding is_phrase
rest_of item more w = (and_parts (is_phrase Arm item) _ w).1

module _ (g : Setting) (V : Visit → Type 0) where
  -- where a process is another one at a place

  body_candidates : (old new : Tree) (place p : ℕ) (b c : Tree) → IsReplaced old new place Branches p b c → (at : Indices) (x : Store) → HaveSameCandidates g at x b c
  unfolding candidates_at
  body_candidates old new place p b c (runs.in_branch {binders = us} {defined = cells} {condition = m} {b = d} {c = e} {more = more} z) at x = record { indices = refl; bounds = λ bound. refl; candidates = λ u k. refl }
  body_candidates old new place p b c (runs.in_later_branch {a = item} {b = d} {c = e} z) at x =
      let r = body_candidates old new place _ d e z at x in
      record { indices = ap (max _) r.indices; bounds = λ bound. ap (max _) (r.bounds bound); candidates = λ u k. ap (λ cs. candidate g at x u k item ++ cs) (r.candidates u (suc k)) }

  -- a branch before the one that is changed
  later_arm : (p : ℕ) (item more rest : Tree) → is_phrase phrase.Branches (Node Cons item more) ≡ true → IsReworded g V Branches (second_place p Cons item) more rest → IsReworded g V Branches p (Node Cons item more) (Node Cons item rest)
  unfolding is_phrase
  later_arm p (Node Branch us (Node Cons cells (Node Cons m d))) more rest w k = let q = parts_of us cells m d more w in in_branch q.list q.condition q.list q.condition same k
  later_arm p (Node Branch us (Node Cons cells t)) more rest w k = absurd (both_ways false refl (guarded_of us cells t more w))
  later_arm p (Node Branch us t) more rest w k = absurd (both_ways false refl (guards_of us t more w))
  later_arm p item more rest w k = absurd (both_ways false refl (and_parts (is_phrase Arm item) (is_phrase phrase.Branches more) w).0)

  abbrev IsIn : Part → Tree → Type 0
  IsIn Process b = (σ : Phrase) × (is_phrase σ b ≡ true)
  IsIn Branches b = is_phrase phrase.Branches b ≡ true

  module _ (old new : Tree) (place : ℕ) (there : IsReworded g V Process place old new) where
    reworded_at : (part : Part) (p : ℕ) (b c : Tree) → IsReplaced old new place part p b c → IsIn part b → IsReworded g V part p b c
    reworded_at part p b c runs.here w = there
    reworded_at part p b c (runs.in_continuation {h = h} {a = a} {b = d} {c = e} z) w = let o = open_phrase w.0 h a d w.1 in kept (reworded_at Process _ d e z (o.0.1, o.3))
    reworded_at part p b c (runs.in_parallel {a = a} {b = d} {c = e} z) w = let o = open_phrase w.0 Par a d w.1 in in_parallel (reworded_at Process _ a e z (o.0.0, o.2)) same
    reworded_at part p b c (runs.in_list {a = a} {b = d} {c = e} z) w = let o = open_phrase w.0 Cons a d w.1 in in_list (reworded_at Process _ a e z (o.0.0, o.2)) same
    reworded_at part p b c (runs.in_find {l = l} {a = a} {b = d} {c = e} z) w =
        in_find (λ s v. same_candidates g s.indices s.memory.store a e (body_candidates old new place _ a e z s.indices s.memory.store)) (reworded_at Branches _ a e z (find_parts w.0 l a d w.1).branches) same
    reworded_at part p b c (runs.in_branch {binders = us} {defined = cells} {condition = m} {b = d} {c = e} {more = more} z) w =
        let k = parts_of us cells m d more w in
        in_branch k.list k.condition k.list k.condition (reworded_at Process _ d e z (phrase.Body, k.body)) same
    reworded_at part p b c (runs.in_later_branch {a = item} {b = d} {c = e} z) w = later_arm p item d e w (reworded_at Branches _ d e z (rest_of item d w))

  -- where a branch has another list
  module _ (us cells list m d : Tree) where
    abbrev old_arm : Tree
    old_arm = Node Branch us (Node Cons cells (Node Cons m d))

    abbrev new_arm : Tree
    new_arm = Node Branch us (Node Cons list (Node Cons m d))

    one_candidate : (at : Indices) (x : Store) (u : List ℕ) (k : ℕ) → ((n : Store) → are_assigned g at x n cells ≡ are_assigned g at x n list) → candidate g at x u k old_arm ≡ candidate g at x u k new_arm
    one_candidate at x u k e =
        let n : Store = bound_to x (tuple at) us u in
        ap (λ (v : Bool). elim (fits g.interpretation.parameter_value us u) [ true ↦ cond (elim v [ true ↦ is_one (value g at n m) | false ↦ false ]) (record { branch = k; tuple = u } ∷ []) [] | false ↦ [] ]) (e n)

    arm_candidates : (at : Indices) (x : Store) → ((n : Store) → are_assigned g at x n cells ≡ are_assigned g at x n list) → (b c : Tree) → IsOneItem old_arm new_arm b c → HaveSameCandidates g at x b c
    unfolding candidates_at
    arm_candidates at x e b c (this {more = more}) = record { indices = refl; bounds = λ bound. refl; candidates = λ u k. ap (λ cs. cs ++ candidates_at g at x u (suc k) more) (one_candidate at x u k e) }
    arm_candidates at x e b c (later {item = item} {more = more} {rest = rest} z) =
        let r = arm_candidates at x e more rest z in
        record { indices = ap (max _) r.indices; bounds = λ bound. ap (max _) (r.bounds bound); candidates = λ u k. ap (λ cs. candidate g at x u k item ++ cs) (r.candidates u (suc k)) }

    arms : is_still list ≡ true → (p : ℕ) (b c : Tree) → is_phrase phrase.Branches b ≡ true → IsOneItem old_arm new_arm b c → IsReworded g V Branches p b c
    arms l p b c w (this {more = more}) = let k = parts_of us cells m d more w in in_branch k.list k.condition l k.condition same same
    arms l p b c w (later {item = item} {more = more} {rest = rest} z) = later_arm p item more rest w (arms l (second_place p Cons item) more rest (rest_of item more w) z)

    -- the `find`
    pub find_reworded : (l p : ℕ) (b c otherwise : Tree) → is_still list ≡ true → is_phrase phrase.Branches b ≡ true → IsOneItem old_arm new_arm b c
        → ((s : Local) → V (record { place = p; tree = Node (Find l) b otherwise; before = s }) → (n : Store) → are_assigned g s.indices s.memory.store n cells ≡ are_assigned g s.indices s.memory.store n list)
        → IsReworded g V Process p (Node (Find l) b otherwise) (Node (Find l) c otherwise)
    find_reworded l p b c otherwise still w z e = in_find (λ s v. same_candidates g s.indices s.memory.store b c (arm_candidates s.indices s.memory.store (e s v) b c z)) (arms still (first_place p (Find l)) b c w z) same

pub game_reworded : (g : Setting) (V : Visit → Type 0) (old new : Tree) (place : ℕ) → IsReworded g V Process place old new → (game next : Tree) → is_phrase phrase.Inputs game ≡ true → IsReplaced old new place Process 0 game next → IsReworded g V Process 0 game next
game_reworded g V old new place there game next w z = reworded_at g V old new place there Process 0 game next z (phrase.Inputs, w)
